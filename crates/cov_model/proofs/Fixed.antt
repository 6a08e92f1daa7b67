-- A model that is its own kinds: its DEFINEs stand in order of dependence, it has no fault, and it is settled.
use Rattle.std.proofs.Common.{◌≡◌, ℕ, zero, suc, ◌+◌, ◌<◌, Bool, true, false, ◌||◌, IsTrue, List, [], ◌∷◌, ◌++◌, map, length, get_or, Option, Some, None, Ok, Err, refl, sym, ap, subst, ◌∙◌, arith, zero-add}
use Rattle.std.specs.Prelude.{slice_get, Result}
use Rattle.std.specs.List.{flat_map}
use Rattle.std.specs.Option.{option_map_or}
use Rattle.cov_syntax.specs.declared.tree.Span.{Span}
use Rattle.cov_syntax.specs.declared.fault.ModelFault.{ModelFault}
use Rattle.cov_syntax.specs.declared.tree.Op1.{Op1}
use Rattle.cov_syntax.specs.declared.tree.Op2.{Op2}
use Rattle.cov_syntax.specs.declared.tree.Op2.TheVariants as op2
use Rattle.cov_syntax.specs.declared.tree.Expr.{Expr, roll-Expr}
use Rattle.cov_syntax.specs.declared.tree.Branch.{Branch, roll-Branch}
use Rattle.cov_syntax.specs.declared.tree.Node.{Node, roll-Node}
use Rattle.cov_syntax.specs.declared.tree.Node.TheVariants as n
use Rattle.cov_syntax.specs.declared.tree.Node.TheOpen.{Node-F, Branch-F, Expr-F}
use Rattle.cov_syntax.specs.declared.tree.Node.TheFolds.{ind-Expr, map-Node, fold-Node, fold-Branch, fold-roll-Node, fold-roll-Branch, fold-roll-Expr}
use Rattle.cov_model.specs.declared.model.Define.{Define}
use Rattle.cov_model.specs.declared.model.Assign.{Assign}
use Rattle.cov_model.specs.declared.model.Model.{Model}
use Rattle.cov_model.specs.Kinds.{Kind, Kinds, is_boolean, own_of_two, joined_kind}
use Rattle.cov_model.specs.Walk as walk
use Rattle.cov_model.specs.Walk.{Judged, put, judged, asks_truth, asked_of_one, asked_of_two, branch_of, case_own}
use Rattle.cov_model.specs.Order.{place_in, renumbered, renumbered_layer, with_body, with_assigned, in_order, ordered, dependence, reads_of}
use Rattle.cov_model.specs.Settled.{known, settled_defines, settled, settled_assign, settled_model, kinds_of, asked_by}
use Rattle.cov_model.specs.Accepted.{unless_fault, kinds, kinds_fault}
use Rattle.cov_model.specs.WellFormed.{IsWellFormed}
use Rattle.cov_model.proofs.Tied.{Layer, injected}
use Rattle.cov_model.proofs.Closed.{judged_branch, judged_layer, judged_step}
use Rattle.cov_model.proofs.InOrder.{names, IsItsOrder, its_order, different_defines}

abbrev Same : Layer → Layer → Type 0
Same k l = k ≡ l

module _ (order : List ℕ) where
  abbrev ren : Expr → Expr
  ren = renumbered order

  abbrev ren_node : Node → Node
  ren_node = fold-Node Node Branch Expr (renumbered_layer order) (λ b. roll-Branch (record { guard = b.guard; body = b.body })) (λ e. roll-Expr (record { node = e.node; place = e.place }))

  abbrev ren_branch : Branch → Branch
  ren_branch = fold-Branch Node Branch Expr (renumbered_layer order) (λ b. roll-Branch (record { guard = b.guard; body = b.body })) (λ e. roll-Expr (record { node = e.node; place = e.place }))

  -- a layer with its DEFINE and its parts renumbered
  abbrev ren_layer : Layer → Layer
  ren_layer (Node-F.Lit x) = Node-F.Lit x
  ren_layer (Node-F.Path p) = Node-F.Path p
  ren_layer (Node-F.Var i) = Node-F.Var i
  ren_layer (Node-F.Def i) = Node-F.Def (place_in order i)
  ren_layer (Node-F.One op a) = Node-F.One op (ren a)
  ren_layer (Node-F.Two op a b) = Node-F.Two op (ren a) (ren b)
  ren_layer (Node-F.Range low high) = Node-F.Range low high
  ren_layer (Node-F.Set es) = Node-F.Set (map ren es)
  ren_layer (Node-F.Case bs) = Node-F.Case (map ren_branch bs)

  rolls : (l : Layer) → renumbered_layer order (map-Node Node Branch Expr Node Branch Expr ren_node ren_branch ren l) ≡ roll-Node (ren_layer l)
  rolls (Node-F.Lit x) = sym (n.rolls-Lit x)
  rolls (Node-F.Path p) = sym (n.rolls-Path p)
  rolls (Node-F.Var i) = sym (n.rolls-Var i)
  rolls (Node-F.Def i) = sym (n.rolls-Def (place_in order i))
  rolls (Node-F.One op a) = sym (n.rolls-One op (ren a))
  rolls (Node-F.Two op a b) = sym (n.rolls-Two op (ren a) (ren b))
  rolls (Node-F.Range low high) = sym (n.rolls-Range low high)
  rolls (Node-F.Set es) = sym (n.rolls-Set (map ren es))
  rolls (Node-F.Case bs) = sym (n.rolls-Case (map ren_branch bs))

  ren_step : (place : Span) (l : Layer) → ren (put place (roll-Node l)) ≡ put place (roll-Node (ren_layer l))
  ren_step place l =
      fold-roll-Expr Node Branch Expr (renumbered_layer order) (λ b. roll-Branch (record { guard = b.guard; body = b.body })) (λ e. roll-Expr (record { node = e.node; place = e.place })) (record { node = roll-Node l; place = place })
      ∙ ap (put place) (fold-roll-Node Node Branch Expr (renumbered_layer order) (λ b. roll-Branch (record { guard = b.guard; body = b.body })) (λ e. roll-Expr (record { node = e.node; place = e.place })) l ∙ rolls l)

  ren_at : (b : Branch) → ren_branch b ≡ branch_of (ren b.guard) (ren b.body)
  ren_at b = fold-roll-Branch Node Branch Expr (renumbered_layer order) (λ b. roll-Branch (record { guard = b.guard; body = b.body })) (λ e. roll-Expr (record { node = e.node; place = e.place })) (record { guard = b.guard; body = b.body })

  judged_at : (ks : Kinds) (b : Branch) → judged_branch ks b ≡ (judged ks b.guard, judged ks b.body)
  judged_at ks b = fold-roll-Branch (Span → Judged) (Judged × Judged) Judged (walk.of_node ks) (λ c. (c.guard, c.body)) (λ e. e.node e.place) (record { guard = b.guard; body = b.body })

  abbrev settled_arm : Bool → Judged × Judged → Branch
  settled_arm t b = branch_of (b.0.settled true) (b.1.settled t)

  -- what is renumbered and settled to itself is renumbered to itself
  abbrev R : Expr → Type 0
  R e = (ks : Kinds) (b : Bool) → (judged ks (ren e)).settled b ≡ e → ren e ≡ e

  abbrev P : Node → Type 0
  P m = (place : Span) → R (put place m)

  abbrev Q : Branch → Type 0
  Q b = (ks : Kinds) (t : Bool) → settled_arm t (judged_branch ks (ren_branch b)) ≡ b → ren_branch b ≡ b

  abbrev Proved : Type 0
  Proved = Node-F ((m : Node) × P m) ((b : Branch) × Q b) ((e : Expr) × R e)

  abbrev bare : Proved → Layer
  bare y = map-Node ((m : Node) × P m) ((b : Branch) × Q b) ((e : Expr) × R e) Node Branch Expr (λ e. e.0) (λ e. e.0) (λ e. e.0) y

  items : (ks : Kinds) (t : Bool) (es : List ((e : Expr) × R e))
      → map (λ (j : Judged). j.settled t) (map (judged ks) (map ren (map (λ (x : (e : Expr) × R e). x.0) es))) ≡ map (λ (x : (e : Expr) × R e). x.0) es
      → map ren (map (λ (x : (e : Expr) × R e). x.0) es) ≡ map (λ (x : (e : Expr) × R e). x.0) es
  items ks t [] s = refl
  items ks t (e ∷ es) s =
      let h : (judged ks (ren e.0)).settled t ≡ e.0 = cc in
      let k : map (λ (j : Judged). j.settled t) (map (judged ks) (map ren (map (λ (x : (e : Expr) × R e). x.0) es))) ≡ map (λ (x : (e : Expr) × R e). x.0) es = cc in
      ap (λ (f : Expr). f ∷ map ren (map (λ (x : (e : Expr) × R e). x.0) es)) (e.1 ks t h) ∙ ap (λ (fs : List Expr). e.0 ∷ fs) (items ks t es k)

  arms : (ks : Kinds) (t : Bool) (bs : List ((b : Branch) × Q b))
      → map (settled_arm t) (map (judged_branch ks) (map ren_branch (map (λ (x : (b : Branch) × Q b). x.0) bs))) ≡ map (λ (x : (b : Branch) × Q b). x.0) bs
      → map ren_branch (map (λ (x : (b : Branch) × Q b). x.0) bs) ≡ map (λ (x : (b : Branch) × Q b). x.0) bs
  arms ks t [] s = refl
  arms ks t (b ∷ bs) s =
      let h : settled_arm t (judged_branch ks (ren_branch b.0)) ≡ b.0 = cc in
      let k : map (settled_arm t) (map (judged_branch ks) (map ren_branch (map (λ (x : (b : Branch) × Q b). x.0) bs))) ≡ map (λ (x : (b : Branch) × Q b). x.0) bs = cc in
      ap (λ (c : Branch). c ∷ map ren_branch (map (λ (x : (b : Branch) × Q b). x.0) bs)) (b.1 ks t h) ∙ ap (λ (cs : List Branch). b.0 ∷ cs) (arms ks t bs k)

  two : (ks : Kinds) (place : Span) (op : Op2) (a b : (e : Expr) × R e) (t : Bool)
      → put place (n.Two op ((judged ks (ren a.0)).settled t) ((judged ks (ren b.0)).settled t)) ≡ put place (roll-Node (Node-F.Two op a.0 b.0))
      → Same (Node-F.Two op (ren a.0) (ren b.0)) (Node-F.Two op a.0 b.0)
  two ks place op a b t s =
      let x : Expr = (judged ks (ren a.0)).settled t in
      let y : Expr = (judged ks (ren b.0)).settled t in
      let q : Node-F.Two op x y ≡ Node-F.Two op a.0 b.0 = injected (n.Two op x y) (Node-F.Two op x y) (Node-F.Two op a.0 b.0) place (n.rolls-Two op x y) s in
      let h : x ≡ a.0 = cc in
      let k : y ≡ b.0 = cc in
      ap (λ (e : Expr). Node-F.Two op e (ren b.0)) (a.1 ks t h) ∙ ap (λ (e : Expr). Node-F.Two op a.0 e) (b.1 ks t k)

  two_of : (ks : Kinds) (place : Span) (op : Op2) (a b : (e : Expr) × R e) (t : Bool)
      → (walk.of_node ks (Node-F.Two op (judged ks (ren a.0)) (judged ks (ren b.0))) place).settled t ≡ put place (roll-Node (Node-F.Two op a.0 b.0))
      → Same (Node-F.Two op (ren a.0) (ren b.0)) (Node-F.Two op a.0 b.0)
  two_of ks place op2.Union a b t s = two ks place op2.Union a b (t || is_boolean (own_of_two op2.Union (judged ks (ren a.0)).own (judged ks (ren b.0)).own)) s
  two_of ks place op a b t s = two ks place op a b (asks_truth (asked_of_two op (judged ks (ren a.0)).own (judged ks (ren b.0)).own)) s

  at : (y : Proved) (ks : Kinds) (place : Span) (b : Bool) → (walk.of_node ks (judged_layer ks (ren_layer (bare y))) place).settled b ≡ put place (roll-Node (bare y)) → ren_layer (bare y) ≡ bare y
  at (Node-F.Lit x) ks place b s = refl
  at (Node-F.Path p) ks place b s = refl
  at (Node-F.Var i) ks place b s = refl
  at (Node-F.Def i) ks place b s = injected (n.Def (place_in order i)) (Node-F.Def (place_in order i)) (Node-F.Def i) place (n.rolls-Def (place_in order i)) s
  at (Node-F.One op a) ks place b s =
      let t : Bool = asks_truth (asked_of_one op) in
      let x : Expr = (judged ks (ren a.0)).settled t in
      let q : Node-F.One op x ≡ Node-F.One op a.0 = injected (n.One op x) (Node-F.One op x) (Node-F.One op a.0) place (n.rolls-One op x) s in
      let h : x ≡ a.0 = cc in
      ap (λ (e : Expr). Node-F.One op e) (a.1 ks t h)
  at (Node-F.Two op x y) ks place b s = two_of ks place op x y b s
  at (Node-F.Range low high) ks place b s = refl
  at (Node-F.Set es) ks place b s =
      let fs : List Expr = map (λ (x : (e : Expr) × R e). x.0) es in
      let js : List Judged = map (judged ks) (map ren fs) in
      let t : Bool = b || is_boolean (joined_kind (map (λ (e : Judged). e.own) js)) in
      let xs : List Expr = map (λ (j : Judged). j.settled t) js in
      let q : Node-F.Set xs ≡ Node-F.Set fs = injected (n.Set xs) (Node-F.Set xs) (Node-F.Set fs) place (n.rolls-Set xs) s in
      let h : xs ≡ fs = cc in
      ap (λ (gs : List Expr). Node-F.Set gs) (items ks t es h)
  at (Node-F.Case bs) ks place b s =
      let cs : List Branch = map (λ (x : (b : Branch) × Q b). x.0) bs in
      let js : List (Judged × Judged) = map (judged_branch ks) (map ren_branch cs) in
      let t : Bool = b || is_boolean (case_own js) in
      let xs : List Branch = map (settled_arm t) js in
      let q : Node-F.Case xs ≡ Node-F.Case cs = injected (n.Case xs) (Node-F.Case xs) (Node-F.Case cs) place (n.rolls-Case xs) s in
      let h : xs ≡ cs = cc in
      ap (λ (ds : List Branch). Node-F.Case ds) (arms ks t bs h)

  at_layer : (y : Proved) → P (roll-Node (bare y))
  at_layer y place ks b s =
      let h : (walk.of_node ks (judged_layer ks (ren_layer (bare y))) place).settled b ≡ put place (roll-Node (bare y))
      = ap (λ (j : Judged). j.settled b) (sym (judged_step ks place (ren_layer (bare y)))) ∙ ap (λ (e : Expr). (judged ks e).settled b) (sym (ren_step place (bare y))) ∙ s in
      ren_step place (bare y) ∙ ap (λ (l : Layer). put place (roll-Node l)) (at y ks place b h)

  abbrev ProvedBranch : Type 0
  ProvedBranch = Branch-F ((m : Node) × P m) ((b : Branch) × Q b) ((e : Expr) × R e)

  at_branch : (y : ProvedBranch) → Q (roll-Branch (record { guard = y.guard.0; body = y.body.0 }))
  at_branch y ks t s =
      let c : Branch = branch_of y.guard.0 y.body.0 in
      let h : settled_arm t (judged ks (ren y.guard.0), judged ks (ren y.body.0)) ≡ c
      = ap (settled_arm t) (sym (judged_at ks (branch_of (ren y.guard.0) (ren y.body.0)))) ∙ ap (λ (d : Branch). settled_arm t (judged_branch ks d)) (sym (ren_at c)) ∙ s in
      ren_at c
      ∙ ap (λ (e : Expr). branch_of e (ren y.body.0)) (y.guard.1 ks true (ap (λ (d : Branch). d.guard) h))
      ∙ ap (λ (e : Expr). branch_of y.guard.0 e) (y.body.1 ks t (ap (λ (d : Branch). d.body) h))

  abbrev ProvedExpr : Type 0
  ProvedExpr = Expr-F ((m : Node) × P m) ((b : Branch) × Q b) ((e : Expr) × R e)

  at_expr : (y : ProvedExpr) → R (roll-Expr (record { node = y.node.0; place = y.place }))
  at_expr y = y.node.1 y.place

  pub fixed : (e : Expr) → R e
  fixed = ind-Expr P Q R
      (λ x y h. subst (λ z. P (roll-Node z)) h (at_layer y))
      (λ x y h. subst (λ z. Q (roll-Branch z)) h (at_branch y))
      (λ x y h. subst (λ z. R (roll-Expr z)) h (at_expr y))

-- ---- the lists of a model

fixed_all : (order : List ℕ) (ks : Kinds) (es : List Expr) → map (settled ks true) (map (renumbered order) es) ≡ es → map (renumbered order) es ≡ es
fixed_all order ks [] s = refl
fixed_all order ks (e ∷ es) s =
    let h : settled ks true (renumbered order e) ≡ e = cc in
    let t : map (settled ks true) (map (renumbered order) es) ≡ es = cc in
    ap (λ (f : Expr). f ∷ map (renumbered order) es) (fixed order e ks true h) ∙ ap (λ (fs : List Expr). e ∷ fs) (fixed_all order ks es t)

fixed_assigned : (order : List ℕ) (ks : Kinds) (as' : List Assign) → map (settled_assign ks) (map (with_assigned (renumbered order)) as') ≡ as' → map (with_assigned (renumbered order)) as' ≡ as'
fixed_assigned order ks [] s = refl
fixed_assigned order ks (a ∷ as') s =
    let h : settled_assign ks (with_assigned (renumbered order) a) ≡ a = cc in
    let t : map (settled_assign ks) (map (with_assigned (renumbered order)) as') ≡ as' = cc in
    let e : renumbered order a.body ≡ a.body = fixed order a.body ks (asks_truth (Some (asked_by ks a.var))) (ap (λ (b : Assign). b.body) h) in
    ap (λ (f : Expr). let b : Assign = record a { body = f } in b ∷ map (with_assigned (renumbered order)) as') e
    ∙ ap (λ (bs : List Assign). a ∷ bs) (fixed_assigned order ks as' t)

fixed_defines : (order : List ℕ) (vk : List Kind) (ds : List Define) (done : List Kind) → settled_defines vk (map (with_body (renumbered order)) ds) done ≡ ds → map (with_body (renumbered order)) ds ≡ ds
fixed_defines order vk [] done s = refl
fixed_defines order vk (d ∷ ds) done s =
    let k : Kind = (judged (known vk done) (renumbered order d.body)).own in
    let h : with_body (settled (known vk done) false) (with_body (renumbered order) d) ≡ d = cc in
    let t : settled_defines vk (map (with_body (renumbered order)) ds) (done ++ k ∷ []) ≡ ds = cc in
    let e : renumbered order d.body ≡ d.body = fixed order d.body (known vk done) false (ap (λ (b : Define). b.body) h) in
    ap (λ (f : Expr). let b : Define = record d { body = f } in b ∷ map (with_body (renumbered order)) ds) e
    ∙ ap (λ (bs : List Define). d ∷ bs) (fixed_defines order vk ds (done ++ k ∷ []) t)

settled_names : (vk : List Kind) (ds : List Define) (done : List Kind) → names (settled_defines vk ds done) ≡ names ds
settled_names vk [] done = refl
settled_names vk (d ∷ ds) done = ap (λ (ns : List ℕ). d.name ∷ ns) (settled_names vk ds (done ++ (judged (known vk done) d.body).own ∷ []))

-- the DEFINEs in the order in which they stand
in_place : (order : List ℕ) (ds : List Define) (o : List ℕ) (es : List Define) (b : ℕ) → length o ≡ length es
    → ((k : ℕ) → k < length o → get_or o k 0 ≡ b + k) → ((k : ℕ) → slice_get ds (b + k) ≡ slice_get es k)
    → flat_map (λ i. option_map_or (λ (d : Define). with_body (renumbered order) d ∷ []) (slice_get ds i) []) o ≡ map (with_body (renumbered order)) es
in_place order ds [] [] b l is same = refl
in_place order ds [] (e ∷ es) b l is same = absurd (omega arith)
in_place order ds (i ∷ o) [] b l is same = absurd (omega arith)
in_place order ds (i ∷ o) (e ∷ es) b l is same =
    let rest : List Define = flat_map (λ i. option_map_or (λ (d : Define). with_body (renumbered order) d ∷ []) (slice_get ds i) []) o in
    ap (λ (z : Option Define). option_map_or (λ (d : Define). with_body (renumbered order) d ∷ []) z [] ++ rest) (ap (slice_get ds) (is 0 (omega arith)) ∙ same 0)
    ∙ ap (λ (fs : List Define). with_body (renumbered order) e ∷ fs)
    (in_place order ds o es (b + 1) (omega arith) (λ k h. omega (arith, is (suc k) (omega arith))) (λ k. ap (slice_get ds) (next b k) ∙ same (suc k)))
  where
    next : (b k : ℕ) → (b + 1) + k ≡ b + suc k
    next b k = omega arith

-- what it means that the kinds of a model are the model itself
pub record Facts (m : Model) : Type 0 where
  pub order : IsItsOrder m.defines
  pub in_order : ordered m ≡ m
  pub no_fault : kinds_fault m ≡ None
  pub settled : settled_model m ≡ m

not_refused : (m : Model) → kinds m ≡ Ok m → (kinds_fault m ≡ None) × (settled_model (ordered m) ≡ m)
not_refused m h = by (kinds_fault m) refl h
  where
    by : (o : Option ModelFault) → kinds_fault m ≡ o → unless_fault o (settled_model (ordered m)) ≡ Ok m → (o ≡ None) × (settled_model (ordered m) ≡ m)
    by None e h = (refl, cc)
    by (Some f) e h = cc

abbrev given_lists : Model → List Define → List Expr → List Expr → List Assign → List Assign → List Assign → List Expr → List Expr → List Expr → Model
given_lists m d i v n f x t g s = record m { defines = d; inits = i; invars = v; nows = n; firsts = f; nexts = x; trans = t; fair = g; specs = s }

pub facts : (m : Model) → IsWellFormed m → Facts m
facts m w =
    let k = not_refused m w.settled in
    let s : settled_model (ordered m) ≡ m = k.1 in
    let ks : Kinds = kinds_of (ordered m) in
    let o : List ℕ = dependence (reads_of m.defines) in
    let on : Expr → Expr = renumbered o in
    let defines : settled_defines ks.vars (in_order o m.defines) [] ≡ m.defines = ap (λ (z : Model). z.defines) s in
    let order : IsItsOrder m.defines = its_order m.defines (different_defines m w.different) (sym (settled_names ks.vars (in_order o m.defines) []) ∙ ap names defines) in
    let placed : in_order o m.defines ≡ map (with_body on) m.defines = in_place o m.defines o m.defines 0 order.as_long (λ i h. omega (arith, order.at i h)) (λ i. ap (slice_get m.defines) (zero-add i)) in
    let d : in_order o m.defines ≡ m.defines = placed ∙ fixed_defines o ks.vars m.defines [] (ap (λ (ds : List Define). settled_defines ks.vars ds []) (sym placed) ∙ defines) in
    let i : map on m.inits ≡ m.inits = fixed_all o ks m.inits (ap (λ (z : Model). z.inits) s) in
    let v : map on m.invars ≡ m.invars = fixed_all o ks m.invars (ap (λ (z : Model). z.invars) s) in
    let n : map (with_assigned on) m.nows ≡ m.nows = fixed_assigned o ks m.nows (ap (λ (z : Model). z.nows) s) in
    let f : map (with_assigned on) m.firsts ≡ m.firsts = fixed_assigned o ks m.firsts (ap (λ (z : Model). z.firsts) s) in
    let x : map (with_assigned on) m.nexts ≡ m.nexts = fixed_assigned o ks m.nexts (ap (λ (z : Model). z.nexts) s) in
    let t : map on m.trans ≡ m.trans = fixed_all o ks m.trans (ap (λ (z : Model). z.trans) s) in
    let g : map on m.fair ≡ m.fair = fixed_all o ks m.fair (ap (λ (z : Model). z.fair) s) in
    let p : map on m.specs ≡ m.specs = fixed_all o ks m.specs (ap (λ (z : Model). z.specs) s) in
    let stands : ordered m ≡ m =
    ap (λ (z : List Define). given_lists m z (map on m.inits) (map on m.invars) (map (with_assigned on) m.nows) (map (with_assigned on) m.firsts) (map (with_assigned on) m.nexts) (map on m.trans) (map on m.fair) (map on m.specs)) d
    ∙ ap (λ (z : List Expr). given_lists m m.defines z (map on m.invars) (map (with_assigned on) m.nows) (map (with_assigned on) m.firsts) (map (with_assigned on) m.nexts) (map on m.trans) (map on m.fair) (map on m.specs)) i
    ∙ ap (λ (z : List Expr). given_lists m m.defines m.inits z (map (with_assigned on) m.nows) (map (with_assigned on) m.firsts) (map (with_assigned on) m.nexts) (map on m.trans) (map on m.fair) (map on m.specs)) v
    ∙ ap (λ (z : List Assign). given_lists m m.defines m.inits m.invars z (map (with_assigned on) m.firsts) (map (with_assigned on) m.nexts) (map on m.trans) (map on m.fair) (map on m.specs)) n
    ∙ ap (λ (z : List Assign). given_lists m m.defines m.inits m.invars m.nows z (map (with_assigned on) m.nexts) (map on m.trans) (map on m.fair) (map on m.specs)) f
    ∙ ap (λ (z : List Assign). given_lists m m.defines m.inits m.invars m.nows m.firsts z (map on m.trans) (map on m.fair) (map on m.specs)) x
    ∙ ap (λ (z : List Expr). given_lists m m.defines m.inits m.invars m.nows m.firsts m.nexts z (map on m.fair) (map on m.specs)) t
    ∙ ap (λ (z : List Expr). given_lists m m.defines m.inits m.invars m.nows m.firsts m.nexts m.trans z (map on m.specs)) g
    ∙ ap (λ (z : List Expr). given_lists m m.defines m.inits m.invars m.nows m.firsts m.nexts m.trans m.fair z) p in
    record {
      order = order;
      in_order = stands;
      no_fault = k.0;
      settled = ap settled_model (sym stands) ∙ s;
    }
