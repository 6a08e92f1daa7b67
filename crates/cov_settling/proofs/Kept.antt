-- Settling keeps whatever is computed from the parts and takes any two literals of a Boolean and an integer alike.
use Rattle.std.proofs.Common.{◌≡◌, ℕ, ℤ, Bool, true, false, ◌&&◌, ◌||◌, max, List, [], ◌∷◌, ◌++◌, map, Option, Some, None, refl, sym, ap, subst, ◌∙◌}
use Rattle.cov_syntax.specs.declared.tree.Span.{Span}
use Rattle.cov_syntax.specs.declared.tree.Value.{Value}
use Rattle.cov_syntax.specs.declared.tree.Value.TheVariants as v
use Rattle.cov_syntax.specs.declared.tree.Op2.{Op2}
use Rattle.cov_syntax.specs.declared.tree.Op2.TheVariants as op2
use Rattle.cov_syntax.specs.declared.tree.Expr.{Expr, roll-Expr}
use Rattle.cov_syntax.specs.declared.tree.Branch.{Branch, roll-Branch}
use Rattle.cov_syntax.specs.declared.tree.Node.{Node, roll-Node}
use Rattle.cov_syntax.specs.declared.tree.Node.TheVariants as n
use Rattle.cov_syntax.specs.declared.tree.Node.TheOpen.{Node-F, Branch-F, Expr-F}
use Rattle.cov_syntax.specs.declared.tree.Node.TheFolds.{ind-Expr, map-Node, fold-Expr, fold-Node, fold-Branch, fold-roll-Node, fold-roll-Branch, fold-roll-Expr}
use Rattle.cov_model.specs.declared.model.Model.{Model}
use Rattle.cov_model.specs.Kinds.{Kinds, is_boolean, own_of_two, joined_kind}
use Rattle.cov_model.specs.Walk as walk
use Rattle.cov_model.specs.Walk.{Judged, put, judged, judged_literal, bit, asks_truth, asked_of_one, asked_of_two, branch_of, case_own}
use Rattle.cov_model.specs.Settled.{settled}
use Rattle.cov_model.specs.WellFormed.{cites, cites_layer}
use Rattle.cov_model.specs.Order.{reads, reads_layer}
use Rattle.cov_model.specs.Written.{Written, written, written_layer, written_branch}
use Rattle.cov_model.specs.Flat.{depth, depth_layer}
use Rattle.cov_model.proofs.Tied.{Layer}
use Rattle.cov_model.proofs.Closed.{integer, judged_branch, judged_layer, judged_step, by_top}

abbrev settled_arm : Bool → Judged × Judged → Branch
settled_arm t b = branch_of (b.0.settled true) (b.1.settled t)

module _ (A : Type 0) (layer : Node-F A A A → A) (branch : Branch-F A A A → A)
    (alike : (i : ℤ) (c : Bool) → layer (Node-F.Lit (v.Bool c)) ≡ layer (Node-F.Lit (v.Int i))) (ks : Kinds) where
  abbrev of_expr : Expr → A
  of_expr = fold-Expr A A A layer branch (λ e. e.node)

  abbrev of_node : Node → A
  of_node = fold-Node A A A layer branch (λ e. e.node)

  abbrev of_branch : Branch → A
  of_branch = fold-Branch A A A layer branch (λ e. e.node)

  abbrev folded : Layer → Node-F A A A
  folded l = map-Node Node Branch Expr A A A of_node of_branch of_expr l

  step : (place : Span) (l : Layer) → of_expr (put place (roll-Node l)) ≡ layer (folded l)
  step place l =
      fold-roll-Expr A A A layer branch (λ e. e.node) (record { node = roll-Node l; place = place })
      ∙ fold-roll-Node A A A layer branch (λ e. e.node) l

  at_node : (place : Span) (m : Node) (l : Layer) → roll-Node l ≡ m → of_expr (put place m) ≡ layer (folded l)
  at_node place m l h = ap (λ (k : Node). of_expr (put place k)) (sym h) ∙ step place l

  branch_step : (g e : Expr) → of_branch (branch_of g e) ≡ branch (record { guard = of_expr g; body = of_expr e })
  branch_step g e = fold-roll-Branch A A A layer branch (λ e. e.node) (record { guard = g; body = e })

  judged_at : (b : Branch) → judged_branch ks b ≡ (judged ks b.guard, judged ks b.body)
  judged_at b = fold-roll-Branch (Span → Judged) (Judged × Judged) Judged (walk.of_node ks) (λ c. (c.guard, c.body)) (λ e. e.node e.place) (record { guard = b.guard; body = b.body })

  abbrev R : Expr → Type 0
  R e = (b : Bool) → of_expr ((judged ks e).settled b) ≡ of_expr e

  abbrev P : Node → Type 0
  P m = (place : Span) → R (put place m)

  abbrev Q : Branch → Type 0
  Q b = (t : Bool) → of_branch (settled_arm t (judged_branch ks b)) ≡ of_branch b

  abbrev Proved : Type 0
  Proved = Node-F ((m : Node) × P m) ((b : Branch) × Q b) ((e : Expr) × R e)

  abbrev bare : Proved → Layer
  bare y = map-Node ((m : Node) × P m) ((b : Branch) × Q b) ((e : Expr) × R e) Node Branch Expr (λ e. e.0) (λ e. e.0) (λ e. e.0) y

  items : (t : Bool) (es : List ((e : Expr) × R e))
      → map of_expr (map (λ (j : Judged). j.settled t) (map (judged ks) (map (λ (x : (e : Expr) × R e). x.0) es))) ≡ map of_expr (map (λ (x : (e : Expr) × R e). x.0) es)
  items t [] = refl
  items t (e ∷ es) =
      ap (λ (a : A). a ∷ map of_expr (map (λ (j : Judged). j.settled t) (map (judged ks) (map (λ (x : (e : Expr) × R e). x.0) es)))) (e.1 t)
      ∙ ap (λ (xs : List A). of_expr e.0 ∷ xs) (items t es)

  arms : (t : Bool) (bs : List ((b : Branch) × Q b))
      → map of_branch (map (settled_arm t) (map (judged_branch ks) (map (λ (x : (b : Branch) × Q b). x.0) bs))) ≡ map of_branch (map (λ (x : (b : Branch) × Q b). x.0) bs)
  arms t [] = refl
  arms t (b ∷ bs) =
      ap (λ (a : A). a ∷ map of_branch (map (settled_arm t) (map (judged_branch ks) (map (λ (x : (b : Branch) × Q b). x.0) bs)))) (b.1 t)
      ∙ ap (λ (xs : List A). of_branch b.0 ∷ xs) (arms t bs)

  at_literal : (place : Span) (x : Value) → of_expr (put place (n.Lit x)) ≡ layer (Node-F.Lit x)
  at_literal place x = at_node place (n.Lit x) (Node-F.Lit x) (n.rolls-Lit x)

  at_integer : (place : Span) (i : ℤ) (o : Option Bool) (b : Bool) → of_expr ((integer place i o).settled b) ≡ layer (Node-F.Lit (v.Int i))
  at_integer place i None b = at_literal place (v.Int i)
  at_integer place i (Some c) true = at_literal place (v.Bool c) ∙ alike i c
  at_integer place i (Some c) false = at_literal place (v.Int i)

  two : (place : Span) (op : Op2) (a b : (e : Expr) × R e) (t : Bool)
      → of_expr (put place (n.Two op ((judged ks a.0).settled t) ((judged ks b.0).settled t))) ≡ layer (Node-F.Two op (of_expr a.0) (of_expr b.0))
  two place op a b t =
      let x : Expr = (judged ks a.0).settled t in
      let y : Expr = (judged ks b.0).settled t in
      at_node place (n.Two op x y) (Node-F.Two op x y) (n.rolls-Two op x y)
      ∙ ap (λ (z : A). layer (Node-F.Two op z (of_expr y))) (a.1 t)
      ∙ ap (λ (z : A). layer (Node-F.Two op (of_expr a.0) z)) (b.1 t)

  two_of : (place : Span) (op : Op2) (a b : (e : Expr) × R e) (t : Bool)
      → of_expr ((walk.of_node ks (Node-F.Two op (judged ks a.0) (judged ks b.0)) place).settled t) ≡ layer (Node-F.Two op (of_expr a.0) (of_expr b.0))
  two_of place op2.Union a b t = two place op2.Union a b (t || is_boolean (own_of_two op2.Union (judged ks a.0).own (judged ks b.0).own))
  two_of place op a b t = two place op a b (asks_truth (asked_of_two op (judged ks a.0).own (judged ks b.0).own))

  at : (y : Proved) (place : Span) (b : Bool) → of_expr ((walk.of_node ks (judged_layer ks (bare y)) place).settled b) ≡ layer (folded (bare y))
  at (Node-F.Lit (v.Int i)) place b = at_integer place i (bit i) b
  at (Node-F.Lit (v.Bool c)) place b = at_literal place (v.Bool c)
  at (Node-F.Lit (v.Sym s)) place b = at_literal place (v.Sym s)
  at (Node-F.Path p) place b = at_node place (n.Path p) (Node-F.Path p) (n.rolls-Path p)
  at (Node-F.Var i) place b = at_node place (n.Var i) (Node-F.Var i) (n.rolls-Var i)
  at (Node-F.Def i) place b = at_node place (n.Def i) (Node-F.Def i) (n.rolls-Def i)
  at (Node-F.One op a) place b =
      let t : Bool = asks_truth (asked_of_one op) in
      let x : Expr = (judged ks a.0).settled t in
      at_node place (n.One op x) (Node-F.One op x) (n.rolls-One op x) ∙ ap (λ (z : A). layer (Node-F.One op z)) (a.1 t)
  at (Node-F.Two op x y) place b = two_of place op x y b
  at (Node-F.Range low high) place b = at_node place (n.Range low high) (Node-F.Range low high) (n.rolls-Range low high)
  at (Node-F.Set es) place b =
      let js : List Judged = map (judged ks) (map (λ (x : (e : Expr) × R e). x.0) es) in
      let t : Bool = b || is_boolean (joined_kind (map (λ (e : Judged). e.own) js)) in
      let xs : List Expr = map (λ (j : Judged). j.settled t) js in
      at_node place (n.Set xs) (Node-F.Set xs) (n.rolls-Set xs) ∙ ap (λ (ys : List A). layer (Node-F.Set ys)) (items t es)
  at (Node-F.Case bs) place b =
      let js : List (Judged × Judged) = map (judged_branch ks) (map (λ (x : (b : Branch) × Q b). x.0) bs) in
      let t : Bool = b || is_boolean (case_own js) in
      let xs : List Branch = map (settled_arm t) js in
      at_node place (n.Case xs) (Node-F.Case xs) (n.rolls-Case xs) ∙ ap (λ (ys : List A). layer (Node-F.Case ys)) (arms t bs)

  at_layer : (y : Proved) → P (roll-Node (bare y))
  at_layer y place b = ap (λ (j : Judged). of_expr (j.settled b)) (judged_step ks place (bare y)) ∙ at y place b ∙ sym (step place (bare y))

  abbrev ProvedBranch : Type 0
  ProvedBranch = Branch-F ((m : Node) × P m) ((b : Branch) × Q b) ((e : Expr) × R e)

  at_branch : (y : ProvedBranch) → Q (roll-Branch (record { guard = y.guard.0; body = y.body.0 }))
  at_branch y t =
      let x : Expr = (judged ks y.guard.0).settled true in
      let z : Expr = (judged ks y.body.0).settled t in
      ap (λ (j : Judged × Judged). of_branch (settled_arm t j)) (judged_at (branch_of y.guard.0 y.body.0))
      ∙ branch_step x z
      ∙ ap (λ (a : A). branch (record { guard = a; body = of_expr z })) (y.guard.1 true)
      ∙ ap (λ (a : A). branch (record { guard = of_expr y.guard.0; body = a })) (y.body.1 t)
      ∙ sym (branch_step y.guard.0 y.body.0)

  abbrev ProvedExpr : Type 0
  ProvedExpr = Expr-F ((m : Node) × P m) ((b : Branch) × Q b) ((e : Expr) × R e)

  at_expr : (y : ProvedExpr) → R (roll-Expr (record { node = y.node.0; place = y.place }))
  at_expr y = y.node.1 y.place

  kept : (e : Expr) → R e
  kept = ind-Expr P Q R
      (λ x y h. subst (λ z. P (roll-Node z)) h (at_layer y))
      (λ x y h. subst (λ z. Q (roll-Branch z)) h (at_branch y))
      (λ x y h. subst (λ z. R (roll-Expr z)) h (at_expr y))

-- ---- what is kept

-- the DEFINEs that are named
pub same_reads : (ks : Kinds) (b : Bool) (e : Expr) → reads (settled ks b e) ≡ reads e
same_reads ks b e = kept (List ℕ) reads_layer (λ b. b.guard ++ b.body) (λ i c. refl) ks e b

-- what is cited is there
pub same_cites : (m : Model) (ks : Kinds) (b : Bool) (e : Expr) → cites m (settled ks b e) ≡ cites m e
same_cites m ks b e = kept Bool (cites_layer m) (λ b. b.guard && b.body) (λ i c. refl) ks e b

-- the size of the formula, and whether a CTL operator stands in it
pub same_size : (ks : Kinds) (b : Bool) (e : Expr) → written (settled ks b e) ≡ written e
same_size ks b e = kept Written written_layer written_branch (λ i c. refl) ks e b

-- the depth
pub same_depth : (ks : Kinds) (b : Bool) (e : Expr) → depth (settled ks b e) ≡ depth e
same_depth ks b e = kept ℕ depth_layer (λ b. max b.guard b.body) (λ i c. refl) ks e b

-- ---- the place

integer_place : (place : Span) (i : ℤ) (o : Option Bool) (b : Bool) → ((integer place i o).settled b).place ≡ place
integer_place place i None b = refl
integer_place place i (Some c) b = refl

place_top : (ks : Kinds) (place : Span) (l : Layer) (b : Bool) → ((walk.of_node ks (judged_layer ks l) place).settled b).place ≡ place
place_top ks place (Node-F.Lit (v.Int i)) b = integer_place place i (bit i) b
place_top ks place (Node-F.Two op2.Union x y) b = refl
place_top ks place (Node-F.Two op x y) b = refl
place_top ks place _ b = refl

pub same_place : (ks : Kinds) (b : Bool) (e : Expr) → (settled ks b e).place ≡ e.place
same_place ks b = by_top (λ e. (settled ks b e).place ≡ e.place)
    (λ place l. ap (λ (j : Judged). (j.settled b).place) (judged_step ks place l) ∙ place_top ks place l b)
