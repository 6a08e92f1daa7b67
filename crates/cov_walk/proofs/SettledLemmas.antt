-- A place that is Boolean because its expression is settles it as any other Boolean place does.
use Rattle.std.proofs.Common.{◌≡◌, ℕ, ◌+◌, ◌<◌, ℤ, Bool, true, false, ◌||◌, if◌then◌else◌, IsTrue, IsFalse, List, [], ◌∷◌, ◌++◌, map, take, length, get_or, Option, Some, None, refl, ap, sym, subst, ◌∙◌, arith}
use Rattle.std.specs.List.{list_any}
use Rattle.std.proofs.lemmas.List.Folds.{list_any_at}
use Rattle.cov_syntax.specs.declared.tree.Span.{Span}
use Rattle.cov_syntax.specs.declared.tree.Value.TheVariants as v
use Rattle.cov_syntax.specs.declared.tree.Op2.{Op2}
use Rattle.cov_syntax.specs.declared.tree.Op2.TheVariants as op2
use Rattle.cov_syntax.specs.declared.tree.Expr.{Expr}
use Rattle.cov_syntax.specs.declared.tree.Branch.{Branch}
use Rattle.cov_syntax.specs.declared.tree.Node.{Node, out-Node, roll-out-Node}
use Rattle.cov_syntax.specs.declared.tree.Node.TheVariants as n
use Rattle.cov_syntax.specs.declared.tree.Node.TheOpen.{Node-F}
use Rattle.cov_model.specs.Kinds.{Kinds, interval, is_boolean, joined_kind, own_of_two}
use Rattle.cov_model.specs.Walk.{Judged, put, simple, bit, judged_bit, judged_two, of_node, judged, own, branch_of, case_own, asks_truth, asked_of_two}
use Rattle.cov_model.specs.Settled.{settled}
use Rattle.cov_model.proofs.Closed.{judged_layer}
use Rattle.cov_walk.specs.Places.{is_union}
use Rattle.cov_walk.specs.Parts.{judged_node, judged_branch, some_boolean, some_body_boolean, settled_branch}
use Rattle.cov_walk.proofs.Nodes.{expr_at, node_at, judged_at, mapped_more}
use Rattle.cov_walk.proofs.Simple.{simple_two}
use Rattle.cov_walk.proofs.Booleans.{joined_is, members_boolean, bodies_boolean, at_set, at_case}

or_twice : (a b : Bool) → ((a || b) || b) ≡ (a || b)
or_twice true b = refl
or_twice false true = refl
or_twice false false = refl

or_false : (a : Bool) → (a || false) ≡ a
or_false true = refl
or_false false = refl

-- settled in a place that is Boolean, or whose expression is
abbrev SettlesAlike : Judged → Bool → Type 0
SettlesAlike j b = j.settled (b || is_boolean j.own) ≡ j.settled b

integer_alike : (place : Span) (i : ℤ) (o : Option Bool) (b : Bool)
    → SettlesAlike (elim o [ None ↦ simple place (n.Lit (v.Int i)) (interval i i) (λ may. []) (n.Lit (v.Int i)) | Some c ↦ judged_bit place i c ]) b
integer_alike place i None b = refl
integer_alike place i (Some c) b = ap (λ (t : Bool). put place (n.Lit (if t then v.Bool c else v.Int i))) (or_false b)

two_alike : (place : Span) (op : Op2) (i j : Judged) (b : Bool) → SettlesAlike (judged_two place op i j) b
two_alike place op2.Union i j b = ap (λ (t : Bool). put place (n.Two op2.Union (i.settled t) (j.settled t))) (or_twice b (is_boolean (own_of_two op2.Union i.own j.own)))
two_alike place op i j b = refl

node_alike : (ks : Kinds) (l : Node-F (Span → Judged) (Judged × Judged) Judged) (place : Span) (b : Bool) → SettlesAlike (of_node ks l place) b
node_alike ks (Node-F.Lit (v.Bool c)) place b = refl
node_alike ks (Node-F.Lit (v.Int i)) place b = integer_alike place i (bit i) b
node_alike ks (Node-F.Lit (v.Sym s)) place b = refl
node_alike ks (Node-F.Path p) place b = refl
node_alike ks (Node-F.Var i) place b = refl
node_alike ks (Node-F.Def i) place b = refl
node_alike ks (Node-F.One op e) place b = refl
node_alike ks (Node-F.Two op i j) place b = two_alike place op i j b
node_alike ks (Node-F.Range low high) place b = refl
node_alike ks (Node-F.Set es) place b = ap (λ (t : Bool). put place (n.Set (map (λ (e : Judged). e.settled t) es))) (or_twice b (is_boolean (joined_kind (map (λ (e : Judged). e.own) es))))
node_alike ks (Node-F.Case bs) place b = ap (λ (t : Bool). put place (n.Case (map (λ (x : Judged × Judged). branch_of (x.0.settled true) (x.1.settled t)) bs))) (or_twice b (is_boolean (case_own bs)))

pub alike : (ks : Kinds) (e : Expr) (b : Bool) → (judged ks e).settled (b || is_boolean (own ks e)) ≡ (judged ks e).settled b
alike ks e b =
    let top : judged ks e ≡ of_node ks (judged_layer ks (out-Node e.node)) e.place = expr_at ks e ∙ node_at ks e.node (out-Node e.node) e.place (sym (roll-out-Node e.node)) in
    subst (λ (j : Judged). SettlesAlike j b) (sym top) (node_alike ks (judged_layer ks (out-Node e.node)) e.place b)

-- ---- a place that is Boolean where its expression is

or_needless : (a b : Bool) → (b ≡ true → a ≡ true) → (a || b) ≡ a
or_needless true b h = refl
or_needless false true h = sym (h refl)
or_needless false false h = refl

or_second : (a b : Bool) → b ≡ true → (a || (b || false)) ≡ true
or_second true b h = refl
or_second false b h = or_false b ∙ h

or_first : (a b : Bool) → a ≡ true → (a || b) ≡ true
or_first true b h = refl
or_first false b h = cc

module _ (ks : Kinds) (m : Node) (place : Span) where
  abbrev Needs : Bool → Type 0
  Needs t = IsTrue (is_boolean (judged_node ks m place).own) → IsTrue t

  union_own : (a b : Expr) → m ≡ n.Two op2.Union a b → is_boolean (judged_node ks m place).own ≡ (is_boolean (own ks a) || (is_boolean (own ks b) || false))
  union_own a b h =
      ap (λ (j : Judged). is_boolean j.own) (node_at ks m (Node-F.Two op2.Union a b) place (h ∙ sym (n.rolls-Two op2.Union a b)))
      ∙ sym (joined_is (own ks a) (own ks b ∷ []))

  pub left_needs : (a b : Expr) (t : Bool) → m ≡ n.Two op2.Union a b → Needs t → IsTrue (is_boolean (own ks a)) → IsTrue t
  left_needs a b t h g k = g (union_own a b h ∙ or_first (is_boolean (own ks a)) (is_boolean (own ks b) || false) k)

  pub right_needs : (a b : Expr) (t : Bool) → m ≡ n.Two op2.Union a b → Needs t → IsTrue (is_boolean (own ks b)) → IsTrue t
  right_needs a b t h g k = g (union_own a b h ∙ or_second (is_boolean (own ks a)) (is_boolean (own ks b)) k)

  pub set_needs : (es : List Expr) (t : Bool) → m ≡ n.Set es → Needs t → IsTrue (some_boolean ks es) → IsTrue t
  set_needs [] t h g k = cc
  set_needs (e ∷ es) t h g k =
      g (sym (at_set ks m (e ∷ es) place (h ∙ sym (n.rolls-Set (e ∷ es)))) ∙ sym (members_boolean ks (e ∷ es) (λ q. omega (arith, q))) ∙ k)

  pub case_needs : (bs : List Branch) (t : Bool) → m ≡ n.Case bs → Needs t → IsTrue (some_body_boolean ks bs) → IsTrue t
  case_needs [] t h g k = cc
  case_needs (b ∷ bs) t h g k =
      g (sym (at_case ks m (b ∷ bs) place (h ∙ sym (n.rolls-Case (b ∷ bs)))) ∙ sym (bodies_boolean ks (b ∷ bs) (λ q. omega (arith, q))) ∙ k)

  pub union_settled : (a b : Expr) (t : Bool) → m ≡ n.Two op2.Union a b → Needs t → put place (n.Two op2.Union ((judged ks a).settled t) ((judged ks b).settled t)) ≡ (judged_node ks m place).settled t
  union_settled a b t h g =
      let top : judged_node ks m place ≡ judged_two place op2.Union (judged ks a) (judged ks b) = node_at ks m (Node-F.Two op2.Union a b) place (h ∙ sym (n.rolls-Two op2.Union a b)) in
      let k : (t || is_boolean (own_of_two op2.Union (own ks a) (own ks b))) ≡ t = or_needless t (is_boolean (own_of_two op2.Union (own ks a) (own ks b))) (λ q. g (ap (λ (j : Judged). is_boolean j.own) top ∙ q)) in
      sym (ap (λ (j : Judged). j.settled t) top ∙ ap (λ (s : Bool). put place (n.Two op2.Union ((judged ks a).settled s) ((judged ks b).settled s))) k)

  pub two_settled : (op : Op2) (a b : Expr) (t : Bool) → m ≡ n.Two op a b → IsFalse (is_union op)
      → (let s = asks_truth (asked_of_two op (own ks a) (own ks b)) in put place (n.Two op ((judged ks a).settled s) ((judged ks b).settled s))) ≡ (judged_node ks m place).settled t
  two_settled op a b t h u =
      sym (ap (λ (j : Judged). j.settled t) (node_at ks m (Node-F.Two op a b) place (h ∙ sym (n.rolls-Two op a b)) ∙ simple_two place op (judged ks a) (judged ks b) u))

  pub set_settled : (es : List Expr) (t : Bool) → m ≡ n.Set es → Needs t → put place (n.Set (map (settled ks t) es)) ≡ (judged_node ks m place).settled t
  set_settled es t h g =
      let js : List Judged = map (judged ks) es in
      let top : judged_node ks m place ≡ of_node ks (Node-F.Set js) place = node_at ks m (Node-F.Set es) place (h ∙ sym (n.rolls-Set es)) in
      let b : Bool = is_boolean (joined_kind (map (λ (j : Judged). j.own) js)) in
      let k : (t || b) ≡ t = or_needless t b (λ q. g (ap (λ (j : Judged). is_boolean j.own) top ∙ q)) in
      ap (λ (xs : List Expr). put place (n.Set xs)) (sym (mapped t es))
      ∙ sym (ap (λ (j : Judged). j.settled t) top ∙ ap (λ (s : Bool). put place (n.Set (map (λ (j : Judged). j.settled s) js))) k)
    where
      mapped : (t : Bool) (es : List Expr) → map (λ (j : Judged). j.settled t) (map (judged ks) es) ≡ map (settled ks t) es
      mapped t [] = refl
      mapped t (e ∷ es) = ap (λ (xs : List Expr). settled ks t e ∷ xs) (mapped t es)

  pub case_settled : (bs : List Branch) (t : Bool) → m ≡ n.Case bs → Needs t → put place (n.Case (map (settled_branch ks t) bs)) ≡ (judged_node ks m place).settled t
  case_settled bs t h g =
      let js : List (Judged × Judged) = map (judged_branch ks) bs in
      let top : judged_node ks m place ≡ of_node ks (Node-F.Case js) place = node_at ks m (Node-F.Case bs) place (h ∙ sym (n.rolls-Case bs)) in
      let b : Bool = is_boolean (case_own js) in
      let k : (t || b) ≡ t = or_needless t b (λ q. g (ap (λ (j : Judged). is_boolean j.own) top ∙ q)) in
      ap (λ (xs : List Branch). put place (n.Case xs)) (sym (mapped t bs))
      ∙ sym (ap (λ (j : Judged). j.settled t) top ∙ ap (λ (s : Bool). put place (n.Case (map (λ (x : Judged × Judged). branch_of (x.0.settled true) (x.1.settled s)) js))) k)
    where
      mapped : (t : Bool) (bs : List Branch) → map (λ (x : Judged × Judged). branch_of (x.0.settled true) (x.1.settled t)) (map (judged_branch ks) bs) ≡ map (settled_branch ks t) bs
      mapped t [] = refl
      mapped t (b ∷ bs) = ap (λ (xs : List Branch). settled_branch ks t b ∷ xs) (mapped t bs)

-- ---- a place that is made Boolean where its expression is

or_behind : (a b : Bool) → b ≡ true → (a || b) ≡ true
or_behind true b h = refl
or_behind false b h = h

pub covers : (ks : Kinds) (e : Expr) (a b : Bool) → b ≡ (a || is_boolean (own ks e)) → IsTrue (is_boolean (judged_node ks e.node e.place).own) → IsTrue b
covers ks e a b h k = h ∙ or_behind a (is_boolean (own ks e)) (ap (λ (j : Judged). is_boolean j.own) (expr_at ks e) ∙ k)

-- ---- lists

pub item_needs : {A : Type 0} (f : A → Bool) (xs : List A) (i : ℕ) (x : A) (t : Bool) → i < length xs → x ≡ get_or xs i x → (IsTrue (list_any f xs) → IsTrue t) → IsTrue (f x) → IsTrue t
item_needs f xs i x t h e g k = g (list_any_at f xs i x h (ap f (sym e) ∙ k))

pub one_settled_more : {A : Type 0} (f : A → A) (xs done new : List A) (i : ℕ) (x y : A) → i < length xs → x ≡ get_or xs i x → done ≡ map f (take i xs) → y ≡ f x → new ≡ done ++ y ∷ [] → new ≡ map f (take (i + 1) xs)
one_settled_more f xs done new i x y h e d q k = k ∙ ap (λ zs. zs ++ y ∷ []) d ∙ sym (mapped_more f xs i x y h e (sym q))

pub branch_settled : (ks : Kinds) (b : Branch) (t : Bool) (g e : Expr) → g ≡ settled ks true b.guard → e ≡ settled ks t b.body → branch_of g e ≡ settled_branch ks t b
branch_settled ks b t g e h k =
    ap (λ (x : Expr). branch_of x e) h ∙ ap (λ (x : Expr). branch_of (settled ks true b.guard) x) k
    ∙ sym (ap (λ (p : Judged × Judged). branch_of (p.0.settled true) (p.1.settled t)) (judged_at ks b))

pub body_own : (ks : Kinds) (b : Branch) → is_boolean (judged_branch ks b).1.own ≡ is_boolean (own ks b.body)
body_own ks b = ap (λ (p : Judged × Judged). is_boolean p.1.own) (judged_at ks b)
