-- Where the walk finds no fault, it finds none where more may stand.
use Rattle.std.proofs.Common.{◌≡◌, ℕ, ℤ, Bool, true, false, not, ◌&&◌, ◌||◌, if◌then◌else◌, IsTrue, List, [], ◌∷◌, ◌++◌, map, Option, Some, None, refl, sym, subst, ◌∙◌}
use Rattle.std.specs.Prelude.{int_lt}
use Rattle.std.specs.List.{list_any}
use Rattle.cov_syntax.specs.declared.tree.Span.{Span}
use Rattle.cov_syntax.specs.declared.fault.ModelFault.{ModelFault}
use Rattle.cov_syntax.specs.declared.tree.Value.TheVariants as v
use Rattle.cov_syntax.specs.declared.tree.Op1.{Op1}
use Rattle.cov_syntax.specs.declared.tree.Op1.TheVariants as op1
use Rattle.cov_syntax.specs.declared.tree.Op2.{Op2}
use Rattle.cov_syntax.specs.declared.tree.Op2.TheVariants as op2
use Rattle.cov_syntax.specs.declared.tree.Expr.{Expr, roll-Expr}
use Rattle.cov_syntax.specs.declared.tree.Branch.{Branch, roll-Branch}
use Rattle.cov_syntax.specs.declared.tree.Node.{Node, roll-Node}
use Rattle.cov_syntax.specs.declared.tree.Node.TheVariants as n
use Rattle.cov_syntax.specs.declared.tree.Node.TheOpen.{Node-F, Branch-F, Expr-F}
use Rattle.cov_syntax.specs.declared.tree.Node.TheFolds.{ind-Expr, map-Node}
use Rattle.cov_model.specs.Kinds.{Kinds, interval, is_boolean}
use Rattle.cov_model.specs.Walk.{first, fault_if, set_place, next_place, temporal_place, bad_type, May, Judged, logic_may, plain_may, part_may, set_may, may_of_one, may_of_left, may_of_right, is_temporal_one, is_temporal_two, simple, bit, judged_bit, judged_two, of_node, tests_of_one, tests_of_two, tests_of_set, tests_of_case, in_order, case_own, kind_fault, judged}
use Rattle.cov_model.specs.Walk as walk
use Rattle.cov_model.proofs.Tied.{Layer, first_none}
use Rattle.cov_model.proofs.Closed.{judged_layer}
use Rattle.cov_walk.specs.Parts.{judged_node, judged_branch}
use Rattle.cov_walk.proofs.Firsts.{first_past}
use Rattle.cov_walk.proofs.Nodes.{expr_at, node_at, judged_at}

-- ---- lists of tests

-- where the first finds nothing, so does the second
abbrev Under : Option ModelFault → Option ModelFault → Type 0
Under x y = x ≡ None → y ≡ None

abbrev AllUnder : List (Option ModelFault) → List (Option ModelFault) → Type 0
AllUnder [] [] = Unit {0}
AllUnder (x ∷ xs) (y ∷ ys) = Under x y × AllUnder xs ys
AllUnder _ _ = ⊥

under_first : (xs ys : List (Option ModelFault)) → AllUnder xs ys → first xs ≡ None → first ys ≡ None
under_first [] [] u h = refl
under_first [] (y ∷ ys) u h = absurd u
under_first (x ∷ xs) [] u h = absurd u
under_first (x ∷ xs) (y ∷ ys) u h = let c = first_none x xs h in first_past y ys (u.0 c.0) ∙ under_first xs ys u.1 c.1

under_same : (xs : List (Option ModelFault)) → AllUnder xs xs
under_same [] = tt
under_same (x ∷ xs) = (λ h. h, under_same xs)

under_append : (xs ys xs' ys' : List (Option ModelFault)) → AllUnder xs ys → AllUnder xs' ys' → AllUnder (xs ++ xs') (ys ++ ys')
under_append [] [] xs' ys' u u' = u'
under_append [] (y ∷ ys) xs' ys' u u' = absurd u
under_append (x ∷ xs) [] xs' ys' u u' = absurd u
under_append (x ∷ xs) (y ∷ ys) xs' ys' u u' = (u.0, under_append xs ys xs' ys' u.1 u')

fault_unless : (x y : Bool) (code : ℕ) (place : Span) → (IsTrue x → IsTrue y) → Under (fault_if (not x) code place) (fault_if (not y) code place)
fault_unless false y code place h u = cc
fault_unless true true code place h u = refl
fault_unless true false code place h u = absurd (let e : false ≡ true = h refl in cc)

fault_and : (t x y : Bool) (code : ℕ) (place : Span) → (IsTrue x → IsTrue y) → Under (fault_if (t && not x) code place) (fault_if (t && not y) code place)
fault_and true x y code place h = fault_unless x y code place h
fault_and false x y code place h = λ u. u

-- ---- places

-- what may stand in the first may stand in the second
record Below (a b : May) : Type 0 where
  next : IsTrue a.next → IsTrue b.next
  temporal : IsTrue a.temporal → IsTrue b.temporal
  set : IsTrue a.set → IsTrue b.set

below_logic : (a b : May) → Below a b → Below (logic_may a) (logic_may b)
below_logic a b h = record { next = h.next; temporal = h.temporal; set = λ x. x }

below_plain : (a b : May) → Below a b → Below (plain_may a) (plain_may b)
below_plain a b h = record { next = h.next; temporal = λ x. x; set = λ x. x }

below_part : (a b : May) → Below a b → Below (part_may a) (part_may b)
below_part a b h = record { next = h.next; temporal = λ x. x; set = h.set }

below_one : (op : Op1) (a b : May) → Below a b → Below (may_of_one op a) (may_of_one op b)
below_one op1.Neg a b h = below_plain a b h
below_one op1.Next a b h = record { next = λ x. x; temporal = λ x. x; set = λ x. x }
below_one _ a b h = below_logic a b h

below_left : (op : Op2) (a b : May) → Below a b → Below (may_of_left op a) (may_of_left op b)
below_left op2.And a b h = below_logic a b h
below_left op2.Or a b h = below_logic a b h
below_left op2.Xor a b h = below_logic a b h
below_left op2.Implies a b h = below_logic a b h
below_left op2.Iff a b h = below_logic a b h
below_left op2.Au a b h = below_logic a b h
below_left op2.Eu a b h = below_logic a b h
below_left op2.Union a b h = below_part a b h
below_left _ a b h = below_plain a b h

below_right : (op : Op2) (a b : May) → Below a b → Below (may_of_right op a) (may_of_right op b)
below_right op2.Member a b h = record { next = h.next; temporal = λ x. x; set = λ x. x }
below_right op a b h = below_left op a b h

-- ---- nodes

abbrev Loose : Judged → Type 0
Loose j = (a b : May) → Below a b → j.fault a ≡ None → j.fault b ≡ None

abbrev AllLoose : List Judged → Type 0
AllLoose [] = Unit {0}
AllLoose (j ∷ js) = Loose j × AllLoose js

abbrev ArmsLoose : List (Judged × Judged) → Type 0
ArmsLoose [] = Unit {0}
ArmsLoose (b ∷ bs) = Loose b.0 × Loose b.1 × ArmsLoose bs

loosened : (xs ys w : List (Option ModelFault)) → AllUnder xs ys → first (xs ++ w) ≡ None → first (ys ++ w) ≡ None
loosened xs ys w u = under_first (xs ++ w) (ys ++ w) (under_append xs ys w w u (under_same w))

one_under : (place : Span) (op : Op1) (e : Judged) (a b : May) → Loose e → Below a b → AllUnder (tests_of_one place op e a) (tests_of_one place op e b)
one_under place op1.Next e a b l h = (λ u. u, (fault_unless a.next b.next next_place place h.next, tt))
one_under place op e a b l h = (l (may_of_one op a) (may_of_one op b) (below_one op a b h), (fault_and (is_temporal_one op) a.temporal b.temporal temporal_place place h.temporal, (λ u. u, tt)))

two_under : (place : Span) (op : Op2) (i j : Judged) (a b : May) → Loose i → Loose j → Below a b → AllUnder (tests_of_two place op i j a) (tests_of_two place op i j b)
two_under place op i j a b l m h = (
  l (may_of_left op a) (may_of_left op b) (below_left op a b h),
  (
    m (may_of_right op a) (may_of_right op b) (below_right op a b h),
    (fault_and (is_temporal_two op) a.temporal b.temporal temporal_place place h.temporal, (λ u. u, (λ u. u, (λ u. u, tt)))),
  ),
)

members_under : (js : List Judged) (a b : May) → AllLoose js → Below a b → AllUnder (map (λ (j : Judged). j.fault a) js) (map (λ (j : Judged). j.fault b) js)
members_under [] a b l h = tt
members_under (j ∷ js) a b l h = (l.0 a b h, members_under js a b l.1 h)

set_under : (place : Span) (js : List Judged) (a b : May) → AllLoose js → Below a b → AllUnder (tests_of_set place js a) (tests_of_set place js b)
set_under place js a b l h =
    let untrue : List (Option ModelFault) = if list_any (λ (j : Judged). is_boolean j.own) js then map (kind_fault (Some walk.truth)) js else [] in
    under_append (map (λ (j : Judged). j.fault (part_may a)) js) (map (λ (j : Judged). j.fault (part_may b)) js)
    (fault_if (not a.set) set_place place ∷ untrue) (fault_if (not b.set) set_place place ∷ untrue)
    (members_under js (part_may a) (part_may b) l (below_part a b h))
    (fault_unless a.set b.set set_place place h.set, under_same untrue)

abbrev arm_faults : List (Judged × Judged) → May → List (Option ModelFault)
arm_faults bs may = map (λ (x : Judged × Bool). x.0.fault (if x.1 then plain_may may else part_may may)) (in_order bs)

arms_under : (bs : List (Judged × Judged)) (a b : May) → ArmsLoose bs → Below a b → AllUnder (arm_faults bs a) (arm_faults bs b)
arms_under [] a b l h = tt
arms_under (x ∷ bs) a b l h = (l.0 (plain_may a) (plain_may b) (below_plain a b h), (l.1 (part_may a) (part_may b) (below_part a b h), arms_under bs a b l.2 h))

case_under : (place : Span) (bs : List (Judged × Judged)) (a b : May) → ArmsLoose bs → Below a b → AllUnder (tests_of_case place bs a) (tests_of_case place bs b)
case_under place bs a b l h =
    let untrue : List (Option ModelFault) = map (λ (x : Judged × Bool). if x.1 || is_boolean (case_own bs) then kind_fault (Some walk.truth) x.0 else None) (in_order bs) in
    under_append (arm_faults bs a ++ untrue) (arm_faults bs b ++ untrue) _ _
    (under_append (arm_faults bs a) (arm_faults bs b) untrue untrue (arms_under bs a b l h) (under_same untrue))
    (λ u. u, tt)

loose_two : (place : Span) (op : Op2) (i j : Judged) → Loose i → Loose j → Loose (judged_two place op i j)
loose_two place op2.Union i j l m a b h = loosened (tests_of_set place (i ∷ j ∷ []) a) (tests_of_set place (i ∷ j ∷ []) b) _ (set_under place (i ∷ j ∷ []) a b (l, (m, tt)) h)
loose_two place op i j l m a b h = loosened (tests_of_two place op i j a) (tests_of_two place op i j b) _ (two_under place op i j a b l m h)

loose_integer : (place : Span) (i : ℤ) (o : Option Bool)
    → Loose (elim o [ None ↦ simple place (n.Lit (v.Int i)) (interval i i) (λ may. []) (n.Lit (v.Int i)) | Some c ↦ judged_bit place i c ])
loose_integer place i None a b h f = f
loose_integer place i (Some c) a b h f = f

abbrev PartsLoose : Node-F (Span → Judged) (Judged × Judged) Judged → Type 0
PartsLoose (Node-F.One op e) = Loose e
PartsLoose (Node-F.Two op i j) = Loose i × Loose j
PartsLoose (Node-F.Set es) = AllLoose es
PartsLoose (Node-F.Case bs) = ArmsLoose bs
PartsLoose _ = Unit {0}

loose_node : (ks : Kinds) (l : Node-F (Span → Judged) (Judged × Judged) Judged) (place : Span) → PartsLoose l → Loose (of_node ks l place)
loose_node ks (Node-F.Lit (v.Bool c)) place p = λ a b h f. f
loose_node ks (Node-F.Lit (v.Int i)) place p = loose_integer place i (bit i)
loose_node ks (Node-F.Lit (v.Sym s)) place p = λ a b h f. f
loose_node ks (Node-F.Path x) place p = λ a b h f. f
loose_node ks (Node-F.Var i) place p = λ a b h f. f
loose_node ks (Node-F.Def i) place p = λ a b h f. f
loose_node ks (Node-F.One op e) place p = λ a b h. loosened (tests_of_one place op e a) (tests_of_one place op e b) _ (one_under place op e a b p h)
loose_node ks (Node-F.Two op i j) place p = loose_two place op i j p.0 p.1
loose_node ks (Node-F.Range low high) place p = λ a b h.
    loosened (fault_if (int_lt high low) bad_type place ∷ fault_if (not a.set) set_place place ∷ []) (fault_if (int_lt high low) bad_type place ∷ fault_if (not b.set) set_place place ∷ []) _
    (λ u. u, (fault_unless a.set b.set set_place place h.set, tt))
loose_node ks (Node-F.Set es) place p = λ a b h. loosened (tests_of_set place es a) (tests_of_set place es b) _ (set_under place es a b p h)
loose_node ks (Node-F.Case bs) place p = λ a b h. loosened (tests_of_case place bs a) (tests_of_case place bs b) _ (case_under place bs a b p h)

-- ---- trees

module _ (ks : Kinds) where
  abbrev R : Expr → Type 0
  R e = Loose (judged ks e)

  abbrev P : Node → Type 0
  P m = (place : Span) → Loose (judged_node ks m place)

  abbrev Q : Branch → Type 0
  Q b = R b.guard × R b.body

  abbrev Proved : Type 0
  Proved = Node-F ((m : Node) × P m) ((b : Branch) × Q b) ((e : Expr) × R e)

  abbrev bare : Proved → Layer
  bare y = map-Node ((m : Node) × P m) ((b : Branch) × Q b) ((e : Expr) × R e) Node Branch Expr (λ e. e.0) (λ e. e.0) (λ e. e.0) y

  items : (es : List ((e : Expr) × R e)) → AllLoose (map (judged ks) (map (λ (x : (e : Expr) × R e). x.0) es))
  items [] = tt
  items (e ∷ es) = (e.1, items es)

  arms : (bs : List ((b : Branch) × Q b)) → ArmsLoose (map (judged_branch ks) (map (λ (x : (b : Branch) × Q b). x.0) bs))
  arms [] = tt
  arms (b ∷ bs) =
      let L : Judged × Judged → Type 0 = λ p. Loose p.0 × Loose p.1 in
      let both : L (judged_branch ks b.0) = subst L (sym (judged_at ks b.0)) (b.1.0, b.1.1) in
      (both.0, both.1, arms bs)

  parts : (y : Proved) → PartsLoose (judged_layer ks (bare y))
  parts (Node-F.Lit x) = tt
  parts (Node-F.Path p) = tt
  parts (Node-F.Var i) = tt
  parts (Node-F.Def i) = tt
  parts (Node-F.One op a) = a.1
  parts (Node-F.Two op a b) = (a.1, b.1)
  parts (Node-F.Range low high) = tt
  parts (Node-F.Set es) = items es
  parts (Node-F.Case bs) = arms bs

  at_layer : (y : Proved) → P (roll-Node (bare y))
  at_layer y place = subst Loose (sym (node_at ks (roll-Node (bare y)) (bare y) place refl)) (loose_node ks (judged_layer ks (bare y)) place (parts y))

  abbrev ProvedBranch : Type 0
  ProvedBranch = Branch-F ((m : Node) × P m) ((b : Branch) × Q b) ((e : Expr) × R e)

  at_branch : (y : ProvedBranch) → Q (roll-Branch (record { guard = y.guard.0; body = y.body.0 }))
  at_branch y = (y.guard.1, y.body.1)

  abbrev ProvedExpr : Type 0
  ProvedExpr = Expr-F ((m : Node) × P m) ((b : Branch) × Q b) ((e : Expr) × R e)

  at_expr : (y : ProvedExpr) → R (roll-Expr (record { node = y.node.0; place = y.place }))
  at_expr y = subst Loose (sym (expr_at ks (roll-Expr (record { node = y.node.0; place = y.place })))) (y.node.1 y.place)

  loose : (e : Expr) → R e
  loose = ind-Expr P Q R
      (λ x y h. subst (λ z. P (roll-Node z)) h (at_layer y))
      (λ x y h. subst (λ z. Q (roll-Branch z)) h (at_branch y))
      (λ x y h. subst (λ z. R (roll-Expr z)) h (at_expr y))

-- no fault where all three may stand
pub none_where_all : (ks : Kinds) (e : Expr) (may : May) → (judged ks e).fault may ≡ None → (judged ks e).fault (record { next = true; temporal = true; set = true }) ≡ None
none_where_all ks e may = loose ks e may (record { next = true; temporal = true; set = true }) (record { next = λ x. refl; temporal = λ x. refl; set = λ x. refl })
