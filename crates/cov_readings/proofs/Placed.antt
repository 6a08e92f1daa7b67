-- The places of the parts of an expression: where the whole has no fault, no part has one in its place.
use Rattle.std.proofs.Common.{◌≡◌, Bool, true, false, not, ◌||◌, if◌then◌else◌, IsTrue, List, [], ◌∷◌, ◌++◌, map, Option, Some, None, refl, sym, ap, subst, ◌∙◌}
use Rattle.std.specs.Prelude.{int_lt}
use Rattle.std.specs.List.{list_any}
use Rattle.cov_syntax.specs.declared.tree.Span.{Span}
use Rattle.cov_syntax.specs.declared.fault.ModelFault.{ModelFault}
use Rattle.cov_syntax.specs.declared.tree.Op1.{Op1}
use Rattle.cov_syntax.specs.declared.tree.Op1.TheVariants as op1
use Rattle.cov_syntax.specs.declared.tree.Op2.{Op2}
use Rattle.cov_syntax.specs.declared.tree.Op2.TheVariants as op2
use Rattle.cov_syntax.specs.declared.tree.Expr.{Expr}
use Rattle.cov_syntax.specs.declared.tree.Branch.{Branch}
use Rattle.cov_syntax.specs.declared.tree.Node.{roll-Node, out-Node, roll-out-Node}
use Rattle.cov_syntax.specs.declared.tree.Node.TheOpen.{Node-F}
use Rattle.cov_model.specs.Kinds.{Kind, is_boolean, interval, Kinds, own_of_one, own_of_two, joined_kind}
use Rattle.cov_model.specs.Trees.{is_closed}
use Rattle.cov_model.specs.Walk as walk
use Rattle.cov_model.specs.Walk.{first, fault_if, set_place, next_place, bad_type, case_not_closed, May, Judged, put, judged, kind_fault, truth, may_of_one, may_of_left, may_of_right, plain_may, part_may, tests_of_one, tests_of_two, tests_of_set, tests_of_case, in_order, guards, case_own}
use Rattle.cov_model.proofs.Tied.{Layer, first_none, first_none_left, first_none_right, no_fault}
use Rattle.cov_model.proofs.Closed.{judged_branch, judged_layer, judged_step}
use Rattle.cov_ranges.proofs.PartFaults.{none_at, wide_fault, arm_fault, arms_none, judged_at}

topped : (e : Expr) (l : Layer) → out-Node e.node ≡ l → e ≡ put e.place (roll-Node l)
topped e l h = ap (put e.place) (sym (roll-out-Node e.node) ∙ ap roll-Node h)

-- at the top node
pub at_top : (ks : Kinds) (e : Expr) (l : Layer) (may : May) → out-Node e.node ≡ l → (judged ks e).fault may ≡ None → (walk.of_node ks (judged_layer ks l) e.place).fault may ≡ None
at_top ks e l may h f =
    subst (λ (j : Judged). j.fault may ≡ None) (judged_step ks e.place l)
    (subst (λ (z : Expr). (judged ks z).fault may ≡ None) (topped e l h) f)

-- each has no fault in such a place
abbrev pub ItemsPlaced : Kinds → May → List Expr → Type 0
ItemsPlaced ks may [] = Unit {0}
ItemsPlaced ks may (e ∷ es) = ((judged ks e).fault may ≡ None) × ItemsPlaced ks may es

-- each guard and each body has no fault in its place
abbrev pub ArmsPlaced : Kinds → May → List Branch → Type 0
ArmsPlaced ks may [] = Unit {0}
ArmsPlaced ks may (b ∷ bs) = ((judged ks b.guard).fault (plain_may may) ≡ None) × ((judged ks b.body).fault (part_may may) ≡ None) × ArmsPlaced ks may bs

pub operand_placed : (ks : Kinds) (place : Span) (op : Op1) (a : Expr) (may : May) → (walk.of_node ks (Node-F.One op (judged ks a)) place).fault may ≡ None → (judged ks a).fault (may_of_one op may) ≡ None
operand_placed ks place op1.Next a may f = none_at (tests_of_one place op1.Next (judged ks a) may ++ wide_fault (own_of_one op1.Next (judged ks a).own) place) 0 ((judged ks a).fault (may_of_one op1.Next may)) refl f
operand_placed ks place op a may f = none_at (tests_of_one place op (judged ks a) may ++ wide_fault (own_of_one op (judged ks a).own) place) 0 ((judged ks a).fault (may_of_one op may)) refl f

pub operands_placed : (ks : Kinds) (place : Span) (op : Op2) (a b : Expr) (may : May) → (walk.of_node ks (Node-F.Two op (judged ks a) (judged ks b)) place).fault may ≡ None
    → ((judged ks a).fault (may_of_left op may) ≡ None) × ((judged ks b).fault (may_of_right op may) ≡ None)
operands_placed ks place op2.Union a b may f =
    let j : Judged = judged ks a in
    let k : Judged = judged ks b in
    let tests : List (Option ModelFault) = tests_of_set place (j ∷ k ∷ []) may ++ wide_fault (own_of_two op2.Union j.own k.own) place in
    (none_at tests 0 (j.fault (part_may may)) refl f, none_at tests 1 (k.fault (part_may may)) refl f)
operands_placed ks place op a b may f =
    let j : Judged = judged ks a in
    let k : Judged = judged ks b in
    let tests : List (Option ModelFault) = tests_of_two place op j k may ++ wide_fault (own_of_two op j.own k.own) place in
    (none_at tests 0 (j.fault (may_of_left op may)) refl f, none_at tests 1 (k.fault (may_of_right op may)) refl f)

items_of : (ks : Kinds) (may : May) (es : List Expr) → first (map (λ (j : Judged). j.fault may) (map (judged ks) es)) ≡ None → ItemsPlaced ks may es
items_of ks may [] h = tt
items_of ks may (e ∷ es) h =
    let c = first_none ((judged ks e).fault may) (map (λ (j : Judged). j.fault may) (map (judged ks) es)) h in
    (c.0, items_of ks may es c.1)

-- the tests of members and of what they are
abbrev member_tests : May → List Judged → List (Option ModelFault)
member_tests may js = map (λ (j : Judged). j.fault (part_may may)) js

abbrev other_tests : Span → May → List Judged → List (Option ModelFault)
other_tests place may js = fault_if (not may.set) set_place place ∷ (if list_any (λ (j : Judged). is_boolean j.own) js then map (kind_fault (Some truth)) js else [])

abbrev set_kind : List Judged → Kind
set_kind js = joined_kind (map (λ (j : Judged). j.own) js)

pub items_placed : (ks : Kinds) (place : Span) (es : List Expr) (may : May) → (walk.of_node ks (Node-F.Set (map (judged ks) es)) place).fault may ≡ None → ItemsPlaced ks (part_may may) es
items_placed ks place es may f =
    let js : List Judged = map (judged ks) es in
    items_of ks (part_may may) es (first_none_left (member_tests may js) (other_tests place may js) (first_none_left (member_tests may js ++ other_tests place may js) (wide_fault (set_kind js) place) f))

arms_of : (ks : Kinds) (may : May) (bs : List Branch) → first (map (arm_fault may) (in_order (map (judged_branch ks) bs))) ≡ None → ArmsPlaced ks may bs
arms_of ks may [] h = tt
arms_of ks may (b ∷ bs) h =
    let j : Judged × Judged = judged_branch ks b in
    let rest : List (Option ModelFault) = map (arm_fault may) (in_order (map (judged_branch ks) bs)) in
    let c = first_none (j.0.fault (plain_may may)) (j.1.fault (part_may may) ∷ rest) h in
    let d = first_none (j.1.fault (part_may may)) rest c.1 in (
      subst (λ (k : Judged × Judged). k.0.fault (plain_may may) ≡ None) (judged_at ks b) c.0,
      subst (λ (k : Judged × Judged). k.1.fault (part_may may) ≡ None) (judged_at ks b) d.0,
      arms_of ks may bs d.1,
    )

pub arms_placed : (ks : Kinds) (place : Span) (bs : List Branch) (may : May) → (walk.of_node ks (Node-F.Case (map (judged_branch ks) bs)) place).fault may ≡ None → ArmsPlaced ks may bs
arms_placed ks place bs may f = arms_of ks may bs (arms_none (map (judged_branch ks) bs) place may f)

-- ---- what a place takes

held : (b : Bool) → not b ≡ false → IsTrue b
held true h = refl
held false h = cc

-- `next` stands where it may
pub next_may : (ks : Kinds) (place : Span) (a : Judged) (may : May) → (walk.of_node ks (Node-F.One op1.Next a) place).fault may ≡ None → IsTrue may.next
next_may ks place a may f = held may.next (no_fault (not may.next) next_place place (none_at (tests_of_one place op1.Next a may ++ wide_fault (own_of_one op1.Next a.own) place) 1 (fault_if (not may.next) next_place place) refl f))

-- a range stands where a set may
pub range_may : (ks : Kinds) (place : Span) (low high : _) (may : May) → (walk.of_node ks (Node-F.Range low high) place).fault may ≡ None → IsTrue may.set
range_may ks place low high may f =
    held may.set (no_fault (not may.set) set_place place
    (none_at ((fault_if (int_lt high low) bad_type place ∷ fault_if (not may.set) set_place place ∷ []) ++ wide_fault (interval low high) place) 1 (fault_if (not may.set) set_place place) refl f))

-- a `union` stands where a set may
pub union_may : (ks : Kinds) (place : Span) (a b : Judged) (may : May) → (walk.of_node ks (Node-F.Two op2.Union a b) place).fault may ≡ None → IsTrue may.set
union_may ks place a b may f =
    held may.set (no_fault (not may.set) set_place place
    (none_at (tests_of_set place (a ∷ b ∷ []) may ++ wide_fault (own_of_two op2.Union a.own b.own) place) 2 (fault_if (not may.set) set_place place) refl f))

-- a set stands where one may
pub set_may : (ks : Kinds) (place : Span) (js : List Judged) (may : May) → (walk.of_node ks (Node-F.Set js) place).fault may ≡ None → IsTrue may.set
set_may ks place js may f =
    let tests = first_none_left (member_tests may js ++ other_tests place may js) (wide_fault (set_kind js) place) f in
    held may.set (no_fault (not may.set) set_place place
    (none_at (other_tests place may js) 0 (fault_if (not may.set) set_place place) refl (first_none_right (member_tests may js) (other_tests place may js) tests)))

-- a case has no fault only where it is closed
pub case_closed : (ks : Kinds) (place : Span) (bs : List (Judged × Judged)) (may : May) → (walk.of_node ks (Node-F.Case bs) place).fault may ≡ None → IsTrue (is_closed [] (map (λ (j : Judged). j.tree) (guards bs)))
case_closed ks place bs may f =
    let closed : Bool = is_closed [] (map (λ (j : Judged). j.tree) (guards bs)) in
    let parts : List (Option ModelFault) = map (arm_fault may) (in_order bs) in
    let fits : List (Option ModelFault) = map (λ (x : Judged × Bool). if x.1 || is_boolean (case_own bs) then kind_fault (Some truth) x.0 else None) (in_order bs) in
    let last : List (Option ModelFault) = fault_if (not closed) case_not_closed place ∷ [] in
    let all = first_none_left ((parts ++ fits) ++ last) (wide_fault (case_own bs) place) f in
    held closed (no_fault (not closed) case_not_closed place (first_none (fault_if (not closed) case_not_closed place) [] (first_none_right (parts ++ fits) last all)).0)
