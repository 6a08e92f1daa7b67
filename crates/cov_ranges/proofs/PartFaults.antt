-- What stands in an expression without fault has no fault in its own place.
use Rattle.std.proofs.Common.{◌≡◌, ℕ, zero, suc, Bool, not, ◌||◌, if◌then◌else◌, List, [], ◌∷◌, ◌++◌, map, Option, Some, None, refl, sym, ap, subst, ◌∙◌}
use Rattle.std.specs.Prelude.{slice_get}
use Rattle.std.specs.List.{list_any}
use Rattle.cov_syntax.specs.declared.tree.Span.{Span}
use Rattle.cov_syntax.specs.declared.fault.ModelFault.{ModelFault}
use Rattle.cov_syntax.specs.declared.tree.Op1.{Op1}
use Rattle.cov_syntax.specs.declared.tree.Op1.TheVariants as op1
use Rattle.cov_syntax.specs.declared.tree.Op2.{Op2}
use Rattle.cov_syntax.specs.declared.tree.Op2.TheVariants as op2
use Rattle.cov_syntax.specs.declared.tree.Expr.{Expr}
use Rattle.cov_syntax.specs.declared.tree.Branch.{Branch}
use Rattle.cov_syntax.specs.declared.tree.Node.{roll-Node, out-Node, roll-out-Node}
use Rattle.cov_syntax.specs.declared.tree.Node.TheOpen.{Node-F}
use Rattle.cov_syntax.specs.declared.tree.Node.TheFolds.{fold-roll-Branch}
use Rattle.cov_model.specs.Kinds.{Kind, is_boolean, Kinds, own_of_one, own_of_two, joined_kind}
use Rattle.cov_model.specs.Trees.{is_closed}
use Rattle.cov_model.specs.Walk as walk
use Rattle.cov_model.specs.Walk.{first, fault_if, is_wide, range_too_wide, set_place, case_not_closed, May, Judged, put, judged, kind_fault, truth, may_of_one, may_of_left, may_of_right, plain_may, part_may, tests_of_one, tests_of_two, tests_of_set, tests_of_case, in_order, guards, case_own}
use Rattle.cov_model.specs.Atoms.{StandsIn, whole, operand, left, right, member, guard, body}
use Rattle.cov_model.proofs.Tied.{Layer, first_none, first_none_left}
use Rattle.cov_model.proofs.Closed.{judged_branch, judged_layer, judged_step}

-- the walk finds no fault in the expression, in some place
pub record IsFaultless (ks : Kinds) (e : Expr) : Type 0 where
  pub may : May
  pub none : (judged ks e).fault may ≡ None

pub none_at : {A : Type 0} (xs : List (Option A)) (i : ℕ) (x : Option A) → slice_get xs i ≡ Some x → first xs ≡ None → x ≡ None
none_at [] i x g h = cc
none_at (y ∷ ys) zero x g h = let e : y ≡ x = cc in sym e ∙ (first_none y ys h).0
none_at (y ∷ ys) (suc i) x g h = none_at ys i x g (first_none y ys h).1

-- the last test at a node
abbrev pub wide_fault : Kind → Span → List (Option ModelFault)
wide_fault k place = fault_if (is_wide k) range_too_wide place ∷ []

topped : (e : Expr) (l : Layer) → out-Node e.node ≡ l → e ≡ put e.place (roll-Node l)
topped e l h = ap (put e.place) (sym (roll-out-Node e.node) ∙ ap roll-Node h)

-- at the top node
at_top : (ks : Kinds) (e : Expr) (l : Layer) (may : May) → out-Node e.node ≡ l → (judged ks e).fault may ≡ None → (walk.of_node ks (judged_layer ks l) e.place).fault may ≡ None
at_top ks e l may h f =
    subst (λ (j : Judged). j.fault may ≡ None) (judged_step ks e.place l)
    (subst (λ (z : Expr). (judged ks z).fault may ≡ None) (topped e l h) f)

one_part : (ks : Kinds) (place : Span) (op : Op1) (a : Expr) (may : May) → (walk.of_node ks (Node-F.One op (judged ks a)) place).fault may ≡ None → IsFaultless ks a
one_part ks place op1.Next a may f =
    let j : Judged = judged ks a in
    record { may = may_of_one op1.Next may; none = none_at (tests_of_one place op1.Next j may ++ wide_fault (own_of_one op1.Next j.own) place) 0 (j.fault (may_of_one op1.Next may)) refl f }
one_part ks place op a may f =
    let j : Judged = judged ks a in
    record { may = may_of_one op may; none = none_at (tests_of_one place op j may ++ wide_fault (own_of_one op j.own) place) 0 (j.fault (may_of_one op may)) refl f }

two_parts : (ks : Kinds) (place : Span) (op : Op2) (a b : Expr) (may : May) → (walk.of_node ks (Node-F.Two op (judged ks a) (judged ks b)) place).fault may ≡ None → IsFaultless ks a × IsFaultless ks b
two_parts ks place op2.Union a b may f =
    let j : Judged = judged ks a in
    let k : Judged = judged ks b in
    let tests : List (Option ModelFault) = tests_of_set place (j ∷ k ∷ []) may ++ wide_fault (own_of_two op2.Union j.own k.own) place in (
      record { may = part_may may; none = none_at tests 0 (j.fault (part_may may)) refl f },
      record { may = part_may may; none = none_at tests 1 (k.fault (part_may may)) refl f },
    )
two_parts ks place op a b may f =
    let j : Judged = judged ks a in
    let k : Judged = judged ks b in
    let tests : List (Option ModelFault) = tests_of_two place op j k may ++ wide_fault (own_of_two op j.own k.own) place in (
      record { may = may_of_left op may; none = none_at tests 0 (j.fault (may_of_left op may)) refl f },
      record { may = may_of_right op may; none = none_at tests 1 (k.fault (may_of_right op may)) refl f },
    )

item_none : (ks : Kinds) (may : May) (es : List Expr) (i : ℕ) (a : Expr) → slice_get es i ≡ Some a → first (map (λ (j : Judged). j.fault may) (map (judged ks) es)) ≡ None → (judged ks a).fault may ≡ None
item_none ks may [] i a g h = cc
item_none ks may (e ∷ es) zero a g h =
    let k : e ≡ a = cc in
    subst (λ (z : Expr). (judged ks z).fault may ≡ None) k (first_none ((judged ks e).fault may) (map (λ (j : Judged). j.fault may) (map (judged ks) es)) h).0
item_none ks may (e ∷ es) (suc i) a g h = item_none ks may es i a g (first_none ((judged ks e).fault may) (map (λ (j : Judged). j.fault may) (map (judged ks) es)) h).1

member_part : (ks : Kinds) (place : Span) (es : List Expr) (i : ℕ) (a : Expr) (may : May) → slice_get es i ≡ Some a → (walk.of_node ks (Node-F.Set (map (judged ks) es)) place).fault may ≡ None → IsFaultless ks a
member_part ks place es i a may g f =
    let js : List Judged = map (judged ks) es in
    let parts : List (Option ModelFault) = map (λ (j : Judged). j.fault (part_may may)) js in
    let rest : List (Option ModelFault) = fault_if (not may.set) set_place place ∷ (if list_any (λ (j : Judged). is_boolean j.own) js then map (kind_fault (Some truth)) js else []) in
    let wide : List (Option ModelFault) = wide_fault (joined_kind (map (λ (j : Judged). j.own) js)) place in
    record { may = part_may may; none = item_none ks (part_may may) es i a g (first_none_left parts rest (first_none_left (parts ++ rest) wide f)) }

-- the fault of a guard or of a body of a case in such a place
abbrev pub arm_fault : May → Judged × Bool → Option ModelFault
arm_fault may x = x.0.fault (if x.1 then plain_may may else part_may may)

-- where a case has no fault, none of its guards and bodies has one
pub arms_none : (bs : List (Judged × Judged)) (place : Span) (may : May)
    → first (tests_of_case place bs may ++ wide_fault (case_own bs) place) ≡ None → first (map (arm_fault may) (in_order bs)) ≡ None
arms_none bs place may f =
    let parts : List (Option ModelFault) = map (arm_fault may) (in_order bs) in
    let fits : List (Option ModelFault) = map (λ (x : Judged × Bool). if x.1 || is_boolean (case_own bs) then kind_fault (Some truth) x.0 else None) (in_order bs) in
    let closed : List (Option ModelFault) = fault_if (not (is_closed [] (map (λ (e : Judged). e.tree) (guards bs)))) case_not_closed place ∷ [] in
    first_none_left parts fits (first_none_left (parts ++ fits) closed (first_none_left (parts ++ fits ++ closed) (wide_fault (case_own bs) place) f))

arm_none : (ks : Kinds) (may : May) (bs : List Branch) (i : ℕ) (b : Branch) → slice_get bs i ≡ Some b → first (map (arm_fault may) (in_order (map (judged_branch ks) bs))) ≡ None
    → ((judged_branch ks b).0.fault (plain_may may) ≡ None) × ((judged_branch ks b).1.fault (part_may may) ≡ None)
arm_none ks may [] i b g h = cc
arm_none ks may (c ∷ cs) zero b g h =
    let k : c ≡ b = cc in
    let j : Judged × Judged = judged_branch ks c in
    let rest : List (Option ModelFault) = map (arm_fault may) (in_order (map (judged_branch ks) cs)) in
    let at = first_none (j.0.fault (plain_may may)) (j.1.fault (part_may may) ∷ rest) h in
    subst (λ (z : Branch). ((judged_branch ks z).0.fault (plain_may may) ≡ None) × ((judged_branch ks z).1.fault (part_may may) ≡ None)) k
    (at.0, (first_none (j.1.fault (part_may may)) rest at.1).0)
arm_none ks may (c ∷ cs) (suc i) b g h =
    let j : Judged × Judged = judged_branch ks c in
    let rest : List (Option ModelFault) = map (arm_fault may) (in_order (map (judged_branch ks) cs)) in
    arm_none ks may cs i b g (first_none (j.1.fault (part_may may)) rest (first_none (j.0.fault (plain_may may)) (j.1.fault (part_may may) ∷ rest) h).1).1

pub judged_at : (ks : Kinds) (b : Branch) → judged_branch ks b ≡ (judged ks b.guard, judged ks b.body)
judged_at ks b = fold-roll-Branch (Span → Judged) (Judged × Judged) Judged (walk.of_node ks) (λ c. (c.guard, c.body)) (λ e. e.node e.place) (record { guard = b.guard; body = b.body })

arm_parts : (ks : Kinds) (place : Span) (bs : List Branch) (i : ℕ) (b : Branch) (may : May) → slice_get bs i ≡ Some b → (walk.of_node ks (Node-F.Case (map (judged_branch ks) bs)) place).fault may ≡ None → IsFaultless ks b.guard × IsFaultless ks b.body
arm_parts ks place bs i b may g f =
    let h = arm_none ks may bs i b g (arms_none (map (judged_branch ks) bs) place may f) in (
      record { may = plain_may may; none = subst (λ (j : Judged × Judged). j.0.fault (plain_may may) ≡ None) (judged_at ks b) h.0 },
      record { may = part_may may; none = subst (λ (j : Judged × Judged). j.1.fault (part_may may) ≡ None) (judged_at ks b) h.1 },
    )

-- what stands in an expression without fault has none in its own place
pub part_faultless : (ks : Kinds) (x e : Expr) → StandsIn x e → IsFaultless ks e → IsFaultless ks x
part_faultless ks x _ whole f = f
part_faultless ks x _ (operand e a op h p) f = part_faultless ks x a p (one_part ks e.place op a f.may (at_top ks e (Node-F.One op a) f.may h f.none))
part_faultless ks x _ (left e a b op h p) f = part_faultless ks x a p (two_parts ks e.place op a b f.may (at_top ks e (Node-F.Two op a b) f.may h f.none)).0
part_faultless ks x _ (right e a b op h p) f = part_faultless ks x b p (two_parts ks e.place op a b f.may (at_top ks e (Node-F.Two op a b) f.may h f.none)).1
part_faultless ks x _ (member e a es i h g p) f = part_faultless ks x a p (member_part ks e.place es i a f.may g (at_top ks e (Node-F.Set es) f.may h f.none))
part_faultless ks x _ (guard e b bs i h g p) f = part_faultless ks x b.guard p (arm_parts ks e.place bs i b f.may g (at_top ks e (Node-F.Case bs) f.may h f.none)).0
part_faultless ks x _ (body e b bs i h g p) f = part_faultless ks x b.body p (arm_parts ks e.place bs i b f.may g (at_top ks e (Node-F.Case bs) f.may h f.none)).1
