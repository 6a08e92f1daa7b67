-- An expression without choices that has no fault where a set may stand has none where no set may stand.
use Rattle.std.proofs.Common.{◌≡◌, Bool, not, ◌||◌, if◌then◌else◌, IsFalse, ℤ, List, [], ◌∷◌, ◌++◌, map, Option, Some, None, refl, sym, ap, subst, ◌∙◌, append_assoc}
use Rattle.std.specs.List.{list_any}
use Rattle.std.proofs.lemmas.Bool.{or_parts}
use Rattle.cov_syntax.specs.declared.tree.Span.{Span}
use Rattle.cov_syntax.specs.declared.fault.ModelFault.{ModelFault}
use Rattle.cov_syntax.specs.declared.tree.Value.TheVariants as v
use Rattle.cov_syntax.specs.declared.tree.Op1.{Op1}
use Rattle.cov_syntax.specs.declared.tree.Op1.TheVariants as op1
use Rattle.cov_syntax.specs.declared.tree.Op2.{Op2}
use Rattle.cov_syntax.specs.declared.tree.Op2.TheVariants as op2
use Rattle.cov_syntax.specs.declared.tree.Expr.{Expr}
use Rattle.cov_syntax.specs.declared.tree.Branch.{Branch}
use Rattle.cov_syntax.specs.declared.tree.Node.{Node, roll-Node}
use Rattle.cov_syntax.specs.declared.tree.Node.TheOpen.{Node-F}
use Rattle.cov_syntax.specs.declared.tree.Node.TheFolds.{map-Node, fold-Node, fold-Branch}
use Rattle.cov_model.specs.Kinds.{is_boolean, Kinds}
use Rattle.cov_model.specs.Trees.{is_closed}
use Rattle.cov_model.specs.Walk as walk
use Rattle.cov_model.specs.Walk.{first, fault_if, case_not_closed, May, Judged, put, judged, kind_fault, truth, bit, logic_may, plain_may, part_may, tests_of_case, in_order, guards, case_own}
use Rattle.cov_model.proofs.Tied.{first_none}
use Rattle.cov_model.proofs.Closed.{integer, judged_branch, judged_layer, judged_step}
use Rattle.cov_order.proofs.ByParts.{Layer, EachArm, EachPart, by_parts, fold_step, fold_branch}
use Rattle.cov_ranges.specs.Ranges.{is_set_layer, is_set}
use Rattle.cov_ranges.proofs.PartFaults.{wide_fault, arm_fault, arms_none, judged_at}

-- whether there is a set in the node, and in the branch's body
abbrev set_node : Node → Bool
set_node = fold-Node Bool Bool Bool is_set_layer (λ b. b.body) (λ e. e.node)

abbrev set_branch : Branch → Bool
set_branch = fold-Branch Bool Bool Bool is_set_layer (λ b. b.body) (λ e. e.node)

abbrev layer_set : Layer → Bool
layer_set l = is_set_layer (map-Node Node Branch Expr Bool Bool Bool set_node set_branch is_set l)

is_set_step : (place : _) (l : Layer) → is_set (put place (roll-Node l)) ≡ layer_set l
is_set_step place l = fold_step Bool Bool Bool is_set_layer (λ b. b.body) (λ e. e.node) place l

-- tests in place of tests, from the left
swapped : (xs ys zs : List (Option ModelFault)) → first (xs ++ zs) ≡ None → first ys ≡ None → first (ys ++ zs) ≡ None
swapped [] [] zs h g = h
swapped (None ∷ xs) ys zs h g = swapped xs ys zs h g
swapped (Some f ∷ xs) ys zs h g = cc
swapped [] (None ∷ ys) zs h g = swapped [] ys zs h g
swapped [] (Some f ∷ ys) zs h g = cc

regrouped : (a b c d : List (Option ModelFault)) → ((a ++ b) ++ c) ++ d ≡ a ++ (b ++ (c ++ d))
regrouped a b c d = simp append_assoc

integer_anywhere : (place : Span) (i : ℤ) (o : Option Bool) (may : May) → (integer place i o).fault may ≡ None → (integer place i o).fault (logic_may may) ≡ None
integer_anywhere place i None may f = f
integer_anywhere place i (Some b) may f = refl

one_anywhere : (ks : Kinds) (place : Span) (op : Op1) (a : Judged) (may : May) → (walk.of_node ks (Node-F.One op a) place).fault may ≡ None → (walk.of_node ks (Node-F.One op a) place).fault (logic_may may) ≡ None
one_anywhere ks place op1.Neg a may f = f
one_anywhere ks place op1.Next a may f = f
one_anywhere ks place op a may f = f

two_anywhere : (ks : Kinds) (place : Span) (op : Op2) (a b : Judged) (x y : Bool) (may : May) → IsFalse (is_set_layer (Node-F.Two op x y)) → (walk.of_node ks (Node-F.Two op a b) place).fault may ≡ None → (walk.of_node ks (Node-F.Two op a b) place).fault (logic_may may) ≡ None
two_anywhere ks place op2.Union a b x y may s f = cc
two_anywhere ks place op2.Member a b x y may s f = f
two_anywhere ks place op2.And a b x y may s f = f
two_anywhere ks place op2.Or a b x y may s f = f
two_anywhere ks place op2.Xor a b x y may s f = f
two_anywhere ks place op2.Implies a b x y may s f = f
two_anywhere ks place op2.Iff a b x y may s f = f
two_anywhere ks place op2.Au a b x y may s f = f
two_anywhere ks place op2.Eu a b x y may s f = f
two_anywhere ks place op a b x y may s f = f

module _ (ks : Kinds) where
  abbrev R : Expr → Type 0
  R e = (may : May) → IsFalse (is_set e) → (judged ks e).fault may ≡ None → (judged ks e).fault (logic_may may) ≡ None

  body_anywhere : (b : Branch) (may : May) → R b.body → IsFalse (set_branch b) → (judged_branch ks b).1.fault (part_may may) ≡ None → (judged_branch ks b).1.fault (part_may (logic_may may)) ≡ None
  body_anywhere b may r s f =
      subst (λ (j : Judged × Judged). j.1.fault (part_may (logic_may may)) ≡ None) (sym (judged_at ks b))
      (r (part_may may) (sym (fold_branch Bool Bool Bool is_set_layer (λ b. b.body) (λ e. e.node) b) ∙ s)
      (subst (λ (j : Judged × Judged). j.1.fault (part_may may) ≡ None) (judged_at ks b) f))

  first_two : (x y : Option ModelFault) (zs : List (Option ModelFault)) → x ≡ None → y ≡ None → first zs ≡ None → first (x ∷ y ∷ zs) ≡ None
  first_two x y zs h g k =
      subst (λ (z : Option ModelFault). first (z ∷ y ∷ zs) ≡ None) (sym h)
      (subst (λ (z : Option ModelFault). first (z ∷ zs) ≡ None) (sym g) k)

  arms_anywhere : (bs : List Branch) (may : May) → EachArm R bs → IsFalse (list_any (λ b. b) (map set_branch bs))
      → first (map (arm_fault may) (in_order (map (judged_branch ks) bs))) ≡ None → first (map (arm_fault (logic_may may)) (in_order (map (judged_branch ks) bs))) ≡ None
  arms_anywhere [] may r s f = refl
  arms_anywhere (b ∷ bs) may r s f =
      let j : Judged × Judged = judged_branch ks b in
      let rest : List (Option ModelFault) = map (arm_fault may) (in_order (map (judged_branch ks) bs)) in
      let here = first_none (j.0.fault (plain_may may)) (j.1.fault (part_may may) ∷ rest) f in
      let there = first_none (j.1.fault (part_may may)) rest here.1 in
      let c = or_parts (set_branch b) (list_any (λ b. b) (map set_branch bs)) s in
      first_two (j.0.fault (plain_may may)) (j.1.fault (part_may (logic_may may))) (map (arm_fault (logic_may may)) (in_order (map (judged_branch ks) bs)))
      here.0 (body_anywhere b may r.1 c.0 there.0) (arms_anywhere bs may r.2 c.1 there.1)

  case_anywhere : (place : Span) (bs : List Branch) (may : May) → EachArm R bs → IsFalse (list_any (λ b. b) (map set_branch bs))
      → first (tests_of_case place (map (judged_branch ks) bs) may ++ wide_fault (case_own (map (judged_branch ks) bs)) place) ≡ None
      → first (tests_of_case place (map (judged_branch ks) bs) (logic_may may) ++ wide_fault (case_own (map (judged_branch ks) bs)) place) ≡ None
  case_anywhere place bs may r s f =
      let js : List (Judged × Judged) = map (judged_branch ks) bs in
      let parts : List (Option ModelFault) = map (arm_fault may) (in_order js) in
      let others : List (Option ModelFault) = map (arm_fault (logic_may may)) (in_order js) in
      let fits : List (Option ModelFault) = map (λ (x : Judged × Bool). if x.1 || is_boolean (case_own js) then kind_fault (Some truth) x.0 else None) (in_order js) in
      let closed : List (Option ModelFault) = fault_if (not (is_closed [] (map (λ (e : Judged). e.tree) (guards js)))) case_not_closed place ∷ [] in
      let wide : List (Option ModelFault) = wide_fault (case_own js) place in
      let h : first (parts ++ (fits ++ (closed ++ wide))) ≡ None = ap first (sym (regrouped parts fits closed wide)) ∙ f in
      let k : first (others ++ (fits ++ (closed ++ wide))) ≡ None = swapped parts others (fits ++ (closed ++ wide)) h (arms_anywhere bs may r s (arms_none js place may f)) in
      ap first (regrouped others fits closed wide) ∙ k

  at : (place : Span) (l : Layer) (may : May) → EachPart R l → IsFalse (layer_set l) → (walk.of_node ks (judged_layer ks l) place).fault may ≡ None → (walk.of_node ks (judged_layer ks l) place).fault (logic_may may) ≡ None
  at place (Node-F.Lit (v.Int i)) may r s f = integer_anywhere place i (bit i) may f
  at place (Node-F.One op a) may r s f = one_anywhere ks place op (judged ks a) may f
  at place (Node-F.Two op a b) may r s f = two_anywhere ks place op (judged ks a) (judged ks b) (is_set a) (is_set b) may s f
  at place (Node-F.Range low high) may r s f = cc
  at place (Node-F.Set es) may r s f = cc
  at place (Node-F.Case bs) may r s f = case_anywhere place bs may r s f
  at place _ may r s f = f

  -- without choices, and without fault where a set may stand
  pub without_sets : (e : Expr) → R e
  without_sets = by_parts R (λ place l r may s f.
      subst (λ (j : Judged). j.fault (logic_may may) ≡ None) (sym (judged_step ks place l))
      (at place l may r (sym (is_set_step place l) ∙ s) (subst (λ (j : Judged). j.fault may ≡ None) (judged_step ks place l) f)))
