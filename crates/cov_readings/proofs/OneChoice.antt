-- An expression that is no set has one choice, its value.
use Rattle.std.proofs.Common.{◌≡◌, Bool, true, false, ◌||◌, if◌then◌else◌, IsTrue, IsFalse, List, [], ◌∷◌, map, None, refl, sym, ap, subst, ◌∙◌}
use Rattle.std.specs.List.{list_any}
use Rattle.std.proofs.lemmas.Bool.{or_parts}
use Rattle.cov_syntax.specs.declared.tree.Span.{Span}
use Rattle.cov_syntax.specs.declared.tree.Value.{Value}
use Rattle.cov_syntax.specs.declared.tree.Value.TheVariants as v
use Rattle.cov_syntax.specs.declared.tree.Op1.{Op1}
use Rattle.cov_syntax.specs.declared.tree.Op1.TheVariants as op1
use Rattle.cov_syntax.specs.declared.tree.Op2.{Op2}
use Rattle.cov_syntax.specs.declared.tree.Op2.TheVariants as op2
use Rattle.cov_syntax.specs.declared.tree.Expr.{Expr}
use Rattle.cov_syntax.specs.declared.tree.Branch.{Branch}
use Rattle.cov_syntax.specs.declared.tree.Node.{roll-Node}
use Rattle.cov_syntax.specs.declared.tree.Node.TheVariants as n
use Rattle.cov_syntax.specs.declared.tree.Node.TheOpen.{Node-F}
use Rattle.cov_model.specs.declared.model.Model.{Model}
use Rattle.cov_model.specs.Values.{same_value, truth as truth_of, whole}
use Rattle.cov_model.specs.Meaning as meaning
use Rattle.cov_model.specs.Meaning.{Point, Meaning, of_branch, of_expr, first_body, value, allows}
use Rattle.cov_model.specs.Kinds.{is_boolean, Kinds}
use Rattle.cov_model.specs.Settled.{kinds_of}
use Rattle.cov_model.specs.States.{between}
use Rattle.cov_model.specs.Trees.{is_closed}
use Rattle.cov_model.specs.Walk as walk
use Rattle.cov_model.specs.Walk.{May, Judged, put, judged, branch_of, guards, case_own, part_may}
use Rattle.cov_model.specs.WellFormed.{IsWellFormed}
use Rattle.cov_model.proofs.Closed.{judged_branch, judged_layer, judged_step, meant, branch_meaning, meaning_step, AllSettled, some_true, closed_true}
use Rattle.cov_model.proofs.Law.{law}
use Rattle.cov_model.proofs.Tied.{injected}
use Rattle.cov_order.proofs.ByParts.{Layer, EachArm, EachPart, by_parts, fold_branch}
use Rattle.cov_ranges.specs.Ranges.{IsExpressionOf, is_set_layer, is_set}
use Rattle.cov_ranges.proofs.Listed.{expression_sound}
use Rattle.cov_ranges.proofs.PartFaults.{judged_at}
use Rattle.cov_readings.specs.Single.{HasOneChoice}
use Rattle.cov_readings.proofs.Placed.{ArmsPlaced, arms_placed, case_closed}
use Rattle.cov_readings.proofs.Single.{set_branch, layer_set, is_set_step, set_body}

-- its one choice is its value
abbrev IsOne : Meaning → Point → Value → Type 0
IsOne m p x = m.allows p x ≡ same_value (m.value p) x

-- ---- the first body whose guard is true

abbrev AllOne : List (Meaning × Meaning) → Point → Value → Type 0
AllOne [] p x = Unit {0}
AllOne (b ∷ bs) p x = IsOne b.1 p x × AllOne bs p x

abbrev some_guard : List (Meaning × Meaning) → Point → Bool
some_guard bs p = list_any (λ (b : Meaning × Meaning). truth_of (b.0.value p)) bs

abbrev IsFirst : List (Meaning × Meaning) → Point → Value → Type 0
IsFirst bs p x = first_body (λ m. m.allows p x) p false bs ≡ same_value (first_body (λ m. m.value p) p (v.Bool false) bs) x

one_first : (bs : List (Meaning × Meaning)) (p : Point) (x : Value) → AllOne bs p x → IsTrue (some_guard bs p) → IsFirst bs p x
one_first [] p x a h = cc
one_first (b ∷ bs) p x a h = by (truth_of (b.0.value p)) h (one_first bs p x a.1)
  where
    by : (t : Bool) → IsTrue (t || some_guard bs p) → (IsTrue (some_guard bs p) → IsFirst bs p x)
        → (if t then b.1.allows p x else first_body (λ m. m.allows p x) p false bs) ≡ same_value (if t then b.1.value p else first_body (λ m. m.value p) p (v.Bool false) bs) x
    by true h f = a.0
    by false h f = f h

-- ---- branches

meant_at : (b : Branch) → branch_meaning whole b ≡ (meaning.meaning b.guard, meaning.meaning b.body)
meant_at b = fold_branch Meaning (Meaning × Meaning) Meaning (meaning.of_node whole) of_branch of_expr b

abbrev guard_trees : List Branch → List Expr
guard_trees bs = map (λ (b : Branch). b.guard) bs

same_guards : (p : Point) (bs : List Branch) → some_guard (map (branch_meaning whole) bs) p ≡ some_true p (guard_trees bs)
same_guards p [] = refl
same_guards p (b ∷ bs) =
    ap (λ (m : Meaning × Meaning). truth_of (m.0.value p) || some_guard (map (branch_meaning whole) bs) p) (meant_at b)
    ∙ ap (λ (t : Bool). truth_of (value b.guard p) || t) (same_guards p bs)

same_trees : (ks : Kinds) (bs : List Branch) → map (λ (j : Judged). j.tree) (guards (map (judged_branch ks) bs)) ≡ guard_trees bs
same_trees ks [] = refl
same_trees ks (b ∷ bs) =
    ap (λ (j : Judged × Judged). j.0.tree ∷ map (λ (j : Judged). j.tree) (guards (map (judged_branch ks) bs))) (judged_at ks b)
    ∙ ap (λ (e : Expr). e ∷ map (λ (j : Judged). j.tree) (guards (map (judged_branch ks) bs))) (law b.guard ks).tree
    ∙ ap (λ (es : List Expr). b.guard ∷ es) (same_trees ks bs)

module _ (ks : Kinds) where
  abbrev settled_arm : Bool → Judged × Judged → Branch
  settled_arm t b = branch_of (b.0.settled true) (b.1.settled t)

  arm_settled : (t : Bool) (b : Branch) → settled_arm t (judged_branch ks b) ≡ b → ((judged ks b.guard).settled true ≡ b.guard) × ((judged ks b.body).settled t ≡ b.body)
  arm_settled t b s =
      let q : settled_arm t (judged ks b.guard, judged ks b.body) ≡ b = ap (settled_arm t) (sym (judged_at ks b)) ∙ s in
      (ap (λ (c : Branch). c.guard) q, ap (λ (c : Branch). c.body) q)

  guards_settled : (t : Bool) (bs : List Branch) → map (settled_arm t) (map (judged_branch ks) bs) ≡ bs → AllSettled ks (guard_trees bs)
  guards_settled t [] s = tt
  guards_settled t (b ∷ bs) s =
      let here : settled_arm t (judged_branch ks b) ≡ b = cc in
      let rest : map (settled_arm t) (map (judged_branch ks) bs) ≡ bs = cc in
      ((arm_settled t b here).0, guards_settled t bs rest)

  -- ---- trees

  abbrev R : Expr → Type 0
  R e = (may : May) (b : Bool) → (judged ks e).fault may ≡ None → (judged ks e).settled b ≡ e → IsFalse (is_set e) → (p : Point) (x : Value) → IsOne (meaning.meaning e) p x

  arms : (t : Bool) (bs : List Branch) (may : May) → EachArm R bs → ArmsPlaced ks may bs → map (settled_arm t) (map (judged_branch ks) bs) ≡ bs
      → IsFalse (list_any (λ b. b) (map set_branch bs)) → (p : Point) (x : Value) → AllOne (map (branch_meaning whole) bs) p x
  arms t [] may r f s u p x = tt
  arms t (b ∷ bs) may r f s u p x =
      let here : settled_arm t (judged_branch ks b) ≡ b = cc in
      let rest : map (settled_arm t) (map (judged_branch ks) bs) ≡ bs = cc in
      let c = or_parts (set_branch b) (list_any (λ b. b) (map set_branch bs)) u in (
        subst (λ (m : Meaning × Meaning). IsOne m.1 p x) (sym (meant_at b)) (r.1 (part_may may) t f.1 (arm_settled t b here).1 (sym (set_body b) ∙ c.0) p x),
        arms t bs may r.2 f.2 rest c.1 p x,
      )

  one : (op : Op1) (a : Meaning) (p : Point) (x : Value) → IsOne (meaning.prefixed whole op a) p x
  one op1.Not a p x = refl
  one op1.Neg a p x = refl
  one op1.Next a p x = refl
  one _ a p x = refl

  two : (op : Op2) (a b : Meaning) (c d : Bool) (p : Point) (x : Value) → IsFalse (is_set_layer (Node-F.Two op c d)) → IsOne (meaning.joined whole op a b) p x
  two op2.Union a b c d p x u = cc
  two op2.Member a b c d p x u = refl
  two _ a b c d p x u = refl

  case : (place : Span) (bs : List Branch) (may : May) (b : Bool) → EachArm R bs → (walk.of_node ks (Node-F.Case (map (judged_branch ks) bs)) place).fault may ≡ None
      → (walk.of_node ks (Node-F.Case (map (judged_branch ks) bs)) place).settled b ≡ put place (roll-Node (Node-F.Case bs))
      → IsFalse (list_any (λ b. b) (map set_branch bs)) → (p : Point) (x : Value) → IsFirst (map (branch_meaning whole) bs) p x
  case place bs may b r f s u p x =
      let js : List (Judged × Judged) = map (judged_branch ks) bs in
      let t : Bool = b || is_boolean (case_own js) in
      let cs : List Branch = map (settled_arm t) js in
      let q : Node-F.Case cs ≡ Node-F.Case bs = injected (n.Case cs) (Node-F.Case cs) (Node-F.Case bs) place (n.rolls-Case cs) s in
      let k : cs ≡ bs = cc in
      let closed : IsTrue (is_closed [] (guard_trees bs)) = subst (λ (es : List Expr). IsTrue (is_closed [] es)) (same_trees ks bs) (case_closed ks place js may f) in
      one_first (map (branch_meaning whole) bs) p x (arms t bs may r (arms_placed ks place bs may f) k u p x)
      (same_guards p bs ∙ closed_true ks p (guard_trees bs) (guards_settled t bs k) closed)

  at : (place : Span) (l : Layer) (may : May) (b : Bool) → EachPart R l → (walk.of_node ks (judged_layer ks l) place).fault may ≡ None
      → (walk.of_node ks (judged_layer ks l) place).settled b ≡ put place (roll-Node l) → IsFalse (layer_set l) → (p : Point) (x : Value) → IsOne (meaning.of_node whole (meant whole l)) p x
  at place (Node-F.One op a) may b r f s u p x = one op (meaning.meaning a) p x
  at place (Node-F.Two op a c) may b r f s u p x = two op (meaning.meaning a) (meaning.meaning c) (is_set a) (is_set c) p x u
  at place (Node-F.Range low high) may b r f s u p x = cc
  at place (Node-F.Set es) may b r f s u p x = cc
  at place (Node-F.Case bs) may b r f s u p x = case place bs may b r f s u p x
  at place _ may b r f s u p x = refl

  -- an expression without fault and settled, that is no set
  one_of : (e : Expr) → R e
  one_of = by_parts R (λ place l r may b f s u p x.
      subst (λ (m : Meaning). IsOne m p x) (sym (meaning_step whole place l))
      (at place l may b r (subst (λ (j : Judged). j.fault may ≡ None) (judged_step ks place l) f)
      (subst (λ (j : Judged). j.settled b ≡ put place (roll-Node l)) (judged_step ks place l) s)
      (sym (is_set_step place l) ∙ u) p x))

pub one_choice : (m : Model) → IsWellFormed m → (e : Expr) → IsExpressionOf m e → IsFalse (is_set e) → HasOneChoice m e
one_choice m w e k u s t flip h g x =
    let z = expression_sound m e w k in
    one_of (kinds_of m) e z.faultless.may z.settled.in_truth z.faultless.none z.settled.settles u (between m s t flip) x
