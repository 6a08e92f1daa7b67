-- An expression without `next` means the same where the same variables and DEFINEs are read.
use Rattle.std.proofs.Common.{◌≡◌, ℕ, Bool, false, not, ◌||◌, if◌then◌else◌, IsTrue, IsFalse, neg_ℤ, List, [], ◌∷◌, ◌++◌, map, Option, None, refl, sym, ap, subst, ◌∙◌, arith}
use Rattle.std.specs.Prelude.{◌==◌}
use Rattle.std.specs.List.{list_any, flat_map}
use Rattle.cov_syntax.specs.declared.tree.Span.{Span}
use Rattle.cov_syntax.specs.declared.tree.Value.{Value}
use Rattle.cov_syntax.specs.declared.tree.Value.TheVariants as v
use Rattle.cov_syntax.specs.declared.tree.Op1.{Op1}
use Rattle.cov_syntax.specs.declared.tree.Op1.TheVariants as op1
use Rattle.cov_syntax.specs.declared.tree.Op2.{Op2}
use Rattle.cov_syntax.specs.declared.tree.Op2.TheVariants as op2
use Rattle.cov_syntax.specs.declared.tree.Expr.{Expr}
use Rattle.cov_syntax.specs.declared.tree.Branch.{Branch}
use Rattle.cov_syntax.specs.declared.tree.Node.{Node}
use Rattle.cov_syntax.specs.declared.tree.Node.TheOpen.{Node-F}
use Rattle.cov_syntax.specs.declared.tree.Node.TheFolds.{map-Node, fold-Node, fold-Branch}
use Rattle.cov_model.specs.declared.model.Signal.{Signal}
use Rattle.cov_model.specs.declared.model.Signal.TheVariants as signal
use Rattle.cov_model.specs.Values.{item, same_value, truth as truth_of, number, operated, whole}
use Rattle.cov_model.specs.Meaning as meaning
use Rattle.cov_model.specs.Meaning.{Point, Meaning, of_branch, of_expr, first_body, flipped, single}
use Rattle.cov_model.specs.Kinds.{Kinds}
use Rattle.cov_model.specs.Order.{reads, reads_layer, has}
use Rattle.cov_model.specs.Walk as walk
use Rattle.cov_model.specs.Walk.{May, Judged, put, judged, plain_may, part_may, may_of_one, may_of_left, may_of_right}
use Rattle.cov_model.proofs.Closed.{judged_layer, judged_step, meant, branch_meaning, meaning_step}
use Rattle.cov_model.proofs.Joins.{or_left, any_left, any_right}
use Rattle.cov_order.proofs.ByParts.{Layer, EachItem, EachArm, EachPart, by_parts, fold_step, fold_branch}
use Rattle.cov_readings.proofs.Placed.{ItemsPlaced, ArmsPlaced, operand_placed, operands_placed, items_placed, arms_placed, next_may}

abbrev node_reads : Node → List ℕ
node_reads = fold-Node (List ℕ) (List ℕ) (List ℕ) reads_layer (λ b. b.guard ++ b.body) (λ e. e.node)

abbrev branch_reads : Branch → List ℕ
branch_reads = fold-Branch (List ℕ) (List ℕ) (List ℕ) reads_layer (λ b. b.guard ++ b.body) (λ e. e.node)

abbrev layer_reads : Layer → List ℕ
layer_reads l = reads_layer (map-Node Node Branch Expr (List ℕ) (List ℕ) (List ℕ) node_reads branch_reads reads l)

-- ---- places without `next`

left_may : (op : Op2) (may : May) → (may_of_left op may).next ≡ may.next
left_may op2.And may = refl
left_may op2.Or may = refl
left_may op2.Xor may = refl
left_may op2.Implies may = refl
left_may op2.Iff may = refl
left_may op2.Au may = refl
left_may op2.Eu may = refl
left_may op2.Union may = refl
left_may _ may = refl

right_may : (op : Op2) (may : May) → (may_of_right op may).next ≡ may.next
right_may op2.Member may = refl
right_may op may = left_may op may

-- what is read is the same at both points
pub record AreAlike (p q : Point) : Type 0 where
  pub vars : p.present.vars ≡ q.present.vars
  pub flip : p.present.flip ≡ q.present.flip

module _ (ks : Kinds) (p q : Point) (alike : AreAlike p q) where
  -- these DEFINEs have the same values
  abbrev Agree : List ℕ → Type 0
  Agree js = (i : ℕ) → IsTrue (has js i) → item p.present.defs i ≡ item q.present.defs i

  agree_left : (xs ys : List ℕ) → Agree (xs ++ ys) → Agree xs
  agree_left xs ys h = λ i k. h i (any_left (λ j. j == i) xs ys k)

  agree_right : (xs ys : List ℕ) → Agree (xs ++ ys) → Agree ys
  agree_right xs ys h = λ i k. h i (any_right (λ j. j == i) xs ys k)

  -- it means the same at both points
  abbrev Same : Meaning → Type 0
  Same m = (m.value p ≡ m.value q) × ((x : Value) → m.allows p x ≡ m.allows q x)

  same_single : (f : Point → Value) → f p ≡ f q → Same (single f)
  same_single f h = (h, λ x. ap (λ (y : Value). same_value y x) h)

  -- ---- what is read

  variable : (i : ℕ) → Same (single (λ r. meaning.variable r.present i))
  variable i = same_single (λ r. meaning.variable r.present i)
      (ap (λ (f : Option Signal). flipped f (signal.Var i) (item p.present.vars i)) alike.flip
      ∙ ap (λ (xs : List Value). flipped q.present.flip (signal.Var i) (item xs i)) alike.vars)

  own_place : (i : ℕ) → IsTrue (has (i ∷ []) i)
  own_place i = or_left (i == i) false (same i)
    where
      same : (i : ℕ) → IsTrue (i == i)
      same i = grind arith

  define : (i : ℕ) → Agree (i ∷ []) → Same (single (λ r. meaning.define r.present i))
  define i h = same_single (λ r. meaning.define r.present i)
      (ap (λ (f : Option Signal). flipped f (signal.Def i) (item p.present.defs i)) alike.flip
      ∙ ap (λ (x : Value). flipped q.present.flip (signal.Def i) x) (h i (own_place i)))

  -- ---- operators

  abbrev R : Expr → Type 0
  R e = (may : May) → IsFalse may.next → (judged ks e).fault may ≡ None → Agree (reads e) → Same (meaning.meaning e)

  one : (place : Span) (op : Op1) (a : Expr) (may : May) → R a → IsFalse may.next → (walk.of_node ks (Node-F.One op (judged ks a)) place).fault may ≡ None → Agree (reads a)
      → Same (meaning.prefixed whole op (meaning.meaning a))
  one place op1.Not a may r u f g =
      let s : Same (meaning.meaning a) = r (may_of_one op1.Not may) u (operand_placed ks place op1.Not a may f) g in
      same_single (λ o. v.Bool (not (truth_of ((meaning.meaning a).value o)))) (ap (λ (x : Value). v.Bool (not (truth_of x))) s.0)
  one place op1.Neg a may r u f g =
      let s : Same (meaning.meaning a) = r (may_of_one op1.Neg may) u (operand_placed ks place op1.Neg a may f) g in
      same_single (λ o. v.Int (whole (neg_ℤ (number ((meaning.meaning a).value o))))) (ap (λ (x : Value). v.Int (whole (neg_ℤ (number x)))) s.0)
  one place op1.Next a may r u f g = let h = next_may ks place (judged ks a) may f in cc
  one place _ a may r u f g = (refl, λ x. refl)

  two : (op : Op2) (a b : Meaning) → Same a → Same b → Same (meaning.joined whole op a b)
  two op2.Union a b s t = (refl, λ x. ap (λ (c : Bool). c || b.allows p x) (s.1 x) ∙ ap (λ (c : Bool). a.allows q x || c) (t.1 x))
  two op2.Member a b s t = same_single (λ o. v.Bool (b.allows o (a.value o))) (ap (λ (x : Value). v.Bool (b.allows p x)) s.0 ∙ ap v.Bool (t.1 (a.value q)))
  two op a b s t = same_single (λ o. operated whole op (a.value o) (b.value o))
      (ap (λ (x : Value). operated whole op x (b.value p)) s.0 ∙ ap (λ (x : Value). operated whole op (a.value q) x) t.0)

  -- ---- members and branches

  items : (es : List Expr) (may : May) → EachItem R es → IsFalse may.next → ItemsPlaced ks may es → Agree (flat_map (λ xs. xs) (map reads es)) → (x : Value)
      → list_any (λ (m : Meaning). m.allows p x) (map meaning.meaning es) ≡ list_any (λ (m : Meaning). m.allows q x) (map meaning.meaning es)
  items [] may r u f g x = refl
  items (e ∷ es) may r u f g x =
      let rest : List ℕ = flat_map (λ xs. xs) (map reads es) in
      let s : Same (meaning.meaning e) = r.0 may u f.0 (agree_left (reads e) rest g) in
      ap (λ (c : Bool). c || list_any (λ (m : Meaning). m.allows p x) (map meaning.meaning es)) (s.1 x)
      ∙ ap (λ (c : Bool). (meaning.meaning e).allows q x || c) (items es may r.1 u f.1 (agree_right (reads e) rest g) x)

  abbrev AllSame : List (Meaning × Meaning) → Type 0
  AllSame [] = Unit {0}
  AllSame (b ∷ bs) = (b.0.value p ≡ b.0.value q) × Same b.1 × AllSame bs

  meant_at : (b : Branch) → branch_meaning whole b ≡ (meaning.meaning b.guard, meaning.meaning b.body)
  meant_at b = fold_branch Meaning (Meaning × Meaning) Meaning (meaning.of_node whole) of_branch of_expr b

  reads_at : (b : Branch) → branch_reads b ≡ reads b.guard ++ reads b.body
  reads_at b = fold_branch (List ℕ) (List ℕ) (List ℕ) reads_layer (λ b. b.guard ++ b.body) (λ e. e.node) b

  arms : (bs : List Branch) (may : May) → EachArm R bs → IsFalse may.next → ArmsPlaced ks may bs → Agree (flat_map (λ xs. xs) (map branch_reads bs)) → AllSame (map (branch_meaning whole) bs)
  arms [] may r u f g = tt
  arms (b ∷ bs) may r u f g =
      let rest : List ℕ = flat_map (λ xs. xs) (map branch_reads bs) in
      let here : Agree (reads b.guard ++ reads b.body) = subst Agree (reads_at b) (agree_left (branch_reads b) rest g) in
      let guard : Same (meaning.meaning b.guard) = r.0 (plain_may may) u f.0 (agree_left (reads b.guard) (reads b.body) here) in
      let body : Same (meaning.meaning b.body) = r.1 (part_may may) u f.1 (agree_right (reads b.guard) (reads b.body) here) in (
        subst (λ (m : Meaning × Meaning). m.0.value p ≡ m.0.value q) (sym (meant_at b)) guard.0,
        subst (λ (m : Meaning × Meaning). Same m.1) (sym (meant_at b)) body,
        arms bs may r.2 u f.2 (agree_right (branch_reads b) rest g),
      )

  same_first : {A : Type 0} (none : A) (of to : Meaning → A) → ((m : Meaning) → Same m → of m ≡ to m) → (bs : List (Meaning × Meaning)) → AllSame bs
      → first_body of p none bs ≡ first_body to q none bs
  same_first none of to h [] s = refl
  same_first none of to h (b ∷ bs) s =
      ap (λ (x : Value). if truth_of x then of b.1 else first_body of p none bs) s.0
      ∙ ap (λ a. if truth_of (b.0.value q) then a else first_body of p none bs) (h b.1 s.1)
      ∙ ap (λ a. if truth_of (b.0.value q) then to b.1 else a) (same_first none of to h bs s.2)

  -- ---- trees

  at : (place : Span) (l : Layer) (may : May) → EachPart R l → IsFalse may.next → (walk.of_node ks (judged_layer ks l) place).fault may ≡ None → Agree (layer_reads l)
      → Same (meaning.of_node whole (meant whole l))
  at place (Node-F.Lit x) may r u f g = (refl, λ y. refl)
  at place (Node-F.Path path) may r u f g = (refl, λ y. refl)
  at place (Node-F.Var i) may r u f g = variable i
  at place (Node-F.Def i) may r u f g = define i g
  at place (Node-F.One op a) may r u f g = one place op a may r u f g
  at place (Node-F.Two op a b) may r u f g =
      let c = operands_placed ks place op a b may f in
      two op (meaning.meaning a) (meaning.meaning b)
      (r.0 (may_of_left op may) (left_may op may ∙ u) c.0 (agree_left (reads a) (reads b) g))
      (r.1 (may_of_right op may) (right_may op may ∙ u) c.1 (agree_right (reads a) (reads b) g))
  at place (Node-F.Range low high) may r u f g = (refl, λ y. refl)
  at place (Node-F.Set es) may r u f g = (refl, items es (part_may may) r u (items_placed ks place es may f) g)
  at place (Node-F.Case bs) may r u f g =
      let s : AllSame (map (branch_meaning whole) bs) = arms bs may r u (arms_placed ks place bs may f) g in
      let ms : List (Meaning × Meaning) = map (branch_meaning whole) bs in (
        same_first (v.Bool false) (λ m. m.value p) (λ m. m.value q) (λ m h. h.0) ms s,
        λ x. same_first false (λ m. m.allows p x) (λ m. m.allows q x) (λ m h. h.1 x) ms s,
      )

  -- without fault where no `next` may stand
  pub same_meaning : (e : Expr) → R e
  same_meaning = by_parts R (λ place l r may u f g.
      subst Same (sym (meaning_step whole place l))
      (at place l may r u (subst (λ (j : Judged). j.fault may ≡ None) (judged_step ks place l) f)
      (subst Agree (fold_step (List ℕ) (List ℕ) (List ℕ) reads_layer (λ b. b.guard ++ b.body) (λ e. e.node) place l) g)))
