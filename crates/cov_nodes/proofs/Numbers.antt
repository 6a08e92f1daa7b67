-- The number of a value in a list where none stands twice.
use Rattle.std.proofs.Common.{◌≡◌, ℕ, zero, suc, ◌<◌, ◌+◌, IsTrue, IsFalse, ◌==◌, ◌&&◌, ◌||◌, nat_lt, List, [], ◌∷◌, Bool, true, false, Option, Some, None, length, refl, sym, ◌∙◌, ap, subst, arith, eq-eqb}
use Rattle.std.specs.Prelude.{cond}
use Rattle.std.specs.List.{position_or_len}
use Rattle.std.proofs.lemmas.Bool.Decides.{nat_tests}
use Rattle.std.proofs.lemmas.Int.{ints}
use Rattle.std.proofs.lemmas.Bool.{and_parts, eqb-true, ltb-true, lt-ltb}
use Rattle.std.proofs.lemmas.List.Quantifiers.{position-Some}
use Rattle.std.proofs.lemmas.Option.{unwrap_or-slice_get}
use Rattle.cov_syntax.specs.declared.tree.Value.{Value}
use Rattle.cov_syntax.specs.declared.tree.Value.TheVariants as v
use Rattle.cov_model.specs.Kinds.{member}
use Rattle.cov_model.specs.Types.{has_twice}
use Rattle.cov_model.specs.Values.{item, same_value}
use Rattle.cov_model.proofs.Joins.{or_left, or_right, same_value-eq}
use Rattle.cov_families.specs.Families.{names}
use Rattle.cov_nodes.specs.Numbering.{number_in}

pub same_self : (x : Value) → IsTrue (same_value x x)
same_self (v.Bool true) = refl
same_self (v.Bool false) = refl
same_self (v.Int n) = grind (arith, ints)
same_self (v.Sym n) = grind arith

-- tests that follow from one another
pub equal_tests : (b c : Bool) → (b ≡ true → c ≡ true) → (c ≡ true → b ≡ true) → b ≡ c
equal_tests true c f g = sym (f refl)
equal_tests false true f g = g refl
equal_tests false false f g = refl

pub same_flip : (x y : Value) → same_value x y ≡ same_value y x
same_flip x y = equal_tests (same_value x y) (same_value y x) (λ h. turn x y h) (λ h. turn y x h)
  where
    turn : (x y : Value) → same_value x y ≡ true → same_value y x ≡ true
    turn x y h = subst (λ (z : Value). same_value z x ≡ true) (same_value-eq x y h) (same_self x)

-- a value that stands at a place is a member
pub member_at : (xs : List Value) (x : Value) (k : ℕ) → k < length xs → IsTrue (same_value (item xs k) x) → IsTrue (member xs x)
member_at [] x k lt h = absurd (omega arith)
member_at (y ∷ ys) x zero lt h = or_left (same_value y x) (member ys x) h
member_at (y ∷ ys) x (suc k) lt h = or_right (same_value y x) (member ys x) (member_at ys x k (omega arith) h)

and_both : (a b : Bool) → a ≡ true → b ≡ true → (a && b) ≡ true
and_both a b e f = ap (λ x. x && b) e ∙ f

or_none : (a b : Bool) → (a || b) ≡ false → (a ≡ false) × (b ≡ false)
or_none true b h = cc
or_none false b h = (refl, h)

-- the first place is where the value stands alone
first_at : (xs : List Value) (x : Value) (k : ℕ) → IsFalse (has_twice xs) → k < length xs → IsTrue (same_value (item xs k) x) → position_or_len (λ y. same_value y x) xs ≡ k
first_at [] x k once lt h = absurd (omega arith)
first_at (y ∷ ys) x zero once lt h = rw h refl
first_at (y ∷ ys) x (suc k) once lt h = by (same_value y x) refl (first_at ys x k (or_none (member ys y) (has_twice ys) once).1 (omega arith) h)
  where
    by : (b : Bool) → same_value y x ≡ b → position_or_len (λ y. same_value y x) ys ≡ k → position_or_len (λ y. same_value y x) (y ∷ ys) ≡ suc k
    by true e later =
        let other : y ≡ x = same_value-eq y x e in
        let twice : IsTrue (member ys y) = subst (λ (z : Value). IsTrue (member ys z)) (sym other) (member_at ys x k (omega arith) h) in
        let none : member ys y ≡ false = (or_none (member ys y) (has_twice ys) once).0 in
        absurd (cc)
    by false e later = rw e (ap (λ n. 1 + n) later ∙ omega arith)

-- so it has that number
pub number_at : (xs : List Value) (x : Value) (k : ℕ) → IsFalse (has_twice xs) → k < length xs → IsTrue (same_value (item xs k) x) → number_in xs x ≡ Some k
number_at xs x k once lt h =
    let e : position_or_len (λ y. same_value y x) xs ≡ k = first_at xs x k once lt h in
    let inside : nat_lt k (length xs) ≡ true = grind (arith, nat_tests) in
    ap (λ n. cond (nat_lt n (length xs)) (Some n) None) e ∙ ap (λ b. cond b (Some k) None) inside

-- a number is a place at which the value stands
pub number_found : (xs : List Value) (x : Value) (k : ℕ) → number_in xs x ≡ Some k → (k < length xs) × IsTrue (same_value (item xs k) x)
number_found xs x k e =
    let f = position-Some (λ y. same_value y x) xs k (v.Bool false) e in
    (f.0, subst (λ (z : Value). IsTrue (same_value z x)) (sym (unwrap_or-slice_get xs k (v.Bool false))) f.1)

-- the number of a value names the place at which it stands
pub names_number : (xs : List Value) (x : Value) (k : ℕ) → IsFalse (has_twice xs) → names (number_in xs x) k ≡ (nat_lt k (length xs) && same_value (item xs k) x)
names_number xs x k once = by (number_in xs x) refl
  where
    from : (nat_lt k (length xs) && same_value (item xs k) x) ≡ true → number_in xs x ≡ Some k
    from h = let p = and_parts (nat_lt k (length xs)) (same_value (item xs k) x) h in number_at xs x k once (ltb-true k (length xs) p.0) p.1

    into : number_in xs x ≡ Some k → (nat_lt k (length xs) && same_value (item xs k) x) ≡ true
    into e = let f = number_found xs x k e in and_both (nat_lt k (length xs)) (same_value (item xs k) x) (lt-ltb k (length xs) f.0) f.1

    by : (n : Option ℕ) → number_in xs x ≡ n → names n k ≡ (nat_lt k (length xs) && same_value (item xs k) x)
    by None e = equal_tests false _ (λ h. cc) (λ h. let is : number_in xs x ≡ Some k = from h in cc)
    by (Some j) e = equal_tests (j == k) _ (λ h. into (e ∙ ap (λ n. Some n) (eqb-true j k h))) (λ h. let is : number_in xs x ≡ Some k = from h in let same : j ≡ k = cc in eq-eqb j k same)
