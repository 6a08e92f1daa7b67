-- Lists of values in which one value alone has a property.
use Rattle.std.proofs.Common.{◌≡◌, List, [], ◌∷◌, Bool, true, false, ◌||◌, ◌&&◌, IsTrue, map, refl, sym, ◌∙◌, ap}
use Rattle.std.proofs.Math.Path.{fun_ext}
use Rattle.std.specs.List.{list_any, list_all}
use Rattle.cov_syntax.specs.declared.tree.Value.{Value}
use Rattle.cov_syntax.specs.declared.tree.Value.TheVariants as v
use Rattle.cov_model.specs.Kinds.{is_truth, member}
use Rattle.cov_model.specs.Values.{same_value, truth}
use Rattle.cov_model.proofs.Joins.{same_value-eq}
use Rattle.cov_types.proofs.Twice.{same_flip}

-- a value passes only where the one value does
none_of : (x : Value) (test : Value → Bool) (xs : List Value) → test x ≡ false → list_any (λ y. same_value x y && test y) xs ≡ false
none_of x test [] h = refl
none_of x test (y ∷ xs) h = by (same_value x y) refl (none_of x test xs h)
  where
    by : (b : Bool) → same_value x y ≡ b → list_any (λ y. same_value x y && test y) xs ≡ false → ((b && test y) || list_any (λ y. same_value x y && test y) xs) ≡ false
    by true e rest = ap (λ c. c || list_any (λ y. same_value x y && test y) xs) (ap test (sym (same_value-eq x y e)) ∙ h) ∙ rest
    by false e rest = rest

-- where the one value passes, it is found
found_one : (x : Value) (test : Value → Bool) (xs : List Value) → test x ≡ true → IsTrue (member xs x) → list_any (λ y. same_value x y && test y) xs ≡ true
found_one x test [] h m = cc
found_one x test (y ∷ xs) h m = by (same_value y x) refl m (λ k. found_one x test xs h k)
  where
    or_true : (b : Bool) → (b || true) ≡ true
    or_true true = refl
    or_true false = refl

    by : (b : Bool) → same_value y x ≡ b → IsTrue (b || member xs x) → (IsTrue (member xs x) → list_any (λ y. same_value x y && test y) xs ≡ true)
        → ((same_value x y && test y) || list_any (λ y. same_value x y && test y) xs) ≡ true
    by true e k rest =
        ap (λ c. (c && test y) || list_any (λ y. same_value x y && test y) xs) (same_flip x y ∙ e)
        ∙ ap (λ c. c || list_any (λ y. same_value x y && test y) xs) (ap test (same_value-eq y x e) ∙ h)
    by false e k rest = ap (λ c. (same_value x y && test y) || c) (rest k) ∙ or_true (same_value x y && test y)

-- some value that is the same as this one passes where this one does, if it is then in the list
pub only_one : (x : Value) (test : Value → Bool) (xs : List Value) → (IsTrue (test x) → IsTrue (member xs x)) → list_any (λ y. same_value x y && test y) xs ≡ test x
only_one x test xs m = by (test x) refl
  where
    by : (b : Bool) → test x ≡ b → list_any (λ y. same_value x y && test y) xs ≡ test x
    by true e = found_one x test xs e (m e) ∙ sym e
    by false e = none_of x test xs e ∙ sym e

pub any_same : {A : Type 0} (p q : A → Bool) (xs : List A) → ((x : A) → p x ≡ q x) → list_any p xs ≡ list_any q xs
any_same {A = A} p q xs h = ap (λ (f : A → Bool). list_any f xs) (fun_ext h)

pub any_map : {A B : Type 0} (f : A → B) (p : B → Bool) (xs : List A) → list_any p (map f xs) ≡ list_any (λ x. p (f x)) xs
any_map f p [] = refl
any_map f p (x ∷ xs) = ap (λ b. p (f x) || b) (any_map f p xs)

swapped : (a b : Bool) → (a && b) ≡ (b && a)
swapped true true = refl
swapped true false = refl
swapped false true = refl
swapped false false = refl

-- the same, with the test in front
pub only_one_behind : (x : Value) (test : Value → Bool) (xs : List Value) → (IsTrue (test x) → IsTrue (member xs x)) → list_any (λ y. test y && same_value x y) xs ≡ test x
only_one_behind x test xs m = any_same (λ y. test y && same_value x y) (λ y. same_value x y && test y) xs (λ y. swapped (test y) (same_value x y)) ∙ only_one x test xs m

-- ---- truths

pub same_true : (x : Value) → same_value x (v.Bool true) ≡ truth x
same_true (v.Bool true) = refl
same_true (v.Bool false) = refl
same_true (v.Int n) = refl
same_true (v.Sym n) = refl

-- a truth is TRUE where it may be TRUE
pub truth_kept : (x z : Value) → IsTrue (is_truth x) → same_value (v.Bool (same_value x (v.Bool true))) z ≡ same_value x z
truth_kept (v.Bool true) z h = refl
truth_kept (v.Bool false) z h = refl
truth_kept (v.Int n) z h = cc
truth_kept (v.Sym n) z h = cc

-- each value of a list of truths is one
pub truth_in : (xs : List Value) (x : Value) → IsTrue (list_all is_truth xs) → IsTrue (member xs x) → IsTrue (is_truth x)
truth_in [] x h m = cc
truth_in (y ∷ xs) x h m = by (is_truth y) (same_value y x) refl refl h m (λ i j. truth_in xs x i j)
  where
    by : (b s : Bool) → is_truth y ≡ b → same_value y x ≡ s → IsTrue (b && list_all is_truth xs) → IsTrue (s || member xs x) → (IsTrue (list_all is_truth xs) → IsTrue (member xs x) → IsTrue (is_truth x)) → IsTrue (is_truth x)
    by false s e f h m rest = cc
    by true true e f h m rest = ap is_truth (sym (same_value-eq y x f)) ∙ e
    by true false e f h m rest = rest h m
