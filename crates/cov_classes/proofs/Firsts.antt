-- The first state of a set is the least by value places.
use Rattle.std.proofs.Common.{◌≡◌, ℕ, zero, suc, ◌+◌, ◌<◌, ◌≤◌, ◌⊎◌, inl, inr, Bool, true, false, if◌then◌else◌, IsTrue, List, [], ◌∷◌, ◌++◌, map, Option, Some, None, refl, sym, ◌∙◌, ap, arith, subst}
use Rattle.std.specs.Prelude.{nat_lt, ◌==◌, find}
use Rattle.std.specs.List.{flat_map, range_with_len}
use Rattle.cov_classes.specs.Cubes.{Set, states, rest}
use Rattle.cov_classes.specs.Partition.{is_typed, first_state, comes_before, IsFirst}
use Rattle.cov_classes.proofs.Listing.{at_or_after, and_split, and_join, below, is_below}

-- the first that is there
abbrev pub or_else : {A : Type 0} → Option A → Option A → Option A
or_else (Some x) o = Some x
or_else None o = o

find_append : {A : Type 0} (p : A → Bool) (xs ys : List A) → find p (xs ++ ys) ≡ or_else (find p xs) (find p ys)
find_append p [] ys = refl
find_append p (x ∷ xs) ys = by (p x) (find_append p xs ys)
  where
    by : (b : Bool) → find p (xs ++ ys) ≡ or_else (find p xs) (find p ys) → (if b then Some x else find p (xs ++ ys)) ≡ or_else (if b then Some x else find p xs) (find p ys)
    by true e = refl
    by false e = e

-- a state with one more place in front
abbrev pub fronted : ℕ → Option (List ℕ) → Option (List ℕ)
fronted v None = None
fronted v (Some s) = Some (v ∷ s)

find_mapped : (set : Set) (v : ℕ) (ss : List (List ℕ)) → find set (map (λ s. v ∷ s) ss) ≡ fronted v (find (rest set v) ss)
find_mapped set v [] = refl
find_mapped set v (s ∷ ss) = by (set (v ∷ s)) (find_mapped set v ss)
  where
    by : (b : Bool) → find set (map (λ s. v ∷ s) ss) ≡ fronted v (find (rest set v) ss)
        → (if b then Some (v ∷ s) else find set (map (λ s. v ∷ s) ss)) ≡ fronted v (if b then Some s else find (rest set v) ss)
    by true e = refl
    by false e = e

-- the first state of a set, by the values of the first variable from one on
abbrev pub first_from : List ℕ → Set → ℕ → ℕ → Option (List ℕ)
first_from ns set a zero = None
first_from ns set a (suc n) = or_else (fronted a (first_state ns (rest set a))) (first_from ns set (a + 1) n)

pub by_values : (ns : List ℕ) (set : Set) (a n : ℕ) → find set (flat_map (λ v. map (λ s. v ∷ s) (states ns)) (range_with_len a n)) ≡ first_from ns set a n
by_values ns set a zero = refl
by_values ns set a (suc n) =
    find_append set (map (λ s. a ∷ s) (states ns)) (flat_map (λ v. map (λ s. v ∷ s) (states ns)) (range_with_len (a + 1) n))
    ∙ ap (λ o. or_else o (find set (flat_map (λ v. map (λ s. v ∷ s) (states ns)) (range_with_len (a + 1) n)))) (find_mapped set a (states ns))
    ∙ ap (λ o. or_else (fronted a (first_state ns (rest set a))) o) (by_values ns set (a + 1) n)

-- the least state whose first place is from a on and below a + n
abbrev IsFirstFrom : List ℕ → Set → ℕ → ℕ → Option (List ℕ) → Type 0
IsFirstFrom ns set a n None = (v : ℕ) (t : List ℕ) → a ≤ v → v < a + n → IsTrue (is_typed ns t) → IsTrue (set (v ∷ t)) → ⊥
IsFirstFrom ns set a n (Some []) = ⊥
IsFirstFrom ns set a n (Some (v ∷ s)) = (a ≤ v) × (v < a + n) × IsTrue (is_typed ns s) × IsTrue (set (v ∷ s))
    × ((w : ℕ) (t : List ℕ) → a ≤ w → w < a + n → IsTrue (is_typed ns t) → IsTrue (set (w ∷ t)) → IsTrue (comes_before (w ∷ t) (v ∷ s)) → ⊥)

before_in_front : (v w : ℕ) (t s : List ℕ) → IsTrue (comes_before (w ∷ t) (v ∷ s)) → ((w ≡ v) × IsTrue (comes_before t s)) ⊎ (w < v)
before_in_front v w t s h = by (w == v) refl
  where
    by : (b : Bool) → (w == v) ≡ b → ((w ≡ v) × IsTrue (comes_before t s)) ⊎ (w < v)
    by true e = inl (let x : w ≡ v = grind arith in (x, cc))
    by false e = inr (let k : IsTrue (nat_lt w v) = cc in below w v k)

here : (ns : List ℕ) (set : Set) (a n : ℕ) (s : List ℕ) → IsFirst ns (rest set a) (Some s) → IsFirstFrom ns set a (suc n) (Some (a ∷ s))
here ns set a n s h = (omega arith, omega arith, h.0, h.1, λ w t lo hi typed is before. by w t lo typed is (before_in_front a w t s before))
  where
    by : (w : ℕ) (t : List ℕ) → a ≤ w → IsTrue (is_typed ns t) → IsTrue (set (w ∷ t)) → ((w ≡ a) × IsTrue (comes_before t s)) ⊎ (w < a) → ⊥
    by w t lo typed is (inl e) = h.2 t typed (subst (λ x. IsTrue (set (x ∷ t))) e.0 is) e.1
    by w t lo typed is (inr lt) = absurd (omega arith)

later : (ns : List ℕ) (set : Set) (a n : ℕ) (o : Option (List ℕ)) → IsFirst ns (rest set a) None → IsFirstFrom ns set (a + 1) n o → IsFirstFrom ns set a (suc n) o
later ns set a n None none h = λ v t lo hi typed is. by v t typed is hi (at_or_after a v lo)
  where
    by : (v : ℕ) (t : List ℕ) → IsTrue (is_typed ns t) → IsTrue (set (v ∷ t)) → v < a + suc n → (a ≡ v) ⊎ (a < v) → ⊥
    by v t typed is hi (inl e) = none t typed (subst (λ x. IsTrue (set (x ∷ t))) (sym e) is)
    by v t typed is hi (inr lt) = h v t (omega arith) (omega arith) typed is
later ns set a n (Some []) none h = h
later ns set a n (Some (v ∷ s)) none h =
    let lo = h.0 in
    let hi = h.1 in
    (omega arith, omega arith, h.2, h.3, λ w t lo hi typed is before. by w t typed is before hi (at_or_after a w lo))
  where
    by : (w : ℕ) (t : List ℕ) → IsTrue (is_typed ns t) → IsTrue (set (w ∷ t)) → IsTrue (comes_before (w ∷ t) (v ∷ s)) → w < a + suc n → (a ≡ w) ⊎ (a < w) → ⊥
    by w t typed is before hi (inl e) = none t typed (subst (λ x. IsTrue (set (x ∷ t))) (sym e) is)
    by w t typed is before hi (inr lt) = h.4 w t (omega arith) (omega arith) typed is before

from : (ns : List ℕ) (set : Set) → ((v : ℕ) → IsFirst ns (rest set v) (first_state ns (rest set v))) → (a n : ℕ) → IsFirstFrom ns set a n (first_from ns set a n)
from ns set each a zero = λ v t lo hi typed is. absurd (omega arith)
from ns set each a (suc n) = by (first_state ns (rest set a)) (each a) (from ns set each (a + 1) n)
  where
    by : (o : Option (List ℕ)) → IsFirst ns (rest set a) o → IsFirstFrom ns set (a + 1) n (first_from ns set (a + 1) n) → IsFirstFrom ns set a (suc n) (or_else (fronted a o) (first_from ns set (a + 1) n))
    by (Some s) h go = here ns set a n s h
    by None h go = later ns set a n (first_from ns set (a + 1) n) h go

whole : (n : ℕ) (ns : List ℕ) (set : Set) (o : Option (List ℕ)) → IsFirstFrom ns set 0 n o → IsFirst (n ∷ ns) set o
whole n ns set None h = by
  where
    by : (t : List ℕ) → IsTrue (is_typed (n ∷ ns) t) → IsTrue (set t) → ⊥
    by [] typed is = absurd (cc)
    by (v ∷ t) typed is = let c = and_split (nat_lt v n) (is_typed ns t) typed in let lt : v < n = below v n c.0 in h v t (omega arith) (omega arith) c.1 is
whole n ns set (Some []) h = absurd h
whole n ns set (Some (v ∷ s)) h = let lt : v < n = (let hi = h.1 in omega arith) in (and_join (nat_lt v n) (is_typed ns s) (is_below v n lt) h.2, h.3, by)
  where
    by : (t : List ℕ) → IsTrue (is_typed (n ∷ ns) t) → IsTrue (set t) → IsTrue (comes_before t (v ∷ s)) → ⊥
    by [] typed is before = absurd (cc)
    by (w ∷ t) typed is before = let c = and_split (nat_lt w n) (is_typed ns t) typed in let lt : w < n = below w n c.0 in h.4 w t (omega arith) (omega arith) c.1 is before

pub first : (counts : List ℕ) (set : Set) → IsFirst counts set (first_state counts set)
first [] set = by (set []) refl
  where
    none : (b : Bool) → set [] ≡ false → (t : List ℕ) → IsTrue (is_typed [] t) → IsTrue (set t) → ⊥
    none b e [] typed is = absurd (cc)
    none b e (v ∷ t) typed is = absurd (cc)

    least : (t : List ℕ) → IsTrue (is_typed [] t) → IsTrue (set t) → IsTrue (comes_before t []) → ⊥
    least [] typed is before = absurd (cc)
    least (v ∷ t) typed is before = absurd (cc)

    by : (b : Bool) → set [] ≡ b → IsFirst [] set (if b then Some [] else None)
    by true e = (cc, subst IsTrue (sym e) (cc), least)
    by false e = none false e
first (n ∷ ns) set = subst (IsFirst (n ∷ ns) set) (sym (by_values ns set 0 n)) (whole n ns set (first_from ns set 0 n) (from ns set (λ v. first ns (rest set v)) 0 n))
