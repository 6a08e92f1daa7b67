-- Cubes added up to a limit.
use Rattle.std.proofs.Common.{◌≡◌, ◌⊎◌, inl, inr, ℕ, zero, suc, ◌<◌, ◌≤◌, ◌+◌, ◌||◌, ◌++◌, List, [], ◌∷◌, Bool, true, false, IsTrue, length, map, take, refl, sym, ◌∙◌, ap, ap₂, arith, subst, append_assoc, length-append}
use Rattle.std.specs.Prelude.{nat_lt, min}
use Rattle.std.specs.List.{list_all}
use Rattle.std.proofs.lemmas.Bool.{cases_lt}
use Rattle.std.proofs.lemmas.List.{length-take, take-append-le, take_all, append-nil, map-append}
use Rattle.cov_model.specs.declared.model.CubeList.{CubeList}
use Rattle.cov_classes.proofs.Listing.{and_split, and_join, or_split, or_left, or_right, below, is_below}
use Rattle.cov_cubes.specs.declared.found.Found.{Found}
use Rattle.cov_cubes.specs.Steps.{added, behind}
use Rattle.cov_cubes.proofs.Equal.{bool_same}

take_again : {X : Type 0} (n : ℕ) (xs ys : List X) → take n (take n xs ++ ys) ≡ take n (xs ++ ys)
take_again zero xs ys = refl
take_again (suc n) [] ys = refl
take_again (suc n) (x ∷ xs) ys = ap (λ l. x ∷ l) (take_again n xs ys)

limited : (limit a b : ℕ) → (nat_lt limit a || nat_lt limit (min limit a + b)) ≡ nat_lt limit (a + b)
limited limit a b =
    bool_same _ _ (λ h. by (or_split (nat_lt limit a) (nat_lt limit (min limit a + b)) h))
    (λ h. let lt : limit < a + b = below limit (a + b) h in over (cases limit a) lt)
  where
    cases : (x y : ℕ) → (x < y) ⊎ (y ≤ x)
    cases x y = cases_lt x y

    by : IsTrue (nat_lt limit a) ⊎ IsTrue (nat_lt limit (min limit a + b)) → IsTrue (nat_lt limit (a + b))
    by (inl h) = let lt : limit < a = below limit a h in is_below limit (a + b) (omega arith)
    by (inr h) = let lt : limit < min limit a + b = below limit (min limit a + b) h in is_below limit (a + b) (omega arith)

    over : (limit < a) ⊎ (a ≤ limit) → limit < a + b → IsTrue (nat_lt limit a || nat_lt limit (min limit a + b))
    over (inl lt) h = or_left (nat_lt limit a) (nat_lt limit (min limit a + b)) (is_below limit a lt)
    over (inr le) h = or_right (nat_lt limit a) (nat_lt limit (min limit a + b)) (is_below limit (min limit a + b) (omega arith))

or_assoc : (a b c : Bool) → ((a || b) || c) ≡ (a || (b || c))
or_assoc true b c = refl
or_assoc false b c = refl

pub added_more : (limit : ℕ) (l : CubeList) (xs ys : List (List (List ℕ))) → added limit (added limit l xs) ys ≡ added limit l (xs ++ ys)
added_more limit l xs ys =
    let n : length (take limit (l.cubes ++ xs)) ≡ min limit (length l.cubes + length xs) = length-take limit (l.cubes ++ xs) ∙ ap (min limit) (length-append l.cubes xs) in
    let m : length l.cubes + length xs + length ys ≡ length l.cubes + length (xs ++ ys) = omega (arith, length-append xs ys) in
    ap₂ (λ (c : List (List (List ℕ))) (b : Bool). record { cubes = c; more = b })
    (take_again limit (l.cubes ++ xs) ys ∙ ap (take limit) (append_assoc l.cubes xs ys))
    (or_assoc l.more (nat_lt limit (length l.cubes + length xs)) (nat_lt limit (length (take limit (l.cubes ++ xs)) + length ys))
    ∙ ap (λ b. l.more || b) (ap (λ k. nat_lt limit (length l.cubes + length xs) || nat_lt limit (k + length ys)) n ∙ limited limit (length l.cubes + length xs) (length ys) ∙ ap (nat_lt limit) m))

-- where there are others already, further ones change nothing
pub added_full : (limit : ℕ) (l : CubeList) (xs ys : List (List (List ℕ))) → l.more ≡ false → (added limit l xs).more ≡ true → added limit l (xs ++ ys) ≡ added limit l xs
added_full limit l xs ys open' full =
    let t : nat_lt limit (length l.cubes + length xs) ≡ true = ap (λ b. b || nat_lt limit (length l.cubes + length xs)) (sym open') ∙ full in
    let lt : limit < length l.cubes + length xs = below limit (length l.cubes + length xs) (subst IsTrue (sym t) (cc)) in
    let n : length (l.cubes ++ xs) ≡ length l.cubes + length xs = length-append l.cubes xs in
    let m : length (xs ++ ys) ≡ length xs + length ys = length-append xs ys in
    ap₂ (λ (c : List (List (List ℕ))) (b : Bool). record { cubes = c; more = b })
    (ap (take limit) (sym (append_assoc l.cubes xs ys)) ∙ take-append-le limit (l.cubes ++ xs) ys (omega arith))
    (bool_same _ _ (λ h. subst IsTrue (sym full) (cc)) (λ h. or_right l.more (nat_lt limit (length l.cubes + length (xs ++ ys))) (is_below limit (length l.cubes + length (xs ++ ys)) (omega arith))))

pub added_none : (limit : ℕ) (l : CubeList) → l.more ≡ false → length l.cubes ≤ limit → added limit l [] ≡ l
added_none limit l open' few =
    ap₂ (λ (c : List (List (List ℕ))) (b : Bool). record { cubes = c; more = b })
    (ap (take limit) (append-nil l.cubes) ∙ take_all limit l.cubes few)
    (bool_same _ _ (λ h. by (or_split l.more (nat_lt limit (length l.cubes + 0)) h)) (λ h. or_left l.more (nat_lt limit (length l.cubes + 0)) h))
  where
    by : IsTrue l.more ⊎ IsTrue (nat_lt limit (length l.cubes + 0)) → IsTrue l.more
    by (inl h) = h
    by (inr h) = let lt : limit < length l.cubes + 0 = below limit (length l.cubes + 0) h in absurd (omega arith)

few_added : (limit : ℕ) (l : CubeList) (xs : List (List (List ℕ))) → length (added limit l xs).cubes ≤ limit
few_added limit l xs = omega (arith, length-take limit (l.cubes ++ xs))

-- there are at most as many cubes as the limit after a step
pub few_found : (old new : Found) (xs : List (List (List ℕ))) → new ≡ record old { list = added old.limit old.list xs } → length new.list.cubes ≤ new.limit
few_found old new xs is = subst (λ (f : Found). length f.list.cubes ≤ f.limit) (sym is) (few_added old.limit old.list xs)

-- ---- behind further classes

pub behind_append : (front : List (List ℕ)) (xs ys : List (List (List ℕ))) → behind front (xs ++ ys) ≡ behind front xs ++ behind front ys
behind_append front xs ys = map-append (λ c. front ++ c) xs ys

pub behind_more : (front more : List (List ℕ)) (xs : List (List (List ℕ))) → behind (front ++ more) xs ≡ behind front (behind more xs)
behind_more front more [] = refl
behind_more front more (x ∷ xs) = ap₂ (λ (c : List (List ℕ)) (l : List (List (List ℕ))). c ∷ l) (append_assoc front more x) (behind_more front more xs)

pub behind_first : (class : List ℕ) (more : List (List ℕ)) (xs : List (List (List ℕ))) → behind (class ∷ more) xs ≡ map (λ c. class ∷ c) (behind more xs)
behind_first class more [] = refl
behind_first class more (x ∷ xs) = ap (λ (l : List (List (List ℕ))). (class ∷ (more ++ x)) ∷ l) (behind_first class more xs)

pub behind_none : (xs : List (List (List ℕ))) → behind [] xs ≡ xs
behind_none [] = refl
behind_none (x ∷ xs) = ap (λ (l : List (List (List ℕ))). x ∷ l) (behind_none xs)

-- what all have, the first ones have
pub all_taken : {X : Type 0} (p : X → Bool) (n : ℕ) (xs : List X) → IsTrue (list_all p xs) → IsTrue (list_all p (take n xs))
all_taken p zero xs h = cc
all_taken p (suc n) [] h = cc
all_taken p (suc n) (x ∷ xs) h = let s = and_split (p x) (list_all p xs) h in and_join (p x) (list_all p (take n xs)) s.0 (all_taken p n xs s.1)

-- all cubes were looked for, from none on
pub found_all : (mid new : Found) (front more : List (List ℕ)) (none xs whole : List (List (List ℕ))) (limit : ℕ) → front ≡ [] → none ≡ []
    → mid ≡ record { front = front ++ more; limit = limit; list = record { cubes = none; more = false } } → new ≡ record mid { list = added mid.limit mid.list (behind mid.front xs) }
    → whole ≡ behind more xs → (new.list.cubes ≡ take limit whole) × (new.list.more ≡ nat_lt limit (length whole))
found_all mid new front more none xs whole limit no_front no_cubes entered is all =
    let start : mid ≡ record { front = more; limit = limit; list = record { cubes = []; more = false } } =
    entered ∙ ap₂ (λ (f : List (List ℕ)) (l : List (List (List ℕ))). record { front = f ++ more; limit = limit; list = record { cubes = l; more = false } }) no_front no_cubes in
    let done : new ≡ record { front = more; limit = limit; list = added limit (record { cubes = []; more = false }) whole } =
    is ∙ ap (λ (f : Found). record f { list = added f.limit f.list (behind f.front xs) }) start
    ∙ ap (λ (l : List (List (List ℕ))). record { front = more; limit = limit; list = added limit (record { cubes = []; more = false }) l }) (sym all) in
    let zero_more : 0 + length whole ≡ length whole = omega arith in
    (ap (λ (f : Found). f.list.cubes) done, ap (λ (f : Found). f.list.more) done ∙ ap (nat_lt limit) zero_more)
