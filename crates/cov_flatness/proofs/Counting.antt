-- How often a dotted name stands in a list, and what of a name is left behind another.
use Rattle.std.proofs.Common.{◌≡◌, ℕ, zero, suc, ◌+◌, ◌≤◌, Bool, true, false, cond, ◌&&◌, ◌==◌, not, nat_lt, eqb, if◌then◌else◌, List, [], ◌∷◌, ◌++◌, length, slice_get, unwrap_or, Some, None, refl, ap, ◌∙◌, arith}
use Rattle.std.specs.List.{flat_map, AllByRecursion, IsDistinct, position_or_len}
use Rattle.std.proofs.lemmas.Bool.Decides.{nat_tests}
use Rattle.std.proofs.lemmas.Bool.{and_parts, lt-ltb}
use Rattle.std.proofs.lemmas.Option.{slice_get_within}
use Rattle.std.proofs.lemmas.Map.Keys.{IsDistinct-head, IsDistinct-tail}
use Rattle.cov_modules.specs.Names.{Dotted, same_name}
use Rattle.cov_modules.specs.FlatLists.{place_in}
use Rattle.cov_modules.proofs.NameLemmas.{same-number, number-self}

-- ---- sums

-- one where the test is true
abbrev pub bit : Bool → ℕ
bit true = 1
bit false = 0

-- a number for each item, all together
abbrev pub sums : {A : Type 0} → (A → ℕ) → List A → ℕ
sums f [] = 0
sums f (x ∷ xs) = f x + sums f xs

-- of the front and of the rest
pub sums-append : {A : Type 0} (f : A → ℕ) (xs ys : List A) → sums f (xs ++ ys) ≡ sums f xs + sums f ys
sums-append f [] ys = omega arith
sums-append f (x ∷ xs) ys = let h = sums-append f xs ys in omega (arith, h)

-- of what each item gives
pub sums-flat : {A B : Type 0} (f : B → ℕ) (g : A → List B) (xs : List A) → sums f (flat_map g xs) ≡ sums (λ x. sums f (g x)) xs
sums-flat f g [] = refl
sums-flat f g (x ∷ xs) = sums-append f (g x) (flat_map g xs) ∙ ap (λ k. sums f (g x) + k) (sums-flat f g xs)

-- ---- how often a name stands in a list

abbrev pub times : Dotted → List Dotted → ℕ
times d = sums (λ e. bit (same_name d e))

-- a name has its own parts
pub same-self : (d : Dotted) → same_name d d ≡ true
same-self [] = refl
same-self (i ∷ is) = ap (λ b. b && same_name is is) (number-self i) ∙ same-self is

-- names with the same parts are one
pub same-is : (d e : Dotted) → same_name d e ≡ true → d ≡ e
same-is [] [] h = refl
same-is [] (j ∷ js) h = absurd cc
same-is (i ∷ is) [] h = absurd cc
same-is (i ∷ is) (j ∷ js) h =
    let parts = and_parts (i == j) (same_name is js) h in
    let head = same-number i j parts.0 in
    let tail = same-is is js parts.1 in
    cc

-- a name stands at least once where it stands
pub times-at : (xs : List Dotted) (i : ℕ) (d : Dotted) → slice_get xs i ≡ Some d → 1 ≤ times d xs
times-at [] i d h = absurd cc
times-at (x ∷ xs) zero d h =
    let is : x ≡ d = cc in
    let one : bit (same_name d x) ≡ 1 = ap (λ e. bit (same_name d e)) is ∙ ap bit (same-self d) in
    omega (arith, one)
times-at (x ∷ xs) (suc i) d h = let r = times-at xs i d h in omega (arith, r)

-- no test that counts nothing is true
bit-none : (b : Bool) → bit b ≡ 0 → b ≡ false
bit-none true h = absurd (omega arith)
bit-none false h = refl

-- a name that stands once is first found where it stands
first-place : (xs : List Dotted) (i : ℕ) (d : Dotted) → slice_get xs i ≡ Some d → times d xs ≤ 1 → position_or_len (same_name d) xs ≡ i
first-place [] i d h few = absurd cc
first-place (x ∷ xs) zero d h few = let is : x ≡ d = cc in ap (λ b. cond (not b) (1 + position_or_len (same_name d) xs) 0) (ap (same_name d) is ∙ same-self d)
first-place (x ∷ xs) (suc i) d h few =
    let later = times-at xs i d h in
    let other = bit-none (same_name d x) (omega (arith, later)) in
    let rest = first-place xs i d h (omega arith) in
    ap (λ b. cond (not b) (1 + position_or_len (same_name d) xs) 0) other ∙ omega (arith, rest)

-- it has the place at which it stands
pub place-is : (xs : List Dotted) (i : ℕ) (d : Dotted) → slice_get xs i ≡ Some d → times d xs ≤ 1 → place_in xs d ≡ i
place-is xs i d h few =
    let at = first-place xs i d h few in
    let within = slice_get_within xs i d h in
    ap (λ k. unwrap_or (cond (nat_lt k (length xs)) (Some k) None) 0) at ∙ ap (λ b. unwrap_or (cond b (Some i) None) 0) (lt-ltb i (length xs) within)

-- ---- what is left of a name behind another

-- a number for what is left, and 0 where the name does not begin so
abbrev pub behind : Dotted → Dotted → (Dotted → ℕ) → ℕ
behind [] d f = f d
behind (i ∷ is) [] f = 0
behind (i ∷ is) (j ∷ js) f = if i == j then behind is js f else 0

-- by a test
by-test : (P : ℕ → Type 0) (b : Bool) (k : ℕ) → P k → P 0 → P (cond b k 0)
by-test P true k h z = h
by-test P false k h z = z

-- nothing of it
pub behind-none : (a d : Dotted) → behind a d (λ q. 0) ≡ 0
behind-none [] d = refl
behind-none (i ∷ is) [] = refl
behind-none (i ∷ is) (j ∷ js) = by-test (λ k. k ≡ 0) (i == j) (behind is js (λ q. 0)) (behind-none is js) refl

-- two numbers together
pub behind-both : (a d : Dotted) (f g : Dotted → ℕ) → behind a d (λ q. f q + g q) ≡ behind a d f + behind a d g
behind-both [] d f g = refl
behind-both (i ∷ is) [] f g = refl
behind-both (i ∷ is) (j ∷ js) f g = by (i == j) (behind is js (λ q. f q + g q)) (behind is js f) (behind is js g) (behind-both is js f g)
  where
    by : (b : Bool) (k m n : ℕ) → k ≡ m + n → cond b k 0 ≡ cond b m 0 + cond b n 0
    by true k m n h = h
    by false k m n h = refl

-- a number that is never greater
pub behind-less : (a d : Dotted) (f g : Dotted → ℕ) → ((q : Dotted) → f q ≤ g q) → behind a d f ≤ behind a d g
behind-less [] d f g h = h d
behind-less (i ∷ is) [] f g h = omega arith
behind-less (i ∷ is) (j ∷ js) f g h = by (i == j) (behind is js f) (behind is js g) (behind-less is js f g h)
  where
    by : (b : Bool) (m n : ℕ) → m ≤ n → cond b m 0 ≤ cond b n 0
    by true m n h = h
    by false m n h = omega arith

-- behind one more part
pub behind-push : (a d : Dotted) (n : ℕ) (f : Dotted → ℕ) → behind (a ++ n ∷ []) d f ≡ behind a d (λ q. behind (n ∷ []) q f)
behind-push [] d n f = refl
behind-push (i ∷ is) [] n f = refl
behind-push (i ∷ is) (j ∷ js) n f = ap (λ k. cond (i == j) k 0) (behind-push is js n f)

-- the name with one part more
pub behind-same : (a d : Dotted) (n : ℕ) → bit (same_name d (a ++ n ∷ [])) ≡ behind a d (λ q. bit (same_name q (n ∷ [])))
behind-same [] d n = refl
behind-same (i ∷ is) [] n = refl
behind-same (i ∷ is) (j ∷ js) n = by i j ∙ ap (λ k. cond (i == j) k 0) (behind-same is js n)
  where
    turned : (i j : ℕ) → (j == i) ≡ (i == j)
    turned i j = grind (arith, nat_tests)

    split : (b c : Bool) → bit (b && c) ≡ cond b (bit c) 0
    split true c = refl
    split false c = refl

    by : (i j : ℕ) → bit ((j == i) && same_name js (is ++ n ∷ [])) ≡ cond (i == j) (bit (same_name js (is ++ n ∷ []))) 0
    by i j = ap (λ b. bit (b && same_name js (is ++ n ∷ []))) (turned i j) ∙ split (i == j) (same_name js (is ++ n ∷ []))

-- ---- how often a number stands in a list

abbrev pub counted : ℕ → List ℕ → ℕ
counted n = sums (λ i. bit (n == i))

-- a number that differs from each does not stand there
none-counted : (n : ℕ) (ns : List ℕ) → AllByRecursion (λ i. eqb n i ≡ false) ns → counted n ns ≡ 0
none-counted n [] h = refl
none-counted n (i ∷ is) h = let r = none-counted n is h.1 in let one : bit (n == i) ≡ 0 = ap bit h.0 in omega (arith, r, one)

-- different numbers stand there once at most
pub counted-once : (n : ℕ) (ns : List ℕ) → IsDistinct eqb ns → counted n ns ≤ 1
counted-once n [] d = omega arith
counted-once n (i ∷ is) d = by (n == i) refl (counted-once n is (IsDistinct-tail eqb i is d))
  where
    by : (b : Bool) → (n == i) ≡ b → counted n is ≤ 1 → bit b + counted n is ≤ 1
    by true e rest =
        let same = same-number n i e in
        let none : counted n is ≡ 0 = ap (λ k. counted k is) same ∙ none-counted i is (IsDistinct-head eqb i is d) in
        omega (arith, none)
    by false e rest = omega arith
