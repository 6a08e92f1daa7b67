-- The numbers of the flat names among all names of a flat model.
use Rattle.std.proofs.Common.{◌≡◌, ℕ, zero, suc, ◌+◌, ◌<◌, ◌≤◌, inl, inr, Bool, true, false, not, cond, ◌==◌, List, [], ◌∷◌, ◌++◌, map, fold, length, slice_get, unwrap_or, Some, None, refl, sym, ap, subst, ◌∙◌, arith}
use Rattle.std.specs.List.{list_any, position_or_len}
use Rattle.std.specs.Str.{bytes_eq}
use Rattle.std.proofs.lemmas.Bool.{lt-ltb, and_from, or_cases}
use Rattle.std.proofs.lemmas.Option.{same_Some}
use Rattle.std.proofs.lemmas.Slice.Eq.{bytes_eq-Decides}
use Rattle.cov_model.specs.Names.{Text}
use Rattle.cov_model.specs.WellFormed.{all_different}
use Rattle.cov_modules.specs.Names.{Dotted, same_name}
use Rattle.cov_modules.specs.FlatLists.{added, number_of}
use Rattle.cov_modules.proofs.NameLemmas.{same-number}
use Rattle.cov_flatness.proofs.Among.{Among, among-left, among-right}
use Rattle.cov_flatness.proofs.Counting.{bit, times, same-self}

-- ---- texts put last

-- a place of a front
front-get : {A : Type 0} (xs ys : List A) (i : ℕ) (x : A) → slice_get xs i ≡ Some x → slice_get (xs ++ ys) i ≡ Some x
front-get [] ys i x h = absurd cc
front-get (z ∷ xs) ys zero x h = h
front-get (z ∷ xs) ys (suc i) x h = front-get xs ys i x h

-- what stands there stays at its place
pub all-kept : (ts names : List Text) (i : ℕ) (t : Text) → slice_get names i ≡ Some t → slice_get (fold added names ts) i ≡ Some t
all-kept [] names i t h = h
all-kept (u ∷ ts) names i t h = all-kept ts (added names u) i t (by (list_any (bytes_eq u) names))
  where
    by : (b : Bool) → slice_get (cond b names (names ++ u ∷ [])) i ≡ Some t
    by true = h
    by false = front-get names (u ∷ []) i t h

-- a text that passes stands there
among-any : (t : Text) (names : List Text) → list_any (bytes_eq t) names ≡ true → Among names t
among-any t [] h = absurd cc
among-any t (u ∷ us) h = elim (or_cases (bytes_eq t u) (list_any (bytes_eq t) us) h) [ inl e ↦ inl (sym ((bytes_eq-Decides t u).0 e)) | inr g ↦ inr (among-any t us g) ]

-- it stands there once it is put
among-added : (names : List Text) (t : Text) → Among (added names t) t
among-added names t = by (list_any (bytes_eq t) names) refl
  where
    by : (b : Bool) → list_any (bytes_eq t) names ≡ b → Among (cond b names (names ++ t ∷ [])) t
    by true e = among-any t names e
    by false e = among-right names (t ∷ []) t (inl refl)

still-among : (ts names : List Text) (t : Text) → Among names t → Among (fold added names ts) t
still-among [] names t h = h
still-among (u ∷ ts) names t h = still-among ts (added names u) t (by (list_any (bytes_eq u) names))
  where
    by : (b : Bool) → Among (cond b names (names ++ u ∷ [])) t
    by true = h
    by false = among-left names (u ∷ []) t h

pub all-among : (ts names : List Text) (t : Text) → Among ts t → Among (fold added names ts) t
all-among [] names t h = absurd h
all-among (u ∷ ts) names t (inl e) = still-among ts (added names u) t (subst (λ (v : Text). Among (added names u) v) e (among-added names u))
all-among (u ∷ ts) names t (inr h) = all-among ts (added names u) t h

-- ---- the number of a text

-- the first place at which it stands
first-place : (t : Text) (names : List Text) → Among names t → (position_or_len (bytes_eq t) names < length names) × (slice_get names (position_or_len (bytes_eq t) names) ≡ Some t)
first-place t [] h = absurd h
first-place t (u ∷ us) h = by (bytes_eq t u) refl (position_or_len (bytes_eq t) us) (first-place t us) h
  where
    by : (b : Bool) → bytes_eq t u ≡ b → (k : ℕ) → (Among us t → (k < length us) × (slice_get us k ≡ Some t)) → Among (u ∷ us) t
        → (cond (not b) (1 + k) 0 < length (u ∷ us)) × (slice_get (u ∷ us) (cond (not b) (1 + k) 0) ≡ Some t)
    by true e k rest h = (omega arith, ap (λ (v : Text). Some v) (sym ((bytes_eq-Decides t u).0 e)))
    by false e k rest (inl is) = absurd (let same : bytes_eq t u ≡ true = (bytes_eq-Decides t u).1 (sym is) in cc)
    by false e k rest (inr g) = let r = rest g in let next : 1 + k ≡ suc k = omega arith in (omega (arith, r.0), rw next r.1)

-- at its number stands the text
pub numbered : (names : List Text) (t : Text) → Among names t → slice_get names (number_of names t) ≡ Some t
numbered names t h =
    let at = first-place t names h in
    ap (λ (b : Bool). slice_get names (unwrap_or (cond b (Some (position_or_len (bytes_eq t) names)) None) 0)) (lt-ltb (position_or_len (bytes_eq t) names) (length names) at.0) ∙ at.1

-- so texts of one number are one
pub same-numbered : (names : List Text) (t u : Text) → Among names t → Among names u → number_of names t ≡ number_of names u → t ≡ u
same-numbered names t u h g e = same_Some t u (sym (numbered names t h) ∙ ap (slice_get names) e ∙ numbered names u g)

-- ---- different names have different numbers

-- a name that stands among others stands there once at least
among-times : (ds : List Dotted) (d : Dotted) → Among ds d → 1 ≤ times d ds
among-times [] d h = absurd h
among-times (e ∷ ds) d (inl is) = let one : bit (same_name d e) ≡ 1 = ap (λ (f : Dotted). bit (same_name d f)) is ∙ ap bit (same-self d) in omega (arith, one)
among-times (e ∷ ds) d (inr h) = let rest = among-times ds d h in omega (arith, rest)

-- a number that stands among those of some names is that of one of them
from-numbers : (f : Dotted → ℕ) (ds : List Dotted) (n : ℕ) → list_any (λ j. j == n) (map f ds) ≡ true → (d : Dotted) × Among ds d × (f d ≡ n)
from-numbers f [] n h = absurd cc
from-numbers f (d ∷ ds) n h = elim (or_cases (f d == n) (list_any (λ j. j == n) (map f ds)) h) [
  | inl e ↦ (d, inl refl, same-number (f d) n e)
  | inr g ↦ (let r = from-numbers f ds n g in (r.0, inr r.1, r.2))
]

-- a test that is not true
not-so : (b : Bool) → (b ≡ true → ⊥) → not b ≡ true
not-so true h = absurd (h refl)
not-so false h = refl

pub different-numbers : (f : Dotted → ℕ) (ds : List Dotted) → ((d e : Dotted) → Among ds d → Among ds e → f d ≡ f e → d ≡ e) → ((d : Dotted) → times d ds ≤ 1) → all_different (map f ds) ≡ true
different-numbers f [] same once = refl
different-numbers f (d ∷ ds) same once =
    and_from (not (list_any (λ j. j == f d) (map f ds))) (all_different (map f ds))
    (not-so (list_any (λ j. j == f d) (map f ds)) (λ h.
    let r = from-numbers f ds (f d) h in
    let is : r.0 ≡ d = same r.0 d (inr r.1) (inl refl) r.2 in
    let twice : 1 ≤ times d ds = among-times ds d (subst (λ (e : Dotted). Among ds e) is r.1) in
    let one : bit (same_name d d) ≡ 1 = ap bit (same-self d) in
    absurd (omega (arith, twice, one, once d))))
    (different-numbers f ds (λ a b h g. same a b (inr h) (inr g)) (λ e. let few = once e in omega arith))
