-- Texts that are put last where they are not there yet, and their numbers.
use Rattle.std.proofs.Common.{◌≡◌, ◌≢◌, ℕ, zero, suc, ◌+◌, ◌<◌, ◌≤◌, ◌++◌, ◌∷◌, [], Bool, true, false, cond, ◌||◌, All, List, length, get_or, Option, Some, None, refl, sym, ap, ◌∙◌, arith, length-append}
use Rattle.std.specs.Prelude.{slice_get, unwrap_or, nat_lt, Contains, IfSome, IfNone}
use Rattle.std.specs.List.{list_any, AllByRecursion, position_or_len}
use Rattle.std.specs.Str.{bytes_eq}
use Rattle.std.specs.Cmp.Lexicographic.{bytes_decides}
use Rattle.std.proofs.lemmas.Option.{slice_get_within, get_or_from_slice_get}
use Rattle.std.proofs.lemmas.List.Sums.{position_or_len_is}
use Rattle.cov_syntax.specs.Texts.{IsDistinctTexts}
use Rattle.cov_modules.specs.FlatLists.{added, number_of}

different : (t u : List ℕ) → u ≢ t → (b : Bool) → bytes_eq t u ≡ b → bytes_eq t u ≡ false
different t u n true e = absurd (n (sym ((bytes_decides t u).0 e)))
different t u n false e = e

equal : (t u : List ℕ) → t ≡ u → bytes_eq t u ≡ true
equal t u h = (bytes_decides t u).1 h

-- ---- a text that is put last

contains_more : (u t : List ℕ) (us : List (List ℕ)) → Contains us t → Contains (u ∷ us) t
contains_more u t us h = (suc h.0, omega (arith, h.1), h.2)

contains_by : (t u : List ℕ) (us : List (List ℕ)) (b : Bool) → bytes_eq t u ≡ b → (list_any (bytes_eq t) us ≡ true → Contains us t) → (b || list_any (bytes_eq t) us) ≡ true → Contains (u ∷ us) t
contains_by t u us true e f h = (0, omega arith, sym ((bytes_decides t u).0 e))
contains_by t u us false e f h = contains_more u t us (f h)

contains_any : (t : List ℕ) (us : List (List ℕ)) → list_any (bytes_eq t) us ≡ true → Contains us t
contains_any t [] h = absurd cc
contains_any t (u ∷ us) h = contains_by t u us (bytes_eq t u) refl (contains_any t us) h

both_false : (a b : Bool) → (a || b) ≡ false → (a ≡ false) × (b ≡ false)
both_false true b h = absurd cc
both_false false b h = (refl, h)

none_any : (t : List ℕ) (us : List (List ℕ)) → list_any (bytes_eq t) us ≡ false → (k : ℕ) (d : List ℕ) → k < length us → get_or us k d ≢ t
none_any t [] h k d below = absurd (omega arith)
none_any t (u ∷ us) h zero d below = λ same. let e : bytes_eq t u ≡ true = equal t u (sym same) in let n : bytes_eq t u ≡ false = (both_false (bytes_eq t u) (list_any (bytes_eq t) us) h).0 in absurd cc
none_any t (u ∷ us) h (suc k) d below = none_any t us (both_false (bytes_eq t u) (list_any (bytes_eq t) us) h).1 k d (omega arith)

added_by : (names new : List (List ℕ)) (t : List ℕ) (b : Bool) → list_any (bytes_eq t) names ≡ b → (Contains names t → new ≡ names) → (All (λ u. u ≢ t) names → new ≡ names ++ t ∷ []) → new ≡ cond b names (names ++ t ∷ [])
added_by names new t true e held put = held (contains_any t names e)
added_by names new t false e held put = put (λ k d below. none_any t names e k d below)

-- what a call has put
pub added_is : (names new : List (List ℕ)) (t : List ℕ) → (Contains names t → new ≡ names) → (All (λ u. u ≢ t) names → new ≡ names ++ t ∷ []) → new ≡ added names t
added_is names new t held put = added_by names new t (list_any (bytes_eq t) names) refl held put

longer_by : (names : List (List ℕ)) (t : List ℕ) (b : Bool) → length (cond b names (names ++ t ∷ [])) ≤ length names + 1
longer_by names t true = omega arith
longer_by names t false = omega (arith, length-append names (t ∷ []))

-- one more text at most
pub added-length : (names : List (List ℕ)) (t : List ℕ) → length (added names t) ≤ length names + 1
added-length names t = longer_by names t (list_any (bytes_eq t) names)

-- ---- numbers

differs_at : (u t : List ℕ) (us : List (List ℕ)) (i : ℕ) → AllByRecursion (λ v. u ≢ v) us → slice_get us i ≡ Some t → u ≢ t
differs_at u t [] i all h = absurd cc
differs_at u t (v ∷ vs) zero all h = let same : v ≡ t = cc in λ e. all.0 (e ∙ sym same)
differs_at u t (v ∷ vs) (suc i) all h = differs_at u t vs i all.1 h

before_differs : (names : List (List ℕ)) (t : List ℕ) (i : ℕ) → IsDistinctTexts names → slice_get names i ≡ Some t → (k : ℕ) → k < i → get_or names k [] ≢ t
before_differs [] t i d h k below = absurd cc
before_differs (u ∷ us) t zero d h k below = absurd (omega arith)
before_differs (u ∷ us) t (suc i) d h zero below = differs_at u t us i d.0 h
before_differs (u ∷ us) t (suc i) d h (suc k) below = before_differs us t i d.1 h k (omega arith)

-- the number of a text that is there
pub number_found : (names : List (List ℕ)) (t : List ℕ) (i : ℕ) → IsDistinctTexts names → slice_get names i ≡ Some t → number_of names t ≡ i
number_found names t i d h =
    let below : i < length names = slice_get_within names i t h in
    let at : get_or names i [] ≡ t = get_or_from_slice_get names i t [] h in
    let first : position_or_len (bytes_eq t) names ≡ i = position_or_len_is (bytes_eq t) names i [] (omega arith)
    (λ k before. different t (get_or names k []) (before_differs names t i d h k before) (bytes_eq t (get_or names k [])) refl)
    (λ below. equal t (get_or names i []) (sym at)) in
    let inside : nat_lt i (length names) ≡ true = grind arith in
    ap (λ (k : ℕ). unwrap_or (cond (nat_lt k (length names)) (Some k) None) 0) first ∙ ap (λ (b : Bool). unwrap_or (cond b (Some i) None) 0) inside

-- the number of a text that is not there
pub number_none : (names : List (List ℕ)) (t : List ℕ) → All (λ u. u ≢ t) names → number_of names t ≡ 0
number_none names t none =
    let last : position_or_len (bytes_eq t) names ≡ length names = position_or_len_is (bytes_eq t) names (length names) [] (omega arith)
    (λ k before. different t (get_or names k []) (none k [] before) (bytes_eq t (get_or names k [])) refl)
    (λ below. absurd (omega arith)) in
    let outside : nat_lt (length names) (length names) ≡ false = grind arith in
    ap (λ (k : ℕ). unwrap_or (cond (nat_lt k (length names)) (Some k) None) 0) last ∙ ap (λ (b : Bool). unwrap_or (cond b (Some (length names)) None) 0) outside

-- the number that a search gives
pub number_by : (names : List (List ℕ)) (t : List ℕ) (o : Option ℕ) → IsDistinctTexts names → IfSome o (λ i. slice_get names i ≡ Some t) → IfNone o (All (λ u. u ≢ t) names) → unwrap_or o 0 ≡ number_of names t
number_by names t (Some i) d found none = sym (number_found names t i d found)
number_by names t None d found none = sym (number_none names t none)
