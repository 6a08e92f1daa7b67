-- Lists of the states of a finite structure: a state at either end of a step is found in it, and has a place of its own.
use Rattle.std.proofs.Common.{◌≡◌, ℕ, suc, ◌<◌, Bool, false, if◌then◌else◌, IsTrue, inl, inr, List, [], ◌∷◌, length, sym, ◌∙◌, subst, arith}
use Rattle.std.specs.List.{AllByRecursion, list_any}
use Rattle.std.proofs.lemmas.Bool.{or_cases, or_left, or_right, cases_Bool, cond-true, cond-false}
use Rattle.cov_logic.specs.Structure.{Structure}
use Rattle.cov_logic.specs.Sets.{Set}
use Rattle.cov_logic.specs.Finite.{IsFinite}

-- some element passes the test
pub some_in : {S : Type 0} (p : S → Bool) (states : List S) → IsTrue (list_any p states) → (s : S) × IsTrue (p s)
some_in p [] e = cc
some_in p (s ∷ ss) e = elim (or_cases (p s) (list_any p ss) e) [ inl h ↦ (s, h) | inr h ↦ some_in p ss h ]

module _ {S : Type 0} (m : Structure S) (same : S → S → Bool) (states : List S) (finite : IsFinite m same states) where
  -- the state is in the list
  abbrev pub listed : Set S
  listed s = list_any (same s) states

  -- a listed state that passes the test is found
  pub found_in : (p : S → Bool) (s : S) (ss : List S) → IsTrue (list_any (same s) ss) → IsTrue (p s) → IsTrue (list_any p ss)
  found_in p s [] e h = cc
  found_in p s (t ∷ ts) e h =
      elim (or_cases (same s t) (list_any (same s) ts) e) [
        | inl q ↦ or_left (p t) (list_any p ts) (subst (λ u. IsTrue (p u)) ((finite.same_is s t).0 q) h)
        | inr q ↦ or_right (p t) (list_any p ts) (found_in p s ts q h)
      ]

  -- what holds of each listed state
  pub at_listed : (P : S → Type 0) (s : S) (ss : List S) → IsTrue (list_any (same s) ss) → AllByRecursion P ss → P s
  at_listed P s [] e h = cc
  at_listed P s (t ∷ ts) e h =
      elim (or_cases (same s t) (list_any (same s) ts) e) [
        | inl q ↦ subst P (sym ((finite.same_is s t).0 q)) h.0
        | inr q ↦ at_listed P s ts q h.1
      ]

  later : (s t : S) (ts : List S) → IsTrue (list_any (same s) (t ∷ ts)) → same s t ≡ false → IsTrue (list_any (same s) ts)
  later s t ts e q = elim (or_cases (same s t) (list_any (same s) ts) e) [ inl h ↦ cc | inr h ↦ h ]

  -- the place of a state in the list
  pub place : S → List S → ℕ
  place s [] = 0
  place s (t ∷ ts) = if same s t then 0 else suc (place s ts)

  pub place_below : (s : S) (ss : List S) → IsTrue (list_any (same s) ss) → place s ss < length ss
  unfolding place
  place_below s [] e = cc
  place_below s (t ∷ ts) e =
      elim (cases_Bool (same s t)) [
        | inl q ↦ let here = cond-true (same s t) 0 (suc (place s ts)) q in omega arith
        | inr q ↦
            let there = cond-false (same s t) 0 (suc (place s ts)) q in
            let rest = place_below s ts (later s t ts e q) in
            omega arith
      ]

  pub place_apart : (s t : S) (ss : List S) → IsTrue (list_any (same s) ss) → IsTrue (list_any (same t) ss) → place s ss ≡ place t ss → s ≡ t
  unfolding place
  place_apart s t [] d e h = cc
  place_apart s t (u ∷ us) d e h =
      elim (cases_Bool (same s u)) [
        | inl p ↦ elim (cases_Bool (same t u)) [
          | inl q ↦ (finite.same_is s u).0 p ∙ sym ((finite.same_is t u).0 q)
          | inr q ↦
              let here = cond-true (same s u) 0 (suc (place s us)) p in
              let there = cond-false (same t u) 0 (suc (place t us)) q in
              absurd (omega arith)
        ]
        | inr p ↦ elim (cases_Bool (same t u)) [
          | inl q ↦
              let here = cond-true (same t u) 0 (suc (place t us)) q in
              let there = cond-false (same s u) 0 (suc (place s us)) p in
              absurd (omega arith)
          | inr q ↦
              let one = cond-false (same s u) 0 (suc (place s us)) p in
              let other = cond-false (same t u) 0 (suc (place t us)) q in
              place_apart s t us (later s u us d p) (later t u us e q) (omega arith)
        ]
      ]
