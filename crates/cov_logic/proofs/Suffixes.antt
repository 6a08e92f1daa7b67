-- Suffixes of a lasso.
use Rattle.std.proofs.Common.{◌≡◌, ℕ, zero, suc, ◌+◌, IsTrue, List, [], ◌∷◌, refl, ap, ◌∙◌, subst, arith}
use Rattle.cov_logic.specs.Structure.{Structure}
use Rattle.cov_logic.specs.Lasso.{Lasso, first_of}
use Rattle.cov_logic.specs.Suffix.{behind, suffix, at}
use Rattle.cov_logic.specs.FairLasso.{IsFair, IsFairFrom}
use Rattle.cov_logic.specs.LassoLaws.{SuffixIsFair}

-- a fair lasso begins at its state 0
pub from_start : {S : Type 0} {m : Structure S} (l : Lasso S) → IsFair m l → IsFairFrom m (at l 0) l
from_start l h = record { starts = refl; fair = h }

behind_fair : {S : Type 0} (m : Structure S) (stem : List S) (first : S) (rest : List S) →
    IsFair m (record { stem = stem; first = first; rest = rest }) → IsFair m (behind stem first rest)
behind_fair m [] first rest h = record { stem = h.turn.1; turn = h.turn; visits = h.visits }
behind_fair m (s ∷ ss) first rest h = record { stem = h.stem.1; turn = h.turn; visits = h.visits }

-- a suffix of a fair lasso is a fair lasso
pub suffix_fair : {S : Type 0} (m : Structure S) (k : ℕ) (l : Lasso S) → IsFair m l → IsFair m (suffix k l)
suffix_fair m zero l h = h
suffix_fair m (suc k) l h = suffix_fair m k (behind l.stem l.first l.rest) (behind_fair m l.stem l.first l.rest h)

-- and it begins at the k-th state
pub suffix_from : {S : Type 0} (m : Structure S) (k : ℕ) (l : Lasso S) → IsFair m l → IsFairFrom m (at l k) (suffix k l)
suffix_from m k l h = from_start (suffix k l) (suffix_fair m k l h)

-- the i-th state of the suffix is the one at k + i
pub at_suffix : {S : Type 0} (k i : ℕ) (l : Lasso S) → at (suffix k l) i ≡ at l (k + i)
at_suffix zero i l = let e : i ≡ 0 + i = omega arith in ap (at l) e
at_suffix (suc k) i l =
    let e : suc (k + i) ≡ suc k + i = omega arith in
    at_suffix k i (behind l.stem l.first l.rest) ∙ ap (at l) e

step_behind : {S : Type 0} (m : Structure S) (stem : List S) (first : S) (rest : List S) →
    IsFair m (record { stem = stem; first = first; rest = rest }) →
    IsTrue (m.step (first_of stem first) (at (behind stem first rest) 0))
step_behind m [] first rest h = h.turn.0
step_behind m (s ∷ ss) first rest h = h.stem.0

-- each state of a lasso steps to the next one
pub at_step : {S : Type 0} (m : Structure S) (k : ℕ) (l : Lasso S) → IsFair m l → IsTrue (m.step (at l k) (at l (suc k)))
at_step m zero l h = step_behind m l.stem l.first l.rest h
at_step m (suc k) l h = at_step m k (behind l.stem l.first l.rest) (behind_fair m l.stem l.first l.rest h)

-- the first state of a fair lasso from s is s, and steps to the second
pub first_step : {S : Type 0} (m : Structure S) (s : S) (l : Lasso S) → IsFairFrom m s l → IsTrue (m.step s (at l 1))
first_step m s l h = subst (λ t. IsTrue (m.step t (at l 1))) h.starts (at_step m 0 l h.fair)

pub suffix_law : (S : Type 0) → SuffixIsFair S
suffix_law S m s l k h = record {
  step = at_step m k l h.fair;
  fair = suffix_from m k l h.fair;
  states = λ i. at_suffix k i l;
}
