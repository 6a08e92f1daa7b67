-- Laws of lassos.
use Rattle.std.specs.Prelude.{◌≡◌, ℕ, suc, ◌+◌, ◌<◌, IsTrue, ◌++◌, ◌∷◌, List, length, slice_index_or}
use Rattle.cov_logic.specs.Structure.{Structure}
use Rattle.cov_logic.specs.Lasso.{Lasso, first_of, Leads}
use Rattle.cov_logic.specs.Suffix.{suffix, at}
use Rattle.cov_logic.specs.FairLasso.{IsFairFrom}

-- the lasso goes on from its k-th state: that state steps to the next one, and what is left is a fair lasso, with the
-- states from there on
pub record GoesOn {S : Type 0} (m : Structure S) (l : Lasso S) (k : ℕ) : Type 0 where
  pub step : IsTrue (m.step (at l k) (at l (suc k)))
  pub fair : IsFairFrom m (at l k) (suffix k l)
  pub states : (i : ℕ) → at (suffix k l) i ≡ at l (k + i)

-- a fair lasso goes on from each of its states
abbrev pub SuffixIsFair : Type 0 → Type 0
SuffixIsFair S = (m : Structure S) (s : S) (l : Lasso S) (k : ℕ) → IsFairFrom m s l → GoesOn m l k

-- a finite path to the first state of a fair lasso, and then that lasso, is a fair lasso
abbrev pub JoinedIsFair : Type 0 → Type 0
JoinedIsFair S = (m : Structure S) (path : List S) (s : S) (l : Lasso S) → Leads m path s → IsFairFrom m s l →
    IsFairFrom m (first_of path s) (record { stem = path ++ l.stem; first = l.first; rest = l.rest })

-- the states of a lasso are those of the stem and then those of the turn, again and again;
-- so each suffix is one of the first few
pub record LassoRepeats (S : Type 0) : Type 0 where
  pub stem : (l : Lasso S) (i : ℕ) → i < length l.stem → at l i ≡ slice_index_or l.stem i l.first
  pub turn : (l : Lasso S) (i : ℕ) → i < suc (length l.rest) →
      at l (length l.stem + i) ≡ slice_index_or (l.first ∷ l.rest) i l.first
  pub again : (l : Lasso S) → suffix (length l.stem + suc (length l.rest)) l ≡ suffix (length l.stem) l
  pub few : (l : Lasso S) (i : ℕ) → (j : ℕ) × (j < length l.stem + suc (length l.rest)) × (suffix i l ≡ suffix j l)

-- where the stem and the turn have these lengths, what is left of a lasso after p states and one more is what is left
-- after k
abbrev pub IsNextPlace : Type 0 → ℕ → ℕ → ℕ → ℕ → Type 0
IsNextPlace S stem turn p k = (l : Lasso S) → length l.stem ≡ stem → suc (length l.rest) ≡ turn →
    suffix (suc p) l ≡ suffix k l
