-- What a lasso may have, and some or every fair lasso from a state: the temporal operators and the path quantifiers
-- (Clarke and Emerson 1981), where the paths are fair lassos.
use Rattle.std.specs.Prelude.{ℕ, ◌<◌}
use Rattle.cov_logic.specs.Structure.{Structure}
use Rattle.cov_logic.specs.Lasso.{Lasso}
use Rattle.cov_logic.specs.Suffix.{at}
use Rattle.cov_logic.specs.FairLasso.{IsFairFrom}

-- X: the state after the first has it
abbrev pub Next : {S : Type 0} → (S → Type 0) → Lasso S → Type 0
Next P l = P (at l 1)

-- F: some state has it
abbrev pub Eventually : {S : Type 0} → (S → Type 0) → Lasso S → Type 0
Eventually P l = (i : ℕ) × P (at l i)

-- G: every state has it
abbrev pub Always : {S : Type 0} → (S → Type 0) → Lasso S → Type 0
Always P l = (i : ℕ) → P (at l i)

-- U: some state has the second, and each state before it the first
abbrev pub Until : {S : Type 0} → (S → Type 0) → (S → Type 0) → Lasso S → Type 0
Until P Q l = (j : ℕ) × Q (at l j) × ((i : ℕ) → i < j → P (at l i))

-- E: some fair lasso from s has it
abbrev pub SomeLasso : {S : Type 0} → Structure S → S → (Lasso S → Type 0) → Type 0
SomeLasso {S} m s P = (l : Lasso S) × IsFairFrom m s l × P l

-- A: every fair lasso from s has it
abbrev pub EveryLasso : {S : Type 0} → Structure S → S → (Lasso S → Type 0) → Type 0
EveryLasso {S} m s P = (l : Lasso S) → IsFairFrom m s l → P l
