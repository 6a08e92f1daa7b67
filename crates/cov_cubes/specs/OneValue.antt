-- Variables of one value. They have no bits, and their class is that of place 0 alone.
use Rattle.std.specs.Prelude.{◌≡◌, ◌≢◌, ℕ, zero, suc, ◌<◌, ◌≤◌, List, [], ◌∷◌, length, get_or}

-- the classes of so many variables of one value
abbrev pub singles : ℕ → List (List ℕ)
singles zero = []
singles (suc count) = (0 ∷ []) ∷ singles count

-- the variables from one place on up to another have one value, and the one that stands there, if any does, has not
pub record IsPassed (ns : List ℕ) (from to : ℕ) : Type 0 where
  pub up : from ≤ to
  pub there : to ≤ length ns
  pub one : (x : ℕ) → from ≤ x → x < to → get_or ns x 0 ≡ 1
  pub others : to < length ns → get_or ns to 0 ≢ 1
