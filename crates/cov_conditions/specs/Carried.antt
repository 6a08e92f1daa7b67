-- Numbers that are sent to themselves.
use Rattle.std.specs.Prelude.{ℕ, zero, suc, List, [], ◌∷◌, ◌++◌, Option, Some}

-- the numbers below this one, each as its own target
abbrev pub own_targets : ℕ → List (Option ℕ)
own_targets zero = []
own_targets (suc k) = own_targets k ++ Some k ∷ []
