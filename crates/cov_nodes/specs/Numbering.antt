-- The number of a value in a list.
use Rattle.std.specs.Prelude.{ℕ, position, List, Option}
use Rattle.cov_syntax.specs.declared.tree.Value.{Value}
use Rattle.cov_model.specs.Values.{same_value}

-- the first place of a value
abbrev pub number_in : List Value → Value → Option ℕ
number_in xs x = position (λ y. same_value y x) xs
