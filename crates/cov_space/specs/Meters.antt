-- What a meter was told of refusals.
use Rattle.std.specs.Prelude.{ℕ, zero, suc}
use Rattle.cov_space.specs.Sets.{SpaceOf}
use Rattle.cov_space.specs.Answers.{raised}

-- what a meter is to its callers
pub record MeterOf : Type 0 where
  pub count : ℕ
  pub levels : ℕ
  pub budget : ℕ

-- after it was told of a Space that refused so often
abbrev pub told_by : ℕ → MeterOf → SpaceOf → MeterOf
told_by zero m s = m
told_by (suc n) m s = record { count = raised m.count; levels = s.levels; budget = s.budget }

-- nothing changes where no operation was refused
abbrev pub told : MeterOf → SpaceOf → MeterOf
told m s = told_by s.refused m s
