use Rattle.std.proofs.Common.{◌≤◌, ℕ, subst}
use Rattle.cov_model.specs.Written.{formula_size}
use Rattle.cov_types.specs.Roots.{greatest_size}
use Rattle.cov_types.proofs.LoweredSizes.{lowered_formula}
use Rattle.cov_readings.proofs.Greatest.{at_most}
use Rattle.cov_formulas.proofs.SpecLists.{spec_small}
use Rattle.cov_formulas.proofs.specifications.specifications_are_small.Goals as goal

pub returns-clause-greatest : goal.returns-clause-greatest
returns-clause-greatest c = λ m i e g. subst (λ (n : ℕ). n ≤ greatest_size m.specs) (lowered_formula e) (at_most formula_size m.specs i e g)

pub returns-clause-limit : goal.returns-clause-limit
returns-clause-limit c = λ m w i e g. subst (λ (n : ℕ). n ≤ 4096) (lowered_formula e) (spec_small m w i e g)
