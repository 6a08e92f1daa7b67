use Rattle.std.proofs.Common.{subst}
use Rattle.cov_model.specs.Flat.{IsFlat}
use Rattle.cov_model.specs.WellFormed.{IsWellFormed}
use Rattle.cov_model.specs.declared.model.Model.{Model}
use Rattle.cov_types.proofs.checked.Checked.model.Goals as goal

pub returns-clause-formed : goal.returns-clause-formed
returns-clause-formed c = subst (λ (m : Model). IsWellFormed m) c.self.view_is c.self.invariant.checked.formed

pub returns-clause-flat : goal.returns-clause-flat
returns-clause-flat c = subst (λ (m : Model). IsFlat m) c.self.view_is c.self.invariant.checked.flat
