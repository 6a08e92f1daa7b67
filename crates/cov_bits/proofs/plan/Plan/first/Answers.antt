use Rattle.std.proofs.Common.{◌∙◌, arith}
use Rattle.cov_bits.proofs.Plans.{part_read}
use Rattle.cov_bits.proofs.plan.Plan.first.Goals as goal

pub returns : goal.returns
returns c = (part_read _ _ _ _ _ c.self.invariant c.self.view_is c.requires c.get.ensures).first ∙ omega arith
