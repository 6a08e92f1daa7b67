use Rattle.cov_bits.proofs.Plans.{part_read}
use Rattle.cov_bits.proofs.plan.Plan.width.Goals as goal

pub returns : goal.returns
returns c = (part_read _ _ _ _ _ c.self.invariant c.self.view_is c.requires c.get.ensures).width
