use Rattle.cov_bits.proofs.Widths.{width_holds, width_least}
use Rattle.cov_bits.proofs.laws.widths_are_least.Goals as goal

pub returns : goal.returns
returns c = record { holds = width_holds; least = width_least }
