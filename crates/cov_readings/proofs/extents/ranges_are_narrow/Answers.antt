use Rattle.cov_readings.proofs.Widths.{narrow}
use Rattle.cov_readings.proofs.extents.ranges_are_narrow.Goals as goal

pub returns : goal.returns
returns c = λ m w e x. narrow m e x
