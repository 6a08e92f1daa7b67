use Rattle.cov_model.specs.Flat.{depth}
use Rattle.cov_readings.proofs.Greatest.{within_most}
use Rattle.cov_readings.proofs.Widths.{constant_depth}
use Rattle.cov_readings.proofs.extents.expressions_are_shallow.Goals as goal

pub returns-clause-listed : goal.returns-clause-listed
returns-clause-listed c = λ m i e h. within_most depth m i e h

pub returns-clause-constants : goal.returns-clause-constants
returns-clause-constants c = λ e h. constant_depth e h
