use Rattle.cov_model.proofs.Fixed.{facts}
use Rattle.cov_model.proofs.InOrder.{reads_earlier}
use Rattle.cov_readings.proofs.defines.defines_read_earlier.Goals as goal

pub returns : goal.returns
returns c = λ m w i d g j h. reads_earlier m.defines (facts m w).order i d g j h
