use Rattle.cov_readings.proofs.OneChoice.{one_choice}
use Rattle.cov_readings.proofs.singles.one_choice.Goals as goal

pub returns : goal.returns
returns c = λ m w e k u. one_choice m w e k u
