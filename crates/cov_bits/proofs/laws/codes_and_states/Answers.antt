use Rattle.cov_bits.proofs.Codes.{code_below, code_one}
use Rattle.cov_bits.proofs.laws.codes_and_states.Goals as goal

pub returns : goal.returns
returns c = record { below = code_below; one = code_one }
