use Rattle.cov_ranges.proofs.Listed.{expression_sound}
use Rattle.cov_ranges.proofs.laws.no_fault_in.Goals as goal

pub returns : goal.returns
returns c = λ m w e x. let f = (expression_sound m e w x).faultless in (f.may, f.none)
