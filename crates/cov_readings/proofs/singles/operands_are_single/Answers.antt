use Rattle.cov_model.specs.Settled.{kinds_of}
use Rattle.cov_ranges.proofs.Listed.{expression_sound}
use Rattle.cov_readings.proofs.Single.{operand_single, left_single, right_single, guards_single}
use Rattle.cov_readings.proofs.singles.operands_are_single.Goals as goal

pub returns-clause-one : goal.returns-clause-one
returns-clause-one c = λ m w e a op x h. operand_single (kinds_of m) e a op (expression_sound m e w x).faultless h

pub returns-clause-left : goal.returns-clause-left
returns-clause-left c = λ m w e a b op x h n. left_single (kinds_of m) e a b op (expression_sound m e w x).faultless h n

pub returns-clause-right : goal.returns-clause-right
returns-clause-right c = λ m w e a b op x h n k. right_single (kinds_of m) e a b op (expression_sound m e w x).faultless h n k

pub returns-clause-guards : goal.returns-clause-guards
returns-clause-guards c = λ m w e bs i b x h g. guards_single (kinds_of m) e bs i b (expression_sound m e w x).faultless h g
