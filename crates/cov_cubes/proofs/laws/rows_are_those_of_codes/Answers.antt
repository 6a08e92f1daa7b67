use Rattle.cov_cubes.proofs.Rows.{coded}
use Rattle.cov_cubes.proofs.laws.rows_are_those_of_codes.Goals as goal

pub returns : goal.returns
returns c = coded
