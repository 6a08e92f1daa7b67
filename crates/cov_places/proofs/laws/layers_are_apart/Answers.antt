use Rattle.cov_places.proofs.States.{written_elsewhere, put_elsewhere, same_bits}
use Rattle.cov_places.proofs.laws.layers_are_apart.Goals as goal

pub returns : goal.returns
returns c = record { written_elsewhere = written_elsewhere; put_elsewhere = put_elsewhere; same_bits = same_bits }
