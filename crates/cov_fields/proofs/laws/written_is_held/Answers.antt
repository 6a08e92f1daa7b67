use Rattle.cov_fields.proofs.Places.{held_written, written_twice, held_elsewhere}
use Rattle.cov_fields.proofs.laws.written_is_held.Goals as goal

pub returns : goal.returns
returns c = record { read = held_written; twice = written_twice; elsewhere = held_elsewhere }
