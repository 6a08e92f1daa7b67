use Rattle.cov_bits.proofs.Formed.{typed_places}
use Rattle.cov_bits.proofs.laws.typed_states_have_places.Goals as goal

pub returns : goal.returns
returns c = λ m s. typed_places m.vars s
