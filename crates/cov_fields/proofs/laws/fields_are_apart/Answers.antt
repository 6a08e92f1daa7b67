use Rattle.cov_fields.proofs.Places.{variables_apart, layers_apart}
use Rattle.cov_fields.proofs.laws.fields_are_apart.Goals as goal

pub returns : goal.returns
returns c = record { variables = variables_apart; layers = layers_apart }
