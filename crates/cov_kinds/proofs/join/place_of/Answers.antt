use Rattle.std.proofs.Common.{◌∙◌, ap}
use Rattle.std.specs.Option.{is_some}
use Rattle.cov_syntax.specs.declared.tree.Value.{Value}
use Rattle.cov_model.specs.Values.{same_value}
use Rattle.cov_kinds.proofs.Places.{some_place}
use Rattle.cov_kinds.proofs.join.place_of.Goals as goal

pub returns-else-stands_at-clause-found : goal.returns-else-stands_at-clause-found
returns-else-stands_at-clause-found c = ap is_some c.first_place.ensures ∙ some_place (λ (y : Value). same_value y c.args.x) c.args.values.now
