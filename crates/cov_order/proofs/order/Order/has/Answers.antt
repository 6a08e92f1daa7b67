use Rattle.std.proofs.Common.{◌∙◌, ap}
use Rattle.std.specs.Prelude.{is_some}
use Rattle.cov_order.proofs.Places.{has_place}
use Rattle.cov_order.proofs.order.Order.has.Goals as goal

pub returns : goal.returns
returns c = c.is_some.ensures ∙ ap is_some c.place_of.ensures ∙ has_place c.args.i c.args.self.now.items
