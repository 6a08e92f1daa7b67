use Rattle.std.proofs.Common.{◌∙◌}
use Rattle.cov_flat.proofs.AddedLemmas.{number_by}
use Rattle.cov_flat.proofs.naming.number.Goals as goal

pub returns : goal.returns
returns c = c.unwrap_or.ensures ∙ number_by c.args.names.now c.args.text.now c.find.result c.are_distinct.ensures c.find.ensures.found c.find.ensures.none
