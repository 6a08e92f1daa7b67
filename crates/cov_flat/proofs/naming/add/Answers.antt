use Rattle.cov_flat.proofs.AddedLemmas.{added_is}
use Rattle.cov_flat.proofs.naming.add.Goals as goal

pub returns : goal.returns
returns c = added_is c.args.names.now c.add.new.self c.args.text.now c.in_ok-add.ensures.held c.in_ok-add.ensures.put
