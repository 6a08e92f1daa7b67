use Rattle.cov_show.proofs.StateReading.{stripped, behind_some_len}
use Rattle.cov_show.proofs.state_reading.behind.Goals as goal

pub returns-clause-found : goal.returns-clause-found
returns-clause-found c = stripped c.args.head.now c.args.text.now c.strip_prefix.result c.strip_prefix.ensures.cases

pub returns-clause-len : goal.returns-clause-len
returns-clause-len c = behind_some_len c.args.head.now c.args.text.now c.strip_prefix.result (stripped c.args.head.now c.args.text.now c.strip_prefix.result c.strip_prefix.ensures.cases)
