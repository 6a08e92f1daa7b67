use Rattle.cov_evid.proofs.Faultless.{only_this}
use Rattle.cov_evid.proofs.read.read_evidence.Goals as goal

pub returns-clause-only : goal.returns-clause-only
returns-clause-only c = only_this c.args.m.now c.args.text.now c.read_lines.result c.model-model.ensures.formed c.read_lines.ensures.ok c.read_lines.ensures.sole c.read_lines.ensures.fault
