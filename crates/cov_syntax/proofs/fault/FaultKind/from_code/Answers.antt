use Rattle.cov_syntax.proofs.FaultLemmas.{kind_numbered-from_one}
use Rattle.cov_syntax.proofs.fault.FaultKind.from_code.Goals as goal

pub returns-else-code-eq0 : goal.returns-else-code-eq0
returns-else-code-eq0 c = rw c.entry.ensures (kind_numbered-from_one _ c.if-code-eq0.false)
