use Rattle.cov_ctl.specs.Formulas.{formula_of}
use Rattle.cov_ctl.proofs.Occurring.{occurs}
use Rattle.cov_ctl.proofs.occurrences.polarity.Goals as goal

pub returns-in-Break : goal.returns-in-Break
returns-in-Break c = (occurs (formula_of c.args.f.now) _ c.args.n c.in-Break.ensures.0, c.in-Break.ensures.1)
