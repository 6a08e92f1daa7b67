use Rattle.std.proofs.Common.{refl, arith}
use Rattle.cov_ctl.specs.Formulas.{formula_of}
use Rattle.cov_ctl.proofs.Occurring.{occurs, occurs_not}
use Rattle.cov_ctl.proofs.occurrences.occurrence.Goals as goal

pub returns-then-n-eq0-clause-there : goal.returns-then-n-eq0-clause-there
returns-then-n-eq0-clause-there c = occurs_not (formula_of c.args.f.now) c.args.n (λ o. absurd (omega (arith, o.0)))

pub returns-in-Break-clause-some : goal.returns-in-Break-clause-some
returns-in-Break-clause-some c = (λ _. occurs (formula_of c.args.f.now) _ c.args.n c.in-Break.ensures.0, λ _. refl)

pub returns-in-Continue-clause-there : goal.returns-in-Continue-clause-there
returns-in-Continue-clause-there c = occurs_not (formula_of c.args.f.now) c.args.n (λ o. let h = c.in-Continue.ensures in absurd (omega (arith, o.1, h.0, h.1)))
