use Rattle.std.proofs.Common.{◌≡◌, arith}
use Rattle.cov_dd.proofs.OperationLemmas.{restrict_skip, restrict_low, restrict_high}
use Rattle.cov_dd.proofs.questions.cofactor.Goals as goal

pub returns-then-level-top-clause-known : goal.returns-then-level-top-clause-known
returns-then-level-top-clause-known c = restrict_skip c.args.store.now c.level-top.ensures.table c.args.f c.requires.f c.args.level c.args.bit (omega arith)

pub returns-then-bit-clause-known : goal.returns-then-bit-clause-known
returns-then-bit-clause-known c =
    let same : c.level-top.result ≡ c.args.level = omega arith in
    restrict_high c.args.store.now c.level-top.ensures.table c.args.f c.level-top.result c.args.level c.split-low.result.0 c.split-low.result.1 c.args.bit c.if-bit.true c.level-top.ensures.level same c.split-low.ensures

pub returns-else-bit-clause-known : goal.returns-else-bit-clause-known
returns-else-bit-clause-known c =
    let same : c.level-top.result ≡ c.args.level = omega arith in
    restrict_low c.args.store.now c.level-top.ensures.table c.args.f c.level-top.result c.args.level c.split-low.result.0 c.split-low.result.1 c.args.bit c.if-bit.false c.level-top.ensures.level same c.split-low.ensures
