use Rattle.std.proofs.Common.{arith}
use Rattle.std.proofs.lemmas.Int.{ints, clamps}
use Rattle.cov_kinds.proofs.Hulls.{moved, long_hull}
use Rattle.cov_kinds.proofs.Narrow.{narrow}
use Rattle.cov_kinds.proofs.join.hull.Goals as goal

pub returns : goal.returns
returns c =
    let p = narrow c.args.a.low c.args.a.high c.requires.left in
    let q = narrow c.args.b.low c.args.b.high c.requires.right in
    long_hull _ _ _ _ _ p q (moved _ _ _ _ _ (omega (arith, ints, clamps)) (omega (arith, ints, clamps)) c.between.ensures)
