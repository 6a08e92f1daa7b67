use Rattle.std.proofs.Common.{arith, to_z-of_z, int_div}
use Rattle.cov_kinds.proofs.Hulls.{kept, moved_hull}
use Rattle.cov_kinds.proofs.ends.quotients.Goals as goal

pub returns : goal.returns
returns c =
    moved_hull c.hull.result
    (kept c.quotient.result) (kept c.quotient-2.result) (kept c.quotient-3.result) (kept c.quotient-4.result)
    (int_div c.args.a.low c.args.b.low) (int_div c.args.a.low c.args.b.high) (int_div c.args.a.high c.args.b.low) (int_div c.args.a.high c.args.b.high)
    c.hull.ensures (grind (arith, to_z-of_z)) (grind (arith, to_z-of_z)) (grind (arith, to_z-of_z)) (grind (arith, to_z-of_z))
