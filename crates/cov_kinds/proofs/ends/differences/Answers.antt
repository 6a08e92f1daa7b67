use Rattle.std.proofs.Common.{arith, to_z-of_z, ◌-ℤ◌}
use Rattle.cov_kinds.proofs.Hulls.{kept, moved_hull}
use Rattle.cov_kinds.proofs.ends.differences.Goals as goal

pub returns : goal.returns
returns c =
    moved_hull c.hull.result
    (kept c.difference.result) (kept c.difference-2.result) (kept c.difference-3.result) (kept c.difference-4.result)
    (c.args.a.low -ℤ c.args.b.low) (c.args.a.low -ℤ c.args.b.high) (c.args.a.high -ℤ c.args.b.low) (c.args.a.high -ℤ c.args.b.high)
    c.hull.ensures (grind (arith, to_z-of_z)) (grind (arith, to_z-of_z)) (grind (arith, to_z-of_z)) (grind (arith, to_z-of_z))
