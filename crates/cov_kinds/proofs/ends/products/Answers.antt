use Rattle.std.proofs.Common.{arith, to_z-of_z, ◌*ℤ◌}
use Rattle.cov_kinds.proofs.Hulls.{kept, moved_hull}
use Rattle.cov_kinds.proofs.ends.products.Goals as goal

pub returns : goal.returns
returns c =
    moved_hull c.hull.result
    (kept c.product.result) (kept c.product-2.result) (kept c.product-3.result) (kept c.product-4.result)
    (c.args.a.low *ℤ c.args.b.low) (c.args.a.low *ℤ c.args.b.high) (c.args.a.high *ℤ c.args.b.low) (c.args.a.high *ℤ c.args.b.high)
    c.hull.ensures (grind (arith, to_z-of_z)) (grind (arith, to_z-of_z)) (grind (arith, to_z-of_z)) (grind (arith, to_z-of_z))
