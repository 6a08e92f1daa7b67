use Rattle.std.proofs.Common.{to_z-of_z}
use Rattle.cov_syntax.specs.declared.tree.Node.TheVariants as n
use Rattle.cov_walk.specs.Places.{may_of}
use Rattle.cov_walk.proofs.Simple.{range_answers}
use Rattle.cov_walk.proofs.leaves.range.Goals as goal

pub returns : goal.returns
returns c ks =
    range_answers ks c.args.at.place c.args.low c.args.high _ _ (may_of c.args.at.may) c.leaf.result (to_z-of_z c.ranges.low) (to_z-of_z c.ranges.high)
    c.in_ok-refuse_if.ensures c.in_ok-refuse_if-2.ensures (c.leaf.ensures (n.Range c.args.low c.args.high) (may_of c.args.at.may))
