use Rattle.std.proofs.Common.{arith, ◌≤ℤ◌}
use Rattle.std.proofs.lemmas.Int.{ints}
use Rattle.cov_kinds.proofs.Narrow.{narrow}
use Rattle.cov_kinds.proofs.kind.Interval.count.Goals as goal

pub overflow_cast-result : goal.overflow_cast-result
overflow_cast-result c =
    let n = narrow c.args.self.now.low c.args.self.now.high c.requires.narrow in
    let o : c.args.self.now.low ≤ℤ c.args.self.now.high = c.args.self.now.ordered in
    grind (arith, ints)
