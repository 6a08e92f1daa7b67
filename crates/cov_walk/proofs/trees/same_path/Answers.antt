use Rattle.std.proofs.Common.{arith}
use Rattle.cov_walk.proofs.Passes.{path_lengths}
use Rattle.cov_walk.proofs.trees.same_path.Goals as goal

pub returns-then-p-q : goal.returns-then-p-q
returns-then-p-q c = path_lengths c.args.p.now c.args.q.now (λ e. grind arith)
