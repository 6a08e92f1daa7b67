use Rattle.std.proofs.Common.{arith}
use Rattle.cov_model.specs.Trees as spec
use Rattle.cov_walk.proofs.Passes.{lengths}
use Rattle.cov_walk.proofs.trees.+same.Goals as goal

pub same_trees-returns-then-es-fs : goal.same_trees-returns-then-es-fs
same_trees-returns-then-es-fs t c = lengths spec.same_tree c.args.es.now c.args.fs.now (λ e. grind arith)

pub same_branches-returns-then-bs-cs : goal.same_branches-returns-then-bs-cs
same_branches-returns-then-bs-cs t c = lengths spec.same_branch c.args.bs.now c.args.cs.now (λ e. grind arith)
