use Rattle.std.proofs.Common.{◌≤◌, ◌*◌, ◌+◌, length, ℕ, subst, sym}
use Rattle.cov_model.specs.Flat.{depth}
use Rattle.cov_space.specs.Sets.{HasRoom}
use Rattle.cov_expressions.proofs.Needed.{widest_is}
use Rattle.cov_expressions.proofs.expression.put_expr.Goals as goal

pub put_tree-requires-clause-can : goal.put_tree-requires-clause-can
put_tree-requires-clause-can c =
    let w = sym (widest_is c.args.scope.now.m.now) in
    record {
      scoped = c.requires.scope;
      chunk = c.requires.chunk;
      narrow = subst (λ (k : ℕ). length c.args.xs.now ≤ k) w c.requires.narrow;
      room = subst (λ (k : ℕ). HasRoom c.args.sp.now ((3 * k + 4) * depth c.args.e.now + 7)) w c.requires.room;
    }
