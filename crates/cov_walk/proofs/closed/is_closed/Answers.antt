use Rattle.std.proofs.Common.{◌||◌, ap, ◌∙◌}
use Rattle.cov_walk.specs.Closed.{has_opposite}
use Rattle.cov_walk.proofs.ClosedLemmas.{closed_branches}
use Rattle.cov_walk.proofs.closed.is_closed.Goals as goal

pub returns-then-is_true : goal.returns-then-is_true
returns-then-is_true c =
    c.if-is_true.true
    ∙ ap (λ t. t || has_opposite c.in-Some.last.now.guard c.in-Some.before.now) c.if-is_true.ensures
    ∙ closed_branches c.args.branches.now c.in-Some.before.now c.in-Some.last.now c.in-Some.ensures.cases.0

pub returns-else-is_true : goal.returns-else-is_true
returns-else-is_true c =
    c.has_opposite.ensures
    ∙ ap (λ t. t || has_opposite c.in-Some.last.now.guard c.in-Some.before.now) c.if-is_true.ensures
    ∙ closed_branches c.args.branches.now c.in-Some.before.now c.in-Some.last.now c.in-Some.ensures.cases.0
