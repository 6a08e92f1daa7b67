use Rattle.std.proofs.Common.{◌≡◌, ◌<◌, ℕ, ap, subst, ◌∙◌}
use Rattle.cov_types.specs.Roots as spec
use Rattle.cov_types.proofs.checked.Checked.roots.Goals as goal

pub returns-clause-value : goal.returns-clause-value
returns-clause-value c = c.self.invariant.counted ∙ ap spec.roots c.self.view_is

pub returns-clause-bound : goal.returns-clause-bound
returns-clause-bound c =
    subst (λ (n : ℕ). n < 4294967296) (c.self.invariant.counted ∙ ap spec.roots c.self.view_is) c.self.invariant.small
