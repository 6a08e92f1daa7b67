use Rattle.std.proofs.Common.{◌≡◌, ℕ, ◌<◌, length, subst}
use Rattle.cov_dd.specs.Need.{values}
use Rattle.cov_space.specs.Sets.{SpaceOf, lies, set_at}
use Rattle.cov_space.proofs.SpaceLemmas.{proper_at}
use Rattle.cov_space.proofs.space.Space.sets.Goals as goal

pub returns-clause-proper : goal.returns-clause-proper
returns-clause-proper c =
    let P : SpaceOf → Type 0 = λ x. (k : ℕ) → k < length x.sets → values x.levels (lies (set_at x.sets k)) ≡ set_at x.sets k in
    subst P c.self.view_is (proper_at c.self.inside.table c.self.inside.list.items)
