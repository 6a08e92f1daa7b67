use Rattle.std.proofs.Common.{◌≡◌, take, ap, subst, ◌∙◌, refl}
use Rattle.cov_space.specs.Sets.{SpaceOf}
use Rattle.cov_space.specs.Tasks.{sets_of}
use Rattle.cov_space.specs.Views.{view_of}
use Rattle.cov_space.proofs.SpaceLemmas.{same_space, cut_sets}
use Rattle.cov_space.proofs.space.Space.cut.Goals as goal

pub returns : goal.returns
returns c =
    let P : SpaceOf → Type 0 = λ x. view_of c.self.inside.table c.truncate.new.self.items c.self.inside.places c.self.inside.refused ≡ record x { sets = take c.args.n x.sets } in
    subst P c.self.view_is (same_space _ _ refl refl refl refl (ap (sets_of c.self.inside.table) c.truncate.ensures.items ∙ cut_sets c.self.inside.table c.self.inside.list.items c.args.n))
