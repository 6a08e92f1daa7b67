use Rattle.cov_show.proofs.leaves.is_looser.Goals as goal

pub returns : goal.returns
returns c = λ labels. rw (c.level.ensures labels)
