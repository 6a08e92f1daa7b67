use Rattle.cov_show.proofs.leaves.is_grouped_behind_minus.Goals as goal

pub returns-then-is_signed : goal.returns-then-is_signed
returns-then-is_signed c = λ labels. rw (← (c.is_signed.ensures labels), c.if-is_signed.true)

pub returns-else-is_signed : goal.returns-else-is_signed
returns-else-is_signed c = λ labels. rw (← (c.is_signed.ensures labels), c.if-is_signed.false, c.level.ensures labels)
