use Rattle.cov_show.proofs.formula.+show.Goals as goal

pub show-returns : goal.show-returns
show-returns t c = rw (c.level.ensures c.args.labels.now) at c.show_grouped.ensures
