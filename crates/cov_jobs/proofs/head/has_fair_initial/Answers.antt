use Rattle.cov_jobs.proofs.HeadLemmas.{fair_is}
use Rattle.cov_jobs.proofs.head.has_fair_initial.Goals as goal

pub returns-clause-ok : goal.returns-clause-ok
returns-clause-ok c =
    fair_is c.args.m.now c.args.sys.now c.and.new.self c.sets-n.result c.initial-initial.result c.good-good.result c.is_empty-fair.result c.requires.prepared c.sets-n.ensures c.initial-initial.ensures c.good-good.ensures
    c.in_ok-and.ensures.ok c.is_empty-fair.ensures.empty
