use Rattle.cov_jobs.proofs.Replaying.{some_item, typed_lasso}
use Rattle.cov_jobs.proofs.replay.judged_report.Goals as goal

pub judge-verdict-requires-clause-typed : goal.judge-verdict-requires-clause-typed
judge-verdict-requires-clause-typed c = typed_lasso c.args.m.now c.args.e.now.lasso c.requires.proper.stem c.requires.proper.turn

pub judge-verdict-requires-clause-turn : goal.judge-verdict-requires-clause-turn
judge-verdict-requires-clause-turn c = some_item c.args.e.now.lasso.turn c.requires.proper.turns
