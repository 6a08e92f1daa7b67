use Rattle.std.proofs.Common.{sym, subst}
use Rattle.cov_model.specs.WellFormed.{IsWellFormed}
use Rattle.cov_replay.proofs.bench.Bench.make.Goals as goal

pub subject_of-requires : goal.subject_of-requires
subject_of-requires c = subst IsWellFormed (sym c.model.ensures.value) c.model.ensures.formed
