use Rattle.cov_model.specs.Machine.{IsScratchOf}
use Rattle.cov_claims.specs.Valid as valid
use Rattle.cov_replay.specs.Verdicts.{Each}
use Rattle.cov_replay.proofs.running.first_unvisited.Given as goal

abbrev pub invariant-loop-k : goal.invariant-loop-k
invariant-loop-k l = record { made : IsScratchOf l.m l.sc; before : Each (valid.IsVisited l.m l.l) l.k }
