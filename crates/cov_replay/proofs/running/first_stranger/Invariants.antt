use Rattle.cov_model.specs.Machine.{IsScratchOf}
use Rattle.cov_claims.specs.Valid as valid
use Rattle.cov_replay.specs.Verdicts.{Each}
use Rattle.cov_replay.proofs.running.first_stranger.Given as goal

abbrev pub invariant-loop-place : goal.invariant-loop-place
invariant-loop-place l = record { made : IsScratchOf l.m l.sc; before : Each (valid.IsStateAt l.m l.l) l.place }
