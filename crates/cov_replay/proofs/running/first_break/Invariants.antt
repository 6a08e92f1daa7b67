use Rattle.cov_model.specs.Machine.{IsScratchOf}
use Rattle.cov_claims.specs.Valid as valid
use Rattle.cov_replay.specs.Verdicts.{Each}
use Rattle.cov_replay.proofs.running.first_break.Given as goal

abbrev pub invariant-loop-place : goal.invariant-loop-place
invariant-loop-place l = record { made : IsScratchOf l.m l.sc; before : Each (valid.StepsAt l.m l.l) l.place }
