use Rattle.std.proofs.Common.{ℕ, ◌<◌, ◌+◌, length, get_or, [], IsTrue}
use Rattle.cov_model.specs.Machine.{IsScratchOf}
use Rattle.cov_model.specs.States.{is_fair_at}
use Rattle.cov_replay.proofs.running.is_visited.Given as goal

abbrev pub invariant-loop-place : goal.invariant-loop-place
invariant-loop-place l = record {
  made : IsScratchOf l.m l.sc;
  none : (j : ℕ) → length l.l.stem + j < l.place → IsTrue (is_fair_at l.m l.fn.k (get_or l.l.turn j [])) → ⊥;
}
