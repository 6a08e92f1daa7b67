use Rattle.std.proofs.Common.{◌≡◌, ◌≤◌, ◌<◌, ℕ, false, ◌||◌, get_or}
use Rattle.cov_replay.proofs.columns.either.Given as goal

abbrev pub invariant-loop-p : goal.invariant-loop-p
invariant-loop-p l = record {
  done : (k : ℕ) → k < l.p → get_or l.column k false ≡ (get_or l.initial.column k false || get_or l.other k false);
  rest : (k : ℕ) → l.p ≤ k → get_or l.column k false ≡ get_or l.initial.column k false;
}
