use Rattle.std.proofs.Common.{◌≡◌, ℕ, ◌<◌, ◌≤◌}
use Rattle.cov_dd.specs.Moved.{moved}
use Rattle.cov_dd.specs.Reached.{ref_at}
use Rattle.cov_dd.proofs.collection.rename_all.Given as goal

abbrev pub invariant-loop-i : goal.invariant-loop-i
invariant-loop-i l = record {
  done : (k : ℕ) → k < l.i → ref_at l.keep k ≡ moved l.places (ref_at l.fn.keep k);
  rest : (k : ℕ) → l.i ≤ k → ref_at l.keep k ≡ ref_at l.fn.keep k;
}
