use Rattle.std.proofs.Common.{◌≡◌, ℕ, ◌<◌, slice_get, Some}
use Rattle.cov_claims.specs.Places.{states_of}
use Rattle.cov_replay.proofs.judging.has_state.Given as goal

abbrev pub invariant-loop-place : goal.invariant-loop-place
invariant-loop-place l = (p : ℕ) → p < l.place → slice_get (states_of l.l) p ≡ Some l.s → ⊥
