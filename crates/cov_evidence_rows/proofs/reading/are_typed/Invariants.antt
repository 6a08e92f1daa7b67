use Rattle.std.proofs.Common.{ℕ, ◌<◌, IsTrue, get_or, []}
use Rattle.cov_model.specs.States.{is_typed}
use Rattle.cov_claims.specs.Places.{states_of}
use Rattle.cov_evidence_rows.proofs.reading.are_typed.Given as goal

abbrev pub invariant-loop-place : goal.invariant-loop-place
invariant-loop-place l = (p : ℕ) → p < l.place → IsTrue (is_typed l.m (get_or (states_of l.l) p []))
