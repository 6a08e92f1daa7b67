use Rattle.std.proofs.Common.{ℕ, ◌<◌, ◌↔◌, false, IsTrue, get_or}
use Rattle.cov_logic.specs.Formula.{Atom}
use Rattle.cov_logic.specs.Suffix.{suffix}
use Rattle.cov_model.specs.Machine.{IsScratchOf}
use Rattle.cov_claims.specs.Claims.{claim_labelling}
use Rattle.cov_claims.specs.Places.{lasso_of}
use Rattle.cov_replay.specs.Told.{Tells}
use Rattle.cov_replay.proofs.telling.put_atom.Given as goal

abbrev pub invariant-loop-place : goal.invariant-loop-place
invariant-loop-place l = record {
  made : IsScratchOf l.m l.sc;
  done : (k : ℕ) → k < l.place → IsTrue (get_or l.column k false) ↔ Tells (claim_labelling l.m l.e.claim) l.shown (Atom l.atom) (suffix k (lasso_of l.e.lasso));
}
