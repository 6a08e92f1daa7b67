use Rattle.std.proofs.Common.{◌≡◌, length}
use Rattle.cov_model.specs.States.{values_at}
use Rattle.cov_model.proofs.FrameLemmas.{front}
use Rattle.cov_model.proofs.frame.read_variables.Given as goal

-- what is done is the front of the values
abbrev pub invariant-loop-i : goal.invariant-loop-i
invariant-loop-i l = record {
  done : front l.vars l.s l.values l.i ≡ values_at l.vars l.s;
  room : length l.values ≡ length l.vars;
}
