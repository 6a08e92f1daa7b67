use Rattle.std.proofs.Common.{◌≡◌, length, []}
use Rattle.cov_model.specs.Machine.{define_values}
use Rattle.cov_model.proofs.FrameLemmas.{completed}
use Rattle.cov_model.proofs.frame.read_defines.Given as goal

-- what is left completes what is known
abbrev pub invariant-loop-i : goal.invariant-loop-i
invariant-loop-i l = record {
  done : completed l.defines l.fn.r.vars l.fn.r.flip l.r.defines l.i ≡ define_values l.defines l.fn.r.vars l.fn.r.flip [];
  known : l.r.known ≡ l.i;
  room : length l.r.defines ≡ length l.defines;
  vars : l.r.vars ≡ l.fn.r.vars;
  flip : l.r.flip ≡ l.fn.r.flip;
}
