use Rattle.std.proofs.Common.{◌≡◌, length}
use Rattle.cov_model.specs.States.{fits}
use Rattle.cov_model.proofs.FitLemmas.{left_fits}
use Rattle.cov_model.proofs.state.fits.Given as goal

-- what is left has the answer of the whole
abbrev pub invariant-loop-i : goal.invariant-loop-i
invariant-loop-i l = record {
  left : left_fits l.vars l.s l.i ≡ fits l.vars l.s;
  lengths : length l.vars ≡ length l.s;
}
