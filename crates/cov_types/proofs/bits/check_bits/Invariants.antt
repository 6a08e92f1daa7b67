use Rattle.std.proofs.Common.{◌≡◌, ◌≤◌, drop}
use Rattle.cov_model.specs.Types.{bits_fault}
use Rattle.cov_types.proofs.bits.check_bits.Given as goal

-- what is left has the answer of the whole
abbrev pub invariant-loop-x : goal.invariant-loop-x
invariant-loop-x l = record {
  whole : bits_fault l.total (drop l.x-index l.vars) ≡ bits_fault 0 l.vars;
  few : l.total ≤ 60;
}
