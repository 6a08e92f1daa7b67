use Rattle.std.proofs.Common.{◌≡◌, ◌+◌, ◌-◌, ◌≤◌}
use Rattle.cov_model.specs.Types.{digits}
use Rattle.cov_types.proofs.bits.bits_of.Given as goal

-- what is left of the last place has the digits that are not yet counted
abbrev pub invariant-loop : goal.invariant-loop
invariant-loop l = record {
  whole : l.bits + digits (l.values - l.counter) l.last ≡ digits l.values (l.values - 1);
  few : l.bits ≤ l.counter;
}
