use Rattle.std.proofs.Common.{◌≡◌, ℕ, length, slice_get, Some}
use Rattle.cov_paths.specs.Arguments.{first_own}
use Rattle.cov_paths.proofs.own_names.first_defines.Given as goal

-- the numbers of the first stops are there
abbrev pub invariant-loop-k : goal.invariant-loop-k
invariant-loop-k l = record {
  count : length l.firsts ≡ l.k;
  each : (j : ℕ) → (n : ℕ) → slice_get l.firsts j ≡ Some n → n ≡ first_own l.p j;
}
