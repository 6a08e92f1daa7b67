use Rattle.std.proofs.Common.{◌≡◌, ◌+◌, ◌≤◌, drop}
use Rattle.cov_paths.specs.Arguments as spec
use Rattle.cov_paths.proofs.arguments.defines.Given as goal

-- what is left completes what is counted
abbrev pub invariant-loop-e : goal.invariant-loop-e
invariant-loop-e l = record {
  left : l.count + spec.defines (drop l.e-index l.given) ≡ spec.defines l.given;
  few : l.count ≤ l.e-index;
}
