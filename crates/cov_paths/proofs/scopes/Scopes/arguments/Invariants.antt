use Rattle.std.proofs.Common.{◌≡◌, ◌+◌, length, take}
use Rattle.cov_modules.specs.Walk.{walk}
use Rattle.cov_modules.specs.FlatLists.{flat_defines}
use Rattle.cov_paths.specs.Arguments.{given_at, defines}
use Rattle.cov_paths.specs.Found.{formals_at, AreNamed}
use Rattle.cov_paths.proofs.scopes.Scopes.arguments.Given as goal

-- the first formals are bound
abbrev pub invariant-loop-e : goal.invariant-loop-e
invariant-loop-e l = record {
  targets : AreNamed l.p l.targets (take l.e-index (formals_at l.p l.k));
  number : l.number ≡ length (flat_defines (take l.k (walk l.p))) + defines (take l.e-index (given_at l.p l.k));
}
