use Rattle.std.proofs.Common.{◌≡◌, length}
use Rattle.cov_paths.specs.Scopes.{AreFirstScopes}
use Rattle.cov_paths.proofs.scopes.Scopes.of.Given as goal

-- the formals of the first stops are known
abbrev pub invariant-loop-k : goal.invariant-loop-k
invariant-loop-k l = record {
  scopes : AreFirstScopes l.p l.scopes;
  next : length l.scopes.formals ≡ l.k;
}
