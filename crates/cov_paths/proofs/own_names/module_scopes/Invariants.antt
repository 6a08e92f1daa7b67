use Rattle.std.proofs.Common.{◌≡◌, ℕ, length, slice_get, Some}
use Rattle.cov_syntax.specs.declared.program.ModuleTree.{ModuleTree}
use Rattle.cov_paths.specs.declared.scope.Scope.{Scope}
use Rattle.cov_paths.specs.Items.{IsScopeOf}
use Rattle.cov_paths.proofs.own_names.module_scopes.Given as goal

-- the scopes of the first modules are there
abbrev pub invariant-loop-m : goal.invariant-loop-m
invariant-loop-m l = record {
  count : length l.scopes ≡ l.m-index;
  each : (j : ℕ) → (q : Scope) → slice_get l.scopes j ≡ Some q → (m : ModuleTree) → slice_get l.p.modules j ≡ Some m → IsScopeOf m q;
}
