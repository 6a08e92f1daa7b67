use Rattle.std.proofs.Common.{◌≡◌, fold, drop}
use Rattle.cov_modules.specs.Things.{further_part}
use Rattle.cov_paths.specs.Targets.{named_at}
use Rattle.cov_paths.specs.Found.{thing_found, IsThere}
use Rattle.cov_paths.proofs.scopes.Scopes.find.Given as goal

-- what is left of the path leads to what the whole names
abbrev pub invariant-loop-name : goal.invariant-loop-name
invariant-loop-name l = record {
  there : IsThere l.p l.target;
  left : fold (further_part l.p) (thing_found l.p l.target) (drop l.name-index l.rest) ≡ named_at l.p l.k l.path;
}
