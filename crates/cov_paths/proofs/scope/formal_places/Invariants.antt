use Rattle.std.proofs.Common.{◌≡◌, ◌+◌, ℕ, option_map, map, drop, nat_cmp}
use Rattle.std.specs.Option.{option_or}
use Rattle.std.specs.BTreeMap.{get}
use Rattle.cov_syntax.specs.declared.program.Spelled.{Spelled}
use Rattle.cov_modules.specs.Names.{place_of}
use Rattle.cov_paths.proofs.scope.formal_places.Given as goal

-- what is left completes what is found
abbrev pub invariant-loop-place : goal.invariant-loop-place
invariant-loop-place l = (i : ℕ) → option_or (get nat_cmp l.places i) (option_map (λ k. k + l.place) (place_of (map (λ (f : Spelled). f.name) (drop l.place l.formals)) i)) ≡ place_of (map (λ (f : Spelled). f.name) l.formals) i
