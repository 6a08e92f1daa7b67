use Rattle.std.proofs.Common.{◌≡◌, map, drop}
use Rattle.cov_syntax.specs.declared.program.Spelled.{Spelled}
use Rattle.cov_modules.specs.Names.{has, first}
use Rattle.cov_modules.specs.Modules.{module_symbols}
use Rattle.cov_modules.specs.ModuleFaults.{place_if, name_clash}
use Rattle.cov_modules.proofs.clash.clash_in.Given as goal

-- what is left has the answer of the whole
abbrev pub invariant-loop-x : goal.invariant-loop-x
invariant-loop-x l = first (map (λ (x : Spelled). place_if (has (module_symbols l.m) x.name) x.place) (drop l.x-index l.x-items)) ≡ first (name_clash l.m)
