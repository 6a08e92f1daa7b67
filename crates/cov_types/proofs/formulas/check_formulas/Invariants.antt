use Rattle.std.proofs.Common.{◌≡◌, drop, map}
use Rattle.cov_model.specs.Walk.{first}
use Rattle.cov_model.specs.Written.{formula_fault}
use Rattle.cov_types.proofs.formulas.check_formulas.Given as goal

-- what is left has the answer of the whole
abbrev pub invariant-loop-e : goal.invariant-loop-e
invariant-loop-e l = first (map formula_fault (drop l.e-index l.specs)) ≡ first (map formula_fault l.specs)
