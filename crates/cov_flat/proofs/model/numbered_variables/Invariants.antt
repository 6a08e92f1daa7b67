use Rattle.std.proofs.Common.{◌≡◌, map}
use Rattle.cov_flat.specs.Naming as spec
use Rattle.cov_flat.proofs.model.numbered_variables.Given as goal

abbrev pub invariant-loop-x : goal.invariant-loop-x
invariant-loop-x l = l.vars ≡ map (spec.numbered_variable l.names) l.yielded
