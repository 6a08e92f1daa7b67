use Rattle.std.proofs.Common.{◌≡◌, map}
use Rattle.cov_flat.specs.Naming as spec
use Rattle.cov_flat.proofs.model.numbered_definitions.Given as goal

abbrev pub invariant-loop-d : goal.invariant-loop-d
invariant-loop-d l = l.defines ≡ map (spec.numbered_definition l.names) l.yielded
