use Rattle.std.proofs.Common.{◌≡◌, ◌≤◌, ◌+◌, length, take, map}
use Rattle.std.specs.Prelude.{fold}
use Rattle.cov_modules.specs.FlatLists.{added}
use Rattle.cov_flat.specs.Naming as spec
use Rattle.cov_flat.proofs.naming.add_variables.Given as goal

abbrev pub invariant-loop-x : goal.invariant-loop-x
invariant-loop-x l = (l.names ≡ fold added l.initial.names (map spec.variable_text (take l.x-index l.variables))) × (length l.names ≤ length l.initial.names + l.x-index)
