use Rattle.std.proofs.Common.{◌≡◌, ◌≤◌, ◌+◌, length, take, map}
use Rattle.std.specs.Prelude.{fold}
use Rattle.cov_modules.specs.FlatLists.{added}
use Rattle.cov_flat.specs.Naming as spec
use Rattle.cov_flat.proofs.naming.add_definitions.Given as goal

abbrev pub invariant-loop-d : goal.invariant-loop-d
invariant-loop-d l = (l.names ≡ fold added l.initial.names (map spec.definition_text (take l.d-index l.definitions))) × (length l.names ≤ length l.initial.names + l.d-index)
