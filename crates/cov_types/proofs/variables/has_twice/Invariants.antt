use Rattle.std.proofs.Common.{◌≡◌, false, take}
use Rattle.cov_syntax.specs.declared.tree.Value.{Value}
use Rattle.cov_model.specs.Kinds.{member}
use Rattle.cov_model.specs.Types.{has_twice}
use Rattle.cov_types.specs.ValueSets.{holds}
use Rattle.cov_types.proofs.variables.has_twice.Given as goal

-- the set has the values so far, of which none stands twice
abbrev pub invariant-loop-x : goal.invariant-loop-x
invariant-loop-x l = record {
  same : (y : Value) → holds l.before y ≡ member (take l.x-index l.values) y;
  once : has_twice (take l.x-index l.values) ≡ false;
}
