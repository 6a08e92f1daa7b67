use Rattle.std.proofs.Common.{◌≡◌, drop, map, ◌++◌, []}
use Rattle.cov_model.specs.Settled.{define_faults, define_kinds, settled_defines}
use Rattle.cov_model.specs.Walk.{first}
use Rattle.cov_types.proofs.walk_model.settle_defines.Given as goal

-- what is found completes what is left
abbrev pub invariant-loop-d : goal.invariant-loop-d
invariant-loop-d l = record {
  vars : l.kinds.vars ≡ l.fn.kinds.vars;
  kinds : define_kinds l.fn.kinds.vars (drop l.d-index l.d-items) l.kinds.defs ≡ define_kinds l.fn.kinds.vars l.d-items [];
  faults : first (define_faults l.fn.kinds.vars (drop l.d-index l.d-items) l.kinds.defs) ≡ first (define_faults l.fn.kinds.vars l.d-items []);
  settled : l.copies ++ settled_defines l.fn.kinds.vars (drop l.d-index l.d-items) l.kinds.defs ≡ settled_defines l.fn.kinds.vars l.d-items [];
}
