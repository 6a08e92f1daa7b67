use Rattle.std.proofs.Common.{◌≡◌, ◌-◌, ◌++◌}
use Rattle.std.specs.List.{range_with_len}
use Rattle.cov_cubes.specs.Steps.{alike, classes_by, classes_from}
use Rattle.cov_cubes.proofs.classes.classes_at.Given as goal

-- what is left completes what is found
abbrev pub invariant-loop-v : goal.invariant-loop-v
invariant-loop-v l = l.classes ++ classes_from (alike l.sp.sets l.base) l.size (range_with_len l.v (l.size - l.v)) ≡ classes_by (alike l.sp.sets l.base) l.size
