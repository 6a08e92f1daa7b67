use Rattle.std.proofs.Common.{◌≡◌, ◌-◌, ◌++◌}
use Rattle.std.specs.Prelude.{filter}
use Rattle.std.specs.List.{range_with_len}
use Rattle.cov_cubes.specs.Steps.{alike, class_by}
use Rattle.cov_cubes.proofs.classes.class_at.Given as goal

-- what is left completes what is found
abbrev pub invariant-loop-w : goal.invariant-loop-w
invariant-loop-w l = l.class ++ filter (λ w. alike l.sp.sets l.base l.v w) (range_with_len l.w (l.size - l.w)) ≡ class_by (alike l.sp.sets l.base) l.size l.v
