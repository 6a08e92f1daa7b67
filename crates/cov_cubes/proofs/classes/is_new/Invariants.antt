use Rattle.std.proofs.Common.{◌≡◌, ◌-◌}
use Rattle.std.specs.List.{list_any, range_with_len}
use Rattle.cov_cubes.specs.Steps.{alike}
use Rattle.cov_cubes.proofs.classes.is_new.Given as goal

-- what is left has the answer of the whole
abbrev pub invariant-loop-w : goal.invariant-loop-w
invariant-loop-w l = list_any (λ w. alike l.sp.sets l.base l.v w) (range_with_len l.w (l.v - l.w)) ≡ list_any (λ w. alike l.sp.sets l.base l.v w) (range_with_len 0 l.v)
