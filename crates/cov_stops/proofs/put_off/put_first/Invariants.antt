use Rattle.std.proofs.Common.{◌≡◌, ◌++◌}
use Rattle.cov_stops.proofs.put_off.put_first.Given as goal

-- the stack has what was met so far on top
abbrev pub invariant-loop-x : goal.invariant-loop-x
invariant-loop-x l = l.stack ≡ l.initial.stack ++ l.yielded
