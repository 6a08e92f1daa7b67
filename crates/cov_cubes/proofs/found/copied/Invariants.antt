use Rattle.std.proofs.Common.{◌≡◌, take}
use Rattle.cov_cubes.proofs.found.copied.Given as goal

-- the classes so far
abbrev pub invariant-loop-class : goal.invariant-loop-class
invariant-loop-class l = l.cube ≡ take l.class-index l.class-items
