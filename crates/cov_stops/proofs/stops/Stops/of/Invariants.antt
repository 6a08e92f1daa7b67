use Rattle.std.proofs.Common.{◌-◌, length, reverse}
use Rattle.cov_modules.specs.Walk.{walk}
use Rattle.cov_stops.specs.Touring.{IsTouring}
use Rattle.cov_stops.proofs.stops.Stops.of.Given as goal

-- what is left is the walks of what is put off
abbrev pub invariant-loop-x : goal.invariant-loop-x
invariant-loop-x l = IsTouring l.p l.tour.entries l.tour.children (reverse l.tour.put_off) l.tour.vars l.tour.defines

-- the stops that are left
abbrev pub decreases-loop-x : goal.decreases-loop-x
decreases-loop-x l = length (walk l.p) - length l.tour.entries
