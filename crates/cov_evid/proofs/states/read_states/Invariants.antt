use Rattle.std.proofs.Common.{length}
use Rattle.cov_evid.proofs.Listing.{Listing}
use Rattle.cov_evid.proofs.states.read_states.Given as goal

abbrev pub invariant-loop-alloc : goal.invariant-loop-alloc
invariant-loop-alloc l = Listing l.m l.ending l.before l.initial.states l.initial.lines l.states l.lines

abbrev pub decreases-loop-alloc : goal.decreases-loop-alloc
decreases-loop-alloc l = length l.lines.rest
