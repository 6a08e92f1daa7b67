use Rattle.std.proofs.Common.{ℕ, ◌+◌, ◌<◌, IsTrue, get_or}
use Rattle.cov_plain.specs.Structures.{structure_of}
use Rattle.cov_plain.proofs.lassos.leads.Given as goal

abbrev pub invariant-loop-i : goal.invariant-loop-i
invariant-loop-i l = (k : ℕ) → k < l.i → IsTrue ((structure_of l.graph).step (get_or l.path k 0) (get_or l.path (k + 1) l.after))
