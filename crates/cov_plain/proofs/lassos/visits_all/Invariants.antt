use Rattle.std.proofs.Common.{ℕ, ◌<◌, IsTrue, false, slice_index_or}
use Rattle.std.specs.List.{list_any}
use Rattle.cov_plain.specs.Structures.{structure_of}
use Rattle.cov_plain.proofs.lassos.visits_all.Given as goal

abbrev pub invariant-loop-set : goal.invariant-loop-set
invariant-loop-set l = (k : ℕ) → k < l.set → IsTrue (list_any (slice_index_or (structure_of l.graph).fair k (λ _. false)) l.turn)
