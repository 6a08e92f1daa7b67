use Rattle.std.proofs.Common.{◌≡◌, ℕ, ◌<◌, true, false, length, get_or}
use Rattle.cov_dd.specs.declared.node.Ref.TheVariants.{Inner}
use Rattle.cov_dd.specs.Moved.{IsMarked}
use Rattle.cov_dd.specs.Reached.{ref_at}
use Rattle.cov_dd.proofs.collection.mark_roots.Given as goal

abbrev pub invariant-loop-r : goal.invariant-loop-r
invariant-loop-r l = record {
  marked : (k : ℕ) → k < l.r-index → IsMarked l.marks (ref_at l.keep k);
  only : (i : ℕ) → get_or l.marks i false ≡ true → (k : ℕ) × (k < length l.keep) × (ref_at l.keep k ≡ Inner i);
}
