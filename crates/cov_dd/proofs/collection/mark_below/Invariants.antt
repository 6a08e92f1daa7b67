use Rattle.std.proofs.Common.{◌≡◌, ℕ, ◌<◌, ◌≤◌, true, false, length, get_or}
use Rattle.cov_dd.specs.declared.node.Ref.{Ref}
use Rattle.cov_dd.specs.declared.node.Ref.TheVariants.{Inner}
use Rattle.cov_dd.specs.Nodes.{node_at}
use Rattle.cov_dd.specs.Moved.{IsMarked}
use Rattle.cov_dd.specs.Reached.{Reaches}
use Rattle.cov_dd.proofs.collection.mark_below.Given as goal

abbrev pub invariant-loop-i : goal.invariant-loop-i
invariant-loop-i l = record {
  within : l.i ≤ length l.nodes;
  same : length l.marks ≡ length l.nodes;
  stays : (r : Ref) → IsMarked l.fn.marks r → IsMarked l.marks r;
  closed : (j : ℕ) → l.i ≤ j → j < length l.nodes → get_or l.marks j false ≡ true → IsMarked l.marks (node_at l.nodes j).low × IsMarked l.marks (node_at l.nodes j).high;
  only : (i : ℕ) → get_or l.marks i false ≡ true → (j : ℕ) × (get_or l.fn.marks j false ≡ true) × Reaches l.nodes (Inner j) (Inner i);
}

abbrev pub decreases-loop-i : goal.decreases-loop-i
decreases-loop-i l = l.i
