use Rattle.std.proofs.Common.{◌≡◌, ℕ, ◌-◌, ◌≤◌, ◌<◌, List, Bool, length}
use Rattle.cov_space.specs.Sets.{set_at}
use Rattle.cov_space.specs.Steps.{with_more}
use Rattle.cov_nodes.specs.Choices.{IsFamily}
use Rattle.cov_nodes.specs.Points.{at_layer}
use Rattle.cov_nodes.specs.Standing.{chunk, chunk_size, define_choice}
use Rattle.cov_conditions.proofs.bodies.put_chunks.Given as goal

-- the families of the chunks so far stand behind the sets of before
abbrev pub invariant-loop-k : goal.invariant-loop-k
invariant-loop-k l = record {
  more : List (List Bool);
  is : l.sp ≡ with_more l.fn.sp more;
  count : length more ≡ l.k;
  within : l.k ≤ length l.values;
  places : l.sp.places ≡ l.fn.sp.places;
  levels : l.sp.levels ≡ l.fn.sp.levels;
  families : (j : ℕ) → j < l.k → IsFamily l.fn.sp.levels l.scope.m.now (at_layer l.scope.at.present l.scope.at.flip) (chunk (chunk_size l.fn.sp.levels) l.values j) (define_choice l.i) (set_at more j);
}

abbrev pub decreases-loop-k : goal.decreases-loop-k
decreases-loop-k l = length l.values - l.k
