use Rattle.std.proofs.Common.{◌≡◌, ◌++◌, ◌∷◌, [], take}
use Rattle.cov_space.specs.Sets.{set_at}
use Rattle.cov_space.specs.Steps.{moved_bits}
use Rattle.cov_space.proofs.shift.shift_bits.Given as goal

abbrev pub invariant-loop-b : goal.invariant-loop-b
invariant-loop-b l = record {
  is : l.space ≡ record l.fn.space { sets = take l.n l.fn.space.sets ++ set_at l.space.sets l.n ∷ [] };
  made : set_at l.space.sets l.n ≡ moved_bits l.fn.space.levels l.first l.second l.b (set_at l.fn.space.sets l.n);
}
