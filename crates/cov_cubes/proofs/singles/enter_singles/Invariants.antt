use Rattle.std.proofs.Common.{◌≡◌, ◌≤◌, ◌<◌, ◌-◌, ◌++◌, ℕ, get_or}
use Rattle.cov_bits.specs.Layout.{sizes}
use Rattle.cov_cubes.specs.OneValue.{singles}
use Rattle.cov_cubes.proofs.singles.enter_singles.Given as goal

-- the variables so far have one value, and their classes stand last
abbrev pub invariant-loop-x : goal.invariant-loop-x
invariant-loop-x l = record {
  found : l.found ≡ record l.fn.found { front = l.fn.found.front ++ singles (l.x - l.from) };
  one : (k : ℕ) → l.from ≤ k → k < l.x → get_or (sizes l.m.vars) k 0 ≡ 1;
}
