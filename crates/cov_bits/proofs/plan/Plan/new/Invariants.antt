use Rattle.std.proofs.Common.{◌≡◌, take}
use Rattle.cov_bits.specs.Layout.{sizes}
use Rattle.cov_bits.proofs.plan.Plan.new.Given as goal

-- the variables so far have their bits
abbrev pub invariant-loop-x : goal.invariant-loop-x
invariant-loop-x l = l.plan ≡ take l.x-index (sizes l.x-items)
