-- The steps of a call that is made of basic operations.
use Rattle.std.specs.Prelude.{◌≡◌, ℕ, suc, zero, ◌<◌, ◌≤◌, ◌+◌, ◌*◌, ◌^◌, List, ◌++◌, Bool, true, false, length}
use Rattle.cov_dd.specs.Operations.{value_of}
use Rattle.cov_dd.specs.declared.operations.Op.{Op}
use Rattle.cov_dd.specs.declared.operations.Op.TheVariants.{And, Or, Xor}
use Rattle.cov_dd.specs.Need.{values}
use Rattle.cov_space.specs.declared.fault.NodesFull.{NodesFull}
use Rattle.cov_space.specs.declared.fault.SpaceFault.{SpaceFault}
use Rattle.cov_space.specs.declared.fault.SpaceFault.TheVariants as fault
use Rattle.cov_space.specs.Sets.{SpaceOf, lies}
use Rattle.cov_space.specs.Operations.{restriction, bit_set}
use Rattle.cov_space.specs.Answers.{raised}

-- further sets behind those that stand
abbrev pub with_more : SpaceOf → List (List Bool) → SpaceOf
with_more s more = record s { sets = s.sets ++ more }

-- a basic operation was refused, and further sets stand behind those of before
pub record Stops (old new : SpaceOf) (full : NodesFull) : Type 0 where
  pub more : List (List Bool)
  pub is : new ≡ record old { refused = raised old.refused; sets = old.sets ++ more }
  pub held : full.held ≡ old.budget
  pub budget : full.budget ≡ old.budget
  pub kept : length old.sets ≤ full.roots
  pub roots : full.roots ≤ old.places
  pub within : old.budget < (full.roots + 1) * 2 ^ old.levels
  pub short : old.budget < (old.places + 1) * 2 ^ old.levels

-- a call stopped half way, and its steps are still there
abbrev pub Leaves : SpaceOf → SpaceOf → SpaceFault → Type 0
Leaves old new (fault.Nodes full) = Stops old new full
Leaves old new fault.Memory = (more : List (List Bool)) × (new ≡ with_more old more)

-- what an operation makes of two sets
abbrev pub paired : Op → ℕ → List Bool → List Bool → List Bool
paired op levels a b = values levels (λ row. value_of op (lies a row) (lies b row))

-- the rows that lie in the set with one value of the bit
abbrev pub smoothed : ℕ → ℕ → List Bool → List Bool
smoothed levels level s = paired Or levels (restriction levels s level false) (restriction levels s level true)

-- where the bit is set, and the set depends on the other bit
abbrev pub mask_of : ℕ → ℕ → ℕ → List Bool → List Bool
mask_of levels from to s = paired And levels (paired Xor levels (restriction levels s from false) (restriction levels s from true)) (bit_set levels to)

-- the set that reads at one level the bit of the other
abbrev pub moved_bit : ℕ → ℕ → ℕ → List Bool → List Bool
moved_bit levels from to s = paired Xor levels (mask_of levels from to s) (restriction levels s from false)

-- the same for so many bits, whose levels are three apart
abbrev pub moved_bits : ℕ → ℕ → ℕ → ℕ → List Bool → List Bool
moved_bits levels from to zero s = s
moved_bits levels from to (suc b) s = moved_bit levels (3 * b + from) (3 * b + to) (moved_bits levels from to b s)
