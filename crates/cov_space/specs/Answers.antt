-- What a call on a Space answers, and what it leaves.
use Rattle.std.specs.Prelude.{◌≡◌, ℕ, ◌<◌, ◌≤◌, ◌+◌, ◌*◌, ◌^◌, ◌-◌, min, List, [], ◌∷◌, ◌++◌, Bool, length}
use Rattle.cov_space.specs.declared.fault.NodesFull.{NodesFull}
use Rattle.cov_space.specs.declared.fault.SpaceFault.{SpaceFault}
use Rattle.cov_space.specs.declared.fault.SpaceFault.TheVariants as fault
use Rattle.cov_space.specs.Sets.{SpaceOf, SetsNeedMoreThan}

-- a count that rises, or stays at its last value
abbrev pub raised : ℕ → ℕ
raised count = min (count + 1) (2 ^ 64 - 1)

-- one more set, put last
pub record PutsSet (old new : SpaceOf) (set : List Bool) : Type 0 where
  pub is : new ≡ record old { sets = old.sets ++ set ∷ [] }
  pub count : length new.sets ≡ length old.sets + 1

-- a basic operation was refused, which was counted; the sets are as before
pub record IsRefused (old new : SpaceOf) (full : NodesFull) : Type 0 where
  pub is : new ≡ record old { refused = raised old.refused }
  pub held : full.held ≡ old.budget
  pub budget : full.budget ≡ old.budget
  pub kept : length old.sets ≤ full.roots
  pub roots : full.roots ≤ old.places
  pub within : old.budget < (full.roots + 1) * 2 ^ old.levels
  pub short : old.budget < (old.places + 1) * 2 ^ old.levels

-- this basic operation was refused: the sets with its result need more nodes than the budget
pub record IsOverBudget (old new : SpaceOf) (set : List Bool) (full : NodesFull) : Type 0 where
  pub refused : IsRefused old new full
  pub roots : full.roots ≡ length old.sets
  pub need : SetsNeedMoreThan old.levels (old.sets ++ set ∷ []) old.budget

-- a refusal of a basic operation that is to put this set
abbrev pub IsBasicFault : SpaceOf → SpaceOf → List Bool → SpaceFault → Type 0
IsBasicFault old new set (fault.Nodes full) = IsOverBudget old new set full
IsBasicFault old new set fault.Memory = new ≡ old

-- a refusal of a call that is made of basic operations
abbrev pub IsCallFault : SpaceOf → SpaceOf → SpaceFault → Type 0
IsCallFault old new (fault.Nodes full) = IsRefused old new full
IsCallFault old new fault.Memory = new ≡ old
