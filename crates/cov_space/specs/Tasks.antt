-- A basic operation on the references of a list, tried, and tried once more after a collection.
use Rattle.std.specs.Prelude.{◌≡◌, ℕ, ◌<◌, List, [], ◌∷◌, ◌++◌, Bool, false, not, map, get_or, Result, IfOk, IfErr}
use Rattle.cov_dd.specs.declared.node.Ref.{Ref}
use Rattle.cov_dd.specs.declared.node.Part.{Part}
use Rattle.cov_dd.specs.declared.fault.TableFault.{TableFault}
use Rattle.cov_dd.specs.declared.fault.TableFault.TheVariants as fault
use Rattle.cov_dd.specs.Nodes.{TableOf, den, Denotes}
use Rattle.cov_dd.specs.Cofactors.{Computes, IsFault}
use Rattle.cov_dd.specs.Operations.{value_of, put}
use Rattle.cov_dd.specs.Need.{values}
use Rattle.cov_dd.specs.Reached.{AllLive, ref_at}
use Rattle.cov_space.specs.declared.task.Task.{Task}
use Rattle.cov_space.specs.declared.task.Task.TheVariants.{Bit, Apply, Not, Restrict}
use Rattle.cov_space.specs.Sets.{lies, set_at, SetsNeedMoreThan}

-- the places and the levels that a task names are there
abbrev pub IsTask : ℕ → ℕ → Task → Type 0
IsTask levels count (Bit level) = level < levels
IsTask levels count (Apply op a b) = (a < count) × (b < count)
IsTask levels count (Not a) = a < count
IsTask levels count (Restrict a level bit) = (a < count) × (level < levels)

-- the test that a task asks for, by the tests at the places
abbrev pub asked : (ℕ → List Bool → Bool) → Task → List Bool → Bool
asked at (Bit level) row = get_or row level false
asked at (Apply op a b) row = value_of op (at a row) (at b row)
asked at (Not a) row = not (at a row)
asked at (Restrict a level bit) row = at a (put row level bit)

-- the set that a task puts
abbrev pub asked_set : ℕ → List (List Bool) → Task → List Bool
asked_set levels sets task = values levels (asked (λ k. lies (set_at sets k)) task)

-- the function of the diagram at a place
abbrev pub den_at : List Part → List Ref → ℕ → List Bool → Bool
den_at nodes list k = den nodes (ref_at list k)

-- the set of a diagram
abbrev pub set_of : TableOf → Ref → List Bool
set_of t r = values t.levels (den t.nodes r)

-- the sets of the diagrams of a list
abbrev pub sets_of : TableOf → List Ref → List (List Bool)
sets_of t list = map (set_of t) list

-- the test of the set at a place
abbrev pub set_in : TableOf → List Ref → ℕ → List Bool → Bool
set_in t list k = lies (set_at (sets_of t list) k)

-- one try
pub record Performed (s t : TableOf) (res : Result Ref TableFault) (function : List Bool → Bool) : Type 0 where
  pub ok : IfOk res (λ r. Denotes t 0 r function)
  pub computes : Computes s t 0 function
  pub err : IfErr res (λ e. IsFault t 0 function e)

-- the table is that of the Space, and the list is live in it
pub record Kept (old new : TableOf) (after : List Ref) : Type 0 where
  pub levels : new.levels ≡ old.levels
  pub budget : new.budget ≡ old.budget
  pub live : AllLive new.nodes after

-- the set of a test is put last, and the sets do not need more nodes than the budget
pub record Puts (old new : TableOf) (before after : List Ref) (test : List Bool → Bool) : Type 0 where
  pub sets : sets_of new after ≡ sets_of old before ++ values old.levels test ∷ []
  pub few : SetsNeedMoreThan old.levels (sets_of old before ++ values old.levels test ∷ []) old.budget → ⊥

-- the sets with the one that was asked for need more nodes than the budget
pub record Needs (old new : TableOf) (before after : List Ref) (test : List Bool → Bool) (held budget : ℕ) : Type 0 where
  pub same : sets_of new after ≡ sets_of old before
  pub held_is : held ≡ old.budget
  pub budget_is : budget ≡ old.budget
  pub need : SetsNeedMoreThan old.levels (sets_of old before ++ values old.levels test ∷ []) old.budget

-- why no set was put
abbrev pub IsTaskFault : TableOf → TableOf → List Ref → List Ref → (List Bool → Bool) → TableFault → Type 0
IsTaskFault old new before after test (fault.Full held budget) = Needs old new before after test held budget
IsTaskFault old new before after test fault.Memory = sets_of new after ≡ sets_of old before
