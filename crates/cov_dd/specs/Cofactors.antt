-- Cofactors of functions, and what an operation adds to a table or misses in it.
use Rattle.std.specs.Prelude.{◌≡◌, ℕ, ◌<◌, ◌≤◌, ◌++◌, List, Bool, true, false, length, drop, slice_set as set}
use Rattle.cov_dd.specs.declared.node.Ref.TheVariants.{Inner}
use Rattle.cov_dd.specs.declared.node.Ref.{Ref}
use Rattle.cov_dd.specs.declared.fault.Full.{Full}
use Rattle.cov_dd.specs.declared.fault.TableFault.{TableFault}
use Rattle.cov_dd.specs.declared.fault.TableFault.TheVariants as fault
use Rattle.cov_dd.specs.Nodes.{TableOf, node_at, den, rank, level_of, IsTable, IsBelow, Extends, chosen}
use Rattle.cov_dd.specs.Reached.{Reaches}

-- a function with its first bits fixed
abbrev pub fixed : (List Bool → Bool) → List Bool → List Bool → Bool
fixed function first row = function (first ++ drop (length first) row)

-- what a function becomes when its bits below a level are fixed in some way
pub record IsCofactor (levels : ℕ) (function : List Bool → Bool) (level : ℕ) (part : List Bool → Bool) : Type 0 where
  pub first : List Bool
  pub bits : length first ≡ level
  pub same : (row : List Bool) → length row ≡ levels → part row ≡ fixed function first row

-- each node that was added stands for a cofactor of the function, at its level
pub record Adds (old new : TableOf) (top : ℕ) (function : List Bool → Bool) : Type 0 where
  pub each : (i : ℕ) → length old.nodes ≤ i → i < length new.nodes → (top ≤ (node_at new.nodes i).level) × IsCofactor new.levels function (node_at new.nodes i).level (den new.nodes (Inner i))

-- the table grew by cofactors of a function alone
pub record Computes (old new : TableOf) (top : ℕ) (function : List Bool → Bool) : Type 0 where
  pub extends : Extends old new
  pub table : IsTable new.levels new.nodes
  pub adds : Adds old new top function

-- a cofactor of the function that depends on the bit of its level, and for which no node stands
pub record IsMissing (t : TableOf) (top : ℕ) (function : List Bool → Bool) : Type 0 where
  pub first : List Bool
  pub above : top ≤ length first
  pub level : length first < t.levels
  pub depends : ((row : List Bool) → length row ≡ t.levels → fixed function first (set row (length first) false) ≡ fixed function first (set row (length first) true)) → ⊥
  pub absent : (i : ℕ) → i < length t.nodes → (node_at t.nodes i).level ≡ length first → ((row : List Bool) → length row ≡ t.levels → den t.nodes (Inner i) row ≡ fixed function first row) → ⊥

-- a function is chosen by the bit of a level between its two cofactors there
pub record Splits (levels level : ℕ) (function low high : List Bool → Bool) : Type 0 where
  pub at_low : (row : List Bool) → length row ≡ levels → low row ≡ function (set row level false)
  pub at_high : (row : List Bool) → length row ≡ levels → high row ≡ function (set row level true)
  pub choice : (row : List Bool) → function row ≡ chosen level low high row

-- a diagram is split by the bit of a level that is at or above its own
pub record SplitsAt (t : TableOf) (level : ℕ) (f low high : Ref) : Type 0 where
  pub below_low : IsBelow t.levels t.nodes level low
  pub below_high : IsBelow t.levels t.nodes level high
  pub part_low : Reaches t.nodes f low
  pub part_high : Reaches t.nodes f high
  pub rank_low : rank low ≤ rank f
  pub rank_high : rank high ≤ rank f
  pub falls_low : level ≡ level_of t.levels t.nodes f → rank low < rank f
  pub falls_high : level ≡ level_of t.levels t.nodes f → rank high < rank f
  pub splits : Splits t.levels level (den t.nodes f) (den t.nodes low) (den t.nodes high)

-- the same refusal, as an operation answers it
abbrev pub fault_of : Full → TableFault
fault_of full = fault.Full full.held full.budget

-- the budget stands, which the refusal tells, and a cofactor that depends on the bit of its level has no node
pub record IsRefused (t : TableOf) (top : ℕ) (function : List Bool → Bool) (full : Full) : Type 0 where
  pub held : full.held ≡ length t.nodes
  pub budget : full.budget ≡ t.budget
  pub stands : t.budget ≤ length t.nodes
  pub missing : IsMissing t top function

-- the cause of a refusal; want of memory has none
abbrev pub IsFault : TableOf → ℕ → (List Bool → Bool) → TableFault → Type 0
IsFault t top function (fault.Full held budget) = IsRefused t top function (record { held = held; budget = budget })
IsFault t top function fault.Memory = Unit {0}
