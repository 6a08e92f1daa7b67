-- Nodes that are moved to the front of their list.
use Rattle.std.specs.Prelude.{◌≡◌, ℕ, ◌<◌, List, Bool, true, false, length, get_or}
use Rattle.cov_dd.specs.declared.node.Ref.{Ref}
use Rattle.cov_dd.specs.declared.node.Ref.TheVariants.{Constant, Inner}
use Rattle.cov_dd.specs.declared.node.Part.{Part}
use Rattle.cov_dd.specs.Nodes.{node_at}

-- a reference after the nodes were moved to new places
abbrev pub moved : List ℕ → Ref → Ref
moved places (Constant b) = Constant b
moved places (Inner i) = Inner (get_or places i 0)

-- a constant, or a node that is marked
abbrev pub IsMarked : List Bool → Ref → Type 0
IsMarked marks (Constant b) = Unit {0}
IsMarked marks (Inner i) = get_or marks i false ≡ true

abbrev pub moved_node : List ℕ → Part → Part
moved_node places n = record { level = n.level; low = moved places n.low; high = moved places n.high }

-- the marked nodes stand in their order at the new places, and no others; the children of a marked node are marked
pub record AreMoved (old new : List Part) (marks : List Bool) (places : List ℕ) : Type 0 where
  pub within : (i : ℕ) → i < length old → get_or marks i false ≡ true → get_or places i 0 < length new
  pub node : (i : ℕ) → i < length old → get_or marks i false ≡ true → node_at new (get_or places i 0) ≡ moved_node places (node_at old i)
  pub children : (i : ℕ) → i < length old → get_or marks i false ≡ true → IsMarked marks (node_at old i).low × IsMarked marks (node_at old i).high
  pub order : (i j : ℕ) → i < j → j < length old → get_or marks i false ≡ true → get_or marks j false ≡ true → get_or places i 0 < get_or places j 0
  pub from : (k : ℕ) → k < length new → (i : ℕ) × (i < length old) × (get_or marks i false ≡ true) × (get_or places i 0 ≡ k)
