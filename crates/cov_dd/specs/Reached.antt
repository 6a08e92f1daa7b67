-- What a list of diagrams reaches, and the table after a collection.
use Rattle.std.specs.Prelude.{◌≡◌, ℕ, ◌<◌, ◌≤◌, ◌↔◌, map, List, Bool, true, false, length, get_or, slice_set as set}
use Rattle.cov_dd.specs.declared.node.Ref.{Ref}
use Rattle.cov_dd.specs.declared.node.Ref.TheVariants.{Constant, Inner}
use Rattle.cov_dd.specs.declared.node.Part.{Part}
use Rattle.cov_dd.specs.Nodes.{TableOf, node_at, rank, level_of, den, IsTable, Denotes}
use Rattle.cov_dd.specs.Need.{NeedMoreThan}
use Rattle.cov_dd.specs.Moved.{moved, IsMarked, AreMoved}

-- g is a part of the diagram f
pub data Reaches (nodes : List Part) : Ref → Ref → Type 0 where
  here : (f : Ref) → Reaches nodes f f
  by_low : (i : ℕ) (g : Ref) → Reaches nodes (node_at nodes i).low g → Reaches nodes (Inner i) g
  by_high : (i : ℕ) (g : Ref) → Reaches nodes (node_at nodes i).high g → Reaches nodes (Inner i) g

-- the diagram at a place of a list
abbrev pub ref_at : List Ref → ℕ → Ref
ref_at refs i = get_or refs i (Constant false)

-- each diagram of the list is a constant or one of the first nodes
abbrev pub AllWithin : ℕ → List Ref → Type 0
AllWithin count refs = (k : ℕ) → k < length refs → rank (ref_at refs k) ≤ count

-- each diagram of the list is live
abbrev pub AllLive : List Part → List Ref → Type 0
AllLive nodes refs = AllWithin (length nodes) refs

-- children stand before their parents
abbrev pub Fall : List Part → Type 0
Fall nodes = (i : ℕ) → i < length nodes → (rank (node_at nodes i).low ≤ i) × (rank (node_at nodes i).high ≤ i)

-- the children of a marked node are marked
abbrev pub AreClosed : List Part → List Bool → Type 0
AreClosed nodes marks = (i : ℕ) → i < length nodes → get_or marks i false ≡ true → IsMarked marks (node_at nodes i).low × IsMarked marks (node_at nodes i).high

-- the marks with that of one more diagram
abbrev pub marked : List Bool → Ref → List Bool
marked marks (Constant b) = marks
marked marks (Inner i) = set marks i true

-- each node that stands is a part of a diagram of the list
abbrev pub AllReached : List Part → List Ref → Type 0
AllReached nodes refs = (i : ℕ) → i < length nodes → (k : ℕ) × (k < length refs) × Reaches nodes (ref_at refs k) (Inner i)

-- as many nodes stand as the functions of the list need
abbrev pub SizeIsNeed : TableOf → List Ref → Type 0
SizeIsNeed t refs = (count : ℕ) → NeedMoreThan t.levels (map (den t.nodes) refs) count ↔ (count < length t.nodes)

-- the table after a collection: each diagram of the list has the function that it had, and the nodes that stand are those that the list reaches
pub record IsCollected (old new : TableOf) (before after : List Ref) : Type 0 where
  pub levels : new.levels ≡ old.levels
  pub budget : new.budget ≡ old.budget
  pub calls : new.calls ≡ old.calls
  pub fewer : length new.nodes ≤ length old.nodes
  pub table : IsTable new.levels new.nodes
  pub count : length after ≡ length before
  pub each : (k : ℕ) → k < length before → Denotes new (level_of old.levels old.nodes (ref_at before k)) (ref_at after k) (den old.nodes (ref_at before k))
  pub reached : AllReached new.nodes after

-- what a list reaches was moved to the front, and the list with it
pub record AreGathered (old new : List Part) (before after : List Ref) : Type 0 where
  pub marks : List Bool
  pub places : List ℕ
  pub are : AreMoved old new marks places
  pub roots : (k : ℕ) → k < length before → IsMarked marks (ref_at before k)
  pub only : (i : ℕ) → get_or marks i false ≡ true → (k : ℕ) × (k < length before) × Reaches old (ref_at before k) (Inner i)
  pub count : length after ≡ length before
  pub renamed : (k : ℕ) → k < length before → ref_at after k ≡ moved places (ref_at before k)
