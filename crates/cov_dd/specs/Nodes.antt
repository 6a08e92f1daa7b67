-- Tables of nodes, and the functions of diagrams (Bryant, 1986).
use Rattle.std.specs.Prelude.{◌≡◌, ◌≢◌, ℕ, suc, zero, ◌<◌, ◌≤◌, ◌+◌, ◌-◌, ◌^◌, ◌⊎◌, ◌++◌, [], ◌∷◌, min, List, Bool, false, length, get_or, if◌then◌else◌, Option, None, Some}
use Rattle.cov_dd.specs.declared.node.Ref.{Ref}
use Rattle.cov_dd.specs.declared.node.Ref.TheVariants.{Constant, Inner}
use Rattle.cov_dd.specs.declared.node.Part.{Part}

-- what a table is to its callers
pub record TableOf : Type 0 where
  pub levels : ℕ
  pub budget : ℕ
  pub calls : ℕ
  pub nodes : List Part

-- what stands past the end of a list of nodes
abbrev pub no_node : Part
no_node = record { level = 0; low = Constant false; high = Constant false }

-- the node at a place
abbrev pub node_at : List Part → ℕ → Part
node_at nodes i = get_or nodes i no_node

-- constants come first, and then the nodes by their numbers
abbrev pub rank : Ref → ℕ
rank (Constant b) = 0
rank (Inner i) = suc i

-- a constant is below all levels
abbrev pub level_of : ℕ → List Part → Ref → ℕ
level_of levels nodes (Constant b) = levels
level_of levels nodes (Inner i) = (node_at nodes i).level

-- the first level of two diagrams
abbrev pub top_of : TableOf → Ref → Ref → ℕ
top_of t f g = min (level_of t.levels t.nodes f) (level_of t.levels t.nodes g)

-- the name of a node
abbrev pub IsInner : Ref → Type 0
IsInner (Constant b) = ⊥
IsInner (Inner i) = Unit {0}

-- A constant is its value. A node goes on at its low or high child by the bit of its level.
-- Children stand before their parents, so as many steps as the rank are enough.
abbrev pub den_by : ℕ → List Part → Ref → List Bool → Bool
den_by steps nodes (Constant b) row = b
den_by zero nodes (Inner i) row = false
den_by (suc steps) nodes (Inner i) row =
    if get_or row (node_at nodes i).level false
    then den_by steps nodes (node_at nodes i).high row
    else den_by steps nodes (node_at nodes i).low row

-- the function of a diagram: its value at each row of bits
abbrev pub den : List Part → Ref → List Bool → Bool
den nodes r row = den_by (rank r) nodes r row

-- names a constant or a node that stands
abbrev pub IsLive : List Part → Ref → Type 0
IsLive nodes r = rank r ≤ length nodes

-- may be a child of a node of this level
pub record IsBelow (levels : ℕ) (nodes : List Part) (level : ℕ) (r : Ref) : Type 0 where
  pub live : rank r ≤ length nodes
  pub ordered : level < level_of levels nodes r

-- the node at a place is ordered and reduced
pub record IsPlaced (levels : ℕ) (nodes : List Part) (i : ℕ) : Type 0 where
  pub low_before : rank (node_at nodes i).low ≤ i
  pub high_before : rank (node_at nodes i).high ≤ i
  pub low_ordered : (node_at nodes i).level < level_of levels nodes (node_at nodes i).low
  pub high_ordered : (node_at nodes i).level < level_of levels nodes (node_at nodes i).high
  pub level : (node_at nodes i).level < levels
  pub reduced : (node_at nodes i).low ≢ (node_at nodes i).high

-- ordered, reduced, and no node twice
pub record IsTable (levels : ℕ) (nodes : List Part) : Type 0 where
  pub placed : (i : ℕ) → i < length nodes → IsPlaced levels nodes i
  pub distinct : (i j : ℕ) → i < length nodes → j < length nodes → node_at nodes i ≡ node_at nodes j → i ≡ j

-- two diagrams agree on every row of as many bits as levels
abbrev pub SameFunction : ℕ → List Part → Ref → Ref → Type 0
SameFunction levels nodes f g = (row : List Bool) → length row ≡ levels → den nodes f row ≡ den nodes g row

-- no node that stands tests this level with these children, and they differ
pub record IsNew (nodes : List Part) (level : ℕ) (low high : Ref) : Type 0 where
  pub differ : low ≢ high
  pub absent : (k : ℕ) → k < length nodes → node_at nodes k ≢ record { level = level; low = low; high = high }

-- the one child, or a node that stands
abbrev pub IsPicked : List Part → ℕ → Ref → Ref → Ref → Type 0
IsPicked nodes level low high (Constant b) = (low ≡ high) × (Constant b ≡ low)
IsPicked nodes level low high (Inner i) = ((low ≡ high) × (Inner i ≡ low)) ⊎ ((low ≢ high) × (i < length nodes) × (node_at nodes i ≡ record { level = level; low = low; high = high }))

-- the answer of `mk`: at most one node is added, and then it is the answer
pub record Answers (old new : TableOf) (level : ℕ) (low high r : Ref) : Type 0 where
  pub picked : IsPicked new.nodes level low high r
  pub added : (new.nodes ≡ old.nodes) ⊎ (IsNew old.nodes level low high × (new.nodes ≡ old.nodes ++ record { level = level; low = low; high = high } ∷ []))

-- one call more
abbrev pub counted : ℕ → ℕ
counted calls = min (calls + 1) (2 ^ 64 - 1)

-- the table has the nodes that it had, at their places, and perhaps more behind them
pub record Extends (old new : TableOf) : Type 0 where
  pub levels : new.levels ≡ old.levels
  pub budget : new.budget ≡ old.budget
  pub more : List Part
  pub nodes : new.nodes ≡ old.nodes ++ more

-- each diagram has the function that it had
pub record Keeps (old new : TableOf) (r : Ref) : Type 0 where
  pub live : IsLive new.nodes r
  pub level : level_of new.levels new.nodes r ≡ level_of old.levels old.nodes r
  pub den : (row : List Bool) → den new.nodes r row ≡ den old.nodes r row

-- a diagram of this function, none of whose levels is above this one
pub record Denotes (t : TableOf) (top : ℕ) (r : Ref) (function : List Bool → Bool) : Type 0 where
  pub live : IsLive t.nodes r
  pub level : top ≤ level_of t.levels t.nodes r
  pub den : (row : List Bool) → den t.nodes r row ≡ function row

-- by the bit of the level, one of two functions
abbrev pub chosen : ℕ → (List Bool → Bool) → (List Bool → Bool) → List Bool → Bool
chosen level low high row = if get_or row level false then high row else low row

-- the node that a diagram begins with
abbrev pub part_of : List Part → Ref → Option Part
part_of nodes (Constant b) = None
part_of nodes (Inner i) = Some (node_at nodes i)
