-- Chains of nodes with equal hashes, along which a node is looked for.
use Rattle.std.specs.Prelude.{◌≡◌, ℕ, suc, ◌<◌, ◌≤◌, ◌+◌, ◌*◌, ◌/◌, ◌%◌, ◌^◌, List, length, get_or, if◌then◌else◌}
use Rattle.cov_dd.specs.declared.node.Ref.{Ref}
use Rattle.cov_dd.specs.declared.node.Ref.TheVariants.{Constant, Inner}
use Rattle.cov_dd.specs.declared.node.Part.{Part}
use Rattle.cov_dd.specs.Nodes.{node_at, IsTable}

-- for each bucket the place of its newest node, for each node that of the next older one, and how many nodes there is room for; places are counted from 1, and 0 is none
pub record ChainsOf : Type 0 where
  pub heads : List ℕ
  pub nexts : List ℕ
  pub room : ℕ

-- a diagram as a number
abbrev pub code_of : Ref → ℕ
code_of (Constant b) = if b then 1 else 0
code_of (Inner i) = i + 2

-- the hash of a node, below 2 ^ 32: the upper half of a product, twice
unfoldable pub hash_of : Part → ℕ
hash_of node =
    (((code_of node.low + node.level * 2 ^ 33) * 11400714819323198485) % 2 ^ 64 / 2 ^ 32 + code_of node.high) * 14029467366897019727 % 2 ^ 64 / 2 ^ 32

-- the bucket of a node, of so many
unfoldable pub bucket_of : ℕ → Part → ℕ
bucket_of count node = hash_of node * count / 2 ^ 32

-- k is on the chain that begins at a place
pub data OnChain (nexts : List ℕ) : ℕ → ℕ → Type 0 where
  first : (k : ℕ) → OnChain nexts (suc k) k
  later : (i k : ℕ) → OnChain nexts (get_or nexts i 0) k → OnChain nexts (suc i) k

-- each node is on the chain of its bucket, and a chain goes to older nodes
pub record IsChained (nodes : List Part) (chains : ChainsOf) : Type 0 where
  pub size : length chains.nexts ≡ length nodes
  pub begins : (b : ℕ) → get_or chains.heads b 0 ≤ length nodes
  pub falls : (i : ℕ) → i < length chains.nexts → get_or chains.nexts i 0 ≤ i
  pub chained : (k : ℕ) → k < length nodes → OnChain chains.nexts (get_or chains.heads (bucket_of (length chains.heads) (node_at nodes k)) 0) k

-- what a table keeps, in lists that have room for as many nodes as the budget
pub record IsKept (levels budget : ℕ) (nodes : List Part) (chains : ChainsOf) (capacity : ℕ) : Type 0 where
  pub table : IsTable levels nodes
  pub chained : IsChained nodes chains
  pub within : length nodes ≤ budget
  pub room : budget ≤ capacity
  pub chain_room : budget ≤ chains.room
  pub small : budget < 2 ^ 32
