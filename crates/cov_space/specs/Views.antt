-- What a Space keeps.
use Rattle.std.specs.Prelude.{◌≡◌, ℕ, ◌<◌, ◌≤◌, ◌%◌, ◌^◌, List, length}
use Rattle.cov_dd.specs.declared.node.Ref.{Ref}
use Rattle.cov_dd.specs.Nodes.{TableOf}
use Rattle.cov_dd.specs.Reached.{AllLive}
use Rattle.cov_space.specs.Sets.{SpaceOf}
use Rattle.cov_space.specs.Tasks.{sets_of}

-- the list of sets that a table and a list of its diagrams are
abbrev pub view_of : TableOf → List Ref → ℕ → ℕ → SpaceOf
view_of t list places refused = record { levels = t.levels; budget = t.budget; places = places; refused = refused; sets = sets_of t list }

-- the levels are those of three layers, the diagrams are live, and the list has room for all places
pub record IsSpace (t : TableOf) (list : List Ref) (places capacity : ℕ) : Type 0 where
  pub thirds : t.levels % 3 ≡ 0
  pub live : AllLive t.nodes list
  pub within : length list ≤ places
  pub room : places ≤ capacity
  pub small : places < 2 ^ 32
