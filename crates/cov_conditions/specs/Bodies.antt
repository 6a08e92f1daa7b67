-- The sets of the DEFINEs that are marked, put last.
use Rattle.std.specs.Prelude.{◌≡◌, ℕ, ◌+◌, ◌*◌, ◌<◌, ◌≤◌, IsTrue, IsSome, List, [], ◌∷◌, ◌++◌, Bool, length, slice_get, Option, Some}
use Rattle.std.specs.Option.{option_map_or}
use Rattle.cov_syntax.specs.declared.tree.Value.{Value}
use Rattle.cov_model.specs.declared.model.Define.{Define}
use Rattle.cov_model.specs.declared.model.Model.{Model}
use Rattle.cov_model.specs.declared.model.Signal.{Signal}
use Rattle.cov_model.specs.Settled.{kinds_of}
use Rattle.cov_model.specs.Walk.{own}
use Rattle.cov_types.specs.Roots.{sets_of, greatest_depth, greatest_width}
use Rattle.cov_space.specs.declared.layer.Layer.{Layer}
use Rattle.cov_space.specs.Sets.{SpaceOf, set_at}
use Rattle.cov_space.specs.Steps.{with_more}
use Rattle.cov_nodes.specs.declared.defined.Standing as standing
use Rattle.cov_nodes.specs.declared.reading.Reading.{Reading}
use Rattle.cov_nodes.specs.Choices.{Choice, IsFamily}
use Rattle.cov_nodes.specs.Points.{at_layer}
use Rattle.cov_nodes.specs.Standing.{AreStanding, IsStanding, chunk, chunk_size, define_choice, has_entry}
use Rattle.cov_conditions.specs.Marks.{is_marked}

-- the free places that a body takes
abbrev pub body_room : Model → ℕ
body_room m = (3 * greatest_width m + 4) * greatest_depth m + 8

-- the sets that a DEFINE takes at most
abbrev pub sets_at : Model → ℕ → ℕ
sets_at m i = option_map_or (λ (d : Define). sets_of (own (kinds_of m) d.body)) (slice_get m.defines i) 0

-- a family for each chunk of the values of a DEFINE is put last
pub record PutsChunks (old new : SpaceOf) (m : Model) (layer : Layer) (flip : Option Signal) (i : ℕ) (xs : List Value) : Type 0 where
  pub more : List (List Bool)
  pub is : new ≡ with_more old more
  pub few : length more ≤ length xs
  pub there : (k : ℕ) → k * chunk_size old.levels < length xs → k < length more
  pub families : (k : ℕ) → k * chunk_size old.levels < length xs → IsFamily old.levels m (at_layer layer flip) (chunk (chunk_size old.levels) xs k) (define_choice i) (set_at more k)

-- the sets of a DEFINE for its readings on a layer are put last
pub record PutsDefine (old new : SpaceOf) (m : Model) (layer : Layer) (flip : Option Signal) (i : ℕ) (d : standing.Standing) : Type 0 where
  pub more : List (List Bool)
  pub is : new ≡ with_more old more
  pub few : length more ≤ sets_at m i
  pub stands : IsStanding new m layer flip i d

-- they are, where it is marked, and else it has no entry
pub record PutsEntry (old new : SpaceOf) (m : Model) (layer : Layer) (flip : Option Signal) (marks : List Bool) (i : ℕ) (entry : Option standing.Standing) : Type 0 where
  pub more : List (List Bool)
  pub is : new ≡ with_more old more
  pub few : length more ≤ sets_at m i
  pub stands : (d : standing.Standing) → entry ≡ Some d → IsStanding new m layer flip i d
  pub there : IsTrue (is_marked marks i) → IsSome entry

-- the marked ones below this place have entries
abbrev pub HaveEntries : List Bool → ℕ → List (Option standing.Standing) → Type 0
HaveEntries marks i entries = (j : ℕ) → j < i → IsTrue (is_marked marks j) → IsTrue (has_entry entries j)

-- the sets of the marked ones below a place are put last, and no more than this
pub record PutsDefines (old new : SpaceOf) (m : Model) (layer : Layer) (flip : Option Signal) (marks : List Bool) (i : ℕ) (entries : List (Option standing.Standing)) (count : ℕ) : Type 0 where
  pub more : List (List Bool)
  pub is : new ≡ with_more old more
  pub few : length more ≤ count
  pub stand : AreStanding new m layer flip entries
  pub there : HaveEntries marks i entries

-- a family is put last, behind further sets
pub record PutsFamilyBehind (old new : SpaceOf) (m : Model) (at : Reading) (xs : List Value) (may : Choice) : Type 0 where
  pub more : List (List Bool)
  pub set : List Bool
  pub is : new ≡ with_more old (more ++ set ∷ [])
  pub family : IsFamily old.levels m at xs may set
