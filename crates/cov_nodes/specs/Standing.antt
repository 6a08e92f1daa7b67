-- The sets of DEFINEs that stand while expressions are read.
use Rattle.std.specs.Prelude.{◌≡◌, ℕ, ◌+◌, ◌*◌, ◌^◌, ◌/◌, ◌<◌, ◌≤◌, min, IsTrue, IsFalse, List, Bool, true, false, length, take, drop, slice_get, Option, Some, None}
use Rattle.cov_syntax.specs.declared.tree.Value.{Value}
use Rattle.cov_syntax.specs.declared.tree.Value.TheVariants as v
use Rattle.cov_model.specs.declared.model.Signal.{Signal}
use Rattle.cov_model.specs.declared.model.Model.{Model}
use Rattle.cov_model.specs.Kinds.{is_truth, member}
use Rattle.cov_model.specs.Meaning.{define}
use Rattle.cov_model.specs.States.{State, is_typed, readings_in}
use Rattle.cov_model.specs.Types.{has_twice}
use Rattle.cov_model.specs.Values.{same_value}
use Rattle.cov_space.specs.declared.layer.Layer.{Layer}
use Rattle.cov_space.specs.Sets.{SpaceOf, set_at}
use Rattle.cov_nodes.specs.declared.defined.Standing as standing
use Rattle.cov_nodes.specs.Points.{at_layer}
use Rattle.cov_nodes.specs.Choices.{Choice, IsFamily, ones}

-- how many values one set can stand for: as many as a layer has numbers, and 1,024 at most
abbrev pub chunk_size : ℕ → ℕ
chunk_size levels = min (2 ^ (levels / 3)) 1024

-- the k-th chunk of a list
abbrev pub chunk : ℕ → List Value → ℕ → List Value
chunk size xs k = take size (drop (k * size) xs)

-- the value of a DEFINE where it is read
abbrev pub define_choice : ℕ → Choice
define_choice i p z = same_value (define p.present i) z

-- the DEFINE is TRUE or FALSE, and its truth stands at a place
pub record IsTruthAt (s : SpaceOf) (m : Model) (layer : Layer) (flip : Option Signal) (i slot : ℕ) : Type 0 where
  pub there : slot < length s.sets
  pub boolean : (t : State) → IsTrue (is_typed m t) → IsTrue (is_truth (define (readings_in m t flip) i))
  pub is : IsFamily s.levels m (at_layer layer flip) ones (define_choice i) (set_at s.sets slot)

-- the values of the DEFINE are among these, and from a place on a set stands for each chunk of them
pub record IsChunkedAt (s : SpaceOf) (m : Model) (layer : Layer) (flip : Option Signal) (i first : ℕ) (xs : List Value) : Type 0 where
  pub listed : (t : State) → IsTrue (is_typed m t) → IsTrue (member xs (define (readings_in m t flip) i))
  pub few : length xs ≤ 1024
  pub once : IsFalse (has_twice xs)
  pub there : (k : ℕ) → k * chunk_size s.levels < length xs → first + k < length s.sets
  pub is : (k : ℕ) → k * chunk_size s.levels < length xs → IsFamily s.levels m (at_layer layer flip) (chunk (chunk_size s.levels) xs k) (define_choice i) (set_at s.sets (first + k))

-- the sets of a DEFINE stand for its readings on a layer
abbrev pub IsStanding : SpaceOf → Model → Layer → Option Signal → ℕ → standing.Standing → Type 0
IsStanding s m layer flip i (standing.TheVariants.Truth slot) = IsTruthAt s m layer flip i slot
IsStanding s m layer flip i (standing.TheVariants.Chunks first xs) = IsChunkedAt s m layer flip i first xs

-- each DEFINE that has an entry stands
abbrev pub AreStanding : SpaceOf → Model → Layer → Option Signal → List (Option standing.Standing) → Type 0
AreStanding s m layer flip defines = (i : ℕ) (d : standing.Standing) → slice_get defines i ≡ Some (Some d) → IsStanding s m layer flip i d

-- whether a DEFINE has an entry
abbrev pub has_entry : List (Option standing.Standing) → ℕ → Bool
has_entry defines i = elim (slice_get defines i) [ Some (Some d) ↦ true | Some None ↦ false | None ↦ false ]
