-- The states that a row names, as the point at which an expression is read.
use Rattle.std.specs.Prelude.{◌&&◌, List, Bool, true, false, Option, None}
use Rattle.cov_bits.specs.Layout.{sizes}
use Rattle.cov_space.specs.declared.layer.Layer.{Layer}
use Rattle.cov_space.specs.declared.layer.Layer.TheVariants.{W, V, N}
use Rattle.cov_model.specs.declared.model.Signal.{Signal}
use Rattle.cov_model.specs.declared.model.Model.{Model}
use Rattle.cov_model.specs.Meaning.{Point}
use Rattle.cov_model.specs.States.{State, between}
use Rattle.cov_places.specs.Places.{state_on, is_typed_on}
use Rattle.cov_nodes.specs.declared.reading.Reading.{Reading}

-- the state of a model that a row names on a layer
abbrev pub state_of : Model → Layer → List Bool → State
state_of m layer row = state_on (sizes m.vars) layer row

-- whether it is typed
abbrev pub has_typed : Model → Layer → List Bool → Bool
has_typed m layer row = is_typed_on (sizes m.vars) layer row

-- one state, which stands for both
abbrev pub at_layer : Layer → Option Signal → Reading
at_layer layer flip = record { present = layer; next = layer; flip = flip }

-- how the operand of `next` is read
abbrev pub moved_on : Reading → Reading
moved_on at = record { present = at.next; next = at.next; flip = None }

-- a layer of states: the numbers of values are held on the layer W
abbrev pub holds_states : Layer → Bool
holds_states W = false
holds_states V = true
holds_states N = true

-- both states of a reading stand on layers of states and are typed
abbrev pub is_point : Model → Reading → List Bool → Bool
is_point m at row = holds_states at.present && holds_states at.next && has_typed m at.present row && has_typed m at.next row

-- the point at which an expression is read
abbrev pub point_at : Model → Reading → List Bool → Point
point_at m at row = between m (state_of m at.present row) (state_of m at.next row) at.flip
