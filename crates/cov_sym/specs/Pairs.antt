-- Sets of pairs of states, and the steps by which the set of an atom is made.
use Rattle.std.specs.Prelude.{ℕ, ◌+◌, ◌*◌, ◌&&◌, ◌||◌, if◌then◌else◌, not, List, Bool, false, get_or, Option}
use Rattle.std.specs.Str.{bytes_eq}
use Rattle.cov_dd.specs.Need.{values}
use Rattle.cov_syntax.specs.declared.tree.Expr.{Expr}
use Rattle.cov_model.specs.declared.model.Model.{Model}
use Rattle.cov_model.specs.declared.model.Signal.{Signal}
use Rattle.cov_model.specs.States.{holds}
use Rattle.cov_space.specs.declared.layer.Layer.TheVariants.{W, V}
use Rattle.cov_space.specs.Sets.{lies}
use Rattle.cov_places.specs.Places.{state_on}
use Rattle.cov_nodes.specs.Points.{has_typed, state_of}

-- the rows whose states on layers W and V differ
unfoldable pub differing_set : ℕ → List ℕ → List Bool
differing_set levels ns = values levels (λ row. not (bytes_eq (state_on ns W row) (state_on ns V row)))

-- whether a row's states on layers W and V differ at a bit
abbrev pub differ_at : ℕ → List Bool → Bool
differ_at b row = if get_or row (3 * b) false then not (get_or row (3 * b + 1) false) else get_or row (3 * b + 1) false

-- the rows of the set and those whose states differ at the bit
unfoldable pub joined_at : ℕ → ℕ → List Bool → List Bool
joined_at levels b set = values levels (λ row. lies set row || differ_at b row)

-- the rows of the first set among the rows of the third, and of the second set elsewhere
unfoldable pub chosen_set : ℕ → List Bool → List Bool → List Bool → List Bool
chosen_set levels first second among = values levels (λ row. if lies among row then lies first row else lies second row)

-- the pairs of typed states at which an expression is true, the signal being inverted at each of them
unfoldable pub read_set : ℕ → Model → Option Signal → Expr → List Bool
read_set levels m signal e = values levels (λ row. (has_typed m W row && has_typed m V row) && holds m e (state_of m V row) signal)
