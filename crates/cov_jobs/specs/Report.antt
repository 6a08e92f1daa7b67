-- The reports on sets of states.
use Rattle.std.specs.Prelude.{◌≡◌, ℕ, IsTrue, ◌↔◌, List, codes}
use Rattle.cov_model.specs.declared.model.Model.{Model}
use Rattle.cov_model.specs.Paths.{IsReachable}
use Rattle.cov_model.specs.States.{State, is_initial, is_typed}
use Rattle.cov_bits.specs.Layout.{sizes}
use Rattle.cov_classes.specs.Cubes.{Set, cubes}
use Rattle.cov_cubes.specs.Models.{first_cubes}
use Rattle.cov_show.specs.Cubes.{shown_vars}
use Rattle.cov_report.specs.Lines.{set_lines}

-- the first cubes of a set of states, under a title
abbrev pub states_text : List ℕ → ℕ → Model → Set → List ℕ
states_text title limit m set = set_lines 0 title (shown_vars m) (first_cubes limit (cubes (sizes m.vars) set))

-- the report on the initial states
abbrev pub init_text : ℕ → Model → List ℕ
init_text limit m = states_text (codes "initial") limit m (is_initial m)

-- the report on the reachable states. The set is that of the reachable states: its cubes are the same, whatever it holds beside states.
pub record IsReachReport (limit : ℕ) (m : Model) (text : List ℕ) : Type 0 where
  pub set : Set
  pub holds : (s : State) → IsTrue (is_typed m s) → IsTrue (set s) ↔ IsReachable m s
  pub is : text ≡ states_text (codes "reachable") limit m set
