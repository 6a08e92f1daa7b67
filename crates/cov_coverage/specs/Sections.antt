-- The sections of signals in a report.
use Rattle.std.specs.Prelude.{◌≡◌, ◌↔◌, ℕ, IsTrue, List, [], ◌∷◌, ◌++◌, codes}
use Rattle.cov_bits.specs.Layout.{sizes}
use Rattle.cov_classes.specs.Cubes.{Set, cubes}
use Rattle.cov_coverage.specs.declared.names.NamedSignal.{NamedSignal}
use Rattle.cov_cubes.specs.Models.{first_cubes}
use Rattle.cov_logic.specs.Formula.{Formula}
use Rattle.cov_model.specs.declared.model.Model.{Model}
use Rattle.cov_model.specs.declared.model.Signal.{Signal}
use Rattle.cov_model.specs.Paths.{IsReachable}
use Rattle.cov_model.specs.States.{State, is_typed}
use Rattle.cov_claims.specs.Covering.{IsCoveredState}
use Rattle.cov_report.specs.Lines.{set_lines}
use Rattle.cov_report.specs.SpecLines.{signal_line}
use Rattle.cov_show.specs.Cubes.{shown_vars}
use Rattle.cov_syntax.specs.declared.tree.Expr.{Expr}

-- the state is reachable, and the formula does not cover it for the signal
abbrev pub IsUncoveredState : Model → Signal → Formula Expr → State → Type 0
IsUncoveredState m signal f s = IsReachable m s × (IsCoveredState m signal f s → ⊥)

-- the first cubes of a set of states under a title, which stands four spaces deep
abbrev pub titled_states : ℕ → Model → List ℕ → Set → List ℕ
titled_states limit m title set = set_lines 4 title (shown_vars m) (first_cubes limit (cubes (sizes m.vars) set))

-- the line of the signal, the states that the formula covers for it, and the reachable states that it does not
pub record IsSignalSection (limit : ℕ) (m : Model) (f : Formula Expr) (named : NamedSignal) (text : List ℕ) : Type 0 where
  pub covered : Set
  pub are_covered : (s : State) → IsTrue (is_typed m s) → IsTrue (covered s) ↔ IsCoveredState m named.signal f s
  pub uncovered : Set
  pub are_uncovered : (s : State) → IsTrue (is_typed m s) → IsTrue (uncovered s) ↔ IsUncoveredState m named.signal f s
  pub is : text ≡ signal_line named.name ++ (titled_states limit m (codes "covered") covered ++ titled_states limit m (codes "uncovered") uncovered)

-- a section for each signal, in their order
pub data AreSignalSections (limit : ℕ) (m : Model) (f : Formula Expr) : List NamedSignal → List ℕ → Type 0 where
  none : AreSignalSections limit m f [] []
  more : (qs : List NamedSignal) (q : NamedSignal) (text section : List ℕ) → AreSignalSections limit m f qs text
      → IsSignalSection limit m f q section → AreSignalSections limit m f (qs ++ q ∷ []) (text ++ section)
