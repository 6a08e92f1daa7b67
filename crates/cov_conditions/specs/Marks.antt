-- The DEFINEs that an expression reads, itself and through others.
use Rattle.std.specs.Prelude.{◌≡◌, ℕ, List, [], ◌∷◌, Bool, true, false, IsTrue, length, get_or, slice_get, slice_set, Some}
use Rattle.std.specs.List.{list_all}
use Rattle.cov_syntax.specs.declared.tree.Expr.{Expr}
use Rattle.cov_model.specs.declared.model.Define.{Define}
use Rattle.cov_model.specs.declared.model.Model.{Model}
use Rattle.cov_model.specs.Order.{reads}

-- whether a place is marked
abbrev pub is_marked : List Bool → ℕ → Bool
is_marked marks i = get_or marks i false

-- each of these places is
abbrev pub are_marked : List Bool → List ℕ → Bool
are_marked marks is = list_all (is_marked marks) is

-- these places are marked besides
abbrev pub with_marks : List Bool → List ℕ → List Bool
with_marks marks [] = marks
with_marks marks (i ∷ is) = with_marks (slice_set marks i true) is

-- with each marked DEFINE those are marked that its body reads
abbrev pub AreClosed : List Define → List Bool → Type 0
AreClosed defines marks = (i : ℕ) (d : Define) → slice_get defines i ≡ Some d → IsTrue (is_marked marks i) → IsTrue (are_marked marks (reads d.body))

-- the DEFINEs are marked that an expression reads, and those that a marked one reads
pub record AreReads (m : Model) (e : Expr) (marks : List Bool) : Type 0 where
  pub count : length marks ≡ length m.defines
  pub here : IsTrue (are_marked marks (reads e))
  pub below : AreClosed m.defines marks
