-- Finite structures.
use Rattle.std.specs.Prelude.{◌≡◌, Bool, IsTrue, ◌↔◌, List}
use Rattle.std.specs.List.{list_any}
use Rattle.cov_logic.specs.Structure.{Structure}

-- a test tells states apart, and both ends of each step are in the list
pub record IsFinite {S : Type 0} (m : Structure S) (same : S → S → Bool) (states : List S) : Type 0 where
  pub same_is : (s t : S) → IsTrue (same s t) ↔ (s ≡ t)
  pub from : (s t : S) → IsTrue (m.step s t) → IsTrue (list_any (same s) states)
  pub to : (s t : S) → IsTrue (m.step s t) → IsTrue (list_any (same t) states)
