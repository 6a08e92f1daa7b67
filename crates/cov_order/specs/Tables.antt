-- The first DEFINE that may come next, and how many of the first reads of each are placed.
use Rattle.std.specs.Prelude.{ℕ, Bool, not, ◌&&◌, IsTrue, List, take, slice_get, unwrap_or}
use Rattle.std.specs.List.{list_all}
use Rattle.cov_model.specs.Order.{Reads, read_by, has}

-- a DEFINE that is not placed, and reads only placed ones
abbrev pub is_ready : List ℕ → ℕ → List ℕ → Bool
is_ready placed i js = not (has placed i) && list_all (has placed) js

-- of each DEFINE so many of its first reads are placed
abbrev pub ArePassed : List ℕ → List ℕ → Reads → Type 0
ArePassed placed passed g = (i : ℕ) → IsTrue (list_all (has placed) (take (unwrap_or (slice_get passed i) 0) (read_by g i)))
