-- Laws of codes and rows.
use Rattle.std.specs.Prelude.{◌≡◌, ℕ, ◌-◌, ◌/◌, ◌%◌, ◌^◌, ◌<◌, ◌≤◌, Bool, false, ◌==◌, IsTrue, List, length, get_or}
use Rattle.cov_model.specs.declared.model.Model.{Model}
use Rattle.cov_model.specs.States.{is_typed}
use Rattle.cov_bits.specs.Layout.{sizes, width, bits, are_places, code, row, number, part, places}

-- each typed state has a code below the power of two, and no two have the same
pub record CodeLaw : Type 0 where
  pub below : (ns s : List ℕ) → IsTrue (are_places ns s) → code ns s < 2 ^ bits ns
  pub one : (ns s t : List ℕ) → IsTrue (are_places ns s) → IsTrue (are_places ns t) → code ns s ≡ code ns t → s ≡ t

-- each row is that of its number, which is below the power of two; each such number is that of its row; and what a bit of a row is
pub record RowLaw : Type 0 where
  pub below : (r : List Bool) → number r < 2 ^ length r
  pub row_of : (r : List Bool) → row (length r) (number r) ≡ r
  pub number_of : (n c : ℕ) → c < 2 ^ n → number (row n c) ≡ c
  pub long : (n c : ℕ) → length (row n c) ≡ n
  pub bit : (n c b : ℕ) → b < n → get_or (row n c) b false ≡ (c / 2 ^ (n - 1 - b) % 2 == 1)

-- In the row of a typed state's code the bits of a variable are the row of its place, and the row names the state.
-- A row names one number for each variable, and the code of these, typed or not, is the number of the row.
pub record PlaceLaw : Type 0 where
  pub held : (ns s : List ℕ) (var : ℕ) → IsTrue (are_places ns s) → var < length ns → part ns var (row (bits ns) (code ns s)) ≡ row (width (get_or ns var 0)) (get_or s var 0)
  pub named : (ns s : List ℕ) → IsTrue (are_places ns s) → places ns (row (bits ns) (code ns s)) ≡ s
  pub at : (ns : List ℕ) (r : List Bool) (var : ℕ) → var < length ns → get_or (places ns r) var 0 ≡ number (part ns var r)
  pub coded : (ns : List ℕ) (r : List Bool) → length r ≡ bits ns → code ns (places ns r) ≡ number r

-- so many bits hold each place of a variable, and no fewer bits do
pub record WidthLaw : Type 0 where
  pub holds : (n : ℕ) → 0 < n → n ≤ 2 ^ width n
  pub least : (n w : ℕ) → 0 < n → n ≤ 2 ^ w → width n ≤ w

-- a typed state of a model has a place for each variable
abbrev pub TypedLaw : Type 0
TypedLaw = (m : Model) (s : List ℕ) → is_typed m s ≡ are_places (sizes m.vars) s
