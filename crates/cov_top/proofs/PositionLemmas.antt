-- Lemmas on lines and columns.
use Rattle.std.proofs.Common.{◌≡◌, ℕ, ◌+◌, ◌≤◌, List}
use Rattle.cov_top.specs.Position.{line_of, column_of}

-- the counts at a place, which are at most one more than it
pub record CountsTo (text : List ℕ) (at line column : ℕ) : Type 0 where
  pub line_is : line ≡ line_of text at
  pub column_is : column ≡ column_of text at
  pub few_lines : line ≤ at + 1
  pub few_columns : column ≤ at + 1
