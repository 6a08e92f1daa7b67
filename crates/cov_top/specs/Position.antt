-- The line and the column of a byte, and the word there.
use Rattle.std.specs.Prelude.{ℕ, Bool, not, ◌==◌, ◌+◌, ◌&&◌, nat_le, if◌then◌else◌, List, length, take, reverse, count_by, slice_range, Option, None}
use Rattle.std.specs.List.{take_while}
use Rattle.cov_syntax.specs.declared.fault.FaultKind.TheVariants as fault
use Rattle.cov_syntax.specs.declared.fault.ModelFault.{ModelFault}
use Rattle.cov_syntax.specs.declared.tree.Span.{Span}
use Rattle.cov_syntax.specs.declared.words.Word.{Word}
use Rattle.cov_syntax.specs.Faults.{code_of}
use Rattle.cov_syntax.specs.Tokens.{spelled_word}

-- whether a byte ends a line
abbrev pub is_line_end : ℕ → Bool
is_line_end b = b == 10

-- 1 plus the ends of lines before the byte
abbrev pub line_of : List ℕ → ℕ → ℕ
line_of text at = 1 + count_by is_line_end (take at text)

-- 1 plus the bytes since the last end of a line
abbrev pub column_of : List ℕ → ℕ → ℕ
column_of text at = 1 + length (take_while (λ b. not (is_line_end b)) (reverse (take at text)))

-- whether a place lies in the text
abbrev pub is_within : List ℕ → Span → Bool
is_within text place = nat_le place.start place.stop && nat_le place.stop (length text)

-- the word at the place of a fault that tells one: a word that is left out
abbrev pub told_word : List ℕ → ModelFault → Option Word
told_word text f = if f.code == code_of fault.LeftOut && is_within text f.place then spelled_word (slice_range text f.place.start f.place.stop) else None
