-- The marks: their numbers and their spellings.
use Rattle.std.specs.Prelude.{ℕ, List, [], ◌∷◌, Option, slice_get, codes}
use Rattle.cov_syntax.specs.declared.marks.Mark.{Mark}
use Rattle.cov_syntax.specs.declared.marks.Mark.TheVariants as m

-- the number of a mark
abbrev pub mark_number : Mark → ℕ
mark_number m.OpenParen = 0
mark_number m.CloseParen = 1
mark_number m.OpenBrace = 2
mark_number m.CloseBrace = 3
mark_number m.OpenBracket = 4
mark_number m.CloseBracket = 5
mark_number m.Comma = 6
mark_number m.Semicolon = 7
mark_number m.Colon = 8
mark_number m.Dot = 9
mark_number m.Dots = 10
mark_number m.Becomes = 11
mark_number m.Equal = 12
mark_number m.NotEqual = 13
mark_number m.Less = 14
mark_number m.LessEqual = 15
mark_number m.Greater = 16
mark_number m.GreaterEqual = 17
mark_number m.Plus = 18
mark_number m.Minus = 19
mark_number m.Star = 20
mark_number m.Slash = 21
mark_number m.Not = 22
mark_number m.And = 23
mark_number m.Or = 24
mark_number m.Implies = 25
mark_number m.Iff = 26

-- the bytes of a mark
abbrev pub mark_spelling : Mark → List ℕ
mark_spelling m.OpenParen = codes "("
mark_spelling m.CloseParen = codes ")"
mark_spelling m.OpenBrace = codes "{"
mark_spelling m.CloseBrace = codes "}"
mark_spelling m.OpenBracket = codes "["
mark_spelling m.CloseBracket = codes "]"
mark_spelling m.Comma = codes ","
mark_spelling m.Semicolon = codes ";"
mark_spelling m.Colon = codes ":"
mark_spelling m.Dot = codes "."
mark_spelling m.Dots = codes ".."
mark_spelling m.Becomes = codes ":="
mark_spelling m.Equal = codes "="
mark_spelling m.NotEqual = codes "!="
mark_spelling m.Less = codes "<"
mark_spelling m.LessEqual = codes "<="
mark_spelling m.Greater = codes ">"
mark_spelling m.GreaterEqual = codes ">="
mark_spelling m.Plus = codes "+"
mark_spelling m.Minus = codes "-"
mark_spelling m.Star = codes "*"
mark_spelling m.Slash = codes "/"
mark_spelling m.Not = codes "!"
mark_spelling m.And = codes "&"
mark_spelling m.Or = codes "|"
mark_spelling m.Implies = codes "->"
mark_spelling m.Iff = codes "<->"

-- the marks, numbered from 0
abbrev pub marks : List Mark
marks =
    m.OpenParen ∷ m.CloseParen ∷ m.OpenBrace ∷ m.CloseBrace ∷ m.OpenBracket ∷ m.CloseBracket ∷ m.Comma ∷ m.Semicolon ∷ m.Colon ∷
    m.Dot ∷ m.Dots ∷ m.Becomes ∷ m.Equal ∷ m.NotEqual ∷ m.Less ∷ m.LessEqual ∷ m.Greater ∷ m.GreaterEqual ∷ m.Plus ∷ m.Minus ∷
    m.Star ∷ m.Slash ∷ m.Not ∷ m.And ∷ m.Or ∷ m.Implies ∷ m.Iff ∷ []

-- the mark with a number, if there is one
abbrev pub mark_numbered : ℕ → Option Mark
mark_numbered n = slice_get marks n
