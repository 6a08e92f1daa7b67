-- Tokens with their meaning, lists of them, and the tables of the words and marks of the grammar.
use Rattle.std.specs.Prelude.{◌≡◌, ℕ, zero, suc, ◌+◌, ◌-◌, ◌*◌, min, Bool, true, false, if◌then◌else◌, List, [], ◌∷◌, ◌++◌, length, take, drop, fold, map, bytes_eq, slice_get, Option, Some, None}
use Rattle.std.specs.List.{list_any}
use denote.Enum.Bare.{sameb}
use Rattle.cov_syntax.specs.contracts.marks.Mark as marks
use Rattle.cov_syntax.specs.contracts.words.Word as words
use Rattle.cov_syntax.specs.declared.lexeme.Block.{Block}
use Rattle.cov_syntax.specs.declared.lexeme.Block.TheVariants as block
use Rattle.cov_syntax.specs.declared.lexeme.Lexeme.{Lexeme}
use Rattle.cov_syntax.specs.declared.lexeme.Terminal.{Terminal}
use Rattle.cov_syntax.specs.declared.lexeme.Terminal.TheVariants as k
use Rattle.cov_syntax.specs.declared.marks.Mark.{Mark}
use Rattle.cov_syntax.specs.declared.marks.Mark.TheVariants as m
use Rattle.cov_syntax.specs.declared.program.CondKind.{CondKind}
use Rattle.cov_syntax.specs.declared.program.CondKind.TheVariants as cond_kind
use Rattle.cov_syntax.specs.declared.program.When.{When}
use Rattle.cov_syntax.specs.declared.program.When.TheVariants as when
use Rattle.cov_syntax.specs.declared.program.Spelled.{Spelled}
use Rattle.cov_syntax.specs.declared.token.Token.{Token}
use Rattle.cov_syntax.specs.declared.token.TokenKind.{TokenKind}
use Rattle.cov_syntax.specs.declared.token.TokenKind.TheVariants as token_kind
use Rattle.cov_syntax.specs.declared.tree.Expr.{Expr, roll-Expr}
use Rattle.cov_syntax.specs.declared.tree.Node.{Node}
use Rattle.cov_syntax.specs.declared.tree.Op1.{Op1}
use Rattle.cov_syntax.specs.declared.tree.Op1.TheVariants as op1
use Rattle.cov_syntax.specs.declared.tree.Op2.{Op2}
use Rattle.cov_syntax.specs.declared.tree.Op2.TheVariants as op2
use Rattle.cov_syntax.specs.declared.tree.Span.{Span}
use Rattle.cov_syntax.specs.declared.words.Word.{Word}
use Rattle.cov_syntax.specs.declared.words.Word.TheVariants as w
use Rattle.cov_syntax.specs.Marks.{mark_numbered}
use Rattle.cov_syntax.specs.Words.{word_numbered}

-- ---- the meaning of tokens

-- the bytes of a token
abbrev pub spelling : List ℕ → Token → List ℕ
spelling text t = take (t.span.stop - t.span.start) (drop t.span.start text)

-- the names with this one put last, unless it is held
abbrev pub with_name : List (List ℕ) → List ℕ → List (List ℕ)
with_name names name = if list_any (bytes_eq name) names then names else names ++ name ∷ []

-- the names after a token of this kind and spelling
abbrev pub names_after : List (List ℕ) → TokenKind → List ℕ → List (List ℕ)
names_after names token_kind.Name name = with_name names name
names_after names _ name = names

-- the names after these tokens
abbrev pub names_from : List ℕ → List (List ℕ) → List Token → List (List ℕ)
names_from text names [] = names
names_from text names (t ∷ ts) = names_from text (names_after names t.kind (spelling text t)) ts

-- the names of a text: the texts of its name tokens, each once, in the order in which they first stand
abbrev pub names_of : List ℕ → List Token → List (List ℕ)
names_of text ts = names_from text [] ts

-- the place of a name among the names
abbrev pub place_of : List ℕ → List (List ℕ) → ℕ
place_of name [] = 0
place_of name (other ∷ names) = if bytes_eq name other then 0 else suc (place_of name names)

-- the greatest number that may stand in a text
abbrev pub greatest_number : ℕ
greatest_number = 1000000

-- the value of decimal digits
abbrev pub value_of : List ℕ → ℕ
value_of digits = fold (λ n digit. 10 * n + (digit - 48)) 0 digits

-- the terminal with an optional word or mark
abbrev pub of_word : Option Word → Terminal
of_word None = k.Nothing
of_word (Some word) = k.Word word

abbrev pub of_mark : Option Mark → Terminal
of_mark None = k.Nothing
of_mark (Some mark) = k.Mark mark

-- the terminal of a token of this kind
abbrev pub terminal_of : TokenKind → Terminal
terminal_of token_kind.Name = k.Name
terminal_of token_kind.Number = k.Number
terminal_of (token_kind.Word n) = of_word (word_numbered n)
terminal_of (token_kind.Mark n) = of_mark (mark_numbered n)

-- the place of a name, or the value of a number, where all that are too great count as one
abbrev pub meaning : List (List ℕ) → TokenKind → List ℕ → ℕ
meaning names token_kind.Name spelled = place_of spelled names
meaning names token_kind.Number spelled = min (value_of spelled) (greatest_number + 1)
meaning names _ spelled = 0

-- a token with its meaning
abbrev pub lexeme_of : List ℕ → List (List ℕ) → Token → Lexeme
lexeme_of text names t = record { kind = terminal_of t.kind; value = meaning names t.kind (spelling text t); place = t.span }

-- the tokens of a text with their meaning
abbrev pub lexemes_of : List ℕ → List Token → List Lexeme
lexemes_of text ts = map (lexeme_of text (names_of text ts)) ts

-- ---- lists of lexemes

abbrev pub Lexemes : Type 0
Lexemes = List Lexeme

-- what the first one is
abbrev pub kind : Lexemes → Terminal
kind [] = k.Nothing
kind (t ∷ ts) = t.kind

-- those after the first
abbrev pub next : Lexemes → Lexemes
next [] = []
next (t ∷ ts) = ts

-- the meaning of the first one
abbrev pub value : Lexemes → ℕ
value [] = 0
value (t ∷ ts) = t.value

-- where the first one starts
abbrev pub start : Lexemes → ℕ
start [] = 0
start (t ∷ ts) = t.place.start

-- where one stops
abbrev pub stop_of : Option Lexeme → ℕ
stop_of None = 0
stop_of (Some t) = t.place.stop

-- the bytes from the first lexeme of the one list to the last one before the other, which is its rest
unfoldable pub span : Lexemes → Lexemes → Span
span xs ys = record { start = start xs; stop = stop_of (slice_get xs (length xs - length ys - 1)) }

-- a node that takes the lexemes before a rest
abbrev pub at : Node → Lexemes → Lexemes → Expr
at n xs ys = roll-Expr (record { node = n; place = span xs ys })

-- the name that stands first
abbrev pub spelled : Lexemes → Spelled
spelled xs = record { name = value xs; place = span xs (next xs) }

-- whether two terminals are one
unfoldable pub same : Terminal → Terminal → Bool
same k.Nothing k.Nothing = true
same k.Name k.Name = true
same k.Number k.Number = true
same (k.Word a) (k.Word b) = sameb words.the_type a b
same (k.Mark a) (k.Mark b) = sameb marks.the_type a b
same _ _ = false

-- ---- tables

-- an operator between two operands that groups to the left: its level, and what it is
abbrev pub left : Terminal → Option (ℕ × Op2)
left (k.Mark m.Iff) = Some (2, op2.Iff)
left (k.Mark m.Or) = Some (3, op2.Or)
left (k.Word w.Xor) = Some (3, op2.Xor)
left (k.Mark m.And) = Some (4, op2.And)
left (k.Mark m.Equal) = Some (6, op2.Eq)
left (k.Mark m.NotEqual) = Some (6, op2.Ne)
left (k.Mark m.Less) = Some (6, op2.Lt)
left (k.Mark m.LessEqual) = Some (6, op2.Le)
left (k.Mark m.Greater) = Some (6, op2.Gt)
left (k.Mark m.GreaterEqual) = Some (6, op2.Ge)
left (k.Word w.In) = Some (7, op2.Member)
left (k.Word w.Union) = Some (8, op2.Union)
left (k.Word w.Mod) = Some (9, op2.Mod)
left (k.Mark m.Plus) = Some (10, op2.Add)
left (k.Mark m.Minus) = Some (10, op2.Sub)
left (k.Mark m.Star) = Some (11, op2.Mul)
left (k.Mark m.Slash) = Some (11, op2.Div)
left _ = None

-- an operator before its operand, looser than a comparison
abbrev pub prefix : Terminal → Option Op1
prefix (k.Mark m.Not) = Some op1.Not
prefix (k.Word w.Ex) = Some op1.Ex
prefix (k.Word w.Ef) = Some op1.Ef
prefix (k.Word w.Eg) = Some op1.Eg
prefix (k.Word w.Ax) = Some op1.Ax
prefix (k.Word w.Af) = Some op1.Af
prefix (k.Word w.Ag) = Some op1.Ag
prefix _ = None

-- the comparisons that may stand before a prefix operator
abbrev pub equality : Terminal → Option Op2
equality (k.Mark m.Equal) = Some op2.Eq
equality (k.Mark m.NotEqual) = Some op2.Ne
equality _ = None

-- the paths that a bracket with `U` is about
abbrev pub until_of : Terminal → Option Op2
until_of (k.Word w.A) = Some op2.Au
until_of (k.Word w.E) = Some op2.Eu
until_of _ = None

abbrev pub truth : Terminal → Option Bool
truth (k.Word w.True) = Some true
truth (k.Word w.False) = Some false
truth _ = None

-- the word before the bracket of an assignment's target
abbrev pub moment : Terminal → Option When
moment (k.Word w.InitOf) = Some when.First
moment (k.Word w.NextOf) = Some when.Next
moment _ = None

-- the word of a section that lists entries
abbrev pub block_of : Terminal → Option Block
block_of (k.Word w.Var) = Some block.Vars
block_of (k.Word w.Assign) = Some block.Assigns
block_of (k.Word w.Define) = Some block.Defines
block_of _ = None

-- the word of a section that is one condition
abbrev pub condition_of : Terminal → Option CondKind
condition_of (k.Word w.Trans) = Some cond_kind.Trans
condition_of (k.Word w.Init) = Some cond_kind.Init
condition_of (k.Word w.Invar) = Some cond_kind.Invar
condition_of (k.Word w.Fairness) = Some cond_kind.Fair
condition_of (k.Word w.Justice) = Some cond_kind.Fair
condition_of (k.Word w.Spec) = Some cond_kind.Spec
condition_of (k.Word w.CtlSpec) = Some cond_kind.Spec
condition_of _ = None
