-- How deep the brackets and operators of expressions nest. Each section, each right side of `:=` and each argument of an instance is an expression of its own.
use Rattle.std.specs.Prelude.{◌≡◌, ℕ, zero, suc, ◌+◌, ◌-◌, max, Bool, true, false, ◌&&◌, ◌||◌, if◌then◌else◌, ◌==◌, nat_lt, List, [], ◌∷◌, ◌++◌, length, take, sum, slice_set, slice_index, Option, Some, None}
use Rattle.cov_syntax.specs.declared.lexeme.Lexeme.{Lexeme}
use Rattle.cov_syntax.specs.declared.lexeme.Role.{Role}
use Rattle.cov_syntax.specs.declared.lexeme.Role.TheVariants as role
use Rattle.cov_syntax.specs.declared.lexeme.Terminal.{Terminal}
use Rattle.cov_syntax.specs.declared.lexeme.Terminal.TheVariants as k
use Rattle.cov_syntax.specs.declared.marks.Mark.TheVariants as m
use Rattle.cov_syntax.specs.declared.words.Word.TheVariants as w
use Rattle.cov_syntax.specs.Lexemes.{Lexemes}

-- the role of a mark, and of a word
abbrev pub role_of : Terminal → Role
role_of (k.Mark m.Implies) = role.Operator
role_of (k.Mark m.Iff) = role.Operator
role_of (k.Mark m.Or) = role.Operator
role_of (k.Mark m.And) = role.Operator
role_of (k.Mark m.Not) = role.Operator
role_of (k.Mark m.Equal) = role.Operator
role_of (k.Mark m.NotEqual) = role.Operator
role_of (k.Mark m.Less) = role.Operator
role_of (k.Mark m.LessEqual) = role.Operator
role_of (k.Mark m.Greater) = role.Operator
role_of (k.Mark m.GreaterEqual) = role.Operator
role_of (k.Mark m.Plus) = role.Operator
role_of (k.Mark m.Minus) = role.Operator
role_of (k.Mark m.Star) = role.Operator
role_of (k.Mark m.Slash) = role.Operator
role_of (k.Word w.Xor) = role.Operator
role_of (k.Word w.Ex) = role.Operator
role_of (k.Word w.Ef) = role.Operator
role_of (k.Word w.Eg) = role.Operator
role_of (k.Word w.Ax) = role.Operator
role_of (k.Word w.Af) = role.Operator
role_of (k.Word w.Ag) = role.Operator
role_of (k.Word w.In) = role.Operator
role_of (k.Word w.Union) = role.Operator
role_of (k.Word w.Mod) = role.Operator
role_of (k.Mark m.OpenParen) = role.OpensParen
role_of (k.Mark m.OpenBrace) = role.Opens
role_of (k.Mark m.OpenBracket) = role.Opens
role_of (k.Word w.Case) = role.Opens
role_of (k.Mark m.CloseParen) = role.Closes
role_of (k.Mark m.CloseBrace) = role.Closes
role_of (k.Mark m.CloseBracket) = role.Closes
role_of (k.Word w.Esac) = role.Closes
role_of (k.Mark m.Comma) = role.Separates
role_of (k.Mark m.Semicolon) = role.Separates
role_of (k.Mark m.Colon) = role.Separates
role_of (k.Word w.U) = role.Separates
role_of (k.Word w.Var) = role.Declares
role_of (k.Word w.Module) = role.Begins
role_of (k.Word w.Assign) = role.Begins
role_of (k.Word w.Trans) = role.Begins
role_of (k.Word w.Init) = role.Begins
role_of (k.Word w.Invar) = role.Begins
role_of (k.Word w.Define) = role.Begins
role_of (k.Word w.Fairness) = role.Begins
role_of (k.Word w.Justice) = role.Begins
role_of (k.Word w.Spec) = role.Begins
role_of (k.Word w.CtlSpec) = role.Begins
role_of (k.Mark m.Becomes) = role.Begins
role_of _ = role.Other

-- For the expression and each open bracket, how many operators stand directly in its current element; the innermost is the last.
abbrev pub Counts : Type 0
Counts = List ℕ

-- a further element of the innermost bracket, or of the expression
abbrev pub further : Counts → Counts
further s = slice_set s (length s - 1) 0

-- the counts after a lexeme, where a `(` begins the arguments of an instance or not
abbrev pub counts_after : Role → Bool → Counts → Counts
counts_after role.Operator declares s = slice_set s (length s - 1) (slice_index s (length s - 1) + 1)
counts_after role.OpensParen declares s = if declares then further s else s ++ 0 ∷ []
counts_after role.Opens declares s = s ++ 0 ∷ []
counts_after role.Closes declares s = take (max 1 (length s - 1)) s
counts_after role.Separates declares s = further s
counts_after role.Declares declares s = 0 ∷ []
counts_after role.Begins declares s = 0 ∷ []
counts_after role.Other declares s = s

-- whether a `(` after a lexeme begins the arguments of an instance: in declarations, outside such arguments, which a `)` that closes no bracket ends
abbrev pub declares_after : Role → Bool → Counts → Bool
declares_after role.Declares declares s = true
declares_after role.Begins declares s = false
declares_after role.OpensParen declares s = false
declares_after role.Closes declares s = declares || length s == 1
declares_after _ declares s = declares

-- more than 128 open brackets, or more than 1,000 operators
abbrev pub is_over : Counts → Bool
is_over s = nat_lt 129 (length s) || nat_lt 1000 (sum s)

-- how many lexemes are left at the first that is too deep, itself among them
unfoldable pub deep : Bool → Counts → Lexemes → Option ℕ
deep declares s [] = None
deep declares s (t ∷ ts) =
    if is_over (counts_after (role_of t.kind) declares s) then Some (length (t ∷ ts)) else deep (declares_after (role_of t.kind) declares s) (counts_after (role_of t.kind) declares s) ts

-- no lexeme is too deep
abbrev pub IsShallow : Lexemes → Type 0
IsShallow xs = deep false (0 ∷ []) xs ≡ None
