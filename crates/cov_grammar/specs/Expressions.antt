-- The function that the parser of expressions computes, by levels with one token ahead.
use Rattle.std.specs.Prelude.{ℕ, zero, suc, ◌+◌, ◌*◌, Bool, true, false, ◌&&◌, if◌then◌else◌, ◌==◌, is_some, List, [], ◌∷◌, ◌++◌, length, Option, Some, None, Result, Ok}
use Rattle.cov_syntax.specs.declared.lexeme.Terminal.{Terminal}
use Rattle.cov_syntax.specs.declared.lexeme.Terminal.TheVariants as k
use Rattle.cov_syntax.specs.declared.marks.Mark.TheVariants as m
use Rattle.cov_syntax.specs.declared.words.Word.TheVariants as w
use Rattle.cov_syntax.specs.declared.tree.Branch.{Branch, roll-Branch}
use Rattle.cov_syntax.specs.declared.tree.Expr.{Expr}
use Rattle.cov_syntax.specs.declared.tree.Node.TheVariants as n
use Rattle.cov_syntax.specs.declared.tree.Op1.{Op1}
use Rattle.cov_syntax.specs.declared.tree.Op1.TheVariants as op1
use Rattle.cov_syntax.specs.declared.tree.Op2.{Op2}
use Rattle.cov_syntax.specs.declared.tree.Op2.TheVariants as op2
use Rattle.cov_syntax.specs.declared.tree.Value.TheVariants as value
use Rattle.cov_syntax.specs.Lexemes.{Lexemes, kind, next, same, at, left, prefix, equality}
use Rattle.cov_grammar.specs.Steps.{Stop, Parser, ◌>>=◌, refuse, expect, int, separated, path}

-- the operator of a table's entry, if it is of this level
abbrev pub at_level : ℕ → Option (ℕ × Op2) → Option Op2
at_level l None = None
at_level l (Some p) = if l == p.0 then Some p.1 else None

-- an equality before a prefix operator ends a comparison
abbrev pub ends_comparison : Lexemes → Bool
ends_comparison xs = is_some (equality (kind xs)) && is_some (prefix (kind (next xs)))

-- the operator that goes on with a chain of this level
unfoldable pub joint : ℕ → Lexemes → Option Op2
joint l xs = if ends_comparison xs then None else at_level l (left (kind xs))

-- an integer, or a range of two
unfoldable pub ranged : Parser Expr
ranged xs = int xs >>= λ i.
    if same (kind i.1) (k.Mark m.Dots) then (int (next i.1) >>= λ j. Ok (at (n.Range i.0 j.0) xs j.1, j.1)) else Ok (at (n.Lit (value.Int i.0)) xs i.1, i.1)

unfoldable pub path_expr : Parser Expr
path_expr xs = path xs >>= λ names. Ok (at (n.Path names.0) xs names.1, names.1)

-- p parses the parts, by their level
module _ (p : ℕ → Parser Expr) where
  abbrev pub implied : Lexemes → Expr × Lexemes → Bool → Result (Expr × Lexemes) Stop
  implied xs a true = p 1 (next a.1) >>= λ b. Ok (at (n.Two op2.Implies a.0 b.0) xs b.1, b.1)
  implied xs a false = Ok a

  unfoldable pub implication : Parser Expr
  implication xs = p 2 xs >>= λ a. implied xs a (same (kind a.1) (k.Mark m.Implies))

  -- an operator and its right operand
  abbrev pub operated : ℕ → Lexemes → Expr → Lexemes → Op2 → Result (Expr × Lexemes) Stop
  operated l xs a ys op = p (l + 1) (next ys) >>= λ b. Ok (at (n.Two op a b.0) xs b.1, b.1)

  -- one turn of a chain; `more` goes on
  abbrev pub turn : (Expr → Parser Expr) → ℕ → Lexemes → Expr → Lexemes → Option Op2 → Result (Expr × Lexemes) Stop
  turn more l xs a ys None = Ok (a, ys)
  turn more l xs a ys (Some op) = p (l + 1) (next ys) >>= λ b. more (at (n.Two op a b.0) xs b.1) b.1

  -- the rest of a chain that began at xs; the number bounds the turns
  unfoldable pub climb : ℕ → ℕ → Lexemes → Expr → Parser Expr
  climb zero l xs a ys = Ok (a, ys)
  climb (suc m) l xs a ys = turn (climb m l xs) l xs a ys (joint l ys)

  unfoldable pub chain : ℕ → Parser Expr
  chain l xs = p (l + 1) xs >>= λ a. climb (length a.1) l xs a.0 a.1

  abbrev pub compared : Lexemes → Expr × Lexemes → Option Op2 → Option Op1 → Result (Expr × Lexemes) Stop
  compared xs a (Some op) (Some pre) = p 5 (next (next a.1)) >>= λ b. Ok (at (n.Two op a.0 (at (n.One pre b.0) (next a.1) b.1)) xs b.1, b.1)
  compared xs a _ _ = Ok a

  abbrev pub prefixed_by : Lexemes → Option Op1 → Result (Expr × Lexemes) Stop
  prefixed_by xs (Some op) = p 5 (next xs) >>= λ e. Ok (at (n.One op e.0) xs e.1, e.1)
  prefixed_by xs None = p 6 xs >>= λ a. compared xs a (equality (kind a.1)) (prefix (kind (next a.1)))

  unfoldable pub prefixed : Parser Expr
  prefixed xs = prefixed_by xs (prefix (kind xs))

  -- a `-` that no number follows
  unfoldable pub negated : Parser Expr
  negated xs = p 12 (next xs) >>= λ e. Ok (at (n.One op1.Neg e.0) xs e.1, e.1)

  unfoldable pub grouped : Parser Expr
  grouped xs = expect (k.Mark m.OpenParen) xs >>= λ ys. p 1 ys >>= λ e. expect (k.Mark m.CloseParen) e.1 >>= λ rest. Ok (e.0, rest)

  unfoldable pub next_value : Parser Expr
  next_value xs = grouped (next xs) >>= λ e. Ok (at (n.One op1.Next e.0) xs e.1, e.1)

  unfoldable pub exprs : Parser (List Expr)
  exprs xs = separated (k.Mark m.Comma) (p 1) (length xs) [] xs

  unfoldable pub set : Parser Expr
  set xs = exprs (next xs) >>= λ es. expect (k.Mark m.CloseBrace) es.1 >>= λ rest. Ok (at (n.Set es.0) xs rest, rest)

  unfoldable pub branch : Parser Branch
  branch xs = p 1 xs >>= λ g. expect (k.Mark m.Colon) g.1 >>= λ ys. p 1 ys >>= λ e. expect (k.Mark m.Semicolon) e.1 >>= λ rest.
      Ok (roll-Branch (record { guard = g.0; body = e.0 }), rest)

  -- branches up to `esac`; the number bounds the turns
  unfoldable pub branches : ℕ → List Branch → Parser (List Branch)
  branches zero found xs = refuse xs
  branches (suc m) found xs = branch xs >>= λ b.
      if same (kind b.1) (k.Word w.Esac) then Ok (found ++ b.0 ∷ [], next b.1) else branches m (found ++ b.0 ∷ []) b.1

  unfoldable pub choice : Parser Expr
  choice xs = branches (length xs) [] (next xs) >>= λ bs. Ok (at (n.Case bs.0) xs bs.1, bs.1)

  unfoldable pub until : Op2 → Parser Expr
  until op xs = expect (k.Mark m.OpenBracket) (next xs) >>= λ ys. p 1 ys >>= λ a. expect (k.Word w.U) a.1 >>= λ zs. p 1 zs >>= λ b.
      expect (k.Mark m.CloseBracket) b.1 >>= λ rest. Ok (at (n.Two op a.0 b.0) xs rest, rest)

  abbrev pub primary_by : Terminal → Parser Expr
  primary_by k.Name xs = path_expr xs
  primary_by k.Number xs = ranged xs
  primary_by (k.Mark m.Minus) xs = if same (kind (next xs)) k.Number then ranged xs else negated xs
  primary_by (k.Mark m.OpenParen) xs = grouped xs
  primary_by (k.Mark m.OpenBrace) xs = set xs
  primary_by (k.Word w.True) xs = Ok (at (n.Lit (value.Bool true)) xs (next xs), next xs)
  primary_by (k.Word w.False) xs = Ok (at (n.Lit (value.Bool false)) xs (next xs), next xs)
  primary_by (k.Word w.Case) xs = choice xs
  primary_by (k.Word w.NextOf) xs = next_value xs
  primary_by (k.Word w.A) xs = until op2.Au xs
  primary_by (k.Word w.E) xs = until op2.Eu xs
  primary_by _ xs = refuse xs

  unfoldable pub primary : Parser Expr
  primary xs = primary_by (kind xs) xs

  unfoldable pub level : ℕ → Parser Expr
  level l = if l == 1 then implication else (if l == 5 then prefixed else (if l == 12 then primary else chain l))

-- an expression of the level at the front, by a recursion no deeper than the first number
unfoldable pub expr : ℕ → ℕ → Parser Expr
expr zero l xs = refuse xs
expr (suc depth) l xs = level (expr depth) l xs

-- how deep the recursion goes at most
abbrev pub enough : ℕ → ℕ
enough len = 13 * len + 13

-- an expression at the front
unfoldable pub whole_expr : Parser Expr
whole_expr xs = expr (enough (length xs)) 1 xs

-- expressions with commas between
unfoldable pub whole_exprs : Parser (List Expr)
whole_exprs xs = separated (k.Mark m.Comma) whole_expr (length xs) [] xs
