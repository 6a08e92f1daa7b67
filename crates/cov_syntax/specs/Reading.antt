-- The grammar of expressions: one constructor for each production.
use Rattle.std.specs.Prelude.{◌≡◌, ◌≢◌, ℕ, zero, suc, ◌<◌, ◌≤◌, ℤ, pos, neg_ℤ, Bool, List, [], ◌∷◌, Option, Some, None}
use Rattle.cov_syntax.specs.declared.lexeme.Lexeme.{Lexeme}
use Rattle.cov_syntax.specs.declared.lexeme.Terminal.{Terminal}
use Rattle.cov_syntax.specs.declared.lexeme.Terminal.TheVariants as k
use Rattle.cov_syntax.specs.declared.marks.Mark.TheVariants as m
use Rattle.cov_syntax.specs.declared.words.Word.TheVariants as w
use Rattle.cov_syntax.specs.declared.tree.Branch.{Branch, roll-Branch}
use Rattle.cov_syntax.specs.declared.tree.Expr.{Expr}
use Rattle.cov_syntax.specs.declared.tree.Node.TheVariants as n
use Rattle.cov_syntax.specs.declared.tree.Op1.{Op1}
use Rattle.cov_syntax.specs.declared.tree.Op1.TheVariants as op1
use Rattle.cov_syntax.specs.declared.tree.Op2.{Op2}
use Rattle.cov_syntax.specs.declared.tree.Op2.TheVariants as op2
use Rattle.cov_syntax.specs.declared.tree.Value.TheVariants as value
use Rattle.cov_syntax.specs.Lexemes.{Lexemes, kind, at, left, prefix, equality, until_of, truth, greatest_number}

-- A relation `Reads .. xs tree ys` says that the lexemes xs are those of the tree, and then the lexemes ys.

-- R { separator R }
pub data ReadsSeparated {A : Type 0} (separator : Terminal) (R : Lexemes → A → Lexemes → Type 0) : Lexemes → List A → Lexemes → Type 0 where
  last : {xs ys : Lexemes} {a : A} → R xs a ys → ReadsSeparated separator R xs (a ∷ []) ys
  more : {xs ys zs : Lexemes} {t : Lexeme} {a : A} {as' : List A} → t.kind ≡ separator
      → R xs a (t ∷ ys) → ReadsSeparated separator R ys as' zs → ReadsSeparated separator R xs (a ∷ as') zs

-- NUMBER | '-' NUMBER, of a number that may stand
pub data ReadsInt : Lexemes → ℤ → Lexemes → Type 0 where
  plain : {xs : Lexemes} {t : Lexeme} → t.kind ≡ k.Number → t.value ≤ greatest_number → ReadsInt (t ∷ xs) (pos t.value) xs
  minus : {xs : Lexemes} {t u : Lexeme} → t.kind ≡ k.Mark m.Minus → u.kind ≡ k.Number → u.value ≤ greatest_number
      → ReadsInt (t ∷ u ∷ xs) (neg_ℤ (pos u.value)) xs

-- NAME, as its place among the names
pub data ReadsName : Lexemes → ℕ → Lexemes → Type 0 where
  name : {xs : Lexemes} {t : Lexeme} → t.kind ≡ k.Name → ReadsName (t ∷ xs) t.value xs

-- NAME { '.' NAME }
abbrev pub ReadsPath : Lexemes → List ℕ → Lexemes → Type 0
ReadsPath = ReadsSeparated (k.Mark m.Dot) ReadsName

-- Levels, from loose to tight: 1 `->`, 2 `<->`, 3 `|` and xor, 4 `&`, 5 the prefix operators, 6 the comparisons, 7 in, 8 union, 9 mod, 10 `+` and `-`,
-- 11 `*` and `/`, 12 primary expressions.
mutual
  pub data Reads : ℕ → Lexemes → Expr → Lexemes → Type 0 where
    -- an expression of a tighter level is one of this level
    tighter : {l : ℕ} {xs ys : Lexemes} {e : Expr} → l < 12 → Reads (suc l) xs e ys → Reads l xs e ys
    -- iff '->' expr
    implies : {xs ys zs : Lexemes} {t : Lexeme} {a b : Expr} → t.kind ≡ k.Mark m.Implies
        → Reads 2 xs a (t ∷ ys) → Reads 1 ys b zs → Reads 1 xs (at (n.Two op2.Implies a b) xs zs) zs
    -- an operator that groups to the left
    binary : {l : ℕ} {op : Op2} {xs ys zs : Lexemes} {t : Lexeme} {a b : Expr} → left t.kind ≡ Some (l, op)
        → Reads l xs a (t ∷ ys) → Reads (suc l) ys b zs → Reads l xs (at (n.Two op a b) xs zs) zs
    -- pre prefix
    prefixed : {op : Op1} {xs ys : Lexemes} {t : Lexeme} {e : Expr} → prefix t.kind ≡ Some op
        → Reads 5 xs e ys → Reads 5 (t ∷ xs) (at (n.One op e) (t ∷ xs) ys) ys
    -- comp ('=' | '!=') pre prefix
    compared : {op : Op2} {pre : Op1} {xs ys zs : Lexemes} {t u : Lexeme} {a b : Expr} → equality t.kind ≡ Some op → prefix u.kind ≡ Some pre
        → Reads 6 xs a (t ∷ u ∷ ys) → Reads 5 ys b zs → Reads 5 xs (at (n.Two op a (at (n.One pre b) (u ∷ ys) zs)) xs zs) zs
    -- int
    integer : {i : ℤ} {xs ys : Lexemes} → ReadsInt xs i ys → Reads 12 xs (at (n.Lit (value.Int i)) xs ys) ys
    -- int '..' int
    range : {i j : ℤ} {xs ys zs : Lexemes} {t : Lexeme} → t.kind ≡ k.Mark m.Dots
        → ReadsInt xs i (t ∷ ys) → ReadsInt ys j zs → Reads 12 xs (at (n.Range i j) xs zs) zs
    -- '-' primary, where no number follows
    negated : {xs ys : Lexemes} {t : Lexeme} {e : Expr} → t.kind ≡ k.Mark m.Minus → kind xs ≢ k.Number
        → Reads 12 xs e ys → Reads 12 (t ∷ xs) (at (n.One op1.Neg e) (t ∷ xs) ys) ys
    -- TRUE | FALSE
    literal : {b : Bool} {xs : Lexemes} {t : Lexeme} → truth t.kind ≡ Some b → Reads 12 (t ∷ xs) (at (n.Lit (value.Bool b)) (t ∷ xs) xs) xs
    -- path
    path : {names : List ℕ} {xs ys : Lexemes} → ReadsPath xs names ys → Reads 12 xs (at (n.Path names) xs ys) ys
    -- '(' expr ')'
    grouped : {xs ys : Lexemes} {t u : Lexeme} {e : Expr} → t.kind ≡ k.Mark m.OpenParen → u.kind ≡ k.Mark m.CloseParen
        → Reads 1 xs e (u ∷ ys) → Reads 12 (t ∷ xs) e ys
    -- '{' expr { ',' expr } '}'
    set : {xs ys : Lexemes} {t u : Lexeme} {es : List Expr} → t.kind ≡ k.Mark m.OpenBrace → u.kind ≡ k.Mark m.CloseBrace
        → ReadsExprs xs es (u ∷ ys) → Reads 12 (t ∷ xs) (at (n.Set es) (t ∷ xs) ys) ys
    -- case branch+ esac
    choice : {xs ys : Lexemes} {t u : Lexeme} {bs : List Branch} → t.kind ≡ k.Word w.Case → u.kind ≡ k.Word w.Esac
        → ReadsBranches xs bs (u ∷ ys) → Reads 12 (t ∷ xs) (at (n.Case bs) (t ∷ xs) ys) ys
    -- next '(' expr ')'
    next_value : {xs ys : Lexemes} {t o c : Lexeme} {e : Expr} → t.kind ≡ k.Word w.NextOf → o.kind ≡ k.Mark m.OpenParen → c.kind ≡ k.Mark m.CloseParen
        → Reads 1 xs e (c ∷ ys) → Reads 12 (t ∷ o ∷ xs) (at (n.One op1.Next e) (t ∷ o ∷ xs) ys) ys
    -- (A | E) '[' expr U expr ']'
    until : {op : Op2} {xs ys zs : Lexemes} {t o u c : Lexeme} {a b : Expr}
        → until_of t.kind ≡ Some op → o.kind ≡ k.Mark m.OpenBracket → u.kind ≡ k.Word w.U → c.kind ≡ k.Mark m.CloseBracket
        → Reads 1 xs a (u ∷ ys) → Reads 1 ys b (c ∷ zs) → Reads 12 (t ∷ o ∷ xs) (at (n.Two op a b) (t ∷ o ∷ xs) zs) zs

  -- expr { ',' expr }
  pub data ReadsExprs : Lexemes → List Expr → Lexemes → Type 0 where
    last_expr : {xs ys : Lexemes} {e : Expr} → Reads 1 xs e ys → ReadsExprs xs (e ∷ []) ys
    more_exprs : {xs ys zs : Lexemes} {t : Lexeme} {e : Expr} {es : List Expr} → t.kind ≡ k.Mark m.Comma
        → Reads 1 xs e (t ∷ ys) → ReadsExprs ys es zs → ReadsExprs xs (e ∷ es) zs

  -- branch+
  pub data ReadsBranches : Lexemes → List Branch → Lexemes → Type 0 where
    last_branch : {xs ys : Lexemes} {b : Branch} → ReadsBranch xs b ys → ReadsBranches xs (b ∷ []) ys
    more_branches : {xs ys zs : Lexemes} {b : Branch} {bs : List Branch}
        → ReadsBranch xs b ys → ReadsBranches ys bs zs → ReadsBranches xs (b ∷ bs) zs

  -- expr ':' expr ';'
  pub data ReadsBranch : Lexemes → Branch → Lexemes → Type 0 where
    branch : {xs ys zs : Lexemes} {c s : Lexeme} {g e : Expr} → c.kind ≡ k.Mark m.Colon → s.kind ≡ k.Mark m.Semicolon
        → Reads 1 xs g (c ∷ ys) → Reads 1 ys e (s ∷ zs) → ReadsBranch xs (roll-Branch (record { guard = g; body = e })) zs
