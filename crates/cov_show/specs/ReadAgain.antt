-- What it means that a printed tree is read again.
use Rattle.std.specs.Prelude.{◌≡◌, ℕ, Bool, true, ◌&&◌, ◌==◌, nat_lt, is_none, List, [], map, length, slice_index, slice_index_or, Ok}
use Rattle.std.specs.List.{list_all}
use Rattle.cov_syntax.specs.declared.token.Token.{Token}
use Rattle.cov_syntax.specs.declared.tree.Branch.{Branch, roll-Branch}
use Rattle.cov_syntax.specs.declared.tree.Expr.{Expr, roll-Expr}
use Rattle.cov_syntax.specs.declared.tree.Node.{Node}
use Rattle.cov_syntax.specs.declared.tree.Node.TheVariants as n
use Rattle.cov_syntax.specs.declared.tree.Node.TheFolds.{fold-Expr}
use Rattle.cov_syntax.specs.declared.tree.Node.TheOpen.{Node-F}
use Rattle.cov_syntax.specs.declared.tree.Span.{Span}
use Rattle.cov_syntax.specs.declared.tree.Value.{Value}
use Rattle.cov_syntax.specs.declared.tree.Value.TheVariants as value
use Rattle.cov_syntax.specs.Lexemes.{Lexemes, lexeme_of}
use Rattle.cov_syntax.specs.Reading.{Reads}
use Rattle.cov_syntax.specs.Tokens.{Text, begins_name, name_len, spelled_word, tokens_from}

-- some lexemes are those of the tree
pub record IsTree (e : Expr) : Type 0 where
  pub xs : Lexemes
  pub ys : Lexemes
  pub reads : Reads 1 xs e ys

-- ---- names

-- a text is a name: it begins as one, each byte goes on with it, and it is no reserved word
abbrev pub is_name : Text → Bool
is_name t = begins_name (slice_index t 0) && name_len t == length t && is_none (spelled_word t)

-- the name of a number is there
abbrev pub is_named : List Text → ℕ → Bool
is_named names i = nat_lt i (length names) && is_name (slice_index_or names i [])

abbrev pub value_named : List Text → Value → Bool
value_named names (value.Sym i) = is_named names i
value_named names _ = true

abbrev pub node_named : List Text → Node-F Bool Bool Bool → Bool
node_named names (Node-F.Lit v) = value_named names v
node_named names (Node-F.Path path) = list_all (is_named names) path
node_named names (Node-F.Var i) = true
node_named names (Node-F.Def i) = true
node_named names (Node-F.One op e) = e
node_named names (Node-F.Two op a b) = a && b
node_named names (Node-F.Range low high) = true
node_named names (Node-F.Set es) = list_all (λ e. e) es
node_named names (Node-F.Case bs) = list_all (λ b. b) bs

-- each name that a tree cites is there, and is a name
abbrev pub all_named : List Text → Expr → Bool
all_named names = fold-Expr Bool Bool Bool (node_named names) (λ b. b.guard && b.body) (λ e. e.node)

-- ---- trees apart from places

abbrev pub nowhere : Span
nowhere = record { start = 0; stop = 0 }

abbrev pub bare_node : Node-F Node Branch Expr → Node
bare_node (Node-F.Lit v) = n.Lit v
bare_node (Node-F.Path path) = n.Path path
bare_node (Node-F.Var i) = n.Var i
bare_node (Node-F.Def i) = n.Def i
bare_node (Node-F.One op e) = n.One op e
bare_node (Node-F.Two op a b) = n.Two op a b
bare_node (Node-F.Range low high) = n.Range low high
bare_node (Node-F.Set es) = n.Set es
bare_node (Node-F.Case bs) = n.Case bs

-- the tree with every place emptied
abbrev pub bare : Expr → Expr
bare = fold-Expr Node Branch Expr bare_node (λ b. roll-Branch (record { guard = b.guard; body = b.body })) (λ e. roll-Expr (record { node = e.node; place = nowhere }))

-- the lexemes of tokens of a text, each name having its number among the names
abbrev pub lexemes_by : List Text → Text → List Token → Lexemes
lexemes_by names text ts = map (lexeme_of text names) ts

-- A text is read, whatever its length and depth, as exactly one tree, which is this one apart from places.
pub record IsReadAs (names : List Text) (text : Text) (e : Expr) : Type 0 where
  pub tokens : List Token
  pub cut : tokens_from 0 0 text ≡ Ok tokens
  pub tree : Expr
  pub reads : Reads 1 (lexemes_by names text tokens) tree []
  pub only : (other : Expr) → Reads 1 (lexemes_by names text tokens) other [] → other ≡ tree
  pub same : bare tree ≡ bare e
