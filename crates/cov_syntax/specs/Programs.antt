-- The grammar of types, sections, modules and programs: one constructor for each production.
use Rattle.std.specs.Prelude.{◌≡◌, ℕ, ℤ, List, [], ◌∷◌, ◌++◌, Option, Some}
use Rattle.cov_syntax.specs.declared.lexeme.Block.{Block}
use Rattle.cov_syntax.specs.declared.lexeme.Block.TheVariants as block
use Rattle.cov_syntax.specs.declared.lexeme.Lexeme.{Lexeme}
use Rattle.cov_syntax.specs.declared.lexeme.Terminal.TheVariants as k
use Rattle.cov_syntax.specs.declared.marks.Mark.TheVariants as m
use Rattle.cov_syntax.specs.declared.words.Word.TheVariants as w
use Rattle.cov_syntax.specs.declared.program.CondKind.{CondKind}
use Rattle.cov_syntax.specs.declared.program.ModuleTree.{ModuleTree}
use Rattle.cov_syntax.specs.declared.program.Program.{Program}
use Rattle.cov_syntax.specs.declared.program.Section.{Section}
use Rattle.cov_syntax.specs.declared.program.Section.TheVariants as section
use Rattle.cov_syntax.specs.declared.program.Spelled.{Spelled}
use Rattle.cov_syntax.specs.declared.program.TypeTree.{TypeTree}
use Rattle.cov_syntax.specs.declared.program.TypeTree.TheVariants as type
use Rattle.cov_syntax.specs.declared.program.When.{When}
use Rattle.cov_syntax.specs.declared.program.When.TheVariants as when
use Rattle.cov_syntax.specs.declared.token.Token.{Token}
use Rattle.cov_syntax.specs.declared.tree.Expr.{Expr}
use Rattle.cov_syntax.specs.declared.tree.Node.TheVariants as n
use Rattle.cov_syntax.specs.declared.tree.Value.{Value}
use Rattle.cov_syntax.specs.declared.tree.Value.TheVariants as value
use Rattle.cov_syntax.specs.Lexemes.{Lexemes, at, span, spelled, moment, block_of, condition_of, names_of, lexemes_of}
use Rattle.cov_syntax.specs.Reading.{ReadsSeparated, ReadsInt, ReadsPath, Reads, ReadsExprs}

-- [ '(' [ R ] ')' ], of a list that R reads
pub data ReadsInParens {A : Type 0} (R : Lexemes → List A → Lexemes → Type 0) : Lexemes → List A → Lexemes → Type 0 where
  absent : {xs : Lexemes} → ReadsInParens R xs [] xs
  empty : {xs : Lexemes} {o c : Lexeme} → o.kind ≡ k.Mark m.OpenParen → c.kind ≡ k.Mark m.CloseParen → ReadsInParens R (o ∷ c ∷ xs) [] xs
  filled : {xs ys : Lexemes} {o c : Lexeme} {found : List A} → o.kind ≡ k.Mark m.OpenParen → c.kind ≡ k.Mark m.CloseParen
      → R xs found (c ∷ ys) → ReadsInParens R (o ∷ xs) found ys

-- { R }
pub data ReadsMany {A : Type 0} (R : Lexemes → A → Lexemes → Type 0) : Lexemes → List A → Lexemes → Type 0 where
  none : {xs : Lexemes} → ReadsMany R xs [] xs
  more : {xs ys zs : Lexemes} {a : A} {found : List A} → R xs a ys → ReadsMany R ys found zs → ReadsMany R xs (a ∷ found) zs

-- NAME, and where it stands
pub data ReadsSpelled : Lexemes → Spelled → Lexemes → Type 0 where
  name : {xs : Lexemes} {t : Lexeme} → t.kind ≡ k.Name → ReadsSpelled (t ∷ xs) (spelled (t ∷ xs)) xs

-- NAME | int
pub data ReadsItem : Lexemes → Value → Lexemes → Type 0 where
  symbol : {xs : Lexemes} {t : Lexeme} → t.kind ≡ k.Name → ReadsItem (t ∷ xs) (value.Sym t.value) xs
  integer : {xs ys : Lexemes} {i : ℤ} → ReadsInt xs i ys → ReadsItem xs (value.Int i) ys

pub data ReadsType : Lexemes → TypeTree → Lexemes → Type 0 where
  boolean : {xs : Lexemes} {t : Lexeme} → t.kind ≡ k.Word w.Boolean → ReadsType (t ∷ xs) type.Boolean xs
  -- '{' item { ',' item } '}'
  listed : {xs ys : Lexemes} {t u : Lexeme} {values : List Value} → t.kind ≡ k.Mark m.OpenBrace → u.kind ≡ k.Mark m.CloseBrace
      → ReadsSeparated (k.Mark m.Comma) ReadsItem xs values (u ∷ ys) → ReadsType (t ∷ xs) (type.List values) ys
  -- int '..' int
  between : {xs ys zs : Lexemes} {t : Lexeme} {i j : ℤ} → t.kind ≡ k.Mark m.Dots
      → ReadsInt xs i (t ∷ ys) → ReadsInt ys j zs → ReadsType xs (type.Between i j) zs
  -- NAME [ '(' [ expr { ',' expr } ] ')' ]
  instance : {xs ys zs : Lexemes} {module' : Spelled} {given : List Expr} → ReadsSpelled xs module' ys
      → ReadsInParens ReadsExprs ys given zs → ReadsType xs (type.Instance module' given) zs

-- path | init '(' path ')' | next '(' path ')', with the place of the path
pub data ReadsTarget : Lexemes → When → Expr → Lexemes → Type 0 where
  now : {xs ys : Lexemes} {names : List ℕ} → ReadsPath xs names ys → ReadsTarget xs when.Now (at (n.Path names) xs ys) ys
  at_moment : {xs ys : Lexemes} {t o c : Lexeme} {at_when : When} {names : List ℕ} → moment t.kind ≡ Some at_when
      → o.kind ≡ k.Mark m.OpenParen → c.kind ≡ k.Mark m.CloseParen
      → ReadsPath xs names (c ∷ ys) → ReadsTarget (t ∷ o ∷ xs) at_when (at (n.Path names) xs (c ∷ ys)) ys

-- an entry of a block
pub data ReadsEntry : Block → Lexemes → Section → Lexemes → Type 0 where
  -- NAME ':' type ';'
  declared : {xs ys zs : Lexemes} {c s : Lexeme} {name : Spelled} {type' : TypeTree} → c.kind ≡ k.Mark m.Colon → s.kind ≡ k.Mark m.Semicolon
      → ReadsSpelled xs name (c ∷ ys) → ReadsType ys type' (s ∷ zs) → ReadsEntry block.Vars xs (section.Decl name type' (span ys (s ∷ zs))) zs
  -- target ':=' expr ';'
  assigned : {xs ys zs : Lexemes} {b s : Lexeme} {at_when : When} {target e : Expr} → b.kind ≡ k.Mark m.Becomes → s.kind ≡ k.Mark m.Semicolon
      → ReadsTarget xs at_when target (b ∷ ys) → Reads 1 ys e (s ∷ zs) → ReadsEntry block.Assigns xs (section.Assign at_when target e) zs
  -- NAME ':=' expr ';'
  defined : {xs ys zs : Lexemes} {b s : Lexeme} {name : Spelled} {e : Expr} → b.kind ≡ k.Mark m.Becomes → s.kind ≡ k.Mark m.Semicolon
      → ReadsSpelled xs name (b ∷ ys) → Reads 1 ys e (s ∷ zs) → ReadsEntry block.Defines xs (section.Define name e) zs

-- the entries of a section
pub data ReadsSection : Lexemes → List Section → Lexemes → Type 0 where
  -- VAR decl*, ASSIGN assign*, DEFINE define*
  entries : {xs ys : Lexemes} {t : Lexeme} {b : Block} {found : List Section} → block_of t.kind ≡ Some b
      → ReadsMany (ReadsEntry b) xs found ys → ReadsSection (t ∷ xs) found ys
  -- (TRANS | INIT | INVAR | FAIRNESS | JUSTICE | SPEC | CTLSPEC) expr
  condition : {xs ys : Lexemes} {t : Lexeme} {c : CondKind} {e : Expr} → condition_of t.kind ≡ Some c
      → Reads 1 xs e ys → ReadsSection (t ∷ xs) (section.Cond c e ∷ []) ys
  -- the same with ';'
  closed_condition : {xs ys : Lexemes} {t s : Lexeme} {c : CondKind} {e : Expr} → condition_of t.kind ≡ Some c → s.kind ≡ k.Mark m.Semicolon
      → Reads 1 xs e (s ∷ ys) → ReadsSection (t ∷ xs) (section.Cond c e ∷ []) ys

-- the entries of section*
pub data ReadsSections : Lexemes → List Section → Lexemes → Type 0 where
  none : {xs : Lexemes} → ReadsSections xs [] xs
  more : {xs ys zs : Lexemes} {found others all : List Section} → all ≡ found ++ others
      → ReadsSection xs found ys → ReadsSections ys others zs → ReadsSections xs all zs

-- MODULE NAME [ '(' [ NAME { ',' NAME } ] ')' ] section*
pub data ReadsModule : Lexemes → ModuleTree → Lexemes → Type 0 where
  module_of : {xs ys zs ws : Lexemes} {t : Lexeme} {name : Spelled} {formals : List Spelled} {sections : List Section} → t.kind ≡ k.Word w.Module
      → ReadsSpelled xs name ys → ReadsInParens (ReadsSeparated (k.Mark m.Comma) ReadsSpelled) ys formals zs → ReadsSections zs sections ws
      → ReadsModule (t ∷ xs) (record { name = name; formals = formals; sections = sections }) ws

-- module+
pub data ReadsModules : Lexemes → List ModuleTree → Lexemes → Type 0 where
  last_module : {xs ys : Lexemes} {tree : ModuleTree} → ReadsModule xs tree ys → ReadsModules xs (tree ∷ []) ys
  more_modules : {xs ys zs : Lexemes} {tree : ModuleTree} {trees : List ModuleTree}
      → ReadsModule xs tree ys → ReadsModules ys trees zs → ReadsModules xs (tree ∷ trees) zs

-- the tokens of a text are those of a program
pub record ReadsText (text : List ℕ) (tokens : List Token) (program : Program) : Type 0 where
  pub names : program.names ≡ names_of text tokens
  pub modules : ReadsModules (lexemes_of text tokens) program.modules []
