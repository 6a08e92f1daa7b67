-- The function that the parser of modules computes.
use Rattle.std.specs.Prelude.{ℕ, zero, suc, Bool, ◌||◌, if◌then◌else◌, ◌==◌, is_some, List, [], ◌∷◌, ◌++◌, length, Option, Some, None, Result, Ok}
use Rattle.cov_syntax.specs.declared.lexeme.Block.{Block}
use Rattle.cov_syntax.specs.declared.lexeme.Block.TheVariants as block
use Rattle.cov_syntax.specs.declared.lexeme.Terminal.{Terminal}
use Rattle.cov_syntax.specs.declared.lexeme.Terminal.TheVariants as k
use Rattle.cov_syntax.specs.declared.marks.Mark.TheVariants as m
use Rattle.cov_syntax.specs.declared.words.Word.TheVariants as w
use Rattle.cov_syntax.specs.declared.program.CondKind.{CondKind}
use Rattle.cov_syntax.specs.declared.program.ModuleTree.{ModuleTree}
use Rattle.cov_syntax.specs.declared.program.Section.{Section}
use Rattle.cov_syntax.specs.declared.program.Section.TheVariants as s
use Rattle.cov_syntax.specs.declared.program.Spelled.{Spelled}
use Rattle.cov_syntax.specs.declared.program.TypeTree.{TypeTree}
use Rattle.cov_syntax.specs.declared.program.TypeTree.TheVariants as type
use Rattle.cov_syntax.specs.declared.program.When.{When}
use Rattle.cov_syntax.specs.declared.program.When.TheVariants as when
use Rattle.cov_syntax.specs.declared.tree.Expr.{Expr}
use Rattle.cov_syntax.specs.declared.tree.Value.{Value}
use Rattle.cov_syntax.specs.declared.tree.Value.TheVariants as value
use Rattle.cov_syntax.specs.Lexemes.{Lexemes, kind, next, same, at, span, spelled, moment, block_of, condition_of}
use Rattle.cov_syntax.specs.Lexemes as lexemes
use Rattle.cov_grammar.specs.Steps.{Stop, Parser, ◌>>=◌, refuse, expect, spelled_name, int, separated, many, in_parens}
use Rattle.cov_grammar.specs.Expressions.{path_expr, whole_expr, whole_exprs}

-- ---- types

unfoldable pub item : Parser Value
item xs = if same (kind xs) k.Name then Ok (value.Sym (lexemes.value xs), next xs) else (int xs >>= λ i. Ok (value.Int i.0, i.1))

unfoldable pub items : Parser (List Value)
items xs = separated (k.Mark m.Comma) item (length xs) [] xs

unfoldable pub listed : Parser TypeTree
listed xs = items (next xs) >>= λ values. expect (k.Mark m.CloseBrace) values.1 >>= λ rest. Ok (type.List values.0, rest)

unfoldable pub between : Parser TypeTree
between xs = int xs >>= λ i. expect (k.Mark m.Dots) i.1 >>= λ ys. int ys >>= λ j. Ok (type.Between i.0 j.0, j.1)

unfoldable pub instance_type : Parser TypeTree
instance_type xs = spelled_name xs >>= λ name. in_parens whole_exprs name.1 >>= λ given. Ok (type.Instance name.0 given.0, given.1)

abbrev pub type_by : Terminal → Parser TypeTree
type_by (k.Word w.Boolean) xs = Ok (type.Boolean, next xs)
type_by (k.Mark m.OpenBrace) xs = listed xs
type_by k.Name xs = instance_type xs
type_by _ xs = between xs

unfoldable pub type_tree : Parser TypeTree
type_tree xs = type_by (kind xs) xs

-- ---- entries of sections

unfoldable pub path_in_parens : Parser Expr
path_in_parens xs = expect (k.Mark m.OpenParen) xs >>= λ ys. path_expr ys >>= λ e. expect (k.Mark m.CloseParen) e.1 >>= λ rest. Ok (e.0, rest)

abbrev pub target_by : Option When → Parser (When × Expr)
target_by None xs = path_expr xs >>= λ e. Ok ((when.Now, e.0), e.1)
target_by (Some at_when) xs = path_in_parens (next xs) >>= λ e. Ok ((at_when, e.0), e.1)

unfoldable pub target : Parser (When × Expr)
target xs = target_by (moment (kind xs)) xs

-- ':=' expr ';'
unfoldable pub body : Parser Expr
body xs = expect (k.Mark m.Becomes) xs >>= λ ys. whole_expr ys >>= λ e. expect (k.Mark m.Semicolon) e.1 >>= λ rest. Ok (e.0, rest)

unfoldable pub declared : Parser Section
declared xs = spelled_name xs >>= λ name. expect (k.Mark m.Colon) name.1 >>= λ ys. type_tree ys >>= λ t. expect (k.Mark m.Semicolon) t.1 >>= λ rest.
    Ok (s.Decl name.0 t.0 (span ys t.1), rest)

unfoldable pub assigned : Parser Section
assigned xs = target xs >>= λ t. body t.1 >>= λ e. Ok (s.Assign t.0.0 t.0.1 e.0, e.1)

unfoldable pub defined : Parser Section
defined xs = spelled_name xs >>= λ name. body name.1 >>= λ e. Ok (s.Define name.0 e.0, e.1)

abbrev pub entry : Block → Parser Section
entry block.Vars xs = declared xs
entry block.Assigns xs = assigned xs
entry block.Defines xs = defined xs

-- one more entry after those found before
abbrev pub entry_after : Block → List Section → Parser (List Section)
entry_after b found xs = entry b xs >>= λ a. Ok (found ++ a.0 ∷ [], a.1)

-- whether an entry of the block begins with this terminal
abbrev pub begins_entry : Block → Terminal → Bool
begins_entry block.Assigns c = same c k.Name || is_some (moment c)
begins_entry _ c = same c k.Name

-- ---- sections

-- the lexemes after a `;`, if it comes first
unfoldable pub after_semicolon : Lexemes → Lexemes
after_semicolon xs = if same (kind xs) (k.Mark m.Semicolon) then next xs else xs

-- the entries found before, and those of the section
abbrev pub section_by : Option Block → Option CondKind → List Section → Parser (List Section)
section_by (Some b) c found xs = many (begins_entry b) (entry b) (length xs) found (next xs)
section_by None (Some c) found xs = whole_expr (next xs) >>= λ e. Ok (found ++ s.Cond c e.0 ∷ [], after_semicolon e.1)
section_by None None found xs = refuse xs

unfoldable pub section : List Section → Parser (List Section)
section found xs = section_by (block_of (kind xs)) (condition_of (kind xs)) found xs

-- whether a section begins with this terminal
abbrev pub begins_section : Terminal → Bool
begins_section c = is_some (block_of c) || is_some (condition_of c)

-- the entries of the sections, after those found before; the number bounds the turns
unfoldable pub sections : ℕ → List Section → Parser (List Section)
sections zero found xs = Ok (found, xs)
sections (suc m) found xs = if begins_section (kind xs) then (section found xs >>= λ more. sections m more.0 more.1) else Ok (found, xs)

-- ---- modules

unfoldable pub formals : Parser (List Spelled)
formals xs = separated (k.Mark m.Comma) spelled_name (length xs) [] xs

unfoldable pub module_tree : Parser ModuleTree
module_tree xs = expect (k.Word w.Module) xs >>= λ ys. spelled_name ys >>= λ name. in_parens formals name.1 >>= λ fs. sections (length fs.1) [] fs.1 >>= λ ss.
    Ok (record { name = name.0; formals = fs.0; sections = ss.0 }, ss.1)

-- modules as long as one begins; the number bounds the turns
unfoldable pub modules : ℕ → List ModuleTree → Parser (List ModuleTree)
modules zero found xs = refuse xs
modules (suc m) found xs = module_tree xs >>= λ a. if same (kind a.1) (k.Word w.Module) then modules m (found ++ a.0 ∷ []) a.1 else Ok (found ++ a.0 ∷ [], a.1)

-- modules that are all
unfoldable pub program : Lexemes → Result (List ModuleTree) Stop
program xs = modules (length xs) [] xs >>= λ found. if length found.1 == 0 then Ok found.0 else refuse found.1
