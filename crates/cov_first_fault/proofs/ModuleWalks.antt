-- Walks of the parsers of types, sections, modules and programs.
use Rattle.std.proofs.Common.{◌≡◌, ℕ, zero, suc, Bool, true, false, cond, eqb, List, [], ◌∷◌, ◌++◌, length, Option, None, Ok, refl, arith}
use Rattle.std.proofs.Common.{Some as some}
use Rattle.std.proofs.lemmas.Bool.{eqb-true}
use Rattle.cov_syntax.specs.declared.lexeme.Block.{Block}
use Rattle.cov_syntax.specs.declared.lexeme.Block.TheVariants as block
use Rattle.cov_syntax.specs.declared.lexeme.Terminal.{Terminal}
use Rattle.cov_syntax.specs.declared.lexeme.Terminal.TheVariants as k
use Rattle.cov_syntax.specs.declared.marks.Mark.TheVariants as m
use Rattle.cov_syntax.specs.declared.words.Word.TheVariants as w
use Rattle.cov_syntax.specs.declared.program.CondKind.{CondKind}
use Rattle.cov_syntax.specs.declared.program.ModuleTree.{ModuleTree}
use Rattle.cov_syntax.specs.declared.program.Section.{Section}
use Rattle.cov_syntax.specs.declared.program.When.{When}
use Rattle.cov_syntax.specs.declared.tree.Expr.{Expr}
use Rattle.cov_syntax.specs.Lexemes.{Lexemes, kind, next, same, moment, block_of, condition_of}
use Rattle.cov_syntax.specs.Reading.{ReadsSeparated, ReadsInt, ReadsPath, ReadsExprs}
use Rattle.cov_syntax.specs.Programs.{ReadsInParens, ReadsMany, ReadsSpelled, ReadsItem, ReadsType, ReadsTarget, ReadsEntry, ReadsSection, ReadsSections, ReadsModule, ReadsModules}
use Rattle.cov_grammar.specs.Expressions.{whole_exprs}
use Rattle.cov_grammar.specs.Modules.{item, items, listed, between, instance_type, type_by, type_tree, path_in_parens, target_by, target, body, declared, assigned, defined, entry, begins_entry, after_semicolon, section_by, section, begins_section, sections, formals, module_tree, modules, program}
use Rattle.cov_grammar.proofs.StepLemmas.{same_is}
use Rattle.cov_first_fault.proofs.Steps.{Nil, Tok, Seq, Or, Any, Is, Some, Walks, then, widen, mapped, stay, some_nil, some_seq, some_left, some_in, refused, choose, IsPlain, skipping, some_token, token_walk}
use Rattle.cov_first_fault.proofs.ListWalks.{behind, int_walk, some_int, spelled_walk, some_spelled, plain_name, separated_walk, many_walk, in_parens_walk, some_in_parens, plain_open, plain_close, some_path}
use Rattle.cov_first_fault.proofs.ExpressionWalks.{E, Ended, mark, word, some_expr, path_expr_walk, whole_expr_walk, whole_exprs_walk}

-- ---- types

symbol_in : (xs ys : Lexemes) → Seq (Tok (Is k.Name)) Nil xs ys → Any ReadsItem xs ys
symbol_in xs ys (Seq.seq (Tok.tok e) Nil.nil) = Any.any (ReadsItem.symbol e)

integer_in : (xs ys : Lexemes) → Any ReadsInt xs ys → Any ReadsItem xs ys
integer_in xs ys (Any.any p) = Any.any (ReadsItem.integer p)

pub some_item : Some (Any ReadsItem)
some_item = some_in symbol_in (some_seq (some_token k.Name) some_nil)

pub item_walk : (xs : Lexemes) → Walks behind (Any ReadsItem) xs (item xs)
unfolding item
item_walk xs = choose (same (kind xs) k.Name)
    (λ e. widen symbol_in (skipping xs plain_name (same_is (kind xs) k.Name e) (stay _)))
    (λ e. widen integer_in (mapped (int_walk xs) (λ i. stay _)))

abbrev pub Items : Lexemes → Lexemes → Type 0
Items = Any (ReadsSeparated (k.Mark m.Comma) ReadsItem)

pub items_walk : (xs : Lexemes) → Walks behind Items xs (items xs)
unfolding items
items_walk xs = separated_walk (k.Mark m.Comma) (mark m.Comma) item ReadsItem item_walk some_item (length xs) [] xs

listed_in : (xs ys : Lexemes) → Seq (Tok (Is (k.Mark m.OpenBrace))) (Seq Items (Tok (Is (k.Mark m.CloseBrace)))) xs ys → Any ReadsType xs ys
listed_in xs ys (Seq.seq (Tok.tok e) (Seq.seq (Any.any p) (Tok.tok f))) = Any.any (ReadsType.listed e f p)

pub listed_walk : (xs : Lexemes) → kind xs ≡ k.Mark m.OpenBrace → Walks behind (Any ReadsType) xs (listed xs)
unfolding listed
listed_walk xs e = widen listed_in (skipping xs (mark m.OpenBrace) e (then (some_token (k.Mark m.CloseBrace)) (items_walk (next xs)) (λ values. mapped (token_walk (k.Mark m.CloseBrace) (mark m.CloseBrace) values.1) (λ rest. stay _))))

between_in : (xs ys : Lexemes) → Seq (Any ReadsInt) (Seq (Tok (Is (k.Mark m.Dots))) (Any ReadsInt)) xs ys → Any ReadsType xs ys
between_in xs ys (Seq.seq (Any.any p) (Seq.seq (Tok.tok e) (Any.any q))) = Any.any (ReadsType.between e p q)

some_type : Some (Any ReadsType)
some_type = some_in between_in (some_seq some_int (some_seq (some_token (k.Mark m.Dots)) some_int))

pub between_walk : (xs : Lexemes) → Walks behind (Any ReadsType) xs (between xs)
unfolding between
between_walk xs = widen between_in (then (some_seq (some_token (k.Mark m.Dots)) some_int) (int_walk xs) (λ i. then some_int (token_walk (k.Mark m.Dots) (mark m.Dots) i.1) (λ ys. mapped (int_walk ys) (λ j. stay _))))

instance_in : (xs ys : Lexemes) → Seq (Any ReadsSpelled) (Any (ReadsInParens ReadsExprs)) xs ys → Any ReadsType xs ys
instance_in xs ys (Seq.seq (Any.any p) (Any.any q)) = Any.any (ReadsType.instance p q)

pub instance_walk : (xs : Lexemes) → Walks behind (Any ReadsType) xs (instance_type xs)
unfolding instance_type
instance_walk xs = widen instance_in (then (some_in_parens whole_exprs ReadsExprs whole_exprs_walk) (spelled_walk xs) (λ name. mapped (in_parens_walk whole_exprs ReadsExprs whole_exprs_walk name.1) (λ given. stay _)))

boolean_in : (xs ys : Lexemes) → Seq (Tok (Is (k.Word w.Boolean))) Nil xs ys → Any ReadsType xs ys
boolean_in xs ys (Seq.seq (Tok.tok e) Nil.nil) = Any.any (ReadsType.boolean e)

pub type_by_walk : (xs : Lexemes) (c : Terminal) → kind xs ≡ c → Walks behind (Any ReadsType) xs (type_by c xs)
type_by_walk xs (k.Word w.Boolean) e = widen boolean_in (skipping xs (word w.Boolean) e (stay _))
type_by_walk xs (k.Mark m.OpenBrace) e = listed_walk xs e
type_by_walk xs k.Name e = instance_walk xs
type_by_walk xs _ e = between_walk xs

pub type_walk : (xs : Lexemes) → Walks behind (Any ReadsType) xs (type_tree xs)
unfolding type_tree
type_walk xs = type_by_walk xs (kind xs) refl

-- ---- entries of sections

abbrev pub Target : Lexemes → Lexemes → Type 0
Target = Any (λ (xs : Lexemes) (x : When × Expr) (ys : Lexemes). ReadsTarget xs x.0 x.1 ys)

abbrev pub IsMoment : Terminal → Type 0
IsMoment c = (at_when : When) × (moment c ≡ some at_when)

plain_moment : IsPlain IsMoment
plain_moment = record { some = λ h. let e = h.1 in cc; no_number = λ h. let e = h.1 in cc }

abbrev pub PathInParens : Lexemes → Lexemes → Type 0
PathInParens = Seq (Tok (Is (k.Mark m.OpenParen))) (Seq (Any ReadsPath) (Tok (Is (k.Mark m.CloseParen))))

now_in : (xs ys : Lexemes) → Any ReadsPath xs ys → Target xs ys
now_in xs ys (Any.any p) = Any.any (ReadsTarget.now p)

moment_in : (xs ys : Lexemes) → Seq (Tok IsMoment) PathInParens xs ys → Target xs ys
moment_in xs ys (Seq.seq (Tok.tok e) (Seq.seq (Tok.tok f) (Seq.seq (Any.any p) (Tok.tok g)))) = Any.any (ReadsTarget.at_moment e.1 f g p)

pub path_in_parens_walk : (xs : Lexemes) → Walks behind PathInParens xs (path_in_parens xs)
unfolding path_in_parens
path_in_parens_walk xs = then (some_seq some_path (some_token (k.Mark m.CloseParen))) (token_walk (k.Mark m.OpenParen) plain_open xs)
    (λ ys. then (some_token (k.Mark m.CloseParen)) (path_expr_walk ys) (λ e. mapped (token_walk (k.Mark m.CloseParen) plain_close e.1) (λ rest. stay _)))

pub target_by_walk : (xs : Lexemes) (o : Option When) → moment (kind xs) ≡ o → Walks behind Target xs (target_by o xs)
target_by_walk xs None e = widen now_in (mapped (path_expr_walk xs) (λ x. stay _))
target_by_walk xs (some at_when) e = widen moment_in (skipping xs plain_moment (at_when, e) (mapped (path_in_parens_walk (next xs)) (λ x. stay _)))

pub target_walk : (xs : Lexemes) → Walks behind Target xs (target xs)
unfolding target
target_walk xs = target_by_walk xs (moment (kind xs)) refl

abbrev pub Body : Lexemes → Lexemes → Type 0
Body = Seq (Tok (Is (k.Mark m.Becomes))) (Ended (k.Mark m.Semicolon))

some_ended : (c : Terminal) → Some (Ended c)
some_ended c = some_seq (some_expr 1 (omega arith)) (some_token c)

pub body_walk : (xs : Lexemes) → Walks behind Body xs (body xs)
unfolding body
body_walk xs = then (some_ended (k.Mark m.Semicolon)) (token_walk (k.Mark m.Becomes) (mark m.Becomes) xs)
    (λ ys. then (some_token (k.Mark m.Semicolon)) (whole_expr_walk ys) (λ e. mapped (token_walk (k.Mark m.Semicolon) (mark m.Semicolon) e.1) (λ rest. stay _)))

some_body : Some Body
some_body = some_seq (some_token (k.Mark m.Becomes)) (some_ended (k.Mark m.Semicolon))

declared_in : (xs ys : Lexemes) → Seq (Any ReadsSpelled) (Seq (Tok (Is (k.Mark m.Colon))) (Seq (Any ReadsType) (Tok (Is (k.Mark m.Semicolon))))) xs ys → Any (ReadsEntry block.Vars) xs ys
declared_in xs ys (Seq.seq (Any.any p) (Seq.seq (Tok.tok e) (Seq.seq (Any.any q) (Tok.tok f)))) = Any.any (ReadsEntry.declared e f p q)

pub declared_walk : (xs : Lexemes) → Walks behind (Any (ReadsEntry block.Vars)) xs (declared xs)
unfolding declared
declared_walk xs = widen declared_in (then (some_seq (some_token (k.Mark m.Colon)) (some_seq some_type (some_token (k.Mark m.Semicolon)))) (spelled_walk xs)
    (λ name. then (some_seq some_type (some_token (k.Mark m.Semicolon))) (token_walk (k.Mark m.Colon) (mark m.Colon) name.1)
    (λ ys. then (some_token (k.Mark m.Semicolon)) (type_walk ys) (λ t. mapped (token_walk (k.Mark m.Semicolon) (mark m.Semicolon) t.1) (λ rest. stay _)))))

assigned_in : (xs ys : Lexemes) → Seq Target Body xs ys → Any (ReadsEntry block.Assigns) xs ys
assigned_in xs ys (Seq.seq (Any.any p) (Seq.seq (Tok.tok e) (Seq.seq (Any.any q) (Tok.tok f)))) = Any.any (ReadsEntry.assigned e f p q)

pub assigned_walk : (xs : Lexemes) → Walks behind (Any (ReadsEntry block.Assigns)) xs (assigned xs)
unfolding assigned
assigned_walk xs = widen assigned_in (then some_body (target_walk xs) (λ t. mapped (body_walk t.1) (λ e. stay _)))

defined_in : (xs ys : Lexemes) → Seq (Any ReadsSpelled) Body xs ys → Any (ReadsEntry block.Defines) xs ys
defined_in xs ys (Seq.seq (Any.any p) (Seq.seq (Tok.tok e) (Seq.seq (Any.any q) (Tok.tok f)))) = Any.any (ReadsEntry.defined e f p q)

pub defined_walk : (xs : Lexemes) → Walks behind (Any (ReadsEntry block.Defines)) xs (defined xs)
unfolding defined
defined_walk xs = widen defined_in (then some_body (spelled_walk xs) (λ name. mapped (body_walk name.1) (λ e. stay _)))

pub entry_walk : (b : Block) (xs : Lexemes) → Walks behind (Any (ReadsEntry b)) xs (entry b xs)
entry_walk block.Vars xs = declared_walk xs
entry_walk block.Assigns xs = assigned_walk xs
entry_walk block.Defines xs = defined_walk xs

-- ---- sections

abbrev pub IsBlock : Block → Terminal → Type 0
IsBlock b c = block_of c ≡ some b

plain_block : (b : Block) → IsPlain (IsBlock b)
plain_block b = record { some = λ e. cc; no_number = λ e. cc }

abbrev pub IsCondition : Terminal → Type 0
IsCondition c = (d : CondKind) × (condition_of c ≡ some d)

plain_condition : IsPlain IsCondition
plain_condition = record { some = λ h. let e = h.1 in cc; no_number = λ h. let e = h.1 in cc }

abbrev pub Semicolon : Lexemes → Lexemes → Type 0
Semicolon = Tok (Is (k.Mark m.Semicolon))

entries_in : (b : Block) (xs ys : Lexemes) → Seq (Tok (IsBlock b)) (Any (ReadsMany (ReadsEntry b))) xs ys → Any ReadsSection xs ys
entries_in b xs ys (Seq.seq (Tok.tok e) (Any.any p)) = Any.any (ReadsSection.entries e p)

condition_in : (xs ys : Lexemes) → Seq (Tok IsCondition) (Seq (E 1) (Or Nil Semicolon)) xs ys → Any ReadsSection xs ys
condition_in xs ys (Seq.seq (Tok.tok e) (Seq.seq (Any.any p) (Or.left Nil.nil))) = Any.any (ReadsSection.condition e.1 p)
condition_in xs ys (Seq.seq (Tok.tok e) (Seq.seq (Any.any p) (Or.right (Tok.tok f)))) = Any.any (ReadsSection.closed_condition e.1 f p)

some_section : Some (Any ReadsSection)
some_section = some_in condition_in (some_seq (record { taken = record { kind = k.Word w.Trans; value = 0; place = record { start = 0; stop = 0 } } ∷ []; reads = λ zs. Tok.tok (_, refl) }) (some_seq (some_expr 1 (omega arith)) (some_left some_nil)))

pub after_semicolon_walk : (found : List Section) (xs : Lexemes) → Walks behind (Or Nil Semicolon) xs (Ok (found, after_semicolon xs))
unfolding after_semicolon
after_semicolon_walk found xs = go (same (kind xs) (k.Mark m.Semicolon)) refl
  where
    one : (us ys : Lexemes) → Seq Semicolon Nil us ys → Or Nil Semicolon us ys
    one us ys (Seq.seq t Nil.nil) = Or.right t

    go : (b : Bool) → same (kind xs) (k.Mark m.Semicolon) ≡ b → Walks behind (Or Nil Semicolon) xs (Ok (found, cond b (next xs) xs))
    go true e = widen one (skipping xs (mark m.Semicolon) (same_is (kind xs) (k.Mark m.Semicolon) e) (stay _))
    go false e = widen (λ us ys h. Or.left h) (stay _)

pub section_by_walk : (found : List Section) (xs : Lexemes) (b : Option Block) → block_of (kind xs) ≡ b → (c : Option CondKind) → condition_of (kind xs) ≡ c → Walks behind (Any ReadsSection) xs (section_by b c found xs)
section_by_walk found xs (some b) e c f = widen (entries_in b) (skipping xs (plain_block b) e (many_walk (begins_entry b) (entry b) (ReadsEntry b) (entry_walk b) (length xs) found (next xs)))
section_by_walk found xs None e (some c) f = widen condition_in (skipping xs plain_condition (c, f) (then (some_left some_nil) (whole_expr_walk (next xs)) (λ x. after_semicolon_walk _ x.1)))
section_by_walk found xs None e None f = refused xs some_section

pub section_walk : (found : List Section) (xs : Lexemes) → Walks behind (Any ReadsSection) xs (section found xs)
unfolding section
section_walk found xs = section_by_walk found xs (block_of (kind xs)) refl (condition_of (kind xs)) refl

none_in : (xs ys : Lexemes) → Nil xs ys → Any ReadsSections xs ys
none_in xs ys Nil.nil = Any.any ReadsSections.none

more_in : (xs ys : Lexemes) → Seq (Any ReadsSection) (Any ReadsSections) xs ys → Any ReadsSections xs ys
more_in xs ys (Seq.seq (Any.any p) (Any.any q)) = Any.any (ReadsSections.more refl p q)

some_sections : Some (Any ReadsSections)
some_sections = some_in none_in some_nil

pub sections_walk : (n : ℕ) (found : List Section) (xs : Lexemes) → Walks behind (Any ReadsSections) xs (sections n found xs)
unfolding sections
sections_walk zero found xs = widen none_in (stay _)
sections_walk (suc n) found xs = choose (begins_section (kind xs))
    (λ e. widen more_in (then some_sections (section_walk found xs) (λ a. sections_walk n a.0 a.1)))
    (λ e. widen none_in (stay _))

-- ---- modules

abbrev pub Formals : Lexemes → Lexemes → Type 0
Formals = Any (ReadsSeparated (k.Mark m.Comma) ReadsSpelled)

pub formals_walk : (xs : Lexemes) → Walks behind Formals xs (formals xs)
unfolding formals
formals_walk xs = separated_walk (k.Mark m.Comma) (mark m.Comma) _ ReadsSpelled spelled_walk some_spelled (length xs) [] xs

abbrev pub Given : Lexemes → Lexemes → Type 0
Given = Any (ReadsInParens (ReadsSeparated (k.Mark m.Comma) ReadsSpelled))

module_in : (xs ys : Lexemes) → Seq (Tok (Is (k.Word w.Module))) (Seq (Any ReadsSpelled) (Seq Given (Any ReadsSections))) xs ys → Any ReadsModule xs ys
module_in xs ys (Seq.seq (Tok.tok e) (Seq.seq (Any.any p) (Seq.seq (Any.any q) (Any.any r)))) = Any.any (ReadsModule.module_of e p q r)

some_given : Some Given
some_given = some_in_parens formals (ReadsSeparated (k.Mark m.Comma) ReadsSpelled) formals_walk

some_module : Some (Any ReadsModule)
some_module = some_in module_in (some_seq (some_token (k.Word w.Module)) (some_seq some_spelled (some_seq some_given some_sections)))

pub module_walk : (xs : Lexemes) → Walks behind (Any ReadsModule) xs (module_tree xs)
unfolding module_tree
module_walk xs = widen module_in (then (some_seq some_spelled (some_seq some_given some_sections)) (token_walk (k.Word w.Module) (word w.Module) xs)
    (λ ys. then (some_seq some_given some_sections) (spelled_walk ys)
    (λ name. then some_sections (in_parens_walk formals (ReadsSeparated (k.Mark m.Comma) ReadsSpelled) formals_walk name.1)
    (λ fs. mapped (sections_walk (length fs.1) [] fs.1) (λ ss. stay _)))))

modules_in : (xs ys : Lexemes) → Seq (Any ReadsModule) (Or Nil (Any ReadsModules)) xs ys → Any ReadsModules xs ys
modules_in xs ys (Seq.seq (Any.any p) (Or.left Nil.nil)) = Any.any (ReadsModules.last_module p)
modules_in xs ys (Seq.seq (Any.any p) (Or.right (Any.any q))) = Any.any (ReadsModules.more_modules p q)

pub some_modules : Some (Any ReadsModules)
some_modules = some_in modules_in (some_seq some_module (some_left some_nil))

pub modules_walk : (n : ℕ) (found : List ModuleTree) (xs : Lexemes) → Walks behind (Any ReadsModules) xs (modules n found xs)
unfolding modules
modules_walk zero found xs = refused xs some_modules
modules_walk (suc n) found xs = widen modules_in (then (some_left some_nil) (module_walk xs) (λ a. choose (same (kind a.1) (k.Word w.Module))
    (λ e. widen (λ us ys h. Or.right h) (modules_walk n (found ++ a.0 ∷ []) a.1))
    (λ e. widen (λ us ys h. Or.left h) (stay _))))

-- modules are all that there is
abbrev pub nothing : List ModuleTree → Lexemes
nothing trees = []

nil_is : (ys : Lexemes) → length ys ≡ 0 → ys ≡ []
nil_is [] e = refl
nil_is (t ∷ ys) e = absurd (omega arith)

pub program_walk : (xs : Lexemes) → Walks nothing (Any ReadsModules) xs (program xs)
unfolding program
program_walk xs = mapped (modules_walk (length xs) [] xs) (λ found. choose (eqb (length found.1) 0)
    (λ e. record { holds = record { front = []; split = nil_is found.1 (eqb-true (length found.1) 0 e); small = tt; reads = λ zs. Nil.nil } })
    (λ e. refused found.1 some_nil))
