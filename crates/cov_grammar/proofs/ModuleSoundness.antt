-- What the function reads as modules is in the grammar.
use Rattle.std.proofs.Common.{◌≡◌, ℕ, zero, suc, Bool, true, false, cond, eqb, List, [], ◌∷◌, ◌++◌, length, Option, Some, None, refl, sym, ap, subst, ◌∙◌, arith, append_assoc, append-nil}
use Rattle.std.proofs.lemmas.Bool.{eqb-true}
use Rattle.std.specs.Prelude.{ℤ, IfOk}
use Rattle.cov_syntax.specs.declared.lexeme.Block.{Block}
use Rattle.cov_syntax.specs.declared.lexeme.Block.TheVariants as block
use Rattle.cov_syntax.specs.declared.lexeme.Terminal.{Terminal}
use Rattle.cov_syntax.specs.declared.lexeme.Terminal.TheVariants as k
use Rattle.cov_syntax.specs.declared.marks.Mark.TheVariants as m
use Rattle.cov_syntax.specs.declared.words.Word.TheVariants as w
use Rattle.cov_syntax.specs.declared.program.CondKind.{CondKind}
use Rattle.cov_syntax.specs.declared.program.ModuleTree.{ModuleTree}
use Rattle.cov_syntax.specs.declared.program.Section.{Section}
use Rattle.cov_syntax.specs.declared.program.Section.TheVariants as s
use Rattle.cov_syntax.specs.declared.program.Spelled.{Spelled}
use Rattle.cov_syntax.specs.declared.program.TypeTree.{TypeTree}
use Rattle.cov_syntax.specs.declared.program.TypeTree.TheVariants as type
use Rattle.cov_syntax.specs.declared.program.When.{When}
use Rattle.cov_syntax.specs.declared.program.When.TheVariants as when
use Rattle.cov_syntax.specs.declared.tree.Expr.{Expr}
use Rattle.cov_syntax.specs.declared.tree.Node.TheVariants as n
use Rattle.cov_syntax.specs.declared.tree.Value.{Value}
use Rattle.cov_syntax.specs.declared.tree.Value.TheVariants as values
use Rattle.cov_syntax.specs.Lexemes.{Lexemes, kind, next, same, at, span, spelled, moment, block_of, condition_of}
use Rattle.cov_syntax.specs.Lexemes as lexemes
use Rattle.cov_syntax.specs.Reading.{ReadsSeparated, ReadsInt, ReadsPath, Reads, ReadsExprs}
use Rattle.cov_syntax.specs.Programs.{ReadsInParens, ReadsMany, ReadsSpelled, ReadsItem, ReadsType, ReadsTarget, ReadsEntry, ReadsSection, ReadsSections, ReadsModule, ReadsModules}
use Rattle.cov_grammar.specs.Expressions.{path_expr}
use Rattle.cov_grammar.specs.Modules.{item, items, listed, between, instance_type, type_by, type_tree, path_in_parens, target_by, target, body, declared, assigned, defined, entry, begins_entry, after_semicolon, section_by, section, begins_section, sections, formals, module_tree, modules, program}
use Rattle.cov_grammar.proofs.StepLemmas.{Gives, then, gives_ok, gives_err, choose, weaker, token, expecting, same_is}
use Rattle.cov_grammar.proofs.ListSoundness.{spelled_name_sound, int_sound, path_sound, separated_sound, many_sound, in_parens_sound}
use Rattle.cov_grammar.proofs.Soundness.{whole_expr_sound, whole_exprs_sound}

-- ---- types

symbol_at : (xs : Lexemes) → kind xs ≡ k.Name → ReadsItem xs (values.Sym (lexemes.value xs)) (next xs)
symbol_at [] e = absurd cc
symbol_at (t ∷ xs) e = ReadsItem.symbol e

item_sound : (xs : Lexemes) → Gives (item xs) (λ x. ReadsItem xs x.0 x.1)
unfolding item
item_sound xs = choose (same (kind xs) k.Name) (λ e. gives_ok (symbol_at xs (same_is (kind xs) k.Name e))) (λ e. then (int_sound xs) (λ i ri. gives_ok (ReadsItem.integer ri)))

items_sound : (xs : Lexemes) → Gives (items xs) (λ x. ReadsSeparated (k.Mark m.Comma) ReadsItem xs x.0 x.1)
unfolding items
items_sound xs = separated_sound (k.Mark m.Comma) (λ h. cc) item ReadsItem item_sound (length xs) xs

boolean_at : (xs : Lexemes) → kind xs ≡ k.Word w.Boolean → ReadsType xs type.Boolean (next xs)
boolean_at [] e = absurd cc
boolean_at (t ∷ xs) e = ReadsType.boolean e

listed_at : {found : List Value} (xs ys : Lexemes) → kind xs ≡ k.Mark m.OpenBrace → kind ys ≡ k.Mark m.CloseBrace → ReadsSeparated (k.Mark m.Comma) ReadsItem (next xs) found ys
    → ReadsType xs (type.List found) (next ys)
listed_at [] ys e f p = absurd cc
listed_at (t ∷ xs) [] e f p = absurd cc
listed_at (t ∷ xs) (u ∷ ys) e f p = ReadsType.listed e f p

listed_sound : (xs : Lexemes) → kind xs ≡ k.Mark m.OpenBrace → Gives (listed xs) (λ x. ReadsType xs x.0 x.1)
unfolding listed
listed_sound xs e = then (items_sound (next xs)) (λ found rf. expecting _ (token (k.Mark m.CloseBrace) found.1) (λ c. gives_ok (listed_at xs found.1 e c rf)))

between_at : {xs zs : Lexemes} {i j : ℤ} (ys : Lexemes) → kind ys ≡ k.Mark m.Dots → ReadsInt xs i ys → ReadsInt (next ys) j zs → ReadsType xs (type.Between i j) zs
between_at [] e p q = absurd cc
between_at (t ∷ ys) e p q = ReadsType.between e p q

between_sound : (xs : Lexemes) → Gives (between xs) (λ x. ReadsType xs x.0 x.1)
unfolding between
between_sound xs = then (int_sound xs) (λ i ri. expecting _ (token (k.Mark m.Dots) i.1) (λ d. then (int_sound (next i.1)) (λ j rj. gives_ok (between_at i.1 d ri rj))))

instance_sound : (xs : Lexemes) → Gives (instance_type xs) (λ x. ReadsType xs x.0 x.1)
unfolding instance_type
instance_sound xs = then (spelled_name_sound xs) (λ name rn. then (in_parens_sound _ ReadsExprs whole_exprs_sound name.1) (λ given rg. gives_ok (ReadsType.instance rn rg)))

type_by_sound : (xs : Lexemes) (c : Terminal) → kind xs ≡ c → Gives (type_by c xs) (λ x. ReadsType xs x.0 x.1)
type_by_sound xs (k.Word w.Boolean) e = gives_ok (boolean_at xs e)
type_by_sound xs (k.Mark m.OpenBrace) e = listed_sound xs e
type_by_sound xs k.Name e = instance_sound xs
type_by_sound xs _ e = between_sound xs

type_sound : (xs : Lexemes) → Gives (type_tree xs) (λ x. ReadsType xs x.0 x.1)
unfolding type_tree
type_sound xs = type_by_sound xs (kind xs) refl

-- ---- entries of sections

-- a path, with its place
record IsPathExpr (xs : Lexemes) (e : Expr) (ys : Lexemes) : Type 0 where
  names : List ℕ
  tree : e ≡ at (n.Path names) xs ys
  reads : ReadsPath xs names ys

path_gives : (xs : Lexemes) → Gives (path_expr xs) (λ x. IsPathExpr xs x.0 x.1)
unfolding path_expr
path_gives xs = then (path_sound xs) (λ found rf. gives_ok (record { names = found.0; tree = refl; reads = rf }))

now_at : (xs : Lexemes) (e : Expr) (ys : Lexemes) → IsPathExpr xs e ys → ReadsTarget xs when.Now e ys
now_at xs e ys h = subst (λ (x : Expr). ReadsTarget xs when.Now x ys) (sym h.tree) (ReadsTarget.now h.reads)

moment_at : {at_when : When} (xs : Lexemes) (e : Expr) (ys : Lexemes) → moment (kind xs) ≡ Some at_when → kind (next xs) ≡ k.Mark m.OpenParen → kind ys ≡ k.Mark m.CloseParen
    → IsPathExpr (next (next xs)) e ys → ReadsTarget xs at_when e (next ys)
moment_at [] e ys f g h p = absurd cc
moment_at (t ∷ []) e ys f g h p = absurd cc
moment_at (t ∷ o ∷ xs) e [] f g h p = absurd cc
moment_at {at_when} (t ∷ o ∷ xs) e (c ∷ ys) f g h p = subst (λ (x : Expr). ReadsTarget (t ∷ o ∷ xs) at_when x ys) (sym p.tree) (ReadsTarget.at_moment f g h p.reads)

-- a path in parentheses
abbrev InParens : Lexemes → Expr × Lexemes → Type 0
InParens xs x = (ys : Lexemes) × (kind xs ≡ k.Mark m.OpenParen) × (kind ys ≡ k.Mark m.CloseParen) × IsPathExpr (next xs) x.0 ys × (x.1 ≡ next ys)

path_in_parens_gives : (xs : Lexemes) → Gives (path_in_parens xs) (InParens xs)
unfolding path_in_parens
path_in_parens_gives xs = expecting _ (token (k.Mark m.OpenParen) xs) (λ o. then (path_gives (next xs)) (λ x rx. expecting _ (token (k.Mark m.CloseParen) x.1) (λ c. gives_ok (x.1, o, c, rx, refl))))

target_by_sound : (xs : Lexemes) (o : Option When) → moment (kind xs) ≡ o → Gives (target_by o xs) (λ x. ReadsTarget xs x.0.0 x.0.1 x.1)
target_by_sound xs None e = then (path_gives xs) (λ x h. gives_ok (now_at xs x.0 x.1 h))
target_by_sound xs (Some at_when) e = then (path_in_parens_gives (next xs))
    (λ x h. gives_ok (subst (λ (ys : Lexemes). ReadsTarget xs at_when x.0 ys) (sym h.4) (moment_at xs x.0 h.0 e h.1 h.2 h.3)))

target_sound : (xs : Lexemes) → Gives (target xs) (λ x. ReadsTarget xs x.0.0 x.0.1 x.1)
unfolding target
target_sound xs = target_by_sound xs (moment (kind xs)) refl

-- ':=' expr ';'
abbrev IsBody : Lexemes → Expr × Lexemes → Type 0
IsBody xs x = (ys : Lexemes) × (kind xs ≡ k.Mark m.Becomes) × (kind ys ≡ k.Mark m.Semicolon) × Reads 1 (next xs) x.0 ys × (x.1 ≡ next ys)

body_gives : (xs : Lexemes) → Gives (body xs) (IsBody xs)
unfolding body
body_gives xs = expecting _ (token (k.Mark m.Becomes) xs) (λ b. then (whole_expr_sound (next xs)) (λ x rx. expecting _ (token (k.Mark m.Semicolon) x.1) (λ c. gives_ok (x.1, b, c, rx, refl))))

declared_at : {name : Spelled} {tree : TypeTree} {xs : Lexemes} (ys zs : Lexemes) → kind ys ≡ k.Mark m.Colon → kind zs ≡ k.Mark m.Semicolon
    → ReadsSpelled xs name ys → ReadsType (next ys) tree zs → ReadsEntry block.Vars xs (s.Decl name tree (span (next ys) zs)) (next zs)
declared_at [] zs e f p q = absurd cc
declared_at (c ∷ ys) [] e f p q = absurd cc
declared_at (c ∷ ys) (d ∷ zs) e f p q = ReadsEntry.declared e f p q

declared_sound : (xs : Lexemes) → Gives (declared xs) (λ x. ReadsEntry block.Vars xs x.0 x.1)
unfolding declared
declared_sound xs = then (spelled_name_sound xs) (λ name rn. expecting _ (token (k.Mark m.Colon) name.1) (λ c. then (type_sound (next name.1)) (λ t rt.
    expecting _ (token (k.Mark m.Semicolon) t.1) (λ d. gives_ok (declared_at name.1 t.1 c d rn rt)))))

assigned_at : {at_when : When} {target e : Expr} {xs : Lexemes} (ys zs : Lexemes) → kind ys ≡ k.Mark m.Becomes → kind zs ≡ k.Mark m.Semicolon
    → ReadsTarget xs at_when target ys → Reads 1 (next ys) e zs → ReadsEntry block.Assigns xs (s.Assign at_when target e) (next zs)
assigned_at [] zs e f p q = absurd cc
assigned_at (c ∷ ys) [] e f p q = absurd cc
assigned_at (c ∷ ys) (d ∷ zs) e f p q = ReadsEntry.assigned e f p q

assigned_sound : (xs : Lexemes) → Gives (assigned xs) (λ x. ReadsEntry block.Assigns xs x.0 x.1)
unfolding assigned
assigned_sound xs = then (target_sound xs) (λ t rt. then (body_gives t.1) (λ e h.
    gives_ok (subst (λ (ys : Lexemes). ReadsEntry block.Assigns xs (s.Assign t.0.0 t.0.1 e.0) ys) (sym h.4) (assigned_at t.1 h.0 h.1 h.2 rt h.3))))

defined_at : {name : Spelled} {e : Expr} {xs : Lexemes} (ys zs : Lexemes) → kind ys ≡ k.Mark m.Becomes → kind zs ≡ k.Mark m.Semicolon
    → ReadsSpelled xs name ys → Reads 1 (next ys) e zs → ReadsEntry block.Defines xs (s.Define name e) (next zs)
defined_at [] zs e f p q = absurd cc
defined_at (c ∷ ys) [] e f p q = absurd cc
defined_at (c ∷ ys) (d ∷ zs) e f p q = ReadsEntry.defined e f p q

defined_sound : (xs : Lexemes) → Gives (defined xs) (λ x. ReadsEntry block.Defines xs x.0 x.1)
unfolding defined
defined_sound xs = then (spelled_name_sound xs) (λ name rn. then (body_gives name.1) (λ e h.
    gives_ok (subst (λ (ys : Lexemes). ReadsEntry block.Defines xs (s.Define name.0 e.0) ys) (sym h.4) (defined_at name.1 h.0 h.1 h.2 rn h.3))))

entry_sound : (b : Block) (xs : Lexemes) → Gives (entry b xs) (λ x. ReadsEntry b xs x.0 x.1)
entry_sound block.Vars xs = declared_sound xs
entry_sound block.Assigns xs = assigned_sound xs
entry_sound block.Defines xs = defined_sound xs

-- ---- sections

entries_at : {b : Block} {found : List Section} {ys : Lexemes} (xs : Lexemes) → block_of (kind xs) ≡ Some b → ReadsMany (ReadsEntry b) (next xs) found ys → ReadsSection xs found ys
entries_at [] e p = absurd cc
entries_at (t ∷ xs) e p = ReadsSection.entries e p

condition_at : {c : CondKind} {e : Expr} {ys : Lexemes} (xs : Lexemes) → condition_of (kind xs) ≡ Some c → Reads 1 (next xs) e ys → ReadsSection xs (s.Cond c e ∷ []) ys
condition_at [] e p = absurd cc
condition_at (t ∷ xs) e p = ReadsSection.condition e p

closed_at : {c : CondKind} {e : Expr} (xs ys : Lexemes) → condition_of (kind xs) ≡ Some c → kind ys ≡ k.Mark m.Semicolon → Reads 1 (next xs) e ys → ReadsSection xs (s.Cond c e ∷ []) (next ys)
closed_at [] ys e f p = absurd cc
closed_at (t ∷ xs) [] e f p = absurd cc
closed_at (t ∷ xs) (d ∷ ys) e f p = ReadsSection.closed_condition e f p

closing : {c : CondKind} {e : Expr} (xs ys : Lexemes) → condition_of (kind xs) ≡ Some c → Reads 1 (next xs) e ys → ReadsSection xs (s.Cond c e ∷ []) (after_semicolon ys)
unfolding after_semicolon
closing {c} {e} xs ys f p = go (same (kind ys) (k.Mark m.Semicolon)) refl
  where
    go : (b : Bool) → same (kind ys) (k.Mark m.Semicolon) ≡ b → ReadsSection xs (s.Cond c e ∷ []) (cond b (next ys) ys)
    go true g = closed_at xs ys f (same_is (kind ys) (k.Mark m.Semicolon) g) p
    go false g = condition_at xs f p

-- what was found before, and the entries of the section
abbrev AddsSection : List Section → Lexemes → List Section × Lexemes → Type 0
AddsSection found xs x = (others : List Section) × (x.0 ≡ found ++ others) × ReadsSection xs others x.1

section_by_sound : (found : List Section) (xs : Lexemes) (b : Option Block) → block_of (kind xs) ≡ b → (c : Option CondKind) → condition_of (kind xs) ≡ c → Gives (section_by b c found xs) (AddsSection found xs)
section_by_sound found xs (Some b) e c f = weaker (λ x h. (h.0, h.1, entries_at xs e h.2)) (many_sound (begins_entry b) (entry b) (ReadsEntry b) (entry_sound b) (length xs) found (next xs))
section_by_sound found xs None e (Some c) f = then (whole_expr_sound (next xs)) (λ x rx. gives_ok (s.Cond c x.0 ∷ [], refl, closing xs x.1 f rx))
section_by_sound found xs None e None f = gives_err

section_sound : (found : List Section) (xs : Lexemes) → Gives (section found xs) (AddsSection found xs)
unfolding section
section_sound found xs = section_by_sound found xs (block_of (kind xs)) refl (condition_of (kind xs)) refl

sections_sound : (m : ℕ) (found : List Section) (xs : Lexemes) → Gives (sections m found xs) (λ x. (others : List Section) × (x.0 ≡ found ++ others) × ReadsSections xs others x.1)
unfolding sections
sections_sound zero found xs = gives_ok ([], sym (append-nil found), ReadsSections.none)
sections_sound (suc m) found xs = choose (begins_section (kind xs))
    (λ e. then (section_sound found xs) (λ x h. weaker (λ y g. (h.0 ++ g.0, g.1 ∙ ap (λ (l : List Section). l ++ g.0) h.1 ∙ append_assoc found h.0 g.0, ReadsSections.more refl h.2 g.2)) (sections_sound m x.0 x.1)))
    (λ e. gives_ok ([], sym (append-nil found), ReadsSections.none))

-- ---- modules

formals_sound : (xs : Lexemes) → Gives (formals xs) (λ x. ReadsSeparated (k.Mark m.Comma) ReadsSpelled xs x.0 x.1)
unfolding formals
formals_sound xs = separated_sound (k.Mark m.Comma) (λ h. cc) _ ReadsSpelled spelled_name_sound (length xs) xs

module_at : {name : Spelled} {fs : List Spelled} {found : List Section} {ys zs ws : Lexemes} (xs : Lexemes) → kind xs ≡ k.Word w.Module
    → ReadsSpelled (next xs) name ys → ReadsInParens (ReadsSeparated (k.Mark m.Comma) ReadsSpelled) ys fs zs → ReadsSections zs found ws
    → ReadsModule xs (record { name = name; formals = fs; sections = found }) ws
module_at [] e p q g = absurd cc
module_at (t ∷ xs) e p q g = ReadsModule.module_of e p q g

module_sound : (xs : Lexemes) → Gives (module_tree xs) (λ x. ReadsModule xs x.0 x.1)
unfolding module_tree
module_sound xs = expecting _ (token (k.Word w.Module) xs) (λ e. then (spelled_name_sound (next xs)) (λ name rn. then (in_parens_sound formals _ formals_sound name.1) (λ fs rf.
    then (sections_sound (length fs.1) [] fs.1) (λ found h.
    gives_ok (module_at xs e rn rf (subst (λ (l : List Section). ReadsSections fs.1 l found.1) (sym h.1) h.2))))))

modules_sound : (m : ℕ) (found : List ModuleTree) (xs : Lexemes) → Gives (modules m found xs) (λ x. (others : List ModuleTree) × (x.0 ≡ found ++ others) × ReadsModules xs others x.1)
unfolding modules
modules_sound zero found xs = gives_err
modules_sound (suc m) found xs = then (module_sound xs) (λ x rx. choose (same (kind x.1) (k.Word w.Module))
    (λ e. weaker (λ y h. (x.0 ∷ h.0, h.1 ∙ append_assoc found (x.0 ∷ []) h.0, ReadsModules.more_modules rx h.2)) (modules_sound m (found ++ x.0 ∷ []) x.1))
    (λ e. gives_ok (x.0 ∷ [], refl, ReadsModules.last_module rx)))

nil_is : (ys : Lexemes) → length ys ≡ 0 → ys ≡ []
nil_is [] e = refl
nil_is (t ∷ ys) e = absurd (omega arith)

program_gives : (xs : Lexemes) → Gives (program xs) (λ trees. ReadsModules xs trees [])
unfolding program
program_gives xs = then (modules_sound (length xs) [] xs) (λ found h. choose (eqb (length found.1) 0)
    (λ e. gives_ok (subst (λ (ys : Lexemes). ReadsModules xs found.0 ys) (nil_is found.1 (eqb-true (length found.1) 0 e)) (subst (λ (l : List ModuleTree). ReadsModules xs l found.1) (sym h.1) h.2)))
    (λ e. gives_err))

pub program_sound : (xs : Lexemes) → IfOk (program xs) (λ trees. ReadsModules xs trees [])
program_sound xs = (program_gives xs).holds
