-- What the grammar reads as modules, the function reads, and so a text is that of at most one program.
use Rattle.std.proofs.Common.{◌≡◌, ◌≢◌, ℕ, zero, suc, ◌<◌, ◌≤◌, Bool, true, false, List, [], ◌∷◌, ◌++◌, length, Option, Some, None, Result, Ok, refl, sym, ap, ◌∙◌, arith, append_assoc, append-nil}
use Rattle.std.specs.Prelude.{◌||◌, ℤ, is_some}
use Rattle.cov_syntax.specs.declared.lexeme.Block.{Block}
use Rattle.cov_syntax.specs.declared.lexeme.Block.TheVariants as block
use Rattle.cov_syntax.specs.declared.lexeme.Lexeme.{Lexeme}
use Rattle.cov_syntax.specs.declared.lexeme.Terminal.{Terminal}
use Rattle.cov_syntax.specs.declared.lexeme.Terminal.TheVariants as k
use Rattle.cov_syntax.specs.declared.marks.Mark.TheVariants as m
use Rattle.cov_syntax.specs.declared.words.Word.TheVariants as w
use Rattle.cov_syntax.specs.declared.program.CondKind.{CondKind}
use Rattle.cov_syntax.specs.declared.program.ModuleTree.{ModuleTree}
use Rattle.cov_syntax.specs.declared.program.Program.{Program}
use Rattle.cov_syntax.specs.declared.program.Section.{Section}
use Rattle.cov_syntax.specs.declared.program.Section.TheVariants as s
use Rattle.cov_syntax.specs.declared.program.Spelled.{Spelled}
use Rattle.cov_syntax.specs.declared.program.TypeTree.{TypeTree}
use Rattle.cov_syntax.specs.declared.program.TypeTree.TheVariants as type
use Rattle.cov_syntax.specs.declared.program.When.{When}
use Rattle.cov_syntax.specs.declared.token.Token.{Token}
use Rattle.cov_syntax.specs.declared.tree.Expr.{Expr}
use Rattle.cov_syntax.specs.declared.tree.Node.TheVariants as n
use Rattle.cov_syntax.specs.declared.tree.Value.{Value}
use Rattle.cov_syntax.specs.Lexemes.{Lexemes, kind, same, at, span, moment, block_of, condition_of}
use Rattle.cov_syntax.specs.Reading.{ReadsSeparated, ReadsInt, ReadsPath, Reads, ReadsExprs}
use Rattle.cov_syntax.specs.Programs.{ReadsInParens, ReadsSpelled, ReadsItem, ReadsType, ReadsTarget, ReadsEntry, ReadsSection, ReadsSections, ReadsModule, ReadsModules, ReadsText}
use Rattle.cov_grammar.specs.Steps.{Stop, in_parens}
use Rattle.cov_grammar.specs.Expressions.{path_expr, whole_exprs}
use Rattle.cov_grammar.specs.Modules.{item, items, listed, between, instance_type, type_by, type_tree, path_in_parens, target, body, declared, assigned, defined, entry, begins_entry, after_semicolon, section, begins_section, sections, formals, module_tree, modules, program}
use Rattle.cov_grammar.proofs.StepLemmas.{same_at, not_same}
use Rattle.cov_grammar.proofs.ListCompleteness.{expects, spelled_answers, spelled_shorter, spelled_first, int_answers, int_shorter, separated_answers, separated_shorter, separated_first, many_answers, many_shorter, in_parens_answers, in_parens_shorter, path_answers, path_shorter, path_first}
use Rattle.cov_grammar.proofs.Completeness.{shorter, shorter_exprs, first_exprs, is_other, ends, stops_at, whole_expr_answers, whole_exprs_answers}

-- ---- types

int_first : {xs ys : Lexemes} {i : ℤ} → ReadsInt xs i ys → kind xs ≢ k.Name
int_first (ReadsInt.plain e le) h = cc
int_first (ReadsInt.minus e f le) h = cc

item_answers : {xs ys : Lexemes} {v : Value} → ReadsItem xs v ys → item xs ≡ Ok (v, ys)
unfolding item
item_answers (ReadsItem.symbol {t = t} e) = rw (same_at t.kind k.Name e) refl
item_answers (ReadsItem.integer {xs = xs} p) = rw (not_same (kind xs) k.Name (int_first p), int_answers p) refl

item_shorter : {xs ys : Lexemes} {v : Value} → ReadsItem xs v ys → length ys < length xs
item_shorter (ReadsItem.symbol e) = omega arith
item_shorter (ReadsItem.integer p) = int_shorter p

items_answers : {xs ys : Lexemes} {found : List Value} → ReadsSeparated (k.Mark m.Comma) ReadsItem xs found ys → kind ys ≢ k.Mark m.Comma → items xs ≡ Ok (found, ys)
unfolding items
items_answers {xs} p h =
    separated_answers (k.Mark m.Comma) item ReadsItem (λ ys. Unit {0}) (λ xs a ys q t. item_answers q) (λ xs a ys q. item_shorter q) (λ t ys e. tt) p tt h (length xs) [] (omega arith)

items_shorter : {xs ys : Lexemes} {found : List Value} → ReadsSeparated (k.Mark m.Comma) ReadsItem xs found ys → length ys < length xs
items_shorter p = separated_shorter (k.Mark m.Comma) item ReadsItem (λ ys. Unit {0}) (λ xs a ys q t. item_answers q) (λ xs a ys q. item_shorter q) (λ t ys e. tt) p

listed_answers : {xs ys : Lexemes} {u : Lexeme} {found : List Value} (t : Lexeme) → u.kind ≡ k.Mark m.CloseBrace
    → ReadsSeparated (k.Mark m.Comma) ReadsItem xs found (u ∷ ys) → listed (t ∷ xs) ≡ Ok (type.List found, ys)
unfolding listed
listed_answers {ys = ys} {u = u} t e p = rw (items_answers p (λ h. cc), expects u ys e) refl

between_answers : {xs ys zs : Lexemes} {t : Lexeme} {i j : ℤ} → t.kind ≡ k.Mark m.Dots → ReadsInt xs i (t ∷ ys) → ReadsInt ys j zs → between xs ≡ Ok (type.Between i j, zs)
unfolding between
between_answers {ys = ys} {t = t} e p q = rw (int_answers p, expects t ys e, int_answers q) refl

-- a range begins as none of the other types does
by_between : {xs ys : Lexemes} {i : ℤ} → ReadsInt xs i ys → type_by (kind xs) xs ≡ between xs
by_between (ReadsInt.plain {xs = xs} {t = t} e le) = ap (λ c. type_by c (t ∷ xs)) e
by_between (ReadsInt.minus {xs = xs} {t = t} {u = u} e f le) = ap (λ c. type_by c (t ∷ u ∷ xs)) e

arguments_answers : {xs ys : Lexemes} {given : List Expr} → ReadsInParens ReadsExprs xs given ys → kind ys ≢ k.Mark m.OpenParen → in_parens whole_exprs xs ≡ Ok (given, ys)
arguments_answers p h =
    in_parens_answers whole_exprs ReadsExprs (λ xs found t ys q e. whole_exprs_answers q (stops_at (t ∷ ys) (ap ends e)) (λ g. cc)) (λ xs found ys q. is_other (first_exprs q) refl)
    (λ xs found ys q. shorter_exprs q) p h

arguments_shorter : {xs ys : Lexemes} {given : List Expr} → ReadsInParens ReadsExprs xs given ys → length ys ≤ length xs
arguments_shorter p =
    in_parens_shorter whole_exprs ReadsExprs (λ xs found t ys q e. whole_exprs_answers q (stops_at (t ∷ ys) (ap ends e)) (λ g. cc)) (λ xs found ys q. is_other (first_exprs q) refl)
    (λ xs found ys q. shorter_exprs q) p

instance_answers : {xs ys zs : Lexemes} {name : Spelled} {given : List Expr} → ReadsSpelled xs name ys → ReadsInParens ReadsExprs ys given zs → kind zs ≢ k.Mark m.OpenParen
    → instance_type xs ≡ Ok (type.Instance name given, zs)
unfolding instance_type
instance_answers p q h = rw (spelled_answers p, arguments_answers q h) refl

type_answers : {xs ys : Lexemes} {tree : TypeTree} → ReadsType xs tree ys → kind ys ≢ k.Mark m.OpenParen → type_tree xs ≡ Ok (tree, ys)
unfolding type_tree
type_answers (ReadsType.boolean {xs = xs} {t = t} e) h = ap (λ c. type_by c (t ∷ xs)) e
type_answers (ReadsType.listed {xs = xs} {t = t} e f p) h = ap (λ c. type_by c (t ∷ xs)) e ∙ listed_answers t f p
type_answers (ReadsType.between e p q) h = by_between p ∙ between_answers e p q
type_answers (ReadsType.instance {xs = xs} p q) h = ap (λ c. type_by c xs) (spelled_first p) ∙ instance_answers p q h

type_shorter : {xs ys : Lexemes} {tree : TypeTree} → ReadsType xs tree ys → length ys < length xs
type_shorter (ReadsType.boolean e) = omega arith
type_shorter (ReadsType.listed e f p) = let a = items_shorter p in omega arith
type_shorter (ReadsType.between e p q) = let a = int_shorter p in let b = int_shorter q in omega arith
type_shorter (ReadsType.instance p q) = let a = spelled_shorter p in let b = arguments_shorter q in omega arith

-- ---- entries of sections

path_expr_answers : {names : List ℕ} {xs ys : Lexemes} → ReadsPath xs names ys → kind ys ≢ k.Mark m.Dot → path_expr xs ≡ Ok (at (n.Path names) xs ys, ys)
unfolding path_expr
path_expr_answers p h = rw (path_answers p h) refl

path_in_parens_answers : {names : List ℕ} {xs ys : Lexemes} {c : Lexeme} (o : Lexeme) → o.kind ≡ k.Mark m.OpenParen → c.kind ≡ k.Mark m.CloseParen → ReadsPath xs names (c ∷ ys)
    → path_in_parens (o ∷ xs) ≡ Ok (at (n.Path names) xs (c ∷ ys), ys)
unfolding path_in_parens
path_in_parens_answers {xs = xs} {ys = ys} {c = c} o e f p = rw (expects o xs e, path_expr_answers p (λ h. cc), expects c ys f) refl

target_answers : {xs ys : Lexemes} {at_when : When} {e : Expr} → ReadsTarget xs at_when e ys → kind ys ≢ k.Mark m.Dot → target xs ≡ Ok ((at_when, e), ys)
unfolding target
target_answers (ReadsTarget.now {xs = xs} p) h = rw (ap moment (path_first p), path_expr_answers p h) refl
target_answers (ReadsTarget.at_moment {o = o} e f g p) h = rw (e, path_in_parens_answers o f g p) refl

target_shorter : {xs ys : Lexemes} {at_when : When} {e : Expr} → ReadsTarget xs at_when e ys → length ys < length xs
target_shorter (ReadsTarget.now p) = path_shorter p
target_shorter (ReadsTarget.at_moment e f g p) = let a = path_shorter p in omega arith

body_answers : {xs ys : Lexemes} {d : Lexeme} {e : Expr} (b : Lexeme) → b.kind ≡ k.Mark m.Becomes → d.kind ≡ k.Mark m.Semicolon → Reads 1 xs e (d ∷ ys) → body (b ∷ xs) ≡ Ok (e, ys)
unfolding body
body_answers {xs} {ys} {d} b e f p = rw (expects b xs e, whole_expr_answers p (stops_at (d ∷ ys) (ap ends f)), expects d ys f) refl

declared_answers : {xs ys zs : Lexemes} {c d : Lexeme} {name : Spelled} {tree : TypeTree} → c.kind ≡ k.Mark m.Colon → d.kind ≡ k.Mark m.Semicolon
    → ReadsSpelled xs name (c ∷ ys) → ReadsType ys tree (d ∷ zs) → declared xs ≡ Ok (s.Decl name tree (span ys (d ∷ zs)), zs)
unfolding declared
declared_answers {ys = ys} {zs = zs} {c = c} {d = d} e f p q = rw (spelled_answers p, expects c ys e, type_answers q (λ h. cc), expects d zs f) refl

assigned_answers : {xs ys zs : Lexemes} {b d : Lexeme} {at_when : When} {goal e : Expr} → b.kind ≡ k.Mark m.Becomes → d.kind ≡ k.Mark m.Semicolon
    → ReadsTarget xs at_when goal (b ∷ ys) → Reads 1 ys e (d ∷ zs) → assigned xs ≡ Ok (s.Assign at_when goal e, zs)
unfolding assigned
assigned_answers {b = b} e f p q = rw (target_answers p (λ h. cc), body_answers b e f q) refl

defined_answers : {xs ys zs : Lexemes} {b d : Lexeme} {name : Spelled} {e : Expr} → b.kind ≡ k.Mark m.Becomes → d.kind ≡ k.Mark m.Semicolon
    → ReadsSpelled xs name (b ∷ ys) → Reads 1 ys e (d ∷ zs) → defined xs ≡ Ok (s.Define name e, zs)
unfolding defined
defined_answers {b = b} e f p q = rw (spelled_answers p, body_answers b e f q) refl

entry_answers : {b : Block} {xs ys : Lexemes} {x : Section} → ReadsEntry b xs x ys → entry b xs ≡ Ok (x, ys)
entry_answers (ReadsEntry.declared e f p q) = declared_answers e f p q
entry_answers (ReadsEntry.assigned e f p q) = assigned_answers e f p q
entry_answers (ReadsEntry.defined e f p q) = defined_answers e f p q

entry_shorter : {b : Block} {xs ys : Lexemes} {x : Section} → ReadsEntry b xs x ys → length ys < length xs
entry_shorter (ReadsEntry.declared e f p q) = let a = spelled_shorter p in let b = type_shorter q in omega arith
entry_shorter (ReadsEntry.assigned e f p q) = let a = target_shorter p in let b = shorter q in omega arith
entry_shorter (ReadsEntry.defined e f p q) = let a = spelled_shorter p in let b = shorter q in omega arith

moment_begins : (c : Terminal) (at_when : When) → moment c ≡ Some at_when → begins_entry block.Assigns c ≡ true
unfolding same
moment_begins (k.Word w.InitOf) at_when e = refl
moment_begins (k.Word w.NextOf) at_when e = refl
moment_begins _ at_when e = absurd cc

name_begins : (b : Block) (c : Terminal) → c ≡ k.Name → begins_entry b c ≡ true
unfolding same
name_begins block.Vars c e = ap (λ d. begins_entry block.Vars d) e
name_begins block.Assigns c e = ap (λ d. begins_entry block.Assigns d) e
name_begins block.Defines c e = ap (λ d. begins_entry block.Defines d) e

target_begins : {xs ys : Lexemes} {at_when : When} {e : Expr} → ReadsTarget xs at_when e ys → begins_entry block.Assigns (kind xs) ≡ true
target_begins (ReadsTarget.now p) = name_begins block.Assigns _ (path_first p)
target_begins (ReadsTarget.at_moment e f g p) = moment_begins _ _ e

entry_begins : {b : Block} {xs ys : Lexemes} {x : Section} → ReadsEntry b xs x ys → begins_entry b (kind xs) ≡ true
entry_begins (ReadsEntry.declared e f p q) = name_begins block.Vars _ (spelled_first p)
entry_begins (ReadsEntry.assigned e f p q) = target_begins p
entry_begins (ReadsEntry.defined e f p q) = name_begins block.Defines _ (spelled_first p)

-- ---- sections

-- whether a lexeme follows a whole section: the word of one, that of a module, or nothing
abbrev follows_section : Terminal → Bool
follows_section k.Nothing = true
follows_section (k.Word w.Module) = true
follows_section c = begins_section c

-- what holds of such a lexeme
record IsBoundary (c : Terminal) : Type 0 where
  ends_all : ends c ≡ true
  no_entry : (b : Block) → begins_entry b c ≡ false
  no_semicolon : c ≢ k.Mark m.Semicolon
  no_paren : c ≢ k.Mark m.OpenParen

no_entry_at : (c : Terminal) → same c k.Name ≡ false → moment c ≡ None → (b : Block) → begins_entry b c ≡ false
no_entry_at c e f block.Vars = e
no_entry_at c e f block.Assigns = ap (λ x. x || is_some (moment c)) e ∙ ap (λ (o : Option When). is_some o) f
no_entry_at c e f block.Defines = e

boundary : (c : Terminal) → follows_section c ≡ true → IsBoundary c
unfolding same
boundary k.Nothing e = record { ends_all = refl; no_entry = no_entry_at k.Nothing refl refl; no_semicolon = λ h. cc; no_paren = λ h. cc }
boundary (k.Word w.Module) e = record { ends_all = refl; no_entry = no_entry_at (k.Word w.Module) refl refl; no_semicolon = λ h. cc; no_paren = λ h. cc }
boundary (k.Word w.Var) e = record { ends_all = refl; no_entry = no_entry_at (k.Word w.Var) refl refl; no_semicolon = λ h. cc; no_paren = λ h. cc }
boundary (k.Word w.Assign) e = record { ends_all = refl; no_entry = no_entry_at (k.Word w.Assign) refl refl; no_semicolon = λ h. cc; no_paren = λ h. cc }
boundary (k.Word w.Define) e = record { ends_all = refl; no_entry = no_entry_at (k.Word w.Define) refl refl; no_semicolon = λ h. cc; no_paren = λ h. cc }
boundary (k.Word w.Trans) e = record { ends_all = refl; no_entry = no_entry_at (k.Word w.Trans) refl refl; no_semicolon = λ h. cc; no_paren = λ h. cc }
boundary (k.Word w.Init) e = record { ends_all = refl; no_entry = no_entry_at (k.Word w.Init) refl refl; no_semicolon = λ h. cc; no_paren = λ h. cc }
boundary (k.Word w.Invar) e = record { ends_all = refl; no_entry = no_entry_at (k.Word w.Invar) refl refl; no_semicolon = λ h. cc; no_paren = λ h. cc }
boundary (k.Word w.Fairness) e = record { ends_all = refl; no_entry = no_entry_at (k.Word w.Fairness) refl refl; no_semicolon = λ h. cc; no_paren = λ h. cc }
boundary (k.Word w.Justice) e = record { ends_all = refl; no_entry = no_entry_at (k.Word w.Justice) refl refl; no_semicolon = λ h. cc; no_paren = λ h. cc }
boundary (k.Word w.Spec) e = record { ends_all = refl; no_entry = no_entry_at (k.Word w.Spec) refl refl; no_semicolon = λ h. cc; no_paren = λ h. cc }
boundary (k.Word w.CtlSpec) e = record { ends_all = refl; no_entry = no_entry_at (k.Word w.CtlSpec) refl refl; no_semicolon = λ h. cc; no_paren = λ h. cc }
boundary _ e = absurd cc

block_begins : (c : Terminal) (b : Block) → block_of c ≡ Some b → begins_section c ≡ true
block_begins c b e = ap (λ (o : Option Block). is_some o || is_some (condition_of c)) e

condition_is : (c : Terminal) (d : CondKind) → condition_of c ≡ Some d → block_of c ≡ None
condition_is (k.Word w.Trans) d e = refl
condition_is (k.Word w.Init) d e = refl
condition_is (k.Word w.Invar) d e = refl
condition_is (k.Word w.Fairness) d e = refl
condition_is (k.Word w.Justice) d e = refl
condition_is (k.Word w.Spec) d e = refl
condition_is (k.Word w.CtlSpec) d e = refl
condition_is _ d e = absurd cc

condition_begins : (c : Terminal) (d : CondKind) → condition_of c ≡ Some d → begins_section c ≡ true
condition_begins c d e = ap (λ (o : Option Block). is_some o || is_some (condition_of c)) (condition_is c d e) ∙ ap (λ (o : Option CondKind). is_some o) e

begins_follows : (c : Terminal) → begins_section c ≡ true → follows_section c ≡ true
begins_follows k.Nothing e = refl
begins_follows (k.Word w.Module) e = refl
begins_follows _ e = e

section_begins : {xs ys : Lexemes} {found : List Section} → ReadsSection xs found ys → begins_section (kind xs) ≡ true
section_begins (ReadsSection.entries e p) = block_begins _ _ e
section_begins (ReadsSection.condition e p) = condition_begins _ _ e
section_begins (ReadsSection.closed_condition e f p) = condition_begins _ _ e

sections_follow : {xs ys : Lexemes} {found : List Section} → ReadsSections xs found ys → follows_section (kind ys) ≡ true → follows_section (kind xs) ≡ true
sections_follow ReadsSections.none h = h
sections_follow (ReadsSections.more {xs = xs} e p q) h = begins_follows (kind xs) (section_begins p)

closed_at : (t : Lexeme) (ys : Lexemes) → t.kind ≡ k.Mark m.Semicolon → after_semicolon (t ∷ ys) ≡ ys
unfolding after_semicolon
closed_at t ys e = rw (same_at t.kind (k.Mark m.Semicolon) e) refl

open_at : (ys : Lexemes) → kind ys ≢ k.Mark m.Semicolon → after_semicolon ys ≡ ys
unfolding after_semicolon
open_at ys h = rw (not_same (kind ys) (k.Mark m.Semicolon) h) refl

section_answers : {xs ys : Lexemes} {found : List Section} → ReadsSection xs found ys → follows_section (kind ys) ≡ true → (before : List Section) → section before xs ≡ Ok (before ++ found, ys)
unfolding section
section_answers (ReadsSection.entries {xs = xs} {ys = ys} {t = t} {b = b} e p) h before =
    rw e (many_answers (begins_entry b) (entry b) (ReadsEntry b) (λ xs a ys q. entry_answers q) (λ xs a ys q. entry_shorter q) (λ xs a ys q. entry_begins q)
    p ((boundary (kind ys) h).no_entry b) (suc (length xs)) before (omega arith))
section_answers (ReadsSection.condition {ys = ys} {t = t} {c = c} e p) h before =
    rw (condition_is t.kind c e, e, whole_expr_answers p (stops_at ys (boundary (kind ys) h).ends_all), open_at ys (boundary (kind ys) h).no_semicolon) refl
section_answers (ReadsSection.closed_condition {ys = ys} {t = t} {s = d} {c = c} e f p) h before =
    rw (condition_is t.kind c e, e, whole_expr_answers p (stops_at (d ∷ ys) (ap ends f)), closed_at d ys f) refl

section_shorter : {xs ys : Lexemes} {found : List Section} → ReadsSection xs found ys → length ys < length xs
section_shorter (ReadsSection.entries {b = b} e p) =
    let a = many_shorter (begins_entry b) (entry b) (ReadsEntry b) (λ xs a ys q. entry_answers q) (λ xs a ys q. entry_shorter q) (λ xs a ys q. entry_begins q) p in omega arith
section_shorter (ReadsSection.condition e p) = let a = shorter p in omega arith
section_shorter (ReadsSection.closed_condition e f p) = let a = shorter p in omega arith

sections_answers : {xs ys : Lexemes} {found : List Section} → ReadsSections xs found ys → follows_section (kind ys) ≡ true → begins_section (kind ys) ≡ false
    → (count : ℕ) (before : List Section) → length xs ≤ count → sections count before xs ≡ Ok (before ++ found, ys)
unfolding sections
sections_answers (ReadsSections.none {xs = xs}) h stop zero before le = ap (λ (l : List Section). Ok (l, xs)) (sym (append-nil before))
sections_answers (ReadsSections.none {xs = xs}) h stop (suc count) before le = rw stop (ap (λ (l : List Section). Ok (l, xs)) (sym (append-nil before)))
sections_answers (ReadsSections.more e p q) h stop zero before le = let less = section_shorter p in absurd (omega arith)
sections_answers (ReadsSections.more {xs = xs} {ys = ys} {zs = zs} {found = found} {others = others} {all = all} e p q) h stop (suc count) before le =
    let less = section_shorter p in
    rw (section_begins p, section_answers p (sections_follow q h) before)
    (sections_answers q h stop count (before ++ found) (omega arith) ∙ ap (λ (l : List Section). Ok (l, zs)) (append_assoc before found others ∙ ap (λ (l : List Section). before ++ l) (sym e)))

sections_shorter : {xs ys : Lexemes} {found : List Section} → ReadsSections xs found ys → length ys ≤ length xs
sections_shorter ReadsSections.none = omega arith
sections_shorter (ReadsSections.more e p q) = let a = section_shorter p in let b = sections_shorter q in omega arith

-- ---- modules

formals_answers : {xs ys : Lexemes} {found : List Spelled} → ReadsSeparated (k.Mark m.Comma) ReadsSpelled xs found ys → kind ys ≢ k.Mark m.Comma → formals xs ≡ Ok (found, ys)
unfolding formals
formals_answers {xs} p h =
    separated_answers (k.Mark m.Comma) _ ReadsSpelled (λ ys. Unit {0}) (λ xs a ys q t. spelled_answers q) (λ xs a ys q. spelled_shorter q) (λ t ys e. tt) p tt h (length xs) [] (omega arith)

formals_shorter : {xs ys : Lexemes} {found : List Spelled} → ReadsSeparated (k.Mark m.Comma) ReadsSpelled xs found ys → length ys < length xs
formals_shorter p = separated_shorter (k.Mark m.Comma) _ ReadsSpelled (λ ys. Unit {0}) (λ xs a ys q t. spelled_answers q) (λ xs a ys q. spelled_shorter q) (λ t ys e. tt) p

formals_first : {xs ys : Lexemes} {found : List Spelled} → ReadsSeparated (k.Mark m.Comma) ReadsSpelled xs found ys → kind xs ≡ k.Name
formals_first p = separated_first (λ c. c ≡ k.Name) (λ xs a ys q. spelled_first q) p

given_formals : {xs ys : Lexemes} {found : List Spelled} → ReadsInParens (ReadsSeparated (k.Mark m.Comma) ReadsSpelled) xs found ys → kind ys ≢ k.Mark m.OpenParen → in_parens formals xs ≡ Ok (found, ys)
given_formals p h =
    in_parens_answers formals (ReadsSeparated (k.Mark m.Comma) ReadsSpelled) (λ xs found t ys q e. formals_answers q (λ g. cc))
    (λ xs found ys q g. let f = formals_first q in cc) (λ xs found ys q. formals_shorter q) p h

given_shorter : {xs ys : Lexemes} {found : List Spelled} → ReadsInParens (ReadsSeparated (k.Mark m.Comma) ReadsSpelled) xs found ys → length ys ≤ length xs
given_shorter p =
    in_parens_shorter formals (ReadsSeparated (k.Mark m.Comma) ReadsSpelled) (λ xs found t ys q e. formals_answers q (λ g. cc))
    (λ xs found ys q g. let f = formals_first q in cc) (λ xs found ys q. formals_shorter q) p

module_answers : {xs ys : Lexemes} {tree : ModuleTree} → ReadsModule xs tree ys → follows_section (kind ys) ≡ true → begins_section (kind ys) ≡ false → module_tree xs ≡ Ok (tree, ys)
unfolding module_tree
module_answers (ReadsModule.module_of {xs = xs} {zs = zs} {t = t} e p q g) h stop =
    rw (expects t xs e, spelled_answers p, given_formals q (boundary (kind zs) (sections_follow g h)).no_paren, sections_answers g h stop (length zs) [] (omega arith)) refl

module_shorter : {xs ys : Lexemes} {tree : ModuleTree} → ReadsModule xs tree ys → length ys < length xs
module_shorter (ReadsModule.module_of e p q g) = let a = spelled_shorter p in let b = given_shorter q in let c = sections_shorter g in omega arith

module_first : {xs ys : Lexemes} {tree : ModuleTree} → ReadsModule xs tree ys → kind xs ≡ k.Word w.Module
module_first (ReadsModule.module_of e p q g) = e

modules_first : {xs ys : Lexemes} {trees : List ModuleTree} → ReadsModules xs trees ys → kind xs ≡ k.Word w.Module
modules_first (ReadsModules.last_module p) = module_first p
modules_first (ReadsModules.more_modules p q) = module_first p

modules_answers : {xs : Lexemes} {trees : List ModuleTree} → ReadsModules xs trees [] → (count : ℕ) (before : List ModuleTree) → length xs ≤ count → modules count before xs ≡ Ok (before ++ trees, [])
unfolding modules same
modules_answers (ReadsModules.last_module p) zero before le = let a = module_shorter p in absurd (omega arith)
modules_answers (ReadsModules.last_module p) (suc count) before le = rw (module_answers p refl refl) refl
modules_answers (ReadsModules.more_modules p q) zero before le = let a = module_shorter p in absurd (omega arith)
modules_answers (ReadsModules.more_modules {ys = ys} {tree = tree} {trees = trees} p q) (suc count) before le =
    let a = module_shorter p in
    let e = modules_first q in
    rw (module_answers p (ap follows_section e) (ap begins_section e), same_at (kind ys) (k.Word w.Module) e)
    (modules_answers q count (before ++ tree ∷ []) (omega arith) ∙ ap (λ (l : List ModuleTree). Ok (l, [])) (append_assoc before (tree ∷ []) trees))

pub program_answers : {xs : Lexemes} {trees : List ModuleTree} → ReadsModules xs trees [] → program xs ≡ Ok trees
unfolding program
program_answers {xs} p = rw (modules_answers p (length xs) [] (omega arith)) refl

-- ---- one program at most

abbrev done : List ModuleTree → Result (List ModuleTree) Stop
done trees = Ok trees

trees_are : (a b : List ModuleTree) → done a ≡ done b → a ≡ b
trees_are a b e = cc

pub one_program : {text : List ℕ} {tokens : List Token} {a b : Program} → ReadsText text tokens a → ReadsText text tokens b → a ≡ b
one_program {text} {tokens} {a} {b} p q =
    let names : a.names ≡ b.names = p.names ∙ sym q.names in
    let trees : a.modules ≡ b.modules = trees_are a.modules b.modules (sym (program_answers p.modules) ∙ program_answers q.modules) in
    λ i. record { names = names i; modules = trees i }
