-- The parsers of types, sections, modules and programs do the same on lexemes that agree.
use Rattle.std.proofs.Common.{◌≡◌, ℕ, zero, suc, ◌<◌, ◌≤◌, Bool, true, false, cond, eqb, List, [], ◌∷◌, ◌++◌, length, Option, Some, None, Result, Ok, Err, inl, inr, refl, ap, subst, arith}
use Rattle.std.specs.Prelude.{IfOk}
use Rattle.std.proofs.lemmas.Bool.{cases_lt, eqb-true}
use Rattle.std.proofs.lemmas.Result.{IfOk-at_ok}
use Rattle.cov_syntax.specs.declared.lexeme.Block.{Block}
use Rattle.cov_syntax.specs.declared.lexeme.Block.TheVariants as block
use Rattle.cov_syntax.specs.declared.lexeme.Terminal.{Terminal}
use Rattle.cov_syntax.specs.declared.lexeme.Terminal.TheVariants as k
use Rattle.cov_syntax.specs.declared.marks.Mark.TheVariants as m
use Rattle.cov_syntax.specs.declared.words.Word.TheVariants as w
use Rattle.cov_syntax.specs.declared.program.CondKind.{CondKind}
use Rattle.cov_syntax.specs.declared.program.ModuleTree.{ModuleTree}
use Rattle.cov_syntax.specs.declared.program.Section.{Section}
use Rattle.cov_syntax.specs.declared.program.When.{When}
use Rattle.cov_syntax.specs.Lexemes.{Lexemes, kind, next, same, moment, block_of, condition_of}
use Rattle.cov_syntax.specs.Reading.{ReadsSeparated, ReadsExprs}
use Rattle.cov_syntax.specs.Programs.{ReadsSpelled, ReadsItem, ReadsEntry, ReadsModules}
use Rattle.cov_grammar.specs.Steps.{Stop, refuse, expect, spelled_name, many, in_parens}
use Rattle.cov_grammar.specs.Expressions.{whole_expr, whole_exprs}
use Rattle.cov_grammar.specs.Modules.{item, items, listed, between, instance_type, type_by, type_tree, path_in_parens, target_by, target, body, declared, assigned, defined, entry, begins_entry, after_semicolon, section_by, section, begins_section, sections, formals, module_tree, modules, program}
use Rattle.cov_first_fault.proofs.Steps.{Nil, Or, Any, Walks, widen, stay, choose}
use Rattle.cov_first_fault.proofs.ListWalks.{behind, spelled_walk, some_spelled, many_walk, in_parens_walk, plain_open, plain_close}
use Rattle.cov_first_fault.proofs.ExpressionWalks.{mark, word, whole_expr_walk, whole_exprs_walk}
use Rattle.cov_first_fault.proofs.ModuleWalks.{item_walk, some_item, type_by_walk, type_walk, target_by_walk, target_walk, entry_walk, section_by_walk, sections_walk, formals_walk, modules_walk, nothing}
use Rattle.cov_first_fault.proofs.Agreement.{within, leaves, ok_after, next_shorter, next_shorter_or_equal, Agree, agree_past, Agreed, agreed, Local, local_err, local_past, local_ok, local_stopped, local_then, before, local_cond, token_local}
use Rattle.cov_first_fault.proofs.ListLocality.{spelled_local, int_local, separated_local, many_local, in_parens_local}
use Rattle.cov_first_fault.proofs.ExpressionLocality.{same_choice, token_shorter}
use Rattle.cov_first_fault.proofs.PrimaryLocality.{path_expr_local, whole_expr_local, whole_exprs_local}

-- ---- types

item_local : {n : ℕ} (xs ys : Lexemes) → Agree n xs ys → Local behind n (item xs) (item ys)
unfolding item
item_local xs ys h = before xs ys h (item_walk xs) (λ lt d. local_cond (same (kind xs) k.Name) (same (kind ys) k.Name) (ap (λ c. same c k.Name) d.kinds)
    (λ e. local_ok d.behind)
    (λ e. local_then (int_local xs ys h) (λ a b ea eb g. local_ok g)))

items_local : {n : ℕ} (xs ys : Lexemes) → Agree n xs ys → Local behind n (items xs) (items ys)
unfolding items
items_local {n} xs ys h = separated_local (k.Mark m.Comma) (mark m.Comma) item item ReadsItem item_walk some_item n (length xs) (λ us vs le g. item_local us vs g) (length xs) (length ys) [] [] xs ys (omega arith) (omega arith) h

listed_local : {n : ℕ} (xs ys : Lexemes) → Agree n (next xs) (next ys) → Local behind n (listed xs) (listed ys)
unfolding listed
listed_local xs ys h = local_then (items_local (next xs) (next ys) h) (λ a b ea eb g. local_then (token_local (k.Mark m.CloseBrace) (mark m.CloseBrace) a.1 b.1 g) (λ x y ex ey d. local_ok d))

between_local : {n : ℕ} (xs ys : Lexemes) → Agree n xs ys → Local behind n (between xs) (between ys)
unfolding between
between_local xs ys h = local_then (int_local xs ys h) (λ a b ea eb g. local_then (token_local (k.Mark m.Dots) (mark m.Dots) a.1 b.1 g) (λ us vs eu ev c. local_then (int_local us vs c) (λ x y ex ey d. local_ok d)))

instance_local : {n : ℕ} (xs ys : Lexemes) → Agree n xs ys → Local behind n (instance_type xs) (instance_type ys)
unfolding instance_type
instance_local {n} xs ys h = local_then (spelled_local xs ys h) (λ a b ea eb g.
    local_then (in_parens_local whole_exprs ReadsExprs whole_exprs_walk n (λ us vs c. whole_exprs_local us vs c) a.1 b.1 g) (λ x y ex ey d. local_ok d))

type_by_local : {n : ℕ} (xs ys : Lexemes) (c : Terminal) → Agree n xs ys → Agree n (next xs) (next ys) → Local behind n (type_by c xs) (type_by c ys)
type_by_local xs ys (k.Word w.Boolean) h g = local_ok g
type_by_local xs ys (k.Mark m.OpenBrace) h g = listed_local xs ys g
type_by_local xs ys k.Name h g = instance_local xs ys h
type_by_local xs ys _ h g = between_local xs ys h

type_local : {n : ℕ} (xs ys : Lexemes) → Agree n xs ys → Local behind n (type_tree xs) (type_tree ys)
unfolding type_tree
type_local xs ys h = before xs ys h (type_by_walk xs (kind xs) refl) (λ lt d. same_choice (λ c. type_by (kind xs) xs) (λ c. type_by c ys) _ _ d.kinds (type_by_local xs ys (kind xs) h d.behind))

-- ---- entries of sections

path_in_parens_local : {n : ℕ} (xs ys : Lexemes) → Agree n xs ys → Local behind n (path_in_parens xs) (path_in_parens ys)
unfolding path_in_parens
path_in_parens_local xs ys h = local_then (token_local (k.Mark m.OpenParen) plain_open xs ys h) (λ us vs eu ev g. local_then (path_expr_local us vs g) (λ a b ea eb c.
    local_then (token_local (k.Mark m.CloseParen) plain_close a.1 b.1 c) (λ x y ex ey d. local_ok d)))

target_by_local : {n : ℕ} (xs ys : Lexemes) (o : Option When) → Agree n xs ys → Agree n (next xs) (next ys) → Local behind n (target_by o xs) (target_by o ys)
target_by_local xs ys None h g = local_then (path_expr_local xs ys h) (λ a b ea eb d. local_ok d)
target_by_local xs ys (Some at_when) h g = local_then (path_in_parens_local (next xs) (next ys) g) (λ a b ea eb d. local_ok d)

target_local : {n : ℕ} (xs ys : Lexemes) → Agree n xs ys → Local behind n (target xs) (target ys)
unfolding target
target_local xs ys h = before xs ys h (target_by_walk xs (moment (kind xs)) refl) (λ lt d.
    same_choice (λ c. target_by (moment (kind xs)) xs) (λ c. target_by (moment c) ys) _ _ d.kinds (target_by_local xs ys (moment (kind xs)) h d.behind))

body_local : {n : ℕ} (xs ys : Lexemes) → Agree n xs ys → Local behind n (body xs) (body ys)
unfolding body
body_local xs ys h = local_then (token_local (k.Mark m.Becomes) (mark m.Becomes) xs ys h) (λ us vs eu ev g. local_then (whole_expr_local us vs g) (λ a b ea eb c.
    local_then (token_local (k.Mark m.Semicolon) (mark m.Semicolon) a.1 b.1 c) (λ x y ex ey d. local_ok d)))

declared_local : {n : ℕ} (xs ys : Lexemes) → Agree n xs ys → Local behind n (declared xs) (declared ys)
unfolding declared
declared_local xs ys h = local_then (spelled_local xs ys h) (λ a b ea eb g. local_then (token_local (k.Mark m.Colon) (mark m.Colon) a.1 b.1 g) (λ us vs eu ev c. local_then (type_local us vs c) (λ x y ex ey d.
    local_then (token_local (k.Mark m.Semicolon) (mark m.Semicolon) x.1 y.1 d) (λ z z' ez ez' f. local_ok f))))

assigned_local : {n : ℕ} (xs ys : Lexemes) → Agree n xs ys → Local behind n (assigned xs) (assigned ys)
unfolding assigned
assigned_local xs ys h = local_then (target_local xs ys h) (λ a b ea eb g. local_then (body_local a.1 b.1 g) (λ x y ex ey d. local_ok d))

defined_local : {n : ℕ} (xs ys : Lexemes) → Agree n xs ys → Local behind n (defined xs) (defined ys)
unfolding defined
defined_local xs ys h = local_then (spelled_local xs ys h) (λ a b ea eb g. local_then (body_local a.1 b.1 g) (λ x y ex ey d. local_ok d))

entry_local : {n : ℕ} (b : Block) (xs ys : Lexemes) → Agree n xs ys → Local behind n (entry b xs) (entry b ys)
entry_local block.Vars xs ys h = declared_local xs ys h
entry_local block.Assigns xs ys h = assigned_local xs ys h
entry_local block.Defines xs ys h = defined_local xs ys h

-- an entry takes a lexeme at least
body_shorter : (xs : Lexemes) → IfOk (body xs) (λ a. length a.1 < length xs)
unfolding body
body_shorter xs = ok_after (expect (k.Mark m.Becomes) xs) _ (λ a. length a.1 < length xs) (λ us eu. ok_after (whole_expr us) _ (λ a. length a.1 < length xs) (λ a ea. ok_after (expect (k.Mark m.Semicolon) a.1) _ (λ a. length a.1 < length xs) (λ z ez.
    let i = token_shorter xs us (mark m.Becomes) eu in
    let ii = leaves (whole_expr_walk us) ea in
    let iii = token_shorter a.1 z (mark m.Semicolon) ez in
    omega arith)))

entry_shorter : (b : Block) (xs : Lexemes) → IfOk (entry b xs) (λ a. length a.1 < length xs)
unfolding declared assigned defined
entry_shorter block.Vars xs =
    ok_after (spelled_name xs) _ (λ a. length a.1 < length xs) (λ a ea. ok_after (expect (k.Mark m.Colon) a.1) _ (λ a. length a.1 < length xs) (λ us eu. ok_after (type_tree us) _ (λ a. length a.1 < length xs) (λ x ex. ok_after (expect (k.Mark m.Semicolon) x.1) _ (λ a. length a.1 < length xs) (λ z ez.
    let i = leaves (spelled_walk xs) ea in
    let ii = token_shorter a.1 us (mark m.Colon) eu in
    let iii = leaves (type_walk us) ex in
    let iv = token_shorter x.1 z (mark m.Semicolon) ez in
    omega arith))))
entry_shorter block.Assigns xs =
    ok_after (target xs) _ (λ a. length a.1 < length xs) (λ a ea. ok_after (body a.1) _ (λ a. length a.1 < length xs) (λ x ex.
    let i = leaves (target_walk xs) ea in
    let ii = IfOk-at_ok (λ y. length y.1 < length a.1) ex (body_shorter a.1) in
    omega arith))
entry_shorter block.Defines xs =
    ok_after (spelled_name xs) _ (λ a. length a.1 < length xs) (λ a ea. ok_after (body a.1) _ (λ a. length a.1 < length xs) (λ x ex.
    let i = leaves (spelled_walk xs) ea in
    let ii = IfOk-at_ok (λ y. length y.1 < length a.1) ex (body_shorter a.1) in
    omega arith))

-- ---- sections

semicolon_agree : (n : ℕ) (xs ys : Lexemes) → Agree n xs ys → Agree n (after_semicolon xs) (after_semicolon ys)
unfolding after_semicolon
semicolon_agree n xs ys h = elim (cases_lt n (length xs)) [
  | inl lt ↦ let d = agreed xs ys h lt in go (same (kind xs) (k.Mark m.Semicolon)) (same (kind ys) (k.Mark m.Semicolon)) (ap (λ c. same c (k.Mark m.Semicolon)) d.kinds) d
  | inr le ↦ past (same (kind xs) (k.Mark m.Semicolon)) le
]
  where
    go : (b c : Bool) → b ≡ c → Agreed n xs ys → Agree n (cond b (next xs) xs) (cond c (next ys) ys)
    go true true e d = d.behind
    go true false e d = absurd cc
    go false true e d = absurd cc
    go false false e d = h

    past : (b : Bool) → length xs ≤ n → Agree n (cond b (next xs) xs) (cond (same (kind ys) (k.Mark m.Semicolon)) (next ys) ys)
    past true le = let less = next_shorter_or_equal xs in agree_past (next xs) _ (omega arith)
    past false le = agree_past xs _ le

section_by_local : {n : ℕ} (found found' : List Section) (xs ys : Lexemes) (b : Option Block) (c : Option CondKind) → Agree n (next xs) (next ys) → Local behind n (section_by b c found xs) (section_by b c found' ys)
section_by_local {n} found found' xs ys (Some b) c h =
    let less = next_shorter_or_equal xs in
    let less' = next_shorter_or_equal ys in
    many_local (begins_entry b) (entry b) (ReadsEntry b) (entry_walk b) n (λ us a ea. IfOk-at_ok (λ x. length x.1 < length us) ea (entry_shorter b us)) (λ us vs g. entry_local b us vs g)
    (length xs) (length ys) found found' (next xs) (next ys) less less' h
section_by_local {n} found found' xs ys None (Some c) h = local_then (whole_expr_local (next xs) (next ys) h) (λ a b ea eb g. local_ok (semicolon_agree n a.1 b.1 g))
section_by_local found found' xs ys None None h = local_err

section_local : {n : ℕ} (found found' : List Section) (xs ys : Lexemes) → Agree n xs ys → Local behind n (section found xs) (section found' ys)
unfolding section
section_local found found' xs ys h = before xs ys h (section_by_walk found xs (block_of (kind xs)) refl (condition_of (kind xs)) refl) (λ lt d.
    same_choice (λ c. section_by (block_of (kind xs)) (condition_of (kind xs)) found xs) (λ c. section_by (block_of c) (condition_of c) found' ys) _ _ d.kinds
    (section_by_local found found' xs ys (block_of (kind xs)) (condition_of (kind xs)) d.behind))

semicolon_shorter : (us : Lexemes) → length (after_semicolon us) ≤ length us
unfolding after_semicolon
semicolon_shorter us = choice (same (kind us) (k.Mark m.Semicolon))
  where
    choice : (b : Bool) → length (cond b (next us) us) ≤ length us
    choice true = next_shorter_or_equal us
    choice false = omega arith

section_shorter : (found : List Section) (xs : Lexemes) → 0 < length xs → IfOk (section found xs) (λ a. length a.1 < length xs)
unfolding section
section_shorter found xs some = go (block_of (kind xs)) (condition_of (kind xs))
  where
    less : suc (length (next xs)) ≡ length xs
    less = next_shorter xs some

    answer : (b : Block) (r : Result (List Section × Lexemes) Stop) → many (begins_entry b) (entry b) (length xs) found (next xs) ≡ r → IfOk r (λ a. length a.1 < length xs)
    answer b (Ok a) e = let le = leaves (many_walk (begins_entry b) (entry b) (ReadsEntry b) (entry_walk b) (length xs) found (next xs)) e in omega (arith, less)
    answer b (Err s) e = tt

    go : (b : Option Block) (c : Option CondKind) → IfOk (section_by b c found xs) (λ a. length a.1 < length xs)
    go (Some b) c = answer b _ refl
    go None (Some c) = ok_after (whole_expr (next xs)) _ (λ a. length a.1 < length xs) (λ a ea. let le = leaves (whole_expr_walk (next xs)) ea in omega (arith, less, semicolon_shorter a.1))
    go None None = tt

sections_local : {n : ℕ} (i j : ℕ) (found found' : List Section) (xs ys : Lexemes) → length xs ≤ i → length ys ≤ j → Agree n xs ys → Local behind n (sections i found xs) (sections j found' ys)
unfolding sections
sections_local zero j found found' xs ys room room' h = local_past (within (sections_walk zero found xs) (omega arith))
sections_local (suc i) zero found found' xs ys room room' h = before xs ys h (sections_walk (suc i) found xs) (λ lt d. let some = d.some in absurd (omega arith))
sections_local (suc i) (suc j) found found' xs ys room room' h = before xs ys h (sections_walk (suc i) found xs) (λ lt d.
    local_cond (begins_section (kind xs)) (begins_section (kind ys)) (ap begins_section d.kinds)
    (λ e. local_then (section_local found found' xs ys h) (λ a b ea eb g.
    let less = IfOk-at_ok (λ x. length x.1 < length xs) ea (section_shorter found xs (omega arith)) in
    let less' = IfOk-at_ok (λ x. length x.1 < length ys) eb (section_shorter found' ys d.some) in
    sections_local i j a.0 b.0 a.1 b.1 (omega arith) (omega arith) g))
    (λ e. local_ok h))

-- ---- modules

formals_local : {n : ℕ} (xs ys : Lexemes) → Agree n xs ys → Local behind n (formals xs) (formals ys)
unfolding formals
formals_local {n} xs ys h = separated_local (k.Mark m.Comma) (mark m.Comma) spelled_name spelled_name ReadsSpelled spelled_walk some_spelled n (length xs) (λ us vs le g. spelled_local us vs g) (length xs) (length ys) [] [] xs ys (omega arith) (omega arith) h

module_local : {n : ℕ} (xs ys : Lexemes) → Agree n xs ys → Local behind n (module_tree xs) (module_tree ys)
unfolding module_tree
module_local {n} xs ys h = local_then (token_local (k.Word w.Module) (word w.Module) xs ys h) (λ us vs eu ev g. local_then (spelled_local us vs g) (λ a b ea eb c.
    local_then (in_parens_local formals (ReadsSeparated (k.Mark m.Comma) ReadsSpelled) formals_walk n (λ us vs d. formals_local us vs d) a.1 b.1 c) (λ x y ex ey d.
    local_then (sections_local (length x.1) (length y.1) [] [] x.1 y.1 (omega arith) (omega arith) d) (λ z z' ez ez' f. local_ok f))))

module_shorter : (xs : Lexemes) → IfOk (module_tree xs) (λ a. length a.1 < length xs)
unfolding module_tree
module_shorter xs =
    ok_after (expect (k.Word w.Module) xs) _ (λ a. length a.1 < length xs) (λ us eu. ok_after (spelled_name us) _ (λ a. length a.1 < length xs) (λ a ea. ok_after (in_parens formals a.1) _ (λ a. length a.1 < length xs) (λ x ex. ok_after (sections (length x.1) [] x.1) _ (λ a. length a.1 < length xs) (λ z ez.
    let i = token_shorter xs us (word w.Module) eu in
    let ii = leaves (spelled_walk us) ea in
    let iii = leaves (in_parens_walk formals (ReadsSeparated (k.Mark m.Comma) ReadsSpelled) formals_walk a.1) ex in
    let iv = leaves (sections_walk (length x.1) [] x.1) ez in
    omega arith))))

after_module_walk : (i : ℕ) (found : List ModuleTree) (a : ModuleTree × Lexemes) → Walks behind (Or Nil (Any ReadsModules)) a.1 (cond (same (kind a.1) (k.Word w.Module)) (modules i (found ++ a.0 ∷ []) a.1) (Ok (found ++ a.0 ∷ [], a.1)))
after_module_walk i found a = choose (same (kind a.1) (k.Word w.Module)) (λ e. widen (λ us ys h. Or.right h) (modules_walk i (found ++ a.0 ∷ []) a.1)) (λ e. widen (λ us ys h. Or.left h) (stay _))

modules_local : {n : ℕ} (i j : ℕ) (found found' : List ModuleTree) (xs ys : Lexemes) → length xs ≤ i → Agree n xs ys → Local behind n (modules i found xs) (modules j found' ys)
unfolding modules
modules_local zero j found found' xs ys room h = local_past (within (modules_walk zero found xs) (omega arith))
modules_local (suc i) zero found found' xs ys room h = local_err
modules_local (suc i) (suc j) found found' xs ys room h = local_then (module_local xs ys h) (λ a b ea eb g.
    let less = IfOk-at_ok (λ x. length x.1 < length xs) ea (module_shorter xs) in
    before a.1 b.1 g (after_module_walk i found a) (λ lt d. local_cond (same (kind a.1) (k.Word w.Module)) (same (kind b.1) (k.Word w.Module)) (ap (λ c. same c (k.Word w.Module)) d.kinds)
    (λ e. modules_local i j (found ++ a.0 ∷ []) (found' ++ b.0 ∷ []) a.1 b.1 (omega arith) g)
    (λ e. local_ok g)))

whole_local : {n : ℕ} (a b : List ModuleTree × Lexemes) → Agree n a.1 b.1 → (c d : Bool) → eqb (length b.1) 0 ≡ d → Local nothing n (cond c (Ok a.0) (refuse a.1)) (cond d (Ok b.0) (refuse b.1))
whole_local a b h c false e = local_err
whole_local a b h true true e = local_ok tt
whole_local {n} a b h false true e = local_stopped (Ok b.0) (go a.1 b.1 h (eqb-true (length b.1) 0 e))
  where
    go : (xs ys : Lexemes) → Agree n xs ys → length ys ≡ 0 → length xs ≤ n
    go [] ys g f = omega arith
    go (t ∷ xs) [] g f = g
    go (t ∷ xs) (u ∷ ys) g f = absurd (omega arith)

program_local : {n : ℕ} (xs ys : Lexemes) → Agree n xs ys → Local nothing n (program xs) (program ys)
unfolding program
program_local xs ys h = local_then (modules_local (length xs) (length ys) [] [] xs ys (omega arith) h) (λ a b ea eb g. whole_local a b g (eqb (length a.1) 0) (eqb (length b.1) 0) refl)

-- where the first list is not read and the second is, the first does not stop before the place up to which they agree
pub stops_behind : {n places : ℕ} {trees : List ModuleTree} (xs ys : Lexemes) → Agree n xs ys → program xs ≡ Err (Stop.unread places) → program ys ≡ Ok trees → places ≤ n
stops_behind {n} {places} {trees} xs ys h e f =
    (subst (λ r. Local nothing n r (Ok trees)) e (subst (λ s. Local nothing n (program xs) s) f (program_local xs ys h))).holds
