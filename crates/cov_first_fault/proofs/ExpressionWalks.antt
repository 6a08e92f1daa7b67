-- Walks of the parsers of expressions.
use Rattle.std.proofs.Common.{◌≡◌, ◌≢◌, ℕ, zero, suc, ◌+◌, ◌-◌, ◌*◌, ◌<◌, ◌≤◌, Bool, true, false, cond, eqb, List, [], ◌∷◌, ◌++◌, length, Option, None, Result, Ok, refl, sym, ap, subst, arith, add-one}
use Rattle.std.proofs.Common.{Some as some}
use Rattle.std.proofs.lemmas.Option.{cond_some}
use Rattle.std.proofs.lemmas.Bool.{cond_both, eqb-true, eqb-false}
use Rattle.cov_syntax.specs.declared.lexeme.Terminal.{Terminal}
use Rattle.cov_syntax.specs.declared.lexeme.Terminal.TheVariants as k
use Rattle.cov_syntax.specs.declared.marks.Mark.TheVariants as m
use Rattle.cov_syntax.specs.declared.words.Word.TheVariants as w
use Rattle.cov_syntax.specs.declared.tree.Branch.{Branch}
use Rattle.cov_syntax.specs.declared.tree.Expr.{Expr}
use Rattle.cov_syntax.specs.declared.tree.Op1.{Op1}
use Rattle.cov_syntax.specs.declared.tree.Op2.{Op2}
use Rattle.cov_syntax.specs.declared.tree.Op2.TheVariants as op2
use Rattle.cov_syntax.specs.Lexemes.{Lexemes, kind, next, same, left, prefix, equality, until_of, truth}
use Rattle.cov_syntax.specs.Reading.{ReadsSeparated, ReadsInt, ReadsName, ReadsPath, Reads, ReadsExprs, ReadsBranches, ReadsBranch}
use Rattle.cov_syntax.specs.Reading.{Reads as r}
use Rattle.cov_grammar.specs.Steps.{Stop, Parser, ◌>>=◌, expect}
use Rattle.cov_grammar.specs.Expressions.{at_level, ends_comparison, joint, ranged, path_expr, implied, implication, turn, climb, chain, compared, prefixed_by, prefixed, negated, grouped, next_value, exprs, set, branch, branches, choice, until, primary_by, primary, level, expr, whole_expr, whole_exprs}
use Rattle.cov_grammar.proofs.StepLemmas.{same_is, differs}
use Rattle.cov_grammar.proofs.Completeness.{shorter}
use Rattle.cov_first_fault.proofs.Steps.{Nil, Tok, Seq, Or, Any, Guarded, Is, Some, Walks, then, widen, mapped, stay, some_nil, some_seq, some_left, some_in, refused, choose, plain, IsPlain, skipping, lexeme, some_token, token_walk, guard}
use Rattle.cov_first_fault.proofs.ListWalks.{behind, int_walk, plain_minus, separated_walk, path_walk, plain_open, plain_close}

-- ---- what is read

abbrev pub E : ℕ → Lexemes → Lexemes → Type 0
E l = Any (Reads l)

tight : {xs ys : Lexemes} {e : Expr} (d l : ℕ) → d + l ≡ 12 → Reads 12 xs e ys → Reads l xs e ys
tight {xs} {ys} {e} zero l is p = let n : 12 ≡ l = omega arith in subst (λ (i : ℕ). Reads i xs e ys) n p
tight (suc d) l is p = r.tighter (omega arith) (tight d (suc l) (omega arith) p)

as_level : {xs ys : Lexemes} {e : Expr} (l : ℕ) → l ≤ 12 → Reads 12 xs e ys → E l xs ys
as_level zero le p = Any.any (tight 12 0 refl p)
as_level (suc l) le p = Any.any (tight (11 - l) (suc l) (omega arith) p)

-- a name is an expression
name_read : (l : ℕ) → l ≤ 12 → (zs : Lexemes) → E l (lexeme k.Name ∷ zs) zs
name_read l le zs = as_level l le (r.path (ReadsSeparated.last (ReadsName.name refl)))

pub some_expr : (l : ℕ) → l ≤ 12 → Some (E l)
some_expr l le = record { taken = lexeme k.Name ∷ []; reads = name_read l le }

-- ---- kinds of lexemes

abbrev pub IsLeft : ℕ → Terminal → Type 0
IsLeft l c = (op : Op2) × (left c ≡ some (l, op))

abbrev pub IsEquality : Terminal → Type 0
IsEquality c = (op : Op2) × (equality c ≡ some op)

abbrev pub IsPrefix : Terminal → Type 0
IsPrefix c = (op : Op1) × (prefix c ≡ some op)

abbrev pub IsUntil : Terminal → Type 0
IsUntil c = (op : Op2) × (until_of c ≡ some op)

abbrev pub IsTruth : Terminal → Type 0
IsTruth c = (b : Bool) × (truth c ≡ some b)

pub plain_left : (l : ℕ) → IsPlain (IsLeft l)
plain_left l = record { some = λ h. let e = h.1 in cc; no_number = λ h. let e = h.1 in cc }

pub plain_equality : IsPlain IsEquality
plain_equality = record { some = λ h. let e = h.1 in cc; no_number = λ h. let e = h.1 in cc }

pub plain_prefix : IsPlain IsPrefix
plain_prefix = record { some = λ h. let e = h.1 in cc; no_number = λ h. let e = h.1 in cc }

pub plain_until : IsPlain IsUntil
plain_until = record { some = λ h. let e = h.1 in cc; no_number = λ h. let e = h.1 in cc }

pub plain_truth : IsPlain IsTruth
plain_truth = record { some = λ h. let e = h.1 in cc; no_number = λ h. let e = h.1 in cc }

pub mark : (c : _) → IsPlain (Is (k.Mark c))
mark c = plain (k.Mark c) (λ h. cc) (λ h. cc)

pub word : (c : _) → IsPlain (Is (k.Word c))
word c = plain (k.Word c) (λ h. cc) (λ h. cc)

pick : (b : Bool) (l : ℕ) (o : Option (ℕ × Op2)) (op : Op2) → cond b None (at_level l o) ≡ some op → o ≡ some (l, op)
pick true l o op e = absurd cc
pick false l None op e = absurd cc
pick false l (some q) op e = let c = cond_some (eqb l q.0) q.1 op e in λ i. some ((sym (eqb-true l q.0 c.0)) i, c.1 i)

pub joint_left : (l : ℕ) (ys : Lexemes) (op : Op2) → joint l ys ≡ some op → left (kind ys) ≡ some (l, op)
unfolding joint
joint_left l ys op e = pick (ends_comparison ys) l (left (kind ys)) op e

-- ---- the productions

-- operators of a level, each with an operand, behind an operand
pub data Climbed (l : ℕ) : Lexemes → Lexemes → Type 0 where
  stop : {xs : Lexemes} → Climbed l xs xs
  more : {ws xs ys zs : Lexemes} → Tok (IsLeft l) ws xs → E (suc l) xs ys → Climbed l ys zs → Climbed l ws zs

stop_in : {l : ℕ} (xs ys : Lexemes) → Nil xs ys → Climbed l xs ys
stop_in xs ys Nil.nil = Climbed.stop

operand_in : {l : ℕ} (xs ys : Lexemes) → Seq (Tok (IsLeft l)) (Seq (E (suc l)) (Climbed l)) xs ys → Climbed l xs ys
operand_in xs ys (Seq.seq t (Seq.seq e c)) = Climbed.more t e c

pub some_climbed : (l : ℕ) → Some (Climbed l)
some_climbed l = some_in stop_in some_nil

climbed : {l : ℕ} {xs ys zs : Lexemes} {a : Expr} → Reads l xs a ys → Climbed l ys zs → E l xs zs
climbed p Climbed.stop = Any.any p
climbed p (Climbed.more (Tok.tok e) (Any.any q) c) = climbed (r.binary (e.1) p q) c

chain_in : {l : ℕ} → l < 12 → (xs ys : Lexemes) → Seq (E (suc l)) (Climbed l) xs ys → E l xs ys
chain_in lt xs ys (Seq.seq (Any.any p) c) = climbed (r.tighter lt p) c

-- `->` and what it implies, or nothing
abbrev pub Implied : Lexemes → Lexemes → Type 0
Implied = Or Nil (Seq (Tok (Is (k.Mark m.Implies))) (E 1))

implies_in : (xs ys : Lexemes) → Seq (E 2) Implied xs ys → E 1 xs ys
implies_in xs ys (Seq.seq (Any.any p) (Or.left Nil.nil)) = Any.any (r.tighter (omega arith) p)
implies_in xs ys (Seq.seq (Any.any p) (Or.right (Seq.seq (Tok.tok e) (Any.any q)))) = Any.any (r.implies e p q)

-- an equality and a prefix operator with its operand, or nothing
abbrev pub Compared : Lexemes → Lexemes → Type 0
Compared = Or Nil (Seq (Tok IsEquality) (Seq (Tok IsPrefix) (E 5)))

compared_in : (xs ys : Lexemes) → Seq (E 6) Compared xs ys → E 5 xs ys
compared_in xs ys (Seq.seq (Any.any p) (Or.left Nil.nil)) = Any.any (r.tighter (omega arith) p)
compared_in xs ys (Seq.seq (Any.any p) (Or.right (Seq.seq (Tok.tok e) (Seq.seq (Tok.tok f) (Any.any q))))) = Any.any (r.compared e.1 f.1 p q)

prefixed_in : (xs ys : Lexemes) → Seq (Tok IsPrefix) (E 5) xs ys → E 5 xs ys
prefixed_in xs ys (Seq.seq (Tok.tok e) (Any.any p)) = Any.any (r.prefixed e.1 p)

-- `..` and an integer, or nothing
abbrev pub Ranged : Lexemes → Lexemes → Type 0
Ranged = Or Nil (Seq (Tok (Is (k.Mark m.Dots))) (Any ReadsInt))

ranged_in : (xs ys : Lexemes) → Seq (Any ReadsInt) Ranged xs ys → E 12 xs ys
ranged_in xs ys (Seq.seq (Any.any p) (Or.left Nil.nil)) = Any.any (r.integer p)
ranged_in xs ys (Seq.seq (Any.any p) (Or.right (Seq.seq (Tok.tok e) (Any.any q)))) = Any.any (r.range e p q)

path_in : (xs ys : Lexemes) → Any ReadsPath xs ys → E 12 xs ys
path_in xs ys (Any.any p) = Any.any (r.path p)

negated_in : (xs ys : Lexemes) → Seq (Tok (Is (k.Mark m.Minus))) (Guarded k.Number (E 12)) xs ys → E 12 xs ys
negated_in xs ys (Seq.seq (Tok.tok e) (Guarded.guarded h (Any.any p))) = Any.any (r.negated e h p)

literal_in : (xs ys : Lexemes) → Seq (Tok IsTruth) Nil xs ys → E 12 xs ys
literal_in xs ys (Seq.seq (Tok.tok e) Nil.nil) = Any.any (r.literal e.1)

abbrev pub Close : Lexemes → Lexemes → Type 0
Close = Tok (Is (k.Mark m.CloseParen))

abbrev pub Grouped : Lexemes → Lexemes → Type 0
Grouped = Seq (Tok (Is (k.Mark m.OpenParen))) (Seq (E 1) Close)

grouped_in : (xs ys : Lexemes) → Grouped xs ys → E 12 xs ys
grouped_in xs ys (Seq.seq (Tok.tok e) (Seq.seq (Any.any p) (Tok.tok f))) = Any.any (r.grouped e f p)

next_in : (xs ys : Lexemes) → Seq (Tok (Is (k.Word w.NextOf))) Grouped xs ys → E 12 xs ys
next_in xs ys (Seq.seq (Tok.tok e) (Seq.seq (Tok.tok f) (Seq.seq (Any.any p) (Tok.tok g)))) = Any.any (r.next_value e f g p)

exprs_of : {xs ys : Lexemes} {es : List Expr} → ReadsSeparated (k.Mark m.Comma) (Reads 1) xs es ys → ReadsExprs xs es ys
exprs_of (ReadsSeparated.last p) = ReadsExprs.last_expr p
exprs_of (ReadsSeparated.more e p q) = ReadsExprs.more_exprs e p (exprs_of q)

exprs_in : (xs ys : Lexemes) → Any (ReadsSeparated (k.Mark m.Comma) (Reads 1)) xs ys → Any ReadsExprs xs ys
exprs_in xs ys (Any.any p) = Any.any (exprs_of p)

set_in : (xs ys : Lexemes) → Seq (Tok (Is (k.Mark m.OpenBrace))) (Seq (Any ReadsExprs) (Tok (Is (k.Mark m.CloseBrace)))) xs ys → E 12 xs ys
set_in xs ys (Seq.seq (Tok.tok e) (Seq.seq (Any.any p) (Tok.tok f))) = Any.any (r.set e f p)

-- an expression and a mark
abbrev pub Ended : Terminal → Lexemes → Lexemes → Type 0
Ended c = Seq (E 1) (Tok (Is c))

branch_in : (xs ys : Lexemes) → Seq (E 1) (Seq (Tok (Is (k.Mark m.Colon))) (Ended (k.Mark m.Semicolon))) xs ys → Any ReadsBranch xs ys
branch_in xs ys (Seq.seq (Any.any p) (Seq.seq (Tok.tok e) (Seq.seq (Any.any q) (Tok.tok f)))) = Any.any (ReadsBranch.branch e f p q)

abbrev pub Esac : Lexemes → Lexemes → Type 0
Esac = Tok (Is (k.Word w.Esac))

-- branches up to `esac`
abbrev pub Branches : Lexemes → Lexemes → Type 0
Branches = Seq (Any ReadsBranches) Esac

branches_in : (xs ys : Lexemes) → Seq (Any ReadsBranch) (Or Esac Branches) xs ys → Branches xs ys
branches_in xs ys (Seq.seq (Any.any p) (Or.left t)) = Seq.seq (Any.any (ReadsBranches.last_branch p)) t
branches_in xs ys (Seq.seq (Any.any p) (Or.right (Seq.seq (Any.any q) t))) = Seq.seq (Any.any (ReadsBranches.more_branches p q)) t

choice_in : (xs ys : Lexemes) → Seq (Tok (Is (k.Word w.Case))) Branches xs ys → E 12 xs ys
choice_in xs ys (Seq.seq (Tok.tok e) (Seq.seq (Any.any p) (Tok.tok f))) = Any.any (r.choice e f p)

-- '[' expr U expr ']'
abbrev pub Bracket : Lexemes → Lexemes → Type 0
Bracket = Seq (Tok (Is (k.Mark m.OpenBracket))) (Seq (E 1) (Seq (Tok (Is (k.Word w.U))) (Ended (k.Mark m.CloseBracket))))

until_in : (xs ys : Lexemes) → Seq (Tok IsUntil) Bracket xs ys → E 12 xs ys
until_in xs ys (Seq.seq (Tok.tok e) (Seq.seq (Tok.tok f) (Seq.seq (Any.any p) (Seq.seq (Tok.tok g) (Seq.seq (Any.any q) (Tok.tok h)))))) = Any.any (r.until e.1 f g h p q)

some_branch : Some (Any ReadsBranch)
some_branch = some_in branch_in (some_seq (some_expr 1 (omega arith)) (some_seq (some_token (k.Mark m.Colon)) (some_seq (some_expr 1 (omega arith)) (some_token (k.Mark m.Semicolon)))))

some_branches : Some Branches
some_branches = some_in branches_in (some_seq some_branch (some_left (some_token (k.Word w.Esac))))

-- nothing is read as an expression
strict : {l : ℕ} (zs : Lexemes) → E l zs zs → ⊥
strict zs (Any.any p) = let h = shorter p in omega arith

some_guarded : Some (Guarded k.Number (E 12))
some_guarded = record { taken = lexeme k.Name ∷ []; reads = λ zs. Guarded.guarded (λ h. cc) (name_read 12 (omega arith) zs) }

-- ---- the function's parts

pub ranged_walk : (xs : Lexemes) → Walks behind (E 12) xs (ranged xs)
unfolding ranged
ranged_walk xs = widen ranged_in (then (some_left some_nil) (int_walk xs) (λ i. choose (same (kind i.1) (k.Mark m.Dots))
    (λ e. widen (λ us ys h. Or.right h) (skipping i.1 (mark m.Dots) (same_is (kind i.1) (k.Mark m.Dots) e) (mapped (int_walk (next i.1)) (λ j. stay _))))
    (λ e. widen (λ us ys h. Or.left h) (stay _))))

pub path_expr_walk : (xs : Lexemes) → Walks behind (Any ReadsPath) xs (path_expr xs)
unfolding path_expr
path_expr_walk xs = mapped (path_walk xs) (λ names. stay _)

module _ (p : ℕ → Parser Expr) (walks : (l : ℕ) (xs : Lexemes) → l ≤ 12 → Walks behind (E l) xs (p l xs)) where
  pub walks_suc : (l : ℕ) (xs : Lexemes) → l < 12 → Walks behind (E (suc l)) xs (p (l + 1) xs)
  walks_suc l xs lt = subst (λ (i : ℕ). Walks behind (E i) xs (p (l + 1) xs)) (add-one l) (walks (l + 1) xs (omega arith))

  pub implied_walk : (xs : Lexemes) (a : Expr × Lexemes) (b : Bool) → same (kind a.1) (k.Mark m.Implies) ≡ b → Walks behind Implied a.1 (implied p xs a b)
  implied_walk xs a true e = widen (λ us ys h. Or.right h) (skipping a.1 (mark m.Implies) (same_is (kind a.1) (k.Mark m.Implies) e) (mapped (walks 1 (next a.1) (omega arith)) (λ b. stay _)))
  implied_walk xs a false e = widen (λ us ys h. Or.left h) (stay _)

  pub implication_walk : (xs : Lexemes) → Walks behind (E 1) xs (implication p xs)
  unfolding implication
  implication_walk xs = widen implies_in (then (some_left some_nil) (walks 2 xs (omega arith)) (λ a. implied_walk xs a (same (kind a.1) (k.Mark m.Implies)) refl))

  pub operand_walk : (step : Expr → Parser Expr) (l : ℕ) → l < 12 → ((b : Expr) (zs : Lexemes) → Walks behind (Climbed l) zs (step b zs))
      → (op : Op2) (xs : Lexemes) (a : Expr) (ys : Lexemes) → Walks behind (Seq (E (suc l)) (Climbed l)) (next ys) (turn p step l xs a ys (some op))
  operand_walk step l lt goes op xs a ys = then (some_climbed l) (walks_suc l (next ys) lt) (λ b. goes _ b.1)

  pub turn_walk : (step : Expr → Parser Expr) (l : ℕ) → l < 12 → ((b : Expr) (zs : Lexemes) → Walks behind (Climbed l) zs (step b zs))
      → (xs : Lexemes) (a : Expr) (ys : Lexemes) (o : Option Op2) → joint l ys ≡ o → Walks behind (Climbed l) ys (turn p step l xs a ys o)
  turn_walk step l lt goes xs a ys None e = widen stop_in (stay _)
  turn_walk step l lt goes xs a ys (some op) e = widen operand_in (skipping ys (plain_left l) (op, joint_left l ys op e) (operand_walk step l lt goes op xs a ys))

  pub climb_walk : (n l : ℕ) → l < 12 → (xs : Lexemes) (a : Expr) (ys : Lexemes) → Walks behind (Climbed l) ys (climb p n l xs a ys)
  unfolding climb
  climb_walk zero l lt xs a ys = widen stop_in (stay _)
  climb_walk (suc n) l lt xs a ys = turn_walk (climb p n l xs) l lt (λ b zs. climb_walk n l lt xs b zs) xs a ys (joint l ys) refl

  pub chain_walk : (l : ℕ) → l < 12 → (xs : Lexemes) → Walks behind (E l) xs (chain p l xs)
  unfolding chain
  chain_walk l lt xs = widen (chain_in lt) (then (some_climbed l) (walks_suc l xs lt) (λ a. climb_walk (length a.1) l lt xs a.0 a.1))

  pub compared_walk : (xs : Lexemes) (a : Expr × Lexemes) (o : Option Op2) → equality (kind a.1) ≡ o → (q : Option Op1) → prefix (kind (next a.1)) ≡ q → Walks behind Compared a.1 (compared p xs a o q)
  compared_walk xs a None e None f = widen (λ us ys h. Or.left h) (stay _)
  compared_walk xs a None e (some pre) f = widen (λ us ys h. Or.left h) (stay _)
  compared_walk xs a (some op) e None f = widen (λ us ys h. Or.left h) (stay _)
  compared_walk xs a (some op) e (some pre) f = widen (λ us ys h. Or.right h)
      (skipping a.1 plain_equality (op, e) (skipping (next a.1) plain_prefix (pre, f) (mapped (walks 5 (next (next a.1)) (omega arith)) (λ b. stay _))))

  pub prefixed_by_walk : (xs : Lexemes) (o : Option Op1) → prefix (kind xs) ≡ o → Walks behind (E 5) xs (prefixed_by p xs o)
  prefixed_by_walk xs (some op) e = widen prefixed_in (skipping xs plain_prefix (op, e) (mapped (walks 5 (next xs) (omega arith)) (λ x. stay _)))
  prefixed_by_walk xs None e = widen compared_in (then (some_left some_nil) (walks 6 xs (omega arith)) (λ a. compared_walk xs a (equality (kind a.1)) refl (prefix (kind (next a.1))) refl))

  pub negated_walk : (xs : Lexemes) → kind xs ≡ k.Mark m.Minus → kind (next xs) ≢ k.Number → Walks behind (E 12) xs (negated p xs)
  unfolding negated
  negated_walk xs e h = widen negated_in (skipping xs plain_minus e (mapped (guard h some_guarded strict (walks 12 (next xs) (omega arith))) (λ x. stay _)))

  pub ended_walk : (c : Terminal) → IsPlain (Is c) → (xs : Lexemes) (B : Type 0) (f : Expr × Lexemes → Lexemes → Result (B × Lexemes) Stop) → ((x : Expr × Lexemes) (rest : Lexemes) → Walks behind Nil rest (f x rest))
      → Walks behind (Ended c) xs (p 1 xs >>= λ x. expect c x.1 >>= λ rest. f x rest)
  ended_walk c i xs B f h = then (some_token c) (walks 1 xs (omega arith)) (λ x. mapped (token_walk c i x.1) (λ rest. h x rest))

  pub grouped_walk : (xs : Lexemes) → Walks behind Grouped xs (grouped p xs)
  unfolding grouped
  grouped_walk xs = then (some_seq (some_expr 1 (omega arith)) (some_token (k.Mark m.CloseParen))) (token_walk (k.Mark m.OpenParen) plain_open xs)
      (λ ys. ended_walk (k.Mark m.CloseParen) plain_close ys Expr (λ e rest. Ok (e.0, rest)) (λ e rest. stay _))

  pub next_value_walk : (xs : Lexemes) → kind xs ≡ k.Word w.NextOf → Walks behind (E 12) xs (next_value p xs)
  unfolding next_value
  next_value_walk xs e = widen next_in (skipping xs (word w.NextOf) e (mapped (grouped_walk (next xs)) (λ x. stay _)))

  pub exprs_walk : (xs : Lexemes) → Walks behind (Any ReadsExprs) xs (exprs p xs)
  unfolding exprs
  exprs_walk xs = widen exprs_in (separated_walk (k.Mark m.Comma) (mark m.Comma) (p 1) (Reads 1) (λ ys. walks 1 ys (omega arith)) (some_expr 1 (omega arith)) (length xs) [] xs)

  pub set_walk : (xs : Lexemes) → kind xs ≡ k.Mark m.OpenBrace → Walks behind (E 12) xs (set p xs)
  unfolding set
  set_walk xs e = widen set_in (skipping xs (mark m.OpenBrace) e (then (some_token (k.Mark m.CloseBrace)) (exprs_walk (next xs)) (λ es. mapped (token_walk (k.Mark m.CloseBrace) (mark m.CloseBrace) es.1) (λ rest. stay _))))

  pub branch_walk : (xs : Lexemes) → Walks behind (Any ReadsBranch) xs (branch p xs)
  unfolding branch
  branch_walk xs = widen branch_in (then (some_seq (some_token (k.Mark m.Colon)) (some_seq (some_expr 1 (omega arith)) (some_token (k.Mark m.Semicolon)))) (walks 1 xs (omega arith))
      (λ g. then (some_seq (some_expr 1 (omega arith)) (some_token (k.Mark m.Semicolon))) (token_walk (k.Mark m.Colon) (mark m.Colon) g.1)
      (λ ys. then (some_token (k.Mark m.Semicolon)) (walks 1 ys (omega arith)) (λ x. mapped (token_walk (k.Mark m.Semicolon) (mark m.Semicolon) x.1) (λ rest. stay _)))))

  pub after_branch_walk : (n : ℕ) (found : List Branch) (b : Branch × Lexemes) → ((found : List Branch) (xs : Lexemes) → Walks behind Branches xs (branches p n found xs))
      → Walks behind (Or Esac Branches) b.1 (cond (same (kind b.1) (k.Word w.Esac)) (Ok (found ++ b.0 ∷ [], next b.1)) (branches p n (found ++ b.0 ∷ []) b.1))
  after_branch_walk n found b goes = choose (same (kind b.1) (k.Word w.Esac))
      (λ e. widen esac (skipping b.1 (word w.Esac) (same_is (kind b.1) (k.Word w.Esac) e) (stay _)))
      (λ e. widen (λ us ys h. Or.right h) (goes (found ++ b.0 ∷ []) b.1))
    where
      esac : (us ys : Lexemes) → Seq Esac Nil us ys → Or Esac Branches us ys
      esac us ys (Seq.seq t Nil.nil) = Or.left t

  pub branches_walk : (n : ℕ) (found : List Branch) (xs : Lexemes) → Walks behind Branches xs (branches p n found xs)
  unfolding branches
  branches_walk zero found xs = refused xs some_branches
  branches_walk (suc n) found xs = widen branches_in (then (some_left (some_token (k.Word w.Esac))) (branch_walk xs) (λ b. after_branch_walk n found b (branches_walk n)))

  pub choice_walk : (xs : Lexemes) → kind xs ≡ k.Word w.Case → Walks behind (E 12) xs (choice p xs)
  unfolding choice
  choice_walk xs e = widen choice_in (skipping xs (word w.Case) e (mapped (branches_walk (length xs) [] (next xs)) (λ bs. stay _)))

  pub until_walk : (op : Op2) (xs : Lexemes) → until_of (kind xs) ≡ some op → Walks behind (E 12) xs (until p op xs)
  unfolding until
  until_walk op xs e = widen until_in (skipping xs plain_until (op, e)
      (then (some_seq (some_expr 1 (omega arith)) (some_seq (some_token (k.Word w.U)) (some_seq (some_expr 1 (omega arith)) (some_token (k.Mark m.CloseBracket))))) (token_walk (k.Mark m.OpenBracket) (mark m.OpenBracket) (next xs))
      (λ ys. then (some_seq (some_token (k.Word w.U)) (some_seq (some_expr 1 (omega arith)) (some_token (k.Mark m.CloseBracket)))) (walks 1 ys (omega arith))
      (λ a. then (some_seq (some_expr 1 (omega arith)) (some_token (k.Mark m.CloseBracket))) (token_walk (k.Word w.U) (word w.U) a.1)
      (λ zs. then (some_token (k.Mark m.CloseBracket)) (walks 1 zs (omega arith)) (λ b. mapped (token_walk (k.Mark m.CloseBracket) (mark m.CloseBracket) b.1) (λ rest. stay _)))))))

  literal_walk : (xs : Lexemes) (b : Bool) (e : Expr) → truth (kind xs) ≡ some b → Walks behind (E 12) xs (Ok (e, next xs))
  literal_walk xs b e is = widen literal_in (skipping xs plain_truth (b, is) (stay _))

  pub primary_by_walk : (xs : Lexemes) (c : Terminal) → kind xs ≡ c → Walks behind (E 12) xs (primary_by p c xs)
  primary_by_walk xs k.Name e = widen path_in (path_expr_walk xs)
  primary_by_walk xs k.Number e = ranged_walk xs
  primary_by_walk xs (k.Mark m.Minus) e = choose (same (kind (next xs)) k.Number) (λ f. ranged_walk xs) (λ f. negated_walk xs e (differs (kind (next xs)) k.Number f))
  primary_by_walk xs (k.Mark m.OpenParen) e = widen grouped_in (grouped_walk xs)
  primary_by_walk xs (k.Mark m.OpenBrace) e = set_walk xs e
  primary_by_walk xs (k.Word w.True) e = literal_walk xs true _ (ap truth e)
  primary_by_walk xs (k.Word w.False) e = literal_walk xs false _ (ap truth e)
  primary_by_walk xs (k.Word w.Case) e = choice_walk xs e
  primary_by_walk xs (k.Word w.NextOf) e = next_value_walk xs e
  primary_by_walk xs (k.Word w.A) e = until_walk op2.Au xs (ap until_of e)
  primary_by_walk xs (k.Word w.E) e = until_walk op2.Eu xs (ap until_of e)
  primary_by_walk xs _ e = refused xs (some_expr 12 (omega arith))

  pub level_walk : (l : ℕ) → l ≤ 12 → (xs : Lexemes) → Walks behind (E l) xs (level p l xs)
  unfolding level prefixed primary
  level_walk l le xs =
      let P : Parser Expr → Type 0 = λ f. Walks behind (E l) xs (f xs) in
      cond_both (eqb l 1) (implication p) (cond (eqb l 5) (prefixed p) (cond (eqb l 12) (primary p) (chain p l))) P
      (λ e. subst (λ (i : ℕ). Walks behind (E i) xs (implication p xs)) (sym (eqb-true l 1 e)) (implication_walk xs))
      (λ _. cond_both (eqb l 5) (prefixed p) (cond (eqb l 12) (primary p) (chain p l)) P
      (λ e. subst (λ (i : ℕ). Walks behind (E i) xs (prefixed p xs)) (sym (eqb-true l 5 e)) (prefixed_by_walk xs (prefix (kind xs)) refl))
      (λ _. cond_both (eqb l 12) (primary p) (chain p l) P
      (λ e. subst (λ (i : ℕ). Walks behind (E i) xs (primary p xs)) (sym (eqb-true l 12 e)) (primary_by_walk xs (kind xs) refl))
      (λ e. let other : l ≢ 12 = eqb-false l 12 e in chain_walk l (omega arith) xs)))

pub expr_walk : (depth l : ℕ) (xs : Lexemes) → l ≤ 12 → Walks behind (E l) xs (expr depth l xs)
unfolding expr
expr_walk zero l xs le = refused xs (some_expr l le)
expr_walk (suc depth) l xs le = level_walk (expr depth) (λ i ys. expr_walk depth i ys) l le xs

pub whole_expr_walk : (xs : Lexemes) → Walks behind (E 1) xs (whole_expr xs)
unfolding whole_expr
whole_expr_walk xs = expr_walk (13 * length xs + 13) 1 xs (omega arith)

pub whole_exprs_walk : (xs : Lexemes) → Walks behind (Any ReadsExprs) xs (whole_exprs xs)
unfolding whole_exprs
whole_exprs_walk xs = widen exprs_in (separated_walk (k.Mark m.Comma) (mark m.Comma) whole_expr (Reads 1) whole_expr_walk (some_expr 1 (omega arith)) (length xs) [] xs)
