-- What the grammar reads as an expression, the function reads, where the lexemes after it cannot go on with it.
use Rattle.std.proofs.Common.{◌≡◌, ◌≢◌, ℕ, zero, suc, ◌+◌, ◌*◌, ◌<◌, ◌≤◌, Bool, true, false, cond, eqb, List, [], ◌∷◌, ◌++◌, length, Option, Some, None, Ok, inl, inr, refl, sym, ap, subst, ◌∙◌, arith, append_assoc, add-one}
use Rattle.std.specs.Prelude.{◌&&◌, ◌||◌, is_some, ℤ}
use Rattle.std.proofs.lemmas.Bool.{eq-eqb, cases_lt}
use Rattle.std.proofs.lemmas.Bool.Decides.{eqb_tells}
use Rattle.cov_syntax.specs.declared.lexeme.Lexeme.{Lexeme}
use Rattle.cov_syntax.specs.declared.lexeme.Terminal.{Terminal}
use Rattle.cov_syntax.specs.declared.lexeme.Terminal.TheVariants as k
use Rattle.cov_syntax.specs.declared.marks.Mark.TheVariants as m
use Rattle.cov_syntax.specs.declared.words.Word.TheVariants as w
use Rattle.cov_syntax.specs.declared.tree.Branch.{Branch, roll-Branch}
use Rattle.cov_syntax.specs.declared.tree.Expr.{Expr}
use Rattle.cov_syntax.specs.declared.tree.Node.TheVariants as n
use Rattle.cov_syntax.specs.declared.tree.Op1.{Op1}
use Rattle.cov_syntax.specs.declared.tree.Op1.TheVariants as op1
use Rattle.cov_syntax.specs.declared.tree.Op2.{Op2}
use Rattle.cov_syntax.specs.declared.tree.Op2.TheVariants as op2
use Rattle.cov_syntax.specs.declared.tree.Value.TheVariants as values
use Rattle.cov_syntax.specs.Lexemes.{Lexemes, kind, next, at, left, prefix, equality, until_of, truth}
use Rattle.cov_syntax.specs.Reading.{ReadsSeparated, ReadsInt, ReadsPath, Reads, ReadsExprs, ReadsBranches, ReadsBranch}
use Rattle.cov_syntax.specs.Reading.{Reads as r}
use Rattle.cov_syntax.specs.Reading.{ReadsExprs.last_expr, ReadsExprs.more_exprs, ReadsBranches.last_branch, ReadsBranches.more_branches, ReadsBranch.branch}
use Rattle.cov_grammar.specs.Steps.{Parser, ◌>>=◌, separated}
use Rattle.cov_grammar.specs.Expressions as f
use Rattle.cov_grammar.specs.Expressions.{at_level, ends_comparison, joint, turn, climb, expr}
use Rattle.cov_grammar.proofs.StepLemmas.{same_at, not_same}
use Rattle.cov_grammar.proofs.ListCompleteness.{expects, int_answers, int_shorter, path_answers, path_shorter, path_first, separated_answers}

-- ---- the lexemes that are read are at least one

mutual
  pub shorter : {l : ℕ} {xs ys : Lexemes} {e : Expr} → Reads l xs e ys → length ys < length xs
  shorter (r.tighter lt p) = shorter p
  shorter (r.implies e p q) = let a = shorter p in let b = shorter q in omega arith
  shorter (r.binary e p q) = let a = shorter p in let b = shorter q in omega arith
  shorter (r.prefixed e p) = let a = shorter p in omega arith
  shorter (r.compared e g p q) = let a = shorter p in let b = shorter q in omega arith
  shorter (r.integer p) = int_shorter p
  shorter (r.range e p q) = let a = int_shorter p in let b = int_shorter q in omega arith
  shorter (r.negated e h p) = let a = shorter p in omega arith
  shorter (r.literal e) = omega arith
  shorter (r.path p) = path_shorter p
  shorter (r.grouped e g p) = let a = shorter p in omega arith
  shorter (r.set e g p) = let a = shorter_exprs p in omega arith
  shorter (r.choice e g p) = let a = shorter_branches p in omega arith
  shorter (r.next_value e g h p) = let a = shorter p in omega arith
  shorter (r.until e g h i p q) = let a = shorter p in let b = shorter q in omega arith

  pub shorter_exprs : {xs ys : Lexemes} {es : List Expr} → ReadsExprs xs es ys → length ys < length xs
  shorter_exprs (last_expr p) = shorter p
  shorter_exprs (more_exprs e p q) = let a = shorter p in let b = shorter_exprs q in omega arith

  shorter_branches : {xs ys : Lexemes} {bs : List Branch} → ReadsBranches xs bs ys → length ys < length xs
  shorter_branches (last_branch p) = shorter_branch p
  shorter_branches (more_branches p q) = let a = shorter_branch p in let b = shorter_branches q in omega arith

  shorter_branch : {xs ys : Lexemes} {b : Branch} → ReadsBranch xs b ys → length ys < length xs
  shorter_branch (branch e g p q) = let a = shorter p in let b = shorter q in omega arith

-- ---- the first lexeme

-- whether a primary expression begins with it
abbrev pub begins_primary : Terminal → Bool
begins_primary k.Name = true
begins_primary k.Number = true
begins_primary (k.Mark m.Minus) = true
begins_primary (k.Mark m.OpenParen) = true
begins_primary (k.Mark m.OpenBrace) = true
begins_primary (k.Word w.True) = true
begins_primary (k.Word w.False) = true
begins_primary (k.Word w.Case) = true
begins_primary (k.Word w.NextOf) = true
begins_primary (k.Word w.A) = true
begins_primary (k.Word w.E) = true
begins_primary _ = false

-- whether an expression begins with it
abbrev pub begins_expr : Terminal → Bool
begins_expr c = begins_primary c || is_some (prefix c)

primary_no_prefix : (c : Terminal) → begins_primary c ≡ true → prefix c ≡ None
primary_no_prefix k.Name e = refl
primary_no_prefix k.Number e = refl
primary_no_prefix (k.Mark m.Minus) e = refl
primary_no_prefix (k.Mark m.OpenParen) e = refl
primary_no_prefix (k.Mark m.OpenBrace) e = refl
primary_no_prefix (k.Word w.True) e = refl
primary_no_prefix (k.Word w.False) e = refl
primary_no_prefix (k.Word w.Case) e = refl
primary_no_prefix (k.Word w.NextOf) e = refl
primary_no_prefix (k.Word w.A) e = refl
primary_no_prefix (k.Word w.E) e = refl
primary_no_prefix _ e = absurd cc

truth_begins : (c : Terminal) (b : Bool) → truth c ≡ Some b → begins_primary c ≡ true
truth_begins (k.Word w.True) b e = refl
truth_begins (k.Word w.False) b e = refl
truth_begins _ b e = absurd cc

until_begins : (c : Terminal) (op : Op2) → until_of c ≡ Some op → begins_primary c ≡ true
until_begins (k.Word w.A) op e = refl
until_begins (k.Word w.E) op e = refl
until_begins _ op e = absurd cc

int_begins : {xs ys : Lexemes} {i : ℤ} → ReadsInt xs i ys → begins_primary (kind xs) ≡ true
int_begins (ReadsInt.plain e le) = ap begins_primary e
int_begins (ReadsInt.minus e f le) = ap begins_primary e

-- from the comparisons on an expression begins as a primary one does
begins : {l : ℕ} {xs ys : Lexemes} {e : Expr} → Reads l xs e ys → 6 ≤ l → begins_primary (kind xs) ≡ true
begins (r.tighter lt p) le = begins p (omega arith)
begins (r.implies e p q) le = absurd (omega arith)
begins (r.binary e p q) le = begins p le
begins (r.prefixed e p) le = absurd (omega arith)
begins (r.compared e g p q) le = absurd (omega arith)
begins (r.integer p) le = int_begins p
begins (r.range e p q) le = int_begins p
begins (r.negated e h p) le = ap begins_primary e
begins (r.literal e) le = truth_begins _ _ e
begins (r.path p) le = ap begins_primary (path_first p)
begins (r.grouped e g p) le = ap begins_primary e
begins (r.set e g p) le = ap begins_primary e
begins (r.choice e g p) le = ap begins_primary e
begins (r.next_value e g h p) le = ap begins_primary e
begins (r.until e g h i p q) le = until_begins _ _ e

no_prefix : {l : ℕ} {xs ys : Lexemes} {e : Expr} → Reads l xs e ys → 6 ≤ l → prefix (kind xs) ≡ None
no_prefix {xs = xs} p le = primary_no_prefix (kind xs) (begins p le)

or_left : (a b : Bool) → a ≡ true → (a || b) ≡ true
or_left a b e = ap (λ c. c || b) e

prefix_begins : (c : Terminal) (op : Op1) → prefix c ≡ Some op → begins_expr c ≡ true
prefix_begins c op e = ap (λ (o : Option Op1). begins_primary c || is_some o) e ∙ or_true (begins_primary c)
  where
    or_true : (a : Bool) → (a || true) ≡ true
    or_true true = refl
    or_true false = refl

pub first : {l : ℕ} {xs ys : Lexemes} {e : Expr} → Reads l xs e ys → begins_expr (kind xs) ≡ true
first (r.tighter lt p) = first p
first (r.implies e p q) = first p
first (r.binary e p q) = first p
first (r.prefixed e p) = prefix_begins _ _ e
first (r.compared e g p q) = first p
first (r.integer {xs = xs} p) = or_left _ (is_some (prefix (kind xs))) (int_begins p)
first (r.range {xs = xs} e p q) = or_left _ (is_some (prefix (kind xs))) (int_begins p)
first (r.negated e h p) = ap begins_expr e
first (r.literal {t = t} e) = or_left _ (is_some (prefix t.kind)) (truth_begins _ _ e)
first (r.path p) = ap begins_expr (path_first p)
first (r.grouped e g p) = ap begins_expr e
first (r.set e g p) = ap begins_expr e
first (r.choice e g p) = ap begins_expr e
first (r.next_value e g h p) = ap begins_expr e
first (r.until {t = t} e g h i p q) = or_left _ (is_some (prefix t.kind)) (until_begins _ _ e)

pub first_exprs : {xs ys : Lexemes} {es : List Expr} → ReadsExprs xs es ys → begins_expr (kind xs) ≡ true
first_exprs (last_expr p) = first p
first_exprs (more_exprs e p q) = first p

-- an expression begins with no such lexeme
pub is_other : {c d : Terminal} → begins_expr c ≡ true → begins_expr d ≡ false → c ≢ d
is_other {c} {d} e f h = let g : begins_expr c ≡ begins_expr d = ap begins_expr h in cc

branches_first : {xs ys : Lexemes} {bs : List Branch} → ReadsBranches xs bs ys → begins_expr (kind xs) ≡ true
branches_first (last_branch (branch e g p q)) = first p
branches_first (more_branches (branch e g p q) rest) = first p

-- ---- where an expression ends

-- no lexeme goes on with an expression of the level
pub record Stops (l : ℕ) (ys : Lexemes) : Type 0 where
  pub joints : (m : ℕ) → l ≤ m → joint m ys ≡ None
  pub compared : l ≤ 5 → ends_comparison ys ≡ false
  pub implied : l ≤ 1 → kind ys ≢ k.Mark m.Implies
  pub dot : kind ys ≢ k.Mark m.Dot
  pub dots : kind ys ≢ k.Mark m.Dots

stops_suc : {l : ℕ} {ys : Lexemes} → Stops l ys → Stops (suc l) ys
stops_suc s = record { joints = λ m le. s.joints m (omega arith); compared = λ le. s.compared (omega arith); implied = λ le. s.implied (omega arith); dot = s.dot; dots = s.dots }

abbrev nothing_found : Option Op2
nothing_found = None

cond_none : (b : Bool) → cond b nothing_found nothing_found ≡ nothing_found
cond_none true = refl
cond_none false = refl

joint_none : (m : ℕ) (xs : Lexemes) → left (kind xs) ≡ None → joint m xs ≡ None
unfolding joint
joint_none m xs e = ap (λ o. cond (ends_comparison xs) None (at_level m o)) e ∙ cond_none (ends_comparison xs)

no_end : (xs : Lexemes) → equality (kind xs) ≡ None → ends_comparison xs ≡ false
no_end xs e = ap (λ (o : Option Op2). is_some o && is_some (prefix (kind (next xs)))) e

-- whether a lexeme ends every expression
abbrev pub ends : Terminal → Bool
ends k.Nothing = true
ends (k.Mark m.CloseParen) = true
ends (k.Mark m.CloseBrace) = true
ends (k.Mark m.CloseBracket) = true
ends (k.Mark m.Comma) = true
ends (k.Mark m.Semicolon) = true
ends (k.Mark m.Colon) = true
ends (k.Word w.U) = true
ends (k.Word w.Module) = true
ends (k.Word w.Var) = true
ends (k.Word w.Assign) = true
ends (k.Word w.Define) = true
ends (k.Word w.Trans) = true
ends (k.Word w.Init) = true
ends (k.Word w.Invar) = true
ends (k.Word w.Fairness) = true
ends (k.Word w.Justice) = true
ends (k.Word w.Spec) = true
ends (k.Word w.CtlSpec) = true
ends _ = false

-- no operator, dot or dots
record IsEnd (c : Terminal) : Type 0 where
  no_left : left c ≡ None
  no_equality : equality c ≡ None
  no_arrow : c ≢ k.Mark m.Implies
  no_dot : c ≢ k.Mark m.Dot
  no_dots : c ≢ k.Mark m.Dots

end_is : (c : Terminal) → ends c ≡ true → IsEnd c
end_is k.Nothing e = record { no_left = refl; no_equality = refl; no_arrow = λ h. cc; no_dot = λ h. cc; no_dots = λ h. cc }
end_is (k.Mark m.CloseParen) e = record { no_left = refl; no_equality = refl; no_arrow = λ h. cc; no_dot = λ h. cc; no_dots = λ h. cc }
end_is (k.Mark m.CloseBrace) e = record { no_left = refl; no_equality = refl; no_arrow = λ h. cc; no_dot = λ h. cc; no_dots = λ h. cc }
end_is (k.Mark m.CloseBracket) e = record { no_left = refl; no_equality = refl; no_arrow = λ h. cc; no_dot = λ h. cc; no_dots = λ h. cc }
end_is (k.Mark m.Comma) e = record { no_left = refl; no_equality = refl; no_arrow = λ h. cc; no_dot = λ h. cc; no_dots = λ h. cc }
end_is (k.Mark m.Semicolon) e = record { no_left = refl; no_equality = refl; no_arrow = λ h. cc; no_dot = λ h. cc; no_dots = λ h. cc }
end_is (k.Mark m.Colon) e = record { no_left = refl; no_equality = refl; no_arrow = λ h. cc; no_dot = λ h. cc; no_dots = λ h. cc }
end_is (k.Word w.Mod) e = absurd cc
end_is (k.Word w.Union) e = absurd cc
end_is (k.Word w.In) e = absurd cc
end_is (k.Word w.Xor) e = absurd cc
end_is (k.Word _) e = record { no_left = refl; no_equality = refl; no_arrow = λ h. cc; no_dot = λ h. cc; no_dots = λ h. cc }
end_is _ e = absurd cc

-- a lexeme that ends every expression
pub stops_at : (ys : Lexemes) → ends (kind ys) ≡ true → Stops 1 ys
stops_at ys e =
    let c = end_is (kind ys) e in
    record { joints = λ m le. joint_none m ys c.no_left; compared = λ le. no_end ys c.no_equality; implied = λ le. c.no_arrow; dot = c.no_dot; dots = c.no_dots }

-- a given one
stops_mark : {c : Terminal} (t : Lexeme) (ys : Lexemes) → t.kind ≡ c → ends c ≡ true → Stops 1 (t ∷ ys)
stops_mark t ys e g = stops_at (t ∷ ys) (ap ends e ∙ g)

stops_arrow : (t : Lexeme) (ys : Lexemes) → t.kind ≡ k.Mark m.Implies → Stops 2 (t ∷ ys)
stops_arrow t ys e = record {
  joints = λ m le. joint_none m (t ∷ ys) (ap left e);
  compared = λ le. no_end (t ∷ ys) (ap equality e);
  implied = λ le. absurd (omega arith);
  dot = λ h. cc;
  dots = λ h. cc;
}

equality_plain : (c : Terminal) (op : Op2) → equality c ≡ Some op → (c ≢ k.Mark m.Dot) × (c ≢ k.Mark m.Dots)
equality_plain (k.Mark m.Equal) op e = (λ h. cc, λ h. cc)
equality_plain (k.Mark m.NotEqual) op e = (λ h. cc, λ h. cc)
equality_plain _ op e = absurd cc

stops_ended : {op : Op2} (t : Lexeme) (ys : Lexemes) → equality t.kind ≡ Some op → ends_comparison (t ∷ ys) ≡ true → Stops 6 (t ∷ ys)
unfolding joint
stops_ended {op} t ys g e = record {
  joints = λ m le. ap (λ b. cond b None (at_level m (left t.kind))) e;
  compared = λ le. absurd (omega arith);
  implied = λ le. absurd (omega arith);
  dot = (equality_plain t.kind op g).0;
  dots = (equality_plain t.kind op g).1;
}

-- what the table of the operators says of a level
record IsOperator (c : Terminal) (l : ℕ) : Type 0 where
  low : 1 < l
  high : l < 12
  other : l ≢ 5
  early : l ≤ 4 → equality c ≡ None
  plain : c ≢ k.Mark m.Implies
  no_dot : c ≢ k.Mark m.Dot
  no_dots : c ≢ k.Mark m.Dots

level_in : Option (ℕ × Op2) → ℕ
level_in None = 0
level_in (Some p) = p.0

early_row : {c : Terminal} {l : ℕ} (n : ℕ) → n ≡ l → 1 < n → n < 12 → n ≢ 5 → equality c ≡ None → c ≢ k.Mark m.Implies → c ≢ k.Mark m.Dot → c ≢ k.Mark m.Dots → IsOperator c l
early_row n is low high other none plain no_dot no_dots =
    record { low = omega arith; high = omega arith; other = omega arith; early = λ le. none; plain = plain; no_dot = no_dot; no_dots = no_dots }

late_row : {c : Terminal} {l : ℕ} → 6 ≡ l → c ≢ k.Mark m.Implies → c ≢ k.Mark m.Dot → c ≢ k.Mark m.Dots → IsOperator c l
late_row is plain no_dot no_dots =
    record { low = omega arith; high = omega arith; other = omega arith; early = λ le. absurd (omega arith); plain = plain; no_dot = no_dot; no_dots = no_dots }

table : (c : Terminal) (l : ℕ) (op : Op2) → left c ≡ Some (l, op) → IsOperator c l
unfolding level_in
table (k.Mark m.Iff) l op e = early_row 2 (ap level_in e) (omega arith) (omega arith) (omega arith) refl (λ h. cc) (λ h. cc) (λ h. cc)
table (k.Mark m.Or) l op e = early_row 3 (ap level_in e) (omega arith) (omega arith) (omega arith) refl (λ h. cc) (λ h. cc) (λ h. cc)
table (k.Word w.Xor) l op e = early_row 3 (ap level_in e) (omega arith) (omega arith) (omega arith) refl (λ h. cc) (λ h. cc) (λ h. cc)
table (k.Mark m.And) l op e = early_row 4 (ap level_in e) (omega arith) (omega arith) (omega arith) refl (λ h. cc) (λ h. cc) (λ h. cc)
table (k.Mark m.Equal) l op e = late_row (ap level_in e) (λ h. cc) (λ h. cc) (λ h. cc)
table (k.Mark m.NotEqual) l op e = late_row (ap level_in e) (λ h. cc) (λ h. cc) (λ h. cc)
table (k.Mark m.Less) l op e = late_row (ap level_in e) (λ h. cc) (λ h. cc) (λ h. cc)
table (k.Mark m.LessEqual) l op e = late_row (ap level_in e) (λ h. cc) (λ h. cc) (λ h. cc)
table (k.Mark m.Greater) l op e = late_row (ap level_in e) (λ h. cc) (λ h. cc) (λ h. cc)
table (k.Mark m.GreaterEqual) l op e = late_row (ap level_in e) (λ h. cc) (λ h. cc) (λ h. cc)
table (k.Word w.In) l op e = early_row 7 (ap level_in e) (omega arith) (omega arith) (omega arith) refl (λ h. cc) (λ h. cc) (λ h. cc)
table (k.Word w.Union) l op e = early_row 8 (ap level_in e) (omega arith) (omega arith) (omega arith) refl (λ h. cc) (λ h. cc) (λ h. cc)
table (k.Word w.Mod) l op e = early_row 9 (ap level_in e) (omega arith) (omega arith) (omega arith) refl (λ h. cc) (λ h. cc) (λ h. cc)
table (k.Mark m.Plus) l op e = early_row 10 (ap level_in e) (omega arith) (omega arith) (omega arith) refl (λ h. cc) (λ h. cc) (λ h. cc)
table (k.Mark m.Minus) l op e = early_row 10 (ap level_in e) (omega arith) (omega arith) (omega arith) refl (λ h. cc) (λ h. cc) (λ h. cc)
table (k.Mark m.Star) l op e = early_row 11 (ap level_in e) (omega arith) (omega arith) (omega arith) refl (λ h. cc) (λ h. cc) (λ h. cc)
table (k.Mark m.Slash) l op e = early_row 11 (ap level_in e) (omega arith) (omega arith) (omega arith) refl (λ h. cc) (λ h. cc) (λ h. cc)
table _ l op e = absurd cc

not_eqb : (a b : ℕ) → a ≢ b → eqb a b ≡ false
not_eqb a b h = elim (eqb_tells a b) [ inl s ↦ absurd (h s.1) | inr s ↦ s.0 ]

at_other : (m l : ℕ) (op : Op2) → m ≢ l → at_level m (Some (l, op)) ≡ None
at_other m l op h = ap (λ b. cond b (Some op) None) (not_eqb m l h)

stops_operator : {l : ℕ} {op : Op2} (t : Lexeme) (ys : Lexemes) → left t.kind ≡ Some (l, op) → Stops (suc l) (t ∷ ys)
unfolding joint
stops_operator {l} {op} t ys e =
    let o = table t.kind l op e in
    record {
      joints = λ m le. ap (λ x. cond (ends_comparison (t ∷ ys)) None (at_level m x)) e ∙ ap (λ x. cond (ends_comparison (t ∷ ys)) None x) (at_other m l op (omega arith)) ∙ cond_none (ends_comparison (t ∷ ys));
      compared = λ le. no_end (t ∷ ys) (o.early (omega arith));
      implied = λ le. o.plain;
      dot = o.no_dot;
      dots = o.no_dots;
    }

-- an operator before an operand of a tighter level
not_ended : {l : ℕ} {op : Op2} (t : Lexeme) (ys : Lexemes) → left t.kind ≡ Some (l, op) → (6 ≤ suc l → prefix (kind ys) ≡ None) → ends_comparison (t ∷ ys) ≡ false
not_ended {l} {op} t ys e h = elim (cases_lt l 5) [
  | inr le ↦ go (is_some (equality t.kind)) (prefix (kind ys)) (h (omega arith))
  | inl lt ↦ let o = table t.kind l op e in no_end (t ∷ ys) (o.early (omega arith))
]
  where
    go : (b : Bool) (o : Option Op1) → o ≡ None → (b && is_some o) ≡ false
    go true o g = ap is_some g
    go false o g = refl

joint_is : {l : ℕ} {op : Op2} (t : Lexeme) (ys : Lexemes) → left t.kind ≡ Some (l, op) → ends_comparison (t ∷ ys) ≡ false → joint l (t ∷ ys) ≡ Some op
unfolding joint
joint_is {l} {op} t ys e h =
    ap (λ b. cond b None (at_level l (left t.kind))) h ∙ ap (λ o. at_level l o) e ∙ ap (λ b. cond b (Some op) None) (eq-eqb l l refl)

-- ---- answers

-- with enough depth the function reads it
pub record Answers (l : ℕ) (xs : Lexemes) (e : Expr) (ys : Lexemes) : Type 0 where
  pub by : (depth : ℕ) → 13 * length xs + 13 ≤ depth + l → expr depth l xs ≡ Ok (e, ys)

answer_by : {l : ℕ} {xs ys : Lexemes} {e : Expr} → l ≤ 12 → ((depth : ℕ) → 13 * length xs + 12 ≤ depth + l → expr (suc depth) l xs ≡ Ok (e, ys)) → Answers l xs e ys
answer_by {l} {xs} {ys} {e} le h = record { by = go }
  where
    go : (depth : ℕ) → 13 * length xs + 13 ≤ depth + l → expr depth l xs ≡ Ok (e, ys)
    go zero enough = absurd (omega arith)
    go (suc depth) enough = h depth (omega arith)

-- the loop of a level comes to the place after it
record Climbs (l : ℕ) (xs : Lexemes) (e : Expr) (ys : Lexemes) : Type 0 where
  by : (depth : ℕ) → 13 * length xs + 12 ≤ depth + l → (m : ℕ) × (length ys ≤ m) × (f.chain (expr depth) l xs ≡ climb (expr depth) m l xs e ys)

record IsChain (l : ℕ) : Type 0 where
  not1 : l ≢ 1
  not5 : l ≢ 5
  not12 : l ≢ 12

level_chain : (p : ℕ → Parser Expr) (l : ℕ) → IsChain l → f.level p l ≡ f.chain p l
unfolding f.level
level_chain p l c = rw (not_eqb l 1 c.not1, not_eqb l 5 c.not5, not_eqb l 12 c.not12) refl

answer_suc : {l : ℕ} {xs ys : Lexemes} {e : Expr} → Answers (suc l) xs e ys → (depth : ℕ) → 13 * length xs + 12 ≤ depth + l → expr depth (l + 1) xs ≡ Ok (e, ys)
answer_suc {l} {xs} {ys} {e} a depth le = rw add-one (a.by depth (omega arith))

climbs_first : {l : ℕ} {xs ys : Lexemes} {e : Expr} → Answers (suc l) xs e ys → Climbs l xs e ys
unfolding f.chain
climbs_first {l} {xs} {ys} {e} a =
    record { by = λ depth le. (length ys, omega arith, ap (λ x. x >>= λ b. climb (expr depth) (length b.1) l xs b.0 b.1) (answer_suc a depth le)) }

climb_step : (depth m l : ℕ) (op : Op2) (xs : Lexemes) (a : Expr) (t : Lexeme) (ys : Lexemes) (b : Expr) (zs : Lexemes) → joint l (t ∷ ys) ≡ Some op → expr depth (l + 1) ys ≡ Ok (b, zs)
    → climb (expr depth) (suc m) l xs a (t ∷ ys) ≡ climb (expr depth) m l xs (at (n.Two op a b) xs zs) zs
unfolding climb
climb_step depth m l op xs a t ys b zs e g =
    ap (λ o. turn (expr depth) (climb (expr depth) m l xs) l xs a (t ∷ ys) o) e
    ∙ ap (λ x. x >>= λ c. climb (expr depth) m l xs (at (n.Two op a c.0) xs c.1) c.1) g

climbs_more : {l : ℕ} {op : Op2} {xs ys zs : Lexemes} {t : Lexeme} {a b : Expr} → l ≤ 12 → left t.kind ≡ Some (l, op) → ends_comparison (t ∷ ys) ≡ false
    → length (t ∷ ys) < length xs → length zs < length ys → Climbs l xs a (t ∷ ys) → Answers (suc l) ys b zs → Climbs l xs (at (n.Two op a b) xs zs) zs
climbs_more {l} {op} {xs} {ys} {zs} {t} {a} {b} le e h less second c d = record { by = λ depth enough. let q = c.by depth enough in go depth enough q.0 q.1 q.2 }
  where
    go : (depth : ℕ) → 13 * length xs + 12 ≤ depth + l → (m : ℕ) → length (t ∷ ys) ≤ m → f.chain (expr depth) l xs ≡ climb (expr depth) m l xs a (t ∷ ys)
        → (m : ℕ) × (length zs ≤ m) × (f.chain (expr depth) l xs ≡ climb (expr depth) m l xs (at (n.Two op a b) xs zs) zs)
    go depth enough zero room is = absurd (omega arith)
    go depth enough (suc m) room is = (m, omega arith, is ∙ climb_step depth m l op xs a t ys b zs (joint_is t ys e h) (answer_suc d depth (omega arith)))

climb_end : (p : ℕ → Parser Expr) (m l : ℕ) (xs : Lexemes) (a : Expr) (ys : Lexemes) → joint l ys ≡ None → climb p m l xs a ys ≡ Ok (a, ys)
unfolding climb
climb_end p zero l xs a ys e = refl
climb_end p (suc m) l xs a ys e = ap (λ o. turn p (climb p m l xs) l xs a ys o) e

climbs_end : {l : ℕ} {xs ys : Lexemes} {e : Expr} → l ≤ 12 → IsChain l → Stops l ys → Climbs l xs e ys → Answers l xs e ys
unfolding expr
climbs_end {l} {xs} {ys} {e} le c s h = answer_by le (λ depth enough.
    let q = h.by depth enough in
    ap (λ (g : Parser Expr). g xs) (level_chain (expr depth) l c) ∙ q.2 ∙ climb_end (expr depth) q.0 l xs e ys (s.joints l (omega arith)))

implies_answers : {xs ys zs : Lexemes} {t : Lexeme} {a b : Expr} → t.kind ≡ k.Mark m.Implies → Answers 2 xs a (t ∷ ys) → length (t ∷ ys) < length xs → Answers 1 ys b zs
    → Answers 1 xs (at (n.Two op2.Implies a b) xs zs) zs
unfolding expr f.level f.implication
implies_answers {t = t} e p less q = answer_by (omega arith) (λ depth enough. rw (p.by depth (omega arith), same_at t.kind (k.Mark m.Implies) e, q.by depth (omega arith)) refl)

prefixed_answers : {op : Op1} {xs ys : Lexemes} {t : Lexeme} {e : Expr} → prefix t.kind ≡ Some op → Answers 5 xs e ys → Answers 5 (t ∷ xs) (at (n.One op e) (t ∷ xs) ys) ys
unfolding expr f.level f.prefixed
prefixed_answers e p = answer_by (omega arith) (λ depth enough. rw (e, p.by depth (omega arith)) refl)

compared_answers : {op : Op2} {pre : Op1} {xs ys zs : Lexemes} {t u : Lexeme} {a b : Expr} → prefix (kind xs) ≡ None → equality t.kind ≡ Some op → prefix u.kind ≡ Some pre
    → Answers 6 xs a (t ∷ u ∷ ys) → length (t ∷ u ∷ ys) < length xs → Answers 5 ys b zs → Answers 5 xs (at (n.Two op a (at (n.One pre b) (u ∷ ys) zs)) xs zs) zs
unfolding expr f.level f.prefixed
compared_answers none e g p less q = answer_by (omega arith) (λ depth enough. rw (none, p.by depth (omega arith), e, g, q.by depth (omega arith)) refl)

-- ---- an operand alone

alone_1 : {xs ys : Lexemes} {e : Expr} → Answers 2 xs e ys → kind ys ≢ k.Mark m.Implies → Answers 1 xs e ys
unfolding expr f.level f.implication
alone_1 {xs} {ys} p h = answer_by (omega arith) (λ depth enough. rw (p.by depth (omega arith), not_same (kind ys) (k.Mark m.Implies) h) refl)

uncompared : (p : ℕ → Parser Expr) (xs : Lexemes) (a : Expr) (ys : Lexemes) (o : Option Op2) (q : Option Op1) → (is_some o && is_some q) ≡ false → f.compared p xs (a, ys) o q ≡ Ok (a, ys)
uncompared p xs a ys None None h = refl
uncompared p xs a ys None (Some pre) h = refl
uncompared p xs a ys (Some op) None h = refl
uncompared p xs a ys (Some op) (Some pre) h = absurd cc

alone_5 : {xs ys : Lexemes} {e : Expr} → prefix (kind xs) ≡ None → Answers 6 xs e ys → ends_comparison ys ≡ false → Answers 5 xs e ys
unfolding expr f.level f.prefixed
alone_5 {xs} {ys} {e} none p h = answer_by (omega arith) (λ depth enough.
    rw (none, p.by depth (omega arith)) (uncompared (expr depth) xs e ys (equality (kind ys)) (prefix (kind (next ys))) h))

tighter_answers : {l : ℕ} {xs ys : Lexemes} {e : Expr} → l < 12 → (6 ≤ suc l → prefix (kind xs) ≡ None) → Answers (suc l) xs e ys → Stops l ys → Answers l xs e ys
tighter_answers {l} {xs} {ys} {e} lt none p s =
    elim (eqb_tells l 1) [
      | inl i ↦ one l i.1 p s
      | inr i ↦ elim (eqb_tells l 5) [
        | inl j ↦ five l j.1 none p s
        | inr j ↦ let c : IsChain l = record { not1 = i.1; not5 = j.1; not12 = omega arith } in climbs_end (omega arith) c s (climbs_first p)
      ]
    ]
  where
    one : (l : ℕ) → l ≡ 1 → Answers (suc l) xs e ys → Stops l ys → Answers l xs e ys
    one l i = subst (λ m. Answers (suc m) xs e ys → Stops m ys → Answers m xs e ys) (sym i) (λ p s. alone_1 p (s.implied (omega arith)))

    five : (l : ℕ) → l ≡ 5 → (6 ≤ suc l → prefix (kind xs) ≡ None) → Answers (suc l) xs e ys → Stops l ys → Answers l xs e ys
    five l i = subst (λ m. (6 ≤ suc m → prefix (kind xs) ≡ None) → Answers (suc m) xs e ys → Stops m ys → Answers m xs e ys) (sym i) (λ none p s. alone_5 (none (omega arith)) p (s.compared (omega arith)))

-- ---- primary expressions

by_kind : {c : Terminal} {t : Lexeme} {xs ys : Lexemes} {e : Expr} → t.kind ≡ c → ((depth : ℕ) → 13 * length (t ∷ xs) ≤ depth → f.primary_by (expr depth) c (t ∷ xs) ≡ Ok (e, ys)) → Answers 12 (t ∷ xs) e ys
unfolding expr f.level f.primary
by_kind {c} {t} {xs} e h = answer_by (omega arith) (λ depth enough. ap (λ d. f.primary_by (expr depth) d (t ∷ xs)) e ∙ h depth (omega arith))

-- an integer or a range
ranged_answers : {i : ℤ} {xs ys : Lexemes} (e : Expr) (zs : Lexemes) → ReadsInt xs i ys → f.ranged xs ≡ Ok (e, zs) → Answers 12 xs e zs
ranged_answers e zs (ReadsInt.plain g le) is = by_kind g (λ depth enough. is)
ranged_answers e zs (ReadsInt.minus {xs = xs} {t = t} {u = u} g h le) is =
    by_kind g (λ depth enough. ap (λ b. cond b (f.ranged (t ∷ u ∷ xs)) (f.negated (expr depth) (t ∷ u ∷ xs))) (same_at u.kind k.Number h) ∙ is)

integer_is : {i : ℤ} {xs ys : Lexemes} → ReadsInt xs i ys → kind ys ≢ k.Mark m.Dots → f.ranged xs ≡ Ok (at (n.Lit (values.Int i)) xs ys, ys)
unfolding f.ranged
integer_is {ys = ys} p h = rw (int_answers p, not_same (kind ys) (k.Mark m.Dots) h) refl

range_is : {i j : ℤ} {xs ys zs : Lexemes} {t : Lexeme} → t.kind ≡ k.Mark m.Dots → ReadsInt xs i (t ∷ ys) → ReadsInt ys j zs → f.ranged xs ≡ Ok (at (n.Range i j) xs zs, zs)
unfolding f.ranged
range_is {t = t} e p q = rw (int_answers p, same_at t.kind (k.Mark m.Dots) e, int_answers q) refl

negated_answers : {xs ys : Lexemes} {t : Lexeme} {e : Expr} → t.kind ≡ k.Mark m.Minus → kind xs ≢ k.Number → Answers 12 xs e ys → Answers 12 (t ∷ xs) (at (n.One op1.Neg e) (t ∷ xs) ys) ys
unfolding f.negated
negated_answers {xs} {t = t} e h p = by_kind e (λ depth enough. rw (not_same (kind xs) k.Number h, p.by depth (omega arith)) refl)

truth_answers : {b : Bool} {xs : Lexemes} {t : Lexeme} → truth t.kind ≡ Some b → Answers 12 (t ∷ xs) (at (n.Lit (values.Bool b)) (t ∷ xs) xs) xs
truth_answers {b} {xs} {t} e = by_kind refl (λ depth enough. go t.kind e (expr depth))
  where
    go : (c : Terminal) → truth c ≡ Some b → (p : ℕ → Parser Expr) → f.primary_by p c (t ∷ xs) ≡ Ok (at (n.Lit (values.Bool b)) (t ∷ xs) xs, xs)
    go (k.Word w.True) e p = let g : true ≡ b = cc in ap (λ (x : Bool). Ok (at (n.Lit (values.Bool x)) (t ∷ xs) xs, xs)) g
    go (k.Word w.False) e p = let g : false ≡ b = cc in ap (λ (x : Bool). Ok (at (n.Lit (values.Bool x)) (t ∷ xs) xs, xs)) g
    go _ e p = absurd cc

path_is : {names : List ℕ} {xs ys : Lexemes} → ReadsPath xs names ys → kind ys ≢ k.Mark m.Dot → f.path_expr xs ≡ Ok (at (n.Path names) xs ys, ys)
unfolding f.path_expr
path_is p h = rw (path_answers p h) refl

-- lexemes of which one is the first
opens : {names : List ℕ} (xs ys : Lexemes) → ReadsPath xs names ys → kind ys ≢ k.Mark m.Dot → Answers 12 xs (at (n.Path names) xs ys) ys
opens [] ys p h = let e = path_first p in absurd cc
opens (t ∷ xs) ys p h = by_kind (path_first p) (λ depth enough. path_is p h)

-- an expression in parentheses, at the first of them
grouped_is : {xs ys : Lexemes} {u : Lexeme} {e : Expr} (t : Lexeme) → t.kind ≡ k.Mark m.OpenParen → u.kind ≡ k.Mark m.CloseParen → Answers 1 xs e (u ∷ ys) → (depth : ℕ) → 13 * length xs + 12 ≤ depth
    → f.grouped (expr depth) (t ∷ xs) ≡ Ok (e, ys)
unfolding f.grouped
grouped_is {xs} {ys} {u} t e g p depth enough = rw (expects t xs e, p.by depth (omega arith), expects u ys g) refl

grouped_answers : {xs ys : Lexemes} {t u : Lexeme} {e : Expr} → t.kind ≡ k.Mark m.OpenParen → u.kind ≡ k.Mark m.CloseParen → Answers 1 xs e (u ∷ ys) → Answers 12 (t ∷ xs) e ys
grouped_answers {t = t} e g p = by_kind e (λ depth enough. grouped_is t e g p depth (omega arith))

next_value_answers : {xs ys : Lexemes} {t o c : Lexeme} {e : Expr} → t.kind ≡ k.Word w.NextOf → o.kind ≡ k.Mark m.OpenParen → c.kind ≡ k.Mark m.CloseParen
    → Answers 1 xs e (c ∷ ys) → Answers 12 (t ∷ o ∷ xs) (at (n.One op1.Next e) (t ∷ o ∷ xs) ys) ys
unfolding f.next_value
next_value_answers {o = o} e g h p = by_kind e (λ depth enough. rw (grouped_is o g h p depth (omega arith)) refl)

-- the expressions that the lexemes are, after those that were found
record AnswersExprs (xs : Lexemes) (es : List Expr) (ys : Lexemes) : Type 0 where
  by : (depth count : ℕ) (found : List Expr) → 13 * length xs + 12 ≤ depth → length xs ≤ count → separated (k.Mark m.Comma) (expr depth 1) count found xs ≡ Ok (found ++ es, ys)

last_expr_answers : {xs ys : Lexemes} {e : Expr} → length ys < length xs → kind ys ≢ k.Mark m.Comma → Answers 1 xs e ys → AnswersExprs xs (e ∷ []) ys
unfolding separated
last_expr_answers {xs} {ys} {e} less h p = record { by = go }
  where
    go : (depth count : ℕ) (found : List Expr) → 13 * length xs + 12 ≤ depth → length xs ≤ count → separated (k.Mark m.Comma) (expr depth 1) count found xs ≡ Ok (found ++ e ∷ [], ys)
    go depth zero found enough room = absurd (omega arith)
    go depth (suc count) found enough room = rw (p.by depth (omega arith), not_same (kind ys) (k.Mark m.Comma) h) refl

more_exprs_answers : {xs ys zs : Lexemes} {t : Lexeme} {e : Expr} {es : List Expr} → t.kind ≡ k.Mark m.Comma → length (t ∷ ys) < length xs → Answers 1 xs e (t ∷ ys) → AnswersExprs ys es zs
    → AnswersExprs xs (e ∷ es) zs
unfolding separated
more_exprs_answers {xs} {ys} {zs} {t} {e = x} {es} e less p q = record { by = go }
  where
    go : (depth count : ℕ) (found : List Expr) → 13 * length xs + 12 ≤ depth → length xs ≤ count → separated (k.Mark m.Comma) (expr depth 1) count found xs ≡ Ok (found ++ x ∷ es, zs)
    go depth zero found enough room = absurd (omega arith)
    go depth (suc count) found enough room =
        rw (p.by depth (omega arith), same_at t.kind (k.Mark m.Comma) e) (q.by depth count (found ++ x ∷ []) (omega arith) (omega arith) ∙ ap (λ (l : List Expr). Ok (l, zs)) (append_assoc found (x ∷ []) es))

set_answers : {xs ys : Lexemes} {t u : Lexeme} {es : List Expr} → t.kind ≡ k.Mark m.OpenBrace → u.kind ≡ k.Mark m.CloseBrace → AnswersExprs xs es (u ∷ ys)
    → Answers 12 (t ∷ xs) (at (n.Set es) (t ∷ xs) ys) ys
unfolding f.set f.exprs
set_answers {xs} {ys} {u = u} e g p = by_kind e (λ depth enough. rw (p.by depth (length xs) [] (omega arith) (omega arith), expects u ys g) refl)

record AnswersBranch (xs : Lexemes) (b : Branch) (ys : Lexemes) : Type 0 where
  by : (depth : ℕ) → 13 * length xs + 12 ≤ depth → f.branch (expr depth) xs ≡ Ok (b, ys)

branch_answers : {xs ys zs : Lexemes} {c s : Lexeme} {g e : Expr} → c.kind ≡ k.Mark m.Colon → s.kind ≡ k.Mark m.Semicolon → length (c ∷ ys) < length xs
    → Answers 1 xs g (c ∷ ys) → Answers 1 ys e (s ∷ zs) → AnswersBranch xs (roll-Branch (record { guard = g; body = e })) zs
unfolding f.branch
branch_answers {xs} {ys} {zs} {c} {s} hc hs less p q = record { by = λ depth enough. rw (p.by depth (omega arith), expects c ys hc, q.by depth (omega arith), expects s zs hs) refl }

-- the branches that the lexemes up to `esac` are, after those that were found
record AnswersBranches (xs : Lexemes) (bs : List Branch) (ys : Lexemes) : Type 0 where
  by : (depth m : ℕ) (found : List Branch) → 13 * length xs + 12 ≤ depth → length xs ≤ m → f.branches (expr depth) m found xs ≡ Ok (found ++ bs, ys)

last_branch_answers : {xs ys : Lexemes} {t : Lexeme} {b : Branch} → t.kind ≡ k.Word w.Esac → length (t ∷ ys) < length xs → AnswersBranch xs b (t ∷ ys) → AnswersBranches xs (b ∷ []) ys
unfolding f.branches
last_branch_answers {xs} {ys} {t} {b = x} e less p = record { by = go }
  where
    go : (depth m : ℕ) (found : List Branch) → 13 * length xs + 12 ≤ depth → length xs ≤ m → f.branches (expr depth) m found xs ≡ Ok (found ++ x ∷ [], ys)
    go depth zero found enough room = absurd (omega arith)
    go depth (suc m) found enough room = rw (p.by depth enough, same_at t.kind (k.Word w.Esac) e) refl

more_branches_answers : {xs ys zs : Lexemes} {b : Branch} {bs : List Branch} → kind ys ≢ k.Word w.Esac → length ys < length xs → AnswersBranch xs b ys → AnswersBranches ys bs zs → AnswersBranches xs (b ∷ bs) zs
unfolding f.branches
more_branches_answers {xs} {ys} {zs} {b} {bs} h less p q = record { by = go }
  where
    go : (depth m : ℕ) (found : List Branch) → 13 * length xs + 12 ≤ depth → length xs ≤ m → f.branches (expr depth) m found xs ≡ Ok (found ++ b ∷ bs, zs)
    go depth zero found enough room = absurd (omega arith)
    go depth (suc m) found enough room =
        rw (p.by depth enough, not_same (kind ys) (k.Word w.Esac) h) (q.by depth m (found ++ b ∷ []) (omega arith) (omega arith) ∙ ap (λ (l : List Branch). Ok (l, zs)) (append_assoc found (b ∷ []) bs))

choice_answers : {xs ys : Lexemes} {t : Lexeme} {bs : List Branch} → t.kind ≡ k.Word w.Case → AnswersBranches xs bs ys → Answers 12 (t ∷ xs) (at (n.Case bs) (t ∷ xs) ys) ys
unfolding f.choice
choice_answers {xs} e p = by_kind e (λ depth enough. rw (p.by depth (suc (length xs)) [] (omega arith) (omega arith)) refl)

until_answers : {op : Op2} {xs ys zs : Lexemes} {t o u c : Lexeme} {a b : Expr} → until_of t.kind ≡ Some op → o.kind ≡ k.Mark m.OpenBracket → u.kind ≡ k.Word w.U → c.kind ≡ k.Mark m.CloseBracket
    → length (u ∷ ys) < length xs → Answers 1 xs a (u ∷ ys) → Answers 1 ys b (c ∷ zs) → Answers 12 (t ∷ o ∷ xs) (at (n.Two op a b) (t ∷ o ∷ xs) zs) zs
unfolding f.until
until_answers {op} {xs} {ys} {zs} {t} {o} {u} {c} {a} {b} ht ho hu hc less p q =
    by_kind refl (λ depth enough. go t.kind op ht (expr depth) ∙ rw (expects o xs ho, p.by depth (omega arith), expects u ys hu, q.by depth (omega arith), expects c zs hc) refl)
  where
    go : (d : Terminal) (op : Op2) → until_of d ≡ Some op → (p : ℕ → Parser Expr) → f.primary_by p d (t ∷ o ∷ xs) ≡ f.until p op (t ∷ o ∷ xs)
    go (k.Word w.A) op e p = let g : op2.Au ≡ op = cc in ap (λ (x : Op2). f.until p x (t ∷ o ∷ xs)) g
    go (k.Word w.E) op e p = let g : op2.Eu ≡ op = cc in ap (λ (x : Op2). f.until p x (t ∷ o ∷ xs)) g
    go _ op e p = absurd cc

-- ---- the induction

ended : {op : Op2} {pre : Op1} (t u : Lexeme) (ys : Lexemes) → equality t.kind ≡ Some op → prefix u.kind ≡ Some pre → ends_comparison (t ∷ u ∷ ys) ≡ true
ended t u ys e g = rw (e, g) refl

mutual
  answers : {l : ℕ} {xs ys : Lexemes} {e : Expr} → Reads l xs e ys → l ≤ 12 → Stops l ys → Answers l xs e ys
  answers (r.tighter lt p) le s = tighter_answers lt (no_prefix p) (answers p (omega arith) (stops_suc s)) s
  answers (r.implies {ys = ys} {t = t} e p q) le s = implies_answers e (answers p (omega arith) (stops_arrow t ys e)) (shorter p) (answers q (omega arith) s)
  answers (r.binary {ys = ys} {t = t} e p q) le s =
      let o = table t.kind _ _ e in
      let c : IsChain _ = record { not1 = omega (arith, o.low); not5 = o.other; not12 = omega (arith, o.high) } in
      climbs_end le c s (climbs_more le e (not_ended t ys e (no_prefix q)) (shorter p) (shorter q) (climbs p le c (stops_operator t ys e)) (answers q (omega (arith, o.high)) (stops_suc s)))
  answers (r.prefixed e p) le s = prefixed_answers e (answers p le s)
  answers (r.compared {ys = ys} {t = t} {u = u} e g p q) le s =
      compared_answers (no_prefix p (omega arith)) e g (answers p (omega arith) (stops_ended t (u ∷ ys) e (ended t u ys e g))) (shorter p) (answers q le s)
  answers (r.integer {ys = ys} p) le s = ranged_answers _ ys p (integer_is p s.dots)
  answers (r.range {zs = zs} e p q) le s = ranged_answers _ zs p (range_is e p q)
  answers (r.negated e h p) le s = negated_answers e h (answers p le s)
  answers (r.literal e) le s = truth_answers e
  answers (r.path {xs = xs} {ys = ys} p) le s = opens xs ys p s.dot
  answers (r.grouped {ys = ys} {u = u} e g p) le s = grouped_answers e g (answers p (omega arith) (stops_mark u ys g refl))
  answers (r.set {ys = ys} {u = u} e g p) le s = set_answers e g (exprs_answers p (stops_mark u ys g refl) (λ h. cc))
  answers (r.choice {ys = ys} {u = u} e g p) le s = choice_answers e (branches_answers p g)
  answers (r.next_value {ys = ys} {c = c} e g h p) le s = next_value_answers e g h (answers p (omega arith) (stops_mark c ys h refl))
  answers (r.until {ys = ys} {zs = zs} {u = u} {c = c} e g h i p q) le s =
      until_answers e g h i (shorter p) (answers p (omega arith) (stops_mark u ys h refl)) (answers q (omega arith) (stops_mark c zs i refl))

  climbs : {l : ℕ} {xs ys : Lexemes} {e : Expr} → Reads l xs e ys → l ≤ 12 → IsChain l → Stops (suc l) ys → Climbs l xs e ys
  climbs (r.tighter lt p) le c s = climbs_first (answers p (omega arith) s)
  climbs (r.binary {ys = ys} {t = t} e p q) le c s =
      let o = table t.kind _ _ e in
      climbs_more le e (not_ended t ys e (no_prefix q)) (shorter p) (shorter q) (climbs p le c (stops_operator t ys e)) (answers q (omega (arith, o.high)) s)
  climbs (r.implies e p q) le c s = absurd (c.not1 refl)
  climbs (r.prefixed e p) le c s = absurd (c.not5 refl)
  climbs (r.compared e g p q) le c s = absurd (c.not5 refl)
  climbs (r.integer p) le c s = absurd (c.not12 refl)
  climbs (r.range e p q) le c s = absurd (c.not12 refl)
  climbs (r.negated e h p) le c s = absurd (c.not12 refl)
  climbs (r.literal e) le c s = absurd (c.not12 refl)
  climbs (r.path p) le c s = absurd (c.not12 refl)
  climbs (r.grouped e g p) le c s = absurd (c.not12 refl)
  climbs (r.set e g p) le c s = absurd (c.not12 refl)
  climbs (r.choice e g p) le c s = absurd (c.not12 refl)
  climbs (r.next_value e g h p) le c s = absurd (c.not12 refl)
  climbs (r.until e g h i p q) le c s = absurd (c.not12 refl)

  exprs_answers : {xs ys : Lexemes} {es : List Expr} → ReadsExprs xs es ys → Stops 1 ys → kind ys ≢ k.Mark m.Comma → AnswersExprs xs es ys
  exprs_answers (last_expr p) s h = last_expr_answers (shorter p) h (answers p (omega arith) s)
  exprs_answers (more_exprs {ys = ys} {t = t} e p q) s h = more_exprs_answers e (shorter p) (answers p (omega arith) (stops_mark t ys e refl)) (exprs_answers q s h)

  branches_answers : {xs ys : Lexemes} {u : Lexeme} {bs : List Branch} → ReadsBranches xs bs (u ∷ ys) → u.kind ≡ k.Word w.Esac → AnswersBranches xs bs ys
  branches_answers (last_branch p) g = last_branch_answers g (shorter_branch p) (branch_of p)
  branches_answers (more_branches p q) g = more_branches_answers (is_other (branches_first q) refl) (shorter_branch p) (branch_of p) (branches_answers q g)

  branch_of : {xs ys : Lexemes} {b : Branch} → ReadsBranch xs b ys → AnswersBranch xs b ys
  branch_of (branch {ys = ys} {zs = zs} {c = c} {s = s} e g p q) =
      branch_answers e g (shorter p) (answers p (omega arith) (stops_mark c ys e refl)) (answers q (omega arith) (stops_mark s zs g refl))

-- what is read before a rest that does not go on with it is the function's answer
pub whole_expr_answers : {xs ys : Lexemes} {e : Expr} → Reads 1 xs e ys → Stops 1 ys → f.whole_expr xs ≡ Ok (e, ys)
unfolding f.whole_expr
whole_expr_answers {xs} p s = (answers p (omega arith) s).by (13 * length xs + 13) (omega arith)

separated_of : {xs ys : Lexemes} {es : List Expr} → ReadsExprs xs es ys → ReadsSeparated (k.Mark m.Comma) (Reads 1) xs es ys
separated_of (last_expr p) = ReadsSeparated.last p
separated_of (more_exprs e p q) = ReadsSeparated.more e p (separated_of q)

pub whole_exprs_answers : {xs ys : Lexemes} {es : List Expr} → ReadsExprs xs es ys → Stops 1 ys → kind ys ≢ k.Mark m.Comma → f.whole_exprs xs ≡ Ok (es, ys)
unfolding f.whole_exprs
whole_exprs_answers {xs} p s h =
    separated_answers (k.Mark m.Comma) f.whole_expr (Reads 1) (Stops 1) (λ xs a ys q t. whole_expr_answers q t) (λ xs a ys q. shorter q) (λ t ys e. stops_mark t ys e refl)
    (separated_of p) s h (length xs) [] (omega arith)
