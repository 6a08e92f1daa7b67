-- What the function reads as an expression is in the grammar.
use Rattle.std.proofs.Common.{◌≡◌, ◌≢◌, ℕ, zero, suc, ◌+◌, ◌*◌, ◌<◌, ◌≤◌, Bool, true, false, cond, eqb, List, [], ◌∷◌, ◌++◌, length, Option, Some, None, refl, sym, ap, subst, ◌∙◌, arith, append_assoc, add-one}
use Rattle.std.proofs.lemmas.Option.{cond_some}
use Rattle.std.proofs.lemmas.Bool.{cond_both, eqb-true, eqb-false}
use Rattle.std.specs.Prelude.{ℤ}
use Rattle.cov_syntax.specs.declared.lexeme.Terminal.{Terminal}
use Rattle.cov_syntax.specs.declared.lexeme.Terminal.TheVariants as k
use Rattle.cov_syntax.specs.declared.marks.Mark.TheVariants as m
use Rattle.cov_syntax.specs.declared.words.Word.TheVariants as w
use Rattle.cov_syntax.specs.declared.tree.Branch.{Branch, roll-Branch}
use Rattle.cov_syntax.specs.declared.tree.Expr.{Expr}
use Rattle.cov_syntax.specs.declared.tree.Node.TheVariants as n
use Rattle.cov_syntax.specs.declared.tree.Op1.{Op1}
use Rattle.cov_syntax.specs.declared.tree.Op1.TheVariants as op1
use Rattle.cov_syntax.specs.declared.tree.Op2.{Op2}
use Rattle.cov_syntax.specs.declared.tree.Op2.TheVariants as op2
use Rattle.cov_syntax.specs.declared.tree.Value.TheVariants as values
use Rattle.cov_syntax.specs.Lexemes.{Lexemes, kind, next, same, at, left, prefix, equality, until_of, truth}
use Rattle.cov_syntax.specs.Reading.{ReadsSeparated, ReadsInt, Reads, ReadsExprs, ReadsBranches, ReadsBranch}
use Rattle.cov_syntax.specs.Reading.{Reads as r}
use Rattle.cov_grammar.specs.Steps.{Parser}
use Rattle.cov_grammar.specs.Expressions.{at_level, ends_comparison, joint, ranged, path_expr, implied, implication, turn, climb, chain, compared, prefixed_by, prefixed, negated, grouped, next_value, exprs, set, branch, branches, choice, until, primary_by, primary, level, expr, whole_expr, whole_exprs}
use Rattle.cov_grammar.proofs.StepLemmas.{Gives, then, gives_ok, gives_err, choose, weaker, token, expecting, same_is, differs}
use Rattle.cov_grammar.proofs.ListSoundness.{int_sound, path_sound, separated_sound}

-- ---- the productions, by the kind of the next token

implies_at : {xs : Lexemes} {a b : Expr} {zs : Lexemes} (ys : Lexemes) → kind ys ≡ k.Mark m.Implies → Reads 2 xs a ys → Reads 1 (next ys) b zs → Reads 1 xs (at (n.Two op2.Implies a b) xs zs) zs
implies_at [] e p q = absurd cc
implies_at (t ∷ ys) e p q = r.implies e p q

binary_at : {l : ℕ} {op : Op2} {xs : Lexemes} {a b : Expr} {zs : Lexemes} (ys : Lexemes) → left (kind ys) ≡ Some (l, op) → Reads l xs a ys → Reads (suc l) (next ys) b zs → Reads l xs (at (n.Two op a b) xs zs) zs
binary_at [] e p q = absurd cc
binary_at (t ∷ ys) e p q = r.binary e p q

prefixed_at : {op : Op1} {e : Expr} {ys : Lexemes} (xs : Lexemes) → prefix (kind xs) ≡ Some op → Reads 5 (next xs) e ys → Reads 5 xs (at (n.One op e) xs ys) ys
prefixed_at [] e p = absurd cc
prefixed_at (t ∷ xs) e p = r.prefixed e p

compared_at : {op : Op2} {pre : Op1} {xs : Lexemes} {a b : Expr} {zs : Lexemes} (ys : Lexemes) → equality (kind ys) ≡ Some op → prefix (kind (next ys)) ≡ Some pre
    → Reads 6 xs a ys → Reads 5 (next (next ys)) b zs → Reads 5 xs (at (n.Two op a (at (n.One pre b) (next ys) zs)) xs zs) zs
compared_at [] e f p q = absurd cc
compared_at (t ∷ []) e f p q = absurd cc
compared_at (t ∷ u ∷ ys) e f p q = r.compared e f p q

range_at : {xs zs : Lexemes} {i j : ℤ} (ys : Lexemes) → kind ys ≡ k.Mark m.Dots → ReadsInt xs i ys → ReadsInt (next ys) j zs → Reads 12 xs (at (n.Range i j) xs zs) zs
range_at [] e p q = absurd cc
range_at (t ∷ ys) e p q = r.range e p q

negated_at : {e : Expr} {ys : Lexemes} (xs : Lexemes) → kind xs ≡ k.Mark m.Minus → kind (next xs) ≢ k.Number → Reads 12 (next xs) e ys → Reads 12 xs (at (n.One op1.Neg e) xs ys) ys
negated_at [] e h p = absurd cc
negated_at (t ∷ xs) e h p = r.negated e h p

literal_at : {b : Bool} (xs : Lexemes) → truth (kind xs) ≡ Some b → Reads 12 xs (at (n.Lit (values.Bool b)) xs (next xs)) (next xs)
literal_at [] e = absurd cc
literal_at (t ∷ xs) e = r.literal e

grouped_at : {e : Expr} (xs ys : Lexemes) → kind xs ≡ k.Mark m.OpenParen → kind ys ≡ k.Mark m.CloseParen → Reads 1 (next xs) e ys → Reads 12 xs e (next ys)
grouped_at [] ys e f p = absurd cc
grouped_at (t ∷ xs) [] e f p = absurd cc
grouped_at (t ∷ xs) (u ∷ ys) e f p = r.grouped e f p

set_at : {es : List Expr} (xs ys : Lexemes) → kind xs ≡ k.Mark m.OpenBrace → kind ys ≡ k.Mark m.CloseBrace → ReadsExprs (next xs) es ys → Reads 12 xs (at (n.Set es) xs (next ys)) (next ys)
set_at [] ys e f p = absurd cc
set_at (t ∷ xs) [] e f p = absurd cc
set_at (t ∷ xs) (u ∷ ys) e f p = r.set e f p

choice_at : {bs : List Branch} (xs ys : Lexemes) → kind xs ≡ k.Word w.Case → kind ys ≡ k.Word w.Esac → ReadsBranches (next xs) bs ys → Reads 12 xs (at (n.Case bs) xs (next ys)) (next ys)
choice_at [] ys e f p = absurd cc
choice_at (t ∷ xs) [] e f p = absurd cc
choice_at (t ∷ xs) (u ∷ ys) e f p = r.choice e f p

next_value_at : {e : Expr} (xs ys : Lexemes) → kind xs ≡ k.Word w.NextOf → kind (next xs) ≡ k.Mark m.OpenParen → kind ys ≡ k.Mark m.CloseParen
    → Reads 1 (next (next xs)) e ys → Reads 12 xs (at (n.One op1.Next e) xs (next ys)) (next ys)
next_value_at [] ys e f g p = absurd cc
next_value_at (t ∷ []) ys e f g p = absurd cc
next_value_at (t ∷ o ∷ xs) [] e f g p = absurd cc
next_value_at (t ∷ o ∷ xs) (c ∷ ys) e f g p = r.next_value e f g p

until_at : {op : Op2} {a b : Expr} (xs ys zs : Lexemes) → until_of (kind xs) ≡ Some op → kind (next xs) ≡ k.Mark m.OpenBracket → kind ys ≡ k.Word w.U → kind zs ≡ k.Mark m.CloseBracket
    → Reads 1 (next (next xs)) a ys → Reads 1 (next ys) b zs → Reads 12 xs (at (n.Two op a b) xs (next zs)) (next zs)
until_at [] ys zs e f g h p q = absurd cc
until_at (t ∷ []) ys zs e f g h p q = absurd cc
until_at (t ∷ o ∷ xs) [] zs e f g h p q = absurd cc
until_at (t ∷ o ∷ xs) (u ∷ ys) [] e f g h p q = absurd cc
until_at (t ∷ o ∷ xs) (u ∷ ys) (c ∷ zs) e f g h p q = r.until e f g h p q

branch_at : {xs : Lexemes} {g e : Expr} (ys zs : Lexemes) → kind ys ≡ k.Mark m.Colon → kind zs ≡ k.Mark m.Semicolon
    → Reads 1 xs g ys → Reads 1 (next ys) e zs → ReadsBranch xs (roll-Branch (record { guard = g; body = e })) (next zs)
branch_at [] zs e f p q = absurd cc
branch_at (c ∷ ys) [] e f p q = absurd cc
branch_at (c ∷ ys) (s ∷ zs) e f p q = ReadsBranch.branch e f p q

exprs_of : {xs ys : Lexemes} {es : List Expr} → ReadsSeparated (k.Mark m.Comma) (Reads 1) xs es ys → ReadsExprs xs es ys
exprs_of (ReadsSeparated.last p) = ReadsExprs.last_expr p
exprs_of (ReadsSeparated.more e p q) = ReadsExprs.more_exprs e p (exprs_of q)

-- ---- the function's parts

abbrev pub IsReading : ℕ → Lexemes → Expr × Lexemes → Type 0
IsReading l xs x = Reads l xs x.0 x.1

pick : (b : Bool) (l : ℕ) (o : Option (ℕ × Op2)) (op : Op2) → cond b None (at_level l o) ≡ Some op → o ≡ Some (l, op)
pick true l o op e = absurd cc
pick false l None op e = absurd cc
pick false l (Some q) op e = let c = cond_some (eqb l q.0) q.1 op e in λ i. Some ((sym (eqb-true l q.0 c.0)) i, c.1 i)

joint_left : (l : ℕ) (ys : Lexemes) (op : Op2) → joint l ys ≡ Some op → left (kind ys) ≡ Some (l, op)
unfolding joint
joint_left l ys op e = pick (ends_comparison ys) l (left (kind ys)) op e

ranged_sound : (xs : Lexemes) → Gives (ranged xs) (IsReading 12 xs)
unfolding ranged
ranged_sound xs = then (int_sound xs) (λ i ri. choose (same (kind i.1) (k.Mark m.Dots))
    (λ e. then (int_sound (next i.1)) (λ j rj. gives_ok (range_at i.1 (same_is (kind i.1) (k.Mark m.Dots) e) ri rj)))
    (λ e. gives_ok (r.integer ri)))

pub path_expr_sound : (xs : Lexemes) → Gives (path_expr xs) (IsReading 12 xs)
unfolding path_expr
path_expr_sound xs = then (path_sound xs) (λ names rn. gives_ok (r.path rn))

module _ (p : ℕ → Parser Expr) (reads : (l : ℕ) (xs : Lexemes) → l ≤ 12 → Gives (p l xs) (IsReading l xs)) where
  reads_suc : (l : ℕ) (xs : Lexemes) → l < 12 → Gives (p (l + 1) xs) (IsReading (suc l) xs)
  reads_suc l xs lt = subst (λ (m : ℕ). Gives (p (l + 1) xs) (IsReading m xs)) (add-one l) (reads (l + 1) xs (omega arith))

  implied_sound : (xs : Lexemes) (a : Expr × Lexemes) → IsReading 2 xs a → (b : Bool) → same (kind a.1) (k.Mark m.Implies) ≡ b → Gives (implied p xs a b) (IsReading 1 xs)
  implied_sound xs a ra true e = then (reads 1 (next a.1) (omega arith)) (λ b rb. gives_ok (implies_at a.1 (same_is (kind a.1) (k.Mark m.Implies) e) ra rb))
  implied_sound xs a ra false e = gives_ok (r.tighter (omega arith) ra)

  implication_sound : (xs : Lexemes) → Gives (implication p xs) (IsReading 1 xs)
  unfolding implication
  implication_sound xs = then (reads 2 xs (omega arith)) (λ a ra. implied_sound xs a ra (same (kind a.1) (k.Mark m.Implies)) refl)

  turn_sound : (more : Expr → Parser Expr) (l : ℕ) → l < 12 → (xs : Lexemes) → ((b : Expr) (zs : Lexemes) → Reads l xs b zs → Gives (more b zs) (IsReading l xs))
      → (a : Expr) (ys : Lexemes) → Reads l xs a ys → (o : Option Op2) → joint l ys ≡ o → Gives (turn p more l xs a ys o) (IsReading l xs)
  turn_sound more l lt xs goes a ys ra None e = gives_ok ra
  turn_sound more l lt xs goes a ys ra (Some op) e = then (reads_suc l (next ys) lt) (λ b rb. goes (at (n.Two op a b.0) xs b.1) b.1 (binary_at ys (joint_left l ys op e) ra rb))

  climb_sound : (m l : ℕ) → l < 12 → (xs : Lexemes) (a : Expr) (ys : Lexemes) → Reads l xs a ys → Gives (climb p m l xs a ys) (IsReading l xs)
  unfolding climb
  climb_sound zero l lt xs a ys ra = gives_ok ra
  climb_sound (suc m) l lt xs a ys ra = turn_sound (climb p m l xs) l lt xs (λ b zs rb. climb_sound m l lt xs b zs rb) a ys ra (joint l ys) refl

  chain_sound : (l : ℕ) → l < 12 → (xs : Lexemes) → Gives (chain p l xs) (IsReading l xs)
  unfolding chain
  chain_sound l lt xs = then (reads_suc l xs lt) (λ a ra. climb_sound (length a.1) l lt xs a.0 a.1 (r.tighter lt ra))

  compared_sound : (xs : Lexemes) (a : Expr × Lexemes) → IsReading 6 xs a → (o : Option Op2) → equality (kind a.1) ≡ o → (q : Option Op1) → prefix (kind (next a.1)) ≡ q
      → Gives (compared p xs a o q) (IsReading 5 xs)
  compared_sound xs a ra None e None f = gives_ok (r.tighter (omega arith) ra)
  compared_sound xs a ra None e (Some pre) f = gives_ok (r.tighter (omega arith) ra)
  compared_sound xs a ra (Some op) e None f = gives_ok (r.tighter (omega arith) ra)
  compared_sound xs a ra (Some op) e (Some pre) f = then (reads 5 (next (next a.1)) (omega arith)) (λ b rb. gives_ok (compared_at a.1 e f ra rb))

  prefixed_by_sound : (xs : Lexemes) (o : Option Op1) → prefix (kind xs) ≡ o → Gives (prefixed_by p xs o) (IsReading 5 xs)
  prefixed_by_sound xs (Some op) e = then (reads 5 (next xs) (omega arith)) (λ x rx. gives_ok (prefixed_at xs e rx))
  prefixed_by_sound xs None e = then (reads 6 xs (omega arith)) (λ a ra. compared_sound xs a ra (equality (kind a.1)) refl (prefix (kind (next a.1))) refl)

  negated_sound : (xs : Lexemes) → kind xs ≡ k.Mark m.Minus → kind (next xs) ≢ k.Number → Gives (negated p xs) (IsReading 12 xs)
  unfolding negated
  negated_sound xs e h = then (reads 12 (next xs) (omega arith)) (λ x rx. gives_ok (negated_at xs e h rx))

  -- an expression in parentheses
  abbrev InParens : Lexemes → Expr × Lexemes → Type 0
  InParens xs x = (ys : Lexemes) × (kind xs ≡ k.Mark m.OpenParen) × (kind ys ≡ k.Mark m.CloseParen) × Reads 1 (next xs) x.0 ys × (x.1 ≡ next ys)

  grouped_gives : (xs : Lexemes) → Gives (grouped p xs) (InParens xs)
  unfolding grouped
  grouped_gives xs = expecting _ (token (k.Mark m.OpenParen) xs) (λ o. then (reads 1 (next xs) (omega arith)) (λ x rx. expecting _ (token (k.Mark m.CloseParen) x.1) (λ c. gives_ok (x.1, o, c, rx, refl))))

  grouped_sound : (xs : Lexemes) → Gives (grouped p xs) (IsReading 12 xs)
  grouped_sound xs = weaker (λ x h. subst (λ (ys : Lexemes). Reads 12 xs x.0 ys) (sym h.4) (grouped_at xs h.0 h.1 h.2 h.3)) (grouped_gives xs)

  next_value_sound : (xs : Lexemes) → kind xs ≡ k.Word w.NextOf → Gives (next_value p xs) (IsReading 12 xs)
  unfolding next_value
  next_value_sound xs e = then (grouped_gives (next xs))
      (λ x h. gives_ok (subst (λ (ys : Lexemes). Reads 12 xs (at (n.One op1.Next x.0) xs ys) ys) (sym h.4) (next_value_at xs h.0 e h.1 h.2 h.3)))

  exprs_sound : (xs : Lexemes) → Gives (exprs p xs) (λ x. ReadsExprs xs x.0 x.1)
  unfolding exprs
  exprs_sound xs = weaker (λ x h. exprs_of h) (separated_sound (k.Mark m.Comma) (λ h. cc) (p 1) (Reads 1) (λ ys. reads 1 ys (omega arith)) (length xs) xs)

  set_sound : (xs : Lexemes) → kind xs ≡ k.Mark m.OpenBrace → Gives (set p xs) (IsReading 12 xs)
  unfolding set
  set_sound xs e = then (exprs_sound (next xs)) (λ es res. expecting _ (token (k.Mark m.CloseBrace) es.1) (λ c. gives_ok (set_at xs es.1 e c res)))

  branch_sound : (xs : Lexemes) → Gives (branch p xs) (λ x. ReadsBranch xs x.0 x.1)
  unfolding branch
  branch_sound xs =
      then (reads 1 xs (omega arith)) (λ g rg. expecting _ (token (k.Mark m.Colon) g.1) (λ c. then (reads 1 (next g.1) (omega arith)) (λ x rx. expecting _ (token (k.Mark m.Semicolon) x.1) (λ s. gives_ok (branch_at g.1 x.1 c s rg rx)))))

  -- what was found before, and branches that the lexemes up to `esac` are
  abbrev AddsBranches : List Branch → Lexemes → List Branch × Lexemes → Type 0
  AddsBranches found xs x = (bs : List Branch) × (ys : Lexemes) × (x.0 ≡ found ++ bs) × (kind ys ≡ k.Word w.Esac) × (x.1 ≡ next ys) × ReadsBranches xs bs ys

  branches_sound : (m : ℕ) (found : List Branch) (xs : Lexemes) → Gives (branches p m found xs) (AddsBranches found xs)
  unfolding branches
  branches_sound zero found xs = gives_err
  branches_sound (suc m) found xs = then (branch_sound xs) (λ x rx. choose (same (kind x.1) (k.Word w.Esac))
      (λ e. gives_ok (x.0 ∷ [], x.1, refl, same_is (kind x.1) (k.Word w.Esac) e, refl, ReadsBranches.last_branch rx))
      (λ e. weaker (λ y h. (x.0 ∷ h.0, h.1, h.2 ∙ append_assoc found (x.0 ∷ []) h.0, h.3, h.4, ReadsBranches.more_branches rx h.5)) (branches_sound m (found ++ x.0 ∷ []) x.1)))

  choice_sound : (xs : Lexemes) → kind xs ≡ k.Word w.Case → Gives (choice p xs) (IsReading 12 xs)
  unfolding choice
  choice_sound xs e = then (branches_sound (length xs) [] (next xs)) (λ bs h.
      gives_ok (subst (λ (ys : Lexemes). Reads 12 xs (at (n.Case bs.0) xs ys) ys) (sym h.4)
      (choice_at xs h.1 e h.3 (subst (λ (found : List Branch). ReadsBranches (next xs) found h.1) (sym h.2) h.5))))

  until_sound : (op : Op2) (xs : Lexemes) → until_of (kind xs) ≡ Some op → Gives (until p op xs) (IsReading 12 xs)
  unfolding until
  until_sound op xs e =
      expecting _ (token (k.Mark m.OpenBracket) (next xs)) (λ o. then (reads 1 (next (next xs)) (omega arith)) (λ a ra. expecting _ (token (k.Word w.U) a.1) (λ u. then (reads 1 (next a.1) (omega arith)) (λ b rb. expecting _ (token (k.Mark m.CloseBracket) b.1) (λ c.
      gives_ok (until_at xs a.1 b.1 e o u c ra rb))))))

  primary_by_sound : (xs : Lexemes) (c : Terminal) → kind xs ≡ c → Gives (primary_by p c xs) (IsReading 12 xs)
  primary_by_sound xs k.Name e = path_expr_sound xs
  primary_by_sound xs k.Number e = ranged_sound xs
  primary_by_sound xs (k.Mark m.Minus) e = choose (same (kind (next xs)) k.Number) (λ f. ranged_sound xs) (λ f. negated_sound xs e (differs (kind (next xs)) k.Number f))
  primary_by_sound xs (k.Mark m.OpenParen) e = grouped_sound xs
  primary_by_sound xs (k.Mark m.OpenBrace) e = set_sound xs e
  primary_by_sound xs (k.Word w.True) e = gives_ok (literal_at xs (ap truth e))
  primary_by_sound xs (k.Word w.False) e = gives_ok (literal_at xs (ap truth e))
  primary_by_sound xs (k.Word w.Case) e = choice_sound xs e
  primary_by_sound xs (k.Word w.NextOf) e = next_value_sound xs e
  primary_by_sound xs (k.Word w.A) e = until_sound op2.Au xs (ap until_of e)
  primary_by_sound xs (k.Word w.E) e = until_sound op2.Eu xs (ap until_of e)
  primary_by_sound xs _ e = gives_err

  level_sound : (l : ℕ) → l ≤ 12 → (xs : Lexemes) → Gives (level p l xs) (IsReading l xs)
  unfolding level prefixed primary
  level_sound l le xs =
      let P : Parser Expr → Type 0 = λ f. Gives (f xs) (IsReading l xs) in
      cond_both (eqb l 1) (implication p) (cond (eqb l 5) (prefixed p) (cond (eqb l 12) (primary p) (chain p l))) P
      (λ e. subst (λ (m : ℕ). Gives (implication p xs) (IsReading m xs)) (sym (eqb-true l 1 e)) (implication_sound xs))
      (λ _. cond_both (eqb l 5) (prefixed p) (cond (eqb l 12) (primary p) (chain p l)) P
      (λ e. subst (λ (m : ℕ). Gives (prefixed p xs) (IsReading m xs)) (sym (eqb-true l 5 e)) (prefixed_by_sound xs (prefix (kind xs)) refl))
      (λ _. cond_both (eqb l 12) (primary p) (chain p l) P
      (λ e. subst (λ (m : ℕ). Gives (primary p xs) (IsReading m xs)) (sym (eqb-true l 12 e)) (primary_by_sound xs (kind xs) refl))
      (λ e. let other : l ≢ 12 = eqb-false l 12 e in chain_sound l (omega arith) xs)))

pub sound : (depth l : ℕ) (xs : Lexemes) → l ≤ 12 → Gives (expr depth l xs) (IsReading l xs)
unfolding expr
sound zero l xs le = gives_err
sound (suc depth) l xs le = level_sound (expr depth) (λ m ys. sound depth m ys) l le xs

pub whole_expr_sound : (xs : Lexemes) → Gives (whole_expr xs) (λ x. Reads 1 xs x.0 x.1)
unfolding whole_expr
whole_expr_sound xs = sound (13 * length xs + 13) 1 xs (omega arith)

pub whole_exprs_sound : (xs : Lexemes) → Gives (whole_exprs xs) (λ x. ReadsExprs xs x.0 x.1)
unfolding whole_exprs
whole_exprs_sound xs = weaker (λ x h. exprs_of h) (separated_sound (k.Mark m.Comma) (λ h. cc) whole_expr (Reads 1) whole_expr_sound (length xs) xs)
