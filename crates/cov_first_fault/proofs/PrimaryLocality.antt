-- The parsers of primary expressions, and of all expressions, do the same on lexemes that agree.
use Rattle.std.proofs.Common.{◌≡◌, ℕ, zero, suc, ◌+◌, ◌*◌, ◌<◌, ◌≤◌, Bool, true, false, cond, eqb, List, [], ◌∷◌, ◌++◌, length, None, Result, inl, inr, refl, ap, arith}
use Rattle.std.specs.Prelude.{IfOk}
use Rattle.std.proofs.lemmas.Bool.{cases_lt, eqb-true, eqb-false}
use Rattle.std.proofs.lemmas.Result.{IfOk-at_ok}
use Rattle.cov_syntax.specs.declared.lexeme.Terminal.{Terminal}
use Rattle.cov_syntax.specs.declared.lexeme.Terminal.TheVariants as k
use Rattle.cov_syntax.specs.declared.marks.Mark.TheVariants as m
use Rattle.cov_syntax.specs.declared.words.Word.TheVariants as w
use Rattle.cov_syntax.specs.declared.tree.Branch.{Branch}
use Rattle.cov_syntax.specs.declared.tree.Expr.{Expr}
use Rattle.cov_syntax.specs.declared.tree.Op2.{Op2}
use Rattle.cov_syntax.specs.declared.tree.Op2.TheVariants as op2
use Rattle.cov_syntax.specs.Lexemes.{Lexemes, kind, next, same}
use Rattle.cov_syntax.specs.Reading.{Reads}
use Rattle.cov_grammar.specs.Steps.{Stop, Parser, expect, int}
use Rattle.cov_grammar.specs.Expressions.{joint, ranged, path_expr, implication, chain, prefixed, negated, grouped, next_value, exprs, set, branch, branches, choice, until, primary_by, primary, level, expr, whole_expr, whole_exprs}
use Rattle.cov_grammar.proofs.StepLemmas.{same_at}
use Rattle.cov_first_fault.proofs.Steps.{Seq, Walks, then, mapped, stay, some_nil, some_left}
use Rattle.cov_first_fault.proofs.ListWalks.{behind, Magnitude, magnitude_walk, int_walk, plain_open, plain_close}
use Rattle.cov_first_fault.proofs.ExpressionWalks.{E, Ranged, mark, word, some_expr, branches_walk, after_branch_walk, primary_by_walk, expr_walk, whole_expr_walk}
use Rattle.cov_first_fault.proofs.Agreement.{Within, within, leaves, ok_after, next_shorter, next_shorter_or_equal, Agree, agreed, Local, local_err, local_past, local_ok, local_then, before, local_cond, token_local}
use Rattle.cov_first_fault.proofs.ListLocality.{int_local, path_local, separated_local}
use Rattle.cov_first_fault.proofs.ExpressionLocality.{same_choice, token_shorter, optional_walk, optional_local, Chained, chained_of, local_of, expr_finished, implication_local, chain_local, prefixed_local}

-- ---- integers and paths

ranged_local : {n : ℕ} (xs ys : Lexemes) → Agree n xs ys → Local behind n (ranged xs) (ranged ys)
unfolding ranged
ranged_local xs ys h = local_then (int_local xs ys h) (λ i j ei ej g. optional_local (k.Mark m.Dots) (mark m.Dots) i.1 j.1 g (mapped (int_walk (next i.1)) (λ j. stay _)) (stay _)
    (λ lt d. local_then (int_local (next i.1) (next j.1) d) (λ a b ea eb c. local_ok c)) (local_ok g))

pub path_expr_local : {n : ℕ} (xs ys : Lexemes) → Agree n xs ys → Local behind n (path_expr xs) (path_expr ys)
unfolding path_expr
path_expr_local xs ys h = local_then (path_local xs ys h) (λ a b ea eb g. local_ok g)

minus_walk : (xs : Lexemes) → kind xs ≡ k.Mark m.Minus → Walks behind Magnitude (next xs) (int xs)
unfolding int
minus_walk xs e = rw (same_at (kind xs) (k.Mark m.Minus) e) (mapped (magnitude_walk (next xs)) (λ i. stay _))

-- what is ranged behind a `-`
minus_ranged : (xs : Lexemes) → kind xs ≡ k.Mark m.Minus → Walks behind (Seq Magnitude Ranged) (next xs) (ranged xs)
unfolding ranged
minus_ranged xs e = then (some_left some_nil) (minus_walk xs e) (λ i. optional_walk (k.Mark m.Dots) (mark m.Dots) i.1 (mapped (int_walk (next i.1)) (λ j. stay _)) (stay _))

within_cond : {A : Type 0} {v : A → Lexemes} {n : ℕ} {x y : Result A Stop} (b : Bool) → Within v n x → Within v n y → Within v n (cond b x y)
within_cond true g h = g
within_cond false g h = h

-- ---- the parts

module _ (n depth : ℕ) (p q : ℕ → Parser Expr)
    (walks : (l : ℕ) (xs : Lexemes) → l ≤ 12 → Walks behind (E l) xs (p l xs))
    (one : (xs ys : Lexemes) → 13 * length xs + 13 ≤ depth + 1 → Agree n xs ys → Local behind n (p 1 xs) (q 1 ys))
    (twelve : (xs ys : Lexemes) → 13 * length xs + 13 ≤ depth + 12 → Agree n xs ys → Local behind n (p 12 xs) (q 12 ys)) where
  negated_local : (xs ys : Lexemes) → 0 < length xs → 13 * length xs ≤ depth → Agree n (next xs) (next ys) → Local behind n (negated p xs) (negated q ys)
  unfolding negated
  negated_local xs ys lt enough h = let shorter = next_shorter xs lt in local_then (twelve (next xs) (next ys) (omega arith) h) (λ a b ea eb g. local_ok g)

  minus_within : (xs : Lexemes) → kind xs ≡ k.Mark m.Minus → length (next xs) ≤ n → Within behind n (cond (same (kind (next xs)) k.Number) (ranged xs) (negated p xs))
  unfolding negated
  minus_within xs e le = within_cond (same (kind (next xs)) k.Number) (within (minus_ranged xs e) le) (within (mapped {w = behind} (walks 12 (next xs) (omega arith)) (λ b. stay _)) le)

  minus_local : (xs ys : Lexemes) → kind xs ≡ k.Mark m.Minus → 0 < length xs → 13 * length xs ≤ depth → Agree n xs ys → Agree n (next xs) (next ys)
      → Local behind n (cond (same (kind (next xs)) k.Number) (ranged xs) (negated p xs)) (cond (same (kind (next ys)) k.Number) (ranged ys) (negated q ys))
  minus_local xs ys e lt enough h g = elim (cases_lt n (length (next xs))) [
    | inr le ↦ local_past (minus_within xs e le)
    | inl more ↦ let d = agreed (next xs) (next ys) g more in
        local_cond (same (kind (next xs)) k.Number) (same (kind (next ys)) k.Number) (ap (λ c. same c k.Number) d.kinds) (λ f. ranged_local xs ys h) (λ f. negated_local xs ys lt enough g)
  ]

  grouped_local : (xs ys : Lexemes) → 13 * length xs ≤ depth → Agree n xs ys → Local behind n (grouped p xs) (grouped q ys)
  unfolding grouped
  grouped_local xs ys enough h = local_then (token_local (k.Mark m.OpenParen) plain_open xs ys h) (λ us vs eu ev g.
      let less = token_shorter xs us plain_open eu in
      local_then (one us vs (omega arith) g) (λ a b ea eb c.
      local_then (token_local (k.Mark m.CloseParen) plain_close a.1 b.1 c) (λ x y ex ey d. local_ok d)))

  next_value_local : (xs ys : Lexemes) → 13 * length xs ≤ depth → Agree n (next xs) (next ys) → Local behind n (next_value p xs) (next_value q ys)
  unfolding next_value
  next_value_local xs ys enough h = let less = next_shorter_or_equal xs in local_then (grouped_local (next xs) (next ys) (omega arith) h) (λ a b ea eb g. local_ok g)

  exprs_local : (xs ys : Lexemes) → 13 * length xs + 12 ≤ depth → Agree n xs ys → Local behind n (exprs p xs) (exprs q ys)
  unfolding exprs
  exprs_local xs ys enough h = separated_local (k.Mark m.Comma) (mark m.Comma) (p 1) (q 1) (Reads 1) (λ us. walks 1 us (omega arith)) (some_expr 1 (omega arith)) n (length xs)
      (λ us vs le g. one us vs (omega arith) g) (length xs) (length ys) [] [] xs ys (omega arith) (omega arith) h

  set_local : (xs ys : Lexemes) → 0 < length xs → 13 * length xs ≤ depth → Agree n (next xs) (next ys) → Local behind n (set p xs) (set q ys)
  unfolding set
  set_local xs ys lt enough h = let shorter = next_shorter xs lt in local_then (exprs_local (next xs) (next ys) (omega arith) h) (λ a b ea eb g.
      local_then (token_local (k.Mark m.CloseBrace) (mark m.CloseBrace) a.1 b.1 g) (λ x y ex ey d. local_ok d))

  branch_local : (xs ys : Lexemes) → 13 * length xs + 12 ≤ depth → Agree n xs ys → Local behind n (branch p xs) (branch q ys)
  unfolding branch
  branch_local xs ys enough h = local_then (one xs ys (omega arith) h) (λ a b ea eb g.
      let le = leaves (walks 1 xs (omega arith)) ea in
      local_then (token_local (k.Mark m.Colon) (mark m.Colon) a.1 b.1 g) (λ us vs eu ev c.
      let less = token_shorter a.1 us (mark m.Colon) eu in
      local_then (one us vs (omega arith) c) (λ x y ex ey d.
      local_then (token_local (k.Mark m.Semicolon) (mark m.Semicolon) x.1 y.1 d) (λ z z' ez ez' f. local_ok f))))

  branch_shorter : (xs : Lexemes) → IfOk (branch p xs) (λ b. length b.1 < length xs)
  unfolding branch
  branch_shorter xs =
      let P : Branch × Lexemes → Type 0 = λ b. length b.1 < length xs in
      ok_after (p 1 xs) _ P (λ a ea. ok_after (expect (k.Mark m.Colon) a.1) _ P (λ us eu. ok_after (p 1 us) _ P (λ x ex. ok_after (expect (k.Mark m.Semicolon) x.1) _ P (λ z ez.
      let i = leaves (walks 1 xs (omega arith)) ea in
      let ii = token_shorter a.1 us (mark m.Colon) eu in
      let iii = leaves (walks 1 us (omega arith)) ex in
      let iv = token_shorter x.1 z (mark m.Semicolon) ez in
      omega arith))))

  branches_local : (i j : ℕ) (found found' : List Branch) (xs ys : Lexemes) → length xs ≤ i → 13 * length xs + 12 ≤ depth → Agree n xs ys → Local behind n (branches p i found xs) (branches q j found' ys)
  unfolding branches
  branches_local zero j found found' xs ys room enough h = local_past (within (branches_walk p walks zero found xs) (omega arith))
  branches_local (suc i) zero found found' xs ys room enough h = local_err
  branches_local (suc i) (suc j) found found' xs ys room enough h = local_then (branch_local xs ys enough h) (λ a b ea eb g.
      let less = IfOk-at_ok (λ (x : Branch × Lexemes). length x.1 < length xs) ea (branch_shorter xs) in
      before a.1 b.1 g (after_branch_walk p walks i found a (branches_walk p walks i)) (λ lt d.
      local_cond (same (kind a.1) (k.Word w.Esac)) (same (kind b.1) (k.Word w.Esac)) (ap (λ c. same c (k.Word w.Esac)) d.kinds)
      (λ e. local_ok d.behind)
      (λ e. branches_local i j (found ++ a.0 ∷ []) (found' ++ b.0 ∷ []) a.1 b.1 (omega arith) (omega arith) g)))

  choice_local : (xs ys : Lexemes) → 0 < length xs → 13 * length xs ≤ depth → Agree n (next xs) (next ys) → Local behind n (choice p xs) (choice q ys)
  unfolding choice
  choice_local xs ys lt enough h = let shorter = next_shorter xs lt in local_then (branches_local (length xs) (length ys) [] [] (next xs) (next ys) (omega arith) (omega arith) h) (λ a b ea eb g. local_ok g)

  until_local : (op : Op2) (xs ys : Lexemes) → 13 * length xs ≤ depth → Agree n (next xs) (next ys) → Local behind n (until p op xs) (until q op ys)
  unfolding until
  until_local op xs ys enough h = let less = next_shorter_or_equal xs in
      local_then (token_local (k.Mark m.OpenBracket) (mark m.OpenBracket) (next xs) (next ys) h) (λ us vs eu ev g.
      let i = token_shorter (next xs) us (mark m.OpenBracket) eu in
      local_then (one us vs (omega arith) g) (λ a b ea eb c.
      let ii = leaves (walks 1 us (omega arith)) ea in
      local_then (token_local (k.Word w.U) (word w.U) a.1 b.1 c) (λ us' vs' eu' ev' d.
      let iii = token_shorter a.1 us' (word w.U) eu' in
      local_then (one us' vs' (omega arith) d) (λ x y ex ey f.
      local_then (token_local (k.Mark m.CloseBracket) (mark m.CloseBracket) x.1 y.1 f) (λ z z' ez ez' e. local_ok e)))))

  primary_by_local : (xs ys : Lexemes) (c : Terminal) → kind xs ≡ c → 0 < length xs → 13 * length xs ≤ depth → Agree n xs ys → Agree n (next xs) (next ys) → Local behind n (primary_by p c xs) (primary_by q c ys)
  primary_by_local xs ys k.Name e lt enough h g = path_expr_local xs ys h
  primary_by_local xs ys k.Number e lt enough h g = ranged_local xs ys h
  primary_by_local xs ys (k.Mark m.Minus) e lt enough h g = minus_local xs ys e lt enough h g
  primary_by_local xs ys (k.Mark m.OpenParen) e lt enough h g = grouped_local xs ys enough h
  primary_by_local xs ys (k.Mark m.OpenBrace) e lt enough h g = set_local xs ys lt enough g
  primary_by_local xs ys (k.Word w.True) e lt enough h g = local_ok g
  primary_by_local xs ys (k.Word w.False) e lt enough h g = local_ok g
  primary_by_local xs ys (k.Word w.Case) e lt enough h g = choice_local xs ys lt enough g
  primary_by_local xs ys (k.Word w.NextOf) e lt enough h g = next_value_local xs ys enough g
  primary_by_local xs ys (k.Word w.A) e lt enough h g = until_local op2.Au xs ys enough g
  primary_by_local xs ys (k.Word w.E) e lt enough h g = until_local op2.Eu xs ys enough g
  primary_by_local xs ys _ e lt enough h g = local_err

  pub primary_local : (xs ys : Lexemes) → 13 * length xs ≤ depth → Agree n xs ys → Local behind n (primary p xs) (primary q ys)
  unfolding primary
  primary_local xs ys enough h = before xs ys h (primary_by_walk p walks xs (kind xs) refl) (λ lt d.
      same_choice (λ c. primary_by p (kind xs) xs) (λ c. primary_by q c ys) _ _ d.kinds (primary_by_local xs ys (kind xs) refl (omega arith) enough h d.behind))

-- ---- all levels

-- two parsers by one test
by_test : (b : Bool) (f f' g g' : Parser Expr) (P : Parser Expr → Parser Expr → Type 0) → (b ≡ true → P f g) → (b ≡ false → P f' g') → P (cond b f f') (cond b g g')
by_test true f f' g g' P h i = h refl
by_test false f f' g g' P h i = i refl

module _ (n depth : ℕ) (p q : ℕ → Parser Expr)
    (walks : (l : ℕ) (xs : Lexemes) → l ≤ 12 → Walks behind (E l) xs (p l xs))
    (walks' : (l : ℕ) (xs : Lexemes) → l ≤ 12 → Walks behind (E l) xs (q l xs))
    (finished : (xs : Lexemes) → IfOk (p 6 xs) (λ b. joint 6 b.1 ≡ None))
    (local : (l : ℕ) → l ≤ 12 → (xs ys : Lexemes) → 13 * length xs + 13 ≤ depth + l → Agree n xs ys → Chained l n (p l xs) (q l ys)) where
  level_local : (l : ℕ) → l ≤ 12 → (xs ys : Lexemes) → 13 * length xs + 12 ≤ depth + l → Agree n xs ys → Chained l n (level p l xs) (level q l ys)
  unfolding level
  level_local l le xs ys enough h =
      let P : Parser Expr → Parser Expr → Type 0 = λ f g. Chained l n (f xs) (g ys) in
      by_test (eqb l 1) (implication p) (cond (eqb l 5) (prefixed p) (cond (eqb l 12) (primary p) (chain p l))) (implication q) (cond (eqb l 5) (prefixed q) (cond (eqb l 12) (primary q) (chain q l))) P
      (λ e. let is = eqb-true l 1 e in chained_of (implication_local n depth p q walks walks' finished local xs ys (omega arith) h))
      (λ _. by_test (eqb l 5) (prefixed p) (cond (eqb l 12) (primary p) (chain p l)) (prefixed q) (cond (eqb l 12) (primary q) (chain q l)) P
      (λ e. let is = eqb-true l 5 e in chained_of (prefixed_local n depth p q walks walks' finished local xs ys (omega arith) h))
      (λ f. let five = eqb-false l 5 f in by_test (eqb l 12) (primary p) (chain p l) (primary q) (chain q l) P
      (λ e. let is = eqb-true l 12 e in chained_of (primary_local n depth p q walks
      (λ us vs more g. local_of (omega arith) (local 1 (omega arith) us vs more g)) (λ us vs more g. local_of (omega arith) (local 12 (omega arith) us vs more g)) xs ys (omega arith) h))
      (λ e. let other = eqb-false l 12 e in chain_local n depth p q walks walks' finished local l (omega arith) five xs ys enough h)))

pub expr_local : (n depth depth' l : ℕ) → l ≤ 12 → (xs ys : Lexemes) → 13 * length xs + 13 ≤ depth + l → Agree n xs ys → Chained l n (expr depth l xs) (expr depth' l ys)
unfolding expr
expr_local n zero depth' l le xs ys enough h = absurd (omega arith)
expr_local n (suc depth) zero l le xs ys enough h = chained_of local_err
expr_local n (suc depth) (suc depth') l le xs ys enough h =
    level_local n depth (expr depth) (expr depth') (λ i us. expr_walk depth i us) (λ i us. expr_walk depth' i us) (expr_finished depth)
    (λ i ie us vs more g. expr_local n depth depth' i ie us vs more g) l le xs ys (omega arith) h

pub whole_expr_local : {n : ℕ} (xs ys : Lexemes) → Agree n xs ys → Local behind n (whole_expr xs) (whole_expr ys)
unfolding whole_expr
whole_expr_local {n} xs ys h = local_of (omega arith) (expr_local n (13 * length xs + 13) (13 * length ys + 13) 1 (omega arith) xs ys (omega arith) h)

pub whole_exprs_local : {n : ℕ} (xs ys : Lexemes) → Agree n xs ys → Local behind n (whole_exprs xs) (whole_exprs ys)
unfolding whole_exprs
whole_exprs_local {n} xs ys h = separated_local (k.Mark m.Comma) (mark m.Comma) whole_expr whole_expr (Reads 1) whole_expr_walk (some_expr 1 (omega arith)) n (length xs)
    (λ us vs le g. whole_expr_local us vs g) (length xs) (length ys) [] [] xs ys (omega arith) (omega arith) h
