-- A lexeme adds at most one to the sum of the counts, and the scan goes on lexeme by lexeme.
use Rattle.std.proofs.Common.{◌≡◌, ℕ, zero, suc, ◌+◌, ◌-◌, ◌<◌, ◌≤◌, Bool, true, false, cond, ltb, List, [], ◌∷◌, ◌++◌, length, take, drop, sum, get_or, set, Option, Some, None, refl, sym, ap, ◌∙◌, arith}
use Rattle.std.proofs.lemmas.List.Sums.{sum_by-cons}
use Rattle.std.specs.Prelude.{◌||◌, max}
use Rattle.std.proofs.lemmas.Bool.{ltb-false}
use Rattle.std.proofs.lemmas.List.{length-drop, drop_more}
use Rattle.cov_syntax.specs.declared.lexeme.Lexeme.{Lexeme}
use Rattle.cov_syntax.specs.declared.lexeme.Role.{Role}
use Rattle.cov_syntax.specs.declared.lexeme.Role.TheVariants as role
use Rattle.cov_syntax.specs.Lexemes.{Lexemes}
use Rattle.cov_syntax.specs.Limits.{Counts, role_of, counts_after, declares_after, is_over, deep}

sum_cons : (x : ℕ) (s : List ℕ) → sum (x ∷ s) ≡ x + sum s
sum_cons x s = sum_by-cons (λ y. y) x s

sum_one_more : (s : List ℕ) (i : ℕ) → sum (set s i (get_or s i 0 + 1)) ≤ suc (sum s)
sum_one_more [] i = omega arith
sum_one_more (x ∷ s) zero = omega (arith, sum_cons (x + 1) s, sum_cons x s)
sum_one_more (x ∷ s) (suc i) = omega (arith, sum_one_more s i, sum_cons x (set s i (get_or s i 0 + 1)), sum_cons x s)

sum_none : (s : List ℕ) (i : ℕ) → sum (set s i 0) ≤ sum s
sum_none [] i = omega arith
sum_none (x ∷ s) zero = omega (arith, sum_cons 0 s, sum_cons x s)
sum_none (x ∷ s) (suc i) = omega (arith, sum_none s i, sum_cons x (set s i 0), sum_cons x s)

sum_push : (s : List ℕ) → sum (s ++ 0 ∷ []) ≤ sum s
sum_push [] = omega arith
sum_push (x ∷ s) = omega (arith, sum_push s, sum_cons x (s ++ 0 ∷ []), sum_cons x s)

sum_front : (n : ℕ) (s : List ℕ) → sum (take n s) ≤ sum s
sum_front zero s = omega arith
sum_front (suc n) [] = omega arith
sum_front (suc n) (x ∷ s) = omega (arith, sum_front n s, sum_cons x (take n s), sum_cons x s)

sum_paren : (b : Bool) (s : List ℕ) → sum (cond b (set s (length s - 1) 0) (s ++ 0 ∷ [])) ≤ sum s
sum_paren true s = sum_none s (length s - 1)
sum_paren false s = sum_push s

pub count_sum : (r : Role) (declares : Bool) (s : List ℕ) → sum (counts_after r declares s) ≤ suc (sum s)
count_sum role.Operator declares s = sum_one_more s (length s - 1)
count_sum role.OpensParen declares s = omega (arith, sum_paren declares s)
count_sum role.Opens declares s = omega (arith, sum_push s)
count_sum role.Closes declares s = omega (arith, sum_front (max 1 (length s - 1)) s)
count_sum role.Separates declares s = omega (arith, sum_none s (length s - 1))
count_sum role.Declares declares s = omega (arith, sum_cons 0 [])
count_sum role.Begins declares s = omega (arith, sum_cons 0 [])
count_sum role.Other declares s = omega arith

-- one lexeme of the scan
deep_at : (declares : Bool) (s : Counts) (ts : Lexemes) (i : ℕ) (d : Lexeme) → i < length ts
    → deep declares s (drop i ts) ≡ cond (is_over (counts_after (role_of (get_or ts i d).kind) declares s)) (Some (length ts - i))
    (deep (declares_after (role_of (get_or ts i d).kind) declares s) (counts_after (role_of (get_or ts i d).kind) declares s) (drop (i + 1) ts))
unfolding deep
deep_at declares s ts i d lt =
    let r : Role = role_of (get_or ts i d).kind in
    let whole : drop i ts ≡ get_or ts i d ∷ drop (i + 1) ts = drop_more ts i d lt in
    let left : suc (length (drop (i + 1) ts)) ≡ length ts - i = omega (arith, length-drop (i + 1) ts) in
    ap (λ (xs : Lexemes). deep declares s xs) whole
    ∙ ap (λ n. cond (is_over (counts_after r declares s)) (Some n) (deep (declares_after r declares s) (counts_after r declares s) (drop (i + 1) ts))) left

module _ (declares : Bool) (s new seen : Counts) (ts : Lexemes) (i : ℕ) (d : Lexeme) (r : Role) (after : Bool) (whole : Option ℕ) (lt : i < length ts) (role_is : r ≡ role_of (get_or ts i d).kind)
    (put : new ≡ counts_after r declares s) (after_is : after ≡ declares_after r declares s) (same : seen ≡ new) (reads : deep declares s (drop i ts) ≡ whole) where
  new_is : new ≡ counts_after (role_of (get_or ts i d).kind) declares s
  new_is = put ∙ ap (λ (q : Role). counts_after q declares s) role_is

  then_is : after ≡ declares_after (role_of (get_or ts i d).kind) declares s
  then_is = after_is ∙ ap (λ (q : Role). declares_after q declares s) role_is

  abbrev rest : Option ℕ
  rest = deep (declares_after (role_of (get_or ts i d).kind) declares s) (counts_after (role_of (get_or ts i d).kind) declares s) (drop (i + 1) ts)

  pub deep_stops : true ≡ is_over seen → Some (length ts - i) ≡ whole
  deep_stops over =
      let e : is_over (counts_after (role_of (get_or ts i d).kind) declares s) ≡ true = ap is_over (sym (same ∙ new_is)) ∙ sym over in
      ap (λ b. cond b (Some (length ts - i)) rest) (sym e) ∙ sym (deep_at declares s ts i d lt) ∙ reads

  pub deep_goes : false ≡ is_over seen → deep after new (drop (i + 1) ts) ≡ whole
  deep_goes under =
      let e : is_over (counts_after (role_of (get_or ts i d).kind) declares s) ≡ false = ap is_over (sym (same ∙ new_is)) ∙ sym under in
      ap (λ (q : Counts). deep after q (drop (i + 1) ts)) new_is
      ∙ ap (λ b. deep b (counts_after (role_of (get_or ts i d).kind) declares s) (drop (i + 1) ts)) then_is
      ∙ ap (λ b. cond b (Some (length ts - i)) rest) (sym e) ∙ sym (deep_at declares s ts i d lt) ∙ reads

or_false : (a b : Bool) → false ≡ (a || b) → b ≡ false
or_false true b e = absurd cc
or_false false b e = sym e

pub still_small : (s : Counts) → false ≡ is_over s → sum s ≤ 1000
still_small s e = ltb-false 1000 (sum s) (or_false (ltb 129 (length s)) (ltb 1000 (sum s)) e)

pub deep_end : (declares : Bool) (s : Counts) (ts : Lexemes) (i : ℕ) → length ts ≤ i → deep declares s (drop i ts) ≡ None
unfolding deep
deep_end declares s ts i le = go (drop i ts) (omega (arith, length-drop i ts))
  where
    go : (xs : Lexemes) → length xs ≡ 0 → deep declares s xs ≡ None
    go [] e = refl
    go (t ∷ xs) e = absurd (omega arith)
