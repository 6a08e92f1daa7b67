-- The parsers of single words and lists do the same on lexemes that agree.
use Rattle.std.proofs.Common.{◌≡◌, ℕ, zero, suc, ◌<◌, ◌≤◌, Bool, leb, List, [], ◌∷◌, ◌++◌, length, Ok, ap, arith}
use Rattle.cov_syntax.specs.declared.lexeme.Terminal.{Terminal}
use Rattle.cov_syntax.specs.declared.lexeme.Terminal.TheVariants as k
use Rattle.cov_syntax.specs.declared.marks.Mark.TheVariants as m
use Rattle.cov_syntax.specs.Lexemes.{Lexemes, kind, next, value, same, greatest_number}
use Rattle.cov_syntax.specs.Reading.{ReadsName}
use Rattle.cov_grammar.specs.Steps.{Parser, name, spelled_name, magnitude, int, separated, many, in_parens, path}
use Rattle.cov_first_fault.proofs.Steps.{Any, Is, IsPlain, Some, Walks}
use Rattle.cov_first_fault.proofs.ListWalks.{behind, name_walk, some_name, spelled_walk, magnitude_walk, int_walk, separated_walk, after_item_walk, many_walk, in_parens_walk, inside, inside_walk, closed, plain_dot, plain_close}
use Rattle.cov_first_fault.proofs.Agreement.{within, leaves, next_shorter, Agree, Local, local_err, local_past, local_ok, local_then, before, local_cond, local_great, token_local}

-- ---- single words

pub name_local : {n : ℕ} (xs ys : Lexemes) → Agree n xs ys → Local behind n (name xs) (name ys)
unfolding name
name_local xs ys h = before xs ys h (name_walk xs) (λ lt d. local_cond (same (kind xs) k.Name) (same (kind ys) k.Name) (ap (λ c. same c k.Name) d.kinds) (λ e. local_ok d.behind) (λ e. local_err))

pub spelled_local : {n : ℕ} (xs ys : Lexemes) → Agree n xs ys → Local behind n (spelled_name xs) (spelled_name ys)
unfolding spelled_name
spelled_local xs ys h = before xs ys h (spelled_walk xs) (λ lt d. local_cond (same (kind xs) k.Name) (same (kind ys) k.Name) (ap (λ c. same c k.Name) d.kinds) (λ e. local_ok d.behind) (λ e. local_err))

magnitude_local : {n : ℕ} (xs ys : Lexemes) → Agree n xs ys → Local behind n (magnitude xs) (magnitude ys)
unfolding magnitude
magnitude_local xs ys h = before xs ys h (magnitude_walk xs) (λ lt d. local_cond (same (kind xs) k.Number) (same (kind ys) k.Number) (ap (λ c. same c k.Number) d.kinds)
    (λ e. local_great (length xs) (length ys) (value xs, next xs) (value ys, next ys) (leb (value xs) greatest_number) (leb (value ys) greatest_number) d.behind)
    (λ e. local_err))

pub int_local : {n : ℕ} (xs ys : Lexemes) → Agree n xs ys → Local behind n (int xs) (int ys)
unfolding int
int_local xs ys h = before xs ys h (int_walk xs) (λ lt d. local_cond (same (kind xs) (k.Mark m.Minus)) (same (kind ys) (k.Mark m.Minus)) (ap (λ c. same c (k.Mark m.Minus)) d.kinds)
    (λ e. local_then (magnitude_local (next xs) (next ys) d.behind) (λ a b ea eb g. local_ok g))
    (λ e. local_then (magnitude_local xs ys h) (λ a b ea eb g. local_ok g)))

-- ---- lists

-- items, of lexemes that are no more than so many
module _ {A : Type 0} (separator : Terminal) (is_plain : IsPlain (Is separator)) (item item' : Parser A) (R : Lexemes → A → Lexemes → Type 0)
    (walks : (xs : Lexemes) → Walks behind (Any R) xs (item xs)) (some : Some (Any R)) (n most : ℕ)
    (local : (xs ys : Lexemes) → length xs ≤ most → Agree n xs ys → Local behind n (item xs) (item' ys)) where
  pub separated_local : (i j : ℕ) (found found' : List A) (xs ys : Lexemes) → length xs ≤ i → length xs ≤ most → Agree n xs ys → Local behind n (separated separator item i found xs) (separated separator item' j found' ys)
  unfolding separated
  separated_local zero j found found' xs ys room small h = local_past (within (separated_walk separator is_plain item R walks some zero found xs) (omega arith))
  separated_local (suc i) zero found found' xs ys room small h = local_err
  separated_local (suc i) (suc j) found found' xs ys room small h = local_then (local xs ys small h) (λ a b ea eb g.
      let less = leaves (walks xs) ea in
      before a.1 b.1 g (after_item_walk separator is_plain item R walks some i found a) (λ lt d.
      let shorter = next_shorter a.1 (omega arith) in
      local_cond (same (kind a.1) separator) (same (kind b.1) separator) (ap (λ c. same c separator) d.kinds)
      (λ e. separated_local i j (found ++ a.0 ∷ []) (found' ++ b.0 ∷ []) (next a.1) (next b.1) (omega arith) (omega arith) d.behind)
      (λ e. local_ok g)))

module _ {A : Type 0} (begins : Terminal → Bool) (item : Parser A) (R : Lexemes → A → Lexemes → Type 0)
    (walks : (xs : Lexemes) → Walks behind (Any R) xs (item xs)) (n : ℕ)
    (strict : (xs : Lexemes) (a : A × Lexemes) → item xs ≡ Ok a → length a.1 < length xs)
    (local : (xs ys : Lexemes) → Agree n xs ys → Local behind n (item xs) (item ys)) where
  pub many_local : (i j : ℕ) (found found' : List A) (xs ys : Lexemes) → length xs ≤ i → length ys ≤ j → Agree n xs ys → Local behind n (many begins item i found xs) (many begins item j found' ys)
  unfolding many
  many_local zero j found found' xs ys room room' h = local_past (within (many_walk begins item R walks zero found xs) (omega arith))
  many_local (suc i) zero found found' xs ys room room' h = before xs ys h (many_walk begins item R walks (suc i) found xs) (λ lt d. let some = d.some in absurd (omega arith))
  many_local (suc i) (suc j) found found' xs ys room room' h = before xs ys h (many_walk begins item R walks (suc i) found xs) (λ lt d.
      local_cond (begins (kind xs)) (begins (kind ys)) (ap begins d.kinds)
      (λ e. local_then (local xs ys h) (λ a b ea eb g.
      let less = strict xs a ea in let less' = strict ys b eb in
      many_local i j (found ++ a.0 ∷ []) (found' ++ b.0 ∷ []) a.1 b.1 (omega arith) (omega arith) g))
      (λ e. local_ok h))

module _ {A : Type 0} (list : Parser (List A)) (R : Lexemes → List A → Lexemes → Type 0)
    (walks : (xs : Lexemes) → Walks behind (Any R) xs (list xs)) (n : ℕ)
    (local : (xs ys : Lexemes) → Agree n xs ys → Local behind n (list xs) (list ys)) where
  closed_local : (a b : List A × Lexemes) → Agree n a.1 b.1 → Local behind n (closed list R walks a) (closed list R walks b)
  closed_local a b h = local_then (token_local (k.Mark m.CloseParen) plain_close a.1 b.1 h) (λ x y ea eb g. local_ok g)

  inside_local : (xs ys : Lexemes) → Agree n xs ys → Local behind n (inside list R walks xs) (inside list R walks ys)
  inside_local xs ys h = before xs ys h (inside_walk list R walks xs) (λ lt d. local_cond (same (kind xs) (k.Mark m.CloseParen)) (same (kind ys) (k.Mark m.CloseParen)) (ap (λ c. same c (k.Mark m.CloseParen)) d.kinds)
      (λ e. local_ok d.behind)
      (λ e. local_then (local xs ys h) (λ a b ea eb g. closed_local a b g)))

  pub in_parens_local : (xs ys : Lexemes) → Agree n xs ys → Local behind n (in_parens list xs) (in_parens list ys)
  unfolding in_parens
  in_parens_local xs ys h = before xs ys h (in_parens_walk list R walks xs) (λ lt d. local_cond (same (kind xs) (k.Mark m.OpenParen)) (same (kind ys) (k.Mark m.OpenParen)) (ap (λ c. same c (k.Mark m.OpenParen)) d.kinds)
      (λ e. inside_local (next xs) (next ys) d.behind)
      (λ e. local_ok h))

-- ---- paths

pub path_local : {n : ℕ} (xs ys : Lexemes) → Agree n xs ys → Local behind n (path xs) (path ys)
unfolding path
path_local {n} xs ys h = separated_local (k.Mark m.Dot) plain_dot name name ReadsName name_walk some_name n (length xs) (λ us vs le g. name_local us vs g) (length xs) (length ys) [] [] xs ys (omega arith) (omega arith) h
