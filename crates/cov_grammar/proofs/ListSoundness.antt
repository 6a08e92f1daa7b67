-- What the steps for single words and lists read is in the grammar.
use Rattle.std.proofs.Common.{◌≡◌, ◌≢◌, ℕ, zero, suc, ◌≤◌, Bool, List, [], ◌∷◌, ◌++◌, length, refl, sym, subst, ◌∙◌, append_assoc, append-nil}
use Rattle.std.proofs.lemmas.Bool.{leb-true}
use Rattle.std.specs.Prelude.{pos, neg_ℤ, nat_le}
use Rattle.cov_syntax.specs.declared.lexeme.Terminal.{Terminal}
use Rattle.cov_syntax.specs.declared.lexeme.Terminal.TheVariants as k
use Rattle.cov_syntax.specs.declared.marks.Mark.TheVariants as m
use Rattle.cov_syntax.specs.Lexemes.{Lexemes, kind, next, value, same, spelled, greatest_number}
use Rattle.cov_syntax.specs.Reading.{ReadsSeparated, ReadsInt, ReadsName, ReadsPath}
use Rattle.cov_syntax.specs.Programs.{ReadsInParens, ReadsMany, ReadsSpelled}
use Rattle.cov_grammar.specs.Steps.{Parser, name, spelled_name, magnitude, int, separated, many, in_parens, path}
use Rattle.cov_grammar.proofs.StepLemmas.{Gives, then, gives_ok, gives_err, choose, weaker, token, expecting, same_is}

-- ---- single words

name_at : (xs : Lexemes) → kind xs ≡ k.Name → ReadsName xs (value xs) (next xs)
name_at [] e = absurd cc
name_at (t ∷ xs) e = ReadsName.name e

pub name_sound : (xs : Lexemes) → Gives (name xs) (λ x. ReadsName xs x.0 x.1)
unfolding name
name_sound xs = choose (same (kind xs) k.Name) (λ e. gives_ok (name_at xs (same_is (kind xs) k.Name e))) (λ e. gives_err)

spelled_at : (xs : Lexemes) → kind xs ≡ k.Name → ReadsSpelled xs (spelled xs) (next xs)
spelled_at [] e = absurd cc
spelled_at (t ∷ xs) e = ReadsSpelled.name e

pub spelled_name_sound : (xs : Lexemes) → Gives (spelled_name xs) (λ x. ReadsSpelled xs x.0 x.1)
unfolding spelled_name
spelled_name_sound xs = choose (same (kind xs) k.Name) (λ e. gives_ok (spelled_at xs (same_is (kind xs) k.Name e))) (λ e. gives_err)

-- a number that may stand
record IsMagnitude (xs : Lexemes) (n : ℕ) (ys : Lexemes) : Type 0 where
  kind_is : kind xs ≡ k.Number
  value_is : n ≡ value xs
  small : value xs ≤ greatest_number
  rest_is : ys ≡ next xs

magnitude_sound : (xs : Lexemes) → Gives (magnitude xs) (λ x. IsMagnitude xs x.0 x.1)
unfolding magnitude
magnitude_sound xs = choose (same (kind xs) k.Number)
    (λ e. choose (nat_le (value xs) greatest_number)
    (λ f. gives_ok (record { kind_is = same_is (kind xs) k.Number e; value_is = refl; small = leb-true (value xs) greatest_number f; rest_is = refl }))
    (λ f. gives_err))
    (λ e. gives_err)

plain_at : (xs : Lexemes) (n : ℕ) (ys : Lexemes) → IsMagnitude xs n ys → ReadsInt xs (pos n) ys
plain_at [] n ys h = let e = h.kind_is in absurd cc
plain_at (t ∷ xs) n ys h =
    subst (λ (i : ℕ). ReadsInt (t ∷ xs) (pos i) ys) (sym h.value_is) (subst (λ (zs : Lexemes). ReadsInt (t ∷ xs) (pos t.value) zs) (sym h.rest_is) (ReadsInt.plain h.kind_is h.small))

minus_at : (xs : Lexemes) (n : ℕ) (ys : Lexemes) → kind xs ≡ k.Mark m.Minus → IsMagnitude (next xs) n ys → ReadsInt xs (neg_ℤ (pos n)) ys
minus_at [] n ys e h = absurd cc
minus_at (t ∷ []) n ys e h = let f = h.kind_is in absurd cc
minus_at (t ∷ u ∷ xs) n ys e h =
    subst (λ (i : ℕ). ReadsInt (t ∷ u ∷ xs) (neg_ℤ (pos i)) ys) (sym h.value_is)
    (subst (λ (zs : Lexemes). ReadsInt (t ∷ u ∷ xs) (neg_ℤ (pos u.value)) zs) (sym h.rest_is) (ReadsInt.minus e h.kind_is h.small))

pub int_sound : (xs : Lexemes) → Gives (int xs) (λ x. ReadsInt xs x.0 x.1)
unfolding int
int_sound xs = choose (same (kind xs) (k.Mark m.Minus))
    (λ e. then (magnitude_sound (next xs)) (λ i h. gives_ok (minus_at xs i.0 i.1 (same_is (kind xs) (k.Mark m.Minus) e) h)))
    (λ e. then (magnitude_sound xs) (λ i h. gives_ok (plain_at xs i.0 i.1 h)))

-- ---- lists

module _ {A : Type 0} (separator : Terminal) (some : separator ≢ k.Nothing) (item : Parser A) (R : Lexemes → A → Lexemes → Type 0) (reads : (xs : Lexemes) → Gives (item xs) (λ a. R xs a.0 a.1)) where
  more_at : {xs zs : Lexemes} {a : A} {others : List A} (ys : Lexemes) → kind ys ≡ separator → R xs a ys → ReadsSeparated separator R (next ys) others zs → ReadsSeparated separator R xs (a ∷ others) zs
  more_at [] e p q = absurd (some (sym e))
  more_at (t ∷ ys) e p q = ReadsSeparated.more e p q

  -- what was found before, and items that the lexemes are
  abbrev AddsSeparated : List A → Lexemes → List A × Lexemes → Type 0
  AddsSeparated found xs x = (others : List A) × (x.0 ≡ found ++ others) × ReadsSeparated separator R xs others x.1

  separated_from_sound : (m : ℕ) (found : List A) (xs : Lexemes) → Gives (separated separator item m found xs) (AddsSeparated found xs)
  unfolding separated
  separated_from_sound zero found xs = gives_err
  separated_from_sound (suc m) found xs = then (reads xs) (λ a ra. choose (same (kind a.1) separator)
      (λ e. weaker (λ y ry. (a.0 ∷ ry.0, ry.1 ∙ append_assoc found (a.0 ∷ []) ry.0, more_at a.1 (same_is (kind a.1) separator e) ra ry.2)) (separated_from_sound m (found ++ a.0 ∷ []) (next a.1)))
      (λ e. gives_ok (a.0 ∷ [], refl, ReadsSeparated.last ra)))

  pub separated_sound : (m : ℕ) (xs : Lexemes) → Gives (separated separator item m [] xs) (λ x. ReadsSeparated separator R xs x.0 x.1)
  separated_sound m xs = weaker (λ y ry. subst (λ (found : List A). ReadsSeparated separator R xs found y.1) (sym ry.1) ry.2) (separated_from_sound m [] xs)

module _ {A : Type 0} (begins : Terminal → Bool) (item : Parser A) (R : Lexemes → A → Lexemes → Type 0) (reads : (xs : Lexemes) → Gives (item xs) (λ a. R xs a.0 a.1)) where
  pub many_sound : (m : ℕ) (found : List A) (xs : Lexemes) → Gives (many begins item m found xs) (λ x. (others : List A) × (x.0 ≡ found ++ others) × ReadsMany R xs others x.1)
  unfolding many
  many_sound zero found xs = gives_ok ([], sym (append-nil found), ReadsMany.none)
  many_sound (suc m) found xs = choose (begins (kind xs))
      (λ e. then (reads xs) (λ a ra. weaker (λ y ry. (a.0 ∷ ry.0, ry.1 ∙ append_assoc found (a.0 ∷ []) ry.0, ReadsMany.more ra ry.2)) (many_sound m (found ++ a.0 ∷ []) a.1)))
      (λ e. gives_ok ([], sym (append-nil found), ReadsMany.none))

module _ {A : Type 0} (list : Parser (List A)) (R : Lexemes → List A → Lexemes → Type 0) (reads : (xs : Lexemes) → Gives (list xs) (λ a. R xs a.0 a.1)) where
  empty_at : (xs : Lexemes) → kind xs ≡ k.Mark m.OpenParen → kind (next xs) ≡ k.Mark m.CloseParen → ReadsInParens R xs [] (next (next xs))
  empty_at [] e f = absurd cc
  empty_at (o ∷ []) e f = absurd cc
  empty_at (o ∷ c ∷ xs) e f = ReadsInParens.empty e f

  filled_at : (xs ys : Lexemes) (found : List A) → kind xs ≡ k.Mark m.OpenParen → kind ys ≡ k.Mark m.CloseParen → R (next xs) found ys → ReadsInParens R xs found (next ys)
  filled_at [] ys found e f p = absurd cc
  filled_at (o ∷ xs) [] found e f p = absurd cc
  filled_at (o ∷ xs) (c ∷ ys) found e f p = ReadsInParens.filled e f p

  pub in_parens_sound : (xs : Lexemes) → Gives (in_parens list xs) (λ x. ReadsInParens R xs x.0 x.1)
  unfolding in_parens
  in_parens_sound xs = choose (same (kind xs) (k.Mark m.OpenParen))
      (λ e. choose (same (kind (next xs)) (k.Mark m.CloseParen))
      (λ f. gives_ok (empty_at xs (same_is (kind xs) (k.Mark m.OpenParen) e) (same_is (kind (next xs)) (k.Mark m.CloseParen) f)))
      (λ f. then (reads (next xs)) (λ found rf. expecting _ (token (k.Mark m.CloseParen) found.1) (λ c. gives_ok (filled_at xs found.1 found.0 (same_is (kind xs) (k.Mark m.OpenParen) e) c rf)))))
      (λ e. gives_ok ReadsInParens.absent)

pub path_sound : (xs : Lexemes) → Gives (path xs) (λ x. ReadsPath xs x.0 x.1)
unfolding path
path_sound xs = separated_sound (k.Mark m.Dot) (λ h. cc) name ReadsName name_sound (length xs) xs
