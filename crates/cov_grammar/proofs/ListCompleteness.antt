-- What the grammar reads as a single word or a list, the function reads.
use Rattle.std.proofs.Common.{◌≡◌, ◌≢◌, ℕ, zero, suc, ◌<◌, ◌≤◌, Bool, true, false, cond, List, [], ◌∷◌, ◌++◌, length, Ok, refl, sym, ap, ◌∙◌, arith, append_assoc, append-nil}
use Rattle.std.proofs.lemmas.Bool.{le-leb}
use Rattle.std.specs.Prelude.{ℤ}
use Rattle.cov_syntax.specs.declared.lexeme.Lexeme.{Lexeme}
use Rattle.cov_syntax.specs.declared.lexeme.Terminal.{Terminal}
use Rattle.cov_syntax.specs.declared.lexeme.Terminal.TheVariants as k
use Rattle.cov_syntax.specs.declared.marks.Mark.TheVariants as m
use Rattle.cov_syntax.specs.declared.program.Spelled.{Spelled}
use Rattle.cov_syntax.specs.Lexemes.{Lexemes, kind, greatest_number}
use Rattle.cov_syntax.specs.Reading.{ReadsSeparated, ReadsInt, ReadsName, ReadsPath}
use Rattle.cov_syntax.specs.Programs.{ReadsInParens, ReadsMany, ReadsSpelled}
use Rattle.cov_grammar.specs.Steps.{Parser, refuse, expect, name, spelled_name, magnitude, int, separated, many, in_parens, path}
use Rattle.cov_grammar.proofs.StepLemmas.{same_at, not_same}

-- ---- single words

pub expects : {c : Terminal} (t : Lexeme) (ys : Lexemes) → t.kind ≡ c → expect c (t ∷ ys) ≡ Ok ys
unfolding expect
expects {c} t ys e = ap (λ b. cond b (Ok ys) (refuse (t ∷ ys))) (same_at t.kind c e)

pub name_answers : {xs ys : Lexemes} {i : ℕ} → ReadsName xs i ys → name xs ≡ Ok (i, ys)
unfolding name
name_answers (ReadsName.name {t = t} e) = rw (same_at t.kind k.Name e) refl

pub name_shorter : {xs ys : Lexemes} {i : ℕ} → ReadsName xs i ys → length ys < length xs
name_shorter (ReadsName.name e) = omega arith

pub name_first : {xs ys : Lexemes} {i : ℕ} → ReadsName xs i ys → kind xs ≡ k.Name
name_first (ReadsName.name e) = e

pub spelled_answers : {xs ys : Lexemes} {i : Spelled} → ReadsSpelled xs i ys → spelled_name xs ≡ Ok (i, ys)
unfolding spelled_name
spelled_answers (ReadsSpelled.name {t = t} e) = rw (same_at t.kind k.Name e) refl

pub spelled_shorter : {xs ys : Lexemes} {i : Spelled} → ReadsSpelled xs i ys → length ys < length xs
spelled_shorter (ReadsSpelled.name e) = omega arith

pub spelled_first : {xs ys : Lexemes} {i : Spelled} → ReadsSpelled xs i ys → kind xs ≡ k.Name
spelled_first (ReadsSpelled.name e) = e

number_answers : (t : Lexeme) (xs : Lexemes) → t.kind ≡ k.Number → t.value ≤ greatest_number → magnitude (t ∷ xs) ≡ Ok (t.value, xs)
unfolding magnitude
number_answers t xs e le = rw (same_at t.kind k.Number e, le-leb t.value greatest_number le) refl

pub int_answers : {xs ys : Lexemes} {i : ℤ} → ReadsInt xs i ys → int xs ≡ Ok (i, ys)
unfolding int
int_answers (ReadsInt.plain {xs = xs} {t = t} e le) = let other : t.kind ≢ k.Mark m.Minus = λ h. cc in rw (not_same t.kind (k.Mark m.Minus) other, number_answers t xs e le) refl
int_answers (ReadsInt.minus {xs = xs} {t = t} {u = u} e f le) = rw (same_at t.kind (k.Mark m.Minus) e, number_answers u xs f le) refl

pub int_shorter : {xs ys : Lexemes} {i : ℤ} → ReadsInt xs i ys → length ys < length xs
int_shorter (ReadsInt.plain e le) = omega arith
int_shorter (ReadsInt.minus e f le) = omega arith

-- ---- lists

module _ {A : Type 0} (separator : Terminal) (item : Parser A) (R : Lexemes → A → Lexemes → Type 0) (Ends : Lexemes → Type 0)
    (answers : (xs : Lexemes) (a : A) (ys : Lexemes) → R xs a ys → Ends ys → item xs ≡ Ok (a, ys))
    (shorter : (xs : Lexemes) (a : A) (ys : Lexemes) → R xs a ys → length ys < length xs)
    (separates : (t : Lexeme) (ys : Lexemes) → t.kind ≡ separator → Ends (t ∷ ys)) where
  pub separated_answers : {xs ys : Lexemes} {found : List A} → ReadsSeparated separator R xs found ys → Ends ys → kind ys ≢ separator
      → (n : ℕ) (before : List A) → length xs ≤ n → separated separator item n before xs ≡ Ok (before ++ found, ys)
  unfolding separated
  separated_answers (ReadsSeparated.last {xs = xs} {ys = ys} {a = a} p) s h zero before le = let first = shorter xs a ys p in absurd (omega arith)
  separated_answers (ReadsSeparated.last {xs = xs} {ys = ys} {a = a} p) s h (suc n) before le = rw (answers xs a ys p s, not_same (kind ys) separator h) refl
  separated_answers (ReadsSeparated.more {xs = xs} {ys = ys} {t = t} {a = a} e p q) s h zero before le = let first = shorter xs a (t ∷ ys) p in absurd (omega arith)
  separated_answers (ReadsSeparated.more {xs = xs} {ys = ys} {zs = zs} {t = t} {a = a} {as' = others} e p q) s h (suc n) before le =
      let first = shorter xs a (t ∷ ys) p in
      rw (answers xs a (t ∷ ys) p (separates t ys e), same_at t.kind separator e)
      (separated_answers q s h n (before ++ a ∷ []) (omega arith) ∙ ap (λ (l : List A). Ok (l, zs)) (append_assoc before (a ∷ []) others))

  pub separated_shorter : {xs ys : Lexemes} {found : List A} → ReadsSeparated separator R xs found ys → length ys < length xs
  separated_shorter (ReadsSeparated.last {xs = xs} {ys = ys} {a = a} p) = shorter xs a ys p
  separated_shorter (ReadsSeparated.more {xs = xs} {ys = ys} {t = t} {a = a} e p q) = let first = shorter xs a (t ∷ ys) p in let others = separated_shorter q in omega arith

pub separated_first : {A : Type 0} {separator : Terminal} {R : Lexemes → A → Lexemes → Type 0} {xs ys : Lexemes} {found : List A} (P : Terminal → Type 0)
    → ((xs : Lexemes) (a : A) (ys : Lexemes) → R xs a ys → P (kind xs)) → ReadsSeparated separator R xs found ys → P (kind xs)
separated_first P first (ReadsSeparated.last {xs = xs} {ys = ys} {a = a} p) = first xs a ys p
separated_first P first (ReadsSeparated.more {xs = xs} {ys = ys} {t = t} {a = a} e p q) = first xs a (t ∷ ys) p

module _ {A : Type 0} (begins : Terminal → Bool) (item : Parser A) (R : Lexemes → A → Lexemes → Type 0)
    (answers : (xs : Lexemes) (a : A) (ys : Lexemes) → R xs a ys → item xs ≡ Ok (a, ys))
    (shorter : (xs : Lexemes) (a : A) (ys : Lexemes) → R xs a ys → length ys < length xs)
    (first : (xs : Lexemes) (a : A) (ys : Lexemes) → R xs a ys → begins (kind xs) ≡ true) where
  pub many_answers : {xs ys : Lexemes} {found : List A} → ReadsMany R xs found ys → begins (kind ys) ≡ false
      → (n : ℕ) (before : List A) → length xs ≤ n → many begins item n before xs ≡ Ok (before ++ found, ys)
  unfolding many
  many_answers (ReadsMany.none {xs = xs}) h zero before le = ap (λ (l : List A). Ok (l, xs)) (sym (append-nil before))
  many_answers (ReadsMany.none {xs = xs}) h (suc n) before le = rw h (ap (λ (l : List A). Ok (l, xs)) (sym (append-nil before)))
  many_answers (ReadsMany.more {xs = xs} {ys = ys} {a = a} p q) h zero before le = let less = shorter xs a ys p in absurd (omega arith)
  many_answers (ReadsMany.more {xs = xs} {ys = ys} {zs = zs} {a = a} {found = others} p q) h (suc n) before le =
      let less = shorter xs a ys p in
      rw (first xs a ys p, answers xs a ys p)
      (many_answers q h n (before ++ a ∷ []) (omega arith) ∙ ap (λ (l : List A). Ok (l, zs)) (append_assoc before (a ∷ []) others))

  pub many_shorter : {xs ys : Lexemes} {found : List A} → ReadsMany R xs found ys → length ys ≤ length xs
  many_shorter ReadsMany.none = omega arith
  many_shorter (ReadsMany.more {xs = xs} {ys = ys} {a = a} p q) = let less = shorter xs a ys p in let others = many_shorter q in omega arith

module _ {A : Type 0} (list : Parser (List A)) (R : Lexemes → List A → Lexemes → Type 0)
    (answers : (xs : Lexemes) (found : List A) (t : Lexeme) (ys : Lexemes) → R xs found (t ∷ ys) → t.kind ≡ k.Mark m.CloseParen → list xs ≡ Ok (found, t ∷ ys))
    (first : (xs : Lexemes) (found : List A) (ys : Lexemes) → R xs found ys → kind xs ≢ k.Mark m.CloseParen)
    (shorter : (xs : Lexemes) (found : List A) (ys : Lexemes) → R xs found ys → length ys < length xs) where
  pub in_parens_answers : {xs ys : Lexemes} {found : List A} → ReadsInParens R xs found ys → kind ys ≢ k.Mark m.OpenParen → in_parens list xs ≡ Ok (found, ys)
  unfolding in_parens
  in_parens_answers (ReadsInParens.absent {xs = xs}) h = rw (not_same (kind xs) (k.Mark m.OpenParen) h) refl
  in_parens_answers (ReadsInParens.empty {o = o} {c = c} e f) h = rw (same_at o.kind (k.Mark m.OpenParen) e, same_at c.kind (k.Mark m.CloseParen) f) refl
  in_parens_answers (ReadsInParens.filled {xs = xs} {ys = ys} {o = o} {c = c} {found = found} e f p) h =
      rw (same_at o.kind (k.Mark m.OpenParen) e, not_same (kind xs) (k.Mark m.CloseParen) (first xs found (c ∷ ys) p), answers xs found c ys p f, expects c ys f) refl

  pub in_parens_shorter : {xs ys : Lexemes} {found : List A} → ReadsInParens R xs found ys → length ys ≤ length xs
  in_parens_shorter ReadsInParens.absent = omega arith
  in_parens_shorter (ReadsInParens.empty e f) = omega arith
  in_parens_shorter (ReadsInParens.filled {xs = xs} {ys = ys} {c = c} {found = found} e f p) = let less = shorter xs found (c ∷ ys) p in omega arith

-- ---- paths

pub path_answers : {xs ys : Lexemes} {names : List ℕ} → ReadsPath xs names ys → kind ys ≢ k.Mark m.Dot → path xs ≡ Ok (names, ys)
unfolding path
path_answers {xs} p h = separated_answers (k.Mark m.Dot) name ReadsName (λ ys. Unit {0}) (λ xs a ys q s. name_answers q) (λ xs a ys q. name_shorter q) (λ t ys e. tt) p tt h (length xs) [] (omega arith)

pub path_shorter : {xs ys : Lexemes} {names : List ℕ} → ReadsPath xs names ys → length ys < length xs
path_shorter p = separated_shorter (k.Mark m.Dot) name ReadsName (λ ys. Unit {0}) (λ xs a ys q s. name_answers q) (λ xs a ys q. name_shorter q) (λ t ys e. tt) p

pub path_first : {xs ys : Lexemes} {names : List ℕ} → ReadsPath xs names ys → kind xs ≡ k.Name
path_first p = separated_first (λ c. c ≡ k.Name) (λ xs a ys q. name_first q) p
