-- Walks of the parsers of single words and lists.
use Rattle.std.proofs.Common.{◌≡◌, ℕ, zero, suc, ◌≤◌, Bool, cond, leb, List, [], ◌∷◌, ◌++◌, length, Result, Ok, refl, arith}
use Rattle.std.proofs.lemmas.Bool.{leb-true, leb-false}
use Rattle.cov_syntax.specs.declared.lexeme.Lexeme.{Lexeme}
use Rattle.cov_syntax.specs.declared.lexeme.Terminal.{Terminal}
use Rattle.cov_syntax.specs.declared.lexeme.Terminal.TheVariants as k
use Rattle.cov_syntax.specs.declared.marks.Mark.TheVariants as m
use Rattle.cov_syntax.specs.Lexemes.{Lexemes, kind, next, same, greatest_number}
use Rattle.cov_syntax.specs.Reading.{ReadsSeparated, ReadsInt, ReadsName, ReadsPath}
use Rattle.cov_syntax.specs.Programs.{ReadsInParens, ReadsMany, ReadsSpelled}
use Rattle.cov_grammar.specs.Steps.{Stop, Parser, ◌>>=◌, expect, name, spelled_name, magnitude, int, separated, many, in_parens, path}
use Rattle.cov_grammar.proofs.StepLemmas.{same_is}
use Rattle.cov_first_fault.proofs.Steps.{Nil, Tok, Seq, Or, Any, Is, Some, Walks, then, widen, mapped, stay, some_nil, some_seq, some_left, some_in, refused, choose, plain, IsPlain, skipping, lexeme, some_token, token_walk}

-- the rest behind a value
abbrev pub behind : {A : Type 0} → A × Lexemes → Lexemes
behind x = x.1

-- ---- single words

name_in : (xs ys : Lexemes) → Seq (Tok (Is k.Name)) Nil xs ys → Any ReadsName xs ys
name_in xs ys (Seq.seq (Tok.tok e) Nil.nil) = Any.any (ReadsName.name e)

pub plain_name : IsPlain (Is k.Name)
plain_name = plain k.Name (λ h. cc) (λ h. cc)

pub some_name : Some (Any ReadsName)
some_name = some_in name_in (some_seq (some_token k.Name) some_nil)

pub name_walk : (xs : Lexemes) → Walks behind (Any ReadsName) xs (name xs)
unfolding name
name_walk xs = choose (same (kind xs) k.Name) (λ e. widen name_in (skipping xs plain_name (same_is (kind xs) k.Name e) (stay _))) (λ e. refused xs some_name)

spelled_in : (xs ys : Lexemes) → Seq (Tok (Is k.Name)) Nil xs ys → Any ReadsSpelled xs ys
spelled_in xs ys (Seq.seq (Tok.tok e) Nil.nil) = Any.any (ReadsSpelled.name e)

pub some_spelled : Some (Any ReadsSpelled)
some_spelled = some_in spelled_in (some_seq (some_token k.Name) some_nil)

pub spelled_walk : (xs : Lexemes) → Walks behind (Any ReadsSpelled) xs (spelled_name xs)
unfolding spelled_name
spelled_walk xs = choose (same (kind xs) k.Name) (λ e. widen spelled_in (skipping xs plain_name (same_is (kind xs) k.Name e) (stay _))) (λ e. refused xs some_spelled)

-- a number that may stand
pub data Magnitude : Lexemes → Lexemes → Type 0 where
  number : {t : Lexeme} {ys : Lexemes} → t.kind ≡ k.Number → t.value ≤ greatest_number → Magnitude (t ∷ ys) ys

some_magnitude : Some Magnitude
some_magnitude = record { taken = lexeme k.Number ∷ []; reads = λ zs. Magnitude.number refl (omega arith) }

pub magnitude_walk : (xs : Lexemes) → Walks behind Magnitude xs (magnitude xs)
unfolding magnitude same
magnitude_walk [] = refused [] some_magnitude
magnitude_walk (t ∷ xs) = choose (same t.kind k.Number)
    (λ e. let is = same_is t.kind k.Number e in choose (leb t.value greatest_number)
    (λ f. let le = leb-true t.value greatest_number f in record { holds = record { front = t ∷ []; split = refl; small = (λ _. le, tt); reads = λ zs. Magnitude.number is le } })
    (λ f. record {
      holds = record {
        front = [];
        number = t;
        rest = xs;
        split = refl;
        places_are = refl;
        small = tt;
        kind_is = is;
        above = leb-false t.value greatest_number f;
        viable = record { others = []; reads = λ zs. Magnitude.number is (omega arith) };
      };
    }))
    (λ e. refused (t ∷ xs) some_magnitude)

plain_in : (xs ys : Lexemes) → Magnitude xs ys → Any ReadsInt xs ys
plain_in xs ys (Magnitude.number e le) = Any.any (ReadsInt.plain e le)

minus_in : (xs ys : Lexemes) → Seq (Tok (Is (k.Mark m.Minus))) Magnitude xs ys → Any ReadsInt xs ys
minus_in xs ys (Seq.seq (Tok.tok e) (Magnitude.number f le)) = Any.any (ReadsInt.minus e f le)

pub some_int : Some (Any ReadsInt)
some_int = some_in plain_in some_magnitude

pub plain_minus : IsPlain (Is (k.Mark m.Minus))
plain_minus = plain (k.Mark m.Minus) (λ h. cc) (λ h. cc)

pub int_walk : (xs : Lexemes) → Walks behind (Any ReadsInt) xs (int xs)
unfolding int
int_walk xs = choose (same (kind xs) (k.Mark m.Minus))
    (λ e. widen minus_in (skipping xs plain_minus (same_is (kind xs) (k.Mark m.Minus) e) (mapped (magnitude_walk (next xs)) (λ i. stay _))))
    (λ e. widen plain_in (mapped (magnitude_walk xs) (λ i. stay _)))

-- ---- lists

module _ {A : Type 0} (separator : Terminal) (is_plain : IsPlain (Is separator)) (item : Parser A) (R : Lexemes → A → Lexemes → Type 0) (walks : (xs : Lexemes) → Walks behind (Any R) xs (item xs)) (some : Some (Any R)) where
  -- nothing, or further items
  abbrev Further : Lexemes → Lexemes → Type 0
  Further = Or Nil (Seq (Tok (Is separator)) (Any (ReadsSeparated separator R)))

  items_in : (xs ys : Lexemes) → Seq (Any R) Further xs ys → Any (ReadsSeparated separator R) xs ys
  items_in xs ys (Seq.seq (Any.any p) (Or.left Nil.nil)) = Any.any (ReadsSeparated.last p)
  items_in xs ys (Seq.seq (Any.any p) (Or.right (Seq.seq (Tok.tok e) (Any.any q)))) = Any.any (ReadsSeparated.more e p q)

  pub some_separated : Some (Any (ReadsSeparated separator R))
  some_separated = some_in items_in (some_seq some (some_left some_nil))

  -- what stands behind an item
  abbrev pub after_item : ℕ → List A → A × Lexemes → Result (List A × Lexemes) Stop
  after_item n found a = cond (same (kind a.1) separator) (separated separator item n (found ++ a.0 ∷ []) (next a.1)) (Ok (found ++ a.0 ∷ [], a.1))

  pub separated_walk : (n : ℕ) (found : List A) (xs : Lexemes) → Walks behind (Any (ReadsSeparated separator R)) xs (separated separator item n found xs)
  unfolding separated
  separated_walk zero found xs = refused xs some_separated
  separated_walk (suc n) found xs = widen items_in (then (some_left some_nil) (walks xs) (λ a. choose (same (kind a.1) separator)
      (λ e. widen (λ us ys h. Or.right h) (skipping a.1 is_plain (same_is (kind a.1) separator e) (separated_walk n (found ++ a.0 ∷ []) (next a.1))))
      (λ e. widen (λ us ys h. Or.left h) (stay _))))

  pub after_item_walk : (n : ℕ) (found : List A) (a : A × Lexemes) → Walks behind Further a.1 (after_item n found a)
  after_item_walk n found a = choose (same (kind a.1) separator)
      (λ e. widen (λ us ys h. Or.right h) (skipping a.1 is_plain (same_is (kind a.1) separator e) (separated_walk n (found ++ a.0 ∷ []) (next a.1))))
      (λ e. widen (λ us ys h. Or.left h) (stay _))

module _ {A : Type 0} (begins : Terminal → Bool) (item : Parser A) (R : Lexemes → A → Lexemes → Type 0) (walks : (xs : Lexemes) → Walks behind (Any R) xs (item xs)) where
  none_in : (xs ys : Lexemes) → Nil xs ys → Any (ReadsMany R) xs ys
  none_in xs ys Nil.nil = Any.any ReadsMany.none

  more_in : (xs ys : Lexemes) → Seq (Any R) (Any (ReadsMany R)) xs ys → Any (ReadsMany R) xs ys
  more_in xs ys (Seq.seq (Any.any p) (Any.any q)) = Any.any (ReadsMany.more p q)

  pub some_many : Some (Any (ReadsMany R))
  some_many = some_in none_in some_nil

  pub many_walk : (n : ℕ) (found : List A) (xs : Lexemes) → Walks behind (Any (ReadsMany R)) xs (many begins item n found xs)
  unfolding many
  many_walk zero found xs = widen none_in (stay _)
  many_walk (suc n) found xs = choose (begins (kind xs))
      (λ e. widen more_in (then some_many (walks xs) (λ a. many_walk n (found ++ a.0 ∷ []) a.1)))
      (λ e. widen none_in (stay _))

pub plain_open : IsPlain (Is (k.Mark m.OpenParen))
plain_open = plain (k.Mark m.OpenParen) (λ h. cc) (λ h. cc)

pub plain_close : IsPlain (Is (k.Mark m.CloseParen))
plain_close = plain (k.Mark m.CloseParen) (λ h. cc) (λ h. cc)

module _ {A : Type 0} (list : Parser (List A)) (R : Lexemes → List A → Lexemes → Type 0) (walks : (xs : Lexemes) → Walks behind (Any R) xs (list xs)) where
  -- what stands behind the `(`
  abbrev Inside : Lexemes → Lexemes → Type 0
  Inside = Or (Tok (Is (k.Mark m.CloseParen))) (Seq (Any R) (Tok (Is (k.Mark m.CloseParen))))

  absent_in : (xs ys : Lexemes) → Nil xs ys → Any (ReadsInParens R) xs ys
  absent_in xs ys Nil.nil = Any.any ReadsInParens.absent

  given_in : (xs ys : Lexemes) → Seq (Tok (Is (k.Mark m.OpenParen))) Inside xs ys → Any (ReadsInParens R) xs ys
  given_in xs ys (Seq.seq (Tok.tok e) (Or.left (Tok.tok f))) = Any.any (ReadsInParens.empty e f)
  given_in xs ys (Seq.seq (Tok.tok e) (Or.right (Seq.seq (Any.any p) (Tok.tok f)))) = Any.any (ReadsInParens.filled e f p)

  empty_in : (xs ys : Lexemes) → Seq (Tok (Is (k.Mark m.CloseParen))) Nil xs ys → Inside xs ys
  empty_in xs ys (Seq.seq t Nil.nil) = Or.left t

  pub some_in_parens : Some (Any (ReadsInParens R))
  some_in_parens = some_in absent_in some_nil

  abbrev pub closed : List A × Lexemes → Result (List A × Lexemes) Stop
  closed found = expect (k.Mark m.CloseParen) found.1 >>= λ rest. Ok (found.0, rest)

  pub closed_walk : (found : List A × Lexemes) → Walks behind (Tok (Is (k.Mark m.CloseParen))) found.1 (closed found)
  closed_walk found = mapped (token_walk (k.Mark m.CloseParen) plain_close found.1) (λ rest. stay _)

  abbrev pub inside : Lexemes → Result (List A × Lexemes) Stop
  inside xs = cond (same (kind xs) (k.Mark m.CloseParen)) (Ok ([], next xs)) (list xs >>= λ found. closed found)

  pub inside_walk : (xs : Lexemes) → Walks behind Inside xs (inside xs)
  inside_walk xs = choose (same (kind xs) (k.Mark m.CloseParen))
      (λ e. widen empty_in (skipping xs plain_close (same_is (kind xs) (k.Mark m.CloseParen) e) (stay _)))
      (λ e. widen (λ us ys h. Or.right h) (then (some_token (k.Mark m.CloseParen)) (walks xs) (λ found. closed_walk found)))

  pub in_parens_walk : (xs : Lexemes) → Walks behind (Any (ReadsInParens R)) xs (in_parens list xs)
  unfolding in_parens
  in_parens_walk xs = choose (same (kind xs) (k.Mark m.OpenParen))
      (λ e. widen given_in (skipping xs plain_open (same_is (kind xs) (k.Mark m.OpenParen) e) (inside_walk (next xs))))
      (λ e. widen absent_in (stay _))

-- ---- paths

pub plain_dot : IsPlain (Is (k.Mark m.Dot))
plain_dot = plain (k.Mark m.Dot) (λ h. cc) (λ h. cc)

pub path_walk : (xs : Lexemes) → Walks behind (Any ReadsPath) xs (path xs)
unfolding path
path_walk xs = separated_walk (k.Mark m.Dot) plain_dot name ReadsName name_walk some_name (length xs) [] xs

pub some_path : Some (Any ReadsPath)
some_path = some_separated (k.Mark m.Dot) plain_dot name ReadsName name_walk some_name
