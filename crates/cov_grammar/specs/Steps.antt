-- Parsers of lexemes, the steps that they are made of, and those of single words and lists.
use Rattle.std.specs.Prelude.{ℕ, zero, suc, Bool, if◌then◌else◌, nat_le, ℤ, pos, neg_ℤ, List, [], ◌∷◌, ◌++◌, length, Result, Ok, Err}
use Rattle.cov_syntax.specs.declared.lexeme.Terminal.{Terminal}
use Rattle.cov_syntax.specs.declared.lexeme.Terminal.TheVariants as k
use Rattle.cov_syntax.specs.declared.marks.Mark.TheVariants as m
use Rattle.cov_syntax.specs.declared.program.Spelled.{Spelled}
use Rattle.cov_syntax.specs.Lexemes.{Lexemes, kind, next, value, same, spelled, greatest_number}

-- why and where a parser stops; the place is how many lexemes are left, that one among them
pub data Stop : Type 0 where
  -- the lexeme goes on with nothing that the grammar reads
  unread : ℕ → Stop
  -- the number is too great
  too_great : ℕ → Stop

-- what is read from the front, and the rest
abbrev pub Parser : Type 0 → Type 0
Parser A = Lexemes → Result (A × Lexemes) Stop

infixl 10 ◌>>=◌
abbrev pub ◌>>=◌ : {A B : Type 0} → Result A Stop → (A → Result B Stop) → Result B Stop
(Ok x) >>= f = f x
(Err e) >>= f = Err e

-- nothing that begins with the first lexeme is read
abbrev pub refuse : {A : Type 0} → Lexemes → Result A Stop
refuse xs = Err (Stop.unread (length xs))

-- the lexemes after one of this kind
unfoldable pub expect : Terminal → Lexemes → Result Lexemes Stop
expect want xs = if same (kind xs) want then Ok (next xs) else refuse xs

unfoldable pub name : Parser ℕ
name xs = if same (kind xs) k.Name then Ok (value xs, next xs) else refuse xs

unfoldable pub spelled_name : Parser Spelled
spelled_name xs = if same (kind xs) k.Name then Ok (spelled xs, next xs) else refuse xs

unfoldable pub magnitude : Parser ℕ
magnitude xs = if same (kind xs) k.Number then (if nat_le (value xs) greatest_number then Ok (value xs, next xs) else Err (Stop.too_great (length xs))) else refuse xs

unfoldable pub int : Parser ℤ
int xs = if same (kind xs) (k.Mark m.Minus) then (magnitude (next xs) >>= λ i. Ok (neg_ℤ (pos i.0), i.1)) else (magnitude xs >>= λ i. Ok (pos i.0, i.1))

-- items with separators between; the number bounds the turns, and each turn takes a lexeme
unfoldable pub separated : {A : Type 0} → Terminal → Parser A → ℕ → List A → Parser (List A)
separated separator item zero found xs = refuse xs
separated separator item (suc m) found xs = item xs >>= λ a.
    if same (kind a.1) separator then separated separator item m (found ++ a.0 ∷ []) (next a.1) else Ok (found ++ a.0 ∷ [], a.1)

-- items as long as one begins
unfoldable pub many : {A : Type 0} → (Terminal → Bool) → Parser A → ℕ → List A → Parser (List A)
many begins item zero found xs = Ok (found, xs)
many begins item (suc m) found xs = if begins (kind xs) then (item xs >>= λ a. many begins item m (found ++ a.0 ∷ []) a.1) else Ok (found, xs)

-- a list in parentheses; both may be left out, or the list alone
unfoldable pub in_parens : {A : Type 0} → Parser (List A) → Parser (List A)
in_parens list xs =
    if same (kind xs) (k.Mark m.OpenParen)
    then (if same (kind (next xs)) (k.Mark m.CloseParen) then Ok ([], next (next xs)) else (list (next xs) >>= λ found. expect (k.Mark m.CloseParen) found.1 >>= λ rest. Ok (found.0, rest)))
    else Ok ([], xs)

unfoldable pub path : Parser (List ℕ)
path xs = separated (k.Mark m.Dot) name (length xs) [] xs
