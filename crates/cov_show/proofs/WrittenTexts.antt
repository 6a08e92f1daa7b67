-- Texts that are written token by token, from the last token to the first.
use Rattle.std.proofs.Common.{◌≡◌, ℕ, ◌+◌, ◌-◌, ◌<◌, ◌≤◌, List, [], ◌∷◌, ◌++◌, length, map, take, drop, Ok, refl, sym, ap, ◌∙◌, arith, append_assoc}
use Rattle.std.proofs.lemmas.List.{take_at, drop_at, length-append}
use Rattle.cov_syntax.specs.declared.lexeme.Lexeme.{Lexeme}
use Rattle.cov_syntax.specs.declared.token.Token.{Token}
use Rattle.cov_syntax.specs.declared.token.TokenKind.{TokenKind}
use Rattle.cov_syntax.specs.Lexemes.{Lexemes, lexeme_of, terminal_of, meaning}
use Rattle.cov_syntax.specs.Tokens as spec
use Rattle.cov_syntax.specs.Tokens.{Text, front, with_token, with_front, tokens_from}
use Rattle.cov_syntax.proofs.TokenLemmas.{tokens_from-after}

-- A text ends where another one does, of so many bytes, and is cut into these lexemes.
pub record Written (total : ℕ) (names : List Text) (z : Text) (xs : Lexemes) : Type 0 where
  pub tokens : List Token
  pub cut : (at : ℕ) → at + length z ≡ total → tokens_from 0 at z ≡ Ok tokens
  pub meant : (text before : Text) → text ≡ before ++ z → length text ≡ total → map (lexeme_of text names) tokens ≡ xs

pub ends : {total : ℕ} {names : List Text} → Written total names [] []
unfolding tokens_from
ends = record { tokens = []; cut = λ at e. refl; meant = λ text before is len. refl }

pub blank : {total : ℕ} {names : List Text} {z : Text} {xs : Lexemes} → Written total names z xs → Written total names (32 ∷ z) xs
unfolding tokens_from front
blank {total} {names} {z} {xs} h = record {
  tokens = h.tokens;
  cut = λ at e. h.cut (at + 1) (omega (arith, e));
  meant = λ text before is len. h.meant text (before ++ 32 ∷ []) (is ∙ sym (append_assoc before (32 ∷ []) z)) len;
}

-- the token of a word that stands before a rest
abbrev pub token_before : ℕ → TokenKind → Text → Text → Token
token_before total kind w z = record { kind = kind; span = record { start = total - length (w ++ z); stop = total - length z } }

-- and its lexeme
abbrev pub lexeme_before : ℕ → List Text → TokenKind → Text → Text → Lexeme
lexeme_before total names kind w z = record { kind = terminal_of kind; value = meaning names kind w; place = (token_before total kind w z).span }

token_cut : (at : ℕ) (kind : TokenKind) (y z w : Text) → y ≡ w ++ z → 0 < length w → front y ≡ spec.token kind (length w)
    → tokens_from 0 at y ≡ with_token (record { kind = kind; span = record { start = at; stop = at + length w } }) (tokens_from 0 (at + length w) z)
unfolding tokens_from
token_cut at kind [] z w is some e = absurd (omega (arith, ap length is, length-append w z))
token_cut at kind (b ∷ y) z w is some e =
    let fits : length w ≤ length (b ∷ y) = omega (arith, ap length is, length-append w z) in
    let rest : drop (length w) (b ∷ y) ≡ z = ap (λ (x : Text). drop (length w) x) is ∙ drop_at w z (length w) refl in
    ap (λ f. with_front at f (λ m. tokens_from (m - 1) (at + 1) y)) e
    ∙ ap (λ r. with_token (record { kind = kind; span = record { start = at; stop = at + length w } }) r)
    (tokens_from-after (length w) at b y some fits ∙ ap (λ x. tokens_from 0 (at + length w) x) rest)

spelling_before : (before w z text : Text) (total : ℕ) → text ≡ before ++ (w ++ z) → length text ≡ total
    → take (total - length z - (total - length (w ++ z))) (drop (total - length (w ++ z)) text) ≡ w
spelling_before before w z text total is len =
    let lengths : length before + (length w + length z) ≡ total =
    omega (arith, ap length is, length-append before (w ++ z), length-append w z, len) in
    let start : total - length (w ++ z) ≡ length before = omega (arith, length-append w z, lengths) in
    let count : total - length z - (total - length (w ++ z)) ≡ length w = omega (arith, length-append w z, lengths) in
    ap (λ m. take m (drop (total - length (w ++ z)) text)) count
    ∙ ap (λ m. take (length w) (drop m text)) start
    ∙ ap (λ (x : Text). take (length w) (drop (length before) x)) is
    ∙ ap (take (length w)) (drop_at before (w ++ z) (length before) refl)
    ∙ take_at w z (length w) refl

pub word : {total : ℕ} {names : List Text} {xs : Lexemes} (kind : TokenKind) (w z : Text) → 0 < length w → front (w ++ z) ≡ spec.token kind (length w)
    → Written total names z xs → Written total names (w ++ z) (lexeme_before total names kind w z ∷ xs)
word {total} {names} {xs} kind w z some e h = record {
  tokens = token_before total kind w z ∷ h.tokens;
  cut = λ at len.
      let lengths : at + (length w + length z) ≡ total = omega (arith, len, length-append w z) in
      let start : at ≡ total - length (w ++ z) = omega (arith, length-append w z, lengths) in
      let stop : at + length w ≡ total - length z = omega (arith, lengths) in
      token_cut at kind (w ++ z) z w refl some e
      ∙ ap (with_token (record { kind = kind; span = record { start = at; stop = at + length w } })) (h.cut (at + length w) (omega (arith, lengths)))
      ∙ (λ i. Ok (record { kind = kind; span = record { start = start i; stop = stop i } } ∷ h.tokens));
  meant = λ text before is len.
      let spelled = spelling_before before w z text total is len in
      let rest = h.meant text (before ++ w) (is ∙ sym (append_assoc before w z)) len in
      λ i. record { kind = terminal_of kind; value = meaning names kind (spelled i); place = (token_before total kind w z).span } ∷ rest i;
}
