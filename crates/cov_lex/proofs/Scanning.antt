-- The tokens of a text, front by front, after those that were found.
use Rattle.std.proofs.Common.{◌≡◌, ℕ, ◌+◌, ◌-◌, ◌<◌, ◌≤◌, List, [], ◌∷◌, ◌++◌, length, take, drop, Result, Ok, Err, refl, sym, ap, ◌∙◌, arith, append_assoc}
use Rattle.std.proofs.lemmas.List.{append-nil, length-drop, take_all}
use Rattle.cov_syntax.specs.declared.token.Token.{Token}
use Rattle.cov_syntax.specs.declared.token.TokenKind.{TokenKind}
use Rattle.cov_syntax.specs.Tokens as spec
use Rattle.cov_syntax.specs.Tokens.{Text, front, with_token, with_front, tokens_from}
use Rattle.cov_syntax.proofs.TokenLemmas.{tokens_from-after}

-- the tokens that were found, and then what is still found
abbrev pub and_then : List Token → Result (List Token) ℕ → Result (List Token) ℕ
and_then found (Ok ts) = Ok (found ++ ts)
and_then found (Err at) = Err at

and_then-with_token : (found : List Token) (t : Token) (r : Result (List Token) ℕ) → and_then found (with_token t r) ≡ and_then (found ++ t ∷ []) r
and_then-with_token found t (Ok ts) = ap (λ (l : List Token). Ok l) (sym (append_assoc found (t ∷ []) ts))
and_then-with_token found t (Err e) = refl

-- a token of so many bytes at a place
abbrev pub token_at : TokenKind → ℕ → ℕ → Token
token_at kind at n = record { kind = kind; span = record { start = at; stop = at + n } }

module _ (found : List Token) (at : ℕ) (whole : Result (List Token) ℕ) where
  pub blank_passed : (z : Text) (n : ℕ) → spec.blank n ≡ front z → 0 < length z → (0 < n) × (n ≤ length z) → and_then found (tokens_from 0 at z) ≡ whole
      → and_then found (tokens_from 0 (at + n) (drop n z)) ≡ whole
  unfolding tokens_from
  blank_passed [] n e some fits so_far = absurd (omega arith)
  blank_passed (b ∷ z) n e some fits so_far =
      ap (and_then found) (sym (tokens_from-after n at b z fits.0 fits.1) ∙ ap (λ f. with_front at f (λ m. tokens_from (m - 1) (at + 1) z)) e) ∙ so_far

  pub token_passed : (z : Text) (kind : TokenKind) (n : ℕ) (new : List Token) → spec.token kind n ≡ front z → 0 < length z → (0 < n) × (n ≤ length z)
      → new ≡ found ++ token_at kind at n ∷ [] → and_then found (tokens_from 0 at z) ≡ whole → and_then new (tokens_from 0 (at + n) (drop n z)) ≡ whole
  unfolding tokens_from
  token_passed [] kind n new e some fits put so_far = absurd (omega arith)
  token_passed (b ∷ z) kind n new e some fits put so_far =
      ap (λ (l : List Token). and_then l (tokens_from 0 (at + n) (drop n (b ∷ z)))) put
      ∙ sym (and_then-with_token found (token_at kind at n) (tokens_from 0 (at + n) (drop n (b ∷ z))))
      ∙ ap (λ r. and_then found (with_token (token_at kind at n) r)) (sym (tokens_from-after n at b z fits.0 fits.1))
      ∙ ap (λ f. and_then found (with_front at f (λ m. tokens_from (m - 1) (at + 1) z))) e
      ∙ so_far

  pub nothing_ends : (z : Text) → spec.nothing ≡ front z → 0 < length z → and_then found (tokens_from 0 at z) ≡ whole → whole ≡ Err at
  unfolding tokens_from
  nothing_ends [] e some so_far = absurd (omega arith)
  nothing_ends (b ∷ z) e some so_far = sym so_far ∙ ap (λ f. and_then found (with_front at f (λ m. tokens_from (m - 1) (at + 1) z))) (sym e)

  pub text_ends : (z : Text) → length z ≡ 0 → and_then found (tokens_from 0 at z) ≡ whole → whole ≡ Ok found
  unfolding tokens_from
  text_ends [] e so_far = sym so_far ∙ ap (λ (l : List Token). Ok l) (append-nil found)
  text_ends (b ∷ z) e so_far = absurd (omega arith)

-- what `&text[at..]` is
pub rest_is : (at : ℕ) (z : Text) → take (length z - at) (drop at z) ≡ drop at z
rest_is at z = take_all (length z - at) (drop at z) (omega (arith, length-drop at z))
