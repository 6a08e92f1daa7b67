-- Lemmas on the tokens of a text, front by front.
use Rattle.std.proofs.Common.{◌≡◌, ℕ, zero, suc, ◌+◌, ◌-◌, ◌<◌, ◌≤◌, [], ◌∷◌, length, drop, Err, refl, ap, ◌∙◌, arith}
use Rattle.std.proofs.lemmas.Bool.{lt-ltb, le-ltb}
use Rattle.cov_syntax.specs.declared.fault.FaultKind.TheVariants.{FileTooLong}
use Rattle.cov_syntax.specs.Tokens.{Text, tokens_from, longest_text, fault_at, or_bad_byte, tokens}

-- the bytes that belong to what stands before are passed
tokens_from-passed : (n at : ℕ) (z : Text) → n ≤ length z → tokens_from n at z ≡ tokens_from 0 (at + n) (drop n z)
unfolding tokens_from
tokens_from-passed zero at z le = let e : at ≡ at + 0 = omega arith in ap (λ m. tokens_from 0 m z) e
tokens_from-passed (suc n) at [] le = absurd (omega arith)
tokens_from-passed (suc n) at (b ∷ z) le =
    let e : at + 1 + n ≡ at + suc n = omega arith in tokens_from-passed n (at + 1) z (omega arith) ∙ ap (λ m. tokens_from 0 m (drop n z)) e

-- what stands after a front of so many bytes
pub tokens_from-after : (n at b : ℕ) (z : Text) → 0 < n → n ≤ length (b ∷ z) → tokens_from (n - 1) (at + 1) z ≡ tokens_from 0 (at + n) (drop n (b ∷ z))
tokens_from-after zero at b z some le = absurd (omega arith)
tokens_from-after (suc n) at b z some le =
    let e : suc n - 1 ≡ n = omega arith in
    let g : at + 1 + n ≡ at + suc n = omega arith in
    ap (λ m. tokens_from m (at + 1) z) e ∙ tokens_from-passed n (at + 1) z (omega arith) ∙ ap (λ m. tokens_from 0 m (drop n z)) g

-- a text that is too long has that fault
pub tokens-long : (text : Text) → longest_text < length text → tokens text ≡ Err (fault_at FileTooLong 0 0)
unfolding tokens
tokens-long text long = let e = lt-ltb longest_text (length text) long in rw e refl

-- and any other text is read from its start
pub tokens-short : (text : Text) → length text ≤ longest_text → tokens text ≡ or_bad_byte (tokens_from 0 0 text)
unfolding tokens
tokens-short text short = let e = le-ltb longest_text (length text) short in rw e refl
