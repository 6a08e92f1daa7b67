-- The number of an integer among integers in a row.
use Rattle.std.proofs.Common.{◌≡◌, ℕ, ◌<◌, IsFalse, List, true, Option, Some, None, length, pos, ◌+ℤ◌, ◌<ℤ◌, ◌≤ℤ◌, ◌⊎◌, inl, inr, ℤ, refl, sym, ◌∙◌, ap, subst, arith}
use Rattle.std.proofs.lemmas.Int.{ints}
use Rattle.cov_syntax.specs.declared.tree.Value.{Value}
use Rattle.cov_syntax.specs.declared.tree.Value.TheVariants as v
use Rattle.cov_model.specs.Types.{has_twice}
use Rattle.cov_model.specs.Values.{item, same_value}
use Rattle.cov_model.proofs.Joins.{same_value-eq}
use Rattle.cov_nodes.specs.Numbering.{number_in}
use Rattle.cov_nodes.specs.Tables.{IsRow}
use Rattle.cov_nodes.proofs.Numbers.{number_at, number_found, same_self}

-- an integer of the row
pub in_row : (xs : List Value) (low n : ℤ) (k : ℕ) → IsFalse (has_twice xs) → IsRow xs low → k < length xs → n ≡ low +ℤ pos k → Some k ≡ number_in xs (v.Int n)
in_row xs low n k once row lt e =
    let there : item xs k ≡ v.Int n = row k lt ∙ ap (λ (z : ℤ). v.Int z) (sym e) in
    sym (number_at xs (v.Int n) k once lt (subst (λ (x : Value). same_value x (v.Int n) ≡ true) (sym there) (same_self (v.Int n))))

-- an integer below it or above it
pub out_of_row : (xs : List Value) (low n : ℤ) → IsRow xs low → (n <ℤ low) ⊎ ((low +ℤ pos (length xs)) ≤ℤ n) → None ≡ number_in xs (v.Int n)
out_of_row xs low n row out = by (number_in xs (v.Int n)) refl
  where
    apart : (k : ℕ) → k < length xs → low +ℤ pos k ≡ n → (n <ℤ low) ⊎ ((low +ℤ pos (length xs)) ≤ℤ n) → None ≡ number_in xs (v.Int n)
    apart k lt e (inl h) = absurd (omega (arith, ints))
    apart k lt e (inr h) = absurd (omega (arith, ints))

    by : (o : Option ℕ) → number_in xs (v.Int n) ≡ o → None ≡ number_in xs (v.Int n)
    by None e = sym e
    by (Some k) e =
        let f = number_found xs (v.Int n) k e in
        let same : item xs k ≡ v.Int n = same_value-eq (item xs k) (v.Int n) f.1 in
        let here : item xs k ≡ v.Int (low +ℤ pos k) = row k f.0 in
        let number : low +ℤ pos k ≡ n = cc in
        apart k f.0 number out
