-- The plan of a well-formed model grows by one variable at a time.
use Rattle.std.proofs.Common.{◌≡◌, ◌<◌, ◌≤◌, ◌+◌, ℕ, List, [], ◌∷◌, ◌++◌, length, get_or, take, sym, ap, subst, ◌∙◌, arith}
use Rattle.std.proofs.lemmas.List.{length-map, get_or-map, take_more}
use Rattle.cov_model.specs.declared.model.Var.{Var}
use Rattle.cov_model.specs.declared.model.Model.{Model}
use Rattle.cov_model.specs.WellFormed.{IsWellFormed}
use Rattle.cov_bits.specs.Layout.{sizes, IsSize, width, bits}
use Rattle.cov_bits.proofs.Encoding.{bits_more, bits_within}
use Rattle.cov_bits.proofs.Formed.{FewBits, formed_bits, size_at}

-- the next variable can be put to the plan
pub record Grows (xs : List Var) (i : ℕ) (ns : List ℕ) (n : ℕ) : Type 0 where
  pub sized : IsSize n
  pub few : bits ns + width n ≤ 60
  pub next : ns ++ n ∷ [] ≡ take (i + 1) (sizes xs)

grows_at : (xs : List Var) (i : ℕ) (ns : List ℕ) (n : ℕ) → FewBits (sizes xs) → i < length xs → n ≡ get_or (sizes xs) i 0 → ns ≡ take i (sizes xs) → Grows xs i ns n
grows_at xs i ns n f h e t =
    let within : i < length (sizes xs) = rw length-map h in
    record {
      sized = rw e (size_at (sizes xs) i f.sized within);
      few = rw (t, e) (omega (arith, bits_more (sizes xs) i within, bits_within (sizes xs) (i + 1), f.few));
      next = rw (t, e) (sym (take_more (sizes xs) i 0 within));
    }

pub grows : (m : Model) (xs : List Var) (i : ℕ) (x : Var) (ns : List ℕ) (n : ℕ) → IsWellFormed m → xs ≡ m.vars → i < length xs → x ≡ get_or xs i x
    → n ≡ length x.values → ns ≡ take i (sizes xs) → Grows xs i ns n
grows m xs i x ns n formed same h read e t =
    let few : FewBits (sizes xs) = subst (λ (l : List Var). FewBits (sizes l)) (sym same) (formed_bits m formed) in
    let size : n ≡ get_or (sizes xs) i 0 =
    e ∙ ap (λ (y : Var). length y.values) read ∙ sym (get_or-map (λ (y : Var). length y.values) xs i x 0 h) in
    grows_at xs i ns n few h size t
