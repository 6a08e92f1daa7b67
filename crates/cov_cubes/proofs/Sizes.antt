-- How many values a variable has.
use Rattle.std.proofs.Common.{◌≡◌, ℕ, zero, suc, ◌+◌, ◌<◌, List, [], ◌∷◌, length, get_or, drop, slice_get, Some, sym, ◌∙◌, ap, arith, subst}
use Rattle.std.proofs.Math.Seq.{drop-cons}
use Rattle.std.proofs.lemmas.List.{length-map}
use Rattle.cov_model.specs.declared.model.Var.{Var}
use Rattle.cov_bits.specs.Layout.{sizes, IsSize, AreSizes}
use Rattle.cov_bits.proofs.Formed.{size_at}

read : (vars : List Var) (x : ℕ) (v : Var) → slice_get vars x ≡ Some v → get_or (sizes vars) x 0 ≡ length v.values
read [] x v e = cc
read (u ∷ us) zero v e = let same : u ≡ v = cc in ap (λ (y : Var). length y.values) same
read (u ∷ us) (suc x) v e = read us x v e

pub size_read : (ns : List ℕ) (vars : List Var) (x : ℕ) (v : Var) → ns ≡ sizes vars → slice_get vars x ≡ Some v → length v.values ≡ get_or ns x 0
size_read ns vars x v plan e = sym (read vars x v e) ∙ ap (λ (l : List ℕ). get_or l x 0) (sym plan)

pub length-plan : (ns : List ℕ) (vars : List Var) → ns ≡ sizes vars → length ns ≡ length vars
length-plan ns vars plan = ap length plan ∙ length-map vars (λ (v : Var). length v.values)

pub size_is : (ns : List ℕ) (vars : List Var) (x : ℕ) (v : Var) → ns ≡ sizes vars → AreSizes ns → x < length vars → slice_get vars x ≡ Some v → IsSize (length v.values)
size_is ns vars x v plan sized lt e =
    let long : length ns ≡ length vars = length-plan ns vars plan in
    subst IsSize (sym (size_read ns vars x v plan e)) (size_at ns x sized (omega arith))

pub drop_next : (ns : List ℕ) (x : ℕ) → x < length ns → drop x ns ≡ get_or ns x 0 ∷ drop (x + 1) ns
drop_next ns x lt = let next : suc x ≡ x + 1 = omega arith in drop-cons ns x 0 lt ∙ ap (λ k. get_or ns x 0 ∷ drop k ns) next
