-- An occurrence is an entry of the list of a formula and what is below it.
use Rattle.std.proofs.Common.{◌≡◌, ℕ, zero, suc, ◌+◌, ◌-◌, ◌<◌, Some, None, List, [], ◌∷◌, ◌++◌, length, slice_get, refl, sym, ap, ◌∙◌, arith, inl, inr}
use Rattle.std.proofs.lemmas.Bool.{cases_lt}
use Rattle.std.proofs.Math.ListN.{length-append}
use Rattle.cov_logic.specs.Formula.{Formula, Atom}
use Rattle.cov_logic.specs.Occurrence.{size, occurrence}
use Rattle.cov_laws.specs.Occurrences.{listed, OccurrencesAreListed}
use Rattle.cov_laws.proofs.Shapes.{IsUnary, IsBinary, by_shape, past_one, one_first, one_later, two_first, two_left, two_right}

pub get_left : {X : Type 0} (xs ys : List X) (i : ℕ) → i < length xs → slice_get (xs ++ ys) i ≡ slice_get xs i
get_left [] ys i h = absurd (omega arith)
get_left (x ∷ xs) ys zero h = refl
get_left (x ∷ xs) ys (suc i) h = get_left xs ys i (omega arith)

pub get_right : {X : Type 0} (xs ys : List X) (i : ℕ) → slice_get (xs ++ ys) (length xs + i) ≡ slice_get ys i
get_right [] ys i = let e : 0 + i ≡ i = omega arith in ap (slice_get ys) e
get_right (x ∷ xs) ys i =
    let e : length (x ∷ xs) + i ≡ suc (length xs + i) = omega arith in
    ap (slice_get (x ∷ (xs ++ ys))) e ∙ get_right xs ys i

module _ {A : Type 0} where
  record IsListed (f : Formula A) : Type 0 where
    entries : (i : ℕ) → occurrence f (suc i) ≡ slice_get (listed f) i
    none : occurrence f 0 ≡ None
    all : length (listed f) ≡ size f

  atom_listed : (a : A) → IsListed (Atom a)
  atom_listed a = record { entries = entries; none = nowhere 0 (λ e. omega arith); all = omega arith }
    where
      nowhere : (n : ℕ) → (n ≡ 1 → ⊥) → occurrence (Atom a) n ≡ None
      nowhere n e = past_one (Some (Atom a)) None n e

      entries : (i : ℕ) → occurrence (Atom a) (suc i) ≡ slice_get (listed (Atom a)) i
      entries zero = refl
      entries (suc i) = nowhere (suc (suc i)) (λ e. omega arith)

  one_listed : (op : Formula A → Formula A) → IsUnary op → (f : Formula A) → IsListed f → IsListed (op f)
  one_listed op h f q = record {
    entries = λ i. entries i ∙ ap (λ xs. slice_get xs i) (sym (h.lists f));
    none = one_later op h f 0 (λ e. omega arith) ∙ q.none;
    all = let size = h.sized f in let below = q.all in let e = ap length (h.lists f) in omega arith;
  }
    where
      entries : (i : ℕ) → occurrence (op f) (suc i) ≡ slice_get (op f ∷ listed f) i
      entries zero = one_first op h f 1 refl
      entries (suc i) =
          let last : suc (suc i) - 1 ≡ suc i = omega arith in
          one_later op h f (suc (suc i)) (λ e. omega arith) ∙ ap (occurrence f) last ∙ q.entries i

  two_listed : (op : Formula A → Formula A → Formula A) → IsBinary op → (f g : Formula A) → IsListed f → IsListed g → IsListed (op f g)
  two_listed op h f g p q = record {
    entries = λ i. entries i ∙ ap (λ xs. slice_get xs i) (sym (h.lists f g));
    none = two_left op h f g 0 (λ e. omega arith) (omega arith) ∙ p.none;
    all =
        let size = h.sized f g in
        let left = p.all in
        let right = q.all in
        let both = length-append (listed f) (listed g) in
        let e = ap length (h.lists f g) in
        omega arith;
  }
    where
      below : (i : ℕ) → occurrence (op f g) (suc (suc i)) ≡ slice_get (listed f ++ listed g) i
      below i =
          let left = p.all in
          elim (cases_lt i (size f)) [
            | inl d ↦
                let last : suc (suc i) - 1 ≡ suc i = omega arith in
                two_left op h f g (suc (suc i)) (λ e. omega arith) (omega arith) ∙ ap (occurrence f) last ∙ p.entries i
                ∙ sym (get_left (listed f) (listed g) i (omega arith))
            | inr d ↦
                let there : suc (suc i) - 1 - size f ≡ suc (i - size f) = omega arith in
                let here : length (listed f) + (i - size f) ≡ i = omega arith in
                two_right op h f g (suc (suc i)) (omega arith) ∙ ap (occurrence g) there ∙ q.entries (i - size f)
                ∙ sym (get_right (listed f) (listed g) (i - size f)) ∙ ap (slice_get (listed f ++ listed g)) here
          ]

      entries : (i : ℕ) → occurrence (op f g) (suc i) ≡ slice_get (op f g ∷ (listed f ++ listed g)) i
      entries zero = two_first op h f g 1 refl
      entries (suc i) = below i

  is_listed : (f : Formula A) → IsListed f
  is_listed = by_shape IsListed atom_listed one_listed two_listed

pub listed_law : (A : Type 0) → OccurrencesAreListed A
listed_law A = record {
  entries = λ f i. let e : i + 1 ≡ suc i = omega arith in ap (occurrence f) e ∙ (is_listed f).entries i;
  none = λ f. (is_listed f).none;
  all = λ f. (is_listed f).all;
}
