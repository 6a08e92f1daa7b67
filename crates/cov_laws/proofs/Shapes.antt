-- Formulas by the number of their operands.
use Rattle.std.proofs.Common.{◌≡◌, ℕ, ◌+◌, ◌-◌, ◌==◌, ◌<◌, ◌≤◌, nat_le, if◌then◌else◌, Some, ◌∷◌, ◌++◌, refl, ◌∙◌, arith, inl, inr}
use Rattle.std.proofs.lemmas.Bool.{cases_Bool, cond-true, cond-false, eqb-true, eqb-false, leb-true, leb-false}
use Rattle.cov_logic.specs.Formula.{Formula, Atom, Not, And, Or, Implies, EX, EF, EG, EU, AX, AF, AG, AU}
use Rattle.cov_logic.specs.Occurrence.{size, occurrence}
use Rattle.cov_logic.specs.Replacement.{replace}
use Rattle.cov_laws.specs.Occurrences.{listed}

module _ {B : Type 0} (x y : B) where
  -- the first of a node's numbers
  pub at_one : (n : ℕ) → n ≡ 1 → (if n == 1 then x else y) ≡ x
  at_one n e = elim (cases_Bool (n == 1)) [
    | inl h ↦ cond-true (n == 1) x y h
    | inr h ↦ let other = eqb-false n 1 h in absurd (omega arith)
  ]

  pub past_one : (n : ℕ) → (n ≡ 1 → ⊥) → (if n == 1 then x else y) ≡ y
  past_one n e = elim (cases_Bool (n == 1)) [
    | inl h ↦ let one = eqb-true n 1 h in absurd (e one)
    | inr h ↦ cond-false (n == 1) x y h
  ]

  -- those of the left operand, and those of the right one
  pub at_left : (n j : ℕ) → n ≤ 1 + j → (if nat_le n (1 + j) then x else y) ≡ x
  at_left n j e = elim (cases_Bool (nat_le n (1 + j))) [
    | inl h ↦ cond-true (nat_le n (1 + j)) x y h
    | inr h ↦ let right = leb-false n (1 + j) h in absurd (omega arith)
  ]

  pub at_right : (n j : ℕ) → 1 + j < n → (if nat_le n (1 + j) then x else y) ≡ y
  at_right n j e = elim (cases_Bool (nat_le n (1 + j))) [
    | inl h ↦ let left = leb-true n (1 + j) h in absurd (omega arith)
    | inr h ↦ cond-false (nat_le n (1 + j)) x y h
  ]

module _ {A : Type 0} where
  -- what is so of an operator with one operand
  pub record IsUnary (op : Formula A → Formula A) : Type 0 where
    pub sized : (f : Formula A) → size (op f) ≡ 1 + size f
    pub found : (f : Formula A) (n : ℕ) → occurrence (op f) n ≡ (if n == 1 then Some (op f) else occurrence f (n - 1))
    pub put : (f x : Formula A) (n : ℕ) → replace (op f) n x ≡ (if n == 1 then x else op (replace f (n - 1) x))
    pub lists : (f : Formula A) → listed (op f) ≡ op f ∷ listed f

  -- and of one with two
  pub record IsBinary (op : Formula A → Formula A → Formula A) : Type 0 where
    pub sized : (f g : Formula A) → size (op f g) ≡ 1 + size f + size g
    pub found : (f g : Formula A) (n : ℕ) →
        occurrence (op f g) n ≡ (if n == 1 then Some (op f g) else if nat_le n (1 + size f) then occurrence f (n - 1) else occurrence g (n - 1 - size f))
    pub put : (f g x : Formula A) (n : ℕ) →
        replace (op f g) n x ≡ (if n == 1 then x else if nat_le n (1 + size f) then op (replace f (n - 1) x) g else op f (replace g (n - 1 - size f) x))
    pub lists : (f g : Formula A) → listed (op f g) ≡ op f g ∷ (listed f ++ listed g)

  module _ (P : Formula A → Type 0) (atom : (a : A) → P (Atom a)) (unary : (op : Formula A → Formula A) → IsUnary op → (f : Formula A) → P f → P (op f))
      (binary : (op : Formula A → Formula A → Formula A) → IsBinary op → (f g : Formula A) → P f → P g → P (op f g)) where
    -- induction by the number of operands
    pub by_shape : (f : Formula A) → P f
    by_shape (Atom a) = atom a
    by_shape (Not f) = unary Not (record { sized = λ f. refl; found = λ f n. refl; put = λ f x n. refl; lists = λ f. refl }) f (by_shape f)
    by_shape (And f g) =
        binary And (record { sized = λ f g. refl; found = λ f g n. refl; put = λ f g x n. refl; lists = λ f g. refl }) f g (by_shape f) (by_shape g)
    by_shape (Or f g) =
        binary Or (record { sized = λ f g. refl; found = λ f g n. refl; put = λ f g x n. refl; lists = λ f g. refl }) f g (by_shape f) (by_shape g)
    by_shape (Implies f g) =
        binary Implies (record { sized = λ f g. refl; found = λ f g n. refl; put = λ f g x n. refl; lists = λ f g. refl }) f g (by_shape f) (by_shape g)
    by_shape (EX f) = unary EX (record { sized = λ f. refl; found = λ f n. refl; put = λ f x n. refl; lists = λ f. refl }) f (by_shape f)
    by_shape (EF f) = unary EF (record { sized = λ f. refl; found = λ f n. refl; put = λ f x n. refl; lists = λ f. refl }) f (by_shape f)
    by_shape (EG f) = unary EG (record { sized = λ f. refl; found = λ f n. refl; put = λ f x n. refl; lists = λ f. refl }) f (by_shape f)
    by_shape (EU f g) =
        binary EU (record { sized = λ f g. refl; found = λ f g n. refl; put = λ f g x n. refl; lists = λ f g. refl }) f g (by_shape f) (by_shape g)
    by_shape (AX f) = unary AX (record { sized = λ f. refl; found = λ f n. refl; put = λ f x n. refl; lists = λ f. refl }) f (by_shape f)
    by_shape (AF f) = unary AF (record { sized = λ f. refl; found = λ f n. refl; put = λ f x n. refl; lists = λ f. refl }) f (by_shape f)
    by_shape (AG f) = unary AG (record { sized = λ f. refl; found = λ f n. refl; put = λ f x n. refl; lists = λ f. refl }) f (by_shape f)
    by_shape (AU f g) =
        binary AU (record { sized = λ f g. refl; found = λ f g n. refl; put = λ f g x n. refl; lists = λ f g. refl }) f g (by_shape f) (by_shape g)

  module _ (op : Formula A → Formula A) (h : IsUnary op) where
    pub one_first : (f : Formula A) (n : ℕ) → n ≡ 1 → occurrence (op f) n ≡ Some (op f)
    one_first f n e = h.found f n ∙ at_one _ _ n e

    pub one_later : (f : Formula A) (n : ℕ) → (n ≡ 1 → ⊥) → occurrence (op f) n ≡ occurrence f (n - 1)
    one_later f n e = h.found f n ∙ past_one _ _ n e

    pub one_put : (f x : Formula A) (n : ℕ) → (n ≡ 1 → ⊥) → replace (op f) n x ≡ op (replace f (n - 1) x)
    one_put f x n e = h.put f x n ∙ past_one _ _ n e

  module _ (op : Formula A → Formula A → Formula A) (h : IsBinary op) where
    pub two_first : (f g : Formula A) (n : ℕ) → n ≡ 1 → occurrence (op f g) n ≡ Some (op f g)
    two_first f g n e = h.found f g n ∙ at_one _ _ n e

    pub two_left : (f g : Formula A) (n : ℕ) → (n ≡ 1 → ⊥) → n ≤ 1 + size f → occurrence (op f g) n ≡ occurrence f (n - 1)
    two_left f g n e d = h.found f g n ∙ past_one _ _ n e ∙ at_left _ _ n (size f) d

    pub two_right : (f g : Formula A) (n : ℕ) → 1 + size f < n → occurrence (op f g) n ≡ occurrence g (n - 1 - size f)
    two_right f g n d = h.found f g n ∙ past_one _ _ n (λ e. omega arith) ∙ at_right _ _ n (size f) d

    pub put_left : (f g x : Formula A) (n : ℕ) → (n ≡ 1 → ⊥) → n ≤ 1 + size f → replace (op f g) n x ≡ op (replace f (n - 1) x) g
    put_left f g x n e d = h.put f g x n ∙ past_one _ _ n e ∙ at_left _ _ n (size f) d

    pub put_right : (f g x : Formula A) (n : ℕ) → 1 + size f < n → replace (op f g) n x ≡ op f (replace g (n - 1 - size f) x)
    put_right f g x n d = h.put f g x n ∙ past_one _ _ n (λ e. omega arith) ∙ at_right _ _ n (size f) d
