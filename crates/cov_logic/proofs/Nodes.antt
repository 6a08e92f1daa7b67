-- The occurrences of a formula are its nodes.
use Rattle.std.proofs.Common.{◌≡◌, ℕ, ◌+◌, ◌-◌, ◌==◌, ◌<◌, ◌≤◌, nat_le, Bool, true, false, if◌then◌else◌, Option, Some, None, IsSome, refl, ap, arith}
use Rattle.std.proofs.lemmas.Bool.{cond_both, eqb-true, eqb-false, leb-true, leb-false}
use Rattle.cov_logic.specs.Formula.{Formula, Atom, Not, And, Or, Implies, EX, EF, EG, EU, AX, AF, AG, AU}
use Rattle.cov_logic.specs.Occurrence.{size, in_left, occurrence}
use Rattle.cov_logic.specs.Replacement.{replace}
use Rattle.cov_logic.specs.OccurrenceLaws.{OccurrencesAreNodes}

module _ {A : Type 0} where
  -- there is something at exactly the numbers from 1 to k
  record IsNumbered (o : Option (Formula A)) (n k : ℕ) : Type 0 where
    some : IsSome o → (0 < n) × (n ≤ k)
    there : 0 < n → n ≤ k → IsSome o

  -- a node without operands
  none_below : (whole : Formula A) (n : ℕ) → IsNumbered (if n == 1 then Some whole else None) n 1
  none_below whole n =
      cond_both (n == 1) (Some whole) None (λ o. IsNumbered o n 1)
      (λ e. let one = eqb-true n 1 e in record { some = λ _. (omega arith, omega arith); there = λ _ _. refl })
      (λ e. let other = eqb-false n 1 e in record { some = λ h. cc; there = λ a b. absurd (omega arith) })

  -- a node with one operand
  one_below : (whole : Formula A) (o : Option (Formula A)) (n k : ℕ) → IsNumbered o (n - 1) k → IsNumbered (if n == 1 then Some whole else o) n (1 + k)
  one_below whole o n k h =
      cond_both (n == 1) (Some whole) o (λ o. IsNumbered o n (1 + k))
      (λ e. let one = eqb-true n 1 e in record { some = λ _. (omega arith, omega arith); there = λ _ _. refl })
      (λ e. let other = eqb-false n 1 e in record { some = λ s. let q = h.some s in (omega arith, omega arith); there = λ a b. h.there (omega arith) (omega arith) })

  -- a node with two
  two_below : (whole : Formula A) (o p : Option (Formula A)) (n j k : ℕ) → IsNumbered o (n - 1) j → IsNumbered p (n - 1 - j) k →
      IsNumbered (if n == 1 then Some whole else if nat_le n (1 + j) then o else p) n (1 + j + k)
  two_below whole o p n j k h i =
      cond_both (n == 1) (Some whole) (if nat_le n (1 + j) then o else p) (λ o. IsNumbered o n (1 + j + k))
      (λ e. let one = eqb-true n 1 e in record { some = λ _. (omega arith, omega arith); there = λ _ _. refl })
      (λ e. let other = eqb-false n 1 e in
      cond_both (nat_le n (1 + j)) o p (λ o. IsNumbered o n (1 + j + k))
      (λ d. let left = leb-true n (1 + j) d in record { some = λ s. let q = h.some s in (omega arith, omega arith); there = λ a b. h.there (omega arith) (omega arith) })
      (λ d. let right = leb-false n (1 + j) d in record { some = λ s. let q = i.some s in (omega arith, omega arith); there = λ a b. i.there (omega arith) (omega arith) }))

  numbered : (f : Formula A) (n : ℕ) → IsNumbered (occurrence f n) n (size f)
  numbered (Atom a) n = none_below (Atom a) n
  numbered (Not f) n = one_below _ _ n _ (numbered f (n - 1))
  numbered (And f g) n = two_below _ _ _ n _ _ (numbered f (n - 1)) (numbered g (n - 1 - size f))
  numbered (Or f g) n = two_below _ _ _ n _ _ (numbered f (n - 1)) (numbered g (n - 1 - size f))
  numbered (Implies f g) n = two_below _ _ _ n _ _ (numbered f (n - 1)) (numbered g (n - 1 - size f))
  numbered (EX f) n = one_below _ _ n _ (numbered f (n - 1))
  numbered (EF f) n = one_below _ _ n _ (numbered f (n - 1))
  numbered (EG f) n = one_below _ _ n _ (numbered f (n - 1))
  numbered (EU f g) n = two_below _ _ _ n _ _ (numbered f (n - 1)) (numbered g (n - 1 - size f))
  numbered (AX f) n = one_below _ _ n _ (numbered f (n - 1))
  numbered (AF f) n = one_below _ _ n _ (numbered f (n - 1))
  numbered (AG f) n = one_below _ _ n _ (numbered f (n - 1))
  numbered (AU f g) n = two_below _ _ _ n _ _ (numbered f (n - 1)) (numbered g (n - 1 - size f))

  -- what x in the place of o gives is the whole formula again, where o is x or nothing
  abbrev IsUnchanged : Formula A → Option (Formula A) → Formula A → Formula A → Type 0
  IsUnchanged x o whole r = ((o ≡ Some x) → r ≡ whole) × ((o ≡ None) → r ≡ whole)

  unchanged_here : (b : Bool) (whole x r : Formula A) (o : Option (Formula A)) → IsUnchanged x o whole r → IsUnchanged x (if b then Some whole else o) whole (if b then x else r)
  unchanged_here true whole x r o h = (λ e. cc, λ e. cc)
  unchanged_here false whole x r o h = h

  unchanged_in : (b : Bool) (whole x r s : Formula A) (o p : Option (Formula A)) → IsUnchanged x o whole r → IsUnchanged x p whole s →
      IsUnchanged x (if b then o else p) whole (if b then r else s)
  unchanged_in true whole x r s o p h i = h
  unchanged_in false whole x r s o p h i = i

  unchanged_under : (op : Formula A → Formula A) (x f r : Formula A) (o : Option (Formula A)) → IsUnchanged x o f r → IsUnchanged x o (op f) (op r)
  unchanged_under op x f r o h = (λ e. ap op (h.0 e), λ e. ap op (h.1 e))

  unchanged : (f : Formula A) (n : ℕ) (x : Formula A) → IsUnchanged x (occurrence f n) f (replace f n x)
  unchanged (Atom a) n x = unchanged_here (n == 1) (Atom a) x (Atom a) None (λ e. refl, λ e. refl)
  unchanged (Not f) n x = unchanged_here (n == 1) _ x _ _ (unchanged_under Not x f _ _ (unchanged f (n - 1) x))
  unchanged (And f g) n x =
      unchanged_here (n == 1) _ x _ _ (unchanged_in (in_left f n) _ x _ _ _ _
      (unchanged_under (λ a. And a g) x f _ _ (unchanged f (n - 1) x)) (unchanged_under (And f) x g _ _ (unchanged g (n - 1 - size f) x)))
  unchanged (Or f g) n x =
      unchanged_here (n == 1) _ x _ _ (unchanged_in (in_left f n) _ x _ _ _ _
      (unchanged_under (λ a. Or a g) x f _ _ (unchanged f (n - 1) x)) (unchanged_under (Or f) x g _ _ (unchanged g (n - 1 - size f) x)))
  unchanged (Implies f g) n x =
      unchanged_here (n == 1) _ x _ _ (unchanged_in (in_left f n) _ x _ _ _ _
      (unchanged_under (λ a. Implies a g) x f _ _ (unchanged f (n - 1) x)) (unchanged_under (Implies f) x g _ _ (unchanged g (n - 1 - size f) x)))
  unchanged (EX f) n x = unchanged_here (n == 1) _ x _ _ (unchanged_under EX x f _ _ (unchanged f (n - 1) x))
  unchanged (EF f) n x = unchanged_here (n == 1) _ x _ _ (unchanged_under EF x f _ _ (unchanged f (n - 1) x))
  unchanged (EG f) n x = unchanged_here (n == 1) _ x _ _ (unchanged_under EG x f _ _ (unchanged f (n - 1) x))
  unchanged (EU f g) n x =
      unchanged_here (n == 1) _ x _ _ (unchanged_in (in_left f n) _ x _ _ _ _
      (unchanged_under (λ a. EU a g) x f _ _ (unchanged f (n - 1) x)) (unchanged_under (EU f) x g _ _ (unchanged g (n - 1 - size f) x)))
  unchanged (AX f) n x = unchanged_here (n == 1) _ x _ _ (unchanged_under AX x f _ _ (unchanged f (n - 1) x))
  unchanged (AF f) n x = unchanged_here (n == 1) _ x _ _ (unchanged_under AF x f _ _ (unchanged f (n - 1) x))
  unchanged (AG f) n x = unchanged_here (n == 1) _ x _ _ (unchanged_under AG x f _ _ (unchanged f (n - 1) x))
  unchanged (AU f g) n x =
      unchanged_here (n == 1) _ x _ _ (unchanged_in (in_left f n) _ x _ _ _ _
      (unchanged_under (λ a. AU a g) x f _ _ (unchanged f (n - 1) x)) (unchanged_under (AU f) x g _ _ (unchanged g (n - 1 - size f) x)))

  -- where nothing is there, there is no occurrence
  none_there : (o : Option (Formula A)) → ¬ IsSome o → o ≡ None
  none_there None h = refl
  none_there (Some x) h = absurd (h refl)

pub nodes_law : (A : Type 0) → OccurrencesAreNodes A
nodes_law A = record {
  there = λ f n. let h = numbered f n in (h.some, λ q. h.there q.0 q.1);
  itself = λ f x n e. (unchanged f n x).0 e;
  nowhere = λ f x n no. (unchanged f n x).1 (none_there (occurrence f n) (λ s. no ((numbered f n).some s)));
}
