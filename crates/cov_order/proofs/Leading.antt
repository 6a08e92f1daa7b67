-- Reading through others.
use Rattle.std.proofs.Common.{◌≡◌, ℕ, zero, suc, ◌+◌, ◌-◌, ◌<◌, ◌≤◌, Bool, IsTrue, inl, inr, List, [], ◌∷◌, length, get_or, sym, subst, arith}
use Rattle.std.specs.Prelude.{◌==◌}
use Rattle.std.specs.List.{list_any}
use Rattle.cov_model.specs.Order.{Reads, read_by, has, leads_to}
use Rattle.cov_model.proofs.Joins.{or_left, or_right, or_case}
use Rattle.cov_order.proofs.Numbers.{same_number, same_self}

-- some number of the list that passes
pub record Some_of (p : ℕ → Bool) (xs : List ℕ) : Type 0 where
  pub number : ℕ
  pub there : IsTrue (has xs number)
  pub passes : IsTrue (p number)

pub some_of : (p : ℕ → Bool) (xs : List ℕ) → IsTrue (list_any p xs) → Some_of p xs
some_of p [] h = cc
some_of p (x ∷ xs) h = elim (or_case (p x) (list_any p xs) h) [
  | inl k ↦ record { number = x; there = or_left (x == x) (has xs x) (same_self x); passes = k }
  | inr k ↦ let r = some_of p xs k in record { number = r.number; there = or_right (x == r.number) (has xs r.number) r.there; passes = r.passes }
]

pub any_of : (p : ℕ → Bool) (xs : List ℕ) (x : ℕ) → IsTrue (has xs x) → IsTrue (p x) → IsTrue (list_any p xs)
any_of p [] x h k = cc
any_of p (y ∷ ys) x h k = elim (or_case (y == x) (has ys x) h) [
  | inl e ↦ or_left (p y) (list_any p ys) (subst (λ (z : ℕ). IsTrue (p z)) (sym (same_number y x e)) k)
  | inr r ↦ or_right (p y) (list_any p ys) (any_of p ys x r k)
]

pub any_more : (p q : ℕ → Bool) (xs : List ℕ) → ((x : ℕ) → IsTrue (p x) → IsTrue (q x)) → IsTrue (list_any p xs) → IsTrue (list_any q xs)
any_more p q [] f h = cc
any_more p q (x ∷ xs) f h = elim (or_case (p x) (list_any p xs) h) [
  | inl k ↦ or_left (q x) (list_any q xs) (f x k)
  | inr k ↦ or_right (q x) (list_any q xs) (any_more p q xs f k)
]

-- where a number stands
pub record Stands (xs : List ℕ) (x : ℕ) : Type 0 where
  pub place : ℕ
  pub within : place < length xs
  pub is : get_or xs place 0 ≡ x

pub stands : (xs : List ℕ) (x : ℕ) → IsTrue (has xs x) → Stands xs x
stands [] x h = cc
stands (y ∷ ys) x h = elim (or_case (y == x) (has ys x) h) [
  | inl e ↦ record { place = 0; within = omega arith; is = same_number y x e }
  | inr r ↦ let s = stands ys x r in record { place = suc s.place; within = omega (arith, s.within); is = s.is }
]

pub has_at : (xs : List ℕ) (k : ℕ) → k < length xs → IsTrue (has xs (get_or xs k 0))
has_at [] k h = absurd (omega arith)
has_at (x ∷ xs) zero h = or_left (x == x) (has xs x) (same_self x)
has_at (x ∷ xs) (suc k) h = or_right (x == get_or xs k 0) (has xs (get_or xs k 0)) (has_at xs k (omega arith))

-- ---- more steps

once_more : (p : ℕ) (g : Reads) (i j : ℕ) → IsTrue (leads_to p g i j) → IsTrue (leads_to (suc p) g i j)
once_more zero g i j h = or_left (has (read_by g i) j) (list_any (λ k. leads_to zero g k j) (read_by g i)) h
once_more (suc p) g i j h = elim (or_case (has (read_by g i) j) (list_any (λ k. leads_to p g k j) (read_by g i)) h) [
  | inl k ↦ or_left (has (read_by g i) j) (list_any (λ k. leads_to (suc p) g k j) (read_by g i)) k
  | inr k ↦ or_right (has (read_by g i) j) (list_any (λ k. leads_to (suc p) g k j) (read_by g i))
      (any_more (λ k. leads_to p g k j) (λ k. leads_to (suc p) g k j) (read_by g i) (λ x r. once_more p g x j r) k)
]

more_by : (d p : ℕ) (g : Reads) (i j : ℕ) → IsTrue (leads_to p g i j) → IsTrue (leads_to (d + p) g i j)
more_by zero p g i j h = subst (λ (n : ℕ). IsTrue (leads_to n g i j)) (same p) h
  where
    same : (p : ℕ) → p ≡ 0 + p
    same p = omega arith
more_by (suc d) p g i j h = subst (λ (n : ℕ). IsTrue (leads_to n g i j)) (next d p) (once_more (d + p) g i j (more_by d p g i j h))
  where
    next : (d p : ℕ) → suc (d + p) ≡ suc d + p
    next d p = omega arith

pub leads_more : (p n : ℕ) (g : Reads) (i j : ℕ) → p ≤ n → IsTrue (leads_to p g i j) → IsTrue (leads_to n g i j)
leads_more p n g i j l h = subst (λ (m : ℕ). IsTrue (leads_to m g i j)) (difference p n l) (more_by (n - p) p g i j h)
  where
    difference : (p n : ℕ) → p ≤ n → (n - p) + p ≡ n
    difference p n l = omega arith

-- one more step at the end
pub leads_then : (p : ℕ) (g : Reads) (i j l : ℕ) → IsTrue (leads_to p g i j) → IsTrue (has (read_by g j) l) → IsTrue (leads_to (suc p) g i l)
leads_then zero g i j l h r = or_right (has (read_by g i) l) (list_any (λ k. leads_to zero g k l) (read_by g i)) (any_of (λ k. leads_to zero g k l) (read_by g i) j h r)
leads_then (suc p) g i j l h r = or_right (has (read_by g i) l) (list_any (λ k. leads_to (suc p) g k l) (read_by g i))
    (elim (or_case (has (read_by g i) j) (list_any (λ k. leads_to p g k j) (read_by g i)) h) [
      | inl k ↦ any_of (λ k. leads_to (suc p) g k l) (read_by g i) j k (or_left (has (read_by g j) l) (list_any (λ k. leads_to p g k l) (read_by g j)) r)
      | inr k ↦ any_more (λ k. leads_to p g k j) (λ k. leads_to (suc p) g k l) (read_by g i) (λ x q. leads_then p g x j l q r) k
    ])
