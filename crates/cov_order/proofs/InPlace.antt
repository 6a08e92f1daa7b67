-- DEFINEs that read only those before them: their order of dependence is that in which they stand.
use Rattle.std.proofs.Common.{◌≡◌, ℕ, zero, suc, ◌+◌, ◌<◌, Bool, true, false, not, ◌&&◌, ◌||◌, if◌then◌else◌, IsTrue, inl, inr, List, [], ◌∷◌, ◌++◌, length, Option, Some, None, refl, ap, subst, ◌∙◌, arith, length-append, zero-add}
use Rattle.std.specs.Prelude.{◌==◌, unwrap_or, nat_lt, position}
use Rattle.std.specs.List.{list_any, list_all}
use Rattle.cov_model.specs.declared.model.Define.{Define}
use Rattle.cov_model.specs.Order.{Reads, reads_of, read_by, has, leads_to, next_define, placed_after, dependence, place_in, circular, circular_from}
use Rattle.cov_model.proofs.Joins.{or_left, or_right, or_case}
use Rattle.cov_model.proofs.Joined.{and_join}
use Rattle.cov_order.proofs.Numbers.{same_number, same_self, has-push}
use Rattle.cov_order.proofs.Leading.{some_of}
use Rattle.cov_order.proofs.Placing.{one_more}
use Rattle.cov_order.proofs.Places.{position-push}

-- each reads only those before it
abbrev pub IsBackward : Reads → Type 0
IsBackward g = (k j : ℕ) → IsTrue (has (read_by g k) j) → j < k

-- ---- no circle

earlier : (g : Reads) → IsBackward g → (p i j : ℕ) → IsTrue (leads_to p g i j) → j < i
earlier g b zero i j h = b i j h
earlier g b (suc p) i j h = elim (or_case (has (read_by g i) j) (list_any (λ k. leads_to p g k j) (read_by g i)) h) [
  | inl k ↦ b i j k
  | inr k ↦ let s = some_of (λ k. leads_to p g k j) (read_by g i) k in omega (arith, b i s.number s.there, earlier g b p s.number j s.passes)
]

pub backward_not_circular : (g : Reads) → IsBackward g → (p i : ℕ) → leads_to p g i i ≡ false
backward_not_circular g b p i = by (leads_to p g i i) refl
  where
    by : (c : Bool) → leads_to p g i i ≡ c → c ≡ false
    by false e = refl
    by true e = absurd (omega (arith, earlier g b p i i e))

-- a fault of one means that it reads itself
pub none_circular : (g : Reads) (ds : List Define) (i : ℕ) → ((k : ℕ) → k < length ds → leads_to (length g) g (i + k) (i + k) ≡ false) → circular_from g i ds ≡ None
none_circular g [] i h = refl
none_circular g (d ∷ ds) i h =
    ap (λ (b : Bool). if b then Some (record { code = 17; place = d.place }) else circular_from g (i + 1) ds) (subst (λ (z : ℕ). leads_to (length g) g z z ≡ false) (plus i) (h 0 (omega arith)))
    ∙ none_circular g ds (i + 1) (λ k l. subst (λ (z : ℕ). leads_to (length g) g z z ≡ false) (next i k) (h (suc k) (omega (arith, l))))
  where
    plus : (i : ℕ) → i + 0 ≡ i
    plus i = omega arith

    next : (i k : ℕ) → i + suc k ≡ (i + 1) + k
    next i k = omega arith

pub not_circular : (g : Reads) (ds : List Define) (i : ℕ) → circular_from g i ds ≡ None → (k : ℕ) → k < length ds → leads_to (length g) g (i + k) (i + k) ≡ false
not_circular g [] i h k l = absurd (omega arith)
not_circular g (d ∷ ds) i h k l = by (leads_to (length g) g i i) refl h k l (λ q. not_circular g ds (i + 1) q)
  where
    by : (b : Bool) → leads_to (length g) g i i ≡ b → (if b then Some (record { code = 17; place = d.place }) else circular_from g (i + 1) ds) ≡ None → (k : ℕ) → k < length (d ∷ ds)
        → (circular_from g (i + 1) ds ≡ None → (k : ℕ) → k < length ds → leads_to (length g) g ((i + 1) + k) ((i + 1) + k) ≡ false) → leads_to (length g) g (i + k) (i + k) ≡ false
    by true e h k l f = cc
    by false e h zero l f = subst (λ (z : ℕ). leads_to (length g) g z z ≡ false) (plus i) e
      where
        plus : (i : ℕ) → i ≡ i + 0
        plus i = omega arith
    by false e h (suc k) l f = subst (λ (z : ℕ). leads_to (length g) g z z ≡ false) (next i k) (f h k (omega (arith, l)))
      where
        next : (i k : ℕ) → (i + 1) + k ≡ i + suc k
        next i k = omega arith

pub backward_no_circle : (ds : List Define) → IsBackward (reads_of ds) → circular ds ≡ None
backward_no_circle ds b = none_circular (reads_of ds) ds 0 (λ k l. backward_not_circular (reads_of ds) b (length (reads_of ds)) (0 + k))

-- ---- the order

-- the numbers below n, in their order
abbrev pub upto : ℕ → List ℕ
upto zero = []
upto (suc n) = upto n ++ n ∷ []

pub length-upto : (n : ℕ) → length (upto n) ≡ n
length-upto zero = refl
length-upto (suc n) = omega (arith, length-append (upto n) (n ∷ []), length-upto n)

pub has-upto : (n j : ℕ) → has (upto n) j ≡ nat_lt j n
has-upto zero j = none j
  where
    none : (j : ℕ) → false ≡ nat_lt j 0
    none j = grind arith
has-upto (suc n) j = has-push (upto n) n j ∙ ap (λ (b : Bool). b || (n == j)) (has-upto n j) ∙ by (nat_lt j n) (n == j) refl refl
  where
    by : (a b : Bool) → nat_lt j n ≡ a → (n == j) ≡ b → (a || b) ≡ nat_lt j (suc n)
    by true b e f = grind arith
    by false true e f = grind arith
    by false false e f = grind arith

pub place_in-upto : (n j : ℕ) → j < n → place_in (upto n) j ≡ j
place_in-upto n j l = ap (λ (o : Option ℕ). unwrap_or o 0) (at n j l)
  where
    below : (n j : ℕ) → j < suc n → (n == j) ≡ false → j < n
    below n j l e = grind arith

    self : (n : ℕ) → nat_lt n n ≡ false
    self n = grind arith

    last : (n j : ℕ) (b : Bool) → (n == j) ≡ b → j < suc n → (j < n → position (λ k. k == j) (upto n) ≡ Some j) → (if b then Some (length (upto n)) else position (λ k. k == j) (upto n)) ≡ Some j
    last n j true e l f = ap (λ (k : ℕ). Some k) (length-upto n ∙ same_number n j e)
    last n j false e l f = f (below n j l e)

    at : (n j : ℕ) → j < n → position (λ k. k == j) (upto n) ≡ Some j
    at zero j l = absurd (omega arith)
    at (suc n) j l = position-push (upto n) n j (has-upto n n ∙ self n) ∙ last n j (n == j) refl l (λ q. at n j q)

-- the first that is ready
pub next_at : (placed : List ℕ) (n m : ℕ) (g : Reads) → m < length g → ((k : ℕ) → k < m → has placed (n + k) ≡ true) → has placed (n + m) ≡ false → list_all (has placed) (read_by g m) ≡ true
    → next_define placed n g ≡ Some (n + m)
next_at placed n m [] l before new ready = absurd (omega arith)
next_at placed n zero (js ∷ g) l before new ready =
    ap (λ (b : Bool). if not b && list_all (has placed) js then Some n else next_define placed (n + 1) g) (ap (has placed) (plus n) ∙ new)
    ∙ ap (λ (b : Bool). if b then Some n else next_define placed (n + 1) g) ready
    ∙ ap (λ (k : ℕ). Some k) (plus n)
  where
    plus : (n : ℕ) → n ≡ n + 0
    plus n = omega arith
next_at placed n (suc m) (js ∷ g) l before new ready =
    ap (λ (b : Bool). if not b && list_all (has placed) js then Some n else next_define placed (n + 1) g) (ap (has placed) (plus n) ∙ before 0 (omega arith))
    ∙ next_at placed (n + 1) m g (omega (arith, l)) (λ k q. ap (has placed) (next n k) ∙ before (suc k) (omega (arith, q))) (ap (has placed) (next n m) ∙ new) ready
    ∙ ap (λ (k : ℕ). Some k) (next n m)
  where
    plus : (n : ℕ) → n ≡ n + 0
    plus n = omega arith

    next : (n k : ℕ) → (n + 1) + k ≡ n + suc k
    next n k = omega arith

-- what holds of each number of a list
pub all_of : (p : ℕ → Bool) (xs : List ℕ) → ((j : ℕ) → IsTrue (has xs j) → IsTrue (p j)) → IsTrue (list_all p xs)
all_of p [] f = refl
all_of p (x ∷ xs) f = and_join (p x) (list_all p xs) (f x (or_left (x == x) (has xs x) (same_self x))) (all_of p xs (λ j h. f j (or_right (x == j) (has xs j) h)))

next_upto : (g : Reads) (k : ℕ) → IsBackward g → k < length g → next_define (upto k) 0 g ≡ Some k
next_upto g k b l =
    next_at (upto k) 0 k g l
    (λ i h. has-upto k (0 + i) ∙ below i k h)
    (has-upto k (0 + k) ∙ self k)
    (all_of (has (upto k)) (read_by g k) (λ j h. has-upto k j ∙ under j k (b k j h)))
    ∙ ap (λ (i : ℕ). Some i) (zero-add k)
  where
    below : (i k : ℕ) → i < k → nat_lt (0 + i) k ≡ true
    below i k h = grind arith

    under : (i k : ℕ) → i < k → nat_lt i k ≡ true
    under i k h = grind arith

    self : (k : ℕ) → nat_lt (0 + k) k ≡ false
    self k = grind arith

placed_upto : (more : ℕ) (g : Reads) (k : ℕ) → IsBackward g → k + more ≡ length g → placed_after more g (upto k) ≡ upto (length g)
placed_upto zero g k b e = ap upto (end k (length g) e)
  where
    end : (k n : ℕ) → k + 0 ≡ n → k ≡ n
    end k n e = omega arith
placed_upto (suc more) g k b e = one_more more g (upto k) k (next_upto g k b (omega (arith, e))) ∙ placed_upto more g (suc k) b (omega (arith, e))

-- the order is that in which they stand
pub dependence-backward : (g : Reads) → IsBackward g → dependence g ≡ upto (length g)
dependence-backward g b = placed_upto (length g) g 0 b (zero-add (length g))
