-- The states of so many values are the typed ones.
use Rattle.std.proofs.Common.{◌≡◌, ℕ, zero, suc, ◌+◌, ◌<◌, ◌≤◌, ◌⊎◌, inl, inr, Bool, true, false, ◌&&◌, ◌||◌, IsTrue, List, [], ◌∷◌, ◌++◌, map, refl, sym, ◌∙◌, ap, arith, subst}
use Rattle.std.specs.Prelude.{nat_lt}
use Rattle.std.specs.List.{list_all, list_any, flat_map, range_with_len}
use Rattle.cov_classes.specs.Cubes.{Set, values, states, same_bool, same_set}
use Rattle.cov_classes.specs.Partition.{is_typed}

-- ---- truths

pub and_split : (a b : Bool) → IsTrue (a && b) → IsTrue a × IsTrue b
and_split true b h = (cc, h)
and_split false b h = absurd (cc)

pub and_join : (a b : Bool) → IsTrue a → IsTrue b → IsTrue (a && b)
and_join true b h k = k
and_join false b h k = absurd (cc)

pub or_split : (a b : Bool) → IsTrue (a || b) → IsTrue a ⊎ IsTrue b
or_split true b h = inl (cc)
or_split false b h = inr h

pub or_left : (a b : Bool) → IsTrue a → IsTrue (a || b)
or_left true b h = cc
or_left false b h = absurd (cc)

pub or_right : (a b : Bool) → IsTrue b → IsTrue (a || b)
or_right true b h = cc
or_right false b h = h

-- ---- lists

pub all_append : {A : Type 0} (p : A → Bool) (xs ys : List A) → IsTrue (list_all p (xs ++ ys)) → IsTrue (list_all p xs) × IsTrue (list_all p ys)
all_append p [] ys h = (cc, h)
all_append p (x ∷ xs) ys h =
    let a = and_split (p x) (list_all p (xs ++ ys)) h in
    let b = all_append p xs ys a.1 in
    (and_join (p x) (list_all p xs) a.0 b.0, b.1)

pub append_all : {A : Type 0} (p : A → Bool) (xs ys : List A) → IsTrue (list_all p xs) → IsTrue (list_all p ys) → IsTrue (list_all p (xs ++ ys))
append_all p [] ys h k = k
append_all p (x ∷ xs) ys h k = let a = and_split (p x) (list_all p xs) h in and_join (p x) (list_all p (xs ++ ys)) a.0 (append_all p xs ys a.1 k)

pub all_mapped : {A B : Type 0} (p : B → Bool) (f : A → B) (xs : List A) → list_all p (map f xs) ≡ list_all (λ x. p (f x)) xs
all_mapped p f [] = refl
all_mapped p f (x ∷ xs) = ap (λ b. p (f x) && b) (all_mapped p f xs)

pub all_flat : {A B : Type 0} (p : B → Bool) (f : A → List B) (xs : List A) → IsTrue (list_all p (flat_map f xs)) → IsTrue (list_all (λ x. list_all p (f x)) xs)
all_flat p f [] h = cc
all_flat p f (x ∷ xs) h = let a = all_append p (f x) (flat_map f xs) h in and_join (list_all p (f x)) (list_all (λ x. list_all p (f x)) xs) a.0 (all_flat p f xs a.1)

pub flat_all : {A B : Type 0} (p : B → Bool) (f : A → List B) (xs : List A) → IsTrue (list_all (λ x. list_all p (f x)) xs) → IsTrue (list_all p (flat_map f xs))
flat_all p f [] h = cc
flat_all p f (x ∷ xs) h = let a = and_split (list_all p (f x)) (list_all (λ x. list_all p (f x)) xs) h in append_all p (f x) (flat_map f xs) a.0 (flat_all p f xs a.1)

-- ---- ranges

pub at_or_after : (a v : ℕ) → a ≤ v → (a ≡ v) ⊎ (a < v)
at_or_after a zero h = inl (omega arith)
at_or_after zero (suc v) h = inr (omega arith)
at_or_after (suc a) (suc v) h = by (at_or_after a v (omega arith))
  where
    by : (a ≡ v) ⊎ (a < v) → (suc a ≡ suc v) ⊎ (suc a < suc v)
    by (inl e) = inl (omega arith)
    by (inr k) = inr (omega arith)

here_or_later : (p : ℕ → Bool) (a n v : ℕ) → IsTrue (p a) → ((lo : a + 1 ≤ v) → IsTrue (p v)) → (a ≡ v) ⊎ (a < v) → IsTrue (p v)
here_or_later p a n v h k (inl e) = subst (λ x. IsTrue (p x)) e h
here_or_later p a n v h k (inr lt) = k (omega arith)

-- what each number of a range has
pub in_range : (p : ℕ → Bool) (a n v : ℕ) → IsTrue (list_all p (range_with_len a n)) → a ≤ v → v < a + n → IsTrue (p v)
in_range p a zero v h lo hi = absurd (omega arith)
in_range p a (suc n) v h lo hi =
    let s = and_split (p a) (list_all p (range_with_len (a + 1) n)) h in
    here_or_later p a n v s.0 (λ k. in_range p (a + 1) n v s.1 k (omega arith)) (at_or_after a v lo)

pub range_all : (p : ℕ → Bool) (a n : ℕ) → ((v : ℕ) → a ≤ v → v < a + n → IsTrue (p v)) → IsTrue (list_all p (range_with_len a n))
range_all p a zero h = cc
range_all p a (suc n) h = and_join (p a) (list_all p (range_with_len (a + 1) n)) (h a (omega arith) (omega arith)) (range_all p (a + 1) n (λ v lo hi. h v (omega arith) (omega arith)))

-- a number of a range at which a test is true
pub record Found (p : ℕ → Bool) (a n : ℕ) : Type 0 where
  pub at : ℕ
  pub from : a ≤ at
  pub below : at < a + n
  pub is : IsTrue (p at)

pub any_found : (p : ℕ → Bool) (a n : ℕ) → IsTrue (list_any p (range_with_len a n)) → Found p a n
any_found p a zero h = absurd (cc)
any_found p a (suc n) h = by (or_split (p a) (list_any p (range_with_len (a + 1) n)) h) (λ k. any_found p (a + 1) n k)
  where
    by : IsTrue (p a) ⊎ IsTrue (list_any p (range_with_len (a + 1) n)) → (IsTrue (list_any p (range_with_len (a + 1) n)) → Found p (a + 1) n) → Found p a (suc n)
    by (inl k) f = record { at = a; from = omega arith; below = omega arith; is = k }
    by (inr k) f = let x = f k in record { at = x.at; from = let lo = x.from in omega arith; below = let hi = x.below in omega arith; is = x.is }

found_here : (p : ℕ → Bool) (a n v : ℕ) → IsTrue (p v) → (a + 1 ≤ v → IsTrue (list_any p (range_with_len (a + 1) n))) → (a ≡ v) ⊎ (a < v) → IsTrue (p a || list_any p (range_with_len (a + 1) n))
found_here p a n v h k (inl e) = or_left (p a) (list_any p (range_with_len (a + 1) n)) (subst (λ x. IsTrue (p x)) (sym e) h)
found_here p a n v h k (inr lt) = or_right (p a) (list_any p (range_with_len (a + 1) n)) (k (omega arith))

pub any_at : (p : ℕ → Bool) (a n v : ℕ) → IsTrue (p v) → a ≤ v → v < a + n → IsTrue (list_any p (range_with_len a n))
any_at p a zero v h lo hi = absurd (omega arith)
any_at p a (suc n) v h lo hi = found_here p a n v h (λ k. any_at p (a + 1) n v h k (omega arith)) (at_or_after a v lo)

-- ---- states

pub below : (v n : ℕ) → IsTrue (nat_lt v n) → v < n
below v n h = grind arith

pub is_below : (v n : ℕ) → v < n → IsTrue (nat_lt v n)
is_below v n h = grind arith

-- what all states have, each typed state has
pub at_state : (ns : List ℕ) (p : List ℕ → Bool) (s : List ℕ) → IsTrue (list_all p (states ns)) → IsTrue (is_typed ns s) → IsTrue (p s)
at_state [] p [] h t = (and_split (p []) true h).0
at_state [] p (v ∷ s) h t = absurd (cc)
at_state (n ∷ ns) p [] h t = absurd (cc)
at_state (n ∷ ns) p (v ∷ s) h t =
    let c = and_split (nat_lt v n) (is_typed ns s) t in
    let f : ℕ → List (List ℕ) = λ w. map (λ x. w ∷ x) (states ns) in
    let one : IsTrue (list_all p (f v)) = in_range (λ w. list_all p (f w)) 0 n v (all_flat p f (values n) h) (omega arith) (let lt = below v n c.0 in omega arith) in
    at_state ns (λ x. p (v ∷ x)) s (subst IsTrue (all_mapped p (λ x. v ∷ x) (states ns)) one) c.1

-- ---- equal sets

pub same_bool-refl : (a : Bool) → IsTrue (same_bool a a)
same_bool-refl true = cc
same_bool-refl false = cc

same_bool-equal : (a b : Bool) → IsTrue (same_bool a b) → a ≡ b
same_bool-equal true true h = refl
same_bool-equal true false h = absurd (cc)
same_bool-equal false true h = absurd (cc)
same_bool-equal false false h = refl

same_bool-sym : (a b : Bool) → same_bool a b ≡ same_bool b a
same_bool-sym true true = refl
same_bool-sym true false = refl
same_bool-sym false true = refl
same_bool-sym false false = refl

same_bool-trans : (a b c : Bool) → IsTrue (same_bool a b) → IsTrue (same_bool b c) → IsTrue (same_bool a c)
same_bool-trans a b c h k = subst (λ x. IsTrue (same_bool x c)) (sym (same_bool-equal a b h)) k

list_refl : (a : Set) (ss : List (List ℕ)) → IsTrue (list_all (λ s. same_bool (a s) (a s)) ss)
list_refl a [] = cc
list_refl a (s ∷ ss) = and_join (same_bool (a s) (a s)) (list_all (λ s. same_bool (a s) (a s)) ss) (same_bool-refl (a s)) (list_refl a ss)

list_sym : (a b : Set) (ss : List (List ℕ)) → list_all (λ s. same_bool (a s) (b s)) ss ≡ list_all (λ s. same_bool (b s) (a s)) ss
list_sym a b [] = refl
list_sym a b (s ∷ ss) = ap (λ x. x && list_all (λ s. same_bool (a s) (b s)) ss) (same_bool-sym (a s) (b s)) ∙ ap (λ x. same_bool (b s) (a s) && x) (list_sym a b ss)

list_trans : (a b c : Set) (ss : List (List ℕ)) → IsTrue (list_all (λ s. same_bool (a s) (b s)) ss) → IsTrue (list_all (λ s. same_bool (b s) (c s)) ss) → IsTrue (list_all (λ s. same_bool (a s) (c s)) ss)
list_trans a b c [] h k = cc
list_trans a b c (s ∷ ss) h k =
    let x = and_split (same_bool (a s) (b s)) (list_all (λ s. same_bool (a s) (b s)) ss) h in
    let y = and_split (same_bool (b s) (c s)) (list_all (λ s. same_bool (b s) (c s)) ss) k in
    and_join (same_bool (a s) (c s)) (list_all (λ s. same_bool (a s) (c s)) ss) (same_bool-trans (a s) (b s) (c s) x.0 y.0) (list_trans a b c ss x.1 y.1)

pub same-refl : (ns : List ℕ) (a : Set) → IsTrue (same_set ns a a)
same-refl ns a = list_refl a (states ns)

pub same-sym : (ns : List ℕ) (a b : Set) → IsTrue (same_set ns a b) → IsTrue (same_set ns b a)
same-sym ns a b h = subst IsTrue (list_sym a b (states ns)) h

pub same-trans : (ns : List ℕ) (a b c : Set) → IsTrue (same_set ns a b) → IsTrue (same_set ns b c) → IsTrue (same_set ns a c)
same-trans ns a b c h k = list_trans a b c (states ns) h k

-- equal sets have the same typed states
pub same_at : (ns : List ℕ) (a b : Set) (s : List ℕ) → IsTrue (same_set ns a b) → IsTrue (is_typed ns s) → a s ≡ b s
same_at ns a b s h t = same_bool-equal (a s) (b s) (at_state ns (λ x. same_bool (a x) (b x)) s h t)
