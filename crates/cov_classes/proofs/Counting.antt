-- Each state of a set lies in exactly one of its cubes.
use Rattle.std.proofs.Common.{◌≡◌, ℕ, zero, suc, ◌+◌, ◌<◌, ◌≤◌, ◌⊎◌, inl, inr, Bool, true, false, not, ◌&&◌, ◌||◌, if◌then◌else◌, IsTrue, List, [], ◌∷◌, ◌++◌, map, refl, sym, ◌∙◌, ap, arith, subst}
use Rattle.std.specs.Prelude.{nat_lt, ◌==◌, filter, slice_get, Some}
use Rattle.std.specs.List.{list_any, flat_map, range_with_len}
use Rattle.cov_classes.specs.Cubes.{Set, rest, same_set, class_of, is_least, cubes}
use Rattle.cov_classes.specs.Partition.{is_typed, has, lies_in, times, IsPartition}
use Rattle.cov_classes.proofs.Listing.{at_or_after, and_split, any_found, any_at, below, same-refl, same-sym, same-trans, same_at}

-- ---- how often a state lies in cubes

times_append : (cs ds : List (List (List ℕ))) (s : List ℕ) → times (cs ++ ds) s ≡ times cs s + times ds s
times_append [] ds s = omega arith
times_append (c ∷ cs) ds s = by (lies_in c s) (times_append cs ds s)
  where
    by : (b : Bool) → times (cs ++ ds) s ≡ times cs s + times ds s → (if b then 1 + times (cs ++ ds) s else times (cs ++ ds) s) ≡ (if b then 1 + times cs s else times cs s) + times ds s
    by true e = omega arith
    by false e = e

-- the sum of a function over a range
abbrev total : (ℕ → ℕ) → ℕ → ℕ → ℕ
total g a zero = 0
total g a (suc n) = g a + total g (a + 1) n

times_flat : (f : ℕ → List (List (List ℕ))) (a n : ℕ) (s : List ℕ) → times (flat_map f (range_with_len a n)) s ≡ total (λ v. times (f v) s) a n
times_flat f a zero s = refl
times_flat f a (suc n) s = times_append (f a) (flat_map f (range_with_len (a + 1) n)) s ∙ ap (λ k. times (f a) s + k) (times_flat f (a + 1) n s)

total_same : (g h : ℕ → ℕ) (a n : ℕ) → ((v : ℕ) → a ≤ v → v < a + n → g v ≡ h v) → total g a n ≡ total h a n
total_same g h a zero e = refl
total_same g h a (suc n) e = ap (λ k. k + total g (a + 1) n) (e a (omega arith) (omega arith)) ∙ ap (λ k. h a + k) (total_same g h (a + 1) n (λ v lo hi. e v (omega arith) (omega arith)))

-- cubes with one class in front
times_front : (class : List ℕ) (cs : List (List (List ℕ))) (v : ℕ) (s : List ℕ) → times (map (λ c. class ∷ c) cs) (v ∷ s) ≡ (if has class v then times cs s else 0)
times_front class [] v s = by (has class v)
  where
    by : (b : Bool) → times [] s ≡ (if b then times [] s else 0)
    by true = refl
    by false = refl
times_front class (c ∷ cs) v s = by (has class v) (lies_in c s) (times_front class cs v s)
  where
    by : (b l : Bool) → times (map (λ c. class ∷ c) cs) (v ∷ s) ≡ (if b then times cs s else 0)
        → (if b && l then 1 + times (map (λ c. class ∷ c) cs) (v ∷ s) else times (map (λ c. class ∷ c) cs) (v ∷ s)) ≡ (if b then (if l then 1 + times cs s else times cs s) else 0)
    by true true e = ap (λ k. 1 + k) e
    by true false e = e
    by false true e = e
    by false false e = e

-- ---- classes

equal : (a v : ℕ) → a ≡ v → (a == v) ≡ true
equal a v e = grind arith

unequal : (a v : ℕ) → (a ≡ v → ⊥) → (a == v) ≡ false
unequal a v ne = grind arith

-- a number below a range is not in it
absent : (p : ℕ → Bool) (a n v : ℕ) → v < a → has (filter p (range_with_len a n)) v ≡ false
absent p a zero v lt = refl
absent p a (suc n) v lt = by (p a) (unequal a v (λ e. absurd (omega arith))) (absent p (a + 1) n v (omega arith))
  where
    by : (b : Bool) → (a == v) ≡ false → has (filter p (range_with_len (a + 1) n)) v ≡ false → has (if b then a ∷ filter p (range_with_len (a + 1) n) else filter p (range_with_len (a + 1) n)) v ≡ false
    by true e f = ap (λ x. x || has (filter p (range_with_len (a + 1) n)) v) e ∙ f
    by false e f = f

-- what is left of a range has each of its numbers at which the test is true
pub has_filtered : (p : ℕ → Bool) (a n v : ℕ) → a ≤ v → v < a + n → has (filter p (range_with_len a n)) v ≡ p v
has_filtered p a zero v lo hi = absurd (omega arith)
has_filtered p a (suc n) v lo hi = by (p a) refl (at_or_after a v lo) (λ k. has_filtered p (a + 1) n v k (omega arith))
  where
    by : (b : Bool) → p a ≡ b → (a ≡ v) ⊎ (a < v) → (a + 1 ≤ v → has (filter p (range_with_len (a + 1) n)) v ≡ p v)
        → has (if b then a ∷ filter p (range_with_len (a + 1) n) else filter p (range_with_len (a + 1) n)) v ≡ p v
    by true e (inl same) go = ap (λ x. x || has (filter p (range_with_len (a + 1) n)) v) (equal a v same) ∙ sym e ∙ ap p same
    by true e (inr lt) go = ap (λ x. x || has (filter p (range_with_len (a + 1) n)) v) (unequal a v (λ same. absurd (omega arith))) ∙ go (omega arith)
    by false e (inl same) go = absent p (a + 1) n v (omega arith) ∙ sym e ∙ ap p same
    by false e (inr lt) go = go (omega arith)

not_true : (b : Bool) → (IsTrue b → ⊥) → b ≡ false
not_true true h = absurd (h (cc))
not_true false h = refl

is_true : (b : Bool) → IsTrue b → b ≡ true
is_true true h = refl
is_true false h = absurd (cc)

-- ---- one value of each class is the least

module _ (ns : List ℕ) (set : Set) where
  abbrev R : ℕ → ℕ → Bool
  R v w = same_set ns (rest set v) (rest set w)

  -- the class of u, at its least value alone
  abbrev counts_at : ℕ → ℕ → ℕ → ℕ
  counts_at u b v = if is_least ns set v && R v u then b else 0

  not_least : (u b w v : ℕ) → w < v → IsTrue (R w u) → counts_at u b v ≡ 0
  not_least u b w v lt h = by (is_least ns set v) (R v u) refl refl
    where
      by : (l r : Bool) → is_least ns set v ≡ l → R v u ≡ r → (if l && r then b else 0) ≡ 0
      by true true e f =
          let k : IsTrue (R v w) = same-trans ns (rest set v) (rest set u) (rest set w) (subst IsTrue (sym f) (cc)) (same-sym ns (rest set w) (rest set u) h) in
          let any : IsTrue (list_any (λ x. R v x) (range_with_len 0 v)) = any_at (λ x. R v x) 0 v w k (omega arith) (omega arith) in
          absurd (cc)
      by true false e f = refl
      by false r e f = refl

  none_after : (u b w a n : ℕ) → w < a → IsTrue (R w u) → total (counts_at u b) a n ≡ 0
  none_after u b w a zero lt h = refl
  none_after u b w a (suc n) lt h =
      let x : counts_at u b a ≡ 0 = not_least u b w a lt h in
      let y : total (counts_at u b) (a + 1) n ≡ 0 = none_after u b w (a + 1) n (omega arith) h in
      omega arith

  least_here : (u b a : ℕ) → ((w : ℕ) → w < a → IsTrue (R w u) → ⊥) → IsTrue (R a u) → counts_at u b a ≡ b
  least_here u b a none h = by (list_any (λ x. R a x) (range_with_len 0 a)) refl
    where
      by : (l : Bool) → list_any (λ x. R a x) (range_with_len 0 a) ≡ l → (if not l && R a u then b else 0) ≡ b
      by true e =
          let f = any_found (λ x. R a x) 0 a (subst IsTrue (sym e) (cc)) in
          let k : IsTrue (R f.at u) = same-trans ns (rest set f.at) (rest set a) (rest set u) (same-sym ns (rest set a) (rest set f.at) f.is) h in
          let lt : f.at < a = let hi = f.below in omega arith in
          absurd (none f.at lt k)
      by false e = ap (λ r. if r then b else 0) (is_true (R a u) h)

  other_here : (u b a : ℕ) → (IsTrue (R a u) → ⊥) → counts_at u b a ≡ 0
  other_here u b a h = by (is_least ns set a) (R a u) (not_true (R a u) h)
    where
      by : (l r : Bool) → r ≡ false → (if l && r then b else 0) ≡ 0
      by true true e = absurd (cc)
      by true false e = refl
      by false r e = refl

  -- what no number below a has, and a has not, no number below the next has
  none_yet : (u a : ℕ) → ((w : ℕ) → w < a → IsTrue (R w u) → ⊥) → (IsTrue (R a u) → ⊥) → (w : ℕ) → w < a + 1 → IsTrue (R w u) → ⊥
  none_yet u a none other w lt h = by (at_or_after w a (omega arith))
    where
      by : (w ≡ a) ⊎ (w < a) → ⊥
      by (inl e) = other (subst (λ x. IsTrue (R x u)) e h)
      by (inr k) = none w k h

  later : (u a : ℕ) → a ≤ u → (IsTrue (R a u) → ⊥) → a + 1 ≤ u
  later u a lo other = by (at_or_after a u lo)
    where
      by : (a ≡ u) ⊎ (a < u) → a + 1 ≤ u
      by (inl e) = absurd (other (subst (λ x. IsTrue (R a x)) e (same-refl ns (rest set a))))
      by (inr k) = omega arith

  exactly_one : (u b a n : ℕ) → ((w : ℕ) → w < a → IsTrue (R w u) → ⊥) → a ≤ u → u < a + n → total (counts_at u b) a n ≡ b
  exactly_one u b a zero none lo hi = absurd (omega arith)
  exactly_one u b a (suc n) none lo hi = by (R a u) refl (λ m l k. exactly_one u b (a + 1) n m l k)
    where
      by : (r : Bool) → R a u ≡ r → (((w : ℕ) → w < a + 1 → IsTrue (R w u) → ⊥) → a + 1 ≤ u → u < (a + 1) + n → total (counts_at u b) (a + 1) n ≡ b) → total (counts_at u b) a (suc n) ≡ b
      by true e go =
          let h : IsTrue (R a u) = subst IsTrue (sym e) (cc) in
          let x : counts_at u b a ≡ b = least_here u b a none h in
          let y : total (counts_at u b) (a + 1) n ≡ 0 = none_after u b a (a + 1) n (omega arith) h in
          omega arith
      by false e go =
          let other : IsTrue (R a u) → ⊥ = λ h. absurd (cc) in
          let x : counts_at u b a ≡ 0 = other_here u b a other in
          let y : total (counts_at u b) (a + 1) n ≡ b = go (none_yet u a none other) (later u a lo other) (omega arith) in
          omega arith

  -- the cubes behind each value of the first variable
  abbrev parts : ℕ → ℕ → List (List (List ℕ))
  parts n v = if is_least ns set v then map (λ c. class_of n ns set v ∷ c) (cubes ns (rest set v)) else []

  part_at : (n u v : ℕ) (s : List ℕ) → v < n → u < n → IsTrue (is_typed ns s) → times (cubes ns (rest set v)) s ≡ (if rest set v s then 1 else 0)
      → times (parts n v) (u ∷ s) ≡ counts_at u (if set (u ∷ s) then 1 else 0) v
  part_at n u v s lv lu t each = by (is_least ns set v)
    where
      class : has (class_of n ns set v) u ≡ R v u
      class = has_filtered (λ w. R v w) 0 n u (omega arith) (omega arith)

      same : (r : Bool) → R v u ≡ r → (if r then times (cubes ns (rest set v)) s else 0) ≡ (if r then (if set (u ∷ s) then 1 else 0) else 0)
      same true e = each ∙ ap (λ x. if x then 1 else 0) (same_at ns (rest set v) (rest set u) s (subst IsTrue (sym e) (cc)) t)
      same false e = refl

      by : (l : Bool) → times (if l then map (λ c. class_of n ns set v ∷ c) (cubes ns (rest set v)) else []) (u ∷ s) ≡ (if l && R v u then (if set (u ∷ s) then 1 else 0) else 0)
      by true = times_front (class_of n ns set v) (cubes ns (rest set v)) u s ∙ ap (λ x. if x then times (cubes ns (rest set v)) s else 0) class ∙ same (R v u) refl
      by false = refl

-- each state lies in exactly one cube of a set that has it, and in none of any other
each_once : (ns : List ℕ) (set : Set) (s : List ℕ) → IsTrue (is_typed ns s) → times (cubes ns set) s ≡ (if set s then 1 else 0)
each_once [] set [] t = by (set [])
  where
    by : (b : Bool) → times (if b then [] ∷ [] else []) [] ≡ (if b then 1 else 0)
    by true = refl
    by false = refl
each_once [] set (v ∷ s) t = absurd (cc)
each_once (n ∷ ns) set [] t = absurd (cc)
each_once (n ∷ ns) set (u ∷ s) t =
    let c = and_split (nat_lt u n) (is_typed ns s) t in
    let lu : u < n = below u n c.0 in
    let one : ℕ = if set (u ∷ s) then 1 else 0 in
    times_flat (parts ns set n) 0 n (u ∷ s)
    ∙ total_same (λ v. times (parts ns set n v) (u ∷ s)) (counts_at ns set u (if set (u ∷ s) then 1 else 0)) 0 n
    (λ v lo hi. part_at ns set n u v s (omega arith) lu c.1 (each_once ns (rest set v) s c.1))
    ∙ exactly_one ns set u (if set (u ∷ s) then 1 else 0) 0 n (λ w lt h. absurd (omega arith)) (omega arith) (omega arith)

-- ---- no two cubes have a state in common

in_one : (cs : List (List (List ℕ))) (s : List ℕ) (i : ℕ) (c : List (List ℕ)) → slice_get cs i ≡ Some c → IsTrue (lies_in c s) → 1 ≤ times cs s
in_one [] s i c g h = absurd (cc)
in_one (d ∷ cs) s zero c g h = by (lies_in d s) refl
  where
    by : (b : Bool) → lies_in d s ≡ b → 1 ≤ (if b then 1 + times cs s else times cs s)
    by true e = omega arith
    by false e = absurd (let f : d ≡ c = cc in let k : IsTrue (lies_in d s) = subst (λ x. IsTrue (lies_in x s)) (sym f) h in cc)
in_one (d ∷ cs) s (suc i) c g h = by (lies_in d s) (in_one cs s i c g h)
  where
    by : (b : Bool) → 1 ≤ times cs s → 1 ≤ (if b then 1 + times cs s else times cs s)
    by true k = omega arith
    by false k = k

in_two : (cs : List (List (List ℕ))) (s : List ℕ) (i j : ℕ) (c d : List (List ℕ)) → i < j → slice_get cs i ≡ Some c → slice_get cs j ≡ Some d → IsTrue (lies_in c s) → IsTrue (lies_in d s) → 2 ≤ times cs s
in_two [] s i j c d lt g k h m = absurd (cc)
in_two (e ∷ cs) s i zero c d lt g k h m = absurd (omega arith)
in_two (e ∷ cs) s zero (suc j) c d lt g k h m = by (lies_in e s) refl (in_one cs s j d k m)
  where
    by : (b : Bool) → lies_in e s ≡ b → 1 ≤ times cs s → 2 ≤ (if b then 1 + times cs s else times cs s)
    by true f l = omega arith
    by false f l = absurd (let x : e ≡ c = cc in let y : IsTrue (lies_in e s) = subst (λ z. IsTrue (lies_in z s)) (sym x) h in cc)
in_two (e ∷ cs) s (suc i) (suc j) c d lt g k h m = by (lies_in e s) (in_two cs s i j c d (omega arith) g k h m)
  where
    by : (b : Bool) → 2 ≤ times cs s → 2 ≤ (if b then 1 + times cs s else times cs s)
    by true l = omega arith
    by false l = l

at_most_one : (b : Bool) → (if b then 1 else 0) ≤ 1
at_most_one true = omega arith
at_most_one false = omega arith

apart : (counts : List ℕ) (set : Set) (s : List ℕ) (i j : ℕ) (c d : List (List ℕ)) → i < j → slice_get (cubes counts set) i ≡ Some c → slice_get (cubes counts set) j ≡ Some d
    → IsTrue (is_typed counts s) → IsTrue (lies_in c s) → IsTrue (lies_in d s) → ⊥
apart counts set s i j c d lt g k t h m =
    let two : 2 ≤ times (cubes counts set) s = in_two (cubes counts set) s i j c d lt g k h m in
    let one : times (cubes counts set) s ≡ (if set s then 1 else 0) = each_once counts set s t in
    let most : (if set s then 1 else 0) ≤ 1 = at_most_one (set s) in
    absurd (omega arith)

pub partition : (counts : List ℕ) (set : Set) → IsPartition counts set
partition counts set = record { each = each_once counts set; disjoint = apart counts set }
