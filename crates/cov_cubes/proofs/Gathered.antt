-- The cubes of a set, class by class.
use Rattle.std.proofs.Common.{◌≡◌, ◌⊎◌, inl, inr, ℕ, zero, suc, ◌<◌, ◌≤◌, ◌+◌, ◌&&◌, ◌++◌, not, if◌then◌else◌, List, [], ◌∷◌, Bool, true, false, IsTrue, length, map, get_or, refl, sym, ◌∙◌, ap, ap₂, arith, subst}
use Rattle.std.specs.Prelude.{filter, nat_lt}
use Rattle.std.specs.List.{list_any, list_all, flat_map, range_with_len}
use Rattle.std.proofs.lemmas.Grind.{flat_map-append}
use Rattle.std.proofs.lemmas.List.{append-nil}
use Rattle.cov_classes.specs.Cubes.{Set, values, rest, same_set, class_of, is_least, cubes}
use Rattle.cov_classes.specs.Partition.{is_typed}
use Rattle.cov_classes.proofs.Listing.{at_or_after, and_join, any_at, is_below, range_all, flat_all, same-refl}
use Rattle.cov_cubes.specs.Steps.{has_none, classes_of}
use Rattle.cov_cubes.proofs.Firsts.{truth_false}
use Rattle.cov_cubes.proofs.Joined.{range_flat, none_typed}

-- ---- a set without states has no cube

flat_none : {X : Type 0} (f : ℕ → List X) (a n : ℕ) → ((v : ℕ) → a ≤ v → v < a + n → f v ≡ []) → flat_map f (range_with_len a n) ≡ []
flat_none f a zero h = refl
flat_none f a (suc n) h = ap₂ ◌++◌ (h a (omega arith) (omega arith)) (flat_none f (a + 1) n (λ v lo hi. h v (omega arith) (omega arith)))

pub cubes_none : (ns : List ℕ) (set : Set) → ((s : List ℕ) → IsTrue (is_typed ns s) → set s ≡ false) → cubes ns set ≡ []
cubes_none [] set none = ap (λ b. if b then [] ∷ [] else []) (none [] (cc))
cubes_none (n ∷ ns) set none =
    flat_none (λ v. if is_least ns set v then map (λ c. class_of n ns set v ∷ c) (cubes ns (rest set v)) else []) 0 n (λ v lo hi.
    let lt : v < n = omega arith in
    by v (is_least ns set v) (cubes_none ns (rest set v) (λ s typed. none (v ∷ s) (and_join (nat_lt v n) (is_typed ns s) (is_below v n lt) typed))))
  where
    by : (v : ℕ) (b : Bool) → cubes ns (rest set v) ≡ [] → (if b then map (λ c. class_of n ns set v ∷ c) (cubes ns (rest set v)) else []) ≡ []
    by v true e = ap (map (λ c. class_of n ns set v ∷ c)) e
    by v false e = refl

-- ---- the least value of a class stands first in it

-- a list that begins with a number
pub record Begins (v : ℕ) (l : List ℕ) : Type 0 where
  pub head : get_or l 0 0 ≡ v
  pub some : 0 < length l

filter_begins : (p : ℕ → Bool) (a n v : ℕ) → a ≤ v → v < a + n → p v ≡ true → ((w : ℕ) → w < v → p w ≡ false) → Begins v (filter p (range_with_len a n))
filter_begins p a zero v lo hi here before = absurd (omega arith)
filter_begins p a (suc n) v lo hi here before = by (at_or_after a v lo) (λ lt. filter_begins p (a + 1) n v (omega arith) (omega arith) here before)
  where
    tail : List ℕ
    tail = filter p (range_with_len (a + 1) n)

    by : (a ≡ v) ⊎ (a < v) → (a < v → Begins v (filter p (range_with_len (a + 1) n))) → Begins v (if p a then a ∷ filter p (range_with_len (a + 1) n) else filter p (range_with_len (a + 1) n))
    by (inl e) go =
        subst (λ b. Begins v (if b then a ∷ filter p (range_with_len (a + 1) n) else filter p (range_with_len (a + 1) n))) (sym (ap p e ∙ here)) (record { head = e; some = omega arith })
    by (inr lt) go =
        subst (λ b. Begins v (if b then a ∷ filter p (range_with_len (a + 1) n) else filter p (range_with_len (a + 1) n))) (sym (before a lt)) (go lt)

not_any : (p : ℕ → Bool) (v : ℕ) → not (list_any p (values v)) ≡ true → (w : ℕ) → w < v → p w ≡ false
not_any p v h w lt = truth_false (p w) (λ t. by (list_any p (values v)) h (any_at p 0 v w t (omega arith) (omega arith)))
  where
    by : (b : Bool) → not b ≡ true → IsTrue b → ⊥
    by true e t = cc
    by false e t = cc

pub true_is : (b : Bool) → IsTrue b → b ≡ true
true_is true h = refl
true_is false h = cc

class_begins : (n : ℕ) (ns : List ℕ) (set : Set) (v : ℕ) → v < n → is_least ns set v ≡ true → Begins v (class_of n ns set v)
class_begins n ns set v lt least =
    filter_begins (λ w. same_set ns (rest set v) (rest set w)) 0 n v (omega arith) (omega arith) (true_is _ (same-refl ns (rest set v)))
    (not_any (λ w. same_set ns (rest set v) (rest set w)) v least)

-- ---- classes

-- the cubes that begin with a class
abbrev pub cubes_of : List ℕ → Set → List ℕ → List (List (List ℕ))
cubes_of ns set class = map (λ c. class ∷ c) (cubes ns (rest set (get_or class 0 0)))

flat_flat : {X Y Z : Type 0} (f : Y → List Z) (g : X → List Y) (xs : List X) → flat_map f (flat_map g xs) ≡ flat_map (λ x. flat_map f (g x)) xs
flat_flat f g [] = refl
flat_flat f g (x ∷ xs) = flat_map-append f (g x) (flat_map g xs) ∙ ap (λ l. flat_map f (g x) ++ l) (flat_flat f g xs)

pub by_classes : (n : ℕ) (ns : List ℕ) (set : Set) → flat_map (cubes_of ns set) (classes_of n ns set) ≡ cubes (n ∷ ns) set
by_classes n ns set =
    flat_flat (cubes_of ns set) (λ v. if is_least ns set v && not (has_none ns (rest set v)) then class_of n ns set v ∷ [] else []) (values n)
    ∙ range_flat _ (λ v. if is_least ns set v then map (λ c. class_of n ns set v ∷ c) (cubes ns (rest set v)) else []) 0 n (λ v lo hi. by v (omega arith) (is_least ns set v) (has_none ns (rest set v)) refl refl)
  where
    by : (v : ℕ) → v < n → (a b : Bool) → is_least ns set v ≡ a → has_none ns (rest set v) ≡ b
        → flat_map (cubes_of ns set) (if a && not b then class_of n ns set v ∷ [] else []) ≡ (if a then map (λ c. class_of n ns set v ∷ c) (cubes ns (rest set v)) else [])
    by v lt false b e f = refl
    by v lt true true e f = sym (ap (map (λ c. class_of n ns set v ∷ c)) (cubes_none ns (rest set v) (none_typed ns (rest set v) (subst IsTrue (sym f) (cc)))))
    by v lt true false e f =
        append-nil (cubes_of ns set (class_of n ns set v)) ∙ ap (λ k. map (λ c. class_of n ns set v ∷ c) (cubes ns (rest set k))) (class_begins n ns set v lt e).head

-- a class that begins with a value
abbrev pub is_headed : ℕ → List ℕ → Bool
is_headed n class = nat_lt 0 (length class) && nat_lt (get_or class 0 0) n

pub all_headed : (n : ℕ) (ns : List ℕ) (set : Set) → IsTrue (list_all (is_headed n) (classes_of n ns set))
all_headed n ns set =
    flat_all (is_headed n) (λ v. if is_least ns set v && not (has_none ns (rest set v)) then class_of n ns set v ∷ [] else []) (values n)
    (range_all (λ v. list_all (is_headed n) (if is_least ns set v && not (has_none ns (rest set v)) then class_of n ns set v ∷ [] else [])) 0 n (λ v lo hi. by v (omega arith) (is_least ns set v) (has_none ns (rest set v)) refl))
  where
    by : (v : ℕ) → v < n → (a b : Bool) → is_least ns set v ≡ a → IsTrue (list_all (is_headed n) (if a && not b then class_of n ns set v ∷ [] else []))
    by v lt false b e = cc
    by v lt true true e = cc
    by v lt true false e =
        let begins : Begins v (class_of n ns set v) = class_begins n ns set v lt e in
        and_join (is_headed n (class_of n ns set v)) true
        (and_join (nat_lt 0 (length (class_of n ns set v))) (nat_lt (get_or (class_of n ns set v) 0 0) n) (is_below 0 (length (class_of n ns set v)) begins.some)
        (subst (λ k. IsTrue (nat_lt k n)) (sym begins.head) (is_below v n lt))) (cc)
