-- Each cube has a class with a place for every variable.
use Rattle.std.proofs.Common.{◌≡◌, ℕ, zero, suc, ◌+◌, ◌<◌, ◌≤◌, Bool, true, false, ◌&&◌, if◌then◌else◌, IsTrue, List, [], ◌∷◌, map, sym, arith, subst}
use Rattle.std.specs.Prelude.{nat_lt, nat_le, filter}
use Rattle.std.specs.List.{list_all, range_with_len}
use Rattle.cov_classes.specs.Cubes.{Set, values, rest, same_set, class_of, is_least, cubes}
use Rattle.cov_classes.specs.Partition.{has, are_ascending, is_class, is_cube}
use Rattle.cov_classes.proofs.Listing.{and_split, and_join, range_all, flat_all, is_below, same-refl}
use Rattle.cov_classes.proofs.Counting.{has_filtered}

-- what is left of a range ascends
ascending : (p : ℕ → Bool) (a n low most : ℕ) → low ≤ a → a + n ≤ most → IsTrue (are_ascending low most (filter p (range_with_len a n)))
ascending p a zero low most lo hi = cc
ascending p a (suc n) low most lo hi = by (p a) (ascending p (a + 1) n (a + 1) most (omega arith) (omega arith)) (ascending p (a + 1) n low most (omega arith) (omega arith))
  where
    by : (b : Bool) → IsTrue (are_ascending (a + 1) most (filter p (range_with_len (a + 1) n))) → IsTrue (are_ascending low most (filter p (range_with_len (a + 1) n)))
        → IsTrue (are_ascending low most (if b then a ∷ filter p (range_with_len (a + 1) n) else filter p (range_with_len (a + 1) n)))
    by true h k = and_join (nat_le low a && nat_lt a most) (are_ascending (a + 1) most (filter p (range_with_len (a + 1) n)))
        (and_join (nat_le low a) (nat_lt a most) (grind arith) (is_below a most (omega arith))) h
    by false h k = k

-- a class that has a place, and ascends
filled : (n : ℕ) (class : List ℕ) (v : ℕ) → IsTrue (has class v) → IsTrue (are_ascending 0 n class) → IsTrue (is_class n class)
filled n [] v h k = absurd (cc)
filled n (w ∷ class) v h k = k

class_filled : (n : ℕ) (ns : List ℕ) (set : Set) (v : ℕ) → v < n → IsTrue (is_class n (class_of n ns set v))
class_filled n ns set v lt =
    let own : has (class_of n ns set v) v ≡ same_set ns (rest set v) (rest set v) = has_filtered (λ w. same_set ns (rest set v) (rest set w)) 0 n v (omega arith) (omega arith) in
    filled n (class_of n ns set v) v (subst IsTrue (sym own) (same-refl ns (rest set v)))
    (ascending (λ w. same_set ns (rest set v) (rest set w)) 0 n 0 n (omega arith) (omega arith))

in_front : (n : ℕ) (ns : List ℕ) (class : List ℕ) (cs : List (List (List ℕ))) → IsTrue (is_class n class) → IsTrue (list_all (is_cube ns) cs) → IsTrue (list_all (is_cube (n ∷ ns)) (map (λ c. class ∷ c) cs))
in_front n ns class [] h k = cc
in_front n ns class (c ∷ cs) h k =
    let s = and_split (is_cube ns c) (list_all (is_cube ns) cs) k in
    and_join (is_class n class && is_cube ns c) (list_all (is_cube (n ∷ ns)) (map (λ c. class ∷ c) cs)) (and_join (is_class n class) (is_cube ns c) h s.0) (in_front n ns class cs h s.1)

pub proper : (counts : List ℕ) (set : Set) → IsTrue (list_all (is_cube counts) (cubes counts set))
proper [] set = by (set [])
  where
    by : (b : Bool) → IsTrue (list_all (is_cube []) (if b then [] ∷ [] else []))
    by true = cc
    by false = cc
proper (n ∷ ns) set =
    flat_all (is_cube (n ∷ ns)) (λ v. if is_least ns set v then map (λ c. class_of n ns set v ∷ c) (cubes ns (rest set v)) else []) (values n)
    (range_all (λ v. list_all (is_cube (n ∷ ns)) (if is_least ns set v then map (λ c. class_of n ns set v ∷ c) (cubes ns (rest set v)) else [])) 0 n
    (λ v lo hi. by v (is_least ns set v) (class_filled n ns set v (omega arith)) (proper ns (rest set v))))
  where
    by : (v : ℕ) (l : Bool) → IsTrue (is_class n (class_of n ns set v)) → IsTrue (list_all (is_cube ns) (cubes ns (rest set v)))
        → IsTrue (list_all (is_cube (n ∷ ns)) (if l then map (λ c. class_of n ns set v ∷ c) (cubes ns (rest set v)) else []))
    by v true h k = in_front n ns (class_of n ns set v) (cubes ns (rest set v)) h k
    by v false h k = cc
