-- A join of kinds that are not Boolean has what each of them has.
use Rattle.std.proofs.Common.{◌≡◌, ◌≤ℤ◌, ◌<ℤ◌, ℕ, zero, suc, ◌+◌, ℤ, pos, ◌+ℤ◌, ◌-ℤ◌, nat_abs, int_le, Bool, true, false, not, ◌&&◌, ◌||◌, if◌then◌else◌, IsTrue, IsFalse, ◌⊎◌, inl, inr, List, [], ◌∷◌, ◌++◌, map, refl, sym, ap, subst, ◌∙◌, arith}
use Rattle.std.specs.List.{list_any}
use Rattle.std.proofs.lemmas.Int.{ints, clamps}
use Rattle.cov_syntax.specs.declared.tree.Value.{Value}
use Rattle.cov_syntax.specs.declared.tree.Value.TheVariants as v
use Rattle.cov_model.specs.Values.{same_value, within}
use Rattle.cov_model.specs.Kinds.{Kind, boolean, interval, among, is_boolean, is_number, of_kind, is_truth, member, united, integers, count, values_of, join, join_all, joined_kind}
use Rattle.cov_model.proofs.Kept.{bounds, within_bounds}
use Rattle.cov_model.proofs.Joins.{or_left, or_right, or_case, member-united_left, member-united_right, interval-join_left, interval-join_right}

pub and_split : (a b : Bool) → IsTrue (a && b) → IsTrue a × IsTrue b
and_split true b h = (refl, h)
and_split false b h = cc

pub and_join : (a b : Bool) → IsTrue a → IsTrue b → IsTrue (a && b)
and_join true b h k = k
and_join false b h k = cc

-- ---- the values of a kind

same_int : (i j : ℤ) → i ≡ j → IsTrue (same_value (v.Int i) (v.Int j))
same_int i j e = grind (arith, ints)

at_low : (low i : ℤ) → low ≤ℤ i → int_le i low ≡ true → low ≡ i
at_low low i h e = grind (arith, ints)

above : (low i : ℤ) → int_le i low ≡ false → (low +ℤ pos 1) ≤ℤ i
above low i e = grind (arith, ints)

member_integers : (n : ℕ) (low i : ℤ) → low ≤ℤ i → i <ℤ (low +ℤ pos n) → IsTrue (member (integers low n) (v.Int i))
member_integers zero low i h k = absurd (omega (arith, ints))
member_integers (suc n) low i h k = by (int_le i low) refl (λ l. member_integers n (low +ℤ pos 1) i l (omega (arith, ints)))
  where
    by : (b : Bool) → int_le i low ≡ b → ((low +ℤ pos 1) ≤ℤ i → IsTrue (member (integers (low +ℤ pos 1) n) (v.Int i))) → IsTrue (member (integers low (suc n)) (v.Int i))
    by true e f = or_left (same_value (v.Int low) (v.Int i)) (member (integers (low +ℤ pos 1) n) (v.Int i)) (same_int low i (at_low low i h e))
    by false e f = or_right (same_value (v.Int low) (v.Int i)) (member (integers (low +ℤ pos 1) n) (v.Int i)) (f (above low i e))

counted : (a b i : ℤ) → a ≤ℤ i → i ≤ℤ b → i <ℤ (a +ℤ pos (count a b))
counted a b i h k = by (int_le a b) refl
  where
    by : (c : Bool) → int_le a b ≡ c → i <ℤ (a +ℤ pos (if c then nat_abs (b -ℤ a) + 1 else 0))
    by true e = omega (arith, ints)
    by false e = absurd (grind (arith, ints))

-- a value of a kind that is not Boolean is listed, and is no Boolean
pub listed : (k : Kind) (x : Value) → is_boolean k ≡ false → IsTrue (of_kind k x) → IsTrue (member (values_of k) x)
listed boolean x b h = cc
listed (interval low high) (v.Bool c) b h = cc
listed (interval low high) (v.Sym s) b h = cc
listed (interval low high) (v.Int i) b h = let r = bounds low high i h in member_integers (count low high) low i r.0 (counted low high i r.0 r.1)
listed (among xs) x b h = (and_split (not (is_truth x)) (member xs x) h).1

pub no_truth_in : (k : Kind) (x : Value) → is_boolean k ≡ false → IsTrue (of_kind k x) → IsTrue (not (is_truth x))
no_truth_in boolean x b h = cc
no_truth_in (interval low high) (v.Bool c) b h = cc
no_truth_in (interval low high) (v.Sym s) b h = cc
no_truth_in (interval low high) (v.Int i) b h = refl
no_truth_in (among xs) x b h = (and_split (not (is_truth x)) (member xs x) h).0

-- ---- a join of two

in_list_left : (k l : Kind) (x : Value) → is_boolean k ≡ false → IsTrue (of_kind k x) → IsTrue (of_kind (among (united (values_of k) (values_of l))) x)
in_list_left k l x b h = and_join (not (is_truth x)) (member (united (values_of k) (values_of l)) x) (no_truth_in k x b h) (member-united_left (values_of k) (values_of l) x (listed k x b h))

in_list_right : (k l : Kind) (x : Value) → is_boolean l ≡ false → IsTrue (of_kind l x) → IsTrue (of_kind (among (united (values_of k) (values_of l))) x)
in_list_right k l x b h = and_join (not (is_truth x)) (member (united (values_of k) (values_of l)) x) (no_truth_in l x b h) (member-united_right (values_of k) (values_of l) x (listed l x b h))

pub join_left : (k l : Kind) (x : Value) → is_boolean k ≡ false → is_boolean l ≡ false → IsTrue (of_kind k x) → IsTrue (of_kind (join k l) x)
join_left boolean l x b c h = cc
join_left (interval p q) boolean x b c h = cc
join_left (interval p q) (interval r s) (v.Int i) b c h = interval-join_left p q r s i h
join_left (interval p q) (interval r s) (v.Bool i) b c h = cc
join_left (interval p q) (interval r s) (v.Sym i) b c h = cc
join_left (interval p q) (among ys) x b c h = in_list_left (interval p q) (among ys) x b h
join_left (among xs) boolean x b c h = cc
join_left (among xs) (interval r s) x b c h = in_list_left (among xs) (interval r s) x b h
join_left (among xs) (among ys) x b c h = in_list_left (among xs) (among ys) x b h

pub join_right : (k l : Kind) (x : Value) → is_boolean k ≡ false → is_boolean l ≡ false → IsTrue (of_kind l x) → IsTrue (of_kind (join k l) x)
join_right boolean l x b c h = cc
join_right (interval p q) boolean x b c h = cc
join_right (interval p q) (interval r s) (v.Int i) b c h = interval-join_right p q r s i h
join_right (interval p q) (interval r s) (v.Bool i) b c h = cc
join_right (interval p q) (interval r s) (v.Sym i) b c h = cc
join_right (interval p q) (among ys) x b c h = in_list_right (interval p q) (among ys) x c h
join_right (among xs) boolean x b c h = cc
join_right (among xs) (interval r s) x b c h = in_list_right (among xs) (interval r s) x c h
join_right (among xs) (among ys) x b c h = in_list_right (among xs) (among ys) x c h

join_no_boolean : (k l : Kind) → is_boolean k ≡ false → is_boolean l ≡ false → is_boolean (join k l) ≡ false
join_no_boolean boolean l b c = cc
join_no_boolean (interval p q) boolean b c = cc
join_no_boolean (interval p q) (interval r s) b c = refl
join_no_boolean (interval p q) (among ys) b c = refl
join_no_boolean (among xs) boolean b c = cc
join_no_boolean (among xs) (interval r s) b c = refl
join_no_boolean (among xs) (among ys) b c = refl

-- ---- a join of many

or_false : (a b : Bool) → (a || b) ≡ false → (a ≡ false) × (b ≡ false)
or_false true b h = cc
or_false false b h = (refl, h)

join_all_no_boolean : (k : Kind) (ks : List Kind) → is_boolean k ≡ false → list_any is_boolean ks ≡ false → is_boolean (join_all k ks) ≡ false
join_all_no_boolean k [] b c = b
join_all_no_boolean k (l ∷ ks) b c = let d = or_false (is_boolean l) (list_any is_boolean ks) c in join_all_no_boolean (join k l) ks (join_no_boolean k l b d.0) d.1

join_all_has : (k : Kind) (ks : List Kind) (x : Value) → is_boolean k ≡ false → list_any is_boolean ks ≡ false
    → IsTrue (of_kind k x) ⊎ IsTrue (list_any (λ l. of_kind l x) ks) → IsTrue (of_kind (join_all k ks) x)
join_all_has k [] x b c (inl h) = h
join_all_has k [] x b c (inr h) = cc
join_all_has k (l ∷ ks) x b c h =
    let d = or_false (is_boolean l) (list_any is_boolean ks) c in
    join_all_has (join k l) ks x (join_no_boolean k l b d.0) d.1 (step k l x b d.0 ks h)
  where
    step : (k l : Kind) (x : Value) → is_boolean k ≡ false → is_boolean l ≡ false → (ks : List Kind) → IsTrue (of_kind k x) ⊎ IsTrue (list_any (λ l. of_kind l x) (l ∷ ks))
        → IsTrue (of_kind (join k l) x) ⊎ IsTrue (list_any (λ l. of_kind l x) ks)
    step k l x b c ks (inl h) = inl (join_left k l x b c h)
    step k l x b c ks (inr h) = elim (or_case (of_kind l x) (list_any (λ l. of_kind l x) ks) h) [ inl g ↦ inl (join_right k l x b c g) | inr g ↦ inr g ]

by_boolean : (b : Bool) (k : Kind) → is_boolean (if b then boolean else k) ≡ false → b ≡ false
by_boolean true k h = cc
by_boolean false k h = refl

pub joined_has : (ks : List Kind) (x : Value) → is_boolean (joined_kind ks) ≡ false → IsTrue (list_any (λ k. of_kind k x) ks) → IsTrue (of_kind (joined_kind ks) x)
joined_has [] x b h = cc
joined_has (k ∷ ks) x b h =
    let c : list_any is_boolean (k ∷ ks) ≡ false = by_boolean (list_any is_boolean (k ∷ ks)) (join_all k ks) b in
    let d = or_false (is_boolean k) (list_any is_boolean ks) c in
    subst (λ (t : Bool). IsTrue (of_kind (if t then boolean else join_all k ks) x)) (sym c)
    (join_all_has k ks x d.0 d.1 (or_case (of_kind k x) (list_any (λ l. of_kind l x) ks) h))

-- a join is Boolean where one of the kinds is
pub joined_boolean : (k : Kind) (ks : List Kind) → is_boolean (joined_kind (k ∷ ks)) ≡ true → list_any is_boolean (k ∷ ks) ≡ true
joined_boolean k ks h = by (list_any is_boolean (k ∷ ks)) refl h
  where
    by : (b : Bool) → list_any is_boolean (k ∷ ks) ≡ b → is_boolean (if b then boolean else join_all k ks) ≡ true → b ≡ true
    by true e h = refl
    by false e h = let d = or_false (is_boolean k) (list_any is_boolean ks) e in let n = join_all_no_boolean k ks d.0 d.1 in cc

-- numbers join in a number
number_no_boolean : (k : Kind) → IsTrue (is_number k) → is_boolean k ≡ false
number_no_boolean boolean h = cc
number_no_boolean (interval a b) h = refl
number_no_boolean (among xs) h = cc

join_number : (k l : Kind) → IsTrue (is_number k) → IsTrue (is_number l) → IsTrue (is_number (join k l))
join_number boolean l h g = cc
join_number (among xs) l h g = cc
join_number (interval a b) boolean h g = cc
join_number (interval a b) (among xs) h g = cc
join_number (interval a b) (interval c d) h g = refl

abbrev pub AllNumbers : List Kind → Type 0
AllNumbers [] = Unit {0}
AllNumbers (k ∷ ks) = IsTrue (is_number k) × AllNumbers ks

join_all_number : (k : Kind) (ks : List Kind) → IsTrue (is_number k) → AllNumbers ks → IsTrue (is_number (join_all k ks))
join_all_number k [] h g = h
join_all_number k (l ∷ ks) h g = join_all_number (join k l) ks (join_number k l h g.0) g.1

none_boolean : (ks : List Kind) → AllNumbers ks → list_any is_boolean ks ≡ false
none_boolean [] h = refl
none_boolean (k ∷ ks) h = rw (number_no_boolean k h.0) (none_boolean ks h.1)

pub joined_number : (k : Kind) (ks : List Kind) → AllNumbers (k ∷ ks) → IsTrue (is_number (joined_kind (k ∷ ks)))
joined_number k ks h = subst (λ (t : Bool). IsTrue (is_number (if t then boolean else join_all k ks))) (sym (none_boolean (k ∷ ks) h)) (join_all_number k ks h.0 h.1)
