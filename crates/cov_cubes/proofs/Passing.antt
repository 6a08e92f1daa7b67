-- Rest sets of variables of one value.
use Rattle.std.proofs.Common.{◌≡◌, ℕ, zero, suc, ◌<◌, ◌≤◌, ◌+◌, ◌-◌, ◌*◌, ◌^◌, ◌++◌, if◌then◌else◌, List, [], ◌∷◌, Bool, length, map, drop, get_or, refl, sym, ◌∙◌, ap, arith, subst, append_assoc, ◌⊎◌, inl, inr}
use Rattle.std.proofs.lemmas.Bool.{cases_lt}
use Rattle.std.proofs.lemmas.List.{append-nil}
use Rattle.cov_bits.specs.Layout.{width, bits, first}
use Rattle.cov_bits.proofs.Widths.{width_holds}
use Rattle.cov_bits.proofs.Codes.{places_parts}
use Rattle.cov_bits.proofs.Encoding.{bits_more}
use Rattle.cov_classes.specs.Cubes.{Set, cubes, rest, same_set}
use Rattle.cov_classes.proofs.Listing.{same-refl}
use Rattle.cov_cubes.specs.States.{places_at, states_from, IsStateSet}
use Rattle.cov_cubes.specs.Rests.{IsRest, IsRestOf, states_of}
use Rattle.cov_cubes.specs.Steps.{behind}
use Rattle.cov_cubes.specs.OneValue.{IsPassed, singles}
use Rattle.cov_cubes.proofs.Rests.{top_is}
use Rattle.cov_cubes.proofs.Sizes.{drop_next}
use Rattle.cov_cubes.proofs.Gathered.{true_is}
use Rattle.cov_cubes.proofs.Counted.{behind_none, behind_first}

-- ---- bits

-- a variable of several values has a bit
pub width_some : (n : ℕ) → 1 < n → 0 < width n
width_some n lt = by (width n) (width_holds n (omega arith))
  where
    by : (w : ℕ) → n ≤ 2 ^ w → 0 < w
    by zero le = absurd (omega arith)
    by (suc w) le = omega arith

pub bits_left : (ns : List ℕ) (x : ℕ) → x < length ns → bits (drop x ns) ≡ width (get_or ns x 0) + bits (drop (x + 1) ns)
bits_left ns x lt = ap bits (drop_next ns x lt)

-- ---- one variable

-- the cubes of a variable of one value
pub cubes_one : (ns : List ℕ) (set : Set) → cubes (1 ∷ ns) set ≡ map (λ c. (0 ∷ []) ∷ c) (cubes ns (rest set 0))
cubes_one ns set =
    append-nil (map (λ c. (if same_set ns (rest set 0) (rest set 0) then 0 ∷ [] else []) ∷ c) (cubes ns (rest set 0)))
    ∙ ap (λ b. map (λ c. (if b then 0 ∷ [] else []) ∷ c) (cubes ns (rest set 0))) (true_is (same_set ns (rest set 0) (rest set 0)) (same-refl ns (rest set 0)))

-- what is a rest set of a variable of one value and the variables behind it is one of these
one_is : (levels from : ℕ) (ns : List ℕ) (set : List Bool) → IsRest levels from (1 ∷ ns) set → IsRest levels (from + width 1) ns set
one_is levels from ns set is = record {
  there = let le : 3 * (from + (0 + bits ns)) ≤ levels = is.there in omega arith;
  same = is.same;
  typed = λ r len h. (places_parts 1 ns 0 (places_at (from + width 1) ns r) (is.typed r len h)).1;
}

-- a rest set of the variables from one on is also one of those behind further variables of one value, so many of them, and its cubes
-- then begin with their classes.
pub record IsBehind (levels : ℕ) (ns : List ℕ) (from to count : ℕ) (set : List Bool) : Type 0 where
  pub rest : IsRestOf levels ns to set
  pub cubes_are : cubes (drop from ns) (states_of levels ns from set) ≡ behind (singles count) (cubes (drop to ns) (states_of levels ns to set))
  pub bits_are : bits (drop from ns) ≡ bits (drop to ns)

behind_one : (levels : ℕ) (ns : List ℕ) (x : ℕ) (set : List Bool) → x < length ns → get_or ns x 0 ≡ 1 → IsRestOf levels ns x set → IsBehind levels ns x (x + 1) 1 set
behind_one levels ns x set lx one is =
    let ms : List ℕ = drop (x + 1) ns in
    let next : drop x ns ≡ 1 ∷ drop (x + 1) ns = drop_next ns x lx ∙ ap (λ n. n ∷ drop (x + 1) ns) one in
    let from : first ns (x + 1) ≡ first ns x + width 1 = bits_more ns x lx ∙ ap (λ n. first ns x + width n) one in
    let head : IsRest levels (first ns x) (1 ∷ drop (x + 1) ns) set = subst (λ (l : List ℕ). IsRest levels (first ns x) l set) next is in
    record {
      rest = subst (λ k. IsRest levels k (drop (x + 1) ns) set) (sym from) (one_is levels (first ns x) ms set head);
      cubes_are =
          ap (λ (l : List ℕ). cubes l (states_from (first ns x) l levels set)) next
          ∙ cubes_one ms (states_from (first ns x) (1 ∷ ms) levels set)
          ∙ ap (λ k. map (λ c. (0 ∷ []) ∷ c) (cubes ms (states_from k ms levels set))) (sym from);
      bits_are = let own : 0 + bits (drop (x + 1) ns) ≡ bits (drop (x + 1) ns) = omega arith in ap bits next ∙ own;
    }

passes : (count levels : ℕ) (ns : List ℕ) (from to : ℕ) (set : List Bool) → from + count ≡ to → to ≤ length ns → ((x : ℕ) → from ≤ x → x < to → get_or ns x 0 ≡ 1) → IsRestOf levels ns from set → IsBehind levels ns from to count set
passes zero levels ns from to set far there one is =
    let same : from ≡ to = omega arith in
    subst (λ k. IsBehind levels ns from k 0 set) same (record { rest = is; cubes_are = sym (behind_none (cubes (drop from ns) (states_of levels ns from set))); bits_are = refl })
passes (suc count) levels ns from to set far there one is =
    let o : IsBehind levels ns from (from + 1) 1 set = behind_one levels ns from set (omega arith) (one from (omega arith) (omega arith)) is in
    let b : IsBehind levels ns (from + 1) to count set = passes count levels ns (from + 1) to set (omega arith) there (λ x lo hi. one x (omega arith) hi) o.rest in
    let xs : List (List (List ℕ)) = cubes (drop to ns) (states_of levels ns to set) in
    record {
      rest = b.rest;
      cubes_are = o.cubes_are ∙ ap (behind ((0 ∷ []) ∷ [])) b.cubes_are ∙ sym (behind_first (0 ∷ []) (singles count) xs);
      bits_are = o.bits_are ∙ b.bits_are;
    }

-- what is passed has one value for each variable
pub passed : (levels : ℕ) (ns : List ℕ) (from to : ℕ) (set : List Bool) → IsPassed ns from to → IsRestOf levels ns from set → IsBehind levels ns from to (to - from) set
passed levels ns from to set p is =
    let up : from ≤ to = p.up in
    passes (to - from) levels ns from to set (omega arith) p.there p.one is

-- the whole set, behind the variables of one value that come first
pub firsts_passed : (levels : ℕ) (ns ms : List ℕ) (to : ℕ) (set : List Bool) → ns ≡ ms → levels ≡ 3 * bits ns → IsStateSet ns levels set → IsPassed ms 0 to → IsBehind levels ns 0 to (to - 0) set
firsts_passed levels ns ms to set plan whole is p = passed levels ns 0 to set (subst (λ (l : List ℕ). IsPassed l 0 to) (sym plan) p) (top_is levels ns set whole is)

-- the classes of one variable more
pub singles_last : (from x : ℕ) (front : List (List ℕ)) → from ≤ x → (front ++ singles (x - from)) ++ (0 ∷ []) ∷ [] ≡ front ++ singles (x + 1 - from)
singles_last from x front le =
    let next : x + 1 - from ≡ suc (x - from) = omega arith in
    append_assoc front (singles (x - from)) ((0 ∷ []) ∷ []) ∙ ap (λ (l : List (List ℕ)). front ++ l) (last (x - from)) ∙ ap (λ n. front ++ singles n) (sym next)
  where
    last : (n : ℕ) → singles n ++ (0 ∷ []) ∷ [] ≡ singles (suc n)
    last zero = refl
    last (suc n) = ap (λ (l : List (List ℕ)). (0 ∷ []) ∷ l) (last n)

pub one_more : (ns : List ℕ) (from x : ℕ) → ((k : ℕ) → from ≤ k → k < x → get_or ns k 0 ≡ 1) → get_or ns x 0 ≡ 1 → (k : ℕ) → from ≤ k → k < x + 1 → get_or ns k 0 ≡ 1
one_more ns from x before here k lo hi = by (cases_lt k x)
  where
    by : (k < x) ⊎ (x ≤ k) → get_or ns k 0 ≡ 1
    by (inl lt) = before k lo lt
    by (inr le) = let same : x ≡ k = omega arith in ap (λ i. get_or ns i 0) (sym same) ∙ here
