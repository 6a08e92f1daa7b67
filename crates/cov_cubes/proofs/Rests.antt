-- Rest sets of values are sets of the remaining places.
use Rattle.std.proofs.Common.{◌≡◌, ℕ, ◌<◌, ◌≤◌, ◌+◌, ◌*◌, ◌^◌, ◌&&◌, get_or, List, [], ◌∷◌, Bool, true, false, length, IsTrue, refl, sym, ◌∙◌, ap, arith, subst}
use Rattle.std.proofs.Math.Path.{fun_ext}
use Rattle.std.specs.Prelude.{nat_lt}
use Rattle.cov_dd.specs.Operations.{Ignores}
use Rattle.cov_bits.specs.Layout.{width, bits, are_places}
use Rattle.cov_bits.proofs.Widths.{place_below}
use Rattle.cov_bits.proofs.Codes.{places_parts}
use Rattle.cov_classes.specs.Cubes.{Set, rest}
use Rattle.cov_classes.specs.Partition.{is_typed}
use Rattle.cov_space.specs.Sets.{lies, SameSets}
use Rattle.cov_space.proofs.Sets.{lies_values}
use Rattle.cov_fields.specs.Fields.{written}
use Rattle.cov_fields.specs.Sets.{rest_set, IsEmpty}
use Rattle.cov_fields.proofs.Places.{held_written}
use Rattle.cov_cubes.specs.States.{present, placed, blank, states_from, places_at, IsStateSet}
use Rattle.cov_cubes.specs.Rests.{IsRest}
use Rattle.cov_cubes.proofs.Rows.{length-blank, length-placed, length-written, places_above, get_or-bits_at, bits_placed}
use Rattle.cov_cubes.proofs.Apart.{agree}

pub lies-rest_set : (levels from n v : ℕ) (set r : List Bool) → length r ≡ levels → lies (rest_set levels (present from n) v set) r ≡ lies set (written (present from n) v r)
lies-rest_set levels from n v set r len = lies_values levels (λ s. lies set (written (present from n) v s)) r len

-- the states of the rest set of a value are the rest set of the states
pub rest_joins : (levels from n v : ℕ) (ns : List ℕ) (set : List Bool) → 3 * (from + bits (n ∷ ns)) ≤ levels
    → states_from (from + width n) ns levels (rest_set levels (present from n) v set) ≡ rest (states_from from (n ∷ ns) levels set) v
rest_joins levels from n v ns set le = fun_ext (λ s. lies-rest_set levels from n v set (placed (from + width n) ns s (blank levels)) (length-placed levels (from + width n) ns s (blank levels) (omega arith) (length-blank levels)))

pub rest_is : (levels from n v : ℕ) (ns : List ℕ) (set : List Bool) → IsRest levels from (n ∷ ns) set → v < n → IsRest levels (from + width n) ns (rest_set levels (present from n) v set)
rest_is levels from n v ns set is lt =
    let le : 3 * (from + bits (n ∷ ns)) ≤ levels = is.there in
    let small : v < 2 ^ width n = place_below n v lt in
    let held_is : (r : List Bool) → places_at from (n ∷ ns) (written (present from n) v r) ≡ v ∷ places_at (from + width n) ns r = λ r.
    ap (λ k. k ∷ places_at (from + width n) ns (written (present from n) v r)) (held_written (present from n) v r small)
    ∙ ap (λ (s : List ℕ). v ∷ s) (places_above from n v (from + width n) ns r (omega arith)) in
    let long : (r : List Bool) → length r ≡ levels → length (written (present from n) v r) ≡ levels = λ r len. length-written levels from n v r (omega arith) len in
    record {
      there = omega arith;
      same = λ r len.
          lies-rest_set levels from n v set r len
          ∙ is.same (written (present from n) v r) (long r len)
          ∙ ap (states_from from (n ∷ ns) levels set) (held_is r)
          ∙ ap (λ (f : Set). f (places_at (from + width n) ns r)) (sym (rest_joins levels from n v ns set le));
      typed = λ r len h.
          (places_parts n ns v (places_at (from + width n) ns r)
          (subst (λ (s : List ℕ). IsTrue (are_places (n ∷ ns) s)) (held_is r)
          (is.typed (written (present from n) v r) (long r len) (subst IsTrue (lies-rest_set levels from n v set r len) h)))).1;
    }

-- ---- empty sets, and equal sets

pub typed_is : (ns s : List ℕ) → are_places ns s ≡ is_typed ns s
typed_is [] [] = refl
typed_is [] (v ∷ s) = refl
typed_is (n ∷ ns) [] = refl
typed_is (n ∷ ns) (v ∷ s) = ap (λ b. nat_lt v n && b) (typed_is ns s)

pub empty_states : (levels from : ℕ) (ns : List ℕ) (set : List Bool) → IsRest levels from ns set → IsEmpty levels set → (s : List ℕ) → states_from from ns levels set s ≡ false
empty_states levels from ns set is h s = h (placed from ns s (blank levels)) (length-placed levels from ns s (blank levels) is.there (length-blank levels))

pub states_empty : (levels from : ℕ) (ns : List ℕ) (set : List Bool) → IsRest levels from ns set → ((s : List ℕ) → IsTrue (is_typed ns s) → states_from from ns levels set s ≡ false) → IsEmpty levels set
states_empty levels from ns set is h r len = by (lies set r) refl
  where
    by : (b : Bool) → lies set r ≡ b → b ≡ false
    by false e = refl
    by true e =
        let t : IsTrue (lies set r) = subst IsTrue (sym e) (cc) in
        let p : IsTrue (is_typed ns (places_at from ns r)) = subst IsTrue (typed_is ns (places_at from ns r)) (is.typed r len t) in
        sym e ∙ is.same r len ∙ h (places_at from ns r) p

pub same_states : (levels from : ℕ) (ns : List ℕ) (a b : List Bool) → IsRest levels from ns a → SameSets levels a b → (s : List ℕ) → states_from from ns levels a s ≡ states_from from ns levels b s
same_states levels from ns a b is h s = h (placed from ns s (blank levels)) (length-placed levels from ns s (blank levels) is.there (length-blank levels))

pub states_same : (levels from : ℕ) (ns : List ℕ) (a b : List Bool) → IsRest levels from ns a → IsRest levels from ns b
    → ((s : List ℕ) → IsTrue (is_typed ns s) → states_from from ns levels a s ≡ states_from from ns levels b s) → SameSets levels a b
states_same levels from ns a b is_a is_b h r len = by (lies a r) (lies b r) refl refl
  where
    at : IsTrue (are_places ns (places_at from ns r)) → lies a r ≡ lies b r
    at p = is_a.same r len ∙ h (places_at from ns r) (subst IsTrue (typed_is ns (places_at from ns r)) p) ∙ sym (is_b.same r len)

    by : (x y : Bool) → lies a r ≡ x → lies b r ≡ y → lies a r ≡ lies b r
    by false false e f = e ∙ sym f
    by true y e f = at (is_a.typed r len (subst IsTrue (sym e) (cc)))
    by false true e f = at (is_b.typed r len (subst IsTrue (sym f) (cc)))

-- ---- all variables

pub top_is : (levels : ℕ) (ns : List ℕ) (set : List Bool) → levels ≡ 3 * bits ns → IsStateSet ns levels set → IsRest levels 0 ns set
top_is levels ns set whole is =
    let le : 3 * (0 + bits ns) ≤ levels = omega arith in
    let w : (b : ℕ) → b < bits ns → Ignores (3 * bits ns) (3 * b + 0) (lies set) = λ b lt. subst (λ m. Ignores m (3 * b + 0) (lies set)) whole (is.apart_w b (omega arith)) in
    let n : (b : ℕ) → b < bits ns → Ignores (3 * bits ns) (3 * b + 2) (lies set) = λ b lt. subst (λ m. Ignores m (3 * b + 2) (lies set)) whole (is.apart_n b (omega arith)) in
    record {
      there = le;
      same = λ r len.
          let x : List Bool = placed 0 ns (places_at 0 ns r) (blank levels) in
          agree (bits ns) (lies set) w n r x (len ∙ whole) (length-placed levels 0 ns (places_at 0 ns r) (blank levels) le (length-blank levels) ∙ whole)
          (λ b lt. sym (get_or-bits_at 1 (bits ns) b r lt) ∙ ap (λ (bs : List Bool). get_or bs b false) (sym (bits_placed 0 ns r (blank levels))) ∙ get_or-bits_at 1 (bits ns) b x lt);
      typed = is.typed;
    }
