-- Rows with the bits of a layer cleared.
use Rattle.std.proofs.Common.{◌≡◌, ◌≢◌, ℕ, zero, suc, ◌+◌, ◌-◌, ◌*◌, ◌<◌, ◌≤◌, Bool, false, IsTrue, List, [], ◌∷◌, ◌++◌, length, take, get_or, refl, sym, ap, ap₂, subst, ◌∙◌, arith, inl, inr}
use Rattle.std.specs.Prelude.{nat_lt}
use Rattle.std.proofs.lemmas.Bool.{cases_lt}
use Rattle.cov_dd.specs.Operations.{put}
use Rattle.cov_bits.specs.Layout.{AreSizes, are_places, bits, number, width}
use Rattle.cov_space.specs.declared.layer.Layer.{Layer}
use Rattle.cov_space.specs.declared.layer.Layer.TheVariants.{W}
use Rattle.cov_space.specs.Layers.{place_of}
use Rattle.cov_space.specs.Operations.{restriction}
use Rattle.cov_space.specs.Answers.{PutsSet}
use Rattle.cov_space.specs.Sets.{SpaceOf, lies, set_at}
use Rattle.cov_space.specs.Steps.{with_more}
use Rattle.cov_space.proofs.Calls.{push_behind, settled_behind}
use Rattle.cov_space.proofs.Rows.{get_or-put_same, get_or-put_other, length-put_below, place_lt}
use Rattle.cov_space.proofs.Sets.{lies_values, values_same}
use Rattle.cov_fields.specs.declared.field.Field.{Field}
use Rattle.cov_fields.specs.Fields.{bits_at, held}
use Rattle.cov_families.specs.Families.{index_of}
use Rattle.cov_model.proofs.Joined.{and_join}
use Rattle.cov_places.specs.Laws.{ApartLaw}
use Rattle.cov_places.specs.Places.{places_from, state_on, is_typed_on}
use Rattle.cov_conditions.specs.Fixed.{cleared, cleared_set, first_sets}
use Rattle.cov_conditions.proofs.Typing.{first_count, last_again}

pub length-cleared : (levels : ℕ) (layer : Layer) (count : ℕ) (row : List Bool) → 3 * count ≤ levels → length row ≡ levels → length (cleared layer count row) ≡ levels
length-cleared levels layer zero row le long = long
length-cleared levels layer (suc b) row le long =
    length-cleared levels layer b (put row (3 * b + place_of layer) false) (omega arith) (length-put_below levels row (3 * b + place_of layer) false long (level_below b layer levels le))
  where
    level_below : (b : ℕ) (layer : Layer) (levels : ℕ) → 3 * suc b ≤ levels → 3 * b + place_of layer < levels
    level_below b layer levels le = let p : place_of layer < 3 = place_lt layer in omega arith

-- one more bit is cleared
pub clear_turn : (levels : ℕ) (layer : Layer) (b : ℕ) (x : List Bool) → 3 * b + place_of layer < levels
    → restriction levels (cleared_set levels layer b x) (3 * b + place_of layer) false ≡ cleared_set levels layer (b + 1) x
clear_turn levels layer b x lt =
    values_same levels _ _ (λ row long. lies_values levels (λ row. lies x (cleared layer b row)) (put row (3 * b + place_of layer) false) (length-put_below levels row (3 * b + place_of layer) false long lt))
    ∙ ap (λ k. cleared_set levels layer k x) next
  where
    next : suc b ≡ b + 1
    next = omega arith

-- the sets after one more bit
pub clear_step : (old s s1 s2 : SpaceOf) (n b level : ℕ) (layer : Layer) (x : List Bool) → length old.sets ≡ n + 1 → level ≡ 3 * b + place_of layer → 3 * b + place_of layer < old.levels
    → s ≡ with_more (first_sets old n) (cleared_set old.levels layer b x ∷ [])
    → PutsSet s s1 (restriction s.levels (set_at s.sets n) level false)
    → s2 ≡ record s1 { sets = take n s1.sets ++ set_at s1.sets (length s1.sets - 1) ∷ [] }
    → s2 ≡ with_more (first_sets old n) (cleared_set old.levels layer (b + 1) x ∷ [])
clear_step old s s1 s2 n b level layer x count at lt is puts settle =
    let y : List Bool = cleared_set old.levels layer b x in
    let r : List Bool = restriction s.levels (set_at s.sets n) level false in
    let front : SpaceOf = first_sets old n in
    settled_behind front s1 s2 (y ∷ r ∷ []) n 1 (push_behind front s s1 (y ∷ []) r is puts) (first_count old n count) refl settle
    ∙ ap (λ (z : List Bool). with_more front (z ∷ []))
    (ap₂ (λ (k : ℕ) (z : List Bool). restriction k z level false) (ap (λ (z : SpaceOf). z.levels) is) (last_again old s n y count is)
    ∙ ap (λ k. restriction old.levels y k false) at ∙ clear_turn old.levels layer b x lt)

-- ---- what is left of a row

module _ (law : ApartLaw) where
  -- the states on the other layers
  pub cleared_elsewhere : (ns : List ℕ) (layer other : Layer) (count : ℕ) (row : List Bool) → place_of layer ≢ place_of other → state_on ns other (cleared layer count row) ≡ state_on ns other row
  cleared_elsewhere ns layer other zero row ne = refl
  cleared_elsewhere ns layer other (suc b) row ne =
      cleared_elsewhere ns layer other b (put row (3 * b + place_of layer) false) ne ∙ law.put_elsewhere ns other layer b false row ne

  heads : (k j : ℕ) → k ∷ [] ≡ j ∷ [] → k ≡ j
  heads k j e = cc

  -- the number of a value
  pub cleared_index : (n : ℕ) (layer : Layer) (count : ℕ) (row : List Bool) → place_of layer ≢ 0 → held (index_of n) (cleared layer count row) ≡ held (index_of n) row
  cleared_index n layer count row ne = heads _ _ (cleared_elsewhere (n ∷ []) layer W count row ne)

  bit_cleared : (layer : Layer) (count b : ℕ) (row : List Bool) → b < count → get_or (cleared layer count row) (3 * b + place_of layer) false ≡ false
  bit_cleared layer zero b row lt = absurd (omega arith)
  bit_cleared layer (suc c) b row lt = elim (cases_lt b c) [
    | inl below ↦ bit_cleared layer c b (put row (3 * c + place_of layer) false) below
    | inr above ↦ kept c (put row (3 * c + place_of layer) false) above ∙ same (omega arith)
  ]
    where
      kept : (k : ℕ) (r : List Bool) → k ≤ b → get_or (cleared layer k r) (3 * b + place_of layer) false ≡ get_or r (3 * b + place_of layer) false
      kept zero r le = refl
      kept (suc k) r le = kept k (put r (3 * k + place_of layer) false) (omega arith) ∙ get_or-put_other r (3 * k + place_of layer) (3 * b + place_of layer) false (omega arith)

      same : c ≡ b → get_or (put row (3 * c + place_of layer) false) (3 * b + place_of layer) false ≡ false
      same e = ap (λ k. get_or (put row (3 * c + place_of layer) false) (3 * k + place_of layer) false) (sym e) ∙ get_or-put_same row (3 * c + place_of layer) false

  zeros : (l count : ℕ) → number (bits_at l count []) ≡ 0
  zeros l zero = refl
  zeros l (suc count) = omega (arith, zeros (l + 3) count)

  first_places : (layer : Layer) (first : ℕ) (ns : List ℕ) → AreSizes ns → IsTrue (are_places ns (places_from layer first ns []))
  first_places layer first [] h = refl
  first_places layer first (n ∷ ns) h =
      let f : Field = record { layer = layer; first = first; width = width n } in
      let z : held f [] ≡ 0 = zeros _ (width n) in
      and_join (nat_lt (held f []) n) (are_places ns (places_from layer (first + width n) ns [])) (below (held f []) n z h.0.0) (first_places layer (first + width n) ns h.1)
    where
      below : (k n : ℕ) → k ≡ 0 → 0 < n → IsTrue (nat_lt k n)
      below k n e lt = grind arith

  -- the state that is cleared is typed
  pub cleared_typed : (ns : List ℕ) (layer : Layer) (row : List Bool) → AreSizes ns → IsTrue (is_typed_on ns layer (cleared layer (bits ns) row))
  cleared_typed ns layer row sized =
      subst (λ s. IsTrue (are_places ns s))
      (sym (law.same_bits ns layer (cleared layer (bits ns) row) [] (λ b lt. bit_cleared layer (bits ns) b row lt)))
      (first_places layer 0 ns sized)
