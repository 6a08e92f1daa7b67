-- The choices of a DEFINE, by those of its body.
use Rattle.std.proofs.Common.{◌≡◌, ◌≢◌, ℕ, ◌+◌, ◌*◌, ◌<◌, Bool, true, false, ◌&&◌, IsTrue, List, [], ◌∷◌, map, length, Option, refl, sym, ap, ap₂, subst, ◌∙◌, arith, Result, Ok, Err, OnOk}
use Rattle.std.specs.Prelude.{nat_lt}
use Rattle.cov_syntax.specs.declared.tree.Value.{Value}
use Rattle.cov_bits.specs.Layout.{AreSizes, are_places, bits, sizes}
use Rattle.cov_bits.proofs.Formed.{typed_places}
use Rattle.cov_model.specs.declared.model.Define.{Define}
use Rattle.cov_model.specs.declared.model.Model.{Model}
use Rattle.cov_model.specs.declared.model.Signal.{Signal}
use Rattle.cov_model.specs.declared.model.Signal.TheVariants as signal
use Rattle.cov_model.specs.Meaning.{allows, define, flipped, value}
use Rattle.cov_model.specs.States.{State, between, is_typed, readings_in}
use Rattle.cov_model.specs.Values.{item, same_value}
use Rattle.cov_model.proofs.Joined.{and_split, and_join}
use Rattle.cov_space.specs.declared.layer.Layer.{Layer}
use Rattle.cov_space.specs.declared.layer.Layer.TheVariants.{W, V, N}
use Rattle.cov_space.specs.Layers.{place_of}
use Rattle.cov_space.specs.declared.fault.SpaceFault.{SpaceFault}
use Rattle.cov_space.specs.Answers.{PutsSet}
use Rattle.cov_space.specs.Sets.{SpaceOf, lies, set_at}
use Rattle.cov_space.specs.Steps.{with_more}
use Rattle.cov_space.proofs.Calls.{at_behind}
use Rattle.cov_space.proofs.Sets.{lies_values}
use Rattle.cov_fields.specs.Fields.{held}
use Rattle.cov_fields.proofs.Steps.{puts_last}
use Rattle.cov_families.specs.Families.{index_of}
use Rattle.cov_places.specs.Laws.{ApartLaw}
use Rattle.cov_nodes.specs.declared.reading.Reading.{Reading}
use Rattle.cov_nodes.specs.Choices.{IsFamily, picked}
use Rattle.cov_nodes.specs.Points.{at_layer, has_typed, holds_states, is_point, point_at, state_of}
use Rattle.cov_nodes.specs.Standing.{define_choice}
use Rattle.cov_readings.specs.Single.{HasOneChoice}
use Rattle.cov_conditions.specs.Asked.{asked, inverts}
use Rattle.cov_conditions.specs.Fixed.{cleared, cleared_set, first_sets}
use Rattle.cov_conditions.proofs.Asking.{asked_turned, flipped_asked, item_asked, length-asked}
use Rattle.cov_conditions.proofs.Typing.{narrowed}
use Rattle.cov_conditions.proofs.Clearing.{cleared_elsewhere, cleared_index, cleared_typed, length-cleared}

-- ---- layers

pub states_held : (l : Layer) → l ≢ W → IsTrue (holds_states l)
states_held W ne = absurd (ne refl)
states_held V ne = refl
states_held N ne = refl

pub not_first : (l : Layer) → l ≢ W → place_of l ≢ 0
not_first W ne = absurd (ne refl)
not_first V ne = λ e. omega arith
not_first N ne = λ e. omega arith

pub places_apart : (a b : Layer) → a ≢ b → place_of a ≢ place_of b
places_apart W W ne = absurd (ne refl)
places_apart V V ne = absurd (ne refl)
places_apart N N ne = absurd (ne refl)
places_apart W V ne = λ e. omega arith
places_apart W N ne = λ e. omega arith
places_apart V W ne = λ e. omega arith
places_apart V N ne = λ e. omega arith
places_apart N W ne = λ e. omega arith
places_apart N V ne = λ e. omega arith

-- ---- points

pub point_made : (m : Model) (at : Reading) (row : List Bool) → IsTrue (holds_states at.present) → IsTrue (holds_states at.next) → IsTrue (has_typed m at.present row) → IsTrue (has_typed m at.next row) → IsTrue (is_point m at row)
point_made m at row a b c d =
    and_join (holds_states at.present && holds_states at.next && has_typed m at.present row) (has_typed m at.next row)
    (and_join (holds_states at.present && holds_states at.next) (has_typed m at.present row) (and_join (holds_states at.present) (holds_states at.next) a b) c) d

pub record Point (m : Model) (at : Reading) (row : List Bool) : Type 0 where
  pub present : IsTrue (has_typed m at.present row)
  pub next : IsTrue (has_typed m at.next row)

pub point_parts : (m : Model) (at : Reading) (row : List Bool) → IsTrue (is_point m at row) → Point m at row
point_parts m at row h =
    let s = and_split (holds_states at.present && holds_states at.next && has_typed m at.present row) (has_typed m at.next row) h in
    record { present = (and_split (holds_states at.present && holds_states at.next) (has_typed m at.present row) s.0).1; next = s.1 }

pub is_state_typed : (m : Model) (layer : Layer) (row : List Bool) → IsTrue (has_typed m layer row) → IsTrue (is_typed m (state_of m layer row))
is_state_typed m layer row h = typed_places m.vars (state_of m layer row) ∙ h

-- ---- what is picked

pub picked_asked : (b : Bool) (ys : List Value) (f g : Value → Bool) (row : List Bool) → ((y : Value) → f (asked b y) ≡ g y) → picked (map (asked b) ys) f row ≡ picked ys g row
picked_asked b ys f g row h =
    ap (λ n. nat_lt (held (index_of n) row) n && f (item (map (asked b) ys) (held (index_of n) row))) (length-asked b ys)
    ∙ by (nat_lt (held (index_of (length ys)) row) (length ys)) refl
  where
    below : (k n : ℕ) → nat_lt k n ≡ true → k < n
    below k n e = grind arith

    by : (c : Bool) → nat_lt (held (index_of (length ys)) row) (length ys) ≡ c → (c && f (item (map (asked b) ys) (held (index_of (length ys)) row))) ≡ (c && g (item ys (held (index_of (length ys)) row)))
    by true e = ap f (item_asked b ys (held (index_of (length ys)) row) (below (held (index_of (length ys)) row) (length ys) e)) ∙ h (item ys (held (index_of (length ys)) row))
    by false e = refl

picked_as : (ys : List Value) (g : Value → Bool) (row other : List Bool) → ((n : ℕ) → held (index_of n) other ≡ held (index_of n) row) → picked ys g other ≡ picked ys g row
picked_as ys g row other h = ap (λ k. nat_lt k (length ys) && g (item ys k)) (h (length ys))

module _ (m : Model) (i : ℕ) (d : Define) (one : HasOneChoice m d.body)
    (bodied : (s t : State) (flip : Option Signal) → define (readings_in m s flip) i ≡ flipped flip (signal.Def i) (value d.body (between m s t flip))) where
  -- a choice of the body, asked for, is one of the DEFINE
  choice_at : (s t : State) (flip : Option Signal) → IsTrue (is_typed m s) → IsTrue (is_typed m t) → (y : Value)
      → allows d.body (between m s t flip) (asked (inverts flip i) y) ≡ same_value (define (readings_in m s flip) i) y
  choice_at s t flip p q y =
      let x : Value = value d.body (between m s t flip) in
      one s t flip p q (asked (inverts flip i) y)
      ∙ asked_turned (inverts flip i) x y
      ∙ ap (λ (z : Value). same_value z y) (sym (bodied s t flip ∙ flipped_asked flip i x))

  -- the family of the body, in one state
  pub family_here : (levels : ℕ) (at : Reading) (xs ys : List Value) (set : List Bool) → at.next ≡ at.present → xs ≡ map (asked (inverts at.flip i)) ys
      → IsFamily levels m at xs (allows d.body) set → IsFamily levels m (at_layer at.present at.flip) ys (define_choice i) set
  family_here levels at xs ys set same is h = λ row long here.
      let at' : Reading = at_layer at.present at.flip in
      let p = point_parts m at' row here in
      let there : IsTrue (is_point m at row) = subst (λ (l : Layer). IsTrue (is_point m (record at { next = l }) row)) (sym same) here in
      let q = point_parts m at row there in
      h row long there
      ∙ ap (λ (zs : List Value). picked zs (allows d.body (point_at m at row)) row) is
      ∙ picked_asked (inverts at.flip i) ys (allows d.body (point_at m at row)) (define_choice i (point_at m at' row)) row
      (choice_at (state_of m at.present row) (state_of m at.next row) at.flip (is_state_typed m at.present row q.present) (is_state_typed m at.next row q.next))

  -- the family of the body in two states, once the next one is cleared
  pub family_cleared : ApartLaw → (levels : ℕ) (at : Reading) (xs ys : List Value) (set : List Bool) → AreSizes (sizes m.vars) → levels ≡ 3 * bits (sizes m.vars)
      → at.present ≢ W → at.next ≢ W → at.next ≢ at.present → xs ≡ map (asked (inverts at.flip i)) ys
      → IsFamily levels m at xs (allows d.body) set → IsFamily levels m (at_layer at.present at.flip) ys (define_choice i) (cleared_set levels at.next (bits (sizes m.vars)) set)
  family_cleared law levels at xs ys set sized whole states states' other is h = λ row long here.
      let ns : List ℕ = sizes m.vars in
      let at' : Reading = at_layer at.present at.flip in
      let p = point_parts m at' row here in
      let row' : List Bool = cleared at.next (bits ns) row in
      let long' : length row' ≡ levels = length-cleared levels at.next (bits ns) row (omega arith) long in
      let apart : place_of at.next ≢ place_of at.present = places_apart at.next at.present other in
      let same : state_of m at.present row' ≡ state_of m at.present row = cleared_elsewhere law ns at.next at.present (bits ns) row apart in
      let present : IsTrue (has_typed m at.present row') = subst (λ (s : State). IsTrue (are_places ns s)) (sym same) p.present in
      let next : IsTrue (has_typed m at.next row') = cleared_typed law ns at.next row sized in
      let there : IsTrue (is_point m at row') = point_made m at row' (states_held at.present states) (states_held at.next states') present next in
      lies_values levels (λ (r : List Bool). lies set (cleared at.next (bits ns) r)) row long
      ∙ h row' long' there
      ∙ ap (λ (zs : List Value). picked zs (allows d.body (point_at m at row')) row') is
      ∙ picked_asked (inverts at.flip i) ys (allows d.body (point_at m at row')) (λ z. same_value (define (readings_in m (state_of m at.present row') at.flip) i) z) row'
      (choice_at (state_of m at.present row') (state_of m at.next row') at.flip (is_state_typed m at.present row' present) (is_state_typed m at.next row' next))
      ∙ ap (λ (s : State). picked ys (λ z. same_value (define (readings_in m s at.flip) i) z) row') same
      ∙ picked_as ys (λ z. same_value (define (readings_in m (state_of m at.present row) at.flip) i) z) row row' (λ n. cleared_index law n at.next (bits ns) row (not_first at.next states'))

-- the last set, cleared, behind those of before
pub clears : (res : Result Unit SpaceFault) (old s new : SpaceOf) (n : ℕ) (ns ks : List ℕ) (layer : Layer) (set : List Bool) → length old.sets ≡ n → ns ≡ ks → PutsSet old s set
    → OnOk res (new ≡ with_more (first_sets s n) (cleared_set s.levels layer (bits ns) (set_at s.sets n) ∷ [])) → OnOk res (PutsSet old new (cleared_set old.levels layer (bits ks) set))
clears (Err e) old s new n ns ks layer set count plan puts done = tt
clears (Ok u) old s new n ns ks layer set count plan puts done =
    let at : length old.sets + 0 ≡ n = omega arith in
    puts_last old new (cleared_set old.levels layer (bits ks) set)
    (narrowed old s new n set (cleared_set s.levels layer (bits ns) (set_at s.sets n)) count puts.is done
    ∙ ap (λ (y : List Bool). with_more old (y ∷ []))
    (ap₂ (λ (k : ℕ) (y : List Bool). cleared_set k layer (bits ns) y) (ap (λ (z : SpaceOf). z.levels) puts.is) (at_behind old s (set ∷ []) n 0 puts.is at)
    ∙ ap (λ (js : List ℕ). cleared_set old.levels layer (bits js) set) plan))
