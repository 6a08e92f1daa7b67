-- A family of the values of a variable, carried to where a row holds the variable.
use Rattle.std.proofs.Common.{◌≡◌, ◌≢◌, ℕ, ◌+◌, ◌-◌, ◌<◌, ◌==◌, ◌++◌, Bool, true, false, ◌&&◌, IsTrue, List, [], ◌∷◌, length, take, get_or, Option, Some, refl, sym, ap, ap₂, subst, ◌∙◌, arith, Result, Ok, Err, OnOk, IfErr}
use Rattle.std.specs.Prelude.{slice_get}
use Rattle.cov_bits.specs.Layout.{sizes}
use Rattle.cov_model.specs.declared.model.Assign.{Assign}
use Rattle.cov_model.specs.declared.model.Model.{Model}
use Rattle.cov_model.specs.declared.model.Var.{Var}
use Rattle.cov_model.specs.Meaning.{allows}
use Rattle.cov_model.specs.States.{values_at}
use Rattle.cov_model.specs.Values.{item}
use Rattle.cov_model.proofs.Joined.{and_split}
use Rattle.cov_space.specs.declared.fault.SpaceFault.{SpaceFault}
use Rattle.cov_space.specs.declared.layer.Layer.{Layer}
use Rattle.cov_space.specs.declared.layer.Layer.TheVariants.{W}
use Rattle.cov_space.specs.Answers.{PutsSet}
use Rattle.cov_space.specs.Operations.{intersection}
use Rattle.cov_space.specs.Sets.{SpaceOf, lies, set_at}
use Rattle.cov_space.specs.Steps.{Leaves, with_more}
use Rattle.cov_space.proofs.Calls.{at_behind, on_ok_map, push_behind, settled_behind}
use Rattle.cov_space.proofs.Sets.{lies_values, values_same}
use Rattle.cov_fields.specs.declared.field.Field.{Field}
use Rattle.cov_fields.specs.Fields.{field_of, held, written}
use Rattle.cov_fields.proofs.Steps.{puts_last}
use Rattle.cov_families.specs.Families.{carried_set, index_of, names, some_below, target}
use Rattle.cov_families.proofs.Numbers.{equal_turned, some_one, some_same}
use Rattle.cov_places.specs.Laws.{ApartLaw}
use Rattle.cov_places.specs.Places.{typed_set}
use Rattle.cov_nodes.specs.declared.reading.Reading.{Reading}
use Rattle.cov_nodes.specs.Choices.{Choice, IsChunk, IsFamily}
use Rattle.cov_nodes.specs.Points.{has_typed, is_point, point_at, state_of}
use Rattle.cov_nodes.proofs.Variables.{place_held, place_typed}
use Rattle.cov_nodes.proofs.Written.{lies_written}
use Rattle.cov_conditions.specs.Carried.{own_targets}
use Rattle.cov_conditions.specs.Conditions.{assignment_set}
use Rattle.cov_conditions.specs.Fixed.{first_sets, typed_part}
use Rattle.cov_conditions.proofs.Concluding.{meets_same, point_is}
use Rattle.cov_conditions.proofs.Typing.{first_again, narrowed, typed_at}
use Rattle.cov_conditions.proofs.Variables.{Sized, length-own, target_own}

swapped : (a b : Bool) → (a && b) ≡ (b && a)
swapped true true = refl
swapped true false = refl
swapped false true = refl
swapped false false = refl

grouped : (a b c : Bool) → (a && b && c) ≡ (a && (b && c))
grouped true b c = refl
grouped false b c = refl

module _ (law : ApartLaw) (m : Model) (at : Reading) (to : Layer) (var : ℕ) (x : Var) (there : slice_get m.vars var ≡ Some x) (s : Sized m var x) where
  abbrev ns : List ℕ
  ns = sizes m.vars

  abbrev index : Field
  index = index_of (length x.values)

  abbrev place : List Bool → ℕ
  place row = held (field_of ns var to) row

  abbrev carried : ℕ → List Bool → List Bool
  carried levels set = carried_set levels index (field_of ns var to) (own_targets (length x.values)) set

  -- whether the value that the row holds of the variable is a choice
  lies_carried : (levels : ℕ) (f : Choice) (set row : List Bool) → IsChunk levels x.values → IsFamily levels m at x.values f set → length row ≡ levels → IsTrue (is_point m at row) → IsTrue (has_typed m to row)
      → lies (carried levels set) row ≡ f (point_at m at row) (item (values_at m.vars (state_of m to row)) var)
  lies_carried levels f set row chunk is long here typed =
      let n : ℕ = length x.values in
      let h : ℕ = place row in
      let same : h ≡ get_or (state_of m to row) var 0 = place_held ns to var row s.there in
      let t = place_typed m.vars (state_of m to row) var x typed there in
      let below : h < n = let e = t.0 in omega (arith, e, same) in
      lies_values levels (λ (r : List Bool). some_below (length (own_targets n)) (λ i. lies set (written index i r) && names (target (own_targets n) i) (place r))) row long
      ∙ ap (λ k. some_below k (λ i. lies set (written index i row) && names (target (own_targets n) i) h)) (length-own n)
      ∙ some_same n (λ i. lies set (written index i row) && names (target (own_targets n) i) h) (λ i. h == i && f (point_at m at row) (item x.values i)) (λ i lt.
      ap₂ (λ a b. a && b) (lies_written law levels m at x.values f set is chunk.fits row long here i lt) (ap (λ (o : Option ℕ). names o h) (target_own n i lt) ∙ equal_turned i h)
      ∙ swapped (f (point_at m at row) (item x.values i)) (h == i))
      ∙ some_one n h (λ i. f (point_at m at row) (item x.values i)) (λ le. absurd (omega arith))
      ∙ ap (λ v. f (point_at m at row) v) (ap (item x.values) same ∙ sym t.1)

  -- the rows at typed states
  assigned_rows : (levels : ℕ) (a : Assign) (set : List Bool) → a.var ≡ var → at.present ≢ W → at.next ≢ W → IsChunk levels x.values → IsFamily levels m at x.values (allows a.body) set
      → intersection levels (typed_part levels m at (carried levels set)) (typed_set levels ns to) ≡ assignment_set levels m at to a
  assigned_rows levels a set is p n chunk family = values_same levels _ _ (λ row long.
      ap₂ (λ b c. b && c) (lies_values levels (λ (r : List Bool). lies (carried levels set) r && (has_typed m at.present r && has_typed m at.next r)) row long) (typed_at m levels ns row to refl long)
      ∙ ap (λ b. lies (carried levels set) row && b && has_typed m to row) (sym (point_is m at row p n))
      ∙ grouped (lies (carried levels set) row) (is_point m at row) (has_typed m to row)
      ∙ meets_same (lies (carried levels set) row) (allows a.body (point_at m at row) (item (values_at m.vars (state_of m to row)) a.var)) (is_point m at row && has_typed m to row) (λ both.
      let q = and_split (is_point m at row) (has_typed m to row) both in
      lies_carried levels (allows a.body) set row chunk family long q.0 q.1
      ∙ ap (λ k. allows a.body (point_at m at row) (item (values_at m.vars (state_of m to row)) k)) (sym is)))

-- ---- behind the sets of before

-- the carried set, settled
pub carried_alone : (old s1 s2 s3 : SpaceOf) (n : ℕ) (set : List Bool) (from to from' to' : Field) (ts ts' : List (Option ℕ)) → length old.sets ≡ n → s1 ≡ with_more old (set ∷ []) → from ≡ from' → to ≡ to' → ts ≡ ts'
    → PutsSet s1 s2 (carried_set s1.levels from to ts (set_at s1.sets n)) → s3 ≡ record s2 { sets = take n s2.sets ++ set_at s2.sets (length s2.sets - 1) ∷ [] }
    → s3 ≡ with_more old (carried_set old.levels from' to' ts' set ∷ [])
carried_alone old s1 s2 s3 n set from to from' to' ts ts' count is a b c puts settle =
    let here : length old.sets + 0 ≡ n = omega arith in
    let made : List Bool = carried_set s1.levels from to ts (set_at s1.sets n) in
    settled_behind old s2 s3 (set ∷ made ∷ []) n 1 (push_behind old s1 s2 (set ∷ []) made is puts) count refl settle
    ∙ ap (λ (y : List Bool). with_more old (y ∷ []))
    (ap₂ (λ (k : ℕ) (y : List Bool). carried_set k from to ts y) (ap (λ (z : SpaceOf). z.levels) is) (at_behind old s1 (set ∷ []) n 0 is here)
    ∙ ap₂ (λ (f g : Field). carried_set old.levels f g ts set) a b
    ∙ ap (λ (us : List (Option ℕ)). carried_set old.levels from' to' us set) c)

-- what is left of it at typed states of one more layer
pub assignment_put : (res : Result Unit SpaceFault) → ApartLaw → (old s new : SpaceOf) (n : ℕ) (m : Model) (at : Reading) (to : Layer) (x : Var) (a : Assign) (ks : List ℕ) (set : List Bool) → slice_get m.vars a.var ≡ Some x → Sized m a.var x
    → length old.sets ≡ n → at.present ≢ W → at.next ≢ W → ks ≡ sizes m.vars → IsChunk old.levels x.values → IsFamily old.levels m at x.values (allows a.body) set
    → s ≡ with_more old (typed_part old.levels m at (carried_set old.levels (index_of (length x.values)) (field_of (sizes m.vars) a.var to) (own_targets (length x.values)) set) ∷ [])
    → OnOk res (new ≡ with_more (first_sets s n) (intersection s.levels (set_at s.sets n) (typed_set s.levels ks to) ∷ [])) → OnOk res (PutsSet old new (assignment_set old.levels m at to a))
assignment_put res law old s new n m at to x a ks set there sized count p q plan chunk family is =
    on_ok_map res _ _ (λ done.
    let here : length old.sets + 0 ≡ n = omega arith in
    let y : List Bool = typed_part old.levels m at (carried_set old.levels (index_of (length x.values)) (field_of (sizes m.vars) a.var to) (own_targets (length x.values)) set) in
    puts_last old new (assignment_set old.levels m at to a)
    (narrowed old s new n y (intersection s.levels (set_at s.sets n) (typed_set s.levels ks to)) count is done
    ∙ ap (λ (z : List Bool). with_more old (z ∷ []))
    (ap₂ (λ (k : ℕ) (z : List Bool). intersection k z (typed_set k ks to)) (ap (λ (z : SpaceOf). z.levels) is) (at_behind old s (y ∷ []) n 0 is here)
    ∙ ap (λ (js : List ℕ). intersection old.levels y (typed_set old.levels js to)) plan
    ∙ assigned_rows law m at to a.var x there sized old.levels a set refl p q chunk family)))

-- a refusal where one set stands behind those of before
pub leaves_front : (old s new : SpaceOf) (n : ℕ) (x : List Bool) (f : SpaceFault) → length old.sets ≡ n → s ≡ with_more old (x ∷ []) → Leaves (first_sets s n) new f → Leaves old new f
leaves_front old s new n x f count is h = subst (λ (z : SpaceOf). Leaves z new f) (first_again old s n (x ∷ []) count is) h

pub err_front : (res : Result Unit SpaceFault) (old s new : SpaceOf) (n : ℕ) (x : List Bool) → length old.sets ≡ n → s ≡ with_more old (x ∷ []) → IfErr res (λ f. Leaves (first_sets s n) new f) → IfErr res (λ f. Leaves old new f)
err_front (Ok u) old s new n x count is h = tt
err_front (Err f) old s new n x count is h = leaves_front old s new n x f count is h
