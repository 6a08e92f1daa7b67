-- The family of a variable.
use Rattle.std.proofs.Common.{◌≡◌, ℕ, zero, suc, ◌<◌, ◌≤◌, ◌+◌, ◌^◌, IsTrue, IsFalse, ◌&&◌, List, [], ◌∷◌, map, Bool, false, Option, Some, None, length, get_or, slice_get, refl, sym, ◌∙◌, ap, ap₂, subst, arith}
use Rattle.std.proofs.lemmas.Bool.{and_parts}
use Rattle.std.proofs.lemmas.List.{get_or-map, length-map}
use Rattle.std.proofs.lemmas.Option.{unwrap_or-slice_get}
use Rattle.cov_syntax.specs.declared.tree.Value.{Value}
use Rattle.cov_syntax.specs.declared.tree.Value.TheVariants as v
use Rattle.cov_model.specs.declared.model.Signal.{Signal}
use Rattle.cov_model.specs.declared.model.Signal.TheVariants as signal
use Rattle.cov_model.specs.declared.model.Var.{Var}
use Rattle.cov_model.specs.declared.model.Model.{Model}
use Rattle.cov_model.specs.Meaning.{flipped, variable}
use Rattle.cov_model.specs.States.{values_at}
use Rattle.cov_model.specs.Types.{has_twice}
use Rattle.cov_model.specs.Values.{item, same_value}
use Rattle.cov_bits.specs.Layout as layout
use Rattle.cov_bits.specs.Layout.{AreSizes, are_places, sizes, width}
use Rattle.cov_bits.proofs.Codes.{places_parts}
use Rattle.cov_bits.proofs.Formed.{size_at}
use Rattle.cov_bits.proofs.Widths.{width_holds}
use Rattle.cov_space.specs.declared.layer.Layer.{Layer}
use Rattle.cov_space.specs.Sets.{SpaceOf}
use Rattle.cov_space.specs.Answers.{PutsSet}
use Rattle.cov_fields.specs.declared.field.Field.{Field}
use Rattle.cov_fields.specs.Fields.{field_of, held}
use Rattle.cov_places.specs.Places.{places_from, state_on}
use Rattle.cov_families.specs.Families.{AllFit, index_of, names, read_set, target}
use Rattle.cov_nodes.specs.declared.reading.Reading.{Reading}
use Rattle.cov_nodes.specs.Choices.{PutsFamily}
use Rattle.cov_nodes.specs.Numbering.{number_in}
use Rattle.cov_nodes.specs.Points.{has_typed, holds_states, is_point, point_at, state_of}
use Rattle.cov_nodes.specs.Steps.{inverts, read_as}
use Rattle.cov_nodes.proofs.Families.{names_picked, number_fits, puts_family}

-- ---- what a row holds of a variable

place_from : (layer : Layer) (first : ℕ) (ns : List ℕ) (var : ℕ) (row : List Bool) → var < length ns
    → get_or (places_from layer first ns row) var 0 ≡ held (record { layer = layer; first = first + layout.first ns var; width = width (get_or ns var 0) }) row
place_from layer first [] var row lt = absurd (omega arith)
place_from layer first (n ∷ ns) zero row lt =
    let e : first ≡ first + 0 = omega arith in
    ap (λ k. held (record { layer = layer; first = k; width = width n }) row) e
place_from layer first (n ∷ ns) (suc var) row lt =
    let e : (first + width n) + layout.first ns var ≡ first + (width n + layout.first ns var) = omega arith in
    place_from layer (first + width n) ns var row (omega arith)
    ∙ ap (λ k. held (record { layer = layer; first = k; width = width (get_or ns var 0) }) row) e

-- the field of a variable holds its place in the state that the row names
pub place_held : (ns : List ℕ) (layer : Layer) (var : ℕ) (row : List Bool) → var < length ns → held (field_of ns var layer) row ≡ get_or (state_on ns layer row) var 0
place_held ns layer var row lt =
    let e : layout.first ns var ≡ 0 + layout.first ns var = omega arith in
    ap (λ k. held (record { layer = layer; first = k; width = width (get_or ns var 0) }) row) e
    ∙ sym (place_from layer 0 ns var row lt)

-- the place of a variable in a typed state, and its value there
pub place_typed : (vars : List Var) (s : List ℕ) (var : ℕ) (x : Var) → IsTrue (are_places (sizes vars) s) → slice_get vars var ≡ Some x
    → (get_or s var 0 < length x.values) × (item (values_at vars s) var ≡ item x.values (get_or s var 0))
place_typed [] s var x typed is = cc
place_typed (y ∷ ys) [] var x typed is = cc
place_typed (y ∷ ys) (i ∷ s) zero x typed is =
    let same : y ≡ x = cc in
    (subst (λ (z : Var). i < length z.values) same (places_parts (length y.values) (sizes ys) i s typed).0, ap (λ (z : Var). item z.values i) same)
place_typed (y ∷ ys) (i ∷ s) (suc var) x typed is = place_typed ys s var x (places_parts (length y.values) (sizes ys) i s typed).1 is

size_of : (vars : List Var) (var : ℕ) (x : Var) → slice_get vars var ≡ Some x → get_or (sizes vars) var 0 ≡ length x.values
size_of [] var x is = cc
size_of (y ∷ ys) zero x is = let same : y ≡ x = cc in ap (λ (z : Var). length z.values) same
size_of (y ∷ ys) (suc var) x is = size_of ys var x is

-- ---- targets

-- as many as the field has numbers
pub targets_few : (vars : List Var) (var : ℕ) (x : Var) (f : Value → Option ℕ) (ts : List (Option ℕ)) → slice_get vars var ≡ Some x → AreSizes (sizes vars) → var < length vars → ts ≡ map f x.values
    → length ts ≤ 2 ^ width (get_or (sizes vars) var 0)
targets_few vars var x f ts is sized lt made =
    let n : ℕ = get_or (sizes vars) var 0 in
    let long : length ts ≡ length (map f x.values) = ap length made in
    let holds : n ≤ 2 ^ width n = width_holds n (size_at (sizes vars) var sized (omega (arith, length-map vars (λ (y : Var). length y.values)))).0 in
    omega (arith, length-map x.values f, size_of vars var x is)

-- each is a number of the index
pub targets_fit : (xs : List Value) (f : Value → Value) (vs : List Value) → AllFit (index_of (length xs)) (map (λ y. number_in xs (f y)) vs)
targets_fit xs f [] = tt
targets_fit xs f (y ∷ vs) = (number_fits xs (f y), targets_fit xs f vs)

-- ---- the variable as it is read

flipped_is : (flip : Option Signal) (i : ℕ) (x : Value) → flipped flip (signal.Var i) x ≡ read_as (inverts flip i) x
flipped_is None i x = refl
flipped_is (Some p) i x = refl

-- the present state is typed
present_typed : (m : Model) (at : Reading) (row : List Bool) → IsTrue (is_point m at row) → IsTrue (has_typed m at.present row)
present_typed m at row typed =
    (and_parts (holds_states at.present && holds_states at.next) (has_typed m at.present row) (and_parts (holds_states at.present && holds_states at.next && has_typed m at.present row) (has_typed m at.next row) typed).0).1

-- rows that hold at the variable's place the number of its value as it is read
pub variable_family : (old new : SpaceOf) (m : Model) (at : Reading) (xs : List Value) (var : ℕ) (x : Var) (ts : List (Option ℕ)) → slice_get m.vars var ≡ Some x → var < length m.vars → IsFalse (has_twice xs)
    → ts ≡ map (λ y. number_in xs (read_as (inverts at.flip var) y)) x.values → PutsSet old new (read_set old.levels (field_of (sizes m.vars) var at.present) (index_of (length xs)) ts)
    → PutsFamily old new m at xs (λ p y. same_value (variable p.present var) y)
variable_family old new m at xs var x ts is lt once made puts =
    let from : Field = field_of (sizes m.vars) var at.present in
    let to : Field = index_of (length xs) in
    let inverted : Bool = inverts at.flip var in
    puts_family old new m at xs _ (λ row. names (target ts (held from row)) (held to row)) puts (λ row len typed.
    let s : List ℕ = state_of m at.present row in
    let k : ℕ = get_or s var 0 in
    let point = point_at m at row in
    let places = place_typed m.vars s var x (present_typed m at row typed) is in
    let value : read_as inverted (item x.values k) ≡ variable point.present var =
    sym (flipped_is at.flip var (item x.values k)) ∙ ap (λ (y : Value). flipped at.flip (signal.Var var) y) (sym places.1) in
    let number : target ts (held from row) ≡ number_in xs (read_as inverted (item x.values k)) =
    ap₂ target made (place_held (sizes m.vars) at.present var row (omega (arith, length-map m.vars (λ (y : Var). length y.values))))
    ∙ get_or-map (λ y. number_in xs (read_as inverted y)) x.values k (v.Bool false) None places.0
    ∙ ap (λ (y : Value). number_in xs (read_as inverted y)) (sym (unwrap_or-slice_get x.values k (v.Bool false))) in
    ap (λ n. names n (held to row)) (number ∙ ap (number_in xs) value) ∙ names_picked xs (variable point.present var) row once)
