-- What a family tells of a row in which a number is written.
use Rattle.std.proofs.Common.{◌≡◌, ◌≢◌, ℕ, ◌<◌, ◌≤◌, ◌+◌, ◌*◌, ◌&&◌, nat_lt, List, Bool, true, false, length, IsTrue, refl, ◌∙◌, ap, ap₂, arith}
use Rattle.std.proofs.lemmas.Bool.{lt-ltb}
use Rattle.cov_bits.specs.Layout.{sizes, are_places, width, row as row_of}
use Rattle.cov_bits.proofs.Rows.{length-row}
use Rattle.cov_bits.proofs.Widths.{place_below}
use Rattle.cov_space.specs.declared.layer.Layer.{Layer}
use Rattle.cov_space.specs.declared.layer.Layer.TheVariants.{W, V, N}
use Rattle.cov_space.specs.Layers.{place_of}
use Rattle.cov_space.specs.Sets.{lies}
use Rattle.cov_fields.specs.Fields.{IsField, held, written}
use Rattle.cov_fields.proofs.Bits.{length-put_bits}
use Rattle.cov_fields.proofs.Places.{held_written}
use Rattle.cov_syntax.specs.declared.tree.Value.{Value}
use Rattle.cov_model.specs.declared.model.Model.{Model}
use Rattle.cov_model.specs.States.{between}
use Rattle.cov_model.specs.Values.{item}
use Rattle.cov_places.specs.Laws.{ApartLaw}
use Rattle.cov_families.specs.Families.{index_of}
use Rattle.cov_nodes.specs.declared.reading.Reading.{Reading}
use Rattle.cov_nodes.specs.Points.{holds_states, state_of, has_typed, is_point, point_at}
use Rattle.cov_nodes.specs.Choices.{Choice, IsFamily}

apart : (layer : Layer) → IsTrue (holds_states layer) → place_of W ≢ place_of layer
apart W h e = cc
apart V h e = cc
apart N h e = cc

first_parts : (a b c d : Bool) → IsTrue (a && b && c && d) → IsTrue a × IsTrue b
first_parts true true c d h = (refl, refl)
first_parts true false c d h = cc
first_parts false b c d h = cc

-- a number that is written leaves the point
point_written : ApartLaw → (m : Model) (at : Reading) (n k : ℕ) (row : List Bool) → IsTrue (is_point m at row)
    → IsTrue (is_point m at (written (index_of n) k row)) × (point_at m at (written (index_of n) k row) ≡ point_at m at row)
point_written law m at n k row h =
    let layers : IsTrue (holds_states at.present) × IsTrue (holds_states at.next) = first_parts _ _ (has_typed m at.present row) (has_typed m at.next row) h in
    let p : state_of m at.present (written (index_of n) k row) ≡ state_of m at.present row = law.written_elsewhere (sizes m.vars) at.present (index_of n) k row (apart at.present layers.0) in
    let q : state_of m at.next (written (index_of n) k row) ≡ state_of m at.next row = law.written_elsewhere (sizes m.vars) at.next (index_of n) k row (apart at.next layers.1) in (
      ap₂ (λ s t. holds_states at.present && holds_states at.next && are_places (sizes m.vars) s && are_places (sizes m.vars) t) p q ∙ h,
      ap₂ (λ s t. between m s t at.flip) p q,
    )

length-written : (levels n k : ℕ) (row : List Bool) → IsField levels (index_of n) → length row ≡ levels → length (written (index_of n) k row) ≡ levels
length-written levels n k row field len =
    let there : 3 * (0 + width n) ≤ levels = field.there in
    length-put_bits levels 0 (row_of (width n) k) row len (omega (arith, length-row (width n) k))

-- a family at a row in which the number of a value is written: whether the value is a choice
pub lies_written : ApartLaw → (levels : ℕ) (m : Model) (at : Reading) (xs : List Value) (f : Choice) (set : List Bool) → IsFamily levels m at xs f set → IsField levels (index_of (length xs))
    → (row : List Bool) → length row ≡ levels → IsTrue (is_point m at row) → (i : ℕ) → i < length xs → lies set (written (index_of (length xs)) i row) ≡ f (point_at m at row) (item xs i)
lies_written law levels m at xs f set is field row len typed i lt =
    let r : List Bool = written (index_of (length xs)) i row in
    let point = point_written law m at (length xs) i row typed in
    let own : held (index_of (length xs)) r ≡ i = held_written (index_of (length xs)) i row (place_below (length xs) i lt) in
    is r (length-written levels (length xs) i row field len) point.0
    ∙ ap₂ (λ k p. nat_lt k (length xs) && f p (item xs k)) own point.1
    ∙ ap (λ b. b && f (point_at m at row) (item xs i)) (lt-ltb i (length xs) lt)
