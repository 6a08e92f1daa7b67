-- Laws of the states that rows name.
use Rattle.std.specs.Prelude.{◌≡◌, ◌≢◌, ℕ, ◌+◌, ◌*◌, ◌<◌, IsTrue, List, Bool, false, length, get_or}
use Rattle.cov_dd.specs.Operations.{put}
use Rattle.cov_bits.specs.Layout as layout
use Rattle.cov_bits.specs.Layout.{bits, are_places, code, places}
use Rattle.cov_space.specs.declared.layer.Layer.{Layer}
use Rattle.cov_space.specs.declared.layer.Layer.TheVariants.{W, V, N}
use Rattle.cov_space.specs.Layers.{place_of}
use Rattle.cov_image.specs.Rows as rows
use Rattle.cov_fields.specs.declared.field.Field.{Field}
use Rattle.cov_fields.specs.Fields.{written}
use Rattle.cov_places.specs.Places.{state_on}

-- what is written on one layer leaves the states on the others; and rows with the same bits on a layer name the same state there
pub record ApartLaw : Type 0 where
  pub written_elsewhere : (ns : List ℕ) (layer : Layer) (f : Field) (k : ℕ) (row : List Bool) → place_of f.layer ≢ place_of layer → state_on ns layer (written f k row) ≡ state_on ns layer row
  pub put_elsewhere : (ns : List ℕ) (layer other : Layer) (b : ℕ) (x : Bool) (row : List Bool) → place_of other ≢ place_of layer → state_on ns layer (put row (3 * b + place_of other) x) ≡ state_on ns layer row
  pub same_bits : (ns : List ℕ) (layer : Layer) (row other : List Bool) → ((b : ℕ) → b < bits ns → get_or row (3 * b + place_of layer) false ≡ get_or other (3 * b + place_of layer) false) → state_on ns layer row ≡ state_on ns layer other

-- the row of three states' bits names each of them on its layer; equal states have equal bits; and the bits of a typed state's code name it
pub record RowsLaw : Type 0 where
  pub inverted : (ns : List ℕ) (w v n : List Bool) → length w ≡ bits ns → length v ≡ bits ns → length n ≡ bits ns → state_on ns W (rows.row w v n) ≡ places ns w
  pub present : (ns : List ℕ) (w v n : List Bool) → length w ≡ bits ns → length v ≡ bits ns → length n ≡ bits ns → state_on ns V (rows.row w v n) ≡ places ns v
  pub next : (ns : List ℕ) (w v n : List Bool) → length w ≡ bits ns → length v ≡ bits ns → length n ≡ bits ns → state_on ns N (rows.row w v n) ≡ places ns n
  pub one : (ns : List ℕ) (v u : List Bool) → length v ≡ bits ns → length u ≡ bits ns → places ns v ≡ places ns u → v ≡ u
  pub named : (ns s : List ℕ) → IsTrue (are_places ns s) → places ns (layout.row (bits ns) (code ns s)) ≡ s
