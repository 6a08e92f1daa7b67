-- Laws of fields.
use Rattle.std.specs.Prelude.{◌≡◌, ◌≢◌, ℕ, ◌^◌, ◌<◌, IsTrue, List, Bool, length, get_or}
use Rattle.cov_bits.specs.Layout.{bits, are_places, code, row}
use Rattle.cov_space.specs.declared.layer.Layer.{Layer}
use Rattle.cov_space.specs.Layers.{place_of}
use Rattle.cov_fields.specs.declared.field.Field.{Field}
use Rattle.cov_fields.specs.Fields.{level_of, field_of, held, written, put_bits}

-- no level belongs to both fields
abbrev pub AreApart : Field → Field → Type 0
AreApart f g = (i j : ℕ) → i < f.width → j < g.width → level_of f i ≢ level_of g j

-- what was written is held; what is written first is lost; and the fields apart keep what they hold
pub record WritingLaw : Type 0 where
  pub read : (f : Field) (k : ℕ) (r : List Bool) → k < 2 ^ f.width → held f (written f k r) ≡ k
  pub twice : (f : Field) (j k : ℕ) (r : List Bool) → written f k (written f j r) ≡ written f k r
  pub elsewhere : (f g : Field) (k : ℕ) (r : List Bool) → AreApart f g → held g (written f k r) ≡ held g r

-- the fields of two variables are apart, and those of two layers
pub record ApartLaw : Type 0 where
  pub variables : (ns : List ℕ) (x y : ℕ) (a b : Layer) → x < length ns → y < length ns → x ≢ y → AreApart (field_of ns x a) (field_of ns y b)
  pub layers : (ns : List ℕ) (x y : ℕ) (a b : Layer) → place_of a ≢ place_of b → AreApart (field_of ns x a) (field_of ns y b)

-- with the code of a state on a layer, the field of each variable there holds the state's place of it
pub record StateLaw : Type 0 where
  pub place : (ns s : List ℕ) (x : ℕ) (layer : Layer) (r : List Bool) → IsTrue (are_places ns s) → x < length ns
      → held (field_of ns x layer) (put_bits (place_of layer) (row (bits ns) (code ns s)) r) ≡ get_or s x 0
