-- The rows whose state is typed, variable by variable.
use Rattle.std.proofs.Common.{◌≡◌, ℕ, ◌<◌, ◌≤◌, ◌+◌, ◌*◌, ◌^◌, ◌++◌, ◌&&◌, List, [], ◌∷◌, Bool, true, false, length, take, get_or, refl, sym, ◌∙◌, ap, ap₂, subst, arith}
use Rattle.std.specs.Prelude.{nat_lt}
use Rattle.std.proofs.lemmas.List.{length-map, get_or-map, take_more}
use Rattle.cov_model.specs.declared.model.Var.{Var}
use Rattle.cov_bits.specs.Layout as layout
use Rattle.cov_bits.specs.Layout.{sizes, IsSize, AreSizes, width, bits, are_places}
use Rattle.cov_bits.proofs.Formed.{size_at}
use Rattle.cov_bits.proofs.Encoding.{bits_more}
use Rattle.cov_bits.proofs.Widths.{width_holds, width_least}
use Rattle.cov_space.specs.declared.layer.Layer.{Layer}
use Rattle.cov_space.specs.Sets.{SpaceOf, lies, set_at}
use Rattle.cov_space.specs.Operations.{intersection}
use Rattle.cov_space.specs.Steps.{with_more}
use Rattle.cov_space.proofs.Sets.{values_same, lies_values}
use Rattle.cov_image.specs.Stacks.{below}
use Rattle.cov_image.proofs.Stacks.{below_more, last_is}
use Rattle.cov_fields.specs.declared.field.Field.{Field}
use Rattle.cov_fields.specs.Fields.{field_of, held, IsField}
use Rattle.cov_fields.proofs.Places.{first_within}
use Rattle.cov_places.specs.Places.{places_from, typed_set}
use Rattle.cov_places.specs.Steps.{below_set}
use Rattle.cov_places.proofs.Numbers.{and_true}

and_assoc : (a b c : Bool) → (a && (b && c)) ≡ ((a && b) && c)
and_assoc true b c = refl
and_assoc false b c = refl

-- ---- one variable more

-- the places with one more behind them
typed_behind : (layer : Layer) (from : ℕ) (ms : List ℕ) (n : ℕ) (r : List Bool) → are_places (ms ++ n ∷ []) (places_from layer from (ms ++ n ∷ []) r)
    ≡ (are_places ms (places_from layer from ms r) && nat_lt (held (record { layer = layer; first = from + bits ms; width = width n }) r) n)
typed_behind layer from [] n r =
    let own : from ≡ from + bits [] = omega arith in
    and_true (nat_lt (held (record { layer = layer; first = from; width = width n }) r) n)
    ∙ ap (λ k. nat_lt (held (record { layer = layer; first = k; width = width n }) r) n) own
typed_behind layer from (m ∷ ms) n r =
    let here : Bool = nat_lt (held (record { layer = layer; first = from; width = width m }) r) m in
    let rest : Bool = are_places ms (places_from layer (from + width m) ms r) in
    let up : from + width m + bits ms ≡ from + bits (m ∷ ms) = omega arith in
    ap (λ b. here && b) (typed_behind layer (from + width m) ms n r
    ∙ ap (λ k. rest && nat_lt (held (record { layer = layer; first = k; width = width n }) r) n) up)
    ∙ and_assoc here rest (nat_lt (held (record { layer = layer; first = from + bits (m ∷ ms); width = width n }) r) n)

typed_next : (levels : ℕ) (ns : List ℕ) (layer : Layer) (i : ℕ) → i < length ns
    → intersection levels (typed_set levels (take i ns) layer) (below_set levels (field_of ns i layer) (get_or ns i 0)) ≡ typed_set levels (take (i + 1) ns) layer
typed_next levels ns layer i lt =
    let ms : List ℕ = take i ns in
    let n : ℕ = get_or ns i 0 in
    let own : bits (take i ns) ≡ 0 + bits (take i ns) = omega arith in
    values_same levels (λ r. lies (typed_set levels ms layer) r && lies (below_set levels (field_of ns i layer) n) r) (λ r. are_places (take (i + 1) ns) (places_from layer 0 (take (i + 1) ns) r)) (λ r len.
    ap₂ ◌&&◌ (lies_values levels (λ s. are_places ms (places_from layer 0 ms s)) r len) (lies_values levels (λ s. nat_lt (held (field_of ns i layer) s) n) r len)
    ∙ ap (λ k. are_places ms (places_from layer 0 ms r) && nat_lt (held (record { layer = layer; first = k; width = width n }) r) n) own
    ∙ sym (typed_behind layer 0 ms n r)
    ∙ ap (λ (l : List ℕ). are_places l (places_from layer 0 l r)) (sym (take_more ns i 0 lt)))

-- one turn of the loop over the variables
pub typed_turn : (old s s1 : SpaceOf) (ns : List ℕ) (layer : Layer) (i n size : ℕ) (f : Field) → length old.sets ≡ n → i < length ns → f ≡ field_of ns i layer → size ≡ get_or ns i 0
    → s ≡ with_more old (typed_set old.levels (take i ns) layer ∷ [])
    → s1 ≡ with_more (below s n) (intersection s.levels (set_at s.sets n) (below_set s.levels f size) ∷ [])
    → s1 ≡ with_more old (typed_set old.levels (take (i + 1) ns) layer ∷ [])
typed_turn old s s1 ns layer i n size f count lt field is_size is meets =
    let x : List Bool = typed_set old.levels (take i ns) layer in
    let levels : s.levels ≡ old.levels = ap (λ (z : SpaceOf). z.levels) is in
    let met : intersection s.levels (set_at s.sets n) (below_set s.levels f size) ≡ typed_set old.levels (take (i + 1) ns) layer =
    ap (λ m. intersection m (set_at s.sets n) (below_set m f size)) levels
    ∙ ap (λ y. intersection old.levels y (below_set old.levels f size)) (last_is old s n x count is)
    ∙ ap₂ (λ g k. intersection old.levels x (below_set old.levels g k)) field is_size
    ∙ typed_next old.levels ns layer i lt in
    meets
    ∙ ap (λ (z : List Bool). with_more (below s n) (z ∷ [])) met
    ∙ ap (λ (z : SpaceOf). with_more z (typed_set old.levels (take (i + 1) ns) layer ∷ [])) (ap (λ (z : SpaceOf). below z n) is ∙ below_more old (x ∷ []) n count)

-- ---- the variable at a place

-- what is known of the variable at a place, whose values were counted
pub record Reads (ns : List ℕ) (i : ℕ) (layer : Layer) (first size : ℕ) : Type 0 where
  pub within : i < length ns
  pub own : size ≡ get_or ns i 0
  pub sized : IsSize size
  pub holds : size ≤ 2 ^ width size
  pub inside : first + width size ≤ bits ns
  pub next : first + width size ≡ layout.first ns (i + 1)
  pub field : ◌≡◌ {A = Field} (record { layer = layer; first = first; width = width size }) (field_of ns i layer)
  pub fits : IsField (3 * bits ns) (field_of ns i layer)

pub reads : (ns : List ℕ) (vars items : List Var) (i : ℕ) (x : Var) (layer : Layer) (first size : ℕ) → ns ≡ sizes vars → AreSizes ns → items ≡ vars → i < length items → x ≡ get_or items i x
    → size ≡ length x.values → first ≡ layout.first ns i → Reads ns i layer first size
reads ns vars items i x layer first size plan sized same lt read is_size is_first =
    let long : length ns ≡ length vars = ap length plan ∙ length-map vars (λ (v : Var). length v.values) in
    let all : length items ≡ length vars = ap length same in
    let within : i < length ns = omega arith in
    let n : size ≡ get_or ns i 0 =
    is_size ∙ ap (λ (y : Var). length y.values) read ∙ sym (get_or-map (λ (y : Var). length y.values) items i x 0 lt)
    ∙ ap (λ (l : List Var). get_or (sizes l) i 0) same ∙ ap (λ (l : List ℕ). get_or l i 0) (sym plan) in
    let few : IsSize size = subst IsSize (sym n) (size_at ns i sized within) in
    let some : 0 < size = few.0 in
    let wide : width size ≡ width (get_or ns i 0) = ap width n in
    let inside : layout.first ns i + width (get_or ns i 0) ≤ bits ns = first_within ns i within in
    let narrow : width size ≤ 10 = width_least size 10 few.0 few.1 in
    record {
      within = within;
      own = n;
      sized = few;
      holds = width_holds size some;
      inside = omega arith;
      next = sym (bits_more ns i within ∙ omega arith);
      field = ap₂ (λ k w. record { layer = layer; first = k; width = w }) is_first wide;
      fits = record { there = omega arith; narrow = omega arith };
    }
