-- Sets of values.
use Rattle.std.specs.Prelude.{◌≡◌, ℤ, Bool, true, false, ◌||◌, List}
use Rattle.std.specs.Ordering.{nat_cmp, int_cmp}
use Rattle.std.specs.BTreeMap.{is_at}
use Rattle.std.specs.List.{list_any}
use Rattle.cov_syntax.specs.declared.tree.Value.{Value}
use Rattle.cov_syntax.specs.declared.tree.Value.TheVariants as v
use Rattle.cov_model.specs.Values.{same_value}
use Rattle.cov_types.specs.declared.value_set.ValueSet.{ValueSet}

-- whether the number is among those of a set
abbrev pub has_number : List ℤ → ℤ → Bool
has_number ns n = list_any (is_at (int_cmp n)) ns

-- whether the value is in the set
abbrev pub holds : ValueSet → Value → Bool
holds s (v.Bool false) = s.falsehood
holds s (v.Bool true) = s.truth
holds s (v.Int n) = has_number s.numbers.keys n
holds s (v.Sym i) = list_any (is_at (nat_cmp i)) s.symbols.keys

-- the second set has this value besides what the first has
abbrev pub Adds : ValueSet → ValueSet → Value → Type 0
Adds s t x = (y : Value) → holds t y ≡ (same_value x y || holds s y)
