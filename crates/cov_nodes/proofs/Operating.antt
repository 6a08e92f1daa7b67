-- The families of what operators make.
use Rattle.std.proofs.Common.{◌≡◌, ℕ, ◌<◌, ◌≤◌, ◌^◌, ◌&&◌, nat_lt, IsFalse, List, [], ◌∷◌, Bool, Option, Result, OnOk, length, sym, ◌∙◌, ap, ap₂, subst, arith}
use Rattle.std.proofs.lemmas.List.{length-map}
use Rattle.std.specs.List.{list_any}
use Rattle.cov_bits.proofs.Widths.{width_holds}
use Rattle.cov_bits.specs.Layout.{width}
use Rattle.cov_syntax.specs.declared.tree.Value.{Value}
use Rattle.cov_syntax.specs.declared.tree.Op2.{Op2}
use Rattle.cov_space.specs.declared.fault.SpaceFault.{SpaceFault}
use Rattle.cov_space.proofs.Calls.{on_ok_map}
use Rattle.cov_space.proofs.Sets.{lies_values}
use Rattle.cov_fields.specs.declared.field.Field.{Field}
use Rattle.cov_space.specs.Sets.{SpaceOf, lies}
use Rattle.cov_space.specs.Answers.{PutsSet}
use Rattle.cov_fields.specs.Fields.{IsField, held, written}
use Rattle.cov_model.specs.declared.model.Model.{Model}
use Rattle.cov_model.specs.Types.{has_twice}
use Rattle.cov_model.specs.Values.{item, same_value}
use Rattle.cov_places.specs.Laws.{ApartLaw}
use Rattle.cov_families.specs.declared.table.Table.{Table}
use Rattle.cov_families.specs.Families.{AllFit, IsTable, carried_set, combined_set, entry, index_of, names, some_below, target}
use Rattle.cov_nodes.specs.declared.reading.Reading.{Reading}
use Rattle.cov_nodes.specs.Choices.{Choice, IsChunk, IsFamily, PutsFamily, operated_choices, result_of}
use Rattle.cov_nodes.specs.Numbering.{number_in}
use Rattle.cov_nodes.specs.Points.{point_at}
use Rattle.cov_nodes.specs.Tables.{made_choices, numbers_of, table_of}
use Rattle.cov_nodes.proofs.Families.{number_fits, puts_family}
use Rattle.cov_nodes.proofs.Numbers.{names_number, number_found, same_flip}
use Rattle.cov_nodes.proofs.Pairing.{number_of_item, number_of_pair, length-pairs}
use Rattle.cov_families.proofs.Numbers.{some_same}
use Rattle.cov_nodes.proofs.Some.{some_item, any_beside, any_same}
use Rattle.cov_nodes.proofs.Written.{lies_written}

-- ---- targets fit

pub numbers_fit : (made : Value → Value) (xs results : List Value) → AllFit (index_of (length results)) (numbers_of made xs results)
numbers_fit made [] results = tt
numbers_fit made (x ∷ xs) results = (number_fits results (made x), numbers_fit made xs results)

-- as many targets as values, and no more than the field has numbers
pub numbers_few : (made : Value → Value) (xs results : List Value) → 0 < length xs → length (numbers_of made xs results) ≤ 2 ^ width (length xs)
numbers_few made xs results some = omega (arith, length-map xs (λ x. number_in results (made x)), width_holds (length xs) some)

pub table_fits : (levels : ℕ) (op : Op2) (xs ys results : List Value) → IsChunk levels xs → IsChunk levels ys → IsChunk levels results → IsTable levels (table_of op xs ys results) (length results)
table_fits levels op xs ys results left right c = record {
  some_rows = left.some;
  some_columns = right.some;
  some_targets = c.some;
  few_rows = left.few;
  few_columns = right.few;
  few_targets = c.few;
  whole = length-pairs op xs ys results;
  first = left.fits;
  second = right.fits;
  to = c.fits;
  fit = λ i j k lt in_row e. (number_found results (result_of op (item xs i) (item ys j)) k (sym (number_of_pair op xs ys results i j lt in_row) ∙ e)).0;
}

-- ---- families

-- rows that hold the number of a value
names_same : (results : List Value) (x : Value) (k : ℕ) → IsFalse (has_twice results) → names (number_in results x) k ≡ (nat_lt k (length results) && same_value x (item results k))
names_same results x k once = names_number results x k once ∙ ap (λ b. nat_lt k (length results) && b) (same_flip (item results k) x)

-- what is made of the values of one family, at a row
pub lies_made : ApartLaw → (levels : ℕ) (m : Model) (at : Reading) (made : Value → Value) (xs results : List Value) (f : Choice) (set : List Bool)
    → IsField levels (index_of (length xs)) → IsFalse (has_twice results) → IsFamily levels m at xs f set
    → IsFamily levels m at results (made_choices made xs f) (carried_set levels (index_of (length xs)) (index_of (length results)) (numbers_of made xs results) set)
lies_made law levels m at made xs results f set field once is row len typed =
    let from = index_of (length xs) in
    let k : ℕ = held (index_of (length results)) row in
    let p = point_at m at row in
    let inside : Bool = nat_lt k (length results) in
    let z : Value = item results k in
    let ts : List (Option ℕ) = numbers_of made xs results in
    lies_values levels (λ r. some_below (length ts) (λ i. lies set (written from i r) && names (target ts i) (held (index_of (length results)) r))) row len
    ∙ ap (λ n. some_below n (λ i. lies set (written from i row) && names (target ts i) k)) (length-map xs (λ x. number_in results (made x)))
    ∙ some_same (length xs) (λ i. lies set (written from i row) && names (target ts i) k) (λ i. f p (item xs i) && (inside && same_value (made (item xs i)) z)) (λ i lt.
    ap₂ ◌&&◌ (lies_written law levels m at xs f set is field row len typed i lt)
    (ap (λ n. names n k) (number_of_item made xs results i lt) ∙ names_same results (made (item xs i)) k once))
    ∙ some_item xs (λ x. f p x && (inside && same_value (made x) z))
    ∙ any_beside inside (f p) (λ x. same_value (made x) z) xs

-- such a family is put
pub made_family : ApartLaw → (old new : SpaceOf) (m : Model) (at : Reading) (made : Value → Value) (xs results : List Value) (f : Choice) (set : List Bool)
    → IsField old.levels (index_of (length xs)) → IsFalse (has_twice results) → IsFamily old.levels m at xs f set
    → PutsSet old new (carried_set old.levels (index_of (length xs)) (index_of (length results)) (numbers_of made xs results) set) → PutsFamily old new m at results (made_choices made xs f)
made_family law old new m at made xs results f set field once is puts = record {
  set = carried_set old.levels (index_of (length xs)) (index_of (length results)) (numbers_of made xs results) set;
  puts = puts;
  is = lies_made law old.levels m at made xs results f set field once is;
}

-- what an operator makes of the values of two families
pub operated_family : ApartLaw → (old new : SpaceOf) (m : Model) (at : Reading) (op : Op2) (xs ys results : List Value) (f g : Choice) (a b : List Bool) (t : Table)
    → IsChunk old.levels xs → IsChunk old.levels ys → IsFalse (has_twice results) → t ≡ table_of op xs ys results → IsFamily old.levels m at xs f a → IsFamily old.levels m at ys g b
    → PutsSet old new (combined_set old.levels t (length results) a b) → PutsFamily old new m at results (operated_choices op xs ys f g)
operated_family law old new m at op xs ys results f g a b t left right once is is_a is_b puts =
    let t' : Table = table_of op xs ys results in
    puts_family old new m at results (operated_choices op xs ys f g) _ (subst (λ (u : Table). PutsSet old new (combined_set old.levels u (length results) a b)) is puts) (λ row len typed.
    let k : ℕ = held (index_of (length results)) row in
    let p = point_at m at row in
    let inside : Bool = nat_lt k (length results) in
    let z : Value = item results k in
    let second : ℕ → ℕ → Bool = λ i j. lies b (written (index_of (length ys)) j row) && names (entry t' i j) k in
    some_same (length xs) (λ i. lies a (written (index_of (length xs)) i row) && some_below (length ys) (second i))
    (λ i. f p (item xs i) && list_any (λ y. g p y && (inside && same_value (result_of op (item xs i) y) z)) ys) (λ i lt.
    ap₂ ◌&&◌ (lies_written law old.levels m at xs f a is_a left.fits row len typed i lt)
    (some_same (length ys) (second i) (λ j. g p (item ys j) && (inside && same_value (result_of op (item xs i) (item ys j)) z)) (λ j in_row.
    ap₂ ◌&&◌ (lies_written law old.levels m at ys g b is_b right.fits row len typed j in_row)
    (ap (λ n. names n k) (number_of_pair op xs ys results i j lt in_row) ∙ names_same results (result_of op (item xs i) (item ys j)) k once))
    ∙ some_item ys (λ y. g p y && (inside && same_value (result_of op (item xs i) y) z))))
    ∙ some_item xs (λ x. f p x && list_any (λ y. g p y && (inside && same_value (result_of op x y) z)) ys)
    ∙ any_same xs (λ x. f p x && list_any (λ y. g p y && (inside && same_value (result_of op x y) z)) ys) (λ x. f p x && (inside && list_any (λ y. g p y && same_value (result_of op x y) z) ys)) (λ x.
    ap (λ c. f p x && c) (any_beside inside (g p) (λ y. same_value (result_of op x y) z) ys))
    ∙ any_beside inside (f p) (λ x. list_any (λ y. g p y && same_value (result_of op x y) z) ys) xs)

-- ---- the same, of what the calls answer

pub carried_few : (made : Value → Value) (xs results : List Value) (ts : List (Option ℕ)) (from : Field) → 0 < length xs → ts ≡ numbers_of made xs results → from ≡ index_of (length xs) → length ts ≤ 2 ^ from.width
carried_few made xs results ts from some are is =
    let few : length (numbers_of made xs results) ≤ 2 ^ width (length xs) = numbers_few made xs results some in
    subst (λ (l : List (Option ℕ)). length l ≤ 2 ^ from.width) (sym are) (subst (λ (g : Field). length (numbers_of made xs results) ≤ 2 ^ g.width) (sym is) few)

pub carried_fit : (made : Value → Value) (xs results : List Value) (ts : List (Option ℕ)) (to : Field) → ts ≡ numbers_of made xs results → to ≡ index_of (length results) → AllFit to ts
carried_fit made xs results ts to are is =
    subst (λ (l : List (Option ℕ)). AllFit to l) (sym are) (subst (λ (g : Field). AllFit g (numbers_of made xs results)) (sym is) (numbers_fit made xs results))

-- the set that is put, over the fields that are at hand
pub carried_is : (old new : SpaceOf) (made : Value → Value) (xs results : List Value) (set : List Bool) (ts : List (Option ℕ)) (from to : Field)
    → from ≡ index_of (length xs) → to ≡ index_of (length results) → ts ≡ numbers_of made xs results → PutsSet old new (carried_set old.levels from to ts set)
    → PutsSet old new (carried_set old.levels (index_of (length xs)) (index_of (length results)) (numbers_of made xs results) set)
carried_is old new made xs results set ts from to is_from is_to are puts =
    subst (λ (l : List (Option ℕ)). PutsSet old new (carried_set old.levels (index_of (length xs)) (index_of (length results)) l set)) are
    (subst (λ (g : Field). PutsSet old new (carried_set old.levels g (index_of (length results)) ts set)) is_from (subst (λ (g : Field). PutsSet old new (carried_set old.levels from g ts set)) is_to puts))

pub made_put : (res : Result Unit SpaceFault) → ApartLaw → (old new : SpaceOf) (m : Model) (at : Reading) (made : Value → Value) (xs results : List Value) (f : Choice) (set : List Bool) (ts : List (Option ℕ)) (from to : Field)
    → from ≡ index_of (length xs) → to ≡ index_of (length results) → IsField old.levels (index_of (length xs)) → IsFalse (has_twice results) → ts ≡ numbers_of made xs results → IsFamily old.levels m at xs f set
    → OnOk res (PutsSet old new (carried_set old.levels from to ts set)) → OnOk res (PutsFamily old new m at results (made_choices made xs f))
made_put res law old new m at made xs results f set ts from to is_from is_to field once are is ok =
    on_ok_map res (PutsSet old new (carried_set old.levels from to ts set)) (PutsFamily old new m at results (made_choices made xs f)) (λ puts.
    made_family law old new m at made xs results f set field once is (carried_is old new made xs results set ts from to is_from is_to are puts)) ok

pub operated_put : (res : Result Unit SpaceFault) → ApartLaw → (old new : SpaceOf) (m : Model) (at : Reading) (op : Op2) (xs ys results : List Value) (f g : Choice) (a b : List Bool) (t : Table)
    → IsChunk old.levels xs → IsChunk old.levels ys → IsFalse (has_twice results) → t ≡ table_of op xs ys results → IsFamily old.levels m at xs f a → IsFamily old.levels m at ys g b
    → OnOk res (PutsSet old new (combined_set old.levels t (length results) a b)) → OnOk res (PutsFamily old new m at results (operated_choices op xs ys f g))
operated_put res law old new m at op xs ys results f g a b t left right once is is_a is_b ok =
    on_ok_map res (PutsSet old new (combined_set old.levels t (length results) a b)) (PutsFamily old new m at results (operated_choices op xs ys f g)) (λ puts.
    operated_family law old new m at op xs ys results f g a b t left right once is is_a is_b puts) ok
