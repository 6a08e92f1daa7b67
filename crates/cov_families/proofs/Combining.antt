-- The sets that stand while two are combined.
use Rattle.std.proofs.Common.{◌≡◌, ℕ, suc, ◌<◌, ◌≤◌, ◌+◌, ◌-◌, ◌&&◌, ◌==◌, List, [], ◌∷◌, ◌++◌, Bool, length, take, Option, Some, None, refl, sym, ◌∙◌, ap, ap₂, subst, arith, length-append}
use Rattle.std.proofs.lemmas.List.{get_or_append_left, get_or-append-add, get_or_at}
use Rattle.cov_space.specs.Sets.{SpaceOf, lies, set_at}
use Rattle.cov_space.specs.Operations.{intersection}
use Rattle.cov_space.specs.Answers.{PutsSet}
use Rattle.cov_space.specs.Steps.{with_more}
use Rattle.cov_space.proofs.Sets.{values_same, lies_values}
use Rattle.cov_space.proofs.Members.{lies-intersection}
use Rattle.cov_space.proofs.Calls.{at_front, at_behind, settled_behind, more_trans}
use Rattle.cov_fields.specs.declared.field.Field.{Field}
use Rattle.cov_fields.specs.Fields.{held, written}
use Rattle.cov_fields.specs.Sets.{number_set, rest_set}
use Rattle.cov_fields.proofs.Steps.{puts_last}
use Rattle.cov_families.specs.declared.table.Table.{Table}
use Rattle.cov_families.specs.Families.{names, some_below, entry, index_of, IsTable, combined_set}
use Rattle.cov_families.specs.Steps.{Stands, HasColumns, some_set, in_turn, in_code, in_column, in_row}
use Rattle.cov_families.proofs.Numbers.{some_same, equal_turned}
use Rattle.cov_families.proofs.Gathering.{push_same, two_at, length-more, length-in_turn, at_in_turn}

-- ---- what stands in front of further sets

stands_front : (sets more : List (List Bool)) (codes : ℕ) (t : Option ℕ) → Stands sets codes t → Stands (sets ++ more) codes t
stands_front sets more codes None h = tt
stands_front sets more codes (Some k) h = omega (arith, length-append sets more)

pub columns_front : (old s : SpaceOf) (more : List (List Bool)) (rests codes : ℕ) (t : Table) → s ≡ with_more old more → HasColumns old.sets rests codes t → HasColumns s.sets rests codes t
columns_front old s more rests codes t is h =
    let columns : rests + t.columns ≤ length old.sets = h.columns in
    subst (λ (z : SpaceOf). HasColumns z.sets rests codes t) (sym is) (record {
      whole = h.whole;
      columns = omega (arith, length-append old.sets more);
      targets = λ i j li lj. stands_front old.sets more codes (entry t i j) (h.targets i j li lj);
    })

code_front : (old s : SpaceOf) (more : List (List Bool)) (codes : ℕ) (t : Option ℕ) (row : List Bool) → s ≡ with_more old more → Stands old.sets codes t → in_code s.sets codes t row ≡ in_code old.sets codes t row
code_front old s more codes None row is h = refl
code_front old s more codes (Some k) row is h = ap (λ (x : List Bool). lies x row) (at_front old s more (codes + k) is h)

pub column_front : (old s : SpaceOf) (more : List (List Bool)) (rests codes : ℕ) (t : Table) (i j : ℕ) (row : List Bool) → s ≡ with_more old more → HasColumns old.sets rests codes t → i < t.rows → j < t.columns
    → in_column s.sets rests codes t i row j ≡ in_column old.sets rests codes t i row j
column_front old s more rests codes t i j row is h li lj =
    let columns : rests + t.columns ≤ length old.sets = h.columns in
    ap₂ ◌&&◌ (ap (λ (x : List Bool). lies x row) (at_front old s more (rests + j) is (omega arith))) (code_front old s more codes (entry t i j) row is (h.targets i j li lj))

pub row_front : (old s : SpaceOf) (more : List (List Bool)) (rests codes a : ℕ) (t : Table) (i : ℕ) (row : List Bool) → s ≡ with_more old more → HasColumns old.sets rests codes t → i < t.rows → a < length old.sets
    → in_row s.sets rests codes t (set_at s.sets a) row i ≡ in_row old.sets rests codes t (set_at old.sets a) row i
row_front old s more rests codes a t i row is h li la =
    ap₂ ◌&&◌ (ap (λ (x : List Bool). lies x (written (index_of t.rows) i row)) (at_front old s more a is la))
    (some_same t.columns _ _ (λ j lj. column_front old s more rests codes t i j row is h li lj))

-- ---- one row of the table

-- the rest set of the row's number, the rows of its columns, and those in both
pub row_made : (old s1 s2 s3 : SpaceOf) (rests codes a place : ℕ) (t : Table) (i : ℕ) (f : Field) → f ≡ index_of t.rows → place + 1 ≡ length old.sets → HasColumns old.sets rests codes t → i < t.rows
    → PutsSet old s1 (rest_set old.levels f i (set_at old.sets a)) → PutsSet s1 s2 (some_set s1.levels t.columns (in_column s1.sets rests codes t i))
    → PutsSet s2 s3 (intersection s2.levels (set_at s2.sets (place + 1)) (set_at s2.sets (place + 2)))
    → s3 ≡ with_more old (rest_set old.levels (index_of t.rows) i (set_at old.sets a) ∷ some_set old.levels t.columns (in_column old.sets rests codes t i)
    ∷ intersection old.levels (rest_set old.levels (index_of t.rows) i (set_at old.sets a)) (some_set old.levels t.columns (in_column old.sets rests codes t i)) ∷ [])
row_made old s1 s2 s3 rests codes a place t i f field count has li one two three =
    let x : List Bool = rest_set old.levels (index_of t.rows) i (set_at old.sets a) in
    let y : List Bool = some_set old.levels t.columns (in_column old.sets rests codes t i) in
    let is1 : s1 ≡ with_more old (x ∷ []) = one.is ∙ ap (λ (g : Field). with_more old (rest_set old.levels g i (set_at old.sets a) ∷ [])) field in
    let is2 : s2 ≡ with_more old (x ∷ y ∷ []) =
    push_same old s1 s2 (x ∷ []) _ y is1 two
    (ap (λ k. some_set k t.columns (in_column s1.sets rests codes t i)) (ap (λ (z : SpaceOf). z.levels) is1)
    ∙ values_same old.levels _ _ (λ row len. some_same t.columns _ _ (λ j lj. column_front old s1 (x ∷ []) rests codes t i j row is1 has li lj))) in
    push_same old s2 s3 (x ∷ y ∷ []) _ (intersection old.levels x y) is2 three
    (two_at old s2 intersection (x ∷ y ∷ []) (place + 1) (place + 2) x y is2 (at_behind old s2 (x ∷ y ∷ []) (place + 1) 0 is2 (omega arith)) (at_behind old s2 (x ∷ y ∷ []) (place + 2) 1 is2 (omega arith)))

-- a row lies in both where it passes for the row of the table
pub lies-row : (levels rests codes : ℕ) (sets : List (List Bool)) (a : List Bool) (t : Table) (i : ℕ) (row : List Bool) → length row ≡ levels
    → lies (intersection levels (rest_set levels (index_of t.rows) i a) (some_set levels t.columns (in_column sets rests codes t i))) row ≡ in_row sets rests codes t a row i
lies-row levels rests codes sets a t i row len =
    lies-intersection levels (rest_set levels (index_of t.rows) i a) (some_set levels t.columns (in_column sets rests codes t i)) row len
    ∙ ap₂ ◌&&◌ (lies_values levels (λ r. lies a (written (index_of t.rows) i r)) row len) (lies_values levels (λ r. some_below t.columns (in_column sets rests codes t i r)) row len)

-- ---- all that stands

-- the rest sets of the second operand, and the codes of the results behind them
abbrev pub standing : ℕ → Table → ℕ → List Bool → List (List Bool)
standing levels t count b = in_turn t.columns (λ j. rest_set levels (index_of t.columns) j b) ++ in_turn count (number_set levels (index_of count))

pub length-standing : (levels : ℕ) (t : Table) (count : ℕ) (b : List Bool) → length (standing levels t count b) ≡ t.columns + count
length-standing levels t count b =
    length-append (in_turn t.columns (λ j. rest_set levels (index_of t.columns) j b)) (in_turn count (number_set levels (index_of count)))
    ∙ ap₂ ◌+◌ (length-in_turn t.columns (λ j. rest_set levels (index_of t.columns) j b)) (length-in_turn count (number_set levels (index_of count)))

at_column : (levels : ℕ) (t : Table) (count : ℕ) (b : List Bool) (j : ℕ) → j < t.columns → set_at (standing levels t count b) j ≡ rest_set levels (index_of t.columns) j b
at_column levels t count b j lt =
    let rests : ℕ → List Bool = λ k. rest_set levels (index_of t.columns) k b in
    let long : length (in_turn t.columns (λ k. rest_set levels (index_of t.columns) k b)) ≡ t.columns = length-in_turn t.columns rests in
    get_or_append_left (in_turn t.columns rests) (in_turn count (number_set levels (index_of count))) [] j (omega arith) ∙ at_in_turn t.columns rests j lt

at_code : (levels : ℕ) (t : Table) (count : ℕ) (b : List Bool) (k : ℕ) → k < count → set_at (standing levels t count b) (t.columns + k) ≡ number_set levels (index_of count) k
at_code levels t count b k lt =
    let rests : ℕ → List Bool = λ j. rest_set levels (index_of t.columns) j b in
    let codes : ℕ → List Bool = number_set levels (index_of count) in
    ap (λ n. set_at (in_turn t.columns rests ++ in_turn count codes) (n + k)) (sym (length-in_turn t.columns rests))
    ∙ get_or-append-add (in_turn t.columns rests) (in_turn count codes) k [] ∙ at_in_turn count codes k lt

pub standing_made : (old s1 s2 : SpaceOf) (t : Table) (count : ℕ) (b : List Bool) (f g : Field) → f ≡ index_of t.columns → g ≡ index_of count
    → s1 ≡ with_more old (in_turn t.columns (λ j. rest_set old.levels f j b)) → s2 ≡ with_more s1 (in_turn count (number_set s1.levels g)) → s2 ≡ with_more old (standing old.levels t count b)
standing_made old s1 s2 t count b f g second to is1 is2 =
    more_trans old s1 s2 (in_turn t.columns (λ j. rest_set old.levels f j b)) (in_turn count (number_set s1.levels g)) is1 is2
    ∙ ap (λ m. with_more old (in_turn t.columns (λ j. rest_set old.levels f j b) ++ in_turn count (number_set m g))) (ap (λ (z : SpaceOf). z.levels) is1)
    ∙ ap₂ (λ (x y : Field). with_more old (in_turn t.columns (λ j. rest_set old.levels x j b) ++ in_turn count (number_set old.levels y))) second to

stands_within : (sets : List (List Bool)) (codes count : ℕ) (t : Option ℕ) → codes + count ≤ length sets → ((k : ℕ) → t ≡ Some k → k < count) → Stands sets codes t
stands_within sets codes count None le fit = tt
stands_within sets codes count (Some k) le fit = let lt : k < count = fit k refl in omega arith

pub standing_has : (old s : SpaceOf) (t : Table) (count : ℕ) (b : List Bool) → IsTable old.levels t count → s ≡ with_more old (standing old.levels t count b) → HasColumns s.sets (length old.sets) (length old.sets + t.columns) t
standing_has old s t count b table is =
    let all : length s.sets ≡ length old.sets + length (standing old.levels t count b) = length-more old s (standing old.levels t count b) is in
    let long : length (standing old.levels t count b) ≡ t.columns + count = length-standing old.levels t count b in
    record {
      whole = table.whole;
      columns = omega arith;
      targets = λ i j li lj. stands_within s.sets (length old.sets + t.columns) count (entry t i j) (omega arith) (λ k e. table.fit i j k li lj e);
    }

-- ---- all rows of the table

code_is : (old s : SpaceOf) (t : Table) (count : ℕ) (b : List Bool) (o : Option ℕ) (row : List Bool) → length row ≡ old.levels → s ≡ with_more old (standing old.levels t count b) → ((k : ℕ) → o ≡ Some k → k < count)
    → in_code s.sets (length old.sets + t.columns) o row ≡ names o (held (index_of count) row)
code_is old s t count b None row len is fit = refl
code_is old s t count b (Some k) row len is fit =
    let lt : k < count = fit k refl in
    let place : length old.sets + (t.columns + k) ≡ length old.sets + t.columns + k = omega arith in
    ap (λ (x : List Bool). lies x row) (at_behind old s (standing old.levels t count b) (length old.sets + t.columns + k) (t.columns + k) is place ∙ at_code old.levels t count b k lt)
    ∙ lies_values old.levels (λ r. held (index_of count) r == k) row len
    ∙ equal_turned (held (index_of count) row) k

column_is : (old s : SpaceOf) (t : Table) (count : ℕ) (b : List Bool) (i j : ℕ) (row : List Bool) → length row ≡ old.levels → IsTable old.levels t count → s ≡ with_more old (standing old.levels t count b) → i < t.rows → j < t.columns
    → in_column s.sets (length old.sets) (length old.sets + t.columns) t i row j ≡ (lies b (written (index_of t.columns) j row) && names (entry t i j) (held (index_of count) row))
column_is old s t count b i j row len table is li lj =
    ap₂ ◌&&◌
    (ap (λ (x : List Bool). lies x row) (at_behind old s (standing old.levels t count b) (length old.sets + j) j is refl ∙ at_column old.levels t count b j lj)
    ∙ lies_values old.levels (λ r. lies b (written (index_of t.columns) j r)) row len)
    (code_is old s t count b (entry t i j) row len is (λ k e. table.fit i j k li lj e))

pub rows_made : (old s : SpaceOf) (t : Table) (count a : ℕ) (b : List Bool) → IsTable old.levels t count → a < length old.sets → s ≡ with_more old (standing old.levels t count b)
    → some_set s.levels t.rows (in_row s.sets (length old.sets) (length old.sets + t.columns) t (set_at s.sets a)) ≡ combined_set old.levels t count (set_at old.sets a) b
rows_made old s t count a b table la is =
    ap (λ k. some_set k t.rows (in_row s.sets (length old.sets) (length old.sets + t.columns) t (set_at s.sets a))) (ap (λ (z : SpaceOf). z.levels) is)
    ∙ values_same old.levels _ _ (λ row len. some_same t.rows _ _ (λ i li.
    ap₂ ◌&&◌ (ap (λ (x : List Bool). lies x (written (index_of t.rows) i row)) (at_front old s (standing old.levels t count b) a is la))
    (some_same t.columns _ _ (λ j lj. column_is old s t count b i j row len table is li lj))))

-- the set of all rows is left alone
pub combined_made : (old s2 s3 s4 : SpaceOf) (t : Table) (count a n codes : ℕ) (b : List Bool) → IsTable old.levels t count → a < length old.sets → n ≡ length old.sets → codes ≡ n + t.columns → s2 ≡ with_more old (standing old.levels t count b)
    → PutsSet s2 s3 (some_set s2.levels t.rows (in_row s2.sets n codes t (set_at s2.sets a))) → s4 ≡ record s3 { sets = take n s3.sets ++ set_at s3.sets (length s3.sets - 1) ∷ [] }
    → PutsSet old s4 (combined_set old.levels t count (set_at old.sets a) b)
combined_made old s2 s3 s4 t count a n codes b table la base behind is puts settle =
    let more : List (List Bool) = standing old.levels t count b in
    let c : List Bool = combined_set old.levels t count (set_at old.sets a) b in
    let place : codes ≡ length old.sets + t.columns = omega arith in
    let same : some_set s2.levels t.rows (in_row s2.sets n codes t (set_at s2.sets a)) ≡ c =
    ap₂ (λ x y. some_set s2.levels t.rows (in_row s2.sets x y t (set_at s2.sets a))) base place ∙ rows_made old s2 t count a b table la is in
    let is3 : s3 ≡ with_more old (more ++ c ∷ []) = push_same old s2 s3 more _ c is puts same in
    let long : length (more ++ c ∷ []) ≡ suc (length more) = length-append more (c ∷ []) ∙ (let e : length more + 1 ≡ suc (length more) = omega arith in e) in
    puts_last old s4 c (settled_behind old s3 s4 (more ++ c ∷ []) n (length more) is3 (sym base) long settle
    ∙ ap (λ (z : List Bool). with_more old (z ∷ [])) (get_or_at more c [] [] (length more) refl))
