-- Which levels the result of an operation does not depend on.
use Rattle.std.proofs.Common.{◌≡◌, ◌≢◌, ℕ, suc, ◌<◌, ◌+◌, ◌*◌, ◌%◌, ◌/◌, ◌||◌, ◌&&◌, ◌⊎◌, not, List, [], ◌∷◌, Bool, true, false, cond, length, get_or, refl, sym, ◌∙◌, ap, arith, inl, inr}
use Rattle.std.proofs.lemmas.List.{ext_get_or}
use Rattle.std.proofs.lemmas.Bool.{cases_eq, cases_lt}
use Rattle.cov_dd.specs.Operations.{put, Ignores}
use Rattle.cov_dd.specs.Need.{values}
use Rattle.cov_space.specs.declared.layer.Layer.{Layer}
use Rattle.cov_space.specs.Sets.{lies}
use Rattle.cov_space.specs.Operations.{constant_set, bit_set, intersection, union, symmetric_difference, complement, restriction, some_at, projection, AllBelow, IsNamed}
use Rattle.cov_space.specs.Layers.{place_of, read_at, shift_set, IgnoresLayer}
use Rattle.cov_space.proofs.Sets.{lies_values}
use Rattle.cov_space.proofs.Shifted.{of_layer}
use Rattle.cov_space.proofs.Rows.{get_or-put_same, get_or-put_other, length-put_below, place_lt, length-read_at, get_or-read_at_from, get_or-read_at_other}

-- a row with its own bit written
put_own : (levels : ℕ) (row : List Bool) (k : ℕ) → length row ≡ levels → k < levels → put row k (get_or row k false) ≡ row
put_own levels row k len lt =
    let n : length (put row k (get_or row k false)) ≡ levels = length-put_below levels row k (get_or row k false) len lt in
    ext_get_or false (put row k (get_or row k false)) row (omega arith) (λ i below.
    elim (cases_eq i k) [
      | inl e ↦ ap (λ j. get_or (put row k (get_or row k false)) j false) e ∙ get_or-put_same row k (get_or row k false) ∙ ap (λ j. get_or row j false) (sym e)
      | inr ne ↦ get_or-put_other row k i (get_or row k false) ne
    ])

same_bits : (levels k : ℕ) (f : List Bool → Bool) (row : List Bool) (a b : Bool) → f (put row k false) ≡ f (put row k true) → f (put row k a) ≡ f (put row k b)
same_bits levels k f row false false e = refl
same_bits levels k f row false true e = e
same_bits levels k f row true false e = sym e
same_bits levels k f row true true e = refl

-- rows that differ at an ignored level alone have one answer
pub ignores_rows : (levels k : ℕ) (f : List Bool → Bool) (row other : List Bool) → k < levels → length row ≡ levels → length other ≡ levels → Ignores levels k f → ((j : ℕ) → j < levels → j ≢ k → get_or row j false ≡ get_or other j false) → f row ≡ f other
ignores_rows levels k f row other lt len long ignores same =
    let n : length (put row k (get_or other k false)) ≡ levels = length-put_below levels row k (get_or other k false) len lt in
    let to : put row k (get_or other k false) ≡ other = ext_get_or false (put row k (get_or other k false)) other (omega arith) (λ i below.
    elim (cases_eq i k) [
      | inl e ↦ ap (λ j. get_or (put row k (get_or other k false)) j false) e ∙ get_or-put_same row k (get_or other k false) ∙ ap (λ j. get_or other j false) (sym e)
      | inr ne ↦ get_or-put_other row k i (get_or other k false) ne ∙ same i (omega arith) ne
    ]) in
    ap f (sym (put_own levels row k len lt)) ∙ same_bits levels k f row (get_or row k false) (get_or other k false) (ignores row len) ∙ ap f to

-- the set of a test that ignores a level
pub values_ignores : (levels k : ℕ) (f : List Bool → Bool) → k < levels → Ignores levels k f → Ignores levels k (lies (values levels f))
values_ignores levels k f lt ignores row len =
    lies_values levels f (put row k false) (length-put_below levels row k false len lt)
    ∙ ignores row len
    ∙ sym (lies_values levels f (put row k true) (length-put_below levels row k true len lt))

pub constant_ignores : (levels k : ℕ) (truth : Bool) → k < levels → Ignores levels k (lies (constant_set levels truth))
constant_ignores levels k truth lt = values_ignores levels k (λ row. truth) lt (λ row len. refl)

pub bit_ignores : (levels k level : ℕ) → k < levels → level ≢ k → Ignores levels k (lies (bit_set levels level))
bit_ignores levels k level lt ne = values_ignores levels k (λ row. get_or row level false) lt (λ row len. get_or-put_other row k level false ne ∙ sym (get_or-put_other row k level true ne))

pub intersection_ignores : (levels k : ℕ) (a b : List Bool) → k < levels → Ignores levels k (lies a) → Ignores levels k (lies b) → Ignores levels k (lies (intersection levels a b))
intersection_ignores levels k a b lt p q = values_ignores levels k (λ row. lies a row && lies b row) lt (λ row len. ap (λ x. x && lies b (put row k false)) (p row len) ∙ ap (λ x. lies a (put row k true) && x) (q row len))

pub union_ignores : (levels k : ℕ) (a b : List Bool) → k < levels → Ignores levels k (lies a) → Ignores levels k (lies b) → Ignores levels k (lies (union levels a b))
union_ignores levels k a b lt p q = values_ignores levels k (λ row. lies a row || lies b row) lt (λ row len. ap (λ x. x || lies b (put row k false)) (p row len) ∙ ap (λ x. lies a (put row k true) || x) (q row len))

pub symmetric_difference_ignores : (levels k : ℕ) (a b : List Bool) → k < levels → Ignores levels k (lies a) → Ignores levels k (lies b) → Ignores levels k (lies (symmetric_difference levels a b))
symmetric_difference_ignores levels k a b lt p q = values_ignores levels k (λ row. cond (lies a row) (not (lies b row)) (lies b row)) lt (λ row len. ap (λ x. cond x (not (lies b (put row k false))) (lies b (put row k false))) (p row len) ∙ ap (λ x. cond (lies a (put row k true)) (not x) x) (q row len))

pub complement_ignores : (levels k : ℕ) (a : List Bool) → k < levels → Ignores levels k (lies a) → Ignores levels k (lies (complement levels a))
complement_ignores levels k a lt p = values_ignores levels k (λ row. not (lies a row)) lt (λ row len. ap not (p row len))

-- two bits are written in either order, and the second at a level alone counts
put_twice : (row : List Bool) (k j : ℕ) (v w b : Bool) (i : ℕ) → i ≢ k ⊎ (j ≡ k) → get_or (put (put row k v) j b) i false ≡ get_or (put (put row k w) j b) i false
put_twice row k j v w b i apart =
    elim (cases_eq i j) [
      | inl e ↦ ap (λ n. get_or (put (put row k v) j b) n false) e ∙ get_or-put_same (put row k v) j b ∙ sym (get_or-put_same (put row k w) j b) ∙ ap (λ n. get_or (put (put row k w) j b) n false) (sym e)
      | inr ne ↦
          let other : i ≢ k = elim apart [ inl miss ↦ miss | inr same ↦ (λ e. ne (e ∙ sym same)) ] in
          get_or-put_other (put row k v) j i b ne ∙ get_or-put_other row k i v other ∙ sym (get_or-put_other row k i w other) ∙ sym (get_or-put_other (put row k w) j i b ne)
    ]

-- a set with the bit of a level written does not depend on it
pub restriction_ignores_own : (levels k : ℕ) (a : List Bool) (b : Bool) → k < levels → Ignores levels k (lies (restriction levels a k b))
restriction_ignores_own levels k a b lt = values_ignores levels k (λ row. lies a (put row k b)) lt (λ row len.
    let n : (v : Bool) → length (put (put row k v) k b) ≡ levels = λ v. length-put_below levels (put row k v) k b (length-put_below levels row k v len lt) lt in
    ap (lies a) (ext_get_or false (put (put row k false) k b) (put (put row k true) k b) (n false ∙ sym (n true)) (λ i below. put_twice row k k false true b i (inr refl))))

pub restriction_ignores : (levels k j : ℕ) (a : List Bool) (b : Bool) → k < levels → j < levels → Ignores levels k (lies a) → Ignores levels k (lies (restriction levels a j b))
restriction_ignores levels k j a b lt lj p = values_ignores levels k (λ row. lies a (put row j b)) lt (λ row len.
    let n : (v : Bool) → length (put (put row k v) j b) ≡ levels = λ v. length-put_below levels (put row k v) j b (length-put_below levels row k v len lt) lj in
    ignores_rows levels k (lies a) (put (put row k false) j b) (put (put row k true) j b) lt (n false) (n true) p (λ i below ne. put_twice row k j false true b i (inl ne)))

some_ignores : (levels k : ℕ) (ls : List ℕ) (f : List Bool → Bool) → k < levels → AllBelow levels ls → Ignores levels k f ⊎ IsNamed ls k → (row other : List Bool) → length row ≡ levels → length other ≡ levels → ((j : ℕ) → j ≢ k → get_or row j false ≡ get_or other j false) → some_at ls f row ≡ some_at ls f other
some_ignores levels k [] f lt below why row other len long same = elim why [ inl ignores ↦ ignores_rows levels k f row other lt len long ignores (λ j below_j ne. same j ne) | inr named ↦ absurd named ]
some_ignores levels k (l ∷ ls) f lt below why row other len long same =
    let ll : l < levels = below 0 (omega arith) in
    let rest : AllBelow levels ls = λ j lj. below (suc j) (omega arith) in
    let written : (b : Bool) (j : ℕ) → (j ≢ k) ⊎ (l ≡ k) → get_or (put row l b) j false ≡ get_or (put other l b) j false = λ b j apart.
    elim (cases_eq j l) [
      | inl e ↦ ap (λ n. get_or (put row l b) n false) e ∙ get_or-put_same row l b ∙ sym (get_or-put_same other l b) ∙ ap (λ n. get_or (put other l b) n false) (sym e)
      | inr ne ↦
          let miss : j ≢ k = elim apart [ inl m ↦ m | inr here ↦ (λ e. ne (e ∙ sym here)) ] in
          get_or-put_other row l j b ne ∙ same j miss ∙ sym (get_or-put_other other l j b ne)
    ] in
    let n : (b : Bool) → length (put row l b) ≡ levels = λ b. length-put_below levels row l b len ll in
    let m : (b : Bool) → length (put other l b) ≡ levels = λ b. length-put_below levels other l b long ll in
    let at : (b : Bool) → some_at ls f (put row l b) ≡ some_at ls f (put other l b) = λ b.
    elim (cases_eq l k) [
      | inl here ↦ ap (some_at ls f) (ext_get_or false (put row l b) (put other l b) (n b ∙ sym (m b)) (λ j lj. written b j (inr here)))
      | inr apart ↦
          let why' : Ignores levels k f ⊎ IsNamed ls k = elim why [ inl ignores ↦ inl ignores | inr named ↦ elim named [ inl here ↦ absurd (apart here) | inr later' ↦ inr later' ] ] in
          some_ignores levels k ls f lt rest why' (put row l b) (put other l b) (n b) (m b) (λ j ne. written b j (inl ne))
    ] in
    ap (λ x. x || some_at ls f (put row l true)) (at false) ∙ ap (λ x. some_at ls f (put other l false) || x) (at true)

-- a projection does not depend on its own levels, nor where the set does not
pub projection_ignores : (levels k : ℕ) (ls : List ℕ) (a : List Bool) → k < levels → AllBelow levels ls → Ignores levels k (lies a) ⊎ IsNamed ls k → Ignores levels k (lies (projection levels ls a))
projection_ignores levels k ls a lt below why = values_ignores levels k (some_at ls (lies a)) lt (λ row len.
    some_ignores levels k ls (lies a) lt below why (put row k false) (put row k true) (length-put_below levels row k false len lt) (length-put_below levels row k true len lt) (λ j ne. get_or-put_other row k j false ne ∙ sym (get_or-put_other row k j true ne)))

-- ---- a set on another layer

-- a bit that no reading of the row meets does not matter
read_same : (levels count : ℕ) (from to : Layer) (row : List Bool) (i k : ℕ) → levels ≡ 3 * count → length row ≡ levels → k < levels → i < levels → ((c : ℕ) → 3 * c + place_of to ≢ k) → (((c : ℕ) → i ≢ 3 * c + place_of from) → i ≢ k) → get_or (read_at from to (put row k false)) i false ≡ get_or (read_at from to (put row k true)) i false
read_same levels count from to row i k whole len lt li miss_to miss_own =
    let n : (v : Bool) → length (put row k v) ≡ levels = λ v. length-put_below levels row k v len lt in
    elim (of_layer (place_of from) count i) [
      | inl w ↦
          let at : (v : Bool) → get_or (read_at from to (put row k v)) i false ≡ get_or row (3 * w.0 + place_of to) false = λ v.
          ap (λ j. get_or (read_at from to (put row k v)) j false) w.2
          ∙ get_or-read_at_from from to (put row k v) count w.0 (n v ∙ whole) w.1
          ∙ get_or-put_other row k (3 * w.0 + place_of to) v (miss_to w.0) in
          at false ∙ sym (at true)
      | inr miss ↦
          let all : (c : ℕ) → i ≢ 3 * c + place_of from = λ c e. elim (cases_lt c count) [ inl l ↦ miss c l e | inr ge ↦ absurd (omega arith) ] in
          let at : (v : Bool) → get_or (read_at from to (put row k v)) i false ≡ get_or row i false = λ v. get_or-read_at_other from to (put row k v) i all ∙ get_or-put_other row k i v (miss_own all) in
          at false ∙ sym (at true)
    ]

-- it does not depend on the layer from which it was read
pub shift_ignores_from : (levels : ℕ) (from to : Layer) (a : List Bool) → levels % 3 ≡ 0 → place_of from ≢ place_of to → IgnoresLayer levels from (shift_set levels from to a)
shift_ignores_from levels from to a thirds apart b lt =
    let count : ℕ = levels / 3 in
    let whole : levels ≡ 3 * (levels / 3) = omega arith in
    let k : ℕ = 3 * b + place_of from in
    let lf : place_of from < 3 = place_lt from in
    let lt3 : place_of to < 3 = place_lt to in
    values_ignores levels k (λ row. lies a (read_at from to row)) lt (λ row len.
    let n : (v : Bool) → length (put row k v) ≡ levels = λ v. length-put_below levels row k v len lt in
    let m : (v : Bool) → length (read_at from to (put row k v)) ≡ levels = λ v. length-read_at from to (put row k v) ∙ n v in
    ap (lies a) (ext_get_or false (read_at from to (put row k false)) (read_at from to (put row k true)) (m false ∙ sym (m true)) (λ i below.
    read_same levels count from to row i k whole len lt (omega (arith, m false)) (λ c. omega arith) (λ miss. miss b))))

-- nor on a level of neither layer on which the set did not depend
pub shift_ignores_other : (levels : ℕ) (from to : Layer) (a : List Bool) (k : ℕ) → levels % 3 ≡ 0 → k < levels → ((b : ℕ) → k ≢ 3 * b + place_of to) → Ignores levels k (lies a) → Ignores levels k (lies (shift_set levels from to a))
shift_ignores_other levels from to a k thirds lt miss ignores =
    let whole : levels ≡ 3 * (levels / 3) = omega arith in
    values_ignores levels k (λ row. lies a (read_at from to row)) lt (λ row len.
    let m : (v : Bool) → length (read_at from to (put row k v)) ≡ levels = λ v. length-read_at from to (put row k v) ∙ length-put_below levels row k v len lt in
    ignores_rows levels k (lies a) (read_at from to (put row k false)) (read_at from to (put row k true)) lt (m false) (m true) ignores (λ j lj ne.
    read_same levels (levels / 3) from to row j k whole len lt lj (λ c e. miss c (sym e)) (λ other. ne)))
