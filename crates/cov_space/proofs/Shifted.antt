-- What a shift from one layer to another means.
use Rattle.std.proofs.Common.{◌≡◌, ◌≢◌, ℕ, zero, suc, ◌<◌, ◌≤◌, ◌+◌, ◌*◌, ◌/◌, ◌%◌, ◌++◌, ◌⊎◌, List, [], ◌∷◌, Bool, true, false, cond, length, take, get_or, Result, Ok, Err, OnOk, subst, refl, sym, ◌∙◌, ap, arith, inl, inr}
use Rattle.std.proofs.lemmas.List.{take_at, get_or_at, length-take-le, ext_get_or}
use Rattle.std.proofs.lemmas.Bool.{cases_eq, cases_lt}
use Rattle.cov_dd.specs.Operations.{put, value_of}
use Rattle.cov_dd.specs.Need.{values}
use Rattle.cov_dd.specs.declared.operations.Op.TheVariants.{And, Xor}
use Rattle.cov_space.specs.declared.layer.Layer.{Layer}
use Rattle.cov_space.specs.declared.fault.SpaceFault.{SpaceFault}
use Rattle.cov_space.specs.Answers.{PutsSet}
use Rattle.cov_space.specs.Sets.{SpaceOf, lies, set_at}
use Rattle.cov_space.specs.Operations.{restriction, bit_set}
use Rattle.cov_space.specs.Layers.{place_of, read_at, shift_set, IsShifted}
use Rattle.cov_space.specs.Steps.{paired, mask_of, moved_bit, moved_bits}
use Rattle.cov_space.proofs.Sets.{values_same, lies_values, values_lies}
use Rattle.cov_space.proofs.Rows.{get_or-put_same, get_or-put_other, length-put_below, place_lt, length-read_at, get_or-read_at_from, get_or-read_at_other}

-- ---- the steps of one bit

choose_is : (t f0 f1 : Bool) → value_of Xor (value_of And (value_of Xor f0 f1) t) f0 ≡ cond t f1 f0
choose_is true true true = refl
choose_is true true false = refl
choose_is true false true = refl
choose_is true false false = refl
choose_is false true true = refl
choose_is false true false = refl
choose_is false false true = refl
choose_is false false false = refl

cond_put : (s row : List Bool) (from : ℕ) (t : Bool) → cond t (lies s (put row from true)) (lies s (put row from false)) ≡ lies s (put row from t)
cond_put s row from true = refl
cond_put s row from false = refl

lies_moved : (levels from to : ℕ) (s row : List Bool) → length row ≡ levels → lies (moved_bit levels from to s) row ≡ lies s (put row from (get_or row to false))
lies_moved levels from to s row len =
    let f0 : Bool = lies s (put row from false) in
    let f1 : Bool = lies s (put row from true) in
    let r0 : List Bool = restriction levels s from false in
    let r1 : List Bool = restriction levels s from true in
    let is0 : lies r0 row ≡ f0 = lies_values levels (λ r. lies s (put r from false)) row len in
    let is1 : lies r1 row ≡ f1 = lies_values levels (λ r. lies s (put r from true)) row len in
    let ist : lies (bit_set levels to) row ≡ get_or row to false = lies_values levels (λ r. get_or r to false) row len in
    let isx : lies (paired Xor levels r0 r1) row ≡ value_of Xor f0 f1 = lies_values levels (λ r. value_of Xor (lies r0 r) (lies r1 r)) row len ∙ ap (λ x. value_of Xor x (lies r1 row)) is0 ∙ ap (λ x. value_of Xor f0 x) is1 in
    let ism : lies (mask_of levels from to s) row ≡ value_of And (value_of Xor f0 f1) (get_or row to false) = lies_values levels (λ r. value_of And (lies (paired Xor levels r0 r1) r) (lies (bit_set levels to) r)) row len ∙ ap (λ x. value_of And x (lies (bit_set levels to) row)) isx ∙ ap (λ x. value_of And (value_of Xor f0 f1) x) ist in
    lies_values levels (λ r. value_of Xor (lies (mask_of levels from to s) r) (lies r0 r)) row len
    ∙ ap (λ x. value_of Xor x (lies r0 row)) ism ∙ ap (λ x. value_of Xor (value_of And (value_of Xor f0 f1) (get_or row to false)) x) is0
    ∙ choose_is (get_or row to false) f0 f1
    ∙ cond_put s row from (get_or row to false)

-- the row at which the set is read
moved_row : ℕ → ℕ → ℕ → List Bool → List Bool
moved_row from to zero row = row
moved_row from to (suc b) row = moved_row from to b (put row (3 * b + from) (get_or row (3 * b + to) false))

length-moved_row : (levels from to count : ℕ) (row : List Bool) → from < 3 → 3 * count ≤ levels → length row ≡ levels → length (moved_row from to count row) ≡ levels
unfolding moved_row
length-moved_row levels from to zero row lf le len = len
length-moved_row levels from to (suc b) row lf le len = length-moved_row levels from to b (put row (3 * b + from) (get_or row (3 * b + to) false)) lf (omega arith) (length-put_below levels row (3 * b + from) (get_or row (3 * b + to) false) len (omega arith))

lies_moved_bits : (levels from to count : ℕ) (s row : List Bool) → from < 3 → 3 * count ≤ levels → length row ≡ levels → lies (moved_bits levels from to count s) row ≡ lies s (moved_row from to count row)
unfolding moved_row
lies_moved_bits levels from to zero s row lf le len = refl
lies_moved_bits levels from to (suc b) s row lf le len =
    lies_moved levels (3 * b + from) (3 * b + to) (moved_bits levels from to b s) row len
    ∙ lies_moved_bits levels from to b s (put row (3 * b + from) (get_or row (3 * b + to) false)) lf (omega arith) (length-put_below levels row (3 * b + from) (get_or row (3 * b + to) false) len (omega arith))

moved_other : (from to count k : ℕ) (row : List Bool) → ((b : ℕ) → b < count → k ≢ 3 * b + from) → get_or (moved_row from to count row) k false ≡ get_or row k false
unfolding moved_row
moved_other from to zero k row miss = refl
moved_other from to (suc c) k row miss = moved_other from to c k (put row (3 * c + from) (get_or row (3 * c + to) false)) (λ b lt. miss b (omega arith)) ∙ get_or-put_other row (3 * c + from) k (get_or row (3 * c + to) false) (miss c (omega arith))

moved_at : (from to count b : ℕ) (row : List Bool) → from < 3 → to < 3 → b < count → get_or (moved_row from to count row) (3 * b + from) false ≡ get_or row (3 * b + to) false
unfolding moved_row
moved_at from to zero b row lf lt below = absurd (omega arith)
moved_at from to (suc c) b row lf lt below =
    elim (cases_eq b c) [
      | inl e ↦
          moved_other from to c (3 * b + from) (put row (3 * c + from) (get_or row (3 * c + to) false)) (λ i li. omega arith)
          ∙ ap (λ k. get_or (put row (3 * c + from) (get_or row (3 * c + to) false)) (3 * k + from) false) e
          ∙ get_or-put_same row (3 * c + from) (get_or row (3 * c + to) false)
          ∙ ap (λ k. get_or row (3 * k + to) false) (sym e)
      | inr ne ↦
          let differ : 3 * b + to ≢ 3 * c + from = omega arith in
          moved_at from to c b (put row (3 * c + from) (get_or row (3 * c + to) false)) lf lt (omega arith)
          ∙ get_or-put_other row (3 * c + from) (3 * b + to) (get_or row (3 * c + to) false) differ
    ]

-- a level is on the layer, or it is not
pub of_layer : (from count k : ℕ) → ((b : ℕ) × (b < count) × (k ≡ 3 * b + from)) ⊎ ((b : ℕ) → b < count → k ≢ 3 * b + from)
of_layer from zero k = inr (λ b lt. absurd (omega arith))
of_layer from (suc c) k =
    elim (cases_eq k (3 * c + from)) [
      | inl e ↦ inl (c, omega arith, e)
      | inr ne ↦ elim (of_layer from c k) [
        | inl w ↦ inl (w.0, let l : w.0 < c = w.1 in omega arith, w.2)
        | inr miss ↦ inr (λ b lt. elim (cases_eq b c) [ inl e ↦ (λ same. ne (same ∙ ap (λ i. 3 * i + from) e)) | inr other ↦ miss b (omega arith) ])
      ]
    ]

-- the row that the steps read is that of the other layer
moved_is_read : (levels count : ℕ) (from to : Layer) (row : List Bool) → levels ≡ 3 * count → length row ≡ levels → moved_row (place_of from) (place_of to) count row ≡ read_at from to row
moved_is_read levels count from to row thirds len =
    let lf : place_of from < 3 = place_lt from in
    let lt : place_of to < 3 = place_lt to in
    let n : length (moved_row (place_of from) (place_of to) count row) ≡ levels = length-moved_row levels (place_of from) (place_of to) count row lf (omega arith) len in
    let m : length (read_at from to row) ≡ length row = length-read_at from to row in
    ext_get_or false (moved_row (place_of from) (place_of to) count row) (read_at from to row) (omega arith) (λ k below.
    elim (of_layer (place_of from) count k) [
      | inl w ↦
          ap (λ i. get_or (moved_row (place_of from) (place_of to) count row) i false) w.2
          ∙ moved_at (place_of from) (place_of to) count w.0 row lf lt w.1
          ∙ sym (get_or-read_at_from from to row count w.0 (omega arith) w.1)
          ∙ ap (λ i. get_or (read_at from to row) i false) (sym w.2)
      | inr miss ↦
          moved_other (place_of from) (place_of to) count k row miss
          ∙ sym (get_or-read_at_other from to row k (λ b e. elim (cases_lt b count) [ inl l ↦ miss b l e | inr ge ↦ absurd (omega arith) ]))
    ])

moved_bits_proper : (levels from to count : ℕ) (s : List Bool) → values levels (lies s) ≡ s → values levels (lies (moved_bits levels from to count s)) ≡ moved_bits levels from to count s
moved_bits_proper levels from to zero s proper = proper
moved_bits_proper levels from to (suc b) s proper =
    let last : List Bool = moved_bits levels from to b s in
    values_lies levels (λ row. value_of Xor (lies (mask_of levels (3 * b + from) (3 * b + to) last) row) (lies (restriction levels last (3 * b + from) false) row))

-- so the steps of all bits give the set on the other layer
pub moved_bits_shift : (levels : ℕ) (from to : Layer) (s : List Bool) → levels % 3 ≡ 0 → values levels (lies s) ≡ s → moved_bits levels (place_of from) (place_of to) (levels / 3) s ≡ shift_set levels from to s
moved_bits_shift levels from to s thirds proper =
    let count : ℕ = levels / 3 in
    let whole : levels ≡ 3 * (levels / 3) = omega arith in
    sym (moved_bits_proper levels (place_of from) (place_of to) count s proper)
    ∙ values_same levels (lies (moved_bits levels (place_of from) (place_of to) count s)) (λ row. lies s (read_at from to row)) (λ row len.
    lies_moved_bits levels (place_of from) (place_of to) count s row (place_lt from) (omega arith) len
    ∙ ap (lies s) (moved_is_read levels count from to row whole len))

pub shift_exact : (levels : ℕ) (from to : Layer) (s : List Bool) → levels % 3 ≡ 0 → IsShifted levels from to s (shift_set levels from to s)
shift_exact levels from to s thirds row other len long at rest =
    let count : ℕ = levels / 3 in
    let whole : levels ≡ 3 * (levels / 3) = omega arith in
    let lf : place_of from < 3 = place_lt from in
    let m : length (read_at from to row) ≡ length row = length-read_at from to row in
    lies_values levels (λ r. lies s (read_at from to r)) row len
    ∙ ap (lies s) (ext_get_or false (read_at from to row) other (omega arith) (λ k below.
    elim (of_layer (place_of from) count k) [
      | inl w ↦
          let lb : w.0 < count = w.1 in
          ap (λ i. get_or (read_at from to row) i false) w.2
          ∙ get_or-read_at_from from to row count w.0 (omega arith) w.1
          ∙ sym (at w.0 (omega arith))
          ∙ ap (λ i. get_or other i false) (sym w.2)
      | inr miss ↦
          let all : (b : ℕ) → k ≢ 3 * b + place_of from = λ b e. elim (cases_lt b count) [ inl l ↦ miss b l e | inr ge ↦ absurd (omega arith) ] in
          get_or-read_at_other from to row k all ∙ sym (rest k (omega arith) all)
    ]))

-- ---- the loop

-- one turn of a shift
pub shift_turn : (s0 s new : SpaceOf) (n from to b : ℕ) (x : List Bool) → length s0.sets ≡ n + 1 → s ≡ record s0 { sets = take n s0.sets ++ set_at s.sets n ∷ [] } → set_at s.sets n ≡ moved_bits s0.levels from to b x
    → new ≡ record s { sets = take n s.sets ++ moved_bit s.levels (3 * b + from) (3 * b + to) (set_at s.sets n) ∷ [] }
    → (new ≡ record s0 { sets = take n s0.sets ++ set_at new.sets n ∷ [] }) × (set_at new.sets n ≡ moved_bits s0.levels from to (b + 1) x)
shift_turn s0 s new n from to b x count is made e =
    let len : length (take n s0.sets) ≡ n = length-take-le n s0.sets (omega arith) in
    let m : List Bool = moved_bit s.levels (3 * b + from) (3 * b + to) (set_at s.sets n) in
    let front : take n s.sets ≡ take n s0.sets = ap (λ (z : SpaceOf). take n z.sets) is ∙ take_at (take n s0.sets) (set_at s.sets n ∷ []) n len in
    let e' : new ≡ record s0 { sets = take n s0.sets ++ m ∷ [] } = e ∙ ap (λ (y : List (List Bool)). record s { sets = y ++ m ∷ [] }) front ∙ ap (λ (z : SpaceOf). record z { sets = take n s0.sets ++ m ∷ [] }) is in
    let at : set_at new.sets n ≡ m = ap (λ (z : SpaceOf). set_at z.sets n) e' ∙ get_or_at (take n s0.sets) m [] [] n len in
    let next : suc b ≡ b + 1 = omega arith in (
      e' ∙ ap (λ (y : List Bool). record s0 { sets = take n s0.sets ++ y ∷ [] }) (sym at),
      at
          ∙ ap (λ k. moved_bit k (3 * b + from) (3 * b + to) (set_at s.sets n)) (ap (λ (z : SpaceOf). z.levels) is)
          ∙ ap (λ y. moved_bit s0.levels (3 * b + from) (3 * b + to) y) made
          ∙ ap (λ k. moved_bits s0.levels from to k x) next,
    )

-- the last turn
pub shift_done : (s0 s : SpaceOf) (n : ℕ) (from to : Layer) (first second b : ℕ) → length s0.sets ≡ n + 1 → s0.levels % 3 ≡ 0 → values s0.levels (lies (set_at s0.sets n)) ≡ set_at s0.sets n
    → first ≡ place_of from → second ≡ place_of to → b ≡ s0.levels / 3
    → s ≡ record s0 { sets = take n s0.sets ++ set_at s.sets n ∷ [] } → set_at s.sets n ≡ moved_bits s0.levels first second b (set_at s0.sets n)
    → s ≡ record s0 { sets = take n s0.sets ++ shift_set s0.levels from to (set_at s0.sets n) ∷ [] }
shift_done s0 s n from to first second b count thirds proper is_first is_second end is made =
    is ∙ ap (λ (y : List Bool). record s0 { sets = take n s0.sets ++ y ∷ [] })
    (made
    ∙ ap (λ k. moved_bits s0.levels k second b (set_at s0.sets n)) is_first
    ∙ ap (λ k. moved_bits s0.levels (place_of from) k b (set_at s0.sets n)) is_second
    ∙ ap (λ k. moved_bits s0.levels (place_of from) (place_of to) k (set_at s0.sets n)) end
    ∙ moved_bits_shift s0.levels from to (set_at s0.sets n) thirds proper)

-- the set that was put last is exactly the set on the other layer
pub exact_last : (res : Result Unit SpaceFault) (s0 s : SpaceOf) (from to : Layer) (x : List Bool) → s0.levels % 3 ≡ 0 → OnOk res (PutsSet s0 s (shift_set s0.levels from to x)) → OnOk res (IsShifted s0.levels from to x (set_at s.sets (length s0.sets)))
exact_last (Err e) s0 s from to x thirds p = tt
exact_last (Ok y) s0 s from to x thirds p =
    let at : set_at s.sets (length s0.sets) ≡ shift_set s0.levels from to x = ap (λ (z : SpaceOf). set_at z.sets (length s0.sets)) p.is ∙ get_or_at s0.sets (shift_set s0.levels from to x) [] [] (length s0.sets) refl in
    subst (λ (y : List Bool). IsShifted s0.levels from to x y) (sym at) (shift_exact s0.levels from to x thirds)
