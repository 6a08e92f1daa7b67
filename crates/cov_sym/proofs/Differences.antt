-- The bits at which two states differ, and the pairs of different states.
use Rattle.std.proofs.Common.{◌≡◌, ℕ, suc, ◌<◌, ◌+◌, ◌*◌, ◌++◌, ◌||◌, List, [], ◌∷◌, Bool, true, false, not, cond, length, drop, get_or, refl, sym, ◌∙◌, ap, ap₂, arith}
use Rattle.std.proofs.Math.Seq.{drop-cons}
use Rattle.std.proofs.lemmas.List.{drop_all, get_or_at}
use Rattle.std.proofs.lemmas.Slice.Eq.{bytes_eq-Decides}
use Rattle.std.specs.Str.{bytes_eq}
use Rattle.cov_dd.specs.Need.{values}
use Rattle.cov_bits.specs.Layout.{bits, places}
use Rattle.cov_space.specs.declared.layer.Layer.TheVariants.{W, V}
use Rattle.cov_space.specs.Operations.{bit_set, constant_set, symmetric_difference, union}
use Rattle.cov_space.specs.Sets.{SpaceOf, lies, set_at}
use Rattle.cov_space.specs.Steps.{with_more}
use Rattle.cov_space.proofs.Members.{lies-bit_set, lies-symmetric_difference}
use Rattle.cov_space.proofs.Sets.{values_same, lies_values}
use Rattle.cov_image.specs.Rows.{row}
use Rattle.cov_image.specs.Stacks.{below}
use Rattle.cov_image.proofs.Stacks.{below_more}
use Rattle.cov_places.specs.Places.{state_on}
use Rattle.cov_places.proofs.States as states
use Rattle.cov_lifts.proofs.States.{Splits, splits}
use Rattle.cov_sym.specs.Pairs.{differ_at, differing_set, joined_at}

-- whether the bits of a row on layers W and V differ somewhere
abbrev pub differs : List Bool → Bool
differs [] = false
differs (w ∷ []) = false
differs (w ∷ v ∷ []) = false
differs (w ∷ v ∷ n ∷ rest) = cond w (not v) v || differs rest

-- ---- bit by bit

-- the rows whose states differ from a bit on
abbrev pub differing_from : ℕ → ℕ → List Bool
differing_from levels b = values levels (λ row. differs (drop (3 * b) row))

or_turned : (a b : Bool) → (a || b) ≡ (b || a)
or_turned true true = refl
or_turned true false = refl
or_turned false true = refl
or_turned false false = refl

-- no bits, none of which differs
pub differing_none : (levels b : ℕ) → levels ≡ 3 * b → constant_set levels false ≡ differing_from levels b
differing_none levels b whole =
    values_same levels (λ r. false) (λ r. differs (drop (3 * b) r)) (λ r len. ap differs (sym (drop_all (3 * b) r (omega arith))))

-- the row from a bit on
bit_first : (r : List Bool) (b : ℕ) → 3 * b + 2 < length r → drop (3 * b) r ≡ get_or r (3 * b) false ∷ get_or r (3 * b + 1) false ∷ get_or r (3 * b + 2) false ∷ drop (3 * (b + 1)) r
bit_first r b lt =
    let one : suc (3 * b) ≡ 3 * b + 1 = omega arith in
    let two : suc (3 * b + 1) ≡ 3 * b + 2 = omega arith in
    let three : suc (3 * b + 2) ≡ 3 * (b + 1) = omega arith in
    let x : Bool = get_or r (3 * b) false in
    let y : Bool = get_or r (3 * b + 1) false in
    let z : Bool = get_or r (3 * b + 2) false in
    let at_z : drop (3 * b + 2) r ≡ z ∷ drop (3 * (b + 1)) r = drop-cons r (3 * b + 2) false lt ∙ ap (λ k. z ∷ drop k r) three in
    let at_y : drop (3 * b + 1) r ≡ y ∷ z ∷ drop (3 * (b + 1)) r = drop-cons r (3 * b + 1) false (omega arith) ∙ ap (λ k. y ∷ drop k r) two ∙ ap (λ (l : List Bool). y ∷ l) at_z in
    drop-cons r (3 * b) false (omega arith) ∙ ap (λ k. x ∷ drop k r) one ∙ ap (λ (l : List Bool). x ∷ l) at_y

-- one bit more
pub differing_more : (levels b : ℕ) → 3 * b + 2 < levels → joined_at levels b (differing_from levels (b + 1)) ≡ differing_from levels b
unfolding joined_at
differing_more levels b lt =
    values_same levels (λ r. lies (differing_from levels (b + 1)) r || differ_at b r) (λ r. differs (drop (3 * b) r)) (λ r len.
    ap (λ c. c || differ_at b r) (lies_values levels (λ s. differs (drop (3 * (b + 1)) s)) r len)
    ∙ or_turned (differs (drop (3 * (b + 1)) r)) (differ_at b r)
    ∙ ap differs (sym (bit_first r b (omega arith))))

-- ---- two states

both_false : (a b : Bool) → (a || b) ≡ false → (a ≡ false) × (b ≡ false)
both_false true b h = cc h
both_false false b h = (refl, h)

one_bit : (x y : Bool) → cond x (not y) y ≡ false → x ≡ y
one_bit true true h = refl
one_bit true false h = cc h
one_bit false true h = cc h
one_bit false false h = refl

own_bit : (x : Bool) → cond x (not x) x ≡ false
own_bit true = refl
own_bit false = refl

same_bits : (w v n : List Bool) → length v ≡ length w → length n ≡ length w → differs (row w v n) ≡ false → w ≡ v
same_bits [] [] n d e h = refl
same_bits [] (y ∷ v) n d e h = absurd (omega arith)
same_bits (x ∷ w) [] n d e h = absurd (omega arith)
same_bits (x ∷ w) (y ∷ v) [] d e h = absurd (omega arith)
same_bits (x ∷ w) (y ∷ v) (z ∷ n) d e h =
    let p = both_false (cond x (not y) y) (differs (row w v n)) h in
    ap₂ (λ (b : Bool) (bs : List Bool). b ∷ bs) (one_bit x y p.0) (same_bits w v n (omega arith) (omega arith) p.1)

own_bits : (w n : List Bool) → length n ≡ length w → differs (row w w n) ≡ false
own_bits [] n e = refl
own_bits (x ∷ w) [] e = absurd (omega arith)
own_bits (x ∷ w) (z ∷ n) e = ap₂ ◌||◌ (own_bit x) (own_bits w n (omega arith))

opposite : (d q : Bool) → (d ≡ false → q ≡ true) → (q ≡ true → d ≡ false) → d ≡ not q
opposite true true f g = g refl
opposite true false f g = refl
opposite false true f g = refl
opposite false false f g = cc (f refl)

-- the bits of a row differ exactly where its states do
pub states_differ : (ns : List ℕ) (r : List Bool) → length r ≡ 3 * bits ns → differs r ≡ not (bytes_eq (state_on ns W r) (state_on ns V r))
states_differ ns r len =
    let s : Splits (bits ns) r = splits (bits ns) r len in
    let at_w : state_on ns W r ≡ places ns s.w = ap (state_on ns W) s.is ∙ states.inverted ns s.w s.v s.n s.long_w s.long_v s.long_n in
    let at_v : state_on ns V r ≡ places ns s.v = ap (state_on ns V) s.is ∙ states.present ns s.w s.v s.n s.long_w s.long_v s.long_n in
    let same = bytes_eq-Decides (state_on ns W r) (state_on ns V r) in
    let lv : length s.v ≡ length s.w = s.long_v ∙ sym s.long_w in
    let ln : length s.n ≡ length s.w = s.long_n ∙ sym s.long_w in
    opposite (differs r) (bytes_eq (state_on ns W r) (state_on ns V r))
    (λ h. same.1 (at_w ∙ ap (places ns) (same_bits s.w s.v s.n lv ln (sym (ap differs s.is) ∙ h)) ∙ sym at_v))
    (λ h.
    let one : s.w ≡ s.v = states.one ns s.w s.v s.long_w s.long_v (sym at_w ∙ same.0 h ∙ at_v) in
    ap differs s.is ∙ ap (λ (v : List Bool). differs (row s.w v s.n)) (sym one) ∙ own_bits s.w s.n ln)

pub differing_all : (levels : ℕ) (ns : List ℕ) → levels ≡ 3 * bits ns → differing_from levels 0 ≡ differing_set levels ns
unfolding differing_set
differing_all levels ns whole =
    values_same levels (λ r. differs (drop (3 * 0) r)) (λ r. not (bytes_eq (state_on ns W r) (state_on ns V r))) (λ r len. states_differ ns r (len ∙ whole))

-- ---- one bit, in four operations

pub joined_is : (levels b : ℕ) (x : List Bool) → union levels x (symmetric_difference levels (bit_set levels (3 * b)) (bit_set levels (3 * b + 1))) ≡ joined_at levels b x
unfolding joined_at
joined_is levels b x =
    let p : List Bool = bit_set levels (3 * b) in
    let q : List Bool = bit_set levels (3 * b + 1) in
    values_same levels (λ r. lies x r || lies (symmetric_difference levels p q) r) (λ r. lies x r || differ_at b r) (λ r len.
    ap (λ c. lies x r || c) (lies-symmetric_difference levels p q r len
    ∙ ap₂ (λ c d. cond c (not d) d) (lies-bit_set levels (3 * b) r len) (lies-bit_set levels (3 * b + 1) r len)))

-- the last set of a stack is joined
pub joined_on : (old s new : SpaceOf) (n b : ℕ) → length old.sets ≡ n → s ≡ with_more old (differing_from old.levels (b + 1) ∷ []) → 3 * b + 2 < old.levels
    → new ≡ with_more (below s n) (joined_at s.levels b (set_at s.sets n) ∷ []) → new ≡ with_more old (differing_from old.levels b ∷ [])
joined_on old s new n b count is lt e =
    let x : List Bool = differing_from old.levels (b + 1) in
    e
    ∙ ap (λ (z : SpaceOf). with_more (below z n) (joined_at z.levels b (set_at z.sets n) ∷ [])) is
    ∙ ap (λ (z : SpaceOf). with_more z (joined_at old.levels b (set_at (old.sets ++ x ∷ []) n) ∷ [])) (below_more old (x ∷ []) n count)
    ∙ ap (λ (y : List Bool). with_more old (joined_at old.levels b y ∷ [])) (get_or_at old.sets x [] [] n count)
    ∙ ap (λ (y : List Bool). with_more old (y ∷ [])) (differing_more old.levels b lt)
