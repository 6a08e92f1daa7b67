-- Bits written and read at levels three apart.
use Rattle.std.proofs.Common.{◌≡◌, ◌≢◌, ℕ, zero, suc, ◌<◌, ◌≤◌, ◌+◌, ◌*◌, List, [], ◌∷◌, ◌++◌, Bool, false, length, take, drop, get_or, refl, ◌∙◌, ap, ap₂, arith}
use Rattle.cov_dd.specs.Operations.{put}
use Rattle.cov_space.proofs.Rows.{get_or-put_same, get_or-put_other, length-put_below}
use Rattle.cov_fields.specs.Fields.{bits_at, put_bits}

-- ---- one bit

put_swap : (r : List Bool) (i j : ℕ) (x y : Bool) → i ≢ j → put (put r i x) j y ≡ put (put r j y) i x
put_swap [] zero zero x y ne = absurd (ne refl)
put_swap [] zero (suc j) x y ne = refl
put_swap [] (suc i) zero x y ne = refl
put_swap [] (suc i) (suc j) x y ne = ap (λ (r : List Bool). false ∷ r) (put_swap [] i j x y (λ e. ne (ap suc e)))
put_swap (b ∷ r) zero zero x y ne = absurd (ne refl)
put_swap (b ∷ r) zero (suc j) x y ne = refl
put_swap (b ∷ r) (suc i) zero x y ne = refl
put_swap (b ∷ r) (suc i) (suc j) x y ne = ap (λ (s : List Bool). b ∷ s) (put_swap r i j x y (λ e. ne (ap suc e)))

put_again : (r : List Bool) (i : ℕ) (x y : Bool) → put (put r i x) i y ≡ put r i y
put_again [] zero x y = refl
put_again [] (suc i) x y = ap (λ (r : List Bool). false ∷ r) (put_again [] i x y)
put_again (b ∷ r) zero x y = refl
put_again (b ∷ r) (suc i) x y = ap (λ (s : List Bool). b ∷ s) (put_again r i x y)

-- ---- several bits

-- a bit below does not matter
bits_above : (l k count : ℕ) (r : List Bool) (b : Bool) → k < l → bits_at l count (put r k b) ≡ bits_at l count r
bits_above l k zero r b lt = refl
bits_above l k (suc count) r b lt =
    let ne : l ≢ k = omega arith in
    ap₂ (λ (x : Bool) (xs : List Bool). x ∷ xs) (get_or-put_other r k l b ne) (bits_above (l + 3) k count r b (omega arith))

-- bits above and one below are written in either order
pub put_below : (l k : ℕ) (bs r : List Bool) (b : Bool) → k < l → put_bits l bs (put r k b) ≡ put (put_bits l bs r) k b
put_below l k [] r b lt = refl
put_below l k (c ∷ bs) r b lt =
    let ne : k ≢ l = omega arith in
    ap (λ (s : List Bool). put s l c) (put_below (l + 3) k bs r b (omega arith)) ∙ put_swap (put_bits (l + 3) bs r) k l b c ne

-- the second writing counts
pub put_bits_again : (l : ℕ) (as' bs r : List Bool) → length as' ≡ length bs → put_bits l bs (put_bits l as' r) ≡ put_bits l bs r
put_bits_again l [] [] r e = refl
put_bits_again l [] (b ∷ bs) r e = absurd (omega arith)
put_bits_again l (a ∷ as') [] r e = absurd (omega arith)
put_bits_again l (a ∷ as') (b ∷ bs) r e =
    ap (λ (s : List Bool). put s l b) (put_below (l + 3) l bs (put_bits (l + 3) as' r) a (omega arith))
    ∙ put_again (put_bits (l + 3) bs (put_bits (l + 3) as' r)) l a b
    ∙ ap (λ (s : List Bool). put s l b) (put_bits_again (l + 3) as' bs r (omega arith))

-- a level at which nothing is written
pub other_bit : (l : ℕ) (bs r : List Bool) (k : ℕ) → ((i : ℕ) → i < length bs → l + 3 * i ≢ k) → get_or (put_bits l bs r) k false ≡ get_or r k false
other_bit l [] r k miss = refl
other_bit l (b ∷ bs) r k miss =
    let here : l + 3 * 0 ≢ k = miss 0 (omega arith) in
    let ne : k ≢ l = omega arith in
    get_or-put_other (put_bits (l + 3) bs r) l k b ne
    ∙ other_bit (l + 3) bs r k (λ i lt e. miss (suc i) (omega arith) (omega arith))

-- levels at which nothing is written
pub other_bits : (m count l : ℕ) (bs r : List Bool) → ((i j : ℕ) → i < length bs → j < count → l + 3 * i ≢ m + 3 * j) → bits_at m count (put_bits l bs r) ≡ bits_at m count r
other_bits m zero l bs r miss = refl
other_bits m (suc count) l bs r miss =
    ap₂ (λ (x : Bool) (xs : List Bool). x ∷ xs) (other_bit l bs r m (λ i lt e. miss i 0 lt (omega arith) (omega arith)))
    (other_bits (m + 3) count l bs r (λ i j li lj e. miss i (suc j) li (omega arith) (omega arith)))

-- the first bits that were written
bits_front : (l w : ℕ) (bs r : List Bool) → w ≤ length bs → bits_at l w (put_bits l bs r) ≡ take w bs
bits_front l zero bs r le = refl
bits_front l (suc w) [] r le = absurd (omega arith)
bits_front l (suc w) (b ∷ bs) r le =
    ap₂ (λ (x : Bool) (xs : List Bool). x ∷ xs) (get_or-put_same (put_bits (l + 3) bs r) l b)
    (bits_above (l + 3) l w (put_bits (l + 3) bs r) b (omega arith) ∙ bits_front (l + 3) w bs r (omega arith))

-- some of the bits that were written
pub bits_inside : (l a w : ℕ) (bs r : List Bool) → a + w ≤ length bs → bits_at (l + 3 * a) w (put_bits l bs r) ≡ take w (drop a bs)
bits_inside l zero w bs r le = let e : l + 3 * zero ≡ l = omega arith in ap (λ k. bits_at k w (put_bits l bs r)) e ∙ bits_front l w bs r (omega arith)
bits_inside l (suc a) w [] r le = absurd (omega arith)
bits_inside l (suc a) w (b ∷ bs) r le =
    let e : l + 3 * suc a ≡ (l + 3) + 3 * a = omega arith in
    bits_above (l + 3 * suc a) l w (put_bits (l + 3) bs r) b (omega arith)
    ∙ ap (λ k. bits_at k w (put_bits (l + 3) bs r)) e
    ∙ bits_inside (l + 3) a w bs r (omega arith)

-- all bits that were written
pub bits_written : (l : ℕ) (bs r : List Bool) → bits_at l (length bs) (put_bits l bs r) ≡ bs
bits_written l [] r = refl
bits_written l (b ∷ bs) r =
    ap₂ (λ (x : Bool) (xs : List Bool). x ∷ xs) (get_or-put_same (put_bits (l + 3) bs r) l b)
    (bits_above (l + 3) l (length bs) (put_bits (l + 3) bs r) b (omega arith) ∙ bits_written (l + 3) bs r)

pub put_append : (l : ℕ) (as' bs r : List Bool) → put_bits l (as' ++ bs) r ≡ put_bits l as' (put_bits (l + 3 * length as') bs r)
put_append l [] bs r = let e : l ≡ l + 3 * length {A = Bool} [] = omega arith in ap (λ k. put_bits k bs r) e
put_append l (a ∷ as') bs r =
    let e : (l + 3) + 3 * length as' ≡ l + 3 * length (a ∷ as') = omega arith in
    ap (λ (s : List Bool). put s l a) (put_append (l + 3) as' bs r ∙ ap (λ k. put_bits (l + 3) as' (put_bits k bs r)) e)

pub length-bits_at : (l count : ℕ) (r : List Bool) → length (bits_at l count r) ≡ count
length-bits_at l zero r = refl
length-bits_at l (suc count) r = ap suc (length-bits_at (l + 3) count r)

pub length-put_bits : (levels l : ℕ) (bs r : List Bool) → length r ≡ levels → l + 3 * length bs ≤ levels + 2 → length (put_bits l bs r) ≡ levels
length-put_bits levels l [] r len le = len
length-put_bits levels l (b ∷ bs) r len le = length-put_below levels (put_bits (l + 3) bs r) l b (length-put_bits levels (l + 3) bs r len (omega arith)) (omega arith)
