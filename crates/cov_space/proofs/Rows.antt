-- Rows with bits written, and rows read on another layer.
use Rattle.std.proofs.Common.{◌≡◌, ◌≢◌, ℕ, zero, suc, ◌<◌, ◌+◌, ◌*◌, List, [], ◌∷◌, Bool, false, length, get_or, refl, sym, ◌∙◌, ap, arith}
use Rattle.std.proofs.lemmas.List.{length-set}
use Rattle.cov_dd.specs.Operations.{put}
use Rattle.cov_dd.proofs.Rows as dd
use Rattle.cov_space.specs.declared.layer.Layer.{Layer}
use Rattle.cov_space.specs.declared.layer.Layer.TheVariants.{W, V, N}
use Rattle.cov_space.specs.Layers.{place_of, of_three, with_three, read_at}

-- the bit that was written
pub get_or-put_same : (row : List Bool) (k : ℕ) (b : Bool) → get_or (put row k b) k false ≡ b
get_or-put_same = dd.get_or-put_same

-- and the others
pub get_or-put_other : (row : List Bool) (k j : ℕ) (b : Bool) → j ≢ k → get_or (put row k b) j false ≡ get_or row j false
get_or-put_other = dd.get_or-put_other

pub length-put_below : (levels : ℕ) (row : List Bool) (k : ℕ) (b : Bool) → length row ≡ levels → k < levels → length (put row k b) ≡ levels
length-put_below levels row k b len lt = let l : k < length row = omega arith in ap length (dd.put_is_set row k b l) ∙ length-set row k b ∙ len

pub place_lt : (l : Layer) → place_of l < 3
place_lt W = omega arith
place_lt V = omega arith
place_lt N = omega arith

length-with_three : (l : Layer) (x w v n : Bool) (rest : List Bool) → length (with_three l x w v n rest) ≡ suc (suc (suc (length rest)))
length-with_three W x w v n rest = refl
length-with_three V x w v n rest = refl
length-with_three N x w v n rest = refl

pub length-read_at : (from to : Layer) (row : List Bool) → length (read_at from to row) ≡ length row
length-read_at from to [] = refl
length-read_at from to (w ∷ []) = refl
length-read_at from to (w ∷ v ∷ []) = refl
length-read_at from to (w ∷ v ∷ n ∷ rest) = length-with_three from (of_three to w v n) w v n (read_at from to rest) ∙ ap (λ k. suc (suc (suc k))) (length-read_at from to rest)

-- the layer is written
with_three-here : (l : Layer) (x w v n : Bool) (rest : List Bool) → get_or (with_three l x w v n rest) (place_of l) false ≡ x
with_three-here W x w v n rest = refl
with_three-here V x w v n rest = refl
with_three-here N x w v n rest = refl

three-at : (l : Layer) (w v n : Bool) (rest : List Bool) → get_or (w ∷ v ∷ n ∷ rest) (place_of l) false ≡ of_three l w v n
three-at W w v n rest = refl
three-at V w v n rest = refl
three-at N w v n rest = refl

-- the other two bits stay
with_three-other : (l : Layer) (x w v n : Bool) (rest : List Bool) (k : ℕ) → k < 3 → k ≢ place_of l → get_or (with_three l x w v n rest) k false ≡ get_or (w ∷ v ∷ n ∷ rest) k false
with_three-other W x w v n rest zero lt ne = absurd (ne refl)
with_three-other W x w v n rest (suc zero) lt ne = refl
with_three-other W x w v n rest (suc (suc k)) lt ne = refl
with_three-other V x w v n rest zero lt ne = refl
with_three-other V x w v n rest (suc zero) lt ne = absurd (ne refl)
with_three-other V x w v n rest (suc (suc k)) lt ne = refl
with_three-other N x w v n rest zero lt ne = refl
with_three-other N x w v n rest (suc zero) lt ne = refl
with_three-other N x w v n rest (suc (suc zero)) lt ne = absurd (ne refl)
with_three-other N x w v n rest (suc (suc (suc k))) lt ne = absurd (omega arith)

with_three-behind : (l : Layer) (x w v n : Bool) (rest : List Bool) (k : ℕ) → get_or (with_three l x w v n rest) (suc (suc (suc k))) false ≡ get_or rest k false
with_three-behind W x w v n rest k = refl
with_three-behind V x w v n rest k = refl
with_three-behind N x w v n rest k = refl

-- at the layer `from` a row is read at the layer `to`
pub get_or-read_at_from : (from to : Layer) (row : List Bool) (count b : ℕ) → length row ≡ 3 * count → b < count → get_or (read_at from to row) (3 * b + place_of from) false ≡ get_or row (3 * b + place_of to) false
get_or-read_at_from from to [] count b len lt = absurd (omega arith)
get_or-read_at_from from to (w ∷ []) count b len lt = absurd (omega arith)
get_or-read_at_from from to (w ∷ v ∷ []) count b len lt = absurd (omega arith)
get_or-read_at_from from to (w ∷ v ∷ n ∷ rest) zero b len lt = absurd (omega arith)
get_or-read_at_from from to (w ∷ v ∷ n ∷ rest) (suc count) zero len lt =
    let here : (l : Layer) → 3 * 0 + place_of l ≡ place_of l = λ l. omega arith in
    ap (λ k. get_or (read_at from to (w ∷ v ∷ n ∷ rest)) k false) (here from)
    ∙ with_three-here from (of_three to w v n) w v n (read_at from to rest)
    ∙ sym (three-at to w v n rest)
    ∙ ap (λ k. get_or (w ∷ v ∷ n ∷ rest) k false) (sym (here to))
get_or-read_at_from from to (w ∷ v ∷ n ∷ rest) (suc count) (suc b) len lt =
    let next : (l : Layer) → 3 * suc b + place_of l ≡ suc (suc (suc (3 * b + place_of l))) = λ l. omega arith in
    ap (λ k. get_or (read_at from to (w ∷ v ∷ n ∷ rest)) k false) (next from)
    ∙ with_three-behind from (of_three to w v n) w v n (read_at from to rest) (3 * b + place_of from)
    ∙ get_or-read_at_from from to rest count b (omega arith) (omega arith)
    ∙ ap (λ k. get_or (w ∷ v ∷ n ∷ rest) k false) (sym (next to))

-- and elsewhere at its own
pub get_or-read_at_other : (from to : Layer) (row : List Bool) (k : ℕ) → ((b : ℕ) → k ≢ 3 * b + place_of from) → get_or (read_at from to row) k false ≡ get_or row k false
get_or-read_at_other from to [] k miss = refl
get_or-read_at_other from to (w ∷ []) k miss = refl
get_or-read_at_other from to (w ∷ v ∷ []) k miss = refl
get_or-read_at_other from to (w ∷ v ∷ n ∷ rest) zero miss = with_three-other from (of_three to w v n) w v n (read_at from to rest) 0 (omega arith) (λ e. miss 0 (omega arith)) ∙ refl
get_or-read_at_other from to (w ∷ v ∷ n ∷ rest) (suc zero) miss = with_three-other from (of_three to w v n) w v n (read_at from to rest) 1 (omega arith) (λ e. miss 0 (omega arith)) ∙ refl
get_or-read_at_other from to (w ∷ v ∷ n ∷ rest) (suc (suc zero)) miss = with_three-other from (of_three to w v n) w v n (read_at from to rest) 2 (omega arith) (λ e. miss 0 (omega arith)) ∙ refl
get_or-read_at_other from to (w ∷ v ∷ n ∷ rest) (suc (suc (suc k))) miss =
    with_three-behind from (of_three to w v n) w v n (read_at from to rest) k
    ∙ get_or-read_at_other from to rest k (λ b e. miss (suc b) (omega arith))
