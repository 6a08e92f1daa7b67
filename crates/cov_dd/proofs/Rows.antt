-- A row with one bit written.
use Rattle.std.proofs.Common.{◌≡◌, ◌≢◌, ℕ, zero, suc, ◌<◌, List, [], ◌∷◌, Bool, false, length, get_or, set, refl, ap, arith}
use Rattle.cov_dd.specs.Operations.{put}

pub put_is_set : (row : List Bool) (k : ℕ) (b : Bool) → k < length row → put row k b ≡ set row k b
put_is_set [] k b lt = absurd (omega arith)
put_is_set (x ∷ row) zero b lt = refl
put_is_set (x ∷ row) (suc k) b lt = ap (λ r. x ∷ r) (put_is_set row k b (omega arith))

pub get_or-put_same : (row : List Bool) (k : ℕ) (b : Bool) → get_or (put row k b) k false ≡ b
get_or-put_same [] zero b = refl
get_or-put_same [] (suc k) b = get_or-put_same [] k b
get_or-put_same (x ∷ row) zero b = refl
get_or-put_same (x ∷ row) (suc k) b = get_or-put_same row k b

pub get_or-put_other : (row : List Bool) (k j : ℕ) (b : Bool) → j ≢ k → get_or (put row k b) j false ≡ get_or row j false
get_or-put_other [] zero zero b ne = absurd (ne refl)
get_or-put_other [] zero (suc j) b ne = refl
get_or-put_other [] (suc k) zero b ne = refl
get_or-put_other [] (suc k) (suc j) b ne = get_or-put_other [] k j b (λ e. ne (ap suc e))
get_or-put_other (x ∷ row) zero zero b ne = absurd (ne refl)
get_or-put_other (x ∷ row) zero (suc j) b ne = refl
get_or-put_other (x ∷ row) (suc k) zero b ne = refl
get_or-put_other (x ∷ row) (suc k) (suc j) b ne = get_or-put_other row k j b (λ e. ne (ap suc e))
