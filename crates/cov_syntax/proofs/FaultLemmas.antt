-- Lemmas on the numbers of faults.
use Rattle.std.proofs.Common.{◌≡◌, ◌≢◌, ℕ, zero, suc, ◌-◌, slice_get, arith, refl, ap}
use Rattle.cov_syntax.specs.Faults.{fault_kinds, kind_numbered}

-- the faults are numbered from 1
pub kind_numbered-from_one : (n : ℕ) → n ≢ 0 → slice_get fault_kinds (n - 1) ≡ kind_numbered n
kind_numbered-from_one zero h = absurd (h refl)
kind_numbered-from_one (suc n) h = let e : suc n - 1 ≡ n = omega arith in ap (slice_get fault_kinds) e
