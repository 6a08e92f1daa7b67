use Rattle.std.proofs.Common.{◌≡◌, ℕ, zero, suc, ◌-◌, refl, ap, arith}
use Rattle.std.specs.Prelude.{slice_get}
use Rattle.cov_evid.specs.Faults.{fault_kinds, kind_numbered}
use Rattle.cov_evid.proofs.fault.EvidFaultKind.from_code.Goals as goal

-- the faults have the numbers from 1
from_one : (n : ℕ) → (n ≡ 0 → ⊥) → slice_get fault_kinds (n - 1) ≡ kind_numbered n
from_one zero f = absurd (f refl)
from_one (suc n) f = let same : suc n - 1 ≡ n = omega arith in ap (slice_get fault_kinds) same

pub returns-else-code-eq0 : goal.returns-else-code-eq0
returns-else-code-eq0 c = rw c.entry.ensures (from_one c.args.code c.if-code-eq0.false)
