-- Where a formula has an occurrence.
use Rattle.std.proofs.Common.{◌≡◌, ℕ, Option, Some, None, IsSome, refl}
use Rattle.cov_logic.specs.Formula.{Formula}
use Rattle.cov_logic.specs.Occurrence.{IsOccurrence, occurrence}
use Rattle.cov_logic.proofs.Nodes.{nodes_law}

module _ {A : Type 0} where
  pub occurs : (f y : Formula A) (n : ℕ) → occurrence f n ≡ Some y → IsOccurrence f n
  occurs f y n e = ((nodes_law A).there f n).0 (rw e refl)

  nothing : (o : Option (Formula A)) → ¬ IsSome o → o ≡ None
  nothing None h = refl
  nothing (Some x) h = absurd (h refl)

  pub occurs_not : (f : Formula A) (n : ℕ) → ¬ IsOccurrence f n → occurrence f n ≡ None
  occurs_not f n h = nothing (occurrence f n) (λ s. h (((nodes_law A).there f n).0 s))
