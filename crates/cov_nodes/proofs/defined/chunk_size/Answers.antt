use Rattle.std.proofs.Common.{◌≡◌, ℕ, ◌/◌, ◌*◌, ◌%◌, ◌^◌, ◌≤◌, ◌∙◌, ap, arith}
use Rattle.std.specs.Prelude.{min}
use Rattle.std.proofs.Math.Pow.{pow_mono}
use Rattle.cov_nodes.specs.Standing as spec
use Rattle.cov_nodes.proofs.defined.chunk_size.Goals as goal

-- the number of bits, as the definition has it
thirds : (levels b : ℕ) → b ≡ levels / 3 → min (2 ^ b) 1024 ≡ spec.chunk_size levels
thirds levels b is = ap (λ (k : ℕ). min (2 ^ k) 1024) is

few : (b : ℕ) → b ≤ 9 → 1 * 2 ^ b % 65536 ≡ min (2 ^ b) 1024
few b le =
    let small : 2 ^ b ≤ 2 ^ 9 = pow_mono {i = b} {j = 9} le in
    omega arith

many : (b : ℕ) → 10 ≤ b → 1024 ≡ min (2 ^ b) 1024
many b le =
    let large : 2 ^ 10 ≤ 2 ^ b = pow_mono {i = 10} {j = b} le in
    omega arith

pub returns-then-bits-lt10 : goal.returns-then-bits-lt10
returns-then-bits-lt10 c = few _ (omega arith) ∙ thirds _ _ (ap (λ (k : ℕ). k / 3) c.levels-bits.ensures.levels)

pub returns-else-bits-lt10 : goal.returns-else-bits-lt10
returns-else-bits-lt10 c = many (c.levels-bits.result / 3) (omega arith) ∙ thirds _ _ (ap (λ (k : ℕ). k / 3) c.levels-bits.ensures.levels)
