use Rattle.std.proofs.Common.{◌≡◌, ◌≢◌, ℕ, suc, ◌+◌, ◌-◌, ◌/◌, ◌<◌, Bool, true, false, cond, ◌==◌, ap, ◌∙◌, arith}
use Rattle.std.proofs.lemmas.Bool.Decides.{nat_tests}
use Rattle.cov_model.specs.Types.{digits}
use Rattle.cov_types.proofs.bits.bits_of.Goals as goal

not_zero : (k : ℕ) → k ≢ 0 → (k == 0) ≡ false
not_zero k h = grind (arith, nat_tests)

one_digit : (n i k : ℕ) → i < n → k ≢ 0 → digits (n - i) k ≡ 1 + digits (n - (i + 1)) (k / 2)
one_digit n i k l h =
    let turns : n - i ≡ suc (n - (i + 1)) = omega arith in
    ap (λ (m : ℕ). digits m k) turns ∙ ap (λ (b : Bool). cond b 0 (1 + digits (n - (i + 1)) (k / 2))) (not_zero k h)

pub loop-preserved : goal.loop-preserved
loop-preserved c = record {
  whole = omega (arith, one_digit c.args.values c.loop.counter c.loop.last c.loop-test.true c.if-last-eq0.false, c.loop.invariant.whole);
  few = omega arith;
}
