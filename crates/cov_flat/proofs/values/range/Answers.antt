use Rattle.std.proofs.Common.{◌≡◌, ◌∙◌, ap, sym, ◌+◌, ◌-◌, ◌<◌, ◌++◌, ◌∷◌, [], List, length, arith, append-nil, length-append, to_z, of_z, w32, w64}
use Rattle.std.specs.Prelude.{ℤ, pos, ◌+ℤ◌, ◌≤ℤ◌}
use Rattle.std.proofs.lemmas.Int.{ints}
use Rattle.cov_syntax.specs.declared.tree.Value.{Value}
use Rattle.cov_syntax.specs.declared.tree.Value.TheVariants as v
use Rattle.cov_flat.specs.Entries.{range_from}
use Rattle.cov_flat.proofs.RangeLemmas.{range-kept, range-done, range-full}
use Rattle.cov_flat.proofs.values.range.Goals as goal
use Rattle.cov_flat.proofs.values.range.Goals.{then-loop-next-test+else-len-lt-LISTED, else-loop-next-test}

pub loop-next-preserved : goal.loop-next-preserved
loop-next-preserved c =
    let next : ℤ = to_z w64 c.loop-next.next-bits in
    let next' : ℤ = to_z w64 (of_z w64 (to_z w64 c.loop-next.next-bits +ℤ pos 1)) in
    let low : ℤ = to_z w32 (of_z w32 c.args.low) in
    let high : ℤ = to_z w32 (of_z w32 c.args.high) in
    let inside : next ≤ℤ high = grind (arith, ints) in
    let after : next' ≡ next +ℤ pos 1 = omega (arith, ints) in
    let fits : to_z w32 (of_z w32 next) ≡ next = omega (arith, ints) in
    let few : length c.loop-next.values < 1025 = omega arith in
    let put : c.push.new.self ≡ c.loop-next.values ++ v.Int (to_z w32 (of_z w32 next)) ∷ [] = c.in_ok-push.ensures.ok in
    let put' : c.push.new.self ≡ c.loop-next.values ++ v.Int next ∷ [] = put ∙ ap (λ (z : ℤ). c.loop-next.values ++ v.Int z ∷ []) fits in
    let size : length c.push.new.self ≡ length c.loop-next.values + 1 = ap length put ∙ length-append c.loop-next.values (v.Int (to_z w32 (of_z w32 next)) ∷ []) in (
      omega (arith, ints),
      omega arith,
      range-kept next next' high c.loop-next.values c.push.new.self (range_from low high 1025) after inside few put' c.loop-next.invariant.2,
    )

pub returns : goal.returns
returns c =
    let next : ℤ = to_z w64 c.loop-next.next-bits in
    let low : ℤ = to_z w32 (of_z w32 c.args.low) in
    let high : ℤ = to_z w32 (of_z w32 c.args.high) in
    let is_low : low ≡ c.args.low = omega (arith, ints) in
    let is_high : high ≡ c.args.high = omega (arith, ints) in
    let whole : range_from low high 1025 ≡ range_from c.args.low c.args.high 1025 = ap (λ (z : ℤ). range_from z high 1025) is_low ∙ ap (λ (z : ℤ). range_from c.args.low z 1025) is_high in
    let rest : range_from next high (1025 - length c.loop-next.values) ≡ [] = elim c.loop-next-test.branch [
      | then-loop-next-test+else-len-lt-LISTED w ↦ let none : 1025 - length c.loop-next.values ≡ 0 = omega arith in ap (range_from next high) none ∙ range-full next high
      | else-loop-next-test w ↦ range-done next high (1025 - length c.loop-next.values) (grind (arith, ints))
    ] in
    sym (append-nil c.loop-next.values) ∙ ap (λ (vs : List Value). c.loop-next.values ++ vs) (sym rest) ∙ c.loop-next.invariant.2 ∙ whole
