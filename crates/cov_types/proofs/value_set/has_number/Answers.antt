use Rattle.std.proofs.Common.{◌≡◌, ◌∙◌, ap, arith, ℤ, to_z, of_z, w32}
use Rattle.std.proofs.lemmas.Int.{ints}
use Rattle.cov_types.specs.ValueSets.{has_number}
use Rattle.cov_types.proofs.value_set.has_number.Goals as goal

pub returns : goal.returns
returns c =
    let same : to_z w32 (of_z w32 c.args.n) ≡ c.args.n = omega (arith, ints) in
    c.contains.ensures ∙ ap (λ (n : ℤ). has_number c.args.numbers.now.keys n) same
