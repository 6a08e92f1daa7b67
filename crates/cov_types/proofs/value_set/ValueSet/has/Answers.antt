use Rattle.std.proofs.Common.{◌≡◌, ◌∙◌, ap, sym, arith, ℤ, to_z, of_z, w32}
use Rattle.std.proofs.lemmas.Int.{ints}
use Rattle.cov_syntax.specs.declared.tree.Value.{Value}
use Rattle.cov_types.specs.ValueSets.{has_number, holds}
use Rattle.cov_types.proofs.value_set.ValueSet.has.Goals as goal

pub returns-in-Int : goal.returns-in-Int
returns-in-Int c =
    let same : to_z w32 (of_z w32 c.in-Int.n) ≡ c.in-Int.n = omega (arith, ints) in
    c.has_number.ensures
    ∙ ap (λ (n : ℤ). has_number c.args.self.now.numbers.keys n) same
    ∙ sym (ap (λ (x : Value). holds c.args.self.now x) c.in-Int.is)
