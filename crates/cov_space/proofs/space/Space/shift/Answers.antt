use Rattle.std.proofs.Common.{◌≡◌, ℕ, ◌%◌, OnOk, arith, rules, subst}
use Rattle.std.proofs.lemmas.Grind.{common_steps}
use Rattle.cov_space.specs.Sets.{set_at}
use Rattle.cov_space.specs.Layers.{shift_set}
use Rattle.cov_space.specs.Answers.{PutsSet}
use Rattle.cov_space.proofs.Shifted.{exact_last}
use Rattle.cov_space.proofs.space.Space.shift.Goals as goal

pub returns-clause-exact : goal.returns-clause-exact
returns-clause-exact c =
    let put : OnOk c.shift_bits.result (PutsSet c.args.self.now c.shift_bits.new.space (shift_set c.args.self.now.levels c.args.from c.args.to (set_at c.args.self.now.sets c.args.a))) = grind (arith, common_steps) in
    let copied : c.copy.new.self.levels ≡ c.args.self.now.levels = search rules in
    let thirds : c.args.self.now.levels % 3 ≡ 0 = subst (λ (k : ℕ). k % 3 ≡ 0) copied c.shift_bits.ensures.thirds in
    exact_last c.shift_bits.result c.args.self.now c.shift_bits.new.space c.args.from c.args.to (set_at c.args.self.now.sets c.args.a) thirds put
