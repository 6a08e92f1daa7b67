use Rattle.std.proofs.Common.{OnOk, arith}
use Rattle.std.proofs.lemmas.Grind.{common_steps}
use Rattle.cov_space.specs.Sets.{set_at}
use Rattle.cov_space.specs.Operations.{projection}
use Rattle.cov_space.specs.Answers.{PutsSet}
use Rattle.cov_space.proofs.Quantified.{exact_last}
use Rattle.cov_space.proofs.space.Space.exists.Goals as goal

pub returns-clause-exact : goal.returns-clause-exact
returns-clause-exact c =
    let put : OnOk c.quantify.result (PutsSet c.args.self.now c.quantify.new.space (projection c.args.self.now.levels c.args.levels.now (set_at c.args.self.now.sets c.args.a))) = grind (arith, common_steps) in
    exact_last c.quantify.result c.args.self.now c.quantify.new.space c.args.levels.now (set_at c.args.self.now.sets c.args.a) c.requires.levels put
