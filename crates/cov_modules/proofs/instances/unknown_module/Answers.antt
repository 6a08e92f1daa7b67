use Rattle.std.proofs.Common.{◌∙◌, sym, rules}
use Rattle.cov_modules.specs.ModuleFaults.{unknown_module}
use Rattle.cov_modules.proofs.FirstLemmas.{first-hit, first-miss}
use Rattle.cov_modules.proofs.instances.unknown_module.Goals as goal

pub returns-in-Some : goal.returns-in-Some
returns-in-Some c =
    sym (first-hit (unknown_module c.args.p.now) c.args.p.now.modules c.loop-m.m-index c.m-item.result c.in-Some.place (search rules) (search rules) (sym c.in-Some.ensures))
    ∙ c.loop-m.invariant

pub loop-m-preserved : goal.loop-m-preserved
loop-m-preserved c =
    first-miss (unknown_module c.args.p.now) c.args.p.now.modules c.loop-m.m-index c.m-item.result (search rules) (search rules) (sym c.in_default.ensures)
    ∙ c.loop-m.invariant
