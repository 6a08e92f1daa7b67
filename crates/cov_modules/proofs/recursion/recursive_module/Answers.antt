use Rattle.std.proofs.Common.{◌∙◌, sym, rules}
use Rattle.cov_modules.specs.ModuleFaults.{unknown_module, recursive_module}
use Rattle.cov_modules.proofs.FirstLemmas.{first-hit, first-miss, first-none-at}
use Rattle.cov_modules.proofs.recursion.recursive_module.Goals as goal

pub returns-in-Some : goal.returns-in-Some
returns-in-Some c =
    sym (first-hit (recursive_module c.args.p.now) c.args.p.now.modules c.loop-m.m-index c.m-item.result c.in-Some.place (search rules) (search rules) (sym c.in_ok-place.ensures ∙ c.in-Some.is))
    ∙ c.loop-m.invariant

pub loop-m-preserved : goal.loop-m-preserved
loop-m-preserved c =
    first-miss (recursive_module c.args.p.now) c.args.p.now.modules c.loop-m.m-index c.m-item.result (search rules) (search rules) (sym c.in_ok-place.ensures ∙ c.in_default.is)
    ∙ c.loop-m.invariant

pub recursive_in-requires-clause-here : goal.recursive_in-requires-clause-here
recursive_in-requires-clause-here c =
    first-none-at (unknown_module c.args.p.now) c.args.p.now.modules c.loop-m.m-index c.m-item.result (search rules) (search rules) c.requires.known
