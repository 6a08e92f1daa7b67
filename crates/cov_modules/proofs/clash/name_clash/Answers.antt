use Rattle.std.proofs.Common.{◌∙◌, sym, rules}
use Rattle.cov_modules.specs.ModuleFaults.{name_clash}
use Rattle.cov_modules.proofs.FirstLemmas.{first-hit, first-miss}
use Rattle.cov_modules.proofs.clash.name_clash.Goals as goal

pub returns-in-Some : goal.returns-in-Some
returns-in-Some c =
    sym (first-hit name_clash c.args.p.now.modules c.loop-m.m-index c.m-item.result c.in-Some.place (search rules) (search rules) (sym c.in_ok-place.ensures ∙ c.in-Some.is))
    ∙ c.loop-m.invariant

pub loop-m-preserved : goal.loop-m-preserved
loop-m-preserved c =
    first-miss name_clash c.args.p.now.modules c.loop-m.m-index c.m-item.result (search rules) (search rules) (sym c.in_ok-place.ensures ∙ c.in_default.is)
    ∙ c.loop-m.invariant
