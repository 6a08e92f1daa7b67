use Rattle.std.proofs.Common.{◌∙◌, rules}
use Rattle.cov_modules.proofs.NameLemmas.{duplicate-step}
use Rattle.cov_modules.proofs.duplicates.duplicate_name.Goals as goal

pub loop-m-preserved : goal.loop-m-preserved
loop-m-preserved c =
    duplicate-step c.loop-m.before c.put.new.self c.args.p.now.modules c.loop-m.m-index c.m-item.result
    (search rules) (search rules) (search rules) (search rules) c.in_ok-put.ensures
    ∙ c.loop-m.invariant
