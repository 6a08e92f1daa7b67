use Rattle.std.proofs.Common.{◌∙◌, sym, refl, length, rules}
use Rattle.std.proofs.lemmas.Option.{slice_get_read}
use Rattle.cov_modules.specs.Modules.{is_main}
use Rattle.cov_modules.proofs.FirstLemmas.{find-hit}
use Rattle.cov_modules.proofs.main_module.main_place.Goals as goal

pub returns-then-is_main-clause-found : goal.returns-then-is_main-clause-found
returns-then-is_main-clause-found c =
    slice_get_read c.args.p.now.modules (length c.args.p.now.modules) c.loop-i.i c.m-item.result refl (search rules) (search rules)
    ∙ sym (find-hit (is_main c.args.p.now) c.args.p.now.modules c.loop-i.i c.m-item.result (search rules) (search rules) (sym c.if-is_main.ensures))
    ∙ c.loop-i.invariant
