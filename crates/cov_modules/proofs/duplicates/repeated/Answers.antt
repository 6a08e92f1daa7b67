use Rattle.std.proofs.Common.{◌∙◌, sym, get_or, refl}
use Rattle.cov_syntax.specs.declared.program.Spelled.{Spelled}
use Rattle.cov_modules.proofs.NameLemmas.{repeated-step}
use Rattle.cov_modules.proofs.duplicates.repeated.Goals as goal

pub loop-x-preserved : goal.loop-x-preserved
loop-x-preserved c =
    let none : Spelled = record { name = 0; place = record { start = 0; stop = 0 } } in
    repeated-step c.loop-x.before c.put.new.self c.args.names.now c.loop-x.x-index (get_or c.args.names.now c.loop-x.x-index none) none
    c.loop-x-test.true refl (sym c.has.ensures ∙ c.if-has.false) c.in_ok-put.ensures
    ∙ c.loop-x.invariant
