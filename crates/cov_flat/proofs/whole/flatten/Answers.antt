use Rattle.std.proofs.Common.{◌≡◌, ◌∙◌, sym, ap, subst, None, Ok, Result}
use Rattle.cov_syntax.specs.declared.fault.ModelFault.{ModelFault}
use Rattle.cov_syntax.specs.declared.program.Program.{Program}
use Rattle.cov_model.specs.declared.model.Model.{Model}
use Rattle.cov_model.specs.Flat.{IsFlat}
use Rattle.cov_modules.specs.NameFaults.{unknown_name, double_assign}
use Rattle.cov_flat.proofs.FaultLemmas.{no_fault, flat_is}
use Rattle.cov_flat.proofs.whole.flatten.Goals as goal

pub returns-clause-ok : goal.returns-clause-ok
returns-clause-ok c =
    let p : Program = c.args.p in
    let known : unknown_name p ≡ None = sym c.unknown_name.ensures ∙ c.in_ok-refuse.ensures.none in
    let single : double_assign p ≡ None = sym c.in_ok-double_assign.ensures ∙ c.in_ok-refuse-2.ensures.none in
    let answer : Model → Result Model ModelFault = λ (m : Model). Ok m in
    flat_is p c.in_ok-check_modules.ensures.ok known single ∙ ap answer (sym c.in_ok-model.ensures)

pub returns-clause-flat : goal.returns-clause-flat
returns-clause-flat c =
    let p : Program = c.args.p in
    let known : unknown_name p ≡ None = sym c.unknown_name.ensures ∙ c.in_ok-refuse.ensures.none in
    let single : double_assign p ≡ None = sym c.in_ok-double_assign.ensures ∙ c.in_ok-refuse-2.ensures.none in
    subst IsFlat (sym c.in_ok-model.ensures) (c.flat_is_flat.ensures p c.requires c.are_distinct.ensures (no_fault p c.in_ok-check_modules.ensures.ok known single))
