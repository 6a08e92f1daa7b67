use Rattle.std.proofs.Common.{◌&&◌, ◌==◌, ◌∷◌, [], List, Bool, refl, sym, ◌∙◌, ap, arith}
use Rattle.std.proofs.Math.Bool.{and-false, and-true}
use Rattle.cov_space.specs.Sets.{SpaceOf}
use Rattle.cov_space.proofs.Sets.{lies_values}
use Rattle.cov_space.proofs.Calls.{err_call}
use Rattle.cov_fields.specs.Fields.{held}
use Rattle.cov_fields.specs.Sets.{number_set}
use Rattle.cov_families.proofs.Gathering.{adds_none, adds_top}
use Rattle.cov_families.proofs.listed.add_pick.Goals as goal

pub returns-then-not-pick-clause-ok : goal.returns-then-not-pick-clause-ok
returns-then-not-pick-clause-ok c =
    adds_none c.args.sp.now c.args.place _ c.requires.place (c.sets-sets.ensures.proper c.args.place (omega arith)) (λ row.
    ap (λ b. held c.args.field row == c.args.k && b) c.if-not-pick.true ∙ and-false (held c.args.field row == c.args.k))

pub returns-clause-ok : goal.returns-clause-ok
returns-clause-ok c =
    let old : SpaceOf = c.args.sp.now in
    let number : List Bool = number_set old.levels c.args.field c.args.k in
    adds_top c.add_last.result old c.put_number.new.sp c.add_last.new.sp (number ∷ []) c.args.place 0 number _ c.in_ok-put_number.ensures.ok.is refl refl (omega arith) (λ row len.
    lies_values old.levels _ row len ∙ sym (and-true (held c.args.field row == c.args.k)) ∙ ap (λ b. held c.args.field row == c.args.k && b) (sym c.if-not-pick.false))
    c.add_last.ensures.ok

pub returns-clause-err : goal.returns-clause-err
returns-clause-err c =
    let old : SpaceOf = c.args.sp.now in
    err_call c.add_last.result old c.put_number.new.sp _ _ c.in_ok-put_number.ensures.ok.is c.add_last.ensures.err
