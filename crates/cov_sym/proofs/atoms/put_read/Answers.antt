use Rattle.std.proofs.Common.{◌∷◌, [], List, Bool, IfErr, rules, sym, ◌∙◌, ap, subst}
use Rattle.cov_model.specs.declared.model.Model.{Model}
use Rattle.cov_space.specs.declared.layer.Layer.TheVariants.{W, V}
use Rattle.cov_space.specs.Sets.{SpaceOf}
use Rattle.cov_space.specs.Operations.{intersection}
use Rattle.cov_space.specs.Steps.{with_more, Leaves}
use Rattle.cov_space.proofs.Calls.{call_leaves, err_exit, on_ok_map}
use Rattle.cov_image.proofs.Stacks.{puts_last}
use Rattle.cov_places.specs.Places.{typed_set}
use Rattle.cov_nodes.specs.Points.{at_layer}
use Rattle.cov_conditions.specs.Conditions.{condition_set}
use Rattle.cov_sym.specs.Pairs.{read_set}
use Rattle.cov_sym.proofs.Sets.{put_none}
use Rattle.cov_sym.proofs.Exchanging.{base_is}
use Rattle.cov_sym.proofs.Inverted.{read_is, typed_on}
use Rattle.cov_sym.proofs.atoms.put_read.Goals as goal

pub returns-clause-ok : goal.returns-clause-ok
returns-clause-ok c =
    let old : SpaceOf = c.args.sp.now in
    let m : Model = c.args.m.now in
    let e = c.args.e.now in
    let s1 : SpaceOf = c.put_reading.new.sp in
    let s2 : SpaceOf = c.meet_typed.new.sp in
    let n = c.sets-n.result in
    let x : List Bool = condition_set old.levels m (at_layer V c.args.flip) e in
    on_ok_map c.meet_typed.result _ _ (λ is. puts_last old s2 (read_set old.levels m c.args.flip e)
    (typed_on old s1 s2 c.args.plan.now n x (sym c.sets-n.ensures.count) c.in_ok-put_reading.ensures.ok.is is
    ∙ ap (λ ns. with_more old (intersection old.levels x (typed_set old.levels ns W) ∷ [])) c.requires.plan
    ∙ ap (λ (y : List Bool). with_more old (y ∷ [])) (read_is old.levels m c.args.flip e))) c.meet_typed.ensures.ok

pub returns-in_err-put_reading-clause-err : goal.returns-in_err-put_reading-clause-err
returns-in_err-put_reading-clause-err c =
    let old : SpaceOf = c.args.sp.now in
    err_exit c.from_residual.result c.in_err-put_reading.field-0.0 _ (search rules) (call_leaves old old c.put_reading.new.sp [] c.in_err-put_reading.field-0.0 (put_none old) c.in_err-put_reading.ensures.err)

pub returns-clause-err : goal.returns-clause-err
returns-clause-err c =
    let old : SpaceOf = c.args.sp.now in
    let x : List Bool = condition_set old.levels c.args.m.now (at_layer V c.args.flip) c.args.e.now in
    subst (λ (z : SpaceOf). IfErr c.meet_typed.result (λ f. Leaves z c.meet_typed.new.sp f)) (base_is old c.put_reading.new.sp (x ∷ []) c.sets-n.result (sym c.sets-n.ensures.count) c.in_ok-put_reading.ensures.ok.is) c.meet_typed.ensures.err
