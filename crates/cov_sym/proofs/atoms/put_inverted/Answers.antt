use Rattle.std.proofs.Common.{◌≡◌, ◌∷◌, [], List, Bool, ℕ, Option, Some, None, IfErr, length, rules, sym, ◌∙◌, ap, subst}
use Rattle.cov_syntax.specs.declared.tree.Expr.{Expr}
use Rattle.cov_model.specs.declared.model.Model.{Model}
use Rattle.cov_model.specs.declared.model.Signal.{Signal}
use Rattle.cov_space.specs.declared.layer.Layer.TheVariants.{W, V}
use Rattle.cov_space.specs.Answers.{PutsSet}
use Rattle.cov_space.specs.Sets.{SpaceOf}
use Rattle.cov_space.specs.Operations.{intersection}
use Rattle.cov_space.specs.Steps.{with_more, Leaves}
use Rattle.cov_space.proofs.Calls.{call_leaves, err_exit, leaves_behind, on_ok_map, push_behind}
use Rattle.cov_image.proofs.Stacks.{puts_last}
use Rattle.cov_fair.proofs.Calls.{same_levels}
use Rattle.cov_places.specs.Places.{typed_set}
use Rattle.cov_nodes.specs.Points.{at_layer}
use Rattle.cov_conditions.specs.Conditions.{condition_set}
use Rattle.cov_sym.specs.Pairs.{chosen_set, differing_set}
use Rattle.cov_sym.specs.Systems.{atom_set}
use Rattle.cov_sym.proofs.Sets.{put_none}
use Rattle.cov_sym.proofs.Exchanging.{base_is}
use Rattle.cov_sym.proofs.Inverted.{atom_is, chosen_on, typed_on}
use Rattle.cov_sym.proofs.atoms.put_inverted.Goals as goal

-- the two readings
two : (old s1 s2 : SpaceOf) (m : Model) (e : Expr) (signal : Option Signal) → s1 ≡ with_more old (condition_set old.levels m (at_layer V None) e ∷ []) → PutsSet s1 s2 (condition_set s1.levels m (at_layer V signal) e)
    → s2 ≡ with_more old (condition_set old.levels m (at_layer V None) e ∷ condition_set old.levels m (at_layer V signal) e ∷ [])
two old s1 s2 m e signal is puts =
    let x : List Bool = condition_set old.levels m (at_layer V None) e in
    push_behind old s1 s2 (x ∷ []) _ is puts ∙ ap (λ k. with_more old (x ∷ condition_set k m (at_layer V signal) e ∷ [])) (same_levels old s1 (x ∷ []) is)

-- and the pairs of different states
three : (old s2 s3 : SpaceOf) (ns : List ℕ) (x y : List Bool) → s2 ≡ with_more old (x ∷ y ∷ []) → PutsSet s2 s3 (differing_set s2.levels ns) → s3 ≡ with_more old (x ∷ y ∷ differing_set old.levels ns ∷ [])
three old s2 s3 ns x y is puts = push_behind old s2 s3 (x ∷ y ∷ []) _ is puts ∙ ap (λ k. with_more old (x ∷ y ∷ differing_set k ns ∷ [])) (same_levels old s2 (x ∷ y ∷ []) is)

pub returns-in_err-put_reading-clause-err : goal.returns-in_err-put_reading-clause-err
returns-in_err-put_reading-clause-err c =
    let old : SpaceOf = c.args.sp.now in
    err_exit c.from_residual.result c.in_err-put_reading.field-0.0 _ (search rules) (call_leaves old old c.put_reading.new.sp [] c.in_err-put_reading.field-0.0 (put_none old) c.in_err-put_reading.ensures.err)

pub returns-in_err-put_reading-2-clause-err : goal.returns-in_err-put_reading-2-clause-err
returns-in_err-put_reading-2-clause-err c =
    let old : SpaceOf = c.args.sp.now in
    let x : List Bool = condition_set old.levels c.args.m.now (at_layer V None) c.args.e.now in
    err_exit c.from_residual-in_err-put_reading-2.result c.in_err-put_reading-2.field-0.0 _ (search rules)
    (call_leaves old c.put_reading.new.sp c.put_reading-2.new.sp (x ∷ []) c.in_err-put_reading-2.field-0.0 c.in_ok-put_reading.ensures.ok.is c.in_err-put_reading-2.ensures.err)

pub returns-in_err-put_differing-clause-err : goal.returns-in_err-put_differing-clause-err
returns-in_err-put_differing-clause-err c =
    let old : SpaceOf = c.args.sp.now in
    let m : Model = c.args.m.now in
    let e = c.args.e.now in
    let signal : Option Signal = Some c.args.signal in
    let s2 : SpaceOf = c.put_reading-2.new.sp in
    err_exit c.from_residual-in_err-put_differing.result c.in_err-put_differing.field-0.0 _ (search rules)
    (leaves_behind old s2 c.put_differing.new.sp (condition_set old.levels m (at_layer V None) e ∷ condition_set old.levels m (at_layer V signal) e ∷ []) c.in_err-put_differing.field-0.0
    (two old c.put_reading.new.sp s2 m e signal c.in_ok-put_reading.ensures.ok.is c.in_ok-put_reading-2.ensures.ok) c.in_err-put_differing.ensures.err)

pub returns-in_err-choose-clause-err : goal.returns-in_err-choose-clause-err
returns-in_err-choose-clause-err c =
    let old : SpaceOf = c.args.sp.now in
    let m : Model = c.args.m.now in
    let e = c.args.e.now in
    let signal : Option Signal = Some c.args.signal in
    let s2 : SpaceOf = c.put_reading-2.new.sp in
    let s3 : SpaceOf = c.put_differing.new.sp in
    let ns : List ℕ = c.args.plan.now in
    let x : List Bool = condition_set old.levels m (at_layer V None) e in
    let y : List Bool = condition_set old.levels m (at_layer V signal) e in
    let is2 : s2 ≡ with_more old (x ∷ y ∷ []) = two old c.put_reading.new.sp s2 m e signal c.in_ok-put_reading.ensures.ok.is c.in_ok-put_reading-2.ensures.ok in
    let is3 : s3 ≡ with_more old (x ∷ y ∷ differing_set old.levels ns ∷ []) = three old s2 s3 ns x y is2 c.in_ok-put_differing.ensures.ok in
    err_exit c.from_residual-in_err-choose.result c.in_err-choose.field-0.0 _ (search rules)
    (subst (λ (z : SpaceOf). Leaves z c.choose.new.sp c.in_err-choose.field-0.0) (base_is old s3 (x ∷ y ∷ differing_set old.levels ns ∷ []) c.sets-n.result (sym c.sets-n.ensures.count) is3) c.in_err-choose.ensures.err)

pub returns-clause-ok : goal.returns-clause-ok
returns-clause-ok c =
    let old : SpaceOf = c.args.sp.now in
    let m : Model = c.args.m.now in
    let e = c.args.e.now in
    let signal : Option Signal = Some c.args.signal in
    let s2 : SpaceOf = c.put_reading-2.new.sp in
    let s3 : SpaceOf = c.put_differing.new.sp in
    let s4 : SpaceOf = c.choose.new.sp in
    let n = c.sets-n.result in
    let ns : List ℕ = c.args.plan.now in
    let x : List Bool = condition_set old.levels m (at_layer V None) e in
    let y : List Bool = condition_set old.levels m (at_layer V signal) e in
    let d : List Bool = differing_set old.levels ns in
    let count : length old.sets ≡ n = sym c.sets-n.ensures.count in
    let is2 : s2 ≡ with_more old (x ∷ y ∷ []) = two old c.put_reading.new.sp s2 m e signal c.in_ok-put_reading.ensures.ok.is c.in_ok-put_reading-2.ensures.ok in
    let is3 : s3 ≡ with_more old (x ∷ y ∷ d ∷ []) = three old s2 s3 ns x y is2 c.in_ok-put_differing.ensures.ok in
    let is4 : s4 ≡ with_more old (chosen_set old.levels x y d ∷ []) = chosen_on old s3 s4 n x y d count is3 c.in_ok-choose.ensures.ok in
    on_ok_map c.meet_typed.result _ _ (λ is. puts_last old c.meet_typed.new.sp (atom_set old.levels m signal e)
    (typed_on old s4 c.meet_typed.new.sp ns n (chosen_set old.levels x y d) count is4 is
    ∙ ap (λ (l : List ℕ). with_more old (intersection old.levels (chosen_set old.levels x y (differing_set old.levels l)) (typed_set old.levels l W) ∷ [])) c.requires.plan
    ∙ ap (λ (z : List Bool). with_more old (z ∷ [])) (atom_is old.levels m signal e))) c.meet_typed.ensures.ok

pub returns-clause-err : goal.returns-clause-err
returns-clause-err c =
    let old : SpaceOf = c.args.sp.now in
    let m : Model = c.args.m.now in
    let e = c.args.e.now in
    let signal : Option Signal = Some c.args.signal in
    let s2 : SpaceOf = c.put_reading-2.new.sp in
    let s3 : SpaceOf = c.put_differing.new.sp in
    let s4 : SpaceOf = c.choose.new.sp in
    let n = c.sets-n.result in
    let ns : List ℕ = c.args.plan.now in
    let x : List Bool = condition_set old.levels m (at_layer V None) e in
    let y : List Bool = condition_set old.levels m (at_layer V signal) e in
    let d : List Bool = differing_set old.levels ns in
    let count : length old.sets ≡ n = sym c.sets-n.ensures.count in
    let is2 : s2 ≡ with_more old (x ∷ y ∷ []) = two old c.put_reading.new.sp s2 m e signal c.in_ok-put_reading.ensures.ok.is c.in_ok-put_reading-2.ensures.ok in
    let is4 : s4 ≡ with_more old (chosen_set old.levels x y d ∷ []) = chosen_on old s3 s4 n x y d count (three old s2 s3 ns x y is2 c.in_ok-put_differing.ensures.ok) c.in_ok-choose.ensures.ok in
    subst (λ (z : SpaceOf). IfErr c.meet_typed.result (λ f. Leaves z c.meet_typed.new.sp f)) (base_is old s4 (chosen_set old.levels x y d ∷ []) n count is4) c.meet_typed.ensures.err
