use Rattle.std.proofs.Common.{rules, arith, ◌≡◌, ◌*◌, ◌<◌, ◌≤◌, ◌∙◌, ◌∷◌, [], length, List, Bool, ℕ, Some, sym, ap, subst}
use Rattle.std.specs.Prelude.{slice_get}
use Rattle.cov_syntax.specs.declared.tree.Value.{Value}
use Rattle.cov_bits.specs.Layout.{bits, sizes}
use Rattle.cov_model.specs.declared.model.Model.{Model}
use Rattle.cov_model.specs.declared.model.Var.{Var}
use Rattle.cov_model.specs.Meaning.{allows}
use Rattle.cov_types.specs.Roots.{greatest_width}
use Rattle.cov_space.specs.Sets.{SpaceOf, set_at}
use Rattle.cov_space.specs.Steps.{with_more}
use Rattle.cov_fields.specs.Fields.{IsField, field_of}
use Rattle.cov_families.specs.Families.{carried_set, index_of}
use Rattle.cov_nodes.specs.Choices.{IsChunk, IsFamily, PutsFamily}
use Rattle.cov_conditions.specs.Carried.{own_targets}
use Rattle.cov_conditions.specs.Fixed.{first_sets, typed_part}
use Rattle.cov_conditions.proofs.Carrying.{assignment_put, carried_alone, err_front, leaves_front}
use Rattle.cov_conditions.proofs.Concluding.{parted}
use Rattle.cov_conditions.proofs.Gathering.{err_exit}
use Rattle.cov_conditions.proofs.Variables.{sized, targets_few, targets_fit, variable_chunk, variable_narrow}
use Rattle.cov_conditions.proofs.condition.assignment_steps.Goals as goal

pub put_family-requires-clause-chunk : goal.put_family-requires-clause-chunk
put_family-requires-clause-chunk c =
    let m : Model = c.args.m.now in
    let x : Var = c.get.result.now in
    let there : slice_get m.vars c.args.a.now.var ≡ Some x = ap (λ (y : Model). slice_get y.vars c.args.a.now.var) (sym c.model-model.ensures.value) ∙ c.get.ensures in
    subst (IsChunk c.args.sp.now.levels) (sym c.as_slice-values.ensures)
    (variable_chunk m c.args.sp.now.levels c.args.a.now.var x c.model-model.ensures.formed there (c.requires.levels ∙ ap (λ (ns : List ℕ). 3 * bits ns) c.requires.plan))

pub put_family-requires-clause-narrow : goal.put_family-requires-clause-narrow
put_family-requires-clause-narrow c =
    let m : Model = c.args.m.now in
    let x : Var = c.get.result.now in
    let there : slice_get m.vars c.args.a.now.var ≡ Some x = ap (λ (y : Model). slice_get y.vars c.args.a.now.var) (sym c.model-model.ensures.value) ∙ c.get.ensures in
    subst (λ (xs : List Value). length xs ≤ greatest_width m) (sym c.as_slice-values.ensures) (variable_narrow m c.args.a.now.var x there)

pub overflow_cast-count : goal.overflow_cast-count
overflow_cast-count c =
    let m : Model = c.args.m.now in
    let x : Var = c.get.result.now in
    let there : slice_get m.vars c.args.a.now.var ≡ Some x = ap (λ (y : Model). slice_get y.vars c.args.a.now.var) (sym c.model-model.ensures.value) ∙ c.get.ensures in
    let few : length x.values ≤ 1024 = (sized m c.args.a.now.var x c.model-model.ensures.formed there).few in
    let e : length c.as_slice-values.result.now ≡ length x.values = ap (λ (xs : List Value). length xs) c.as_slice-values.ensures in
    omega arith

pub index_of-requires-clause-some : goal.index_of-requires-clause-some
index_of-requires-clause-some c =
    let m : Model = c.args.m.now in
    let x : Var = c.get.result.now in
    let there : slice_get m.vars c.args.a.now.var ≡ Some x = ap (λ (y : Model). slice_get y.vars c.args.a.now.var) (sym c.model-model.ensures.value) ∙ c.get.ensures in
    subst (λ (xs : List Value). 0 < length xs) (sym c.as_slice-values.ensures) (sized m c.args.a.now.var x c.model-model.ensures.formed there).some

pub index_of-requires-clause-few : goal.index_of-requires-clause-few
index_of-requires-clause-few c =
    let m : Model = c.args.m.now in
    let x : Var = c.get.result.now in
    let there : slice_get m.vars c.args.a.now.var ≡ Some x = ap (λ (y : Model). slice_get y.vars c.args.a.now.var) (sym c.model-model.ensures.value) ∙ c.get.ensures in
    subst (λ (xs : List Value). length xs ≤ 1024) (sym c.as_slice-values.ensures) (sized m c.args.a.now.var x c.model-model.ensures.formed there).few

pub put_carried-requires-clause-from : goal.put_carried-requires-clause-from
put_carried-requires-clause-from c =
    let m : Model = c.args.m.now in
    let x : Var = c.get.result.now in
    let there : slice_get m.vars c.args.a.now.var ≡ Some x = ap (λ (y : Model). slice_get y.vars c.args.a.now.var) (sym c.model-model.ensures.value) ∙ c.get.ensures in
    let levels : c.put_family.new.sp.levels ≡ c.args.sp.now.levels = ap (λ (z : SpaceOf). z.levels) c.in_ok-put_family.ensures.ok.puts.is in
    subst (IsField c.put_family.new.sp.levels) (sym (c.index_of.ensures ∙ ap (λ (xs : List Value). index_of (length xs)) c.as_slice-values.ensures))
    (variable_chunk m c.put_family.new.sp.levels c.args.a.now.var x c.model-model.ensures.formed there (levels ∙ c.requires.levels ∙ ap (λ (ns : List ℕ). 3 * bits ns) c.requires.plan)).fits

pub put_carried-requires-clause-few : goal.put_carried-requires-clause-few
put_carried-requires-clause-few c =
    let m : Model = c.args.m.now in
    let x : Var = c.get.result.now in
    let there : slice_get m.vars c.args.a.now.var ≡ Some x = ap (λ (y : Model). slice_get y.vars c.args.a.now.var) (sym c.model-model.ensures.value) ∙ c.get.ensures in
    targets_few (length c.as_slice-values.result.now) c.as_slice.result.now c.index_of.result
    (subst (λ (xs : List Value). 0 < length xs) (sym c.as_slice-values.ensures) (sized m c.args.a.now.var x c.model-model.ensures.formed there).some)
    (c.as_slice.ensures ∙ c.in-Ok.ensures) c.index_of.ensures

pub put_carried-requires-clause-fit : goal.put_carried-requires-clause-fit
put_carried-requires-clause-fit c =
    let m : Model = c.args.m.now in
    let x : Var = c.get.result.now in
    let there : slice_get m.vars c.args.a.now.var ≡ Some x = ap (λ (y : Model). slice_get y.vars c.args.a.now.var) (sym c.model-model.ensures.value) ∙ c.get.ensures in
    targets_fit m c.args.a.now.var x c.args.to (length c.as_slice-values.result.now) c.as_slice.result.now c.field_of.result (sized m c.args.a.now.var x c.model-model.ensures.formed there)
    (ap (λ (xs : List Value). length xs) c.as_slice-values.ensures) (c.as_slice.ensures ∙ c.in-Ok.ensures) (c.field_of.ensures.is ∙ ap (λ (ns : List ℕ). field_of ns c.args.a.now.var c.args.to) c.requires.plan)

pub returns-in_err-narrow_to_points-clause-err : goal.returns-in_err-narrow_to_points-clause-err
returns-in_err-narrow_to_points-clause-err c =
    let m : Model = c.args.m.now in
    let old : SpaceOf = c.args.sp.now in
    let n : ℕ = c.sets-n.result in
    let x : Var = c.get.result.now in
    let there : slice_get m.vars c.args.a.now.var ≡ Some x = ap (λ (y : Model). slice_get y.vars c.args.a.now.var) (sym c.model-model.ensures.value) ∙ c.get.ensures in
    let count : length old.sets ≡ n = sym c.sets-n.ensures.count in
    let p : PutsFamily old c.put_family.new.sp m c.args.at c.as_slice-values.result.now (allows c.args.a.now.body) = c.in_ok-put_family.ensures.ok in
    let carried : List Bool = carried_set old.levels (index_of (length x.values)) (field_of (sizes m.vars) c.args.a.now.var c.args.to) (own_targets (length x.values)) p.set in
    let alone : c.settle.new.self ≡ with_more old (carried ∷ []) =
    carried_alone old c.put_family.new.sp c.put_carried.new.sp c.settle.new.self n p.set c.index_of.result c.field_of.result _ _ c.as_slice.result.now _ count p.puts.is
    (c.index_of.ensures ∙ ap (λ (xs : List Value). index_of (length xs)) c.as_slice-values.ensures)
    (c.field_of.ensures.is ∙ ap (λ (ns : List ℕ). field_of ns c.args.a.now.var c.args.to) c.requires.plan)
    (c.as_slice.ensures ∙ c.in-Ok.ensures ∙ ap (λ (xs : List Value). own_targets (length xs)) c.as_slice-values.ensures)
    c.in_ok-put_carried.ensures.ok c.settle.ensures in
    err_exit c.from_residual-in_err-narrow_to_points.result c.in_err-narrow_to_points.field-0.0 _ (search rules)
    (leaves_front old c.settle.new.self _ n carried c.in_err-narrow_to_points.field-0.0 count alone c.in_err-narrow_to_points.ensures.err)

pub returns-clause-ok : goal.returns-clause-ok
returns-clause-ok c =
    let m : Model = c.args.m.now in
    let old : SpaceOf = c.args.sp.now in
    let n : ℕ = c.sets-n.result in
    let x : Var = c.get.result.now in
    let there : slice_get m.vars c.args.a.now.var ≡ Some x = ap (λ (y : Model). slice_get y.vars c.args.a.now.var) (sym c.model-model.ensures.value) ∙ c.get.ensures in
    let count : length old.sets ≡ n = sym c.sets-n.ensures.count in
    let p : PutsFamily old c.put_family.new.sp m c.args.at c.as_slice-values.result.now (allows c.args.a.now.body) = c.in_ok-put_family.ensures.ok in
    let carried : List Bool = carried_set old.levels (index_of (length x.values)) (field_of (sizes m.vars) c.args.a.now.var c.args.to) (own_targets (length x.values)) p.set in
    let alone : c.settle.new.self ≡ with_more old (carried ∷ []) =
    carried_alone old c.put_family.new.sp c.put_carried.new.sp c.settle.new.self n p.set c.index_of.result c.field_of.result _ _ c.as_slice.result.now _ count p.puts.is
    (c.index_of.ensures ∙ ap (λ (xs : List Value). index_of (length xs)) c.as_slice-values.ensures)
    (c.field_of.ensures.is ∙ ap (λ (ns : List ℕ). field_of ns c.args.a.now.var c.args.to) c.requires.plan)
    (c.as_slice.ensures ∙ c.in-Ok.ensures ∙ ap (λ (xs : List Value). own_targets (length xs)) c.as_slice-values.ensures)
    c.in_ok-put_carried.ensures.ok c.settle.ensures in
    let typed : c.narrow_to_points.new.sp ≡ with_more old (typed_part old.levels m c.args.at carried ∷ []) =
    parted old c.settle.new.self c.narrow_to_points.new.sp n m c.args.at carried count alone
    (subst (λ (y : Model). c.narrow_to_points.new.sp ≡ with_more (first_sets c.settle.new.self n) (typed_part c.settle.new.self.levels y c.args.at (set_at c.settle.new.self.sets n) ∷ [])) c.model-model.ensures.value c.in_ok-narrow_to_points.ensures.ok) in
    assignment_put c.narrow.result c.layers_are_apart.ensures old c.narrow_to_points.new.sp c.narrow.new.sp n m c.args.at c.args.to x c.args.a.now c.args.plan.now p.set there (sized m c.args.a.now.var x c.model-model.ensures.formed there)
    count c.requires.present c.requires.next c.requires.plan (variable_chunk m old.levels c.args.a.now.var x c.model-model.ensures.formed there (c.requires.levels ∙ ap (λ (ns : List ℕ). 3 * bits ns) c.requires.plan))
    (subst (λ (xs : List Value). IsFamily old.levels m c.args.at xs (allows c.args.a.now.body) p.set) c.as_slice-values.ensures p.is) typed c.narrow.ensures.ok

pub returns-clause-err : goal.returns-clause-err
returns-clause-err c =
    let m : Model = c.args.m.now in
    let old : SpaceOf = c.args.sp.now in
    let n : ℕ = c.sets-n.result in
    let x : Var = c.get.result.now in
    let there : slice_get m.vars c.args.a.now.var ≡ Some x = ap (λ (y : Model). slice_get y.vars c.args.a.now.var) (sym c.model-model.ensures.value) ∙ c.get.ensures in
    let count : length old.sets ≡ n = sym c.sets-n.ensures.count in
    let p : PutsFamily old c.put_family.new.sp m c.args.at c.as_slice-values.result.now (allows c.args.a.now.body) = c.in_ok-put_family.ensures.ok in
    let carried : List Bool = carried_set old.levels (index_of (length x.values)) (field_of (sizes m.vars) c.args.a.now.var c.args.to) (own_targets (length x.values)) p.set in
    let alone : c.settle.new.self ≡ with_more old (carried ∷ []) =
    carried_alone old c.put_family.new.sp c.put_carried.new.sp c.settle.new.self n p.set c.index_of.result c.field_of.result _ _ c.as_slice.result.now _ count p.puts.is
    (c.index_of.ensures ∙ ap (λ (xs : List Value). index_of (length xs)) c.as_slice-values.ensures)
    (c.field_of.ensures.is ∙ ap (λ (ns : List ℕ). field_of ns c.args.a.now.var c.args.to) c.requires.plan)
    (c.as_slice.ensures ∙ c.in-Ok.ensures ∙ ap (λ (xs : List Value). own_targets (length xs)) c.as_slice-values.ensures)
    c.in_ok-put_carried.ensures.ok c.settle.ensures in
    let typed : c.narrow_to_points.new.sp ≡ with_more old (typed_part old.levels m c.args.at carried ∷ []) =
    parted old c.settle.new.self c.narrow_to_points.new.sp n m c.args.at carried count alone
    (subst (λ (y : Model). c.narrow_to_points.new.sp ≡ with_more (first_sets c.settle.new.self n) (typed_part c.settle.new.self.levels y c.args.at (set_at c.settle.new.self.sets n) ∷ [])) c.model-model.ensures.value c.in_ok-narrow_to_points.ensures.ok) in
    err_front c.narrow.result old c.narrow_to_points.new.sp _ n (typed_part old.levels m c.args.at carried) count typed c.narrow.ensures.err
