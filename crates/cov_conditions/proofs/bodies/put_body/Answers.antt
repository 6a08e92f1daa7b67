use Rattle.std.proofs.Common.{rules, arith, ◌≡◌, ◌≢◌, ◌≤◌, [], length, inr, refl, sym, ap, ◌∙◌, true, false}
use Rattle.std.specs.Prelude.{Some, slice_get}
use Rattle.cov_bits.specs.Layout.{sizes}
use Rattle.cov_bits.proofs.Formed.{formed_bits}
use Rattle.cov_model.specs.declared.model.Define.{Define}
use Rattle.cov_model.specs.declared.model.Model.{Model}
use Rattle.cov_model.specs.Flat.{depth}
use Rattle.cov_model.specs.Meaning.{allows}
use Rattle.cov_types.specs.Roots.{greatest_depth}
use Rattle.cov_space.specs.Sets.{SpaceOf}
use Rattle.cov_space.proofs.Calls.{call_leaves, err_exit, on_ok_map}
use Rattle.cov_nodes.specs.declared.reading.Reading.{Reading}
use Rattle.cov_nodes.specs.Choices.{PutsFamily}
use Rattle.cov_readings.specs.Single.{HasOneChoice}
use Rattle.cov_conditions.proofs.Choosing.{clears, family_cleared, family_here}
use Rattle.cov_conditions.proofs.Rooms.{body_listed, body_within}
use Rattle.cov_conditions.proofs.Standings.{nothing_more}
use Rattle.cov_conditions.proofs.bodies.put_body.Goals as goal

pub put_expr-requires-clause-room : goal.put_expr-requires-clause-room
put_expr-requires-clause-room c =
    let m : Model = c.args.scope.now.m.now in
    let d : Define = c.get.result.now in
    let at : slice_get m.defines c.args.i ≡ Some d = ap (λ (x : Model). slice_get x.defines c.args.i) (sym c.model-model.ensures.value) ∙ c.get.ensures in
    let shallow : depth d.body ≤ greatest_depth m = c.expressions_are_shallow.ensures.listed m c.args.i d.body (body_listed m c.args.i d at) in
    let within = body_within m (depth d.body) shallow in
    omega (arith, within, c.requires.room)

pub returns-in_err-put_expr-clause-err : goal.returns-in_err-put_expr-clause-err
returns-in_err-put_expr-clause-err c =
    err_exit c.from_residual.result c.in_err-put_expr.field-0.0 _ (search rules)
    (call_leaves c.args.sp.now c.args.sp.now _ [] c.in_err-put_expr.field-0.0 (nothing_more c.args.sp.now) c.in_err-put_expr.ensures.err)

pub returns-then-is_one-clause-ok : goal.returns-then-is_one-clause-ok
returns-then-is_one-clause-ok c = λ ys is.
    let m : Model = c.args.scope.now.m.now in
    let at : Reading = c.args.scope.now.at in
    let d : Define = c.get.result.now in
    let there : slice_get m.defines c.args.i ≡ Some d = ap (λ (x : Model). slice_get x.defines c.args.i) (sym c.model-model.ensures.value) ∙ c.get.ensures in
    let one : HasOneChoice m d.body = c.one_choice.ensures m c.requires.scope.formed d.body (inr (c.lists_stand.ensures.defines m c.args.i d there)) (c.conditions_are_single.ensures.defines m c.requires.scope.formed c.args.i d there) in
    let same : at.next ≡ at.present = c.if-is_one.ensures.0 refl in
    let p : PutsFamily c.args.sp.now c.put_expr.new.sp m at c.args.xs.now (allows d.body) = c.in_ok-put_expr.ensures.ok in
    record {
      set = p.set;
      puts = p.puts;
      is = family_here m c.args.i d one (c.defines_are_their_bodies.ensures m c.requires.scope.formed c.args.i d there) c.args.sp.now.levels at c.args.xs.now ys p.set same is p.is;
    }

pub returns-clause-ok : goal.returns-clause-ok
returns-clause-ok c = λ ys is.
    let m : Model = c.args.scope.now.m.now in
    let at : Reading = c.args.scope.now.at in
    let old : SpaceOf = c.args.sp.now in
    let d : Define = c.get.result.now in
    let there : slice_get m.defines c.args.i ≡ Some d = ap (λ (x : Model). slice_get x.defines c.args.i) (sym c.model-model.ensures.value) ∙ c.get.ensures in
    let one : HasOneChoice m d.body = c.one_choice.ensures m c.requires.scope.formed d.body (inr (c.lists_stand.ensures.defines m c.args.i d there)) (c.conditions_are_single.ensures.defines m c.requires.scope.formed c.args.i d there) in
    let other : at.next ≢ at.present = λ e. (let h : false ≡ true = c.if-is_one.ensures.1 e in cc) in
    let p : PutsFamily old c.put_expr.new.sp m at c.args.xs.now (allows d.body) = c.in_ok-put_expr.ensures.ok in
    let count : length old.sets ≡ c.sets-n.result = sym c.sets-n.ensures.count in
    on_ok_map c.clear.result _ _
    (λ puts. record {
      set = _;
      puts = puts;
      is = family_cleared m c.args.i d one (c.defines_are_their_bodies.ensures m c.requires.scope.formed c.args.i d there) c.layers_are_apart.ensures old.levels at c.args.xs.now ys p.set (formed_bits m c.requires.scope.formed).sized c.requires.scope.levels c.requires.present c.requires.next other is p.is;
    })
    (clears c.clear.result old c.put_expr.new.sp c.clear.new.sp c.sets-n.result c.args.scope.now.plan.now (sizes m.vars) at.next p.set count c.requires.scope.plan p.puts c.clear.ensures.ok)
