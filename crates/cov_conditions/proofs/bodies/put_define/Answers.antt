use Rattle.std.proofs.Common.{arith, ◌≡◌, ◌≤◌, length, inr, refl, sym, ap, subst, ◌∙◌, List, true, false}
use Rattle.std.specs.Prelude.{Some, slice_get}
use Rattle.cov_syntax.specs.declared.tree.Value.{Value}
use Rattle.cov_model.specs.declared.model.Define.{Define}
use Rattle.cov_model.specs.declared.model.Model.{Model}
use Rattle.cov_model.specs.Kinds.{boolean, values_of}
use Rattle.cov_types.specs.Roots.{greatest_width}
use Rattle.cov_nodes.specs.declared.reading.Reading.{Reading}
use Rattle.cov_conditions.specs.Bodies.{PutsChunks, sets_at}
use Rattle.cov_conditions.proofs.Chunking.{chunks_put, truth_puts, values_room}
use Rattle.cov_conditions.proofs.bodies.put_define.Goals as goal

pub returns-then-are_truths-clause-ok : goal.returns-then-are_truths-clause-ok
returns-then-are_truths-clause-ok c =
    let m : Model = c.args.scope.now.m.now in
    let at : Reading = c.args.scope.now.at in
    let d : Define = c.get-d.result.now in
    let there : slice_get m.defines c.args.i ≡ Some d = ap (λ (x : Model). slice_get x.defines c.args.i) (sym c.model.ensures.value) ∙ c.get-d.ensures in
    let truths : c.in-Ok.values ≡ values_of boolean = sym c.as_slice.ensures ∙ c.if-are_truths.ensures.0 refl in
    truth_puts c.args.sp.now c.put_truth.new.sp m at.present at.flip c.args.i d there
    (λ t typed. c.defines_are_listed.ensures m c.requires.scope.formed c.args.i d there t at.flip typed)
    c.sets-slot.result (sym c.sets-slot.ensures.count) (sym c.in-Ok.ensures.listed ∙ truths) c.in_ok-put_truth.ensures.ok

pub put_chunks-requires-clause-narrow : goal.put_chunks-requires-clause-narrow
put_chunks-requires-clause-narrow c =
    let m : Model = c.args.scope.now.m.now in
    let d : Define = c.get-d.result.now in
    let there : slice_get m.defines c.args.i ≡ Some d = ap (λ (x : Model). slice_get x.defines c.args.i) (sym c.model.ensures.value) ∙ c.get-d.ensures in
    subst (λ (xs : List Value). length xs ≤ greatest_width m) (sym (c.as_slice-2.ensures ∙ c.in-Ok.ensures.listed))
    (c.ranges_are_narrow.ensures m c.requires.scope.formed d.body (inr (c.lists_stand.ensures.defines m c.args.i d there)))

pub put_chunks-requires-clause-room : goal.put_chunks-requires-clause-room
put_chunks-requires-clause-room c =
    let m : Model = c.args.scope.now.m.now in
    let d : Define = c.get-d.result.now in
    let there : slice_get m.defines c.args.i ≡ Some d = ap (λ (x : Model). slice_get x.defines c.args.i) (sym c.model.ensures.value) ∙ c.get-d.ensures in
    let room : length c.as_slice-2.result.now ≤ sets_at m c.args.i =
    values_room m c.args.i d c.as_slice-2.result.now there (c.as_slice-2.ensures ∙ c.in-Ok.ensures.listed) (λ e. (let h : false ≡ true = c.if-are_truths.ensures.1 (c.as_slice.ensures ∙ sym c.as_slice-2.ensures ∙ e) in cc)) in
    omega (arith, room, c.requires.room)

pub returns-clause-ok : goal.returns-clause-ok
returns-clause-ok c =
    let m : Model = c.args.scope.now.m.now in
    let at : Reading = c.args.scope.now.at in
    let d : Define = c.get-d.result.now in
    let there : slice_get m.defines c.args.i ≡ Some d = ap (λ (x : Model). slice_get x.defines c.args.i) (sym c.model.ensures.value) ∙ c.get-d.ensures in
    let same : c.as_slice-2.result.now ≡ c.in-Ok.values = c.as_slice-2.ensures in
    let room : length c.as_slice-2.result.now ≤ sets_at m c.args.i =
    values_room m c.args.i d c.as_slice-2.result.now there (c.as_slice-2.ensures ∙ c.in-Ok.ensures.listed) (λ e. (let h : false ≡ true = c.if-are_truths.ensures.1 (c.as_slice.ensures ∙ sym c.as_slice-2.ensures ∙ e) in cc)) in
    chunks_put c.args.sp.now c.put_chunks.new.sp m at.present at.flip c.args.i d there
    (λ t typed. c.defines_are_listed.ensures m c.requires.scope.formed c.args.i d there t at.flip typed)
    c.sets-slot.result c.in-Ok.values (sym c.sets-slot.ensures.count) c.in-Ok.ensures.listed c.in-Ok.ensures.few c.in-Ok.ensures.once
    (subst (λ (xs : List Value). length xs ≤ sets_at m c.args.i) same room)
    (subst (λ (xs : List Value). PutsChunks c.args.sp.now c.put_chunks.new.sp m at.present at.flip c.args.i xs) same c.in_ok-put_chunks.ensures.ok)
