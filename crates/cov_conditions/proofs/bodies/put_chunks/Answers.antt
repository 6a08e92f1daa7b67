use Rattle.std.proofs.Common.{rules, arith, ◌≡◌, ◌+◌, ◌*◌, ◌≤◌, ◌<◌, length, map, sym, ap, subst, List, Bool}
use Rattle.cov_syntax.specs.declared.tree.Value.{Value}
use Rattle.cov_model.specs.declared.model.Model.{Model}
use Rattle.cov_space.specs.Sets.{SpaceOf}
use Rattle.cov_space.proofs.Calls.{err_exit, leaves_behind}
use Rattle.cov_nodes.specs.declared.reading.Reading.{Reading}
use Rattle.cov_nodes.specs.Choices.{IsChunk}
use Rattle.cov_nodes.specs.Standing.{chunk, chunk_size}
use Rattle.cov_nodes.proofs.Chunking.{some_size}
use Rattle.cov_conditions.specs.Asked.{asked, inverts}
use Rattle.cov_conditions.proofs.Chunking.{Chunks, asked_is, chunk_asked, chunks_all, chunks_turn, number_below, scope_more}
use Rattle.cov_conditions.proofs.bodies.put_chunks.Goals as goal

pub put_body-requires-clause-scope : goal.put_body-requires-clause-scope
put_body-requires-clause-scope c = scope_more c.args.sp.now c.loop-k.sp c.loop-k.invariant.more c.args.scope.now c.loop-k.invariant.is c.requires.scope

pub put_body-requires-clause-chunk : goal.put_body-requires-clause-chunk
put_body-requires-clause-chunk c =
    let old : SpaceOf = c.args.sp.now in
    let xs : List Value = c.args.values.now in
    let b : Bool = inverts c.args.scope.now.at.flip c.args.i in
    let asked : c.as_slice.result.now ≡ map (asked b) (chunk (chunk_size old.levels) xs c.loop-k.k) =
    asked_is c.args.sp.now.levels c.chunk_size-size.result c.loop-k.k c.min-stop.result c.is_inverted-inverted.result (inverts c.args.scope.now.at.flip c.args.i) c.args.values.now c.in-Ok.asked c.as_slice.result.now
    c.chunk_size-size.ensures c.is_inverted-inverted.ensures c.min-stop.ensures c.loop-k-test.true c.in-Ok.ensures c.as_slice.ensures in
    let lt : c.loop-k.k * chunk_size old.levels < length xs = subst (λ n. c.loop-k.k * n < length xs) c.chunk_size-size.ensures c.loop-k-test.true in
    subst (λ n. IsChunk n c.as_slice.result.now) (sym c.loop-k.invariant.levels) (subst (IsChunk old.levels) (sym asked) (chunk_asked old.levels c.loop-k.k b xs lt c.requires.once))

pub returns-in_err-put_body-clause-err : goal.returns-in_err-put_body-clause-err
returns-in_err-put_body-clause-err c =
    err_exit c.from_residual.result c.in_err-put_body.field-0.0 _ (search rules)
    (leaves_behind c.args.sp.now c.loop-k.sp _ c.loop-k.invariant.more c.in_err-put_body.field-0.0 c.loop-k.invariant.is c.in_err-put_body.ensures.err)

pub loop-k-preserved : goal.loop-k-preserved
loop-k-preserved c =
    let old : SpaceOf = c.args.sp.now in
    let m : Model = c.args.scope.now.m.now in
    let at : Reading = c.args.scope.now.at in
    let xs : List Value = c.args.values.now in
    let i = c.loop-k.invariant in
    let before : Chunks old c.loop-k.sp m at.present at.flip c.args.i xs c.loop-k.k = record { more = i.more; is = i.is; count = i.count; families = i.families } in
    let asked : c.as_slice.result.now ≡ map (asked (inverts at.flip c.args.i)) (chunk (chunk_size old.levels) xs c.loop-k.k) =
    asked_is c.args.sp.now.levels c.chunk_size-size.result c.loop-k.k c.min-stop.result c.is_inverted-inverted.result (inverts c.args.scope.now.at.flip c.args.i) c.args.values.now c.in-Ok.asked c.as_slice.result.now
    c.chunk_size-size.ensures c.is_inverted-inverted.ensures c.min-stop.ensures c.loop-k-test.true c.in-Ok.ensures c.as_slice.ensures in
    let after : Chunks old c.put_body.new.sp m at.present at.flip c.args.i xs (c.loop-k.k + 1) =
    chunks_turn old c.loop-k.sp c.put_body.new.sp m at.present at.flip c.args.i xs c.loop-k.k before (c.in_ok-put_body.ensures.ok (chunk (chunk_size old.levels) xs c.loop-k.k) asked) in
    let size : c.chunk_size-size.result ≡ chunk_size old.levels = c.chunk_size-size.ensures in
    let some : 0 < chunk_size old.levels = some_size old.levels in
    let below : c.loop-k.k < length xs = number_below c.loop-k.k c.chunk_size-size.result (length xs) c.loop-k-test.true (omega arith) in
    record {
      more = after.more;
      is = after.is;
      count = after.count;
      within = omega arith;
      places = ap (λ (z : SpaceOf). z.places) after.is;
      levels = ap (λ (z : SpaceOf). z.levels) after.is;
      families = after.families;
    }

pub returns-clause-ok : goal.returns-clause-ok
returns-clause-ok c =
    let old : SpaceOf = c.args.sp.now in
    let at : Reading = c.args.scope.now.at in
    let i = c.loop-k.invariant in
    chunks_all old c.loop-k.sp c.args.scope.now.m.now at.present at.flip c.args.i c.args.values.now c.loop-k.k (record { more = i.more; is = i.is; count = i.count; families = i.families }) i.within
    (subst (λ n. length c.args.values.now ≤ c.loop-k.k * n) c.chunk_size-size.ensures c.loop-k-test.false)
