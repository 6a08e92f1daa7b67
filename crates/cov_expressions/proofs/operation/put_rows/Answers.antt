use Rattle.std.proofs.Common.{rules, ◌≡◌, ◌<◌, ◌+◌, ◌*◌, ◌||◌, length, ℕ, List, [], ◌∷◌, take, sym, ap, subst, ◌∙◌, arith}
use Rattle.std.specs.Int.{div_ceil}
use Rattle.cov_syntax.specs.declared.tree.Value.{Value}
use Rattle.cov_space.specs.Sets.{SpaceOf, set_at}
use Rattle.cov_space.proofs.Calls.{err_exit, leaves_behind}
use Rattle.cov_nodes.specs.Choices.{IsChunk, operated_choices}
use Rattle.cov_nodes.specs.Standing.{chunk}
use Rattle.cov_expressions.specs.Parts.{AreFamilies}
use Rattle.cov_expressions.proofs.Chunked.{front_all, size_is}
use Rattle.cov_expressions.proofs.Families.{PutsSome, some_put_row, none_put}
use Rattle.cov_expressions.proofs.Gathering.{gather_none, gather_more, join_leaves, one_same, one_put}
use Rattle.cov_expressions.proofs.Operating.{rows_none, rows_more, chunk_below, chunk_numbered, chunk_family, sets_more, families_more}
use Rattle.cov_expressions.proofs.operation.put_rows.Goals as goal

pub loop-k-init : goal.loop-k-init
loop-k-init c =
    let old : SpaceOf = c.args.sp.now in
    gather_none old c.put_none.new.sp (λ m at f g. AreFamilies old m at c.args.left.first c.args.left.values.now f × AreFamilies old m at c.args.right.first c.args.right.values.now g) c.args.results.now
    (λ f g. operated_choices c.args.op (take (0 * c.args.left.size) c.args.left.values.now) c.args.right.values.now f g) c.put_none.ensures
    (rows_none c.args.op c.args.left.size c.args.left.values.now c.args.right.values.now) (none_put old c.put_none.new.sp c.put_none.ensures)

pub put_row-requires : goal.put_row-requires
put_row-requires c =
    let old : SpaceOf = c.args.sp.now in
    let s : SpaceOf = c.loop-k.sp in
    let lt : c.loop-k.k < div_ceil (length c.args.left.values.now) c.args.left.size = omega (arith, c.loop-k-test.true, c.count-k-end.ensures) in
    let below : c.args.left.first + c.loop-k.k < length old.sets = c.requires.left.there c.loop-k.k (chunk_below old c.args.left.first c.args.left.size c.args.left.values.now c.loop-k.k c.requires.left lt) in
    let i = c.loop-k.invariant.some in
    let levels : s.levels ≡ old.levels = ap (λ (z : SpaceOf). z.levels) i.is in
    record {
      slot = omega (arith, below, i.count);
      left = chunk_numbered old s c.args.left.first c.args.left.size c.args.left.values.now c.chunk.result.now c.loop-k.k c.requires.left lt c.chunk.ensures levels;
      right = sets_more old s c.args.right.first c.args.right.size c.args.right.values.now (i.set ∷ []) i.is c.requires.right;
      results = subst (λ n. IsChunk n c.args.results.now) (sym levels) c.requires.results;
      room = omega (arith, i.count, i.places, c.requires.room);
    }

pub returns-in_err-put_row-clause-err : goal.returns-in_err-put_row-clause-err
returns-in_err-put_row-clause-err c =
    err_exit c.from_residual.result c.in_err-put_row.field-0.0 _ (search rules)
    (leaves_behind c.args.sp.now c.loop-k.sp c.put_row.new.sp (c.loop-k.invariant.some.set ∷ []) c.in_err-put_row.field-0.0 c.loop-k.invariant.some.is c.in_err-put_row.ensures.err)

pub overflow_add-left : goal.overflow_add-left
overflow_add-left c =
    let old : SpaceOf = c.args.sp.now in
    let lt : c.loop-k.k < div_ceil (length c.args.left.values.now) c.args.left.size = omega (arith, c.loop-k-test.true, c.count-k-end.ensures) in
    let below : c.args.left.first + c.loop-k.k < length old.sets = c.requires.left.there c.loop-k.k (chunk_below old c.args.left.first c.args.left.size c.args.left.values.now c.loop-k.k c.requires.left lt) in
    omega (arith, below, c.sets-n.ensures.within, c.sets-n.ensures.small)

pub finish_either-requires : goal.finish_either-requires
finish_either-requires c =
    let q : PutsSome c.loop-k.sp c.put_row.new.sp = some_put_row c.loop-k.sp c.put_row.new.sp c.args.results.now c.chunk.result.now c.args.right.values.now (set_at c.loop-k.sp.sets (c.args.left.first + c.loop-k.k)) c.args.right.first
    (operated_choices c.args.op c.chunk.result.now c.args.right.values.now) c.in_ok-put_row.ensures.ok in
    let places : c.put_row.new.sp.places ≡ c.loop-k.sp.places = ap (λ (z : SpaceOf). z.places) q.puts.is in
    record {
      last = omega (arith, q.puts.count, c.loop-k.invariant.some.count, c.sets-n.ensures.count);
      room = omega (arith, q.puts.count, c.loop-k.invariant.some.count, c.loop-k.invariant.some.places, places, c.requires.room);
    }

pub returns-in_err-finish_either-clause-err : goal.returns-in_err-finish_either-clause-err
returns-in_err-finish_either-clause-err c =
    let q : PutsSome c.loop-k.sp c.put_row.new.sp = some_put_row c.loop-k.sp c.put_row.new.sp c.args.results.now c.chunk.result.now c.args.right.values.now (set_at c.loop-k.sp.sets (c.args.left.first + c.loop-k.k)) c.args.right.first
    (operated_choices c.args.op c.chunk.result.now c.args.right.values.now) c.in_ok-put_row.ensures.ok in
    err_exit c.from_residual-in_err-finish_either.result c.in_err-finish_either.field-0.0 _ (search rules)
    (join_leaves c.sets-n.result c.args.sp.now c.loop-k.sp c.put_row.new.sp c.finish_either.new.sp c.in_err-finish_either.field-0.0 (sym c.sets-n.ensures.count) c.loop-k.invariant.some q c.in_err-finish_either.ensures.err)

pub loop-k-preserved : goal.loop-k-preserved
loop-k-preserved c =
    let old : SpaceOf = c.args.sp.now in
    let s : SpaceOf = c.loop-k.sp in
    let xs : List Value = c.args.left.values.now in
    let ys : List Value = c.args.right.values.now in
    let size : ℕ = c.args.left.size in
    let k : ℕ = c.loop-k.k in
    let i = c.loop-k.invariant.some in
    let q : PutsSome c.loop-k.sp c.put_row.new.sp = some_put_row c.loop-k.sp c.put_row.new.sp c.args.results.now c.chunk.result.now c.args.right.values.now (set_at c.loop-k.sp.sets (c.args.left.first + c.loop-k.k)) c.args.right.first
    (operated_choices c.args.op c.chunk.result.now c.args.right.values.now) c.in_ok-put_row.ensures.ok in
    let lt : k < div_ceil (length xs) size = omega (arith, c.loop-k-test.true, c.count-k-end.ensures) in
    let chunked : c.chunk.result.now ≡ chunk size xs k = c.chunk.ensures in
    gather_more c.sets-n.result old s c.put_row.new.sp c.finish_either.new.sp
    (λ m at f g. AreFamilies old m at c.args.left.first xs f × AreFamilies old m at c.args.right.first ys g) c.args.results.now
    (operated_choices c.args.op (take (k * size) xs) ys) (operated_choices c.args.op c.chunk.result.now ys) (operated_choices c.args.op (take ((k + 1) * size) xs) ys)
    (sym c.sets-n.ensures.count) c.loop-k.invariant q
    (λ m at f g stand. c.in_ok-put_row.ensures.ok m at f g
    (chunk_family old s m at c.args.left.first size xs c.chunk.result.now f k c.requires.left lt chunked stand.0 i)
    (families_more old s m at c.args.right.first c.args.right.size ys g (i.set ∷ []) i.is c.requires.right stand.1))
    c.in_ok-finish_either.ensures.ok
    (λ f g p z. ap (λ (zs : List Value). operated_choices c.args.op (take (k * size) xs) ys f g p z || operated_choices c.args.op zs ys f g p z) chunked ∙ rows_more c.args.op size xs ys k f g p z)

pub returns-clause-ok : goal.returns-clause-ok
returns-clause-ok c = λ m at f g h i.
    let old : SpaceOf = c.args.sp.now in
    let xs : List Value = c.args.left.values.now in
    let ys : List Value = c.args.right.values.now in
    let size : ℕ = c.args.left.size in
    let some : 0 < size = subst (λ n. 0 < n) (sym c.requires.left.sized) (size_is old.levels).some in
    let all : take (c.loop-k.k * size) xs ≡ xs = front_all size xs c.loop-k.k some (omega (arith, c.loop-k-test.false, c.count-k-end.ensures)) in
    one_put old c.loop-k.sp m at c.args.results.now (operated_choices c.args.op xs ys f g)
    (one_same old c.loop-k.sp m at c.args.results.now (operated_choices c.args.op (take (c.loop-k.k * size) xs) ys f g) (operated_choices c.args.op xs ys f g)
    (ap (λ (zs : List Value). operated_choices c.args.op zs ys f g) all) (c.loop-k.invariant.families m at f g (h, i)))
