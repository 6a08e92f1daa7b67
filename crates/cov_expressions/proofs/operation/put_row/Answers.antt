use Rattle.std.proofs.Common.{rules, ◌≡◌, ◌<◌, ◌+◌, ◌*◌, ◌||◌, length, ℕ, List, [], ◌∷◌, take, sym, ap, subst, ◌∙◌, arith}
use Rattle.std.specs.Int.{div_ceil}
use Rattle.cov_syntax.specs.declared.tree.Value.{Value}
use Rattle.cov_space.specs.Sets.{SpaceOf, set_at}
use Rattle.cov_space.proofs.Calls.{err_exit}
use Rattle.cov_nodes.specs.Choices.{IsFamily, operated_choices}
use Rattle.cov_nodes.specs.Standing.{chunk}
use Rattle.cov_expressions.specs.Parts.{AreFamilies}
use Rattle.cov_expressions.proofs.Chunked.{front_all, size_is}
use Rattle.cov_expressions.proofs.Families.{PutsSome, some_put_two, none_put}
use Rattle.cov_expressions.proofs.Gathering.{gather_none, gather_more, join_leaves, family_front, one_same, one_put}
use Rattle.cov_expressions.proofs.Operating.{row_none, row_more, chunk_numbered, chunk_family}
use Rattle.cov_expressions.proofs.operation.put_row.Goals as goal

pub loop-k-init : goal.loop-k-init
loop-k-init c =
    let old : SpaceOf = c.args.sp.now in
    gather_none old c.put_none.new.sp (λ m at f g. IsFamily old.levels m at c.args.xs.now f (set_at old.sets c.args.left) × AreFamilies old m at c.args.right.first c.args.right.values.now g) c.args.results.now
    (λ f g. operated_choices c.args.op c.args.xs.now (take (0 * c.args.right.size) c.args.right.values.now) f g) c.put_none.ensures
    (row_none c.args.op c.args.right.size c.args.xs.now c.args.right.values.now) (none_put old c.put_none.new.sp c.put_none.ensures)

pub put_operated-requires-clause-right : goal.put_operated-requires-clause-right
put_operated-requires-clause-right c =
    chunk_numbered c.args.sp.now c.loop-k.sp c.args.right.first c.args.right.size c.args.right.values.now c.chunk.result.now c.loop-k.k c.requires.right (omega (arith, c.loop-k-test.true, c.count-k-end.ensures)) c.chunk.ensures (ap (λ (z : SpaceOf). z.levels) c.loop-k.invariant.some.is)

pub finish_either-requires : goal.finish_either-requires
finish_either-requires c =
    let q : PutsSome c.loop-k.sp c.put_operated.new.sp = some_put_two c.loop-k.sp c.put_operated.new.sp c.args.results.now c.args.xs.now c.chunk.result.now (set_at c.loop-k.sp.sets c.args.left) (set_at c.loop-k.sp.sets (c.args.right.first + c.loop-k.k))
    (operated_choices c.args.op c.args.xs.now c.chunk.result.now) c.in_ok-put_operated.ensures.ok in
    let places : c.put_operated.new.sp.places ≡ c.loop-k.sp.places = ap (λ (z : SpaceOf). z.places) q.puts.is in
    record {
      last = omega (arith, q.puts.count, c.loop-k.invariant.some.count, c.sets-n.ensures.count);
      room = omega (arith, q.puts.count, c.loop-k.invariant.some.count, c.loop-k.invariant.some.places, places, c.requires.room);
    }

pub returns-in_err-finish_either-clause-err : goal.returns-in_err-finish_either-clause-err
returns-in_err-finish_either-clause-err c =
    let q : PutsSome c.loop-k.sp c.put_operated.new.sp = some_put_two c.loop-k.sp c.put_operated.new.sp c.args.results.now c.args.xs.now c.chunk.result.now (set_at c.loop-k.sp.sets c.args.left) (set_at c.loop-k.sp.sets (c.args.right.first + c.loop-k.k))
    (operated_choices c.args.op c.args.xs.now c.chunk.result.now) c.in_ok-put_operated.ensures.ok in
    err_exit c.from_residual-in_err-finish_either.result c.in_err-finish_either.field-0.0 _ (search rules)
    (join_leaves c.sets-n.result c.args.sp.now c.loop-k.sp c.put_operated.new.sp c.finish_either.new.sp c.in_err-finish_either.field-0.0 (sym c.sets-n.ensures.count) c.loop-k.invariant.some q c.in_err-finish_either.ensures.err)

pub loop-k-preserved : goal.loop-k-preserved
loop-k-preserved c =
    let old : SpaceOf = c.args.sp.now in
    let s : SpaceOf = c.loop-k.sp in
    let ys : List Value = c.args.right.values.now in
    let size : ℕ = c.args.right.size in
    let k : ℕ = c.loop-k.k in
    let q : PutsSome c.loop-k.sp c.put_operated.new.sp = some_put_two c.loop-k.sp c.put_operated.new.sp c.args.results.now c.args.xs.now c.chunk.result.now (set_at c.loop-k.sp.sets c.args.left) (set_at c.loop-k.sp.sets (c.args.right.first + c.loop-k.k))
    (operated_choices c.args.op c.args.xs.now c.chunk.result.now) c.in_ok-put_operated.ensures.ok in
    let lt : k < div_ceil (length ys) size = omega (arith, c.loop-k-test.true, c.count-k-end.ensures) in
    let chunked : c.chunk.result.now ≡ chunk size ys k = c.chunk.ensures in
    gather_more c.sets-n.result old s c.put_operated.new.sp c.finish_either.new.sp
    (λ m at f g. IsFamily old.levels m at c.args.xs.now f (set_at old.sets c.args.left) × AreFamilies old m at c.args.right.first ys g) c.args.results.now
    (operated_choices c.args.op c.args.xs.now (take (k * size) ys)) (operated_choices c.args.op c.args.xs.now c.chunk.result.now) (operated_choices c.args.op c.args.xs.now (take ((k + 1) * size) ys))
    (sym c.sets-n.ensures.count) c.loop-k.invariant q
    (λ m at f g stand. c.in_ok-put_operated.ensures.ok m at f g
    (family_front old s m at c.args.xs.now f c.args.left (c.loop-k.invariant.some.set ∷ []) c.loop-k.invariant.some.is c.requires.slot stand.0)
    (chunk_family old s m at c.args.right.first size ys c.chunk.result.now g k c.requires.right lt chunked stand.1 c.loop-k.invariant.some))
    c.in_ok-finish_either.ensures.ok
    (λ f g p z. ap (λ (zs : List Value). operated_choices c.args.op c.args.xs.now (take (k * size) ys) f g p z || operated_choices c.args.op c.args.xs.now zs f g p z) chunked ∙ row_more c.args.op size c.args.xs.now ys k f g p z)

pub returns-clause-ok : goal.returns-clause-ok
returns-clause-ok c = λ m at f g h i.
    let old : SpaceOf = c.args.sp.now in
    let ys : List Value = c.args.right.values.now in
    let size : ℕ = c.args.right.size in
    let some : 0 < size = subst (λ n. 0 < n) (sym c.requires.right.sized) (size_is old.levels).some in
    let all : take (c.loop-k.k * size) ys ≡ ys = front_all size ys c.loop-k.k some (omega (arith, c.loop-k-test.false, c.count-k-end.ensures)) in
    one_put old c.loop-k.sp m at c.args.results.now (operated_choices c.args.op c.args.xs.now ys f g)
    (one_same old c.loop-k.sp m at c.args.results.now (operated_choices c.args.op c.args.xs.now (take (c.loop-k.k * size) ys) f g) (operated_choices c.args.op c.args.xs.now ys f g)
    (ap (λ (zs : List Value). operated_choices c.args.op c.args.xs.now zs f g) all) (c.loop-k.invariant.families m at f g (h, i)))
