use Rattle.std.proofs.Common.{rules, ◌≡◌, ◌<◌, ◌+◌, ◌*◌, ◌||◌, length, ℕ, List, take, sym, ap, subst, ◌∙◌, arith}
use Rattle.std.specs.Int.{div_ceil}
use Rattle.cov_syntax.specs.declared.tree.Value.{Value}
use Rattle.cov_space.specs.Sets.{SpaceOf, set_at}
use Rattle.cov_space.proofs.Calls.{err_exit}
use Rattle.cov_nodes.specs.Choices.{negated_choices}
use Rattle.cov_nodes.specs.Standing.{chunk}
use Rattle.cov_expressions.specs.Parts.{AreFamilies}
use Rattle.cov_expressions.proofs.Chunked.{front_all, size_is}
use Rattle.cov_expressions.proofs.Families.{PutsSome, some_put, none_put}
use Rattle.cov_expressions.proofs.Gathering.{gather_none, gather_more, join_leaves, one_same, one_put}
use Rattle.cov_expressions.proofs.Operating.{negated_none, negated_more, chunk_below, chunk_numbered, chunk_family}
use Rattle.cov_expressions.proofs.operation.put_negatives.Goals as goal

pub loop-k-init : goal.loop-k-init
loop-k-init c =
    let old : SpaceOf = c.args.sp.now in
    gather_none old c.put_none.new.sp (λ m at f g. AreFamilies old m at c.args.operand.first c.args.operand.values.now f) c.args.results.now
    (λ f g. negated_choices (take (0 * c.args.operand.size) c.args.operand.values.now) f) c.put_none.ensures
    (λ f g. negated_none c.args.operand.size c.args.operand.values.now f) (none_put old c.put_none.new.sp c.put_none.ensures)

pub put_negated-requires-clause-operand : goal.put_negated-requires-clause-operand
put_negated-requires-clause-operand c =
    chunk_numbered c.args.sp.now c.loop-k.sp c.args.operand.first c.args.operand.size c.args.operand.values.now c.chunk.result.now c.loop-k.k c.requires.operand (omega (arith, c.loop-k-test.true, c.count-k-end.ensures)) c.chunk.ensures (ap (λ (z : SpaceOf). z.levels) c.loop-k.invariant.some.is)

pub overflow_add-operand : goal.overflow_add-operand
overflow_add-operand c =
    let old : SpaceOf = c.args.sp.now in
    let lt : c.loop-k.k < div_ceil (length c.args.operand.values.now) c.args.operand.size = omega (arith, c.loop-k-test.true, c.count-k-end.ensures) in
    let below : c.args.operand.first + c.loop-k.k < length old.sets =
    c.requires.operand.there c.loop-k.k (chunk_below old c.args.operand.first c.args.operand.size c.args.operand.values.now c.loop-k.k c.requires.operand lt) in
    omega (arith, below, c.sets-n.ensures.within, c.sets-n.ensures.small)

pub finish_either-requires : goal.finish_either-requires
finish_either-requires c =
    let q : PutsSome c.loop-k.sp c.put_negated.new.sp = some_put c.loop-k.sp c.put_negated.new.sp c.args.results.now c.chunk.result.now (set_at c.loop-k.sp.sets (c.args.operand.first + c.loop-k.k))
    (negated_choices c.chunk.result.now) c.in_ok-put_negated.ensures.ok in
    let places : c.put_negated.new.sp.places ≡ c.loop-k.sp.places = ap (λ (z : SpaceOf). z.places) q.puts.is in
    record {
      last = omega (arith, q.puts.count, c.loop-k.invariant.some.count, c.sets-n.ensures.count);
      room = omega (arith, q.puts.count, c.loop-k.invariant.some.count, c.loop-k.invariant.some.places, places, c.requires.room);
    }

pub returns-in_err-finish_either-clause-err : goal.returns-in_err-finish_either-clause-err
returns-in_err-finish_either-clause-err c =
    let q : PutsSome c.loop-k.sp c.put_negated.new.sp = some_put c.loop-k.sp c.put_negated.new.sp c.args.results.now c.chunk.result.now (set_at c.loop-k.sp.sets (c.args.operand.first + c.loop-k.k))
    (negated_choices c.chunk.result.now) c.in_ok-put_negated.ensures.ok in
    err_exit c.from_residual-in_err-finish_either.result c.in_err-finish_either.field-0.0 _ (search rules)
    (join_leaves c.sets-n.result c.args.sp.now c.loop-k.sp c.put_negated.new.sp c.finish_either.new.sp c.in_err-finish_either.field-0.0 (sym c.sets-n.ensures.count) c.loop-k.invariant.some q c.in_err-finish_either.ensures.err)

pub loop-k-preserved : goal.loop-k-preserved
loop-k-preserved c =
    let old : SpaceOf = c.args.sp.now in
    let s : SpaceOf = c.loop-k.sp in
    let xs : List Value = c.args.operand.values.now in
    let size : ℕ = c.args.operand.size in
    let k : ℕ = c.loop-k.k in
    let i = c.loop-k.invariant.some in
    let q : PutsSome c.loop-k.sp c.put_negated.new.sp = some_put c.loop-k.sp c.put_negated.new.sp c.args.results.now c.chunk.result.now (set_at c.loop-k.sp.sets (c.args.operand.first + c.loop-k.k))
    (negated_choices c.chunk.result.now) c.in_ok-put_negated.ensures.ok in
    let lt : k < div_ceil (length xs) size = omega (arith, c.loop-k-test.true, c.count-k-end.ensures) in
    let chunked : c.chunk.result.now ≡ chunk size xs k = c.chunk.ensures in
    gather_more c.sets-n.result old s c.put_negated.new.sp c.finish_either.new.sp
    (λ m at f g. AreFamilies old m at c.args.operand.first xs f) c.args.results.now
    (λ f g. negated_choices (take (k * size) xs) f) (λ f g. negated_choices c.chunk.result.now f) (λ f g. negated_choices (take ((k + 1) * size) xs) f)
    (sym c.sets-n.ensures.count) c.loop-k.invariant q
    (λ m at f g stand. c.in_ok-put_negated.ensures.ok m at f (chunk_family old s m at c.args.operand.first size xs c.chunk.result.now f k c.requires.operand lt chunked stand i))
    c.in_ok-finish_either.ensures.ok
    (λ f g p z. ap (λ (zs : List Value). negated_choices (take (k * size) xs) f p z || negated_choices zs f p z) chunked ∙ negated_more size xs k f p z)

pub returns-clause-ok : goal.returns-clause-ok
returns-clause-ok c = λ m at f h.
    let old : SpaceOf = c.args.sp.now in
    let xs : List Value = c.args.operand.values.now in
    let size : ℕ = c.args.operand.size in
    let some : 0 < size = subst (λ n. 0 < n) (sym c.requires.operand.sized) (size_is old.levels).some in
    let all : take (c.loop-k.k * size) xs ≡ xs = front_all size xs c.loop-k.k some (omega (arith, c.loop-k-test.false, c.count-k-end.ensures)) in
    one_put old c.loop-k.sp m at c.args.results.now (negated_choices xs f)
    (one_same old c.loop-k.sp m at c.args.results.now (negated_choices (take (c.loop-k.k * size) xs) f) (negated_choices xs f)
    (ap (λ (zs : List Value). negated_choices zs f) all) (c.loop-k.invariant.families m at f f h))
