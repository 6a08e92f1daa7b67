use Rattle.std.proofs.Common.{◌≡◌, ◌∙◌, ℕ, List, [], false, IsTrue, take, refl, sym, ap, subst, length}
use Rattle.std.specs.Prelude.{slice_get, Some, Option, unwrap_or}
use Rattle.std.specs.List.{list_all}
use Rattle.cov_model.specs.Order.{has}
use Rattle.std.proofs.lemmas.Option.{slice_get_read}
use Rattle.cov_order.specs.Tables.{is_ready}
use Rattle.cov_order.proofs.Placing.{next_later, passed_kept}
use Rattle.cov_order.proofs.dependence.next_ready.Goals as goal

pub loop-i-preserved : goal.loop-i-preserved
loop-i-preserved c =
    let js : List ℕ = c.as_slice.result.now in
    let at : slice_get c.args.reads.now c.loop-i.i ≡ Some js = slice_get_read c.args.reads.now (length c.args.reads.now) c.loop-i.i c.index-reads-i.result refl c.loop-i-test.true c.index-reads-i.is ∙ ap (λ (xs : List ℕ). Some xs) (sym c.as_slice.ensures) in
    let busy : is_ready c.args.order.now.items c.loop-i.i js ≡ false = sym c.is_ready.ensures.ready ∙ c.if-is_ready.false in
    record {
      left = sym (next_later c.args.order.now.items c.args.reads.now c.loop-i.i js at busy) ∙ c.loop-i.invariant.left;
      room = c.is_ready.ensures.room ∙ c.loop-i.invariant.room;
      passed = passed_kept c.args.order.now.items c.loop-i.passed c.is_ready.new.passed c.args.reads.now c.loop-i.i js at c.is_ready.ensures.here c.is_ready.ensures.others c.loop-i.invariant.passed;
    }

pub is_ready-requires-clause-passed : goal.is_ready-requires-clause-passed
is_ready-requires-clause-passed c =
    let js : List ℕ = c.as_slice.result.now in
    let at : slice_get c.args.reads.now c.loop-i.i ≡ Some js = slice_get_read c.args.reads.now (length c.args.reads.now) c.loop-i.i c.index-reads-i.result refl c.loop-i-test.true c.index-reads-i.is ∙ ap (λ (xs : List ℕ). Some xs) (sym c.as_slice.ensures) in
    subst (λ (xs : List ℕ). IsTrue (list_all (has c.args.order.now.items) (take (unwrap_or (slice_get c.loop-i.passed c.loop-i.i) 0) xs)))
    (ap (λ (o : Option (List ℕ)). unwrap_or o []) at) (c.loop-i.invariant.passed c.loop-i.i)
