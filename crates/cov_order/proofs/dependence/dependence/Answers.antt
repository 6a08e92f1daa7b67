use Rattle.std.proofs.Common.{◌≡◌, ◌∙◌, ◌-◌, ◌+◌, ◌++◌, ◌∷◌, [], ℕ, List, suc, sym, ap, subst, length, arith}
use Rattle.std.specs.Prelude.{Some}
use Rattle.cov_model.specs.Order.{Reads, next_define, placed_after}
use Rattle.cov_order.specs.Tables.{ArePassed}
use Rattle.cov_order.proofs.Placing.{next_found, one_more, passed_more}
use Rattle.cov_order.proofs.dependence.dependence.Goals as goal

pub push-requires-clause-new : goal.push-requires-clause-new
push-requires-clause-new c =
    let next : next_define c.loop.order.items 0 c.args.reads.now ≡ Some c.in-Some.i = ap (next_define c.loop.order.items 0) (sym c.as_slice.ensures) ∙ sym c.in-Some.ensures.next in
    (next_found c.loop.order.items 0 c.args.reads.now c.in-Some.i next).new

pub push-requires-clause-room : goal.push-requires-clause-room
push-requires-clause-room c =
    let next : next_define c.loop.order.items 0 c.args.reads.now ≡ Some c.in-Some.i = ap (next_define c.loop.order.items 0) (sym c.as_slice.ensures) ∙ sym c.in-Some.ensures.next in
    let r = next_found c.loop.order.items 0 c.args.reads.now c.in-Some.i next in
    omega (arith, r.is, r.there, c.loop.invariant.places)

pub loop-preserved : goal.loop-preserved
loop-preserved c =
    let g : Reads = c.args.reads.now in
    let items : List ℕ = c.loop.order.items in
    let next : next_define items 0 g ≡ Some c.in-Some.i = ap (next_define items 0) (sym c.as_slice.ensures) ∙ sym c.in-Some.ensures.next in
    let put : c.push.new.self.items ≡ items ++ c.in-Some.i ∷ [] = c.in_ok-push-in-Some.ensures.ok in
    let turns : length g - c.loop.counter ≡ suc (length g - (c.loop.counter + 1)) = omega (arith, c.loop-test.true, c.len-n.ensures) in
    record {
      left =
          ap (placed_after (length g - (c.loop.counter + 1)) g) put
          ∙ sym (one_more (length g - (c.loop.counter + 1)) g items c.in-Some.i next)
          ∙ ap (λ (k : ℕ). placed_after k g items) (sym turns)
          ∙ c.loop.invariant.left;
      places = c.push.ensures.room ∙ c.loop.invariant.places;
      room = c.in-Some.ensures.room ∙ ap (λ (xs : Reads). length xs) c.as_slice.ensures;
      passed =
          subst (λ (xs : List ℕ). ArePassed xs c.next_ready.new.passed g) (sym put)
          (passed_more items c.next_ready.new.passed g c.in-Some.i (subst (λ (xs : Reads). ArePassed items c.next_ready.new.passed xs) c.as_slice.ensures c.in-Some.ensures.passed));
    }
