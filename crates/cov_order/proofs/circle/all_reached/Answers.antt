use Rattle.std.proofs.Common.{◌≡◌, ◌∙◌, ◌≤◌, ◌+◌, ℕ, List, [], IsTrue, length, Option, sym, ap, subst, arith}
use Rattle.std.specs.Prelude.{unwrap_or}
use Rattle.cov_model.specs.Order.{Reads, read_by}
use Rattle.cov_order.specs.Reach.{all_below, grown}
use Rattle.cov_order.proofs.Places.{items_fit}
use Rattle.cov_order.proofs.Reaching.{IsReaching, reaching_first, reaching_step, reached_all, reads_there}
use Rattle.cov_order.proofs.circle.all_reached.Goals as goal

pub add_all-requires-clause-room : goal.add_all-requires-clause-room
add_all-requires-clause-room c =
    let g : Reads = c.args.reads.now in
    let room : length c.in_ok-reached.reached.places ≡ length g = c.in_ok-reached.ensures.room ∙ c.len-n.ensures in
    subst (λ (n : ℕ). IsTrue (all_below n c.as_slice.result.now)) (sym room)
    (subst (λ (js : List ℕ). IsTrue (all_below (length g) js)) (sym c.as_slice.ensures) (reads_there (length g) g c.args.i c.get.result.now c.requires.there c.get.ensures))

pub loop-k-init : goal.loop-k-init
loop-k-init c =
    let g : Reads = c.args.reads.now in
    let js : c.as_slice.result.now ≡ read_by g c.args.i = c.as_slice.ensures ∙ ap (λ (o : Option (List ℕ)). unwrap_or o []) (sym c.get.ensures) in
    let is : c.add_all.new.reached.items ≡ grown [] (read_by g c.args.i) = c.in_ok-add_all.ensures.ok ∙ ap (λ (xs : List ℕ). grown xs c.as_slice.result.now) c.in_ok-reached.ensures.empty ∙ ap (grown []) js in
    record {
      reaching = subst (λ (xs : List ℕ). IsReaching g c.args.i 0 xs) (sym is) (reaching_first g c.args.i);
      room = c.add_all.ensures.room ∙ c.in_ok-reached.ensures.room ∙ c.len-n.ensures;
    }

pub loop-k-preserved : goal.loop-k-preserved
loop-k-preserved c = record {
  reaching = subst (λ (xs : List ℕ). IsReaching c.args.reads.now c.args.i (c.loop-k.k + 1) xs) (sym c.in_ok-expand.ensures.ok) (reaching_step c.args.reads.now c.args.i c.loop-k.k c.loop-k.reached.items c.loop-k.invariant.reaching);
  room = c.expand.ensures.room;
}

pub returns : goal.returns
returns c =
    let g : Reads = c.args.reads.now in
    let xs : List ℕ = c.loop-k.reached.items in
    let fit : length xs ≤ length g = omega (arith, items_fit c.loop-k.reached.places xs c.loop-k.reached.different c.loop-k.reached.right, c.loop-k.invariant.room) in
    let k : c.loop-k.k ≡ length g = omega (arith, c.loop-k-test.false, c.loop-k.auto.k-end, c.len-n.ensures) in
    reached_all g c.args.i (length g) xs fit (subst (λ (n : ℕ). IsReaching g c.args.i n xs) k c.loop-k.invariant.reaching) c.args.i
