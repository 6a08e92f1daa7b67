use Rattle.std.proofs.Common.{◌≡◌, ℕ, ◌-◌, suc, arith, ◌∙◌, ap}
use Rattle.cov_dd.specs.declared.node.Ref.TheVariants.{Inner}
use Rattle.cov_dd.specs.Nodes.{node_at}
use Rattle.cov_dd.specs.Reached.{marked}
use Rattle.cov_dd.specs.Reached.Reaches.{here}
use Rattle.cov_dd.proofs.MarkLemmas.{below_step, Below}
use Rattle.cov_dd.proofs.collection.mark_below.Goals as goal

pub loop-i-init : goal.loop-i-init
loop-i-init c = record {
  within = omega arith;
  same = c.requires.same;
  stays = λ r m. m;
  closed = λ j a b. absurd (omega arith);
  only = λ i m. (i, m, here (Inner i));
}

pub loop-i-preserved-then-marks-i : goal.loop-i-preserved-then-marks-i
loop-i-preserved-then-marks-i c =
    let i : ℕ = c.loop-i.i - 1 in
    let next : suc i ≡ c.loop-i.i = omega arith in
    let inv = c.loop-i.invariant in
    let b : Below c.args.nodes.now c.args.marks.now c.loop-i.marks (suc i) = record {
      within = omega arith;
      same = inv.same;
      stays = inv.stays;
      closed = λ j le. inv.closed j (omega arith);
      only = inv.only;
    } in
    let s : Below c.args.nodes.now c.args.marks.now c.mark-then-marks-i.new.marks i = below_step c.args.nodes.now c.args.marks.now c.loop-i.marks c.mark-then-marks-i.new.marks i c.requires.fall c.if-marks-i.true (c.mark-then-marks-i.ensures ∙ ap (λ x. marked x (node_at c.args.nodes.now i).high) c.mark.ensures) b in
    record { within = s.within; same = s.same; stays = s.stays; closed = s.closed; only = s.only }
