use Rattle.std.proofs.Common.{◌≡◌, ◌≤◌, ◌+◌, length, arith, rules, ◌∙◌, ap, refl}
use Rattle.cov_dd.specs.declared.node.Part.{Part}
use Rattle.cov_dd.specs.Nodes.{node_at}
use Rattle.cov_dd.specs.Moved.{moved_node}
use Rattle.cov_dd.proofs.Canonical.{same_node}
use Rattle.cov_dd.proofs.MarkLemmas.{moving_step, moving_skip, moving_last, moving_same}
use Rattle.cov_dd.proofs.collection.compact.Goals.{then-marks-i, else-marks-i}
use Rattle.cov_dd.proofs.collection.compact.Goals as goal

pub loop-i-preserved : goal.loop-i-preserved
loop-i-preserved c = elim c.if-marks-i.branch [
  | then-marks-i w ↦
      let here : node_at c.loop-i.nodes c.loop-i.i ≡ node_at c.args.nodes.now c.loop-i.i = c.loop-i.invariant.rest c.loop-i.i (omega arith) in
      let x : Part = record { level = (node_at c.loop-i.nodes c.loop-i.i).level; low = w.rename-low.result; high = w.rename-high.result } in
      let is : x ≡ moved_node c.loop-i.places (node_at c.loop-i.nodes c.loop-i.i) = same_node _ _ refl w.rename-low.ensures w.rename-high.ensures in
      moving_same c.args.nodes.now _ c.if-marks-i.nodes c.args.marks.now _ c.if-marks-i.places (c.loop-i.i + 1) _ c.if-marks-i.next w.nodes-is w.places-is w.next-is
      (moving_step c.args.nodes.now c.loop-i.nodes c.args.marks.now c.loop-i.places c.loop-i.i c.loop-i.next c.loop-i-test.true c.requires.fall w.if-marks-i.true c.loop-i.invariant x (is ∙ ap (moved_node c.loop-i.places) here))
  | else-marks-i w ↦
      moving_same c.args.nodes.now _ c.if-marks-i.nodes c.args.marks.now _ c.if-marks-i.places (c.loop-i.i + 1) _ c.if-marks-i.next w.nodes-is w.places-is w.next-is
      (moving_skip c.args.nodes.now c.loop-i.nodes c.args.marks.now c.loop-i.places c.loop-i.i c.loop-i.next w.if-marks-i.false c.loop-i.invariant)
]

pub returns-clause-moved : goal.returns-clause-moved
returns-clause-moved c = let h : length c.args.nodes.now ≤ c.loop-i.i = search rules in let e : c.loop-i.i ≡ length c.args.nodes.now = omega arith in moving_last c.args.nodes.now c.loop-i.nodes c.args.marks.now c.loop-i.places c.loop-i.i c.loop-i.next e c.requires.closed c.loop-i.invariant
