use Rattle.std.proofs.Common.{◌≡◌, ◌≤◌, List, Bool, length, rules, arith, subst, sym}
use Rattle.cov_dd.specs.declared.node.Ref.TheVariants.{Inner}
use Rattle.cov_dd.specs.Nodes.{rank}
use Rattle.cov_dd.specs.Moved.{IsMarked}
use Rattle.cov_dd.proofs.MarkLemmas.{marked_here}
use Rattle.cov_dd.proofs.DependLemmas.{reach_marked}
use Rattle.cov_dd.proofs.collection.level_reached.Goals as goal

pub returns-clause-none : goal.returns-clause-none
returns-clause-none c e i lt r =
    let end : length c.args.nodes.now ≤ c.loop-i.i = search rules in
    let same : length c.args.marks.now ≡ length c.args.nodes.now = c.requires.same in
    let live : rank c.args.f ≤ length c.args.nodes.now = c.requires.live in
    let first : IsMarked c.mark.new.marks c.args.f = subst (λ (x : List Bool). IsMarked x c.args.f) (sym c.mark.ensures) (marked_here c.args.marks.now c.args.f (omega arith)) in
    c.loop-i.invariant i (omega arith) (reach_marked c.args.nodes.now c.mark_below.new.marks c.requires.fall c.mark_below.ensures.closed c.args.f (Inner i) r live (c.mark_below.ensures.stays c.args.f first))
