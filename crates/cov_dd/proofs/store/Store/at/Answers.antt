use Rattle.std.proofs.Common.{◌≡◌, ◌<◌, length, get_or, true, false, arith, rules, sym, ap, ◌∙◌}
use Rattle.std.proofs.lemmas.List.{get_or_read}
use Rattle.cov_dd.specs.declared.node.Ref.{Ref}
use Rattle.cov_dd.specs.declared.node.Ref.TheVariants.{Inner}
use Rattle.cov_dd.specs.Nodes.{den, IsLive, no_node}
use Rattle.cov_dd.proofs.Growth.{den_step}
use Rattle.cov_dd.proofs.store.Store.at.Goals.{After-index-node}
use Rattle.cov_dd.proofs.store.Store.at.Goals as goal

-- both steps from the node that was read
step : (c : After-index-node)
    → (get_or c.args.bits.now c.index-node.result.now.level false ≡ true → IsLive c.self.inside.nodes.items c.index-node.result.now.high × (den c.self.inside.nodes.items c.index-node.result.now.high c.args.bits.now ≡ den c.self.inside.nodes.items (Inner c.in-Inner.i) c.args.bits.now))
    × (get_or c.args.bits.now c.index-node.result.now.level false ≡ false → IsLive c.self.inside.nodes.items c.index-node.result.now.low × (den c.self.inside.nodes.items c.index-node.result.now.low c.args.bits.now ≡ den c.self.inside.nodes.items (Inner c.in-Inner.i) c.args.bits.now))
step c =
    let live : IsLive c.self.inside.nodes.items (Inner c.in-Inner.i) = search rules in
    let within : c.in-Inner.i < length c.self.inside.nodes.items = omega arith in
    den_step c.self.inside.levels c.self.inside.nodes.items c.self.invariant.table c.args.bits.now c.in-Inner.i c.index-node.result.now within
    (get_or_read c.self.inside.nodes.items c.in-Inner.i c.index-node.result.now within c.index-node.ensures no_node)

pub loop-place-preserved-then-bits-node : goal.loop-place-preserved-then-bits-node
loop-place-preserved-then-bits-node c =
    let bit : get_or c.args.bits.now c.index-node.result.now.level false ≡ true = search rules in
    let s = (step (goal.at.loop-place-preserved-then-bits-node c).After-index-node).0 bit in
    record { live = s.0; same = s.1 ∙ ap (λ (r : Ref). den c.self.inside.nodes.items r c.args.bits.now) (sym c.in-Inner.is) ∙ c.loop-place.invariant.same }

pub loop-place-preserved : goal.loop-place-preserved
loop-place-preserved c =
    let bit : get_or c.args.bits.now c.index-node.result.now.level false ≡ false = search rules in
    let s = (step (goal.at.loop-place-preserved c).After-index-node).1 bit in
    record { live = s.0; same = s.1 ∙ ap (λ (r : Ref). den c.self.inside.nodes.items r c.args.bits.now) (sym c.in-Inner.is) ∙ c.loop-place.invariant.same }
