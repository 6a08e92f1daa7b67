use Rattle.std.proofs.Common.{◌≡◌, ◌<◌, length, List, arith, rules, sym, ap, subst, ◌∙◌}
use Rattle.std.proofs.lemmas.List.{get_or_read}
use Rattle.cov_dd.specs.declared.node.Ref.{Ref}
use Rattle.cov_dd.specs.declared.node.Ref.TheVariants.{Inner}
use Rattle.cov_dd.specs.declared.node.Part.{Part}
use Rattle.cov_dd.specs.Nodes.{TableOf, den, IsLive, IsTable, Denotes, chosen, no_node, node_at}
use Rattle.cov_dd.proofs.Growth.{found_denotes}
use Rattle.cov_dd.proofs.store.Store.part.Goals as goal

pub returns-in-Inner-clause-den : goal.returns-in-Inner-clause-den
returns-in-Inner-clause-den c =
    let table : IsTable c.args.self.now.levels c.args.self.now.nodes = subst (λ (x : TableOf). IsTable x.levels x.nodes) c.self.view_is c.self.invariant.table in
    let same : c.self.inside.nodes.items ≡ c.args.self.now.nodes = ap (λ (x : TableOf). x.nodes) c.self.view_is in
    let live : IsLive c.args.self.now.nodes (Inner c.in-Inner.i) = search rules in
    let within : c.in-Inner.i < length c.args.self.now.nodes = omega arith in
    let inside : c.in-Inner.i < length c.self.inside.nodes.items = search rules in
    let read : c.index.result.now ≡ node_at c.self.inside.nodes.items c.in-Inner.i = get_or_read c.self.inside.nodes.items c.in-Inner.i c.index.result.now inside c.index.ensures no_node in
    let is : node_at c.args.self.now.nodes c.in-Inner.i ≡ c.index.result.now = ap (λ (x : List Part). node_at x c.in-Inner.i) (sym same) ∙ sym read in
    subst (λ (r : Ref). Denotes c.args.self.now c.index.result.now.level r (chosen c.index.result.now.level (den c.args.self.now.nodes c.index.result.now.low) (den c.args.self.now.nodes c.index.result.now.high))) (sym c.in-Inner.is)
    (found_denotes c.args.self.now table c.in-Inner.i c.index.result.now within is)
