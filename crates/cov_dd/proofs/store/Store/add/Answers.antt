use Rattle.std.proofs.Common.{◌<◌, List, rules, sym, subst}
use Rattle.cov_dd.specs.declared.node.Part.{Part}
use Rattle.cov_dd.specs.Nodes.{TableOf, IsTable, IsBelow, IsNew}
use Rattle.cov_dd.specs.Chains.{IsChained}
use Rattle.cov_dd.proofs.PushLemmas.{table_push}
use Rattle.cov_dd.proofs.store.Store.add.Goals.{After-push_reserved}
use Rattle.cov_dd.proofs.store.Store.add.Goals as goal

-- the table with the node behind it
grown : (c : After-push_reserved) → IsTable c.self.inside.levels c.push_reserved.new.self.items
grown c =
    let P : TableOf → Type 0 = λ x. (IsBelow x.levels x.nodes c.args.node.level c.args.node.low) × (IsBelow x.levels x.nodes c.args.node.level c.args.node.high) × IsNew x.nodes c.args.node.level c.args.node.low c.args.node.high × (c.args.node.level < x.levels) in
    let (low, high, new, level) = subst P (sym c.self.view_is) (c.requires.low, c.requires.high, c.requires.new, c.requires.level) in
    subst (λ (x : List Part). IsTable c.self.inside.levels x) (sym c.push_reserved.ensures.items)
    (table_push c.self.inside.levels c.self.inside.nodes.items c.args.node c.self.invariant.table level low high new)

pub returns-clause-table : goal.returns-clause-table
returns-clause-table c = grown (goal.at.returns-clause-table c).After-push_reserved

pub invariant_of-self : goal.invariant_of-self
invariant_of-self c = record {
  table = grown (goal.at.invariant_of-self c).After-push_reserved;
  chained = subst (λ (x : List Part). IsChained x c.push.new.self) (sym c.push_reserved.ensures.items) (c.push.ensures.chained c.self.inside.nodes.items c.self.invariant.chained);
  within = search rules;
  room = search rules;
  chain_room = search rules;
  small = c.self.invariant.small;
}
