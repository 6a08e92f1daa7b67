use Rattle.std.proofs.Common.{◌≡◌, ◌<◌, ◌≤◌, ℕ, length, List, arith, rules, sym, ap, subst, ◌∙◌}
use Rattle.std.proofs.lemmas.List.{get_or_read}
use Rattle.cov_dd.specs.declared.node.Ref.{Ref}
use Rattle.cov_dd.specs.declared.node.Ref.TheVariants.{Inner}
use Rattle.cov_dd.specs.declared.node.Part.{Part}
use Rattle.cov_dd.specs.Nodes.{TableOf, level_of, IsLive, IsTable, no_node, node_at}
use Rattle.cov_dd.specs.Cofactors.{SplitsAt}
use Rattle.cov_dd.proofs.Splitting.{split_at, split_skip}
use Rattle.cov_dd.proofs.store.Store.split.Goals.{After-index-node}
use Rattle.cov_dd.proofs.store.Store.split.Goals as goal

-- a node that was read
record Read (t : TableOf) (f : Ref) (i : ℕ) (node : Part) : Type 0 where
  table : IsTable t.levels t.nodes
  names : f ≡ Inner i
  within : i < length t.nodes
  is : node ≡ node_at t.nodes i

read : (c : After-index-node) → Read c.args.self.now c.args.f c.in-Inner.i c.index-node.result.now
read c =
    let same : c.self.inside.nodes.items ≡ c.args.self.now.nodes = ap (λ (x : TableOf). x.nodes) c.self.view_is in
    let live : IsLive c.args.self.now.nodes (Inner c.in-Inner.i) = search rules in
    let inside : c.in-Inner.i < length c.self.inside.nodes.items = search rules in
    record {
      table = subst (λ (x : TableOf). IsTable x.levels x.nodes) c.self.view_is c.self.invariant.table;
      names = c.in-Inner.is;
      within = omega arith;
      is = get_or_read c.self.inside.nodes.items c.in-Inner.i c.index-node.result.now inside c.index-node.ensures no_node ∙ ap (λ (x : List Part). node_at x c.in-Inner.i) same;
    }

at_level : (t : TableOf) (f : Ref) (i level : ℕ) (node : Part) → Read t f i node → node.level ≡ level → SplitsAt t level f node.low node.high
at_level t f i level node r e =
    subst (λ (x : Ref). SplitsAt t level x node.low node.high) (sym r.names)
    (subst (λ (k : ℕ). SplitsAt t k (Inner i) node.low node.high) e (split_at t r.table i node r.within r.is))

above_level : (t : TableOf) (f : Ref) (i level : ℕ) (node : Part) → Read t f i node → level < node.level → SplitsAt t level f (Inner i) (Inner i)
above_level t f i level node r below =
    let within : i < length t.nodes = r.within in
    let e : node.level ≡ (node_at t.nodes i).level = ap (λ (n : Part). n.level) r.is in
    subst (λ (x : Ref). SplitsAt t level x (Inner i) (Inner i)) (sym r.names) (split_skip t r.table level (Inner i) (omega arith) (omega arith))

pub returns-then-node-level : goal.returns-then-node-level
returns-then-node-level c = at_level _ _ _ _ _ (read (goal.at.returns-then-node-level c).After-index-node) c.if-node-level.true

pub returns-else-node-level : goal.returns-else-node-level
returns-else-node-level c =
    let r = read (goal.at.returns-else-node-level c).After-index-node in
    let level : c.index-node.result.now.level ≡ level_of c.args.self.now.levels c.args.self.now.nodes (Inner c.in-Inner.i) = ap (λ (n : Part). n.level) r.is in
    let above : c.args.level ≤ level_of c.args.self.now.levels c.args.self.now.nodes (Inner c.in-Inner.i) = subst (λ (x : Ref). c.args.level ≤ level_of c.args.self.now.levels c.args.self.now.nodes x) r.names c.requires.above in
    above_level _ _ _ _ _ r (omega arith)

pub returns-in-Constant : goal.returns-in-Constant
returns-in-Constant c =
    let table : IsTable c.args.self.now.levels c.args.self.now.nodes = subst (λ (x : TableOf). IsTable x.levels x.nodes) c.self.view_is c.self.invariant.table in
    let below : c.args.level < level_of c.args.self.now.levels c.args.self.now.nodes c.args.f = subst (λ (x : Ref). c.args.level < level_of c.args.self.now.levels c.args.self.now.nodes x) (sym c.in-Constant.is) c.requires.level in
    split_skip c.args.self.now table c.args.level c.args.f c.requires.live below
