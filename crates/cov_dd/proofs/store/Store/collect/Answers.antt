use Rattle.std.proofs.Common.{◌≡◌, ◌≤◌, List, length, take, rules, ap, subst, sym, ◌∙◌}
use Rattle.std.proofs.lemmas.List.{with_items_is}
use Rattle.cov_dd.specs.declared.node.Part.{Part}
use Rattle.cov_dd.specs.Nodes.{TableOf, IsTable}
use Rattle.cov_dd.specs.Chains.{IsChained}
use Rattle.cov_dd.specs.Reached.{AreGathered}
use Rattle.cov_dd.proofs.ReachLemmas.{collected}
use Rattle.cov_dd.proofs.SizeLemmas.{collected_size}
use Rattle.cov_dd.proofs.Moved.{moved_table}
use Rattle.cov_dd.proofs.store.Store.collect.Goals as goal

pub invariant_of-self : goal.invariant_of-self
invariant_of-self c =
    let len : length c.gather-kept.new.nodes ≡ c.self.inside.nodes.len = search rules in
    let items : c.truncate.new.self.items ≡ take c.gather-kept.result c.gather-kept.new.nodes = c.truncate.ensures.items ∙ ap (take c.gather-kept.result) (with_items_is c.self.inside.nodes c.gather-kept.new.nodes len) in
    let first : c.as_mut_slice.result.now ≡ c.self.inside.nodes.items = c.as_mut_slice.ensures.value in
    let g : AreGathered c.as_mut_slice.result.now (take c.gather-kept.result c.gather-kept.new.nodes) c.args.keep.now c.gather-kept.new.keep = c.gather-kept.ensures.gathered in
    let old : IsTable c.self.inside.levels c.as_mut_slice.result.now = subst (λ (x : List Part). IsTable c.self.inside.levels x) (sym first) c.self.invariant.table in
    record {
      table = subst (λ (x : List Part). IsTable c.self.inside.levels x) (sym items) (moved_table c.self.inside.levels c.as_mut_slice.result.now (take c.gather-kept.result c.gather-kept.new.nodes) g.marks g.places g.are old);
      chained = subst (λ (x : List Part). IsChained x c.rebuild.new.self) c.as_slice.ensures.value c.rebuild.ensures.chained;
      within = search rules;
      room = search rules;
      chain_room = search rules;
      small = c.self.invariant.small;
    }

pub returns-clause-ok : goal.returns-clause-ok
returns-clause-ok c =
    let len : length c.gather-kept.new.nodes ≡ c.self.inside.nodes.len = search rules in
    let items : c.truncate.new.self.items ≡ take c.gather-kept.result c.gather-kept.new.nodes = c.truncate.ensures.items ∙ ap (take c.gather-kept.result) (with_items_is c.self.inside.nodes c.gather-kept.new.nodes len) in
    let same : c.as_mut_slice.result.now ≡ c.args.self.now.nodes = c.as_mut_slice.ensures.value ∙ ap (λ (x : TableOf). x.nodes) c.self.view_is in
    let g : AreGathered c.as_mut_slice.result.now (take c.gather-kept.result c.gather-kept.new.nodes) c.args.keep.now c.gather-kept.new.keep = c.gather-kept.ensures.gathered in
    let g' : AreGathered c.args.self.now.nodes c.truncate.new.self.items c.args.keep.now c.gather-kept.new.keep = subst (λ (x : List Part). AreGathered x c.truncate.new.self.items c.args.keep.now c.gather-kept.new.keep) same (subst (λ (x : List Part). AreGathered c.as_mut_slice.result.now x c.args.keep.now c.gather-kept.new.keep) (sym items) g) in
    let table : IsTable c.args.self.now.levels c.args.self.now.nodes = subst (λ (x : TableOf). IsTable x.levels x.nodes) c.self.view_is c.self.invariant.table in
    let fewer : length c.truncate.new.self.items ≤ length c.args.self.now.nodes = search rules in
    collected c.args.self.now (record { levels = c.self.inside.levels; budget = c.self.inside.budget; calls = c.self.inside.calls; nodes = c.truncate.new.self.items }) c.args.keep.now c.gather-kept.new.keep table
    (ap (λ (x : TableOf). x.levels) c.self.view_is) (ap (λ (x : TableOf). x.budget) c.self.view_is) (ap (λ (x : TableOf). x.calls) c.self.view_is) fewer c.requires g'

pub returns-clause-held : goal.returns-clause-held
returns-clause-held c = collected_size _ _ _ _ (returns-clause-ok c)
