use Rattle.std.proofs.Common.{◌≡◌, ◌↔◌, false, List, subst, sym, ap, ◌∙◌}
use Rattle.cov_dd.specs.declared.node.Part.{Part}
use Rattle.cov_dd.specs.Nodes.{TableOf, den, IsTable, IsLive}
use Rattle.cov_dd.specs.Operations.{Ignores}
use Rattle.cov_dd.proofs.DependLemmas.{depends_is}
use Rattle.cov_dd.proofs.store.Store.depends.Goals as goal

pub returns : goal.returns
returns c =
    let same : c.as_slice.result.now ≡ c.args.self.now.nodes = c.as_slice.ensures.value ∙ ap (λ (x : TableOf). x.nodes) c.self.view_is in
    let table : IsTable c.args.self.now.levels c.args.self.now.nodes = subst (λ (x : TableOf). IsTable x.levels x.nodes) c.self.view_is c.self.invariant.table in
    let back : IsTable c.args.self.now.levels c.as_slice.result.now = subst (λ (x : List Part). IsTable c.args.self.now.levels x) (sym same) table in
    let live : IsLive c.as_slice.result.now c.args.f = subst (λ (x : List Part). IsLive x c.args.f) (sym same) c.requires.f in
    subst (λ (x : List Part). (c.level_reached.result ≡ false) ↔ Ignores c.args.self.now.levels c.args.level (den x c.args.f)) same
    (depends_is c.args.self.now.levels c.as_slice.result.now back c.args.level c.args.f live c.level_reached.result c.level_reached.ensures.some c.level_reached.ensures.none)
