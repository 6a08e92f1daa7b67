use Rattle.std.proofs.Common.{◌≡◌, IsTrue, ap, subst, rules}
use Rattle.cov_dd.specs.declared.node.Ref.{Ref}
use Rattle.cov_dd.specs.Nodes.{TableOf, den, IsTable}
use Rattle.cov_dd.proofs.Canonical.{canonical}
use Rattle.cov_dd.proofs.table.Table.same.Goals as goal

pub returns : goal.returns
returns c =
    let equal : IsTrue c.eq.result → c.args.f ≡ c.args.g = search rules in
    let back : c.args.f ≡ c.args.g → IsTrue c.eq.result = search rules in
    let table : IsTable c.args.self.now.levels c.args.self.now.nodes = subst (λ (x : TableOf). IsTable x.levels x.nodes) c.self.view_is c.held-held.ensures.table in (
      (λ h row len. ap (λ (r : Ref). den c.args.self.now.nodes r row) (equal h)),
      (λ h. back (canonical c.args.self.now.levels c.args.self.now.nodes table c.args.f c.args.g c.requires.f c.requires.g h)),
    )
