use Rattle.std.proofs.Common.{subst}
use Rattle.cov_model.specs.declared.model.Model.{Model}
use Rattle.cov_kinds.specs.Seen.{seen}
use Rattle.cov_types.specs.Checking.{IsChecked}
use Rattle.cov_types.proofs.Valued.{expression_passes, are_values}
use Rattle.cov_types.proofs.checked.Checked.values.Goals as goal

pub own_kind-requires : goal.own_kind-requires
own_kind-requires c =
    let h = subst (λ (m : Model). IsChecked m c.self.inside.kinds) c.self.view_is c.self.invariant.checked in
    expression_passes c.args.self.now c.self.inside.kinds c.args.e.now h c.requires

pub returns : goal.returns
returns c =
    let h = subst (λ (m : Model). IsChecked m c.self.inside.kinds) c.self.view_is c.self.invariant.checked in
    let v = are_values c.args.self.now c.self.inside.kinds c.args.e.now (seen c.in_ok-kind.kind) c.values.result h c.requires c.in_ok-kind.ensures.own c.values.ensures in
    record { listed = v.listed; once = v.once; few = v.few; all = v.all }
