use Rattle.cov_model.specs.declared.model.Var.{Var}
use Rattle.cov_types.proofs.Naming.{next_item}
use Rattle.cov_types.proofs.named.variable_named.Goals as goal

pub loop-i-preserved : goal.loop-i-preserved
loop-i-preserved c = next_item (λ (x : Var). x.name) c.args.vars.now c.loop-i.i c.args.name c.in_ok-x.x.now c.in_ok-x.ensures.lookup.3.0 c.in_ok-x.ensures.lookup.1 c.if-x-name.false c.loop-i.invariant
