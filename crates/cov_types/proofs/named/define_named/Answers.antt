use Rattle.cov_model.specs.declared.model.Define.{Define}
use Rattle.cov_types.proofs.Naming.{next_item}
use Rattle.cov_types.proofs.named.define_named.Goals as goal

pub loop-i-preserved : goal.loop-i-preserved
loop-i-preserved c = next_item (λ (d : Define). d.name) c.args.defines.now c.loop-i.i c.args.name c.in_ok-d.d.now c.in_ok-d.ensures.lookup.3.0 c.in_ok-d.ensures.lookup.1 c.if-d-name.false c.loop-i.invariant
