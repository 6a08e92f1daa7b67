use Rattle.std.proofs.Common.{ap, ◌∙◌}
use Rattle.cov_show.specs.Cubes.{shown_vars}
use Rattle.cov_show.specs.States.{state_fault}
use Rattle.cov_evid.specs.Cursors.{fault_past}
use Rattle.cov_evid.proofs.StateLaws.{state_told}
use Rattle.cov_evid.proofs.Taking.{sole_from, state_on, state_wrong}
use Rattle.cov_evid.proofs.states.state_in.Goals as goal

pub returns-in-Ok-clause-on : goal.returns-in-Ok-clause-on
returns-in-Ok-clause-on c = λ place. state_on _ _ place (ap (state_fault (shown_vars c.args.m.now)) c.in-Ok.ensures.ok.1 ∙ state_told c.args.m.now c.requires c.in-Ok.state c.in-Ok.ensures.ok.0)

pub returns-in-Err-Fault-clause-fault : goal.returns-in-Err-Fault-clause-fault
returns-in-Err-Fault-clause-fault c =
    λ place. rw (c.at.ensures, c.of_state_fault.ensures) (ap (λ r. fault_past r c.args.number) (state_wrong c.args.m.now c.args.text.now place c.in-Err-Fault.fault (rw c.in-Err-Fault.field-0-is at c.in-Err-Fault.ensures.fault)))

pub returns-in-Ok-clause-sole : goal.returns-in-Ok-clause-sole
returns-in-Ok-clause-sole c = sole_from c.args.m.now c.in-Ok.state c.args.text.now c.in-Ok.ensures.ok.1 c.in-Ok.ensures.only
