use Rattle.std.proofs.Common.{rules, refl}
use Rattle.cov_evid.specs.FirstFault as spec
use Rattle.cov_evid.specs.declared.fault.EvidFaultKind.TheVariants as kind
use Rattle.cov_evid.proofs.Walking.{cut_is, err_exit, goes_on, is_wrong}
use Rattle.cov_evid.proofs.read.read_spec.Goals as goal

pub returns-in_err-next-clause-fault : goal.returns-in_err-next-clause-fault
returns-in_err-next-clause-fault c = λ m. err_exit c.from_residual.result c.in_err-next.field-0.0 _ (search rules) (cut_is m spec.for_spec c.args.lines.now _ refl c.in_err-next.ensures.err)

pub returns-in-Some-clause-on : goal.returns-in-Some-clause-on
returns-in-Some-clause-on c = λ m. goes_on m spec.for_spec _ _ _ c.in_ok-next.ensures.ok spec.for_claim (rw c.in-Some.ensures.is refl)

pub returns-in-None-clause-fault : goal.returns-in-None-clause-fault
returns-in-None-clause-fault c = λ m. rw (c.at.ensures, c.number-number.ensures) (is_wrong m spec.for_spec _ _ _ c.in_ok-next.ensures.ok kind.Line (rw c.in-None.ensures.none refl))
