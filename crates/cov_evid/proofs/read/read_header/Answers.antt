use Rattle.std.proofs.Common.{rules, refl}
use Rattle.cov_evid.specs.FirstFault as spec
use Rattle.cov_evid.specs.declared.fault.EvidFaultKind.TheVariants as kind
use Rattle.cov_evid.proofs.Walking.{cut_is, err_exit, goes_on, is_wrong, other_text, same_text}
use Rattle.cov_evid.proofs.read.read_header.Goals as goal

pub returns-in_err-next-clause-fault : goal.returns-in_err-next-clause-fault
returns-in_err-next-clause-fault c = λ m. err_exit c.from_residual.result c.in_err-next.field-0.0 _ (search rules) (cut_is m spec.for_header c.args.lines.now _ refl c.in_err-next.ensures.err)

pub returns-then-eq-clause-on : goal.returns-then-eq-clause-on
returns-then-eq-clause-on c = λ m. goes_on m spec.for_header _ _ _ c.in_ok-next.ensures.ok spec.for_spec (rw (same_text _ _ _ _ c.as_slice.ensures c.eq.ensures c.if-eq.true) refl)

pub returns-else-eq-clause-fault : goal.returns-else-eq-clause-fault
returns-else-eq-clause-fault c = λ m. rw (c.at.ensures, c.number-number.ensures) (is_wrong m spec.for_header _ _ _ c.in_ok-next.ensures.ok kind.Header (rw (other_text _ _ _ _ c.as_slice.ensures c.eq.ensures c.if-eq.false) refl))
