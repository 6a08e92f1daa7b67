use Rattle.std.proofs.lemmas.Result.{err_from_is_err_and}
use Rattle.cov_jobs.proofs.Faults.{of_named}
use Rattle.cov_jobs.proofs.coverage.coverage_report.Goals as goal

pub returns-in_err-specification_report-clause-err : goal.returns-in_err-specification_report-clause-err
returns-in_err-specification_report-clause-err c =
    let p = err_from_is_err_and c.from_residual-in_err-specification_report.result c.from_residual-in_err-specification_report.ensures.1 in
    rw (p.1, p.2) (of_named c.args.m.now c.args.names.now c.in_ok-name_signals.field-0 c.args.opts.nodes c.args.meter.now c.specification_report.new.meter c.in_err-specification_report.field-0.0 c.in_ok-name_signals.ensures.ok
    c.in_err-specification_report.ensures.err)
