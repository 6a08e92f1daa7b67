use Rattle.std.proofs.Common.{IfErr, sym, subst}
use Rattle.cov_jobs.specs.Faults.{IsJobFault}
use Rattle.cov_jobs.proofs.Faults.{covered_fault}
use Rattle.cov_jobs.proofs.report.job_report.Goals as goal

pub returns-in-Cover-clause-err : goal.returns-in-Cover-clause-err
returns-in-Cover-clause-err c =
    subst (λ j. IfErr c.coverage_report.result (IsJobFault j c.args.m.now c.args.meter.now c.coverage_report.new.meter)) (sym c.in-Cover.is)
    (covered_fault c.coverage_report.result c.args.m.now c.in-Cover.model c.in-Cover.signals c.in-Cover.opts c.args.meter.now c.coverage_report.new.meter c.coverage_report.ensures.err)
