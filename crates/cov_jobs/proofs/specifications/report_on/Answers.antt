use Rattle.cov_coverage.proofs.Standing.{cut_fault, cut_kept}
use Rattle.cov_jobs.proofs.specifications.report_on.Goals as goal

pub returns-clause-kept : goal.returns-clause-kept
returns-clause-kept c =
    cut_kept c.report_steps-report.result c.args.sys.now c.report_steps-report.new.sys c.cut.new.self c.sets-n.result c.sets-n.ensures c.report_steps-report.ensures.same c.report_steps-report.ensures.behind c.cut.ensures

pub returns-clause-err : goal.returns-clause-err
returns-clause-err c =
    cut_fault c.report_steps-report.result c.args.sys.now.space c.report_steps-report.new.sys.space c.cut.new.self c.sets-n.result c.sets-n.ensures c.report_steps-report.ensures.err c.cut.ensures
