use Rattle.cov_jobs.proofs.StatesLemmas.{call-fault, untold}
use Rattle.cov_jobs.proofs.specifications.told_report.Goals as goal

pub returns-clause-err : goal.returns-clause-err
returns-clause-err c =
    call-fault c.report_on-report.result c.args.m.now c.args.opts.nodes c.args.sys c.report_on-report.new.sys.space _ _ c.requires.built c.report_on-report.ensures.err c.tell.ensures

pub returns-clause-untold : goal.returns-clause-untold
returns-clause-untold c = untold c.report_on-report.result c.args.sys c.report_on-report.new.sys _ _ c.requires.built.unrefused c.report_on-report.ensures.kept c.tell.ensures
