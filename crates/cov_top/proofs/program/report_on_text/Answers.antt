use Rattle.cov_top.proofs.ReadLemmas.{stop-exit, text-stop}
use Rattle.cov_top.proofs.ReplayLemmas.{alone-report, replay-report, replay-stopped}
use Rattle.cov_top.proofs.program.report_on_text.Goals as goal

pub returns-in-None-clause-ok : goal.returns-in-None-clause-ok
returns-in-None-clause-ok c = λ bytes e.
    alone-report c.args.job.now c.args.text.now _ c.in_ok-model.ensures.ok c.args.evidence.now c.in-None.is bytes e _ _ c.in_ok-job_report-in-None.ensures.ok

pub returns-in_err-job_report-in-None-clause-err : goal.returns-in_err-job_report-in-None-clause-err
returns-in_err-job_report-in-None-clause-err c = λ bytes e.
    stop-exit c.from_residual-in_err-job_report-in-None.result _ c.in_err-job_report-in-None.field-0.0 c.from_residual-in_err-job_report-in-None.ensures.1
    (text-stop c.args.job.now c.args.text.now _ c.in_ok-model.ensures.ok (c.requires.alone c.in-None.is) bytes _ _ _ c.in_err-job_report-in-None.ensures.err)

pub returns-clause-ok : goal.returns-clause-ok
returns-clause-ok c =
    replay-report c.args.job.now c.args.text.now _ c.in_ok-model.ensures.ok c.args.evidence.now c.in-Some.input c.in-Some.is c.replay_on.result c.replay_on.ensures.ok

pub returns-clause-err : goal.returns-clause-err
returns-clause-err c =
    replay-stopped c.args.job.now c.args.text.now _ c.in_ok-model.ensures.ok c.args.evidence.now c.in-Some.input c.in-Some.is c.replay_on.result _ c.replay_on.ensures.err
