use Rattle.cov_words.specs.Words.{job}
use Rattle.cov_top.proofs.CompleteLemmas.{missing-report, refusal-complete, refusal-missing, refusal-unknown, report-complete}
use Rattle.cov_top.proofs.AskedLemmas.{unknown-report}
use Rattle.cov_top.proofs.NodesLemmas.{ample-short}
use Rattle.cov_top.proofs.FaultLemmas.{faulty-report, refusal-faulty}
use Rattle.cov_top.proofs.ReplayLemmas.{proves_claim, proves_nothing, replays_without_nodes}
use Rattle.cov_top.proofs.RunLemmas.{accepted-refusal, refused-report, short-refusal}
use Rattle.cov_top.proofs.program.run.Goals as goal

pub returns-in-Ok-clause-refused : goal.returns-in-Ok-clause-refused
returns-in-Ok-clause-refused g c = λ h.
    let no_report = refused-report (g.F.Files.told c.args.files.now) (job c.args.words.now) c.in-Ok.report.passes c.in-Ok.report.text h c.in-Ok.ensures.ok in
    (λ e. no_report, λ e. no_report, λ e. no_report)

pub returns-in-Ok-clause-complete : goal.returns-in-Ok-clause-complete
returns-in-Ok-clause-complete g c = λ ample read_well wrote_well.
    report-complete _ _ c.put_report.result c.put_report.ensures.which (λ e. (c.put_report.ensures.part e).1) wrote_well

pub returns-in-Err-clause-missing : goal.returns-in-Err-clause-missing
returns-in-Err-clause-missing g c = λ h. refusal-missing (g.F.Files.told c.args.files.now) _ _ (job c.args.words.now) _ _ c.in-Err.refusal.status c.in-Err.ensures.err.cause h

pub returns-in-Err-clause-accepted : goal.returns-in-Err-clause-accepted
returns-in-Err-clause-accepted g c = λ h. accepted-refusal (g.F.Files.told c.args.files.now) _ _ (job c.args.words.now) _ _ c.in-Err.refusal h c.in-Err.ensures.err

pub returns-in-Err-clause-enough : goal.returns-in-Err-clause-enough
returns-in-Err-clause-enough g c = λ ample full e.
    ample-short (g.F.Files.told c.args.files.now) (job c.args.words.now) _ _ full ample (short-refusal _ _ _ _ _ _ c.in-Err.refusal c.in-Err.ensures.err full e)

pub returns-in-Err-clause-complete : goal.returns-in-Err-clause-complete
returns-in-Err-clause-complete g c = λ ample read_well wrote_well.
    refusal-complete (g.F.Files.told c.args.files.now) _ _ (job c.args.words.now) _ _ c.in-Err.refusal.status c.in-Err.ensures.err.cause ample read_well

pub returns-in-Ok-clause-unknown : goal.returns-in-Ok-clause-unknown
returns-in-Ok-clause-unknown g c = λ a unknown calm.
    absurd (unknown-report (g.F.Files.told c.args.files.now) (job c.args.words.now) a c.in-Ok.report.passes c.in-Ok.report.text unknown c.in-Ok.ensures.ok)

pub returns-in-Err-clause-unknown : goal.returns-in-Err-clause-unknown
returns-in-Err-clause-unknown g c = λ a unknown calm.
    refusal-unknown (g.F.Files.told c.args.files.now) _ _ (job c.args.words.now) _ _ a c.in-Err.refusal.status c.in-Err.ensures.err.cause unknown calm

pub returns-in-Ok-clause-proved : goal.returns-in-Ok-clause-proved
returns-in-Ok-clause-proved g c = λ model evidence is e.
    proves_claim (g.F.Files.told c.args.files.now) (job c.args.words.now) model evidence c.in-Ok.report.passes c.in-Ok.report.text is c.in-Ok.ensures.ok (c.put_report.ensures.done e).0

pub returns-in-Ok-clause-unproved : goal.returns-in-Ok-clause-unproved
returns-in-Ok-clause-unproved g c = λ model evidence is e.
    proves_nothing (g.F.Files.told c.args.files.now) (job c.args.words.now) model evidence c.in-Ok.report.passes c.in-Ok.report.text is c.in-Ok.ensures.ok (c.put_report.ensures.fails e).0

pub returns-in-Err-clause-no_diagram : goal.returns-in-Err-clause-no_diagram
returns-in-Err-clause-no_diagram g c = λ full e model evidence is.
    replays_without_nodes (g.F.Files.told c.args.files.now) (job c.args.words.now) _ _ full model evidence is (short-refusal _ _ _ _ _ _ c.in-Err.refusal c.in-Err.ensures.err full e)

pub returns-in-Ok-clause-faulty : goal.returns-in-Ok-clause-faulty
returns-in-Ok-clause-faulty g c = λ f h calm.
    absurd (faulty-report (g.F.Files.told c.args.files.now) (job c.args.words.now) f c.in-Ok.report.passes c.in-Ok.report.text h c.in-Ok.ensures.ok)

pub returns-in-Err-clause-faulty : goal.returns-in-Err-clause-faulty
returns-in-Err-clause-faulty g c = λ f h calm.
    refusal-faulty (g.F.Files.told c.args.files.now) _ _ (job c.args.words.now) _ _ f c.in-Err.refusal.status c.in-Err.ensures.err.cause h calm

pub returns-in-Ok-clause-missing : goal.returns-in-Ok-clause-missing
returns-in-Ok-clause-missing g c = λ h.
    absurd (missing-report (g.F.Files.told c.args.files.now) (job c.args.words.now) c.in-Ok.report.passes c.in-Ok.report.text h c.in-Ok.ensures.ok)
