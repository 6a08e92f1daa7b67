use Rattle.cov_jobs.proofs.SectionLemmas.{line_put}
use Rattle.cov_jobs.proofs.occurrences.put_occurrence.Goals as goal

pub returns-clause-ok : goal.returns-clause-ok
returns-clause-ok c =
    line_put c.occurrence_line.result c.args.m.now c.model.result.now c.args.f.now c.args.number c.in_ok-vacuous.vacuous c.in-Some.part.now c.args.into.now c.occurrence_line.new.into c.if-is_err.ensures.value c.model.ensures.value
    c.in-Some.ensures.there c.in_ok-vacuous.ensures.ok c.occurrence_line.ensures.ok
