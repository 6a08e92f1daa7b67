use Rattle.cov_jobs.proofs.SectionLemmas.{section_put}
use Rattle.cov_jobs.proofs.sections.put_formula.Goals as goal

pub returns-clause-ok : goal.returns-clause-ok
returns-clause-ok c = λ spec there is.
    section_put c.spec_line.result c.args.detail.now c.args.m.now c.model.result.now c.args.place c.number_of-number.result c.in_ok-passes.passes spec c.args.f.now c.args.into.now c.spec_line.new.into c.put_details.new.into
    c.if-is_err.ensures.value c.model.ensures.value c.number_of-number.ensures there is c.in_ok-passes.ensures.ok c.spec_line.ensures.ok c.in_ok-put_details.ensures.ok
