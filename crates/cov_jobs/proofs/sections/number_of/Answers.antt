use Rattle.std.proofs.Common.{arith}
use Rattle.cov_jobs.proofs.SectionLemmas.{few_specs}
use Rattle.cov_jobs.proofs.sections.number_of.Goals as goal

pub overflow_cast-before : goal.overflow_cast-before
overflow_cast-before c =
    let few = few_specs c.args.m.now c.model-model.ensures.flat in
    let there = c.requires in
    omega arith
