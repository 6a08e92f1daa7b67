use Rattle.cov_coverage.proofs.Standing.{cut_fault, cut_kept}
use Rattle.cov_coverage.proofs.section.put_section.Goals as goal

pub returns-clause-kept : goal.returns-clause-kept
returns-clause-kept c =
    cut_kept c.section_steps-put.result c.args.sys.now c.section_steps-put.new.sys c.cut.new.self c.sets-n.result c.sets-n.ensures c.section_steps-put.ensures.kept c.section_steps-put.ensures.behind c.cut.ensures

pub returns-clause-err : goal.returns-clause-err
returns-clause-err c =
    cut_fault c.section_steps-put.result c.args.sys.now.space c.section_steps-put.new.sys.space c.cut.new.self c.sets-n.result c.sets-n.ensures c.section_steps-put.ensures.err c.cut.ensures
