use Rattle.std.proofs.Common.{refl, ◌∙◌}
use Rattle.cov_ctl.specs.Formulas.{formula_of}
use Rattle.cov_coverage.proofs.Writing.{no_section, one_section_more}
use Rattle.cov_coverage.proofs.sections.put_signals.Goals as goal

pub loop-named-init : goal.loop-named-init
loop-named-init c = record { same = refl; sections = no_section c.args.limit c.args.m.now (formula_of c.args.f.now) c.args.into.now }

pub loop-named-preserved : goal.loop-named-preserved
loop-named-preserved c = record {
  same = c.in_ok-put_section.ensures.kept ∙ c.loop-named.invariant.same;
  sections =
      one_section_more c.args.limit c.args.m.now (formula_of c.args.f.now) c.as_slice-named-items.result.now c.loop-named.named-index c.named-item.result c.args.into.now c.loop-named.into c.put_section.new.into
      c.loop-named-test.true c.named-item.is c.loop-named.invariant.sections c.in_ok-put_section.ensures.ok;
}
