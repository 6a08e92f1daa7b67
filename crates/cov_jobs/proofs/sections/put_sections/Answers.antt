use Rattle.std.proofs.Common.{◌≡◌, ◌+◌, ◌&&◌, refl, sym, ◌∙◌, subst}
use Rattle.cov_hold.specs.Prepared.{IsPrepared}
use Rattle.cov_sym.specs.declared.sys.Sys.{Sys}
use Rattle.cov_jobs.proofs.SectionLemmas.{and_else, and_then, no_section, next_section}
use Rattle.cov_coverage.specs.Puts.{Puts}
use Rattle.cov_jobs.specs.Specifications.{AreSections}
use Rattle.cov_jobs.proofs.sections.put_sections.Goals.{then-passes, else-passes}
use Rattle.cov_jobs.proofs.sections.put_sections.Goals as goal

pub loop-place-init : goal.loop-place-init
loop-place-init c = record { same = refl; sections = no_section c.args.detail.now c.args.m.now c.args.into.now }

pub put_section-requires-clause-prepared : goal.put_section-requires-clause-prepared
put_section-requires-clause-prepared c = subst (λ (z : Sys). IsPrepared c.args.m.now z) (sym c.loop-place.invariant.same) c.requires.prepared

pub loop-place-preserved : goal.loop-place-preserved
loop-place-preserved c =
    let passes : c.if-passes.passes ≡ (c.loop-place.passes && c.in_ok-own.own) =
    elim c.if-passes.branch [
      | then-passes w ↦ and_then c.loop-place.passes c.in_ok-own.own c.if-passes.passes w.if-passes.true w.passes-is
      | else-passes w ↦ and_else c.loop-place.passes c.in_ok-own.own c.if-passes.passes w.if-passes.false (w.passes-is ∙ w.if-passes.false)
    ] in
    record {
      same = c.in_ok-own.ensures.kept ∙ c.loop-place.invariant.same;
      sections =
          subst (λ b. Puts c.args.into.now c.put_section.new.into (AreSections c.args.detail.now c.args.m.now (c.loop-place.place + 1) b)) (sym passes)
          (next_section c.args.detail.now c.args.m.now c.loop-place.place c.loop-place.passes c.in_ok-own.own c.args.into.now c.loop-place.into c.put_section.new.into c.loop-place.invariant.sections c.in_ok-own.ensures.ok);
    }
