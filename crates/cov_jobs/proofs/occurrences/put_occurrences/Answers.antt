use Rattle.std.proofs.Common.{◌≡◌, refl, sym, ◌∙◌, subst, arith}
use Rattle.cov_logic.specs.Occurrence as logic
use Rattle.cov_ctl.specs.Formulas.{formula_of}
use Rattle.cov_ctl.specs.Sizes as sizes
use Rattle.cov_ctl.proofs.FormulaLaws.{size_of}
use Rattle.cov_hold.specs.Prepared.{IsPrepared}
use Rattle.cov_sym.specs.declared.sys.Sys.{Sys}
use Rattle.cov_jobs.proofs.SectionLemmas.{no_line, next_line}
use Rattle.cov_jobs.proofs.occurrences.put_occurrences.Goals as goal

pub loop-k-init : goal.loop-k-init
loop-k-init c = record { same = refl; lines = no_line c.args.m.now c.args.f.now c.args.into.now }

pub put_occurrence-requires-clause-prepared : goal.put_occurrence-requires-clause-prepared
put_occurrence-requires-clause-prepared c = subst (λ (z : Sys). IsPrepared c.args.m.now z) (sym c.loop-k.invariant.same) c.requires.prepared

pub put_occurrence-requires-clause-occurrence : goal.put_occurrence-requires-clause-occurrence
put_occurrence-requires-clause-occurrence c =
    let e : sizes.size c.args.f.now ≡ logic.size (formula_of c.args.f.now) = size_of c.args.f.now in
    let s = c.size-k-end.ensures in
    let t = c.loop-k-test.true in
    (omega arith, omega arith)

pub loop-k-preserved : goal.loop-k-preserved
loop-k-preserved c = record {
  same = c.in_ok-put_occurrence.ensures.kept ∙ c.loop-k.invariant.same;
  lines = next_line c.args.m.now c.args.f.now c.loop-k.k c.args.into.now c.loop-k.into c.put_occurrence.new.into c.loop-k.invariant.lines c.in_ok-put_occurrence.ensures.ok;
}
