use Rattle.std.proofs.Common.{◌≡◌, ◌∙◌, sym, ap, get_or, cond, true, false}
use Rattle.std.specs.Prelude.{◌==◌}
use Rattle.cov_syntax.specs.declared.program.When.TheVariants as when
use Rattle.cov_flat.specs.declared.doubles.Assigned.{Assigned}
use Rattle.cov_flat.specs.declared.forms.Forms.{Forms}
use Rattle.cov_flat.specs.Doubles as spec
use Rattle.cov_flat.specs.Tables.{forms_in}
use Rattle.cov_flat.proofs.DoubleLemmas.{double_hit, double_miss, table_put}
use Rattle.cov_flat.proofs.doubles.double.Goals as goal

pub returns-then-exclude : goal.returns-then-exclude
returns-then-exclude c =
    let d : Assigned = record { when = when.Now; var = 0; place = record { start = 0; stop = 0 } } in
    let a : Assigned = get_or c.args.assigned.now c.loop-a.a-index d in
    let hit : spec.excludes_form (forms_in c.loop-a.table a.var) a.when ≡ true
    = ap (λ f. spec.excludes_form f a.when) (sym c.get-forms.ensures) ∙ sym c.exclude.ensures ∙ c.if-exclude.true in
    sym (double_hit c.args.assigned.now c.loop-a.a-index d c.loop-a-test.true (forms_in c.loop-a.table) c.loop-a.invariant.0 hit) ∙ c.loop-a.invariant.1

pub loop-a-preserved : goal.loop-a-preserved
loop-a-preserved c =
    let d : Assigned = record { when = when.Now; var = 0; place = record { start = 0; stop = 0 } } in
    let a : Assigned = get_or c.args.assigned.now c.loop-a.a-index d in
    let miss : spec.excludes_form (forms_in c.loop-a.table a.var) a.when ≡ false
    = ap (λ f. spec.excludes_form f a.when) (sym c.get-forms.ensures) ∙ sym c.exclude.ensures ∙ c.if-exclude.false in
    let forms : c.with.result ≡ spec.with_form a.when (forms_in c.loop-a.table a.var) = c.with.ensures ∙ ap (spec.with_form a.when) c.get-forms.ensures in (
      table_put c.args.assigned.now c.loop-a.a-index d c.loop-a-test.true (forms_in c.loop-a.table) c.loop-a.invariant.0 (forms_in c.put.new.self)
          (λ j. c.in_ok-put.ensures j ∙ ap (λ (f : Forms). cond (a.var == j) f (forms_in c.loop-a.table j)) forms),
      double_miss c.args.assigned.now c.loop-a.a-index d c.loop-a-test.true (forms_in c.loop-a.table) c.loop-a.invariant.0 miss ∙ c.loop-a.invariant.1,
    )
