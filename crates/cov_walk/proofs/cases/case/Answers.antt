use Rattle.std.proofs.Common.{rules, Bool, List, ap, subst, ◌∙◌}
use Rattle.cov_syntax.specs.declared.tree.Span.{Span}
use Rattle.cov_syntax.specs.declared.tree.Node.{Node}
use Rattle.cov_model.specs.Kinds.{Kind}
use Rattle.cov_model.specs.Walk.{Judged, May, compound, case_own, bodies, tests_of_case}
use Rattle.cov_kinds.specs.Seen.{seen, IsKindOrWide}
use Rattle.cov_walk.specs.Misfits.{IsUnless}
use Rattle.cov_walk.specs.Places.{may_of}
use Rattle.cov_walk.proofs.Firsts.{told_first, told_second, told_third}
use Rattle.cov_walk.proofs.Simple.{answers_told, wide_told, taken}
use Rattle.cov_walk.proofs.Compound.{joined_of, arms_tests, compound_found, three_none}
use Rattle.cov_walk.proofs.cases.case.Goals as goal

abbrev the_case : Span → Node → (Bool → Node) → List (Judged × Judged) → Judged
the_case place m settled bs = compound place m (case_own bs) (bodies bs) (tests_of_case place bs) settled

pub returns-in_err-refuse_at : goal.returns-in_err-refuse_at
returns-in_err-refuse_at c bs m settled h none e =
    let may : May = may_of c.args.at.may in
    let z = c.in_err-refuse_at.field-0.0 in
    let w : IsKindOrWide c.in_ok-own.own (case_own bs) = joined_of c.args.arms.bodies.kinds (bodies bs) c.in_ok-own.own c.as_slice.result.now h.bodies.kinds c.as_slice.ensures c.in_ok-own.ensures in
    answers_told (the_case c.args.at.place m settled bs) may c.from_residual-in_err-refuse_at.result z (search rules)
    (told_first _ _ _ _ z (arms_tests c.args.at.place may bs c.args.arms c.is_boolean.result c.args.closed c.misfit.result h none (c.is_boolean.ensures (case_own bs) w) e c.misfit.ensures) c.in_err-refuse_at.ensures)

pub returns-in_err-refuse_if : goal.returns-in_err-refuse_if
returns-in_err-refuse_if c bs m settled h none e =
    let may : May = may_of c.args.at.may in
    let z = c.in_err-refuse_if.field-0.0 in
    let w : IsKindOrWide c.in_ok-own.own (case_own bs) = joined_of c.args.arms.bodies.kinds (bodies bs) c.in_ok-own.own c.as_slice.result.now h.bodies.kinds c.as_slice.ensures c.in_ok-own.ensures in
    answers_told (the_case c.args.at.place m settled bs) may c.from_residual-in_err-refuse_if.result z (search rules)
    (told_second _ _ _ _ z (arms_tests c.args.at.place may bs c.args.arms c.is_boolean.result c.args.closed c.misfit.result h none (c.is_boolean.ensures (case_own bs) w) e c.misfit.ensures) c.in_ok-refuse_at.ensures c.in_err-refuse_if.ensures)

pub returns-in-None : goal.returns-in-None
returns-in-None c bs m settled h none e =
    let may : May = may_of c.args.at.may in
    let w : IsKindOrWide c.in_ok-own.own (case_own bs) = joined_of c.args.arms.bodies.kinds (bodies bs) c.in_ok-own.own c.as_slice.result.now h.bodies.kinds c.as_slice.ensures c.in_ok-own.ensures in
    told_third _ _ _ _ c.too_wide.result
    (arms_tests c.args.at.place may bs c.args.arms c.is_boolean.result c.args.closed c.misfit.result h none (c.is_boolean.ensures (case_own bs) w) e c.misfit.ensures)
    c.in_ok-refuse_at.ensures c.in_ok-refuse_if.ensures
    (wide_told c.in_ok-own.own (case_own bs) c.args.at.place c.too_wide.result c.in-None.is w c.too_wide.ensures)

pub returns : goal.returns
returns c bs m settled h none e =
    let may : May = may_of c.args.at.may in
    let place : Span = c.args.at.place in
    let w : IsKindOrWide c.in_ok-own.own (case_own bs) = joined_of c.args.arms.bodies.kinds (bodies bs) c.in_ok-own.own c.as_slice.result.now h.bodies.kinds c.as_slice.ensures c.in_ok-own.ensures in
    let s = taken c.in_ok-own.own c.in-Some.own (case_own bs) c.in-Some.is w in
    compound_found place m (case_own bs) (bodies bs) (tests_of_case place bs) settled may c.new.result c.args.arms.bodies.misfits
    (arms_tests place may bs c.args.arms c.is_boolean.result c.args.closed c.misfit.result h none (c.is_boolean.ensures (case_own bs) w) e c.misfit.ensures
    ∙ three_none place _ _ (case_own bs) c.in_ok-refuse_at.ensures c.in_ok-refuse_if.ensures s.1)
    (ap seen c.new.ensures.own ∙ s.0)
    h.bodies.misfits
    (subst (λ (l : Kind). IsUnless l c.args.arms.bodies.misfits c.new.result.misfits) s.0 c.new.ensures.misfits)
