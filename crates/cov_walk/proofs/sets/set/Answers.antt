use Rattle.std.proofs.Common.{rules, not, List, map, Bool, Option, ap, subst, ◌∙◌}
use Rattle.cov_syntax.specs.declared.tree.Span.{Span}
use Rattle.cov_syntax.specs.declared.fault.ModelFault.{ModelFault}
use Rattle.cov_syntax.specs.declared.tree.Node.{Node}
use Rattle.cov_model.specs.Kinds.{Kind, joined_kind}
use Rattle.cov_model.specs.Walk.{Judged, May, compound, tests_of_set, fault_if, set_place}
use Rattle.cov_kinds.specs.Seen.{seen, IsKindOrWide}
use Rattle.cov_walk.specs.Misfits.{IsUnless, kind_told}
use Rattle.cov_walk.specs.Places.{may_of, asked}
use Rattle.cov_walk.proofs.Firsts.{told_first, told_second, told_third}
use Rattle.cov_walk.proofs.Simple.{answers_told, wide_told, taken}
use Rattle.cov_walk.proofs.Compound.{set_tests, members_tests, compound_found, three_none}
use Rattle.cov_walk.proofs.sets.set.Goals as goal

abbrev owns : List Judged → Kind
owns js = joined_kind (map (λ (j : Judged). j.own) js)

abbrev the_set : Span → Node → (Bool → Node) → List Judged → Judged
the_set place m settled js = compound place m (owns js) js (tests_of_set place js) settled

abbrev here : Span → May → Option ModelFault
here place may = fault_if (not may.set) set_place place

pub returns-in_err-refuse_if : goal.returns-in_err-refuse_if
returns-in_err-refuse_if c js m settled h none =
    let may : May = may_of c.args.at.may in
    let z = c.in_err-refuse_if.field-0.0 in
    answers_told (the_set c.args.at.place m settled js) may c.from_residual.result z (search rules)
    (told_first _ _ _ _ z (set_tests c.args.at.place may js c.args.members h none) c.in_err-refuse_if.ensures)

pub returns-in_err-refuse_misfit : goal.returns-in_err-refuse_misfit
returns-in_err-refuse_misfit c js m settled h none =
    let may : May = may_of c.args.at.may in
    let z = c.in_err-refuse_misfit.field-0.0 in
    answers_told (the_set c.args.at.place m settled js) may c.from_residual-in_err-refuse_misfit.result z (search rules)
    (told_second _ _ _ _ z
    (members_tests c.args.at.place may js c.args.members (asked c.truth_if.result) c.some_boolean.result h none c.some_boolean.ensures c.truth_if.ensures)
    c.in_ok-refuse_if.ensures c.in_err-refuse_misfit.ensures)

pub returns-in-None : goal.returns-in-None
returns-in-None c js m settled h none =
    let may : May = may_of c.args.at.may in
    told_third _ _ _ _ c.too_wide.result
    (members_tests c.args.at.place may js c.args.members (asked c.truth_if.result) c.some_boolean.result h none c.some_boolean.ensures c.truth_if.ensures)
    c.in_ok-refuse_if.ensures c.in_ok-refuse_misfit.ensures
    (wide_told c.in_ok-joined.field-0 (joined_kind (map seen c.args.members.kinds)) c.args.at.place c.too_wide.result c.in-None.is (rw c.as_slice.ensures at c.in_ok-joined.ensures) c.too_wide.ensures)

pub returns : goal.returns
returns c js m settled h none =
    let may : May = may_of c.args.at.may in
    let place : Span = c.args.at.place in
    let w : IsKindOrWide c.in_ok-joined.field-0 (joined_kind (map seen c.args.members.kinds)) = rw c.as_slice.ensures at c.in_ok-joined.ensures in
    let s = taken c.in_ok-joined.field-0 c.in-Some.own (joined_kind (map seen c.args.members.kinds)) c.in-Some.is w in
    let k = ap joined_kind h.kinds in
    compound_found place m (owns js) js (tests_of_set place js) settled may c.new.result c.args.members.misfits
    (members_tests place may js c.args.members (asked c.truth_if.result) c.some_boolean.result h none c.some_boolean.ensures c.truth_if.ensures
    ∙ three_none place (here place may) (kind_told (asked c.truth_if.result) c.args.members.misfits) (joined_kind (map seen c.args.members.kinds)) c.in_ok-refuse_if.ensures c.in_ok-refuse_misfit.ensures s.1)
    (ap seen c.new.ensures.own ∙ s.0 ∙ k)
    h.misfits
    (subst (λ (l : Kind). IsUnless l c.args.members.misfits c.new.result.misfits) (s.0 ∙ k) c.new.ensures.misfits)
