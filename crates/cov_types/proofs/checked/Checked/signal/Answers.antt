use Rattle.std.proofs.Common.{◌≡◌, ◌≤◌, ℕ, Bool, List, length, sym, ap, subst, ◌∙◌, arith}
use Rattle.std.specs.Prelude.{IsFalse, slice_get, Some}
use Rattle.std.specs.Bool.{then_some}
use Rattle.cov_model.specs.declared.model.Var.{Var}
use Rattle.cov_model.specs.declared.model.Define.{Define}
use Rattle.cov_model.specs.declared.model.Model.{Model}
use Rattle.cov_model.specs.declared.model.Signal.TheVariants as signal
use Rattle.cov_model.specs.Kinds.{Kinds, is_boolean, kind_at}
use Rattle.cov_model.specs.Order.{has}
use Rattle.cov_types.specs.Signals.{define_names, variable_names}
use Rattle.cov_types.proofs.Naming.{few_defines, few_variables, no_answer, of_define, of_neither, of_variable, seen_answer}
use Rattle.cov_types.proofs.checked.Checked.signal.Goals as goal

pub variable_named-requires : goal.variable_named-requires
variable_named-requires c = omega (arith, few_variables c.self.inside.model c.self.invariant.checked.flat, ap (λ (vs : List Var). length vs) c.as_slice.ensures, c.len-names.ensures.value)

pub returns-in-Some : goal.returns-in-Some
returns-in-Some c = λ q.
    let m : Model = c.self.inside.model in
    let here : slice_get (variable_names m.vars) c.in-Some.i ≡ Some c.in_ok-number.number = ap (λ (vs : List Var). slice_get (variable_names vs) c.in-Some.i) (sym c.as_slice.ensures) ∙ c.in-Some.ensures.found in
    seen_answer m c.args.self.now c.args.name.now q c.then_some.result _ c.self.view_is
    (c.then_some.ensures ∙ ap (λ (b : Bool). then_some b (signal.Var c.in-Some.i)) (c.is_boolean_variable.ensures ∙ ap (λ (ks : Kinds). is_boolean (kind_at ks.vars c.in-Some.i)) c.self.invariant.checked.kinds))
    (of_variable m c.self.invariant.checked.flat c.len-names.ensures.distinct c.args.name.now c.in_ok-number.number c.in_ok-number.ensures.found c.in-Some.i here q)

pub define_named-requires : goal.define_named-requires
define_named-requires c = omega (arith, few_defines c.self.inside.model c.self.invariant.checked.flat, ap (λ (ds : List Define). length ds) c.as_slice-in-None.ensures, c.len-names.ensures.value)

pub returns-in_err-i-in-None : goal.returns-in_err-i-in-None
returns-in_err-i-in-None c = λ q.
    let m : Model = c.self.inside.model in
    let n : ℕ = c.in_ok-number.number in
    let no_variable : IsFalse (has (variable_names m.vars) n) = subst (λ (vs : List Var). IsFalse (has (variable_names vs) n)) c.as_slice.ensures c.in-None.ensures.none in
    let no_define : IsFalse (has (define_names m.defines) n) = subst (λ (ds : List Define). IsFalse (has (define_names ds) n)) c.as_slice-in-None.ensures c.in_err-i-in-None.ensures.none in
    no_answer m c.args.self.now c.args.name.now q c.from_residual-in_err-i-in-None.result c.self.view_is c.from_residual-in_err-i-in-None.ensures
    (of_neither m c.self.invariant.checked.flat c.len-names.ensures.distinct c.args.name.now n c.in_ok-number.ensures.found no_variable no_define q)

pub returns-in_ok-i-in-None : goal.returns-in_ok-i-in-None
returns-in_ok-i-in-None c = λ q.
    let m : Model = c.self.inside.model in
    let here : slice_get (define_names m.defines) c.in_ok-i-in-None.i ≡ Some c.in_ok-number.number = ap (λ (ds : List Define). slice_get (define_names ds) c.in_ok-i-in-None.i) (sym c.as_slice-in-None.ensures) ∙ c.in_ok-i-in-None.ensures.found in
    seen_answer m c.args.self.now c.args.name.now q c.then_some-in-None.result _ c.self.view_is
    (c.then_some-in-None.ensures ∙ ap (λ (b : Bool). then_some b (signal.Def c.in_ok-i-in-None.i)) (c.is_boolean_define.ensures ∙ ap (λ (ks : Kinds). is_boolean (kind_at ks.defs c.in_ok-i-in-None.i)) c.self.invariant.checked.kinds))
    (of_define m c.self.invariant.checked.flat c.len-names.ensures.distinct c.args.name.now c.in_ok-number.number c.in_ok-number.ensures.found c.in_ok-i-in-None.i here q)
