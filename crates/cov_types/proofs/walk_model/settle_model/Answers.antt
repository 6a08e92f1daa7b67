use Rattle.std.proofs.Common.{◌≡◌, List, [], ap, refl, rules}
use Rattle.cov_model.specs.declared.model.Model.{Model}
use Rattle.cov_model.specs.Kinds.{Kind, Kinds}
use Rattle.cov_model.specs.Settled.{define_kinds, kinds_of, known, variable_kinds}
use Rattle.cov_types.proofs.Tells.{exit_tells}
use Rattle.cov_types.proofs.Walking.{assigns_tell_all, defines_tell, none_in_turn, paths_tell, put_together, same_table, states_tell}
use Rattle.cov_types.proofs.walk_model.settle_model.Goals as goal

pub settle_defines-requires : goal.settle_defines-requires
settle_defines-requires c = ap (λ (t : Kinds). t.defs) c.in_ok-kinds.ensures

pub returns-in_err-defines-clause-err : goal.returns-in_err-defines-clause-err
returns-in_err-defines-clause-err c =
    let m : Model = c.args.m in
    let vs : List Kind = c.in_ok-kinds.kinds.vars in
    let v : vs ≡ variable_kinds m = ap (λ (t : Kinds). t.vars) c.in_ok-kinds.ensures in
    exit_tells c.from_residual-in_err-defines.result c.in_err-defines.field-0.0 _ (search rules)
    (defines_tell m vs (known vs (define_kinds vs m.defines [])) v (same_table m vs (known vs (define_kinds vs m.defines [])) v refl) c.in_err-defines.field-0.0 c.in_err-defines.ensures.err)

pub returns-in_err-states-clause-err : goal.returns-in_err-states-clause-err
returns-in_err-states-clause-err c =
    let m : Model = c.args.m in
    let vs : List Kind = c.in_ok-kinds.kinds.vars in
    let ks : Kinds = c.settle_defines.new.kinds in
    let v : vs ≡ variable_kinds m = ap (λ (t : Kinds). t.vars) c.in_ok-kinds.ensures in
    let k : ks ≡ kinds_of m = same_table m vs ks v c.in_ok-defines.ensures.kinds in
    exit_tells c.from_residual-in_err-states.result c.in_err-states.field-0.0 _ (search rules)
    (states_tell m vs ks v k c.in_err-states.field-0.0 c.in_ok-defines.ensures.none c.in_err-states.ensures.err)

pub returns-in_err-assigns-clause-err : goal.returns-in_err-assigns-clause-err
returns-in_err-assigns-clause-err c =
    let m : Model = c.args.m in
    let vs : List Kind = c.in_ok-kinds.kinds.vars in
    let ks : Kinds = c.settle_defines.new.kinds in
    let v : vs ≡ variable_kinds m = ap (λ (t : Kinds). t.vars) c.in_ok-kinds.ensures in
    let k : ks ≡ kinds_of m = same_table m vs ks v c.in_ok-defines.ensures.kinds in
    exit_tells c.from_residual-in_err-assigns.result c.in_err-assigns.field-0.0 _ (search rules)
    (assigns_tell_all m vs ks v k c.in_err-assigns.field-0.0 c.in_ok-defines.ensures.none c.in_ok-states.ensures.none c.in_err-assigns.ensures.err)

pub returns-in_err-paths-clause-err : goal.returns-in_err-paths-clause-err
returns-in_err-paths-clause-err c =
    let m : Model = c.args.m in
    let vs : List Kind = c.in_ok-kinds.kinds.vars in
    let ks : Kinds = c.settle_defines.new.kinds in
    let v : vs ≡ variable_kinds m = ap (λ (t : Kinds). t.vars) c.in_ok-kinds.ensures in
    let k : ks ≡ kinds_of m = same_table m vs ks v c.in_ok-defines.ensures.kinds in
    exit_tells c.from_residual-in_err-paths.result c.in_err-paths.field-0.0 _ (search rules)
    (paths_tell m vs ks v k c.in_err-paths.field-0.0 c.in_ok-defines.ensures.none c.in_ok-states.ensures.none c.in_ok-assigns.ensures.none c.in_err-paths.ensures.err)

pub returns : goal.returns
returns c =
    let m : Model = c.args.m in
    let vs : List Kind = c.in_ok-kinds.kinds.vars in
    let ks : Kinds = c.settle_defines.new.kinds in
    let v : vs ≡ variable_kinds m = ap (λ (t : Kinds). t.vars) c.in_ok-kinds.ensures in
    let k : ks ≡ kinds_of m = same_table m vs ks v c.in_ok-defines.ensures.kinds in
    record {
      none = none_in_turn m vs ks v k c.in_ok-defines.ensures.none c.in_ok-states.ensures.none c.in_ok-assigns.ensures.none c.in_ok-paths.ensures.none;
      settled = put_together m vs ks _ _ _ _ _ _ _ _ _ v k
          c.in_ok-defines.ensures.settled
          c.in_ok-states.ensures.inits
          c.in_ok-states.ensures.invars
          c.in_ok-assigns.ensures.nows
          c.in_ok-assigns.ensures.firsts
          c.in_ok-assigns.ensures.nexts
          c.in_ok-paths.ensures.trans
          c.in_ok-paths.ensures.fair
          c.in_ok-paths.ensures.specs;
      kinds = k;
      err = tt;
    }
