use Rattle.std.proofs.Common.{◌≡◌, List, [], ◌∷◌, ◌++◌, map, Option, None, sym, ap, subst, ◌∙◌, rules}
use Rattle.cov_syntax.specs.declared.tree.Expr.{Expr}
use Rattle.cov_syntax.specs.declared.fault.ModelFault.{ModelFault}
use Rattle.cov_model.specs.declared.model.Model.{Model}
use Rattle.cov_model.specs.declared.model.Var.{Var}
use Rattle.cov_model.specs.Accepted.{unless_fault}
use Rattle.cov_model.specs.Kinds.{Kinds}
use Rattle.cov_model.specs.Order.{circular, ordered}
use Rattle.cov_model.specs.Settled.{kinds_of, settled_model, walk_fault}
use Rattle.cov_model.specs.Types.{bits_fault, type_fault}
use Rattle.cov_model.specs.Walk.{first}
use Rattle.cov_model.specs.Written.{formula_fault}
use Rattle.cov_order.proofs.FlatOrder.{flat_there}
use Rattle.cov_walk.specs.Found.{TellsFault}
use Rattle.cov_types.specs.Checking.{IsChecked}
use Rattle.cov_types.proofs.Accepting.{Passes, is_answer, is_checked, same_small}
use Rattle.cov_types.proofs.Tells.{circle_tells, exit_tells, tells_before, tells_behind, tells_front, tells_next}
use Rattle.cov_types.proofs.check.check_and_settle.Goals as goal

pub put_in_order-requires : goal.put_in_order-requires
put_in_order-requires c = record { few = c.requires.few_defines; there = flat_there c.args.m c.requires }

pub returns-in_err-check_types-clause-err : goal.returns-in_err-check_types-clause-err
returns-in_err-check_types-clause-err c =
    let m : Model = c.args.m in
    exit_tells c.from_residual.result c.in_err-check_types.field-0.0 _ (search rules)
    (tells_before (map type_fault m.vars) (bits_fault 0 m.vars ∷ circular m.defines ∷ walk_fault (ordered m) ∷ map formula_fault m.specs) c.in_err-check_types.field-0.0
    (subst (λ (vs : List Var). TellsFault (first (map type_fault vs)) c.in_err-check_types.field-0.0) c.as_slice.ensures c.in_err-check_types.ensures.err))

pub returns-in_err-check_bits-clause-err : goal.returns-in_err-check_bits-clause-err
returns-in_err-check_bits-clause-err c =
    let m : Model = c.args.m in
    let types : first (map type_fault m.vars) ≡ None = ap (λ (vs : List Var). first (map type_fault vs)) (sym c.as_slice.ensures) ∙ c.in_ok-check_types.ensures.none in
    let rest : List (Option ModelFault) = circular m.defines ∷ walk_fault (ordered m) ∷ map formula_fault m.specs in
    exit_tells c.from_residual-in_err-check_bits.result c.in_err-check_bits.field-0.0 _ (search rules)
    (tells_behind (map type_fault m.vars) (bits_fault 0 m.vars ∷ rest) c.in_err-check_bits.field-0.0 types
    (tells_front (bits_fault 0 m.vars) rest c.in_err-check_bits.field-0.0
    (subst (λ (vs : List Var). TellsFault (bits_fault 0 vs) c.in_err-check_bits.field-0.0) c.as_slice-2.ensures c.in_err-check_bits.ensures.err)))

pub returns-in_err-ordered-clause-err : goal.returns-in_err-ordered-clause-err
returns-in_err-ordered-clause-err c =
    let m : Model = c.args.m in
    let types : first (map type_fault m.vars) ≡ None = ap (λ (vs : List Var). first (map type_fault vs)) (sym c.as_slice.ensures) ∙ c.in_ok-check_types.ensures.none in
    let few : bits_fault 0 m.vars ≡ None = ap (bits_fault 0) (sym c.as_slice-2.ensures) ∙ c.in_ok-check_bits.ensures.none in
    let rest : List (Option ModelFault) = walk_fault (ordered m) ∷ map formula_fault m.specs in
    exit_tells c.from_residual-in_err-ordered.result c.in_err-ordered.field-0.0 _ (search rules)
    (tells_behind (map type_fault m.vars) (bits_fault 0 m.vars ∷ circular m.defines ∷ rest) c.in_err-ordered.field-0.0 types
    (tells_next (bits_fault 0 m.vars) (circular m.defines ∷ rest) c.in_err-ordered.field-0.0 few
    (tells_front (circular m.defines) rest c.in_err-ordered.field-0.0 (circle_tells m.defines c.in_err-ordered.field-0.0 c.in_err-ordered.ensures.fault))))

pub returns-in_err-settled-clause-err : goal.returns-in_err-settled-clause-err
returns-in_err-settled-clause-err c =
    let m : Model = c.args.m in
    let types : first (map type_fault m.vars) ≡ None = ap (λ (vs : List Var). first (map type_fault vs)) (sym c.as_slice.ensures) ∙ c.in_ok-check_types.ensures.none in
    let few : bits_fault 0 m.vars ≡ None = ap (bits_fault 0) (sym c.as_slice-2.ensures) ∙ c.in_ok-check_bits.ensures.none in
    let formulas : List (Option ModelFault) = map formula_fault m.specs in
    exit_tells c.from_residual-in_err-settled.result c.in_err-settled.field-0.0 _ (search rules)
    (tells_behind (map type_fault m.vars) (bits_fault 0 m.vars ∷ circular m.defines ∷ walk_fault (ordered m) ∷ formulas) c.in_err-settled.field-0.0 types
    (tells_next (bits_fault 0 m.vars) (circular m.defines ∷ walk_fault (ordered m) ∷ formulas) c.in_err-settled.field-0.0 few
    (tells_next (circular m.defines) (walk_fault (ordered m) ∷ formulas) c.in_err-settled.field-0.0 c.in_ok-ordered.ensures.no_circle
    (tells_front (walk_fault (ordered m)) formulas c.in_err-settled.field-0.0
    (subst (λ (o : Model). TellsFault (walk_fault o) c.in_err-settled.field-0.0) c.in_ok-ordered.ensures.ok c.in_err-settled.ensures.err)))))

pub returns-in_err-check_formulas-clause-err : goal.returns-in_err-check_formulas-clause-err
returns-in_err-check_formulas-clause-err c =
    let m : Model = c.args.m in
    let types : first (map type_fault m.vars) ≡ None = ap (λ (vs : List Var). first (map type_fault vs)) (sym c.as_slice.ensures) ∙ c.in_ok-check_types.ensures.none in
    let few : bits_fault 0 m.vars ≡ None = ap (bits_fault 0) (sym c.as_slice-2.ensures) ∙ c.in_ok-check_bits.ensures.none in
    let formulas : List (Option ModelFault) = map formula_fault m.specs in
    let walked : walk_fault (ordered m) ≡ None = ap walk_fault (sym c.in_ok-ordered.ensures.ok) ∙ c.in_ok-settled.ensures.none in
    let is : c.in_ok-settled.settled.model ≡ settled_model (ordered m) = c.in_ok-settled.ensures.settled ∙ ap settled_model c.in_ok-ordered.ensures.ok in
    let specs : map formula_fault c.as_slice-3.result.now ≡ formulas
    = ap (λ (es : List Expr). map formula_fault es) c.as_slice-3.ensures ∙ ap (λ (n : Model). map formula_fault n.specs) is ∙ same_small m in
    exit_tells c.from_residual-in_err-check_formulas.result c.in_err-check_formulas.field-0.0 _ (search rules)
    (tells_behind (map type_fault m.vars) (bits_fault 0 m.vars ∷ circular m.defines ∷ walk_fault (ordered m) ∷ formulas) c.in_err-check_formulas.field-0.0 types
    (tells_next (bits_fault 0 m.vars) (circular m.defines ∷ walk_fault (ordered m) ∷ formulas) c.in_err-check_formulas.field-0.0 few
    (tells_next (circular m.defines) (walk_fault (ordered m) ∷ formulas) c.in_err-check_formulas.field-0.0 c.in_ok-ordered.ensures.no_circle
    (tells_next (walk_fault (ordered m)) formulas c.in_err-check_formulas.field-0.0 walked
    (subst (λ (fs : List (Option ModelFault)). TellsFault (first fs) c.in_err-check_formulas.field-0.0) specs c.in_err-check_formulas.ensures.err)))))

pub returns : goal.returns
returns c =
    let m : Model = c.args.m in
    let is : c.in_ok-settled.settled.model ≡ settled_model (ordered m) = c.in_ok-settled.ensures.settled ∙ ap settled_model c.in_ok-ordered.ensures.ok in
    let kinds : c.in_ok-settled.settled.kinds ≡ kinds_of (ordered m) = c.in_ok-settled.ensures.kinds ∙ ap kinds_of c.in_ok-ordered.ensures.ok in
    record {
      ok = is_answer m (record {
        flat = c.requires;
        types = ap (λ (vs : List Var). first (map type_fault vs)) (sym c.as_slice.ensures) ∙ c.in_ok-check_types.ensures.none;
        few_bits = ap (bits_fault 0) (sym c.as_slice-2.ensures) ∙ c.in_ok-check_bits.ensures.none;
        no_circle = c.in_ok-ordered.ensures.no_circle;
        walked = ap walk_fault (sym c.in_ok-ordered.ensures.ok) ∙ c.in_ok-settled.ensures.none;
        small = ap (λ (n : Model). first (map formula_fault n.specs)) (sym is) ∙ ap (λ (es : List Expr). first (map formula_fault es)) (sym c.as_slice-3.ensures) ∙ c.in_ok-check_formulas.ensures.none;
      }) ∙ ap (λ (n : Model). unless_fault None n) (sym is);
      checked = subst (λ (ks : Kinds). IsChecked c.in_ok-settled.settled.model ks) (sym kinds)
          (subst (λ (n : Model). IsChecked n (kinds_of (ordered m))) (sym is)
          (is_checked m (record {
            flat = c.requires;
            types = ap (λ (vs : List Var). first (map type_fault vs)) (sym c.as_slice.ensures) ∙ c.in_ok-check_types.ensures.none;
            few_bits = ap (bits_fault 0) (sym c.as_slice-2.ensures) ∙ c.in_ok-check_bits.ensures.none;
            no_circle = c.in_ok-ordered.ensures.no_circle;
            walked = ap walk_fault (sym c.in_ok-ordered.ensures.ok) ∙ c.in_ok-settled.ensures.none;
            small = ap (λ (n : Model). first (map formula_fault n.specs)) (sym is) ∙ ap (λ (es : List Expr). first (map formula_fault es)) (sym c.as_slice-3.ensures) ∙ c.in_ok-check_formulas.ensures.none;
          })));
      err = tt;
    }
