use Rattle.std.proofs.Common.{◌≡◌, ℕ, ◌+◌, min, max, List, ◌∷◌, drop, get_or, sym, ap, ◌∙◌, arith, rules}
use Rattle.std.proofs.lemmas.List.{drop_more}
use Rattle.cov_syntax.specs.declared.tree.Expr.{Expr}
use Rattle.cov_model.specs.Written.{formula_size}
use Rattle.cov_types.specs.Roots as spec
use Rattle.cov_types.proofs.LoweredSizes.{lowered_formula}
use Rattle.cov_types.proofs.counts.greatest_size.Goals as goal

pub loop-e-preserved : goal.loop-e-preserved
loop-e-preserved c =
    let es : List Expr = c.as_slice-e-items.result.now in
    let i : ℕ = c.loop-e.e-index in
    let e : Expr = c.e-item.result in
    let split : drop i es ≡ e ∷ drop (i + 1) es = drop_more es i e c.loop-e-test.true ∙ ap (λ (d : Expr). d ∷ drop (i + 1) es) (sym c.e-item.is) in
    let here : spec.greatest_size (drop i es) ≡ max (formula_size e) (spec.greatest_size (drop (i + 1) es)) = ap spec.greatest_size split in
    let size : c.lowered_size.result ≡ min (formula_size e) 4097 = c.lowered_size.ensures ∙ ap (λ (k : ℕ). min k 4097) (sym (lowered_formula e)) in
    let new : c.max-most.result ≡ max c.loop-e.most c.lowered_size.result = search rules in
    record { left = omega arith; fits = omega arith }
