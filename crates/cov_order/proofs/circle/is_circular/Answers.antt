use Rattle.std.proofs.Common.{◌∙◌, ℕ, List, length, sym, subst}
use Rattle.cov_order.proofs.Ordering.{IsSound, dependence_sound, placed_not_circular}
use Rattle.cov_order.proofs.circle.is_circular.Goals as goal

pub returns-then-has : goal.returns-then-has
returns-then-has c =
    let w : IsSound c.args.reads.now c.args.order.now.items = subst (λ (xs : List ℕ). IsSound c.args.reads.now xs) (sym c.requires.placed) (dependence_sound c.args.reads.now) in
    sym (placed_not_circular c.args.reads.now c.args.order.now.items w c.args.i (length c.args.reads.now) (sym c.has.ensures ∙ c.if-has.true))
