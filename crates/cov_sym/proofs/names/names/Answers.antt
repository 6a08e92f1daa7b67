use Rattle.std.proofs.Common.{◌≡◌, ◌++◌, ◌∷◌, [], ap, ◌∙◌, sym}
use Rattle.cov_sym.proofs.InARow.{next_place, not_failed}
use Rattle.cov_sym.proofs.names.names.Goals as goal

pub loop-k-preserved : goal.loop-k-preserved
loop-k-preserved c =
    let pushed : c.push.new.self ≡ c.loop-k.slots ++ c.loop-k.k ∷ [] = not_failed c.push.result c.is_err.result _ c.is_err.ensures.value c.if-is_err.false c.push.ensures.ok in
    pushed ∙ ap (λ l. l ++ c.loop-k.k ∷ []) c.loop-k.invariant ∙ sym (next_place c.args.from c.loop-k.k c.loop-k.auto.k)
