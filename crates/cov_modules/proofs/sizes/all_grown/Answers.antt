use Rattle.std.proofs.Common.{◌≡◌, ◌+◌, ◌++◌, ◌∷◌, [], List, drop, sym, ap, ◌∙◌, append_assoc, rules}
use Rattle.std.proofs.lemmas.Option.{get_or_from_slice_get}
use Rattle.cov_modules.specs.declared.size.Size.{Size}
use Rattle.cov_modules.specs.Sizes.{all_grown}
use Rattle.cov_modules.proofs.SizeLemmas.{all_grown-step}
use Rattle.cov_modules.proofs.sizes.all_grown.Goals as goal

pub loop-i-preserved : goal.loop-i-preserved
loop-i-preserved c =
    let rest : List Size = all_grown c.args.sizes.now (drop (c.loop-i.i + 1) c.args.wholes.now) (drop (c.loop-i.i + 1) c.args.children.now) in
    let put : c.push.new.self ≡ c.loop-i.after ++ c.grown-size.result ∷ [] = search rules in
    let step = all_grown-step c.args.sizes.now c.args.wholes.now c.args.children.now c.loop-i.i c.get.result.now c.get.result.now c.below-item.result c.requires (search rules)
    (sym (get_or_from_slice_get c.args.wholes.now c.loop-i.i c.get.result.now c.get.result.now c.get.ensures)) (search rules) in
    ap (λ xs. xs ++ rest) put
    ∙ append_assoc c.loop-i.after (c.grown-size.result ∷ []) rest
    ∙ ap (λ x. c.loop-i.after ++ (x ∷ rest)) (search rules)
    ∙ sym (ap (λ xs. c.loop-i.after ++ xs) step)
    ∙ c.loop-i.invariant
