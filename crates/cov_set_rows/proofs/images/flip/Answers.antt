use Rattle.std.proofs.Common.{[], ◌∷◌, ◌++◌, ◌∙◌, ap, sym, subst}
use Rattle.cov_image.specs.Relations.{IsRelation}
use Rattle.cov_set_rows.proofs.Flip.{flip_is, flip_relation, flip_start}
use Rattle.cov_set_rows.proofs.images.flip.Goals as goal

pub returns-clause-relation : goal.returns-clause-relation
returns-clause-relation c =
    subst (IsRelation c.not.new.self) (sym (c.in_ok-push.ensures.ok ∙ ap (λ l. l ++ 2 ∷ []) c.new-parts.ensures))
    (flip_relation c.args.sp.now c.not.new.self c.requires.none
    (flip_is c.args.sp.now c.bit.new.self c.bit-2.new.self c.xor.new.self c.not.new.self c.requires.none c.in_ok-bit.ensures.ok c.in_ok-bit-2.ensures.ok c.in_ok-xor.ensures.ok c.in_ok-not.ensures.ok))

pub returns-clause-start : goal.returns-clause-start
returns-clause-start c =
    flip_start c.args.sp.now c.not.new.self c.requires.none
    (flip_is c.args.sp.now c.bit.new.self c.bit-2.new.self c.xor.new.self c.not.new.self c.requires.none c.in_ok-bit.ensures.ok c.in_ok-bit-2.ensures.ok c.in_ok-xor.ensures.ok c.in_ok-not.ensures.ok)
