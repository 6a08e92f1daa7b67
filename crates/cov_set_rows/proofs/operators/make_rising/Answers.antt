use Rattle.std.proofs.Common.{[], ◌∷◌, ◌++◌, ◌∙◌, ap, sym, subst}
use Rattle.cov_image.specs.Relations.{IsRelation}
use Rattle.cov_fair.specs.Structures.{IsFairness}
use Rattle.cov_set_rows.proofs.Rising.{rising_is, rising_relation, rising_fairness, rising_high, rising_low}
use Rattle.cov_set_rows.proofs.operators.make_rising.Goals as goal

pub returns-clause-relation : goal.returns-clause-relation
returns-clause-relation c =
    subst (IsRelation c.or.new.self) (sym (c.in_ok-push.ensures.ok ∙ ap (λ l. l ++ 3 ∷ []) c.new-parts.ensures))
    (rising_relation c.args.sp.now c.or.new.self c.requires.none
    (rising_is c.args.sp.now c.bit.new.self c.bit-2.new.self c.not.new.self c.or.new.self c.requires.none c.in_ok-bit.ensures.ok c.in_ok-bit-2.ensures.ok c.in_ok-not.ensures.ok c.in_ok-or.ensures.ok))

pub returns-clause-fairness : goal.returns-clause-fairness
returns-clause-fairness c =
    subst (IsFairness c.or.new.self) (sym (c.in_ok-push-2.ensures.ok ∙ ap (λ l. l ++ 2 ∷ []) c.new-fairness.ensures))
    (rising_fairness c.args.sp.now c.or.new.self c.requires.none
    (rising_is c.args.sp.now c.bit.new.self c.bit-2.new.self c.not.new.self c.or.new.self c.requires.none c.in_ok-bit.ensures.ok c.in_ok-bit-2.ensures.ok c.in_ok-not.ensures.ok c.in_ok-or.ensures.ok))

pub returns-clause-high : goal.returns-clause-high
returns-clause-high c =
    rising_high c.args.sp.now c.or.new.self c.requires.none
    (rising_is c.args.sp.now c.bit.new.self c.bit-2.new.self c.not.new.self c.or.new.self c.requires.none c.in_ok-bit.ensures.ok c.in_ok-bit-2.ensures.ok c.in_ok-not.ensures.ok c.in_ok-or.ensures.ok)

pub returns-clause-low : goal.returns-clause-low
returns-clause-low c =
    rising_low c.args.sp.now c.or.new.self c.requires.none
    (rising_is c.args.sp.now c.bit.new.self c.bit-2.new.self c.not.new.self c.or.new.self c.requires.none c.in_ok-bit.ensures.ok c.in_ok-bit-2.ensures.ok c.in_ok-not.ensures.ok c.in_ok-or.ensures.ok)
