use Rattle.std.proofs.Common.{◌≡◌, ◌<◌, ◌^◌, ◌∙◌, arith}
use Rattle.std.proofs.lemmas.Nat.{one_shl}
use Rattle.cov_places.proofs.Numbers.{all_below}
use Rattle.cov_places.proofs.below.meet_below.Goals as goal

pub returns-then-size-field-clause-ok : goal.returns-then-size-field-clause-ok
returns-then-size-field-clause-ok c =
    let w = c.args.field.width in
    let narrow : w < 16 = omega arith in
    let all : c.args.size ≡ 2 ^ w = c.if-size-field.true ∙ one_shl w 16 narrow in
    all_below c.args.sp.now c.args.field c.args.size c.args.n c.requires.last (c.sets-sets.ensures.proper c.args.n (omega arith)) all
