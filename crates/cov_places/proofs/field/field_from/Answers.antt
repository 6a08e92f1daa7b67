use Rattle.std.proofs.Common.{◌≡◌, ◌-◌, ◌∙◌, ap, arith}
use Rattle.std.proofs.lemmas.Nat.{leading_length}
use Rattle.std.specs.Int.Count.{count_leading_zeros}
use Rattle.cov_bits.proofs.Widths.{width_is}
use Rattle.cov_places.proofs.field.field_from.Goals as goal

pub returns : goal.returns
returns c =
    let l = leading_length 16 (c.args.size - 1) (omega arith) in
    let same : 16 - count_leading_zeros 16 (c.args.size - 1) ≡ l.0 = omega (arith, l.1) in
    ap (λ w. record { layer = c.args.layer; first = c.args.first; width = w }) (same ∙ width_is c.args.size l.0 c.requires l.2 l.3)
