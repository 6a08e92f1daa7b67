use Rattle.std.proofs.Common.{◌≡◌, ◌-◌, ◌∙◌, ap, arith}
use Rattle.std.proofs.lemmas.Nat.{leading_length}
use Rattle.std.specs.Int.Count.{count_leading_zeros}
use Rattle.cov_bits.proofs.Widths.{width_is}
use Rattle.cov_space.specs.declared.layer.Layer.TheVariants.{W}
use Rattle.cov_fields.specs.declared.field.Field.{Field}
use Rattle.cov_families.proofs.index.index_of.Goals as goal

pub returns : goal.returns
returns c =
    let l = leading_length 16 (c.args.count - 1) (omega arith) in
    let same : 16 - count_leading_zeros 16 (c.args.count - 1) ≡ l.0 = omega (arith, l.1) in
    ap (λ n. let f : Field = record { layer = W; first = 0; width = n } in f) (same ∙ width_is c.args.count l.0 c.requires.some l.2 l.3)
