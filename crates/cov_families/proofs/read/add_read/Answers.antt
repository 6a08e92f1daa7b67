use Rattle.std.proofs.Common.{◌&&◌, ◌==◌, ℕ, Option, ◌∙◌, ap, arith}
use Rattle.std.proofs.Math.Bool.{and-false}
use Rattle.cov_space.proofs.Sets.{lies_values}
use Rattle.cov_fields.specs.Fields.{held}
use Rattle.cov_families.specs.Families.{names}
use Rattle.cov_families.proofs.Gathering.{adds_none, adds_named}
use Rattle.cov_families.proofs.read.add_read.Goals as goal

pub returns-in_default-clause-ok : goal.returns-in_default-clause-ok
returns-in_default-clause-ok c =
    adds_none c.args.sp.now c.args.place _ c.requires.place (c.sets-sets.ensures.proper c.args.place (omega arith)) (λ row.
    ap (λ (t : Option ℕ). held c.args.from row == c.args.i && names t (held c.args.to row)) c.in_default.is ∙ and-false (held c.args.from row == c.args.i))

pub returns-clause-ok : goal.returns-clause-ok
returns-clause-ok c =
    adds_named c.add_with.result c.args.sp.now c.put_number.new.sp c.add_with.new.sp c.args.place c.in-Some.k c.args.to c.args.target _ (λ row. held c.args.from row == c.args.i) c.in_ok-put_number.ensures.ok.is (omega arith) c.in-Some.is
    (λ row len. lies_values c.args.sp.now.levels (λ r. held c.args.from r == c.args.i) row len) c.add_with.ensures.ok
