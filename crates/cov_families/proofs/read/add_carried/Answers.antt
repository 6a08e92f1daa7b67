use Rattle.std.proofs.Common.{◌&&◌, ℕ, Option, ◌∙◌, ap, arith}
use Rattle.std.proofs.Math.Bool.{and-false}
use Rattle.cov_space.specs.Sets.{lies, set_at}
use Rattle.cov_space.proofs.Sets.{lies_values}
use Rattle.cov_fields.specs.Fields.{held, written}
use Rattle.cov_families.specs.Families.{names}
use Rattle.cov_families.proofs.Gathering.{adds_none, adds_named}
use Rattle.cov_families.proofs.read.add_carried.Goals as goal

pub returns-in_default-clause-ok : goal.returns-in_default-clause-ok
returns-in_default-clause-ok c =
    adds_none c.args.sp.now c.args.place _ c.requires.place (c.sets-sets.ensures.proper c.args.place (omega arith)) (λ row.
    ap (λ (t : Option ℕ). lies (set_at c.args.sp.now.sets c.args.set) (written c.args.from c.args.i row) && names t (held c.args.to row)) c.in_default.is ∙ and-false (lies (set_at c.args.sp.now.sets c.args.set) (written c.args.from c.args.i row)))

pub returns-clause-ok : goal.returns-clause-ok
returns-clause-ok c =
    adds_named c.add_with.result c.args.sp.now c.restrict_to.new.sp c.add_with.new.sp c.args.place c.in-Some.k c.args.to c.args.target _ (λ row. lies (set_at c.args.sp.now.sets c.args.set) (written c.args.from c.args.i row)) c.in_ok-restrict_to.ensures.ok.is (omega arith) c.in-Some.is
    (λ row len. lies_values c.args.sp.now.levels (λ r. lies (set_at c.args.sp.now.sets c.args.set) (written c.args.from c.args.i r)) row len) c.add_with.ensures.ok
