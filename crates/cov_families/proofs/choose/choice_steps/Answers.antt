use Rattle.std.proofs.Common.{subst}
use Rattle.cov_space.specs.Answers.{PutsSet}
use Rattle.cov_fields.specs.declared.field.Field.{Field}
use Rattle.cov_families.specs.Families.{choice_set}
use Rattle.cov_space.specs.Sets.{set_at}
use Rattle.cov_families.proofs.Choosing.{choice_made}
use Rattle.cov_families.proofs.choose.choice_steps.Goals as goal

pub returns-clause-ok : goal.returns-clause-ok
returns-clause-ok c =
    subst (λ (f : Field). PutsSet c.args.sp.now c.settle.new.self (choice_set c.args.sp.now.levels f c.args.inside c.args.outside (set_at c.args.sp.now.sets c.args.set))) c.index_of-field.ensures
    (choice_made c.args.sp.now c.put_named.new.sp c.put_named-2.new.sp c.put_if.new.sp c.settle.new.self c.index_of-field.result c.args.inside c.args.outside c.sets-n.result c.args.set c.sets-n.ensures.count c.requires.set c.in_ok-put_named.ensures.ok c.in_ok-put_named-2.ensures.ok c.in_ok-put_if.ensures.ok c.settle.ensures)
