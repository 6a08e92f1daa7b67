use Rattle.std.proofs.Common.{sym}
use Rattle.cov_model.specs.Meaning.{allows}
use Rattle.cov_conditions.proofs.Behind.{family_settled}
use Rattle.cov_conditions.proofs.family.put_family.Goals as goal

pub returns-clause-ok : goal.returns-clause-ok
returns-clause-ok c =
    family_settled c.args.sp.now c.put_behind.new.sp c.settle.new.self c.sets-n.result c.args.m.now c.args.at c.args.xs.now (allows c.args.e.now) (sym c.sets-n.ensures.count) c.in_ok-put_behind.ensures.ok c.settle.ensures
