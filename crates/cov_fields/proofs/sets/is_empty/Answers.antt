use Rattle.std.proofs.Common.{◌≡◌, length, sym}
use Rattle.cov_space.specs.Sets.{SpaceOf}
use Rattle.cov_fields.proofs.Steps.{empty_test}
use Rattle.cov_fields.proofs.sets.is_empty.Goals as goal

pub returns-clause-empty : goal.returns-clause-empty
returns-clause-empty c =
    let old : SpaceOf = c.args.sp.now in
    let s : SpaceOf = c.constant.new.self in
    let count : length old.sets ≡ c.sets-n.result = sym c.sets-n.ensures.count in
    empty_test c.same-empty.result old s c.args.set c.sets-n.result c.constant.ensures.is count c.requires.set c.same-empty.ensures.tests
