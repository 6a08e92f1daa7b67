use Rattle.std.proofs.Common.{arith, IsFalse, to_z-of_z}
use Rattle.std.proofs.lemmas.Int.{ints}
use Rattle.cov_model.specs.Kinds.{interval}
use Rattle.cov_model.specs.Walk.{is_wide}
use Rattle.cov_kinds.proofs.Narrow.{narrow, same_interval}
use Rattle.cov_kinds.proofs.ends.between.Goals as goal

pub returns-else-are_wide : goal.returns-else-are_wide
returns-else-are_wide c =
    let w : IsFalse (is_wide (interval c.args.low c.args.high)) = grind (arith, to_z-of_z) in
    let n = narrow c.args.low c.args.high w in
    (same_interval _ _ _ _ (omega (arith, ints)) (omega (arith, ints)), w)
