use Rattle.std.proofs.Common.{◌≡◌, ◌+◌, suc, arith}
use Rattle.cov_logic.proofs.Periods.{next_round}
use Rattle.cov_logic.proofs.lassos.next_place.Goals as goal

pub returns-else-place-stem-clause-next : goal.returns-else-place-stem-clause-next
returns-else-place-stem-clause-next g c =
    let last : suc c.args.place ≡ c.args.stem + c.args.turn = omega arith in
    next_round _ c.args.stem c.args.turn c.args.place last
