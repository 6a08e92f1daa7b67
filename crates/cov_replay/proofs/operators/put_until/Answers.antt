use Rattle.std.proofs.Common.{◌≤◌, ℕ, Bool, false, List, length, get_or, ap, ◌∙◌, arith}
use Rattle.std.proofs.lemmas.List.{get_or-take}
use Rattle.cov_replay.specs.Told.{Tells}
use Rattle.cov_replay.proofs.TellColumns.{until_join, same_column}
use Rattle.cov_replay.proofs.operators.put_until.Goals as goal

pub returns : goal.returns
returns c = λ label first second f g l places hp hq.
    let n : ℕ = length c.args.column.now in
    let other : List Bool = c.args.other.now in
    let ends : List Bool = c.split_at_mut-ends.result.0.now in
    let own : n ≤ length c.args.column.now = omega arith in
    until_join l n c.args.turn places (Tells label first f) (Tells label second g) ends c.args.column.now c.scan.new.ends c.copy.new.column hp
    (same_column l n c.args.turn places (Tells label second g) other ends hq
    (λ p d. ap (λ (xs : List Bool). get_or xs p false) c.split_at_mut-ends.ensures.front ∙ get_or-take n other p false d))
    c.split_at_mut-ends.ensures.front_len own c.scan.ensures c.copy.ensures
