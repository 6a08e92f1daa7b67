use Rattle.std.proofs.Common.{◌≤◌, ℕ, Bool, false, List, length, get_or, ap, ◌∙◌, arith}
use Rattle.std.proofs.lemmas.List.{get_or-take}
use Rattle.cov_replay.specs.Told.{Tells}
use Rattle.cov_replay.proofs.TellColumns.{sometime_column}
use Rattle.cov_replay.proofs.operators.put_sometime.Goals as goal

pub returns : goal.returns
returns c = λ label shown f l places h.
    let n : ℕ = length c.args.column.now in
    let other : List Bool = c.args.other.now in
    let front : List Bool = c.split_at_mut-stays.result.0.now in
    let room : n ≤ length c.fill.new.column = omega arith in
    sometime_column l n c.args.turn places (Tells label shown f) other c.copy.new.column c.fill.new.column c.scan.new.ends h
    c.copy.auto.column room
    (λ p d. c.copy.ensures p d ∙ ap (λ (xs : List Bool). get_or xs p false) c.split_at_mut-stays.ensures.front ∙ get_or-take n other p false d)
    (λ p d. c.fill.ensures p (omega arith)) c.scan.ensures
