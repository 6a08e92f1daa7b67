use Rattle.std.proofs.Common.{ℕ, length, sym, subst}
use Rattle.cov_replay.specs.Columns.{IsColumn}
use Rattle.cov_replay.specs.Operators as spec
use Rattle.cov_replay.specs.Told.{Tells}
use Rattle.cov_replay.proofs.TellColumns.{release_join}
use Rattle.cov_replay.proofs.operators.put_join.Goals as goal

pub returns-in-Until : goal.returns-in-Until
returns-in-Until c = λ label first second f g l places hp hq.
    subst (λ v. IsColumn (spec.Joins v (Tells label first f) (Tells label second g)) l (length c.args.column.now) c.put_until.new.column) (sym c.in-Until.is)
    (c.put_until.ensures label first second f g l places hp hq)

pub returns-in-Release : goal.returns-in-Release
returns-in-Release c = λ label first second f g l places hp hq.
    let n : ℕ = length c.args.column.now in
    subst (λ v. IsColumn (spec.Joins v (Tells label first f) (Tells label second g)) l n c.scan.new.ends) (sym c.in-Release.is)
    (release_join l n c.args.turn places (Tells label first f) (Tells label second g) c.args.column.now c.both-in-Release.new.column c.args.other.now
    c.scan.new.ends hp hq c.both-in-Release.auto.column c.requires.room c.both-in-Release.ensures c.scan.ensures)
