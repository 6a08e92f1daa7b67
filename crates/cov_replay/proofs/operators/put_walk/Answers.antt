use Rattle.std.proofs.Common.{◌≤◌, ℕ, length, sym, subst}
use Rattle.cov_replay.specs.Columns.{IsColumn}
use Rattle.cov_replay.specs.Operators as spec
use Rattle.cov_replay.specs.Told.{Tells}
use Rattle.cov_replay.proofs.TellColumns.{next_column, always_column}
use Rattle.cov_replay.proofs.operators.put_walk.Goals as goal

pub returns-in-Next : goal.returns-in-Next
returns-in-Next c = λ label shown f l places h.
    let n : ℕ = length c.args.column.now in
    subst (λ v. IsColumn (spec.Walks v (Tells label shown f)) l n c.next.new.column) (sym c.in-Next.is)
    (next_column l n c.args.turn places (Tells label shown f) c.next.new.column c.args.other.now h c.next.ensures)

pub returns-in-Sometime : goal.returns-in-Sometime
returns-in-Sometime c = λ label shown f l places h.
    subst (λ v. IsColumn (spec.Walks v (Tells label shown f)) l (length c.args.column.now) c.put_sometime.new.column) (sym c.in-Sometime.is)
    (c.put_sometime.ensures label shown f l places h)

pub returns-in-Always : goal.returns-in-Always
returns-in-Always c = λ label shown f l places h.
    let n : ℕ = length c.args.column.now in
    subst (λ v. IsColumn (spec.Walks v (Tells label shown f)) l n c.scan.new.ends) (sym c.in-Always.is)
    (always_column l n c.args.turn places (Tells label shown f) c.args.other.now c.fill.new.column c.scan.new.ends h
    c.fill.auto.column c.requires.room c.fill.ensures c.scan.ensures)
