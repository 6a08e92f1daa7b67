use Rattle.std.proofs.Common.{codes, ℕ, List, arith, sym, ◌∙◌}
use Rattle.cov_top.proofs.LineLemmas.{cut-first, cut-second, put-third, of-err, of-ok}
use Rattle.cov_top.proofs.error_line.put_signal_line.Goals as goal

-- what stands before the signal, and behind it
abbrev front : List ℕ
front = codes "asked: UnknownSignal "

abbrev end : List ℕ
end = codes "\n"

pub returns-then-is_err-clause-line : goal.returns-then-is_err-clause-line
returns-then-is_err-clause-line g c =
    let failed = sym c.is_err.ensures.value ∙ c.if-is_err.true in
    cut-first (g.E.Sink.wrote c.args.err.now) (g.E.Sink.wrote c.put_all.new.sink) (g.E.Sink.faults c.args.err.now) (g.E.Sink.faults c.put_all.new.sink) front c.args.signal.now end
    (of-err c.put_all.result c.put_all.ensures.err failed) (of-err c.put_all.result c.put_all.ensures.failed failed)

pub returns-then-is_err-2-clause-line : goal.returns-then-is_err-2-clause-line
returns-then-is_err-2-clause-line g c =
    let failed = sym c.is_err-2.ensures.value ∙ c.if-is_err-2.true in
    cut-second (g.E.Sink.wrote c.args.err.now) (g.E.Sink.wrote c.put_all.new.sink) (g.E.Sink.wrote c.put_all-2.new.sink)
    (g.E.Sink.faults c.args.err.now) (g.E.Sink.faults c.put_all.new.sink) (g.E.Sink.faults c.put_all-2.new.sink) front c.args.signal.now end
    (of-ok c.put_all.result c.put_all.ensures.ok (sym c.is_err.ensures.value ∙ c.if-is_err.false)) c.put_all.ensures.later
    (of-err c.put_all-2.result c.put_all-2.ensures.err failed) (of-err c.put_all-2.result c.put_all-2.ensures.failed failed)

pub returns-clause-line : goal.returns-clause-line
returns-clause-line g c =
    put-third (g.E.Sink.wrote c.args.err.now) (g.E.Sink.wrote c.put_all.new.sink) (g.E.Sink.wrote c.put_all-2.new.sink) (g.E.Sink.wrote c.put_all-3.new.sink)
    (g.E.Sink.faults c.args.err.now) (g.E.Sink.faults c.put_all-2.new.sink) (g.E.Sink.faults c.put_all-3.new.sink) front c.args.signal.now end c.put_all-3.result
    (of-ok c.put_all.result c.put_all.ensures.ok (sym c.is_err.ensures.value ∙ c.if-is_err.false))
    (of-ok c.put_all-2.result c.put_all-2.ensures.ok (sym c.is_err-2.ensures.value ∙ c.if-is_err-2.false))
    (omega (arith, c.put_all.ensures.later, c.put_all-2.ensures.later)) c.put_all-3.ensures.ok c.put_all-3.ensures.err c.put_all-3.ensures.failed
