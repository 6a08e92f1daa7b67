use Rattle.std.proofs.Common.{arith, map, string_bytes, take, drop, length, ◌-◌, ◌+◌}
use Rattle.std.proofs.lemmas.List.{take_rest}
use Rattle.std.proofs.lemmas.Result.{err_from_is_err_and}
use Rattle.cov_words.proofs.Loops.{from_nothing, cut, left_more, left_none}
use Rattle.cov_words.proofs.sort.sort.Goals as goal

pub loop-at-init : goal.loop-at-init
loop-at-init c = from_nothing (map string_bytes c.args.words.now)

pub returns-in_err-step : goal.returns-in_err-step
returns-in_err-step c =
    let here = cut c.args.words.now c.loop-at.at c.index-words-at.result c.as_str.result.now (take (length c.args.words.now - (c.loop-at.at + 1)) (drop (c.loop-at.at + 1) c.args.words.now))
    (omega arith) c.index-words-at.is c.as_str.ensures.value (take_rest c.args.words.now (c.loop-at.at + 1)) in
    let p = err_from_is_err_and c.from_residual.result c.from_residual.ensures.1 in
    rw (p.1, p.2) (left_none c.args.words.now c.loop-at.at c.loop-at.sorted c.as_str.result.now _ c.in_err-step.field-0.0 c.loop-at.invariant here c.in_err-step.ensures)

pub loop-at-preserved : goal.loop-at-preserved
loop-at-preserved c =
    let here = cut c.args.words.now c.loop-at.at c.index-words-at.result c.as_str.result.now (take (length c.args.words.now - (c.loop-at.at + 1)) (drop (c.loop-at.at + 1) c.args.words.now))
    (omega arith) c.index-words-at.is c.as_str.ensures.value (take_rest c.args.words.now (c.loop-at.at + 1)) in
    left_more c.args.words.now c.loop-at.at c.loop-at.sorted c.as_str.result.now _ c.in_ok-step.step c.loop-at.invariant here c.in_ok-step.ensures
