use Rattle.std.proofs.Common.{◌≡◌, ◌<◌, length, drop, refl, ap, arith}
use Rattle.std.proofs.lemmas.List.{length-drop, drop-drop}
use Rattle.cov_syntax.specs.Tokens.{tokens_from, or_bad_byte}
use Rattle.cov_lex.proofs.Scanning.{blank_passed, token_passed, nothing_ends, text_ends, rest_is}
use Rattle.cov_lex.proofs.scan.scan.Goals as goal

pub loop-at-preserved-in-Blank : goal.loop-at-preserved-in-Blank
loop-at-preserved-in-Blank c =
    let z = drop c.loop-at.at c.args.text.now in
    let some : 0 < length z = omega (arith, length-drop c.loop-at.at c.args.text.now, c.loop-at-test.true) in
    record {
      so_far = rw (← drop-drop c.in-Blank.len c.loop-at.at c.args.text.now)
          (blank_passed c.loop-at.found c.loop-at.at (tokens_from 0 0 c.args.text.now) z c.in-Blank.len (rw rest_is at c.in-Blank.ensures.value) some (rw rest_is at c.in-Blank.ensures.within) c.loop-at.invariant.so_far);
      within = omega (arith, length-drop c.loop-at.at c.args.text.now, c.in-Blank.ensures.within.1, c.loop-at.invariant.within);
    }

pub loop-at-preserved : goal.loop-at-preserved
loop-at-preserved c =
    let z = drop c.loop-at.at c.args.text.now in
    let some : 0 < length z = omega (arith, length-drop c.loop-at.at c.args.text.now, c.loop-at-test.true) in
    record {
      so_far = rw (← drop-drop c.in-Token.len c.loop-at.at c.args.text.now)
          (token_passed c.loop-at.found c.loop-at.at (tokens_from 0 0 c.args.text.now) z c.in-Token.kind c.in-Token.len _ (rw rest_is at c.in-Token.ensures.value) some (rw rest_is at c.in-Token.ensures.within)
          (rw (c.in_ok-push-in-Token.ensures.ok, c.span.ensures) refl) c.loop-at.invariant.so_far);
      within = omega (arith, length-drop c.loop-at.at c.args.text.now, c.in-Token.ensures.within.1, c.loop-at.invariant.within);
    }

pub returns-in-Nothing : goal.returns-in-Nothing
returns-in-Nothing c =
    let z = drop c.loop-at.at c.args.text.now in
    let some : 0 < length z = omega (arith, length-drop c.loop-at.at c.args.text.now, c.loop-at-test.true) in
    let ends = nothing_ends c.loop-at.found c.loop-at.at (tokens_from 0 0 c.args.text.now) z (rw rest_is at c.in-Nothing.ensures.value) some c.loop-at.invariant.so_far in
    rw (c.at.ensures, c.span-in-Nothing.ensures) (ap or_bad_byte ends)

pub returns : goal.returns
returns c =
    let z = drop c.loop-at.at c.args.text.now in
    let none : length z ≡ 0 = omega (arith, length-drop c.loop-at.at c.args.text.now, c.loop-at-test.false) in
    let ends = text_ends c.loop-at.found c.loop-at.at (tokens_from 0 0 c.args.text.now) z none c.loop-at.invariant.so_far in
    ap or_bad_byte ends
