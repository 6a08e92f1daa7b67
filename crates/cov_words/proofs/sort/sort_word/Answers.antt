use Rattle.std.proofs.Common.{refl, sym, arith, map, string_bytes, Some, rules}
use Rattle.std.proofs.lemmas.List.{length-map}
use Rattle.std.proofs.lemmas.Result.{err_from_is_err_and}
use Rattle.cov_words.specs.Words.{with_positional, with_value, with_joined}
use Rattle.cov_words.proofs.Steps.{by_positional, by_value, by_joined, ends, goes_on, stops, value_within}
use Rattle.cov_words.proofs.sort.sort_word.Goals as goal

pub returns-then-eq : goal.returns-then-eq
returns-then-eq c s k =
    ends c.args.word.now (map string_bytes c.args.rest.now) s c.in_ok-with_all.field-0 _ (search rules)
    (sym (length-map c.args.rest.now string_bytes)) (c.in_ok-with_all.ensures s k)

pub returns-then-is_positional : goal.returns-then-is_positional
returns-then-is_positional c s k =
    let kept = rw c.as_bytes.ensures.value at (c.in_ok-with_positional.ensures s k) in
    goes_on c.args.word.now (map string_bytes c.args.rest.now) s 0 (Some (with_positional c.args.word.now s)) c.in_ok-with_positional.field-0
    (by_positional c.args.word.now (map string_bytes c.args.rest.now) s (search rules) (search rules))
    (omega arith) (with_positional c.args.word.now s, kept, refl)

pub returns-in_err-with_value : goal.returns-in_err-with_value
returns-in_err-with_value c s k =
    let p = err_from_is_err_and c.from_residual-in_err-with_value.result c.from_residual-in_err-with_value.ensures.1 in
    rw (p.1, p.2)
    (stops c.args.word.now (map string_bytes c.args.rest.now) s 1 (with_value c.args.word.now c.in-Some.value.now s) c.in_err-with_value.field-0.0
    (by_value c.args.word.now c.in-Some.value.now (map string_bytes c.args.rest.now) s (search rules) (search rules) (search rules))
    (c.in_err-with_value.ensures s k))

pub returns-in-Some : goal.returns-in-Some
returns-in-Some c s k =
    goes_on c.args.word.now (map string_bytes c.args.rest.now) s 1 (with_value c.args.word.now c.in-Some.value.now s) c.in_ok-with_value.field-0
    (by_value c.args.word.now c.in-Some.value.now (map string_bytes c.args.rest.now) s (search rules) (search rules) (search rules))
    (value_within c.args.word.now c.in-Some.value.now (map string_bytes c.args.rest.now) (search rules)) (c.in_ok-with_value.ensures s k)

pub returns-in_err-with_joined : goal.returns-in_err-with_joined
returns-in_err-with_joined c s k =
    let p = err_from_is_err_and c.from_residual-in_err-with_joined.result c.from_residual-in_err-with_joined.ensures.1 in
    rw (p.1, p.2)
    (stops c.args.word.now (map string_bytes c.args.rest.now) s 0 (with_joined c.as_bytes-2.result.now s) c.in_err-with_joined.field-0.0
    (by_joined c.args.word.now c.as_bytes-2.result.now (map string_bytes c.args.rest.now) s c.as_bytes-2.ensures.value (search rules) (search rules) (search rules))
    (c.in_err-with_joined.ensures s k))

pub returns : goal.returns
returns c s k =
    goes_on c.args.word.now (map string_bytes c.args.rest.now) s 0 (with_joined c.as_bytes-2.result.now s) c.in_ok-with_joined.field-0
    (by_joined c.args.word.now c.as_bytes-2.result.now (map string_bytes c.args.rest.now) s c.as_bytes-2.ensures.value (search rules) (search rules) (search rules))
    (omega arith) (c.in_ok-with_joined.ensures s k)
