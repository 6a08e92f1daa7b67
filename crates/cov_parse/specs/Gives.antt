-- What a function returned is what parsing gives, unless memory ran out.
use Rattle.std.specs.Prelude.{◌≡◌, Result, Ok, Err}
use Rattle.cov_grammar.specs.Steps.{Stop}
use Rattle.cov_parse.specs.declared.error.ParseError.{ParseError}
use Rattle.cov_parse.specs.declared.error.ParseError.TheVariants as errors

-- parsing fails so
abbrev pub Fails : {Y : Type 0} → ParseError → Result Y Stop → Type 0
Fails errors.Memory read = Unit {0}
Fails (errors.Unread n) read = read ≡ Err (Stop.unread n)
Fails (errors.TooGreat n) read = read ≡ Err (Stop.too_great n)

abbrev pub Gives : {X Y : Type 0} → (X → Y) → Result X ParseError → Result Y Stop → Type 0
Gives view (Ok x) read = read ≡ Ok (view x)
Gives view (Err e) read = Fails e read
