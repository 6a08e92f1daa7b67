-- The fault of a text at which parsing stops.
use Rattle.std.specs.Prelude.{ℕ, List, length}
use Rattle.cov_syntax.specs.declared.fault.Refused.{Refused}
use Rattle.cov_syntax.specs.declared.fault.Refused.TheVariants as refused
use Rattle.cov_syntax.specs.Lexemes.{Lexemes}
use Rattle.cov_grammar.specs.Steps.{Stop}
use Rattle.cov_first_fault.specs.Stops.{stop_fault}
use Rattle.cov_parse.specs.declared.error.ParseError.{ParseError}
use Rattle.cov_parse.specs.declared.error.ParseError.TheVariants as errors

-- what is answered where parsing stops
abbrev pub refusal : List ℕ → Lexemes → ParseError → Refused
refusal text xs errors.Memory = refused.Memory
refusal text xs (errors.Unread left) = refused.Fault (stop_fault (length text) xs (Stop.unread left))
refusal text xs (errors.TooGreat left) = refused.Fault (stop_fault (length text) xs (Stop.too_great left))
