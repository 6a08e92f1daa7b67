-- The fault of a text at which the function that reads it stops.
use Rattle.std.specs.Prelude.{ℕ, zero, suc, ◌+◌, ◌-◌, false, if◌then◌else◌, Bool, List, length, take, slice_get, Option, Some, None, Result, Ok, Err}
use Rattle.cov_syntax.specs.declared.fault.FaultKind.{FaultKind}
use Rattle.cov_syntax.specs.declared.fault.FaultKind.TheVariants as fault
use Rattle.cov_syntax.specs.declared.fault.ModelFault.{ModelFault}
use Rattle.cov_syntax.specs.declared.lexeme.Lexeme.{Lexeme}
use Rattle.cov_syntax.specs.declared.program.ModuleTree.{ModuleTree}
use Rattle.cov_syntax.specs.declared.tree.Span.{Span}
use Rattle.cov_syntax.specs.Faults.{code_of}
use Rattle.cov_syntax.specs.Lexemes.{Lexemes}
use Rattle.cov_grammar.specs.Modules.{program}
use Rattle.cov_grammar.specs.Steps.{Stop}
use Rattle.cov_first_fault.specs.FirstFault.{is_left_out_word}

-- the lexeme with so many left, itself among them
abbrev pub lexeme_at : Lexemes → ℕ → Option Lexeme
lexeme_at xs places = slice_get xs (length xs - places)

-- its place, or the end of the text
abbrev pub place_at : ℕ → Option Lexeme → Span
place_at end None = record { start = end; stop = end }
place_at end (Some t) = t.place

-- whether it is a left-out word
abbrev pub is_left_out : Option Lexeme → Bool
is_left_out None = false
is_left_out (Some t) = is_left_out_word t.kind

-- the fault of one that goes on with nothing, or of the end
abbrev pub unread_at : Option Lexeme → FaultKind
unread_at t = if is_left_out t then fault.LeftOut else fault.Syntax

-- the fault with this code at that lexeme
abbrev pub told : ℕ → FaultKind → Option Lexeme → ModelFault
told end kind t = record { code = code_of kind; place = place_at end t }

-- the fault of a stop
abbrev pub stop_fault : ℕ → Lexemes → Stop → ModelFault
stop_fault end xs (Stop.unread places) = told end (unread_at (lexeme_at xs places)) (lexeme_at xs places)
stop_fault end xs (Stop.too_great places) = told end fault.RangeTooWide (lexeme_at xs places)

-- the first fault where that lexeme is too deep, by what the lexemes up to it are read as
abbrev pub deep_by : ℕ → Lexemes → Option Lexeme → Result (List ModuleTree) Stop → ModelFault
deep_by end front t (Ok trees) = told end fault.TooDeep t
deep_by end front t (Err (Stop.unread zero)) = told end fault.TooDeep t
deep_by end front t (Err (Stop.unread (suc places))) = stop_fault end front (Stop.unread (suc places))
deep_by end front t (Err (Stop.too_great places)) = stop_fault end front (Stop.too_great places)

-- the first fault where the lexeme with so many left is too deep
unfoldable pub deep_fault : ℕ → Lexemes → ℕ → ModelFault
deep_fault end xs places = deep_by end (take (length xs - places + 1) xs) (lexeme_at xs places) (program (take (length xs - places + 1) xs))
