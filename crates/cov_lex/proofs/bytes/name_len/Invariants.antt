use Rattle.std.proofs.Common.{◌≡◌, ◌+◌, ◌-◌, ◌≤◌, length, drop}
use Rattle.cov_syntax.specs.Tokens.{name_len}
use Rattle.cov_lex.proofs.bytes.name_len.Given as goal

abbrev pub invariant-loop-n : goal.invariant-loop-n
invariant-loop-n l = record { so_far : l.n + name_len (drop l.n l.text) ≡ name_len l.text; within : l.n ≤ length l.text }

abbrev pub decreases-loop-n : goal.decreases-loop-n
decreases-loop-n l = length l.initial.text - l.n
