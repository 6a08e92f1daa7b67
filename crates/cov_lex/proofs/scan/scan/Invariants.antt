use Rattle.std.proofs.Common.{◌≡◌, ◌-◌, ◌≤◌, length, drop}
use Rattle.cov_syntax.specs.Tokens.{tokens_from}
use Rattle.cov_lex.proofs.Scanning.{and_then}
use Rattle.cov_lex.proofs.scan.scan.Given as goal

abbrev pub invariant-loop-at : goal.invariant-loop-at
invariant-loop-at l = record {
  so_far : and_then l.found (tokens_from 0 l.at (drop l.at l.text)) ≡ tokens_from 0 0 l.text;
  within : l.at ≤ length l.text;
}

abbrev pub decreases-loop-at : goal.decreases-loop-at
decreases-loop-at l = length l.initial.text - l.at
