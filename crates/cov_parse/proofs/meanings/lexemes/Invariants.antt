use Rattle.std.proofs.Common.{◌≡◌, ◌≤◌, length, map, take, drop}
use Rattle.cov_syntax.specs.Lexemes as spec
use Rattle.cov_syntax.specs.Texts.{IsDistinctTexts}
use Rattle.cov_parse.proofs.meanings.lexemes.Given as goal

abbrev pub invariant-loop-token : goal.invariant-loop-token
invariant-loop-token l = record {
  distinct : IsDistinctTexts l.names;
  room : length l.names ≤ l.token-index;
  names : spec.names_from l.text l.names (drop l.token-index l.tokens) ≡ spec.names_of l.text l.tokens;
  found : l.found ≡ map (spec.lexeme_of l.text (spec.names_of l.text l.tokens)) (take l.token-index l.tokens);
}
