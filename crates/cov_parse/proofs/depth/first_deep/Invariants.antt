use Rattle.std.proofs.Common.{◌≡◌, ◌≤◌, [], ◌∷◌, false, drop, sum}
use Rattle.cov_syntax.specs.Limits as spec
use Rattle.cov_parse.proofs.depth.first_deep.Given as goal

abbrev pub invariant-loop-at : goal.invariant-loop-at
invariant-loop-at l = record {
  reads : spec.deep l.declares l.counts.items (drop l.at l.lexemes) ≡ spec.deep false (0 ∷ []) l.lexemes;
  small : sum l.counts.items ≤ 1000;
}
