use Rattle.std.proofs.Common.{◌≡◌, drop}
use Rattle.cov_walk.specs.Parts.{some_boolean, some_body_boolean}
use Rattle.cov_walk.proofs.boolean.+boolean.Given as goal

-- what is left has the answer of the whole
abbrev pub invariant-has_boolean-loop-e : goal.invariant-has_boolean-loop-e
invariant-has_boolean-loop-e l = some_boolean l.ks (drop l.e-index l.e-items) ≡ some_boolean l.ks l.e-items

abbrev pub invariant-has_boolean_body-loop-b : goal.invariant-has_boolean_body-loop-b
invariant-has_boolean_body-loop-b l = some_body_boolean l.ks (drop l.b-index l.b-items) ≡ some_body_boolean l.ks l.b-items
