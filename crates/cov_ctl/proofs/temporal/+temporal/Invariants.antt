use Rattle.std.proofs.Common.{◌≡◌, drop}
use Rattle.cov_ctl.specs.Temporal as spec
use Rattle.cov_ctl.proofs.temporal.+temporal.Given as goal

-- what is left has the answer of the whole
abbrev pub invariant-some_is_temporal-loop-e : goal.invariant-some_is_temporal-loop-e
invariant-some_is_temporal-loop-e l = spec.some_temporal (drop l.e-index l.e-items) ≡ spec.some_temporal l.e-items

abbrev pub invariant-some_branch_is_temporal-loop-b : goal.invariant-some_branch_is_temporal-loop-b
invariant-some_branch_is_temporal-loop-b l = spec.some_branch_temporal (drop l.b-index l.b-items) ≡ spec.some_branch_temporal l.b-items
