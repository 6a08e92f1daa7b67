use Rattle.std.proofs.Common.{◌≡◌, false, take}
use Rattle.cov_model.specs.Order.{has}
use Rattle.cov_types.specs.Signals.{variable_names}
use Rattle.cov_types.proofs.named.variable_named.Given as goal

-- none so far has the name
abbrev pub invariant-loop-i : goal.invariant-loop-i
invariant-loop-i l = has (take l.i (variable_names l.vars)) l.name ≡ false
