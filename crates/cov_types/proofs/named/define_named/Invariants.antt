use Rattle.std.proofs.Common.{◌≡◌, false, take}
use Rattle.cov_model.specs.Order.{has}
use Rattle.cov_types.specs.Signals.{define_names}
use Rattle.cov_types.proofs.named.define_named.Given as goal

-- none so far has the name
abbrev pub invariant-loop-i : goal.invariant-loop-i
invariant-loop-i l = has (take l.i (define_names l.defines)) l.name ≡ false
