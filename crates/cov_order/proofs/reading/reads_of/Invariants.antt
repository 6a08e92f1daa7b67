use Rattle.std.proofs.Common.{◌≡◌, take}
use Rattle.cov_model.specs.Order.{reads_of}
use Rattle.cov_order.proofs.reading.reads_of.Given as goal

abbrev pub invariant-loop-d : goal.invariant-loop-d
invariant-loop-d l = l.all ≡ reads_of (take l.d-index l.defines)
