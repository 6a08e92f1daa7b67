use Rattle.cov_bits.specs.Views.{sizes_of}
use Rattle.cov_bits.proofs.Decoding.{Decoding}
use Rattle.cov_bits.proofs.plan.Plan.decode.Given as goal

-- what is left, decoded, makes the whole decoded
abbrev pub invariant-loop-part : goal.invariant-loop-part
invariant-loop-part l = Decoding (sizes_of l.part-items) l.code l.part-index l.rest l.below l.places
