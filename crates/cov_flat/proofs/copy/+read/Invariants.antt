use Rattle.std.proofs.Common.{◌≡◌, take}
use Rattle.cov_flat.specs.Parts as spec
use Rattle.cov_flat.proofs.copy.+read.Given as goal

abbrev pub invariant-read_items-loop-e : goal.invariant-read_items-loop-e
invariant-read_items-loop-e l = l.copies ≡ spec.read_items l.at.p.now l.at.number (take l.e-index l.e-items)

abbrev pub invariant-read_branches-loop-b : goal.invariant-read_branches-loop-b
invariant-read_branches-loop-b l = l.copies ≡ spec.read_branches l.at.p.now l.at.number (take l.b-index l.b-items)
