use Rattle.std.proofs.Common.{◌≡◌, drop}
use Rattle.cov_flat.specs.Parts as spec
use Rattle.cov_flat.proofs.unknown.+unknown.Given as goal

-- what is left has the answer of the whole
abbrev pub invariant-unknown_item-loop-e : goal.invariant-unknown_item-loop-e
invariant-unknown_item-loop-e l = spec.unknown_items l.at.p.now (spec.here l.at.p.now l.at.number) (drop l.e-index l.e-items) ≡ spec.unknown_items l.at.p.now (spec.here l.at.p.now l.at.number) l.e-items

-- what is left has the answer of the whole
abbrev pub invariant-unknown_in_branches-loop-b : goal.invariant-unknown_in_branches-loop-b
invariant-unknown_in_branches-loop-b l = spec.unknown_branches l.at.p.now (spec.here l.at.p.now l.at.number) (drop l.b-index l.b-items) ≡ spec.unknown_branches l.at.p.now (spec.here l.at.p.now l.at.number) l.b-items
