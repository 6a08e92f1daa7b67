use Rattle.std.proofs.Common.{◌≡◌, ◌<◌, List, [], ◌∷◌, length, Some, slice_get, subst, arith}
use Rattle.cov_dd.specs.declared.node.Ref.{Ref}
use Rattle.cov_dd.specs.Nodes.{TableOf, IsLive}
use Rattle.cov_dd.specs.Reached.{ref_at, IsCollected}
use Rattle.cov_set_rows.proofs.diagrams.collection_keeps_what_is_reached.Goals as goal

-- the first diagram of a list
first_is : (refs : List Ref) (r : Ref) → slice_get refs 0 ≡ Some r → (0 < length refs) × (ref_at refs 0 ≡ r)
first_is [] r e = cc
first_is (x ∷ refs) r e = (omega arith, cc)

-- the first diagram of a list that was kept is live
first_live : (old new : TableOf) (before after : List Ref) (r : Ref) → IsCollected old new before after → slice_get after 0 ≡ Some r → IsLive new.nodes r
first_live old new before after r c e =
    let (some, is) = first_is after r e in
    let count : length after ≡ length before = c.count in
    subst (IsLive new.nodes) is (c.each 0 (omega arith)).live

pub values-requires-clause-f : goal.values-requires-clause-f
values-requires-clause-f g c = first_live _ _ _ _ _ c.in_ok-collect.ensures.ok c.get-kept.ensures

pub part-part-requires : goal.part-part-requires
part-part-requires g c = record { f = first_live _ _ _ _ _ c.in_ok-collect.ensures.ok c.get-kept.ensures }
