use Rattle.std.proofs.Common.{◌≡◌, take, [], ◌∷◌}
use Rattle.std.specs.Prelude.{slice_get}
use Rattle.std.specs.List.{flat_map}
use Rattle.std.specs.Option.{option_map_or}
use Rattle.cov_model.specs.declared.model.Define.{Define}
use Rattle.cov_model.specs.Order.{renumbered, with_body}
use Rattle.cov_order.proofs.renumber.defines_in.Given as goal

abbrev pub invariant-loop-i : goal.invariant-loop-i
invariant-loop-i l = l.placed ≡ flat_map (λ i. option_map_or (λ (d : Define). with_body (renumbered l.order.items) d ∷ []) (slice_get l.defines i) []) (take l.i-index l.i-items)
