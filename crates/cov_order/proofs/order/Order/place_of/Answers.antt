use Rattle.std.proofs.Common.{◌∙◌, ap, ℕ, List, Option, None}
use Rattle.std.specs.Prelude.{slice_get, unwrap_or}
use Rattle.cov_order.proofs.order.Order.place_of.Goals as goal

pub returns : goal.returns
returns c =
    c.entry.ensures
    ∙ ap (λ (ps : List (Option ℕ)). unwrap_or (slice_get ps c.args.i) None) c.as_slice.ensures
    ∙ c.args.self.now.right c.args.i
