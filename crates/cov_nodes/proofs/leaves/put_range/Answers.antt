use Rattle.std.proofs.Common.{FitsSigned, w32, ◌∙◌}
use Rattle.std.proofs.lemmas.Int.{to_z-of_z}
use Rattle.cov_model.specs.Values as values
use Rattle.cov_space.proofs.Calls.{on_ok_map}
use Rattle.cov_nodes.proofs.Listed.{listed_family}
use Rattle.cov_nodes.proofs.leaves.put_range.Goals as goal

pub returns-clause-ok : goal.returns-clause-ok
returns-clause-ok c m at =
    let low_fits : FitsSigned w32 c.args.low = c.ranges.low in
    let high_fits : FitsSigned w32 c.args.high = c.ranges.high in
    let made = simp to_z-of_z at (c.as_slice.ensures.value ∙ c.in-Ok.ensures) in
    on_ok_map c.put_listed.result _ _
    (λ puts. listed_family c.args.sp.now c.put_listed.new.sp m at c.args.xs.now (λ y. values.within c.args.low c.args.high y) c.as_slice.result.now made puts)
    c.put_listed.ensures.ok
