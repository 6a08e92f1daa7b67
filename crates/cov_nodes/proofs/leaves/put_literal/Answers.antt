use Rattle.std.proofs.Common.{◌∙◌}
use Rattle.cov_model.specs.Values as values
use Rattle.cov_space.proofs.Calls.{on_ok_map}
use Rattle.cov_nodes.proofs.Listed.{listed_family}
use Rattle.cov_nodes.proofs.leaves.put_literal.Goals as goal

pub returns-clause-ok : goal.returns-clause-ok
returns-clause-ok c m at =
    on_ok_map c.put_listed.result _ _
    (λ puts. listed_family c.args.sp.now c.put_listed.new.sp m at c.args.xs.now (λ y. values.same_value c.args.x y) c.as_slice.result.now (c.as_slice.ensures.value ∙ c.in-Ok.ensures) puts)
    c.put_listed.ensures.ok
