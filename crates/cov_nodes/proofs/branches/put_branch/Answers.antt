use Rattle.cov_space.specs.Sets.{set_at}
use Rattle.cov_space.proofs.Calls.{on_ok_map}
use Rattle.cov_nodes.proofs.Families.{branch_family}
use Rattle.cov_nodes.proofs.branches.put_branch.Goals as goal

pub returns-clause-ok : goal.returns-clause-ok
returns-clause-ok c m at xs h f g is_h is_f is_g =
    on_ok_map c.put_if.result _ _
    (λ puts. branch_family c.args.sp.now c.put_if.new.sp m at xs h f g (set_at c.args.sp.now.sets c.args.guard) (set_at c.args.sp.now.sets c.args.body) (set_at c.args.sp.now.sets c.args.other) is_h is_f is_g puts)
    c.put_if.ensures.ok
