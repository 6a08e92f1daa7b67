use Rattle.cov_space.specs.Sets.{set_at}
use Rattle.cov_space.proofs.Calls.{on_ok_map}
use Rattle.cov_nodes.proofs.Families.{either_family}
use Rattle.cov_nodes.proofs.branches.put_either.Goals as goal

pub returns-clause-ok : goal.returns-clause-ok
returns-clause-ok c m at xs f g is_f is_g =
    on_ok_map c.or.result _ _ (λ puts. either_family c.args.sp.now c.or.new.self m at xs f g (set_at c.args.sp.now.sets c.args.a) (set_at c.args.sp.now.sets c.args.b) is_f is_g puts) c.or.ensures.ok
