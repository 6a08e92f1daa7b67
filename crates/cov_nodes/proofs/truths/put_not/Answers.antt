use Rattle.cov_space.specs.Sets.{set_at}
use Rattle.cov_space.proofs.Calls.{on_ok_map}
use Rattle.cov_nodes.proofs.Logic.{not_family}
use Rattle.cov_nodes.proofs.truths.put_not.Goals as goal

pub returns-clause-ok : goal.returns-clause-ok
returns-clause-ok c m at f is =
    on_ok_map c.not.result _ _ (λ puts. not_family c.args.sp.now c.not.new.self m at f (set_at c.args.sp.now.sets c.args.a) is puts) c.not.ensures.ok
