use Rattle.cov_space.proofs.Calls.{on_ok_map}
use Rattle.cov_hold.proofs.Standing.{built_fairness}
use Rattle.cov_hold.proofs.Putting.{prepared_is}
use Rattle.cov_hold.proofs.preparing.prepare.Goals as goal

pub fair-requires-clause-fairness : goal.fair-requires-clause-fairness
fair-requires-clause-fairness c = built_fairness c.args.m.now c.args.sys.now c.requires.built

pub returns-clause-ok : goal.returns-clause-ok
returns-clause-ok c =
    on_ok_map c.fair.result _ _ (λ q. prepared_is c.args.m.now c.args.sys.now c.fair.new.sp c.requires.built c.requires.alone q) c.fair.ensures.ok

pub returns-clause-puts : goal.returns-clause-puts
returns-clause-puts c = on_ok_map c.fair.result _ _ (λ q. record { set = q.set; puts = q.puts }) c.fair.ensures.ok
