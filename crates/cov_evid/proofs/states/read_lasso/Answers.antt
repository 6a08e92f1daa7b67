use Rattle.std.proofs.Common.{rules, ◌∙◌}
use Rattle.cov_evid.specs.Cursors.{fault_in, IsRefusal}
use Rattle.cov_evid.specs.FirstFault as spec
use Rattle.cov_evid.proofs.Listing.{after_first, after_stem, first_listed}
use Rattle.cov_evid.proofs.Walking.{err_exit}
use Rattle.cov_evid.proofs.states.read_lasso.Goals as goal

pub returns-in_err-read_listed-clause-fault : goal.returns-in_err-read_listed-clause-fault
returns-in_err-read_listed-clause-fault c =
    let on = after_stem c.args.m.now c.args.lines.now c.read_stem.new.lines c.read_states.new.lines c.new-stem.result c.read_states.new.states c.len-before.result (c.in_ok-read_stem.ensures.on c.args.m.now) c.new-stem.ensures c.in_ok-read_states.ensures.on c.len-before.ensures in
    err_exit c.from_residual-in_err-read_listed.result c.in_err-read_listed.field-0.0 (IsRefusal (fault_in c.args.m.now spec.for_stem c.args.lines.now)) (search rules)
    (rw on (c.in_err-read_listed.ensures.fault _ _ (first_listed c.args.m.now c.len-before.result _)))

pub returns-in_err-read_states-2-clause-fault : goal.returns-in_err-read_states-2-clause-fault
returns-in_err-read_states-2-clause-fault c =
    let on = after_stem c.args.m.now c.args.lines.now c.read_stem.new.lines c.read_states.new.lines c.new-stem.result c.read_states.new.states c.len-before.result (c.in_ok-read_stem.ensures.on c.args.m.now) c.new-stem.ensures c.in_ok-read_states.ensures.on c.len-before.ensures in
    let first = after_first c.args.m.now c.read_states.new.lines c.read_listed.new.lines c.new-turn.result c.push.new.self c.in_ok-read_listed.field-0 c.len-before.result (c.in_ok-read_listed.ensures.on _ _ (first_listed c.args.m.now c.len-before.result _)) c.new-turn.ensures c.in_ok-push.ensures.ok in
    err_exit c.from_residual-in_err-read_states-2.result c.in_err-read_states-2.field-0.0 (IsRefusal (fault_in c.args.m.now spec.for_stem c.args.lines.now)) (search rules)
    (rw (on ∙ first) c.in_err-read_states-2.ensures.fault)

pub returns-clause-on : goal.returns-clause-on
returns-clause-on c =
    let on = after_stem c.args.m.now c.args.lines.now c.read_stem.new.lines c.read_states.new.lines c.new-stem.result c.read_states.new.states c.len-before.result (c.in_ok-read_stem.ensures.on c.args.m.now) c.new-stem.ensures c.in_ok-read_states.ensures.on c.len-before.ensures in
    let first = after_first c.args.m.now c.read_states.new.lines c.read_listed.new.lines c.new-turn.result c.push.new.self c.in_ok-read_listed.field-0 c.len-before.result (c.in_ok-read_listed.ensures.on _ _ (first_listed c.args.m.now c.len-before.result _)) c.new-turn.ensures c.in_ok-push.ensures.ok in
    on ∙ first ∙ c.in_ok-read_states-2.ensures.on
