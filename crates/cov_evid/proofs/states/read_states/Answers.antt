use Rattle.std.proofs.Common.{rules, ◌+◌, length, ap}
use Rattle.cov_evid.specs.Cursors.{fault_in, IsRefusal}
use Rattle.cov_evid.specs.FirstFault as spec
use Rattle.cov_evid.specs.declared.fault.EvidRefused.TheVariants.{Fault}
use Rattle.cov_evid.proofs.Listing.{are_other, are_same, ending_on, is_listed, listing_cut, listing_more}
use Rattle.cov_evid.proofs.Walking.{err_exit}
use Rattle.cov_evid.proofs.states.read_states.Goals as goal

pub returns-in_err-state-clause-fault : goal.returns-in_err-state-clause-fault
returns-in_err-state-clause-fault c =
    let other = are_other _ _ _ _ c.ne.result c.ne.ensures c.piece.ensures c.line.ensures c.loop-alloc-test.true in
    let k = ap (λ n. c.args.before + n) c.len.ensures in
    err_exit c.from_residual.result c.in_err-state.field-0.0 (IsRefusal (fault_in c.args.m.now (spec.for_listed c.args.ending (c.args.before + length c.args.states.now)) c.args.lines.now)) (search rules)
    (rw (c.loop-alloc.invariant.first, ← k) (c.in_err-state.ensures.fault _ _ (is_listed c.args.m.now c.args.ending (c.args.before + c.len.result) _ other)))

pub loop-alloc-preserved : goal.loop-alloc-preserved
loop-alloc-preserved c =
    let other = are_other _ _ _ _ c.ne.result c.ne.ensures c.piece.ensures c.line.ensures c.loop-alloc-test.true in
    let k = ap (λ n. c.args.before + n) c.len.ensures in
    let h = c.in_ok-state.ensures.ok in
    listing_more _ _ _ _ _ _ _ c.loop-alloc.invariant c.in_ok-state.state _ (c.args.before + c.len.result) _ k h.0 c.in_ok-state.ensures.sole h.1 h.2
    (c.in_ok-state.ensures.on _ _ (is_listed c.args.m.now c.args.ending (c.args.before + c.len.result) _ other)) c.in_ok-push.ensures.ok

pub returns-in_err-next-clause-fault : goal.returns-in_err-next-clause-fault
returns-in_err-next-clause-fault c =
    let same = are_same _ _ _ _ c.ne.result c.ne.ensures c.piece.ensures c.line.ensures c.loop-alloc-test.false in
    err_exit c.from_residual-in_err-next.result (Fault c.in_err-next.field-0.0) (IsRefusal (fault_in c.args.m.now (spec.for_listed c.args.ending (c.args.before + length c.args.states.now)) c.args.lines.now)) (search rules)
    (listing_cut _ _ _ _ _ _ _ c.loop-alloc.invariant c.in_err-next.field-0.0 same c.in_err-next.ensures.err)

pub returns-clause-on : goal.returns-clause-on
returns-clause-on c =
    let same = are_same _ _ _ _ c.ne.result c.ne.ensures c.piece.ensures c.line.ensures c.loop-alloc-test.false in
    ending_on _ _ _ _ _ _ _ c.loop-alloc.invariant _ _ c.in_ok-next.ensures.ok same
