use Rattle.std.proofs.Common.{◌≡◌, ◌++◌, [], rules}
use Rattle.cov_coverage.specs.Sections.{IsUncoveredState}
use Rattle.cov_coverage.proofs.Standing.{covered_reachable, covered_stands, others_stand, stands_same, state_set, uncovered_reachable}
use Rattle.cov_coverage.proofs.Writing.{section_put}
use Rattle.cov_ctl.specs.Formulas.{formula_of}
use Rattle.cov_claims.specs.Covering.{IsCoveredState}
use Rattle.cov_report.specs.SpecLines.{signal_line}
use Rattle.cov_space.specs.Sets.{SpaceOf}
use Rattle.cov_space.proofs.Calls.{call_leaves, err_exit, on_ok_map}
use Rattle.cov_sym.proofs.Sets.{put_none}
use Rattle.cov_coverage.proofs.section.section_steps.Goals as goal

pub returns-in_err-covered-clause-err : goal.returns-in_err-covered-clause-err
returns-in_err-covered-clause-err c =
    let s : SpaceOf = c.args.sys.now.space in
    err_exit c.from_residual.result c.in_err-covered.field-0.0 _ (search rules) (call_leaves s s c.covered.new.sys.space [] c.in_err-covered.field-0.0 (put_none s) c.in_err-covered.ensures.err)

pub put_states-requires-clause-states : goal.put_states-requires-clause-states
put_states-requires-clause-states c =
    let m = c.args.m.now in
    let q = c.args.named.now.signal in
    let f = formula_of c.args.f.now in
    let covered = covered_stands m c.args.sys.now c.covered.new.sys c.sets-n.result q f c.sets-n.ensures c.in_ok-covered.ensures.kept c.in_ok-covered.ensures.prepared c.in_ok-covered.ensures.ok in
    state_set m c.args.sys.now c.covered.new.sys c.sets-n.result (IsCoveredState m q f) covered (covered_reachable m q f)

pub put_states-requires-2-clause-built : goal.put_states-requires-2-clause-built
put_states-requires-2-clause-built c =
    let m = c.args.m.now in
    let q = c.args.named.now.signal in
    let f = formula_of c.args.f.now in
    let n = c.sets-n.result in
    let covered = covered_stands m c.args.sys.now c.covered.new.sys n q f c.sets-n.ensures c.in_ok-covered.ensures.kept c.in_ok-covered.ensures.prepared c.in_ok-covered.ensures.ok in
    let still = stands_same m c.args.sys.now c.covered.new.sys c.put_states.new.sys n (IsCoveredState m q f) c.in_ok-put_states.ensures.kept covered in
    (others_stand m c.args.sys.now c.put_states.new.sys c.keep_others.new.sp n c.reachable-reachable.result (IsCoveredState m q f) c.sets-n.ensures c.reachable-reachable.ensures c.requires.prepared.built still
    c.in_ok-keep_others.ensures.ok).built

pub put_states-requires-2-clause-states : goal.put_states-requires-2-clause-states
put_states-requires-2-clause-states c =
    let m = c.args.m.now in
    let q = c.args.named.now.signal in
    let f = formula_of c.args.f.now in
    let n = c.sets-n.result in
    let covered = covered_stands m c.args.sys.now c.covered.new.sys n q f c.sets-n.ensures c.in_ok-covered.ensures.kept c.in_ok-covered.ensures.prepared c.in_ok-covered.ensures.ok in
    let still = stands_same m c.args.sys.now c.covered.new.sys c.put_states.new.sys n (IsCoveredState m q f) c.in_ok-put_states.ensures.kept covered in
    let others = others_stand m c.args.sys.now c.put_states.new.sys c.keep_others.new.sp n c.reachable-reachable.result (IsCoveredState m q f) c.sets-n.ensures c.reachable-reachable.ensures c.requires.prepared.built still
    c.in_ok-keep_others.ensures.ok in
    state_set m c.args.sys.now (record c.put_states.new.sys { space = c.keep_others.new.sp }) n (IsUncoveredState m q f) others (uncovered_reachable m q f)

pub returns-clause-ok : goal.returns-clause-ok
returns-clause-ok c =
    let m = c.args.m.now in
    let q = c.args.named.now.signal in
    let f = formula_of c.args.f.now in
    let n = c.sets-n.result in
    let covered = covered_stands m c.args.sys.now c.covered.new.sys n q f c.sets-n.ensures c.in_ok-covered.ensures.kept c.in_ok-covered.ensures.prepared c.in_ok-covered.ensures.ok in
    let still = stands_same m c.args.sys.now c.covered.new.sys c.put_states.new.sys n (IsCoveredState m q f) c.in_ok-put_states.ensures.kept covered in
    let others = others_stand m c.args.sys.now c.put_states.new.sys c.keep_others.new.sp n c.reachable-reachable.result (IsCoveredState m q f) c.sets-n.ensures c.reachable-reachable.ensures c.requires.prepared.built still
    c.in_ok-keep_others.ensures.ok in
    let line : c.signal_line.new.into ≡ c.args.into.now ++ signal_line c.args.named.now.name = search rules in
    on_ok_map c.put_states-2.result _ _
    (λ put. section_put c.args.limit m f c.args.named.now c.args.sys.now c.covered.new.sys (record c.put_states.new.sys { space = c.keep_others.new.sp }) n c.args.into.now c.signal_line.new.into c.put_states.new.into
    c.put_states-2.new.into covered others line c.in_ok-put_states.ensures.ok put)
    c.put_states-2.ensures.ok
