use Rattle.std.proofs.Common.{◌≤◌, ◌∙◌, ℕ, length, sym, arith}
use Rattle.std.proofs.lemmas.Bool.{false≢true}
use Rattle.cov_ctl.specs.Formulas.{formula_of}
use Rattle.cov_replay.specs.Heights.{height}
use Rattle.cov_claims.specs.Places.{places_of}
use Rattle.cov_replay.proofs.Deciding.{accepted, faulty, not_at, not_linear, not_refuted}
use Rattle.cov_replay.proofs.Nodes.{height_some, one_level}
use Rattle.cov_replay.proofs.judging.judge_claimed.Goals as goal

pub returns-then-not-is_linear-clause-verdict : goal.returns-then-not-is_linear-clause-verdict
returns-then-not-is_linear-clause-verdict c =
    not_linear c.args.m.now c.args.e.now c.args.f.now c.requires.claimed c.is_linear.result c.is_linear.ensures c.if-not-is_linear.true

pub returns-in-Some-clause-verdict : goal.returns-in-Some-clause-verdict
returns-in-Some-clause-verdict c =
    faulty c.args.m.now c.args.e.now c.args.f.now c.requires.claimed c.is_linear.result c.is_linear.ensures c.in-Some.fault c.if-not-is_linear.false c.in-Some.ensures.fault

pub returns-then-not-goes_through-clause-verdict : goal.returns-then-not-goes_through-clause-verdict
returns-then-not-goes_through-clause-verdict c =
    not_at c.args.m.now c.args.e.now c.args.f.now c.requires.claimed c.is_linear.result c.is_linear.ensures c.if-not-is_linear.false c.in_default.ensures.fault
    (λ g. false≢true (sym c.if-not-goes_through.true ∙ c.goes_through.ensures.1 g))

pub first-requires : goal.first-requires
first-requires c =
    let n : ℕ = places_of c.args.e.now.lasso in
    let some = height_some (formula_of c.args.f.now) in
    let turn = c.requires.plain.turn in
    let low : height (formula_of c.args.f.now) ≤ c.args.levels = omega (arith, c.requires.levels) in
    let room : n ≤ length c.args.cells.now = one_level n c.args.levels (length c.args.cells.now) (height (formula_of c.args.f.now)) some low c.requires.room in
    omega (arith, c.put_column.auto.cells)

pub returns-then-first-clause-verdict : goal.returns-then-first-clause-verdict
returns-then-first-clause-verdict c =
    let turn = c.requires.plain.turn in
    accepted c.args.m.now c.args.e.now c.args.f.now c.requires.claimed c.is_linear.result c.is_linear.ensures c.put_column.new.cells c.if-not-is_linear.false
    c.in_default.ensures.fault (c.goes_through.ensures.0 c.if-not-goes_through.false) (omega arith) c.put_column.ensures.column (sym c.first.ensures ∙ c.if-first.true)

pub returns-else-first-clause-verdict : goal.returns-else-first-clause-verdict
returns-else-first-clause-verdict c =
    let turn = c.requires.plain.turn in
    not_refuted c.args.m.now c.args.e.now c.args.f.now c.requires.claimed c.is_linear.result c.is_linear.ensures c.put_column.new.cells c.if-not-is_linear.false
    c.in_default.ensures.fault (c.goes_through.ensures.0 c.if-not-goes_through.false) (omega arith) c.put_column.ensures.column (sym c.first.ensures ∙ c.if-first.false)
