use Rattle.std.proofs.Common.{rules, ◌≡◌, length, None, sym, ◌∙◌, arith}
use Rattle.std.proofs.lemmas.Result.{err_from_is_err_and}
use Rattle.std.proofs.lemmas.Grind.{common_steps}
use Rattle.cov_syntax.specs.declared.lexeme.Terminal.TheVariants as k
use Rattle.cov_syntax.specs.declared.marks.Mark.TheVariants as m
use Rattle.cov_grammar.specs.Expressions as spec
use Rattle.cov_parse.proofs.Loops.{at_level_1, at_level_5, at_level_12, at_chain, branches_step, separated_step, climb_step, chain_fails, climb_ends, climb_stops, chain_is}
use Rattle.cov_parse.proofs.expressions.+expr.Goals as goal

pub expr-returns-then-level-eq1 : goal.expr-returns-then-level-eq1
expr-returns-then-level-eq1 t c = rw (← at_level_1 c.args.depth c.args.level c.args.lexemes.now c.if-depth-eq0.false c.if-level-eq1.true) c.implication.ensures

pub expr-returns-then-level-eq5 : goal.expr-returns-then-level-eq5
expr-returns-then-level-eq5 t c = rw (← at_level_5 c.args.depth c.args.level c.args.lexemes.now c.if-depth-eq0.false c.if-level-eq5.true) c.prefixed.ensures

pub expr-returns-then-level-eq12 : goal.expr-returns-then-level-eq12
expr-returns-then-level-eq12 t c = rw (← at_level_12 c.args.depth c.args.level c.args.lexemes.now c.if-depth-eq0.false c.if-level-eq12.true) c.primary.ensures

pub expr-returns-else-level-eq12 : goal.expr-returns-else-level-eq12
expr-returns-else-level-eq12 t c =
    rw (← at_chain c.args.depth c.args.level c.args.lexemes.now c.if-depth-eq0.false c.if-level-eq1.false c.if-level-eq5.false c.if-level-eq12.false) c.chain.ensures

pub branches-loop-turn-preserved : goal.branches-loop-turn-preserved
branches-loop-turn-preserved t c =
    c.loop-turn.invariant
    ∙ branches_step (spec.expr c.args.depth) c.args.turns c.loop-turn._turn c.loop-turn.found _ c.loop-turn.rest.now c.in_ok-b.b c.in_ok-b.after.now c.loop-turn-test.true c.in_ok-b.ensures
    (sym c.if-is_next.ensures) c.in_ok-push.ensures.ok

pub items-loop-turn-preserved : goal.items-loop-turn-preserved
items-loop-turn-preserved t c =
    c.loop-turn.invariant
    ∙ separated_step (k.Mark m.Comma) (spec.expr c.args.depth 1) (length c.args.lexemes.now) c.loop-turn._turn c.loop-turn.found _ c.loop-turn.rest.now c.in_ok-e.e c.in_ok-e.after.now _ c.loop-turn-test.true
    c.in_ok-e.ensures (sym c.if-not-is_next.ensures) c.next-rest.ensures c.in_ok-push.ensures.ok

pub chain-loop-turn-preserved : goal.chain-loop-turn-preserved
chain-loop-turn-preserved t c =
    c.loop-turn.invariant
    ∙ climb_step (spec.expr c.args.depth) (length c.in_ok-left.after.now) c.loop-turn._turn c.args.level c.args.lexemes.now c.loop-turn.left c.loop-turn.after.now c.in-Some.op c.in_ok-longer.longer c.in_ok-longer.rest.now
    c.loop-turn-test.true (sym c.in-Some.ensures) c.in_ok-longer.ensures

pub chain-returns-in_default : goal.chain-returns-in_default
chain-returns-in_default t c =
    let none : spec.joint c.args.level c.loop-turn.after.now ≡ None = first_of (search rules, grind (arith, common_steps)) in
    chain_is (spec.expr c.args.depth) c.args.level c.args.lexemes.now c.in_ok-left.left c.in_ok-left.after.now c.in_ok-left.ensures
    ∙ c.loop-turn.invariant
    ∙ climb_ends (spec.expr c.args.depth) (length c.in_ok-left.after.now) c.loop-turn._turn c.args.level c.args.lexemes.now c.loop-turn.left c.loop-turn.after.now none

pub chain-returns-in_err-longer : goal.chain-returns-in_err-longer
chain-returns-in_err-longer t c =
    let p = err_from_is_err_and c.from_residual-in_err-longer.result c.from_residual-in_err-longer.ensures.1 in
    rw (p.1, p.2) (chain_fails (spec.expr c.args.depth) (length c.in_ok-left.after.now) c.loop-turn._turn c.args.level c.args.lexemes.now c.loop-turn.left c.loop-turn.after.now c.in-Some.op
    (spec.chain (spec.expr c.args.depth) c.args.level c.args.lexemes.now) c.in_err-longer.field-0.0 c.loop-turn-test.true (sym c.in-Some.ensures)
    (chain_is (spec.expr c.args.depth) c.args.level c.args.lexemes.now c.in_ok-left.left c.in_ok-left.after.now c.in_ok-left.ensures ∙ c.loop-turn.invariant)
    c.in_err-longer.ensures)

pub chain-returns : goal.chain-returns
chain-returns t c =
    chain_is (spec.expr c.args.depth) c.args.level c.args.lexemes.now c.in_ok-left.left c.in_ok-left.after.now c.in_ok-left.ensures
    ∙ c.loop-turn.invariant
    ∙ climb_stops (spec.expr c.args.depth) (length c.in_ok-left.after.now) c.loop-turn._turn c.args.level c.args.lexemes.now c.loop-turn.left c.loop-turn.after.now c.loop-turn-test.false
