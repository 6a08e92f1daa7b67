use Rattle.std.proofs.Common.{◌≡◌, ◌-◌, [], length, ◌+◌, ◌*◌}
use Rattle.cov_syntax.specs.declared.lexeme.Terminal.TheVariants as k
use Rattle.cov_syntax.specs.declared.marks.Mark.TheVariants as m
use Rattle.cov_grammar.specs.Expressions as spec
use Rattle.cov_grammar.specs.Steps as steps
use Rattle.cov_parse.proofs.expressions.+expr.Given as goal

-- each part calls `expr` at its own depth, and `expr` calls each at one less
abbrev pub decreases-expr : goal.decreases-expr
decreases-expr l = 5 * l.depth

abbrev pub decreases-implication : goal.decreases-implication
decreases-implication l = 5 * l.depth + 1

abbrev pub decreases-prefixed : goal.decreases-prefixed
decreases-prefixed l = 5 * l.depth + 1

abbrev pub decreases-chain : goal.decreases-chain
decreases-chain l = 5 * l.depth + 2

abbrev pub decreases-operated : goal.decreases-operated
decreases-operated l = 5 * l.depth + 1

abbrev pub decreases-primary : goal.decreases-primary
decreases-primary l = 5 * l.depth + 4

abbrev pub decreases-grouped : goal.decreases-grouped
decreases-grouped l = 5 * l.depth + 1

abbrev pub decreases-set : goal.decreases-set
decreases-set l = 5 * l.depth + 3

abbrev pub decreases-items : goal.decreases-items
decreases-items l = 5 * l.depth + 1

abbrev pub decreases-choice : goal.decreases-choice
decreases-choice l = 5 * l.depth + 3

abbrev pub decreases-branches : goal.decreases-branches
decreases-branches l = 5 * l.depth + 2

abbrev pub decreases-branch : goal.decreases-branch
decreases-branch l = 5 * l.depth + 1

abbrev pub decreases-until : goal.decreases-until
decreases-until l = 5 * l.depth + 1

abbrev pub invariant-branches-loop-turn : goal.invariant-branches-loop-turn
invariant-branches-loop-turn l = spec.branches (spec.expr l.depth) l.turns [] l.lexemes ≡ spec.branches (spec.expr l.depth) (l.turns - l._turn) l.found l.rest

abbrev pub invariant-items-loop-turn : goal.invariant-items-loop-turn
invariant-items-loop-turn l =
    steps.separated (k.Mark m.Comma) (spec.expr l.depth 1) (length l.lexemes) [] l.lexemes
    ≡ steps.separated (k.Mark m.Comma) (spec.expr l.depth 1) (length l.lexemes - l._turn) l.found l.rest

abbrev pub invariant-chain-loop-turn : goal.invariant-chain-loop-turn
invariant-chain-loop-turn l =
    spec.climb (spec.expr l.depth) (length l.initial.after) l.level l.lexemes l.initial.left l.initial.after
    ≡ spec.climb (spec.expr l.depth) (length l.initial.after - l._turn) l.level l.lexemes l.left l.after
