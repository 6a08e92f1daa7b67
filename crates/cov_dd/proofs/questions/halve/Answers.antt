use Rattle.std.proofs.Common.{◌≡◌, ◌≢◌, rules, sym, subst, arith}
use Rattle.cov_dd.specs.declared.questions.Question.{Question}
use Rattle.cov_dd.specs.Nodes.{top_of}
use Rattle.cov_dd.specs.declared.questions.Question.TheVariants.{Restrict}
use Rattle.cov_dd.specs.Questions.{IsAsked, IsOpen, wanted, on_two, negation_of, restriction_of, Halved}
use Rattle.cov_dd.proofs.OperationLemmas.{halved_two, halved_negation, halved_restriction}
use Rattle.cov_dd.proofs.questions.halve.Goals as goal

pub returns-in-Apply-clause-halved : goal.returns-in-Apply-clause-halved
returns-in-Apply-clause-halved c =
    let top : c.min-level.result ≡ top_of c.args.store.now c.in-Apply.f c.in-Apply.g = search rules in
    subst (λ (q : Question). Halved c.args.store.now c.min-level.result (wanted q) (on_two c.in-Apply.op c.split-f_low.result.0 c.split-g_low.result.0) (on_two c.in-Apply.op c.split-f_low.result.1 c.split-g_low.result.1)) (sym c.in-Apply.is)
    (halved_two c.args.store.now c.in-Apply.op c.in-Apply.f c.in-Apply.g c.min-level.result c.split-f_low.result.0 c.split-f_low.result.1 c.split-g_low.result.0 c.split-g_low.result.1 c.level.ensures.table top c.split-f_low.ensures c.split-g_low.ensures)

pub returns-in-Negate-clause-halved : goal.returns-in-Negate-clause-halved
returns-in-Negate-clause-halved c =
    subst (λ (q : Question). Halved c.args.store.now c.level-level.result (wanted q) (negation_of c.split-low.result.0) (negation_of c.split-low.result.1)) (sym c.in-Negate.is)
    (halved_negation c.args.store.now c.in-Negate.f c.level-level.result c.split-low.result.0 c.split-low.result.1 c.level-level.ensures.table c.level-level.ensures.level c.split-low.ensures)

pub returns-in-Restrict-clause-halved : goal.returns-in-Restrict-clause-halved
returns-in-Restrict-clause-halved c =
    let s = c.args.store.now in
    let level = c.level-level-in-Restrict in
    let split = c.split-low-in-Restrict in
    let asked : IsAsked s (Restrict c.in-Restrict.f c.in-Restrict.fixed c.in-Restrict.bit) = subst (IsAsked s) c.in-Restrict.is c.requires.asked in
    let open_at : IsOpen s (Restrict c.in-Restrict.f c.in-Restrict.fixed c.in-Restrict.bit) = subst (IsOpen s) c.in-Restrict.is c.requires.open in
    let top = level.ensures.level in
    let other : level.result ≢ c.in-Restrict.fixed = λ e. omega arith in
    subst (λ (q : Question). Halved s level.result (wanted q) (restriction_of c.in-Restrict.fixed c.in-Restrict.bit split.result.0) (restriction_of c.in-Restrict.fixed c.in-Restrict.bit split.result.1)) (sym c.in-Restrict.is)
    (halved_restriction s c.in-Restrict.f level.result split.result.0 split.result.1 c.in-Restrict.fixed c.in-Restrict.bit level.ensures.table top split.ensures other asked.1)
