use Rattle.std.proofs.Common.{◌+◌, ◌≤◌, subst, sym}
use Rattle.cov_dd.specs.declared.node.Ref.{Ref}
use Rattle.cov_dd.specs.declared.questions.Question.TheVariants.{Restrict}
use Rattle.cov_dd.specs.Nodes.{TableOf, IsLive, Keeps}
use Rattle.cov_dd.specs.Questions.{IsAsked}
use Rattle.cov_dd.specs.Size.{size}
use Rattle.cov_dd.proofs.Splitting.{computes_keeps}
use Rattle.cov_dd.proofs.PartNumbers.{calls_by_parts}
use Rattle.cov_dd.proofs.table.Table.restrict.Goals as goal

pub answer-requires-clause-right : goal.answer-requires-clause-right
answer-requires-clause-right c = λ q r h. c.self.invariant q r (c.bound.ensures q r h)

pub returns-clause-keeps : goal.returns-clause-keeps
returns-clause-keeps c =
    subst (λ (x : TableOf). (r : Ref) → IsLive x.nodes r → Keeps x c.answer.new.store r) c.self.view_is
    (computes_keeps c.self.inside.store c.answer.new.store _ _ c.held-held.ensures.table c.answer.ensures.computes)

pub returns-clause-calls : goal.returns-clause-calls
returns-clause-calls c =
    let asked : IsAsked c.self.inside.store (Restrict c.args.f c.args.level c.args.bit) = subst (λ (x : TableOf). IsAsked x (Restrict c.args.f c.args.level c.args.bit)) (sym c.self.view_is) (c.requires.f, c.requires.level) in
    subst (λ (x : TableOf). c.answer.new.store.calls ≤ x.calls + size x.nodes c.args.f) c.self.view_is (calls_by_parts (Restrict c.args.f c.args.level c.args.bit) c.held-held.ensures.table asked c.answer.ensures.counted)
