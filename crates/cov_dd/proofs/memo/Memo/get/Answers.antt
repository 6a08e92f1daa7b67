use Rattle.std.proofs.Common.{rules, ◌≡◌, List, Contains, IfSome, IfNone, true, sym, ◌∙◌, subst}
use Rattle.cov_dd.specs.declared.node.Ref.{Ref}
use Rattle.cov_dd.specs.declared.questions.Question.{Question}
use Rattle.cov_dd.specs.contracts.questions.QuestionPartialEq.TheImpl.{eq-value}
use Rattle.cov_dd.specs.Memo.{HasKey}
use Rattle.cov_dd.proofs.Entries.{if_found, if_absent}
use Rattle.cov_dd.proofs.memo.Memo.get.Goals as goal

exact : (a b : Question) → eq-value.it a b ≡ true → a ≡ b
exact a b h = search rules

alike : (a : Question) → eq-value.it a a ≡ true
alike a = search rules

pub returns-clause-found : goal.returns-clause-found
returns-clause-found c =
    subst (λ (es : List (Question × Ref)). IfSome c.copied.result (λ r. Contains es (c.args.asked, r))) c.self.view_is
    (if_found eq-value.it exact c.self.inside.answers.entries c.args.asked c.copied.result (sym c.get.ensures.value ∙ sym c.copied.ensures))

pub returns-clause-none : goal.returns-clause-none
returns-clause-none c =
    subst (λ (es : List (Question × Ref)). IfNone c.copied.result (HasKey es c.args.asked → ⊥)) c.self.view_is
    (if_absent eq-value.it alike c.self.inside.answers.entries c.args.asked c.copied.result (sym c.get.ensures.value ∙ sym c.copied.ensures))
