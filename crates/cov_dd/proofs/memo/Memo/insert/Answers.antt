use Rattle.std.proofs.Common.{rules, ◌≡◌, List, [], ◌∷◌, ◌++◌, Contains, None, Result, Ok, Err, OnOk, true, ap, ◌∙◌, subst}
use Rattle.std.specs.Map.{lookup}
use Rattle.cov_dd.specs.declared.node.Ref.{Ref}
use Rattle.cov_dd.specs.declared.questions.Question.{Question}
use Rattle.cov_dd.specs.declared.fault.NoMemory.{NoMemory}
use Rattle.cov_dd.specs.contracts.questions.QuestionPartialEq.TheImpl.{eq-value}
use Rattle.indexmap.proofs.CallerLemmas.{insert_entry-new}
use Rattle.cov_dd.proofs.Entries.{appended}
use Rattle.cov_dd.proofs.memo.Memo.insert.Goals as goal
use Rattle.cov_dd.proofs.memo.Memo.insert.Goals.{in-Ok, in-Err}

exact : (a b : Question) → eq-value.it a b ≡ true → a ≡ b
exact a b h = search rules

on_ok : (res : Result (Unit {0}) NoMemory) (P : Type 0) → P → OnOk res P
on_ok (Ok x) P p = p
on_ok (Err e) P p = tt

on_err : (res : Result (Unit {0}) NoMemory) (e : NoMemory) (P : Type 0) → res ≡ Err e → OnOk res P
on_err (Ok x) e P h = cc
on_err (Err d) e P h = tt

pub returns-clause-ok : goal.returns-clause-ok
returns-clause-ok c =
    elim c.match-insert.branch [
      | in-Ok w ↦
          let same : c.self.inside.answers.entries ≡ c.args.self.now = c.self.view_is in
          let none : (r : Ref) → Contains c.self.inside.answers.entries (c.args.asked, r) → ⊥ = λ r h. c.requires (r, subst (λ (es : List (Question × Ref)). Contains es (c.args.asked, r)) same h) in
          let missing : lookup (eq-value.it c.args.asked) c.self.inside.answers.entries ≡ None = appended eq-value.it exact c.self.inside.answers.entries c.args.asked c.args.answer none in
          on_ok c.match-insert.result _ (w.in-Ok.ensures.entries ∙ insert_entry-new eq-value.it c.self.inside.answers c.args.asked c.args.answer missing ∙ ap (λ (es : List (Question × Ref)). es ++ (c.args.asked, c.args.answer) ∷ []) same)
      | in-Err w ↦ on_err c.match-insert.result _ _ w.result-is
    ]
