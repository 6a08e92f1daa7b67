use Rattle.std.proofs.Common.{◌≡◌, ℕ, length, rules, subst, sym}
use Rattle.cov_space.specs.Sets.{SpaceOf}
use Rattle.cov_space.specs.Tasks.{asked, asked_set, set_in, Needs}
use Rattle.cov_space.specs.Views.{view_of}
use Rattle.cov_space.specs.Answers.{IsOverBudget}
use Rattle.cov_space.proofs.SpaceLemmas.{over_budget}
use Rattle.cov_space.proofs.space.Space.basic.Goals as goal

pub returns-in-Err-Full-clause-err : goal.returns-in-Err-Full-clause-err
returns-in-Err-Full-clause-err c =
    let r : Needs c.self.inside.table c.run.new.table c.self.inside.list.items c.run.new.list.items (asked (set_in c.self.inside.table c.self.inside.list.items) c.args.task) c.in-Err-Full.held c.in-Err-Full.budget = rw c.in-Err-Full.field-0-is at c.in-Err-Full.ensures.err in
    let count : c.len.result ≡ length c.run.new.list.items = search rules in
    let a = over_budget c.self.inside.table c.run.new.table c.self.inside.list.items c.run.new.list.items c.self.inside.places c.self.inside.refused c.args.task c.in-Err-Full.held c.in-Err-Full.budget c.len.result c.run.ensures.kept count c.self.invariant.within r in
    subst (λ (x : SpaceOf). IsOverBudget x (view_of c.run.new.table c.run.new.list.items c.self.inside.places c.saturating_add-self-inside.result) (asked_set x.levels x.sets c.args.task) (record { held = c.in-Err-Full.held; budget = c.in-Err-Full.budget; roots = c.len.result })) c.self.view_is
    (subst (λ (x : ℕ). IsOverBudget (view_of c.self.inside.table c.self.inside.list.items c.self.inside.places c.self.inside.refused) (view_of c.run.new.table c.run.new.list.items c.self.inside.places x) (asked_set c.self.inside.table.levels (view_of c.self.inside.table c.self.inside.list.items c.self.inside.places c.self.inside.refused).sets c.args.task) (record { held = c.in-Err-Full.held; budget = c.in-Err-Full.budget; roots = c.len.result })) (sym c.saturating_add-self-inside.ensures) a)
