use Rattle.std.proofs.Common.{◌≡◌, ◌++◌, ◌∷◌, [], List, Ok, rules, subst, sym}
use Rattle.cov_dd.specs.declared.node.Ref.{Ref}
use Rattle.cov_space.specs.Tasks.{Puts, Performed, asked, set_in, den_at}
use Rattle.cov_space.proofs.TaskLemmas.{put_few, asked_lies, sets_grown, puts_moved_ok, fault_moved_err}
use Rattle.cov_space.proofs.task.run.Goals as goal

pub returns-in-Ok-clause-ok : goal.returns-in-Ok-clause-ok
returns-in-Ok-clause-ok c =
    let items : c.push_reserved.new.self.items ≡ c.args.list.now.items ++ c.in-Ok.r ∷ [] = search rules in
    let p : Performed c.args.table.now c.perform.new.table (Ok c.in-Ok.r) (asked (den_at c.args.table.now.nodes c.args.list.now.items) c.args.task) = subst (λ (x : List Ref). Performed c.args.table.now c.perform.new.table (Ok c.in-Ok.r) (asked (den_at c.args.table.now.nodes x) c.args.task)) c.as_slice.ensures.value c.in-Ok.ensures in
    subst (λ (x : List Ref). Puts c.args.table.now c.perform.new.table c.args.list.now.items x (asked (set_in c.args.table.now c.args.list.now.items) c.args.task)) (sym items)
    (put_few c.args.table.now c.perform.new.table c.args.list.now.items c.in-Ok.r (asked (set_in c.args.table.now c.args.list.now.items) c.args.task) (asked (den_at c.args.table.now.nodes c.args.list.now.items) c.args.task)
    c.held-before.ensures.table p.computes c.requires.live p.ok c.held-held.ensures.within (asked_lies c.args.table.now c.args.list.now.items c.args.task c.requires.task))

pub returns-in-Err-Full-clause-ok : goal.returns-in-Err-Full-clause-ok
returns-in-Err-Full-clause-ok c =
    let p : Performed c.args.table.now c.perform.new.table c.perform.result (asked (den_at c.args.table.now.nodes c.args.list.now.items) c.args.task) = subst (λ (x : List Ref). Performed c.args.table.now c.perform.new.table c.perform.result (asked (den_at c.args.table.now.nodes x) c.args.task)) c.as_slice.ensures.value c.perform.ensures in
    puts_moved_ok c.again.result c.args.table.now c.perform.new.table c.again.new.table c.args.list.now.items c.args.list.now.items c.again.new.list.items c.args.task p.computes.extends.levels p.computes.extends.budget (sets_grown c.args.table.now c.perform.new.table c.held-before.ensures.table p.computes.extends c.args.list.now.items c.requires.live) c.again.ensures.ok

pub returns-in-Err-Full-clause-err : goal.returns-in-Err-Full-clause-err
returns-in-Err-Full-clause-err c =
    let p : Performed c.args.table.now c.perform.new.table c.perform.result (asked (den_at c.args.table.now.nodes c.args.list.now.items) c.args.task) = subst (λ (x : List Ref). Performed c.args.table.now c.perform.new.table c.perform.result (asked (den_at c.args.table.now.nodes x) c.args.task)) c.as_slice.ensures.value c.perform.ensures in
    fault_moved_err c.again.result c.args.table.now c.perform.new.table c.again.new.table c.args.list.now.items c.args.list.now.items c.again.new.list.items c.args.task p.computes.extends.levels p.computes.extends.budget (sets_grown c.args.table.now c.perform.new.table c.held-before.ensures.table p.computes.extends c.args.list.now.items c.requires.live) c.again.ensures.err

pub returns-in-Err-Memory-clause-err : goal.returns-in-Err-Memory-clause-err
returns-in-Err-Memory-clause-err c =
    let p : Performed c.args.table.now c.perform.new.table c.perform.result (asked (den_at c.args.table.now.nodes c.args.list.now.items) c.args.task) = subst (λ (x : List Ref). Performed c.args.table.now c.perform.new.table c.perform.result (asked (den_at c.args.table.now.nodes x) c.args.task)) c.as_slice.ensures.value c.perform.ensures in
    sets_grown c.args.table.now c.perform.new.table c.held-before.ensures.table p.computes.extends c.args.list.now.items c.requires.live
