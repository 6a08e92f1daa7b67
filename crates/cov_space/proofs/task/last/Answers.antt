use Rattle.std.proofs.Common.{◌≡◌, ◌++◌, ◌∷◌, [], List, Ok, Err, rules, subst, sym}
use Rattle.cov_dd.specs.declared.node.Ref.{Ref}
use Rattle.cov_space.specs.Tasks.{Puts, Performed, asked, set_in, den_at}
use Rattle.cov_space.proofs.TaskLemmas.{put_few, task_fault, asked_lies}
use Rattle.cov_space.proofs.task.last.Goals as goal

pub returns-in-Ok-clause-ok : goal.returns-in-Ok-clause-ok
returns-in-Ok-clause-ok c =
    let items : c.push_reserved.new.self.items ≡ c.args.list.now.items ++ c.in-Ok.r ∷ [] = search rules in
    let p : Performed c.args.table.now c.perform.new.table (Ok c.in-Ok.r) (asked (den_at c.args.table.now.nodes c.args.list.now.items) c.args.task) = subst (λ (x : List Ref). Performed c.args.table.now c.perform.new.table (Ok c.in-Ok.r) (asked (den_at c.args.table.now.nodes x) c.args.task)) c.as_slice.ensures.value c.in-Ok.ensures in
    subst (λ (x : List Ref). Puts c.args.table.now c.perform.new.table c.args.list.now.items x (asked (set_in c.args.table.now c.args.list.now.items) c.args.task)) (sym items)
    (put_few c.args.table.now c.perform.new.table c.args.list.now.items c.in-Ok.r (asked (set_in c.args.table.now c.args.list.now.items) c.args.task) (asked (den_at c.args.table.now.nodes c.args.list.now.items) c.args.task)
    c.held-before.ensures.table p.computes c.requires.live p.ok c.held-held.ensures.within (asked_lies c.args.table.now c.args.list.now.items c.args.task c.requires.task))

pub returns-in-Err-clause-err : goal.returns-in-Err-clause-err
returns-in-Err-clause-err c =
    let p : Performed c.args.table.now c.perform.new.table (Err c.in-Err.fault) (asked (den_at c.args.table.now.nodes c.args.list.now.items) c.args.task) = subst (λ (x : List Ref). Performed c.args.table.now c.perform.new.table (Err c.in-Err.fault) (asked (den_at c.args.table.now.nodes x) c.args.task)) c.as_slice.ensures.value c.in-Err.ensures in
    task_fault c.args.table.now c.perform.new.table c.args.list.now.items (asked (set_in c.args.table.now c.args.list.now.items) c.args.task) (asked (den_at c.args.table.now.nodes c.args.list.now.items) c.args.task) c.in-Err.fault
    c.held-before.ensures.table c.requires.live c.requires.reached p.computes p.err c.held-held-in-Err.ensures.within (asked_lies c.args.table.now c.args.list.now.items c.args.task c.requires.task)
