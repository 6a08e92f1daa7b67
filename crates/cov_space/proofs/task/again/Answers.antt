use Rattle.std.proofs.Common.{◌≡◌, List, length, rules, subst, sym, ap, ◌∙◌}
use Rattle.std.proofs.lemmas.List.{with_items_is}
use Rattle.cov_dd.specs.declared.node.Ref.{Ref}
use Rattle.cov_dd.specs.Reached.{IsCollected, AllReached}
use Rattle.cov_space.specs.Tasks.{sets_of}
use Rattle.cov_space.proofs.TaskLemmas.{sets_collected, puts_moved_ok, fault_moved_err}
use Rattle.cov_space.proofs.task.again.Goals as goal

pub last-requires-clause-reached : goal.last-requires-clause-reached
last-requires-clause-reached c =
    let slice : c.as_mut_slice.result.now ≡ c.args.list.now.items = c.as_mut_slice.ensures.value in
    let k : IsCollected c.args.table.now c.collect_slice.new.self c.args.list.now.items c.collect_slice.new.keep = subst (λ (x : List Ref). IsCollected c.args.table.now c.collect_slice.new.self x c.collect_slice.new.keep) slice c.in-Ok.ensures.ok in
    let count : length c.collect_slice.new.keep ≡ length c.args.list.now.items = k.count in
    let len : length c.collect_slice.new.keep ≡ c.args.list.now.len = search rules in
    let items = with_items_is c.args.list.now c.collect_slice.new.keep len in
    subst (λ (x : List Ref). AllReached c.collect_slice.new.self.nodes x) (sym items) k.reached

pub returns-in-Ok-clause-ok : goal.returns-in-Ok-clause-ok
returns-in-Ok-clause-ok c =
    let slice : c.as_mut_slice.result.now ≡ c.args.list.now.items = c.as_mut_slice.ensures.value in
    let k : IsCollected c.args.table.now c.collect_slice.new.self c.args.list.now.items c.collect_slice.new.keep = subst (λ (x : List Ref). IsCollected c.args.table.now c.collect_slice.new.self x c.collect_slice.new.keep) slice c.in-Ok.ensures.ok in
    let count : length c.collect_slice.new.keep ≡ length c.args.list.now.items = k.count in
    let len : length c.collect_slice.new.keep ≡ c.args.list.now.len = search rules in
    let items = with_items_is c.args.list.now c.collect_slice.new.keep len in
    puts_moved_ok c.last.result c.args.table.now c.collect_slice.new.self c.last.new.table c.args.list.now.items _ c.last.new.list.items c.args.task k.levels k.budget (ap (sets_of c.collect_slice.new.self) items ∙ sets_collected c.args.table.now c.collect_slice.new.self c.args.list.now.items c.collect_slice.new.keep k) c.last.ensures.ok

pub returns-in-Ok-clause-err : goal.returns-in-Ok-clause-err
returns-in-Ok-clause-err c =
    let slice : c.as_mut_slice.result.now ≡ c.args.list.now.items = c.as_mut_slice.ensures.value in
    let k : IsCollected c.args.table.now c.collect_slice.new.self c.args.list.now.items c.collect_slice.new.keep = subst (λ (x : List Ref). IsCollected c.args.table.now c.collect_slice.new.self x c.collect_slice.new.keep) slice c.in-Ok.ensures.ok in
    let count : length c.collect_slice.new.keep ≡ length c.args.list.now.items = k.count in
    let len : length c.collect_slice.new.keep ≡ c.args.list.now.len = search rules in
    let items = with_items_is c.args.list.now c.collect_slice.new.keep len in
    fault_moved_err c.last.result c.args.table.now c.collect_slice.new.self c.last.new.table c.args.list.now.items _ c.last.new.list.items c.args.task k.levels k.budget (ap (sets_of c.collect_slice.new.self) items ∙ sets_collected c.args.table.now c.collect_slice.new.self c.args.list.now.items c.collect_slice.new.keep k) c.last.ensures.err
