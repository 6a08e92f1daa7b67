use Rattle.std.proofs.Common.{◌≡◌, List, length, OnOk, rules, subst, sym}
use Rattle.std.proofs.lemmas.List.{with_items_is}
use Rattle.cov_dd.specs.declared.node.Ref.{Ref}
use Rattle.cov_dd.specs.Reached.{SizeIsNeed}
use Rattle.cov_dd.proofs.table.Table.collect.Goals as goal

pub returns-clause-held : goal.returns-clause-held
returns-clause-held c =
    let len : length c.collect_slice.new.keep ≡ c.keep.inside.items.len = search rules in
    subst (λ (x : List Ref). OnOk c.collect_slice.result (SizeIsNeed c.collect_slice.new.self x)) (sym (with_items_is c.keep.inside.items c.collect_slice.new.keep len)) c.collect_slice.ensures.held
