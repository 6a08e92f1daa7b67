use Rattle.std.proofs.Common.{◌≡◌, List, length, rules, ap, ◌∙◌}
use Rattle.std.proofs.lemmas.List.{with_items_is}
use Rattle.cov_dd.specs.declared.node.Ref.{Ref}
use Rattle.cov_space.specs.Views.{view_of}
use Rattle.cov_space.proofs.SpaceLemmas.{collected_space}
use Rattle.cov_space.proofs.space.Space.collect.Goals as goal

pub returns : goal.returns
returns c =
    let slice : c.as_mut_slice.result.now ≡ c.self.inside.list.items = c.as_mut_slice.ensures.value in
    let len : length c.collect_slice.new.keep ≡ c.self.inside.list.len = search rules in
    let items = with_items_is c.self.inside.list c.collect_slice.new.keep len in
    ap (λ (x : List Ref). view_of c.collect_slice.new.self x c.self.inside.places c.self.inside.refused) items
    ∙ collected_space c.collect_slice.result c.self.inside.table c.collect_slice.new.self c.as_mut_slice.result.now c.collect_slice.new.keep c.self.inside.places c.self.inside.refused c.collect_slice.ensures.err c.collect_slice.ensures.ok
    ∙ ap (λ (x : List Ref). view_of c.self.inside.table x c.self.inside.places c.self.inside.refused) slice
    ∙ c.self.view_is
