use Rattle.std.proofs.Common.{◌≡◌, ◌<◌, ◌-◌, ◌++◌, ◌∷◌, [], List, false, length, take, rules, arith, ap, subst, ◌∙◌, refl}
use Rattle.std.proofs.lemmas.List.{get_or_read}
use Rattle.cov_dd.specs.declared.node.Ref.{Ref}
use Rattle.cov_dd.specs.declared.node.Ref.TheVariants.{Constant}
use Rattle.cov_dd.specs.Reached.{ref_at}
use Rattle.cov_space.specs.Sets.{SpaceOf, set_at}
use Rattle.cov_space.specs.Tasks.{sets_of}
use Rattle.cov_space.specs.Views.{view_of}
use Rattle.cov_space.proofs.SpaceLemmas.{place_in, same_space, length-sets_of, settled_sets}
use Rattle.cov_space.proofs.space.Space.settle.Goals as goal

pub returns : goal.returns
returns c =
    let P : SpaceOf → Type 0 = λ x. view_of c.self.inside.table c.push_reserved.new.self.items c.self.inside.places c.self.inside.refused ≡ record x { sets = take c.args.n x.sets ++ set_at x.sets (length x.sets - 1) ∷ [] } in
    let some : c.args.n < length c.self.inside.list.items = place_in c.args.self.now c.self.inside.table c.self.inside.list.items c.self.inside.places c.self.inside.refused c.args.n c.self.view_is c.requires in
    let count : c.len.result ≡ length c.self.inside.list.items = search rules in
    let last : c.len.result - 1 < length c.self.inside.list.items = omega arith in
    let read : c.index-r.result.now ≡ ref_at c.self.inside.list.items (c.len.result - 1) = get_or_read c.self.inside.list.items (c.len.result - 1) c.index-r.result.now last c.index-r.ensures (Constant false) in
    let there : c.len.result - 1 ≡ length (sets_of c.self.inside.table c.self.inside.list.items) - 1 = let l : length (sets_of c.self.inside.table c.self.inside.list.items) ≡ length c.self.inside.list.items = length-sets_of c.self.inside.table c.self.inside.list.items in omega arith in
    let items : c.push_reserved.new.self.items ≡ take c.args.n c.self.inside.list.items ++ c.index-r.result.now ∷ [] = c.push_reserved.ensures.items ∙ ap (λ (x : List Ref). x ++ c.index-r.result.now ∷ []) c.truncate.ensures.items in
    subst P c.self.view_is (same_space _ _ refl refl refl refl
    (ap (sets_of c.self.inside.table) items ∙ settled_sets c.self.inside.table c.self.inside.list.items c.args.n (c.len.result - 1) c.index-r.result.now last read
    ∙ ap (λ k. take c.args.n (sets_of c.self.inside.table c.self.inside.list.items) ++ set_at (sets_of c.self.inside.table c.self.inside.list.items) k ∷ []) there))
