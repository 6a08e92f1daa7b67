use Rattle.std.proofs.Common.{◌≡◌, ◌<◌, false, length, ap, sym, ◌∙◌}
use Rattle.std.proofs.lemmas.List.{get_or_read}
use Rattle.cov_dd.specs.declared.node.Ref.{Ref}
use Rattle.cov_dd.specs.declared.node.Ref.TheVariants.{Constant}
use Rattle.cov_dd.specs.Nodes.{den}
use Rattle.cov_dd.specs.Reached.{ref_at}
use Rattle.cov_space.specs.Sets.{SpaceOf, lies, set_at}
use Rattle.cov_space.proofs.TaskLemmas.{lies_at}
use Rattle.cov_space.proofs.SpaceLemmas.{place_in}
use Rattle.cov_space.proofs.space.Space.at.Goals as goal

pub returns : goal.returns
returns c =
    let in_a : c.args.a < length c.self.inside.list.items = place_in c.args.self.now c.self.inside.table c.self.inside.list.items c.self.inside.places c.self.inside.refused c.args.a c.self.view_is c.requires.a in
    let read : c.index.result.now ≡ ref_at c.self.inside.list.items c.args.a = get_or_read c.self.inside.list.items c.args.a c.index.result.now in_a c.index.ensures (Constant false) in
    let bits : length c.args.bits.now ≡ c.self.inside.table.levels = c.requires.bits ∙ ap (λ (x : SpaceOf). x.levels) (sym c.self.view_is) in
    c.at.ensures ∙ ap (λ (r : Ref). den c.self.inside.table.nodes r c.args.bits.now) read
    ∙ sym (lies_at c.self.inside.table c.self.inside.list.items c.args.a in_a c.args.bits.now bits)
    ∙ ap (λ (x : SpaceOf). lies (set_at x.sets c.args.a) c.args.bits.now) c.self.view_is
