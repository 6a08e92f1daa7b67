use Rattle.std.proofs.Common.{◌≡◌, ◌↔◌, ◌<◌, false, IfOk, length, subst, sym}
use Rattle.std.proofs.lemmas.List.{get_or_read}
use Rattle.cov_dd.specs.declared.node.Ref.TheVariants.{Constant}
use Rattle.cov_dd.specs.Operations.{Ignores}
use Rattle.cov_dd.specs.Reached.{ref_at}
use Rattle.cov_space.specs.Sets.{SpaceOf, lies, set_at}
use Rattle.cov_space.proofs.SpaceLemmas.{place_in, depends_at}
use Rattle.cov_space.proofs.space.Space.depends.Goals as goal

pub returns : goal.returns
returns c =
    let in_a : c.args.a < length c.self.inside.list.items = place_in c.args.self.now c.self.inside.table c.self.inside.list.items c.self.inside.places c.self.inside.refused c.args.a c.self.view_is c.requires.a in
    let read : c.index.result.now ≡ ref_at c.self.inside.list.items c.args.a = get_or_read c.self.inside.list.items c.args.a c.index.result.now in_a c.index.ensures (Constant false) in
    let below : c.args.level < c.self.inside.table.levels = subst (λ (x : SpaceOf). c.args.level < x.levels) (sym c.self.view_is) c.requires.level in
    let P : SpaceOf → Type 0 = λ x. IfOk c.depends.result (λ b. (b ≡ false) ↔ Ignores x.levels c.args.level (lies (set_at x.sets c.args.a))) in
    subst P c.self.view_is (depends_at c.depends.result c.self.inside.table c.self.inside.list.items c.args.a c.args.level c.index.result.now in_a below read c.depends.ensures)
