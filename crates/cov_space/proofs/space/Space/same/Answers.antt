use Rattle.std.proofs.Common.{◌≡◌, ◌<◌, ◌↔◌, IsTrue, false, length, subst}
use Rattle.std.proofs.lemmas.List.{get_or_read}
use Rattle.cov_dd.specs.declared.node.Ref.TheVariants.{Constant}
use Rattle.cov_dd.specs.Reached.{ref_at}
use Rattle.cov_space.specs.Sets.{SpaceOf, set_at, SameSets}
use Rattle.cov_space.proofs.SpaceLemmas.{place_in, same_tests, same_lists}
use Rattle.cov_space.proofs.space.Space.same.Goals.{After-same}
use Rattle.cov_space.proofs.space.Space.same.Goals as goal

-- the diagrams that were read
record Read (c : After-same) : Type 0 where
  in_a : c.args.a < length c.self.inside.list.items
  in_b : c.args.b < length c.self.inside.list.items
  is_a : c.index.result.now ≡ ref_at c.self.inside.list.items c.args.a
  is_b : c.index-2.result.now ≡ ref_at c.self.inside.list.items c.args.b

read : (c : After-same) → Read c
read c =
    let in_a : c.args.a < length c.self.inside.list.items = place_in c.args.self.now c.self.inside.table c.self.inside.list.items c.self.inside.places c.self.inside.refused c.args.a c.self.view_is c.requires.a in
    let in_b : c.args.b < length c.self.inside.list.items = place_in c.args.self.now c.self.inside.table c.self.inside.list.items c.self.inside.places c.self.inside.refused c.args.b c.self.view_is c.requires.b in
    record {
      in_a = in_a;
      in_b = in_b;
      is_a = get_or_read c.self.inside.list.items c.args.a c.index.result.now in_a c.index.ensures (Constant false);
      is_b = get_or_read c.self.inside.list.items c.args.b c.index-2.result.now in_b c.index-2.ensures (Constant false);
    }

pub returns-clause-tests : goal.returns-clause-tests
returns-clause-tests c =
    let r = read (goal.at.returns-clause-tests c).After-same in
    subst (λ (x : SpaceOf). IsTrue c.same.result ↔ SameSets x.levels (set_at x.sets c.args.a) (set_at x.sets c.args.b)) c.self.view_is
    (same_tests c.same.result c.self.inside.table c.self.inside.list.items c.args.a c.args.b c.index.result.now c.index-2.result.now r.in_a r.in_b r.is_a r.is_b c.same.ensures)

pub returns-clause-sets : goal.returns-clause-sets
returns-clause-sets c =
    let r = read (goal.at.returns-clause-sets c).After-same in
    subst (λ (x : SpaceOf). IsTrue c.same.result ↔ (set_at x.sets c.args.a ≡ set_at x.sets c.args.b)) c.self.view_is
    (same_lists c.same.result c.self.inside.table c.self.inside.list.items c.args.a c.args.b c.index.result.now c.index-2.result.now r.in_a r.in_b r.is_a r.is_b c.same.ensures)
