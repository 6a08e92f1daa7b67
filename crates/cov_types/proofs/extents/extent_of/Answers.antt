use Rattle.std.proofs.Common.{List, ◌++◌, map}
use Rattle.cov_syntax.specs.declared.tree.Expr.{Expr}
use Rattle.cov_model.specs.declared.model.Assign.{Assign}
use Rattle.cov_model.specs.declared.model.Define.{Define}
use Rattle.cov_model.specs.declared.model.Model.{Model}
use Rattle.cov_model.specs.Flat.{assignments_of, conditions_of}
use Rattle.cov_model.specs.Kinds.{Kinds}
use Rattle.cov_ranges.proofs.Places.{defines_stand}
use Rattle.cov_types.proofs.ExtentLemmas.{sides_pass, both}
use Rattle.cov_types.proofs.extents.extent_of.Goals as goal

pub bodies_extent-requires : goal.bodies_extent-requires
bodies_extent-requires c = sides_pass (λ (d : Define). d.body) c.args.m.now c.args.kinds.now c.args.m.now.defines c.requires (defines_stand c.args.m.now)

pub returns : goal.returns
returns c =
    let m : Model = c.args.m.now in
    let ks : Kinds = c.args.kinds.now in
    let bodies : List Expr = map (λ (d : Define). d.body) m.defines in
    let assigned : List Expr = map (λ (a : Assign). a.body) (assignments_of m) in
    let two = both ks bodies (conditions_of m) c.in_ok-bodies.bodies c.in_ok-conditions.conditions c.joined.result c.in_ok-bodies.ensures c.in_ok-conditions.ensures c.joined.ensures in
    both ks (bodies ++ conditions_of m) assigned c.joined.result c.in_ok-assigned.assigned c.joined-2.result two c.in_ok-assigned.ensures c.joined-2.ensures
