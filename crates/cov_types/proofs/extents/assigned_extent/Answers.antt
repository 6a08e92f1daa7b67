use Rattle.std.proofs.Common.{◌≡◌, List, ◌++◌, map, sym, ap, subst, ◌∙◌}
use Rattle.std.proofs.lemmas.List.{map-append}
use Rattle.cov_syntax.specs.declared.tree.Expr.{Expr}
use Rattle.cov_model.specs.declared.model.Assign.{Assign}
use Rattle.cov_model.specs.declared.model.Model.{Model}
use Rattle.cov_model.specs.Flat.{assignments_of}
use Rattle.cov_model.specs.Kinds.{Kinds}
use Rattle.cov_ranges.proofs.Places.{nows_stand, firsts_stand, nexts_stand}
use Rattle.cov_types.specs.Extents.{IsExtent}
use Rattle.cov_types.proofs.ExtentLemmas.{sides_pass, both}
use Rattle.cov_types.proofs.extents.assigned_extent.Goals as goal

pub sides_extent-requires : goal.sides_extent-requires
sides_extent-requires c = sides_pass (λ (a : Assign). a.body) c.args.m.now c.args.kinds.now c.args.m.now.nows c.requires (nows_stand c.args.m.now)

pub sides_extent-requires-2 : goal.sides_extent-requires-2
sides_extent-requires-2 c = sides_pass (λ (a : Assign). a.body) c.args.m.now c.args.kinds.now c.args.m.now.firsts c.requires (firsts_stand c.args.m.now)

pub sides_extent-requires-3 : goal.sides_extent-requires-3
sides_extent-requires-3 c = sides_pass (λ (a : Assign). a.body) c.args.m.now c.args.kinds.now c.args.m.now.nexts c.requires (nexts_stand c.args.m.now)

pub returns : goal.returns
returns c =
    let m : Model = c.args.m.now in
    let ks : Kinds = c.args.kinds.now in
    let nows : List Expr = map (λ (a : Assign). a.body) m.nows in
    let firsts : List Expr = map (λ (a : Assign). a.body) m.firsts in
    let nexts : List Expr = map (λ (a : Assign). a.body) m.nexts in
    let all : map (λ (a : Assign). a.body) (assignments_of m) ≡ nows ++ firsts ++ nexts
    = map-append (λ (a : Assign). a.body) (m.nows ++ m.firsts) m.nexts ∙ ap (λ (es : List Expr). es ++ nexts) (map-append (λ (a : Assign). a.body) m.nows m.firsts) in
    let two = both ks nows firsts c.in_ok-nows.nows c.in_ok-firsts.firsts c.joined.result c.in_ok-nows.ensures c.in_ok-firsts.ensures c.joined.ensures in
    subst (λ (es : List Expr). IsExtent ks es c.joined-2.result) (sym all)
    (both ks (nows ++ firsts) nexts c.joined.result c.in_ok-nexts.nexts c.joined-2.result two c.in_ok-nexts.ensures c.joined-2.ensures)
