use Rattle.std.proofs.Common.{◌++◌, ◌<◌, List, length, ap, subst}
use Rattle.cov_model.specs.declared.model.Var.{Var}
use Rattle.cov_syntax.specs.Tokens.{Text}
use Rattle.cov_show.proofs.CubeLemmas.{marked-joined}
use Rattle.cov_show.proofs.StateTexts.{parts_of, place_there, state_at, part_put}
use Rattle.cov_show.proofs.state.show_parts.Goals as goal

pub loop-i-init : goal.loop-i-init
loop-i-init c = record {
  left = ap (λ (t : Text). c.args.into.now ++ t) (marked-joined (parts_of c.args.m.now.names c.args.m.now.vars c.args.s.now));
  places = c.requires;
}

pub get-place-requires : goal.get-place-requires
get-place-requires c =
    place_there c.args.m.now.vars c.args.s.now c.loop-i.i c.loop-i.invariant.places
    (subst (λ (xs : List Var). c.loop-i.i < length xs) c.as_slice-x-items.ensures c.loop-i-test.true)

pub show_part-requires : goal.show_part-requires
show_part-requires c =
    (state_at _ c.args.m.now.vars c.args.s.now c.loop-i.i c.x-item.result c.get-place.result.now c.as_slice-x-items.ensures c.loop-i.invariant.places c.loop-i-test.true c.x-item.is
    c.get-place.ensures).below

pub loop-i-preserved : goal.loop-i-preserved
loop-i-preserved c =
    let a =
    state_at _ c.args.m.now.vars c.args.s.now c.loop-i.i c.x-item.result c.get-place.result.now c.as_slice-x-items.ensures c.loop-i.invariant.places c.loop-i-test.true c.x-item.is
    c.get-place.ensures in
    record {
      left = part_put _ _ _ c.loop-i.i _ _ _ _ _ _ _ a c.in_ok-extend_from_slice.ensures.ok c.in_ok-show_part.ensures c.loop-i.invariant.left;
      places = a.rest;
    }
