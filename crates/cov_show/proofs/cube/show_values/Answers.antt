use Rattle.std.proofs.Common.{◌++◌, [], length, map, get_or, ap}
use Rattle.cov_syntax.specs.Tokens.{Text}
use Rattle.cov_show.specs.Cubes.{value_text}
use Rattle.cov_show.proofs.CubeLemmas.{marked-joined, marked_next, class_ascends, place_in, value_at, texts_length}
use Rattle.cov_show.proofs.cube.show_values.Goals as goal

pub loop-i-init : goal.loop-i-init
loop-i-init c = ap (λ (t : Text). c.args.into.now ++ t) (marked-joined (map (λ i. get_or (map (value_text c.args.names.now) c.args.values.now) i []) c.args.class.now))

pub bounds-values-i : goal.bounds-values-i
bounds-values-i c = place_in 0 (length c.args.values.now) c.args.class.now c.loop-i.i-index (class_ascends (length c.args.values.now) c.args.class.now c.requires) c.loop-i-test.true

pub loop-i-preserved : goal.loop-i-preserved
loop-i-preserved c =
    marked_next (map (λ i. get_or (map (value_text c.args.names.now) c.args.values.now) i []) c.args.class.now) c.loop-i.i-index _ c.loop-i.into c.loop-i.mark.now _ _ _
    (texts_length c.args.names.now c.args.values.now c.args.class.now c.loop-i.i-index c.loop-i-test.true)
    (value_at c.args.names.now c.args.values.now c.args.class.now c.loop-i.i-index _ c.requires c.loop-i-test.true)
    c.in_ok-extend_from_slice.ensures.ok c.in_ok-show_value.ensures c.loop-i.invariant
