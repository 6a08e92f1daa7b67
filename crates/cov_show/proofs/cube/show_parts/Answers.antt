use Rattle.std.proofs.Common.{◌++◌, ◌<◌, ◌≤◌, length, ap}
use Rattle.cov_syntax.specs.Tokens.{Text}
use Rattle.cov_show.proofs.CubeLemmas.{marked-joined, cube_read, part_left_out, part_put, parts_of}
use Rattle.cov_show.proofs.cube.show_parts.Goals.{then-class-len+in_ok-extend_from_slice+in_ok-show_part, else-class-len}
use Rattle.cov_show.proofs.cube.show_parts.Goals as goal

pub loop-i-init : goal.loop-i-init
loop-i-init c = record {
  left = ap (λ (t : Text). c.args.into.now ++ t) (marked-joined (parts_of c.args.m.now.names c.args.m.now.vars c.args.c.now));
  classes = c.requires;
}

pub show_part-requires : goal.show_part-requires
show_part-requires c =
    (cube_read _ c.args.m.now.vars c.args.c.now c.loop-i.i _ _ _ c.as_slice-x-items.ensures c.loop-i.invariant.classes c.loop-i-test.true c.x-item.is c.get.ensures c.as_slice-class.ensures).class

pub loop-i-preserved : goal.loop-i-preserved
loop-i-preserved c =
    let a = cube_read _ c.args.m.now.vars c.args.c.now c.loop-i.i _ _ _ c.as_slice-x-items.ensures c.loop-i.invariant.classes c.loop-i-test.true c.x-item.is c.get.ensures c.as_slice-class.ensures in
    elim c.if-class-len.branch [
      | then-class-len+in_ok-extend_from_slice+in_ok-show_part w ↦
          let less : length c.as_slice-class.result.now < length c.x-item.result.values = rw c.len.ensures at w.if-class-len.true in
          record {
            left = rw (w.into-is, w.mark-is) (part_put _ _ _ c.loop-i.i _ _ _ _ _ _ _ a less w.in_ok-extend_from_slice.ensures.ok w.in_ok-show_part.ensures c.loop-i.invariant.left);
            classes = a.rest;
          }
      | else-class-len w ↦
          let most : length c.x-item.result.values ≤ length c.as_slice-class.result.now = rw c.len.ensures at w.if-class-len.false in
          record {
            left = rw (w.into-is, w.mark-is) (part_left_out _ _ _ c.loop-i.i _ _ _ _ _ a most c.loop-i.invariant.left);
            classes = a.rest;
          }
    ]
