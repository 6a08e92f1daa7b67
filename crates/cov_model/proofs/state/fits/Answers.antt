use Rattle.std.proofs.Common.{◌≡◌, ◌+◌, ◌<◌, ◌≤◌, length, get_or, sym, ◌∙◌, arith}
use Rattle.cov_model.proofs.FitLemmas.{left_fits, fits_lengths, left_all, left_next, left_none, not_below, is_below}
use Rattle.cov_model.proofs.state.fits.Goals as goal

pub returns-then-vars-s : goal.returns-then-vars-s
returns-then-vars-s c = sym (fits_lengths c.args.vars.now c.args.s.now c.if-vars-s.true)

pub loop-i-init : goal.loop-i-init
loop-i-init c = record {
  left = left_all c.args.vars.now c.args.s.now;
  lengths = c.if-vars-s.false;
}

pub returns-then-s-i : goal.returns-then-s-i
returns-then-s-i c =
    let above : length c.index-vars-i.result.values ≤ get_or c.args.s.now c.loop-i.i 0 = omega (arith, c.len.ensures, c.if-s-i.true) in
    sym (not_below (get_or c.args.s.now c.loop-i.i 0) (length c.index-vars-i.result.values) (left_fits c.args.vars.now c.args.s.now (c.loop-i.i + 1)) above)
    ∙ sym (left_next c.args.vars.now c.args.s.now c.loop-i.i c.index-vars-i.result c.loop-i.invariant.lengths c.loop-i-test.true c.index-vars-i.is)
    ∙ c.loop-i.invariant.left

pub loop-i-preserved : goal.loop-i-preserved
loop-i-preserved c =
    let below : get_or c.args.s.now c.loop-i.i 0 < length c.index-vars-i.result.values = omega (arith, c.len.ensures, c.if-s-i.false) in
    record {
      left = sym (is_below (get_or c.args.s.now c.loop-i.i 0) (length c.index-vars-i.result.values) (left_fits c.args.vars.now c.args.s.now (c.loop-i.i + 1)) below)
          ∙ sym (left_next c.args.vars.now c.args.s.now c.loop-i.i c.index-vars-i.result c.loop-i.invariant.lengths c.loop-i-test.true c.index-vars-i.is)
          ∙ c.loop-i.invariant.left;
      lengths = c.loop-i.invariant.lengths;
    }

pub returns : goal.returns
returns c = sym (left_none c.args.vars.now c.args.s.now c.loop-i.i c.loop-i.invariant.lengths c.loop-i-test.false) ∙ c.loop-i.invariant.left
