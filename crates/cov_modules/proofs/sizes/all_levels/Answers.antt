use Rattle.std.proofs.Common.{◌≡◌, ◌+◌, ◌-◌, ◌≤◌, sym, ap, ◌∙◌, rules, arith}
use Rattle.cov_modules.specs.Sizes.{all_grown, grown_times}
use Rattle.cov_modules.proofs.SizeLemmas.{grown-stays, grown-level, grown-end}
use Rattle.cov_modules.proofs.sizes.all_levels.Goals.{else-loop-level-test, then-loop-level-test+in_ok-after+then-are_same}
use Rattle.cov_modules.proofs.sizes.all_levels.Goals as goal

pub loop-level-preserved : goal.loop-level-preserved
loop-level-preserved c =
    let after : c.in_ok-after.after ≡ all_grown c.loop-level.sizes c.args.wholes.now c.args.children.now = search rules in
    ap (λ t. grown_times (c.args.levels - (c.loop-level._level + 1)) t c.args.wholes.now c.args.children.now) after
    ∙ grown-level c.args.levels c.loop-level._level c.loop-level.sizes c.args.wholes.now c.args.children.now c.loop-level-test.true
    ∙ c.loop-level.invariant

pub returns : goal.returns
returns c = elim c.loop-level-test.branch [
  | else-loop-level-test w ↦ (let done : c.args.levels ≤ c.loop-level._level = omega arith in sym (grown-end c.args.levels c.loop-level._level c.loop-level.sizes c.args.wholes.now c.args.children.now done) ∙ c.loop-level.invariant)
  | then-loop-level-test+in_ok-after+then-are_same w ↦ (
      let stays : all_grown c.loop-level.sizes c.args.wholes.now c.args.children.now ≡ c.loop-level.sizes = search rules in
      sym (grown-stays (c.args.levels - c.loop-level._level) c.loop-level.sizes c.args.wholes.now c.args.children.now stays) ∙ c.loop-level.invariant)
]
