use Rattle.std.proofs.Common.{◌∙◌, ◌-◌, get_or, length, take, drop}
use Rattle.cov_modules.specs.Things.{further_part}
use Rattle.cov_paths.specs.Found.{thing_found, first_at}
use Rattle.cov_paths.proofs.Finding.{found-there, path-start, path-step}
use Rattle.cov_paths.proofs.scopes.Scopes.find.Goals as goal

pub loop-name-init : goal.loop-name-init
loop-name-init c = record {
  there = found-there c.args.p.now c.first_part-target.result (first_at c.args.p.now c.args.k (get_or c.args.path.now 0 0)) c.first_part-target.ensures;
  left = path-start c.args.p.now c.args.k c.args.path.now c.first_part-target.result c.in-len1-up.len_at_least c.first_part-target.ensures;
}

pub loop-name-preserved : goal.loop-name-preserved
loop-name-preserved c =
    let rest = take (length c.args.path.now - 1) (drop 1 c.args.path.now) in record {
      there = found-there c.args.p.now c.further-target.result (further_part c.args.p.now (thing_found c.args.p.now c.loop-name.target) (get_or rest c.loop-name.name-index 0)) c.further-target.ensures;
      left = path-step c.args.p.now rest c.loop-name.name-index c.loop-name.target c.further-target.result c.loop-name-test.true c.further-target.ensures
          ∙ c.loop-name.invariant.left;
    }
