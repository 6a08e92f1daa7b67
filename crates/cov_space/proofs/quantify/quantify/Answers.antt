use Rattle.std.proofs.Common.{◌≡◌, ℕ, suc, ◌≤◌, ◌-◌, ◌++◌, ◌∷◌, [], List, Bool, length, take, drop, arith, ap, ◌∙◌}
use Rattle.cov_space.specs.Sets.{SpaceOf, set_at}
use Rattle.cov_space.specs.Operations.{projection}
use Rattle.cov_space.proofs.Quantified.{projection_turn}
use Rattle.cov_space.proofs.quantify.quantify.Goals as goal

pub loop-i-preserved : goal.loop-i-preserved
loop-i-preserved c =
    let old : SpaceOf = c.args.space.now in
    let ls : List ℕ = c.args.levels.now in
    let last : List Bool = set_at c.args.space.now.sets c.args.n in
    let next : c.loop-i.i ≡ suc (c.loop-i.i - 1) = omega arith in
    let below : c.loop-i.i ≤ length c.args.levels.now = c.loop-i.invariant.within in
    record {
      within = omega arith;
      is = projection_turn old c.loop-i.space c.smooth.new.space c.args.n (c.loop-i.i - 1) ls last c.requires.last (omega arith) (c.requires.levels (c.loop-i.i - 1) (omega arith))
          (c.loop-i.invariant.is ∙ ap (λ k. record old { sets = take c.args.n old.sets ++ projection old.levels (drop k ls) last ∷ [] }) next)
          c.in_default.ensures.ok;
    }
