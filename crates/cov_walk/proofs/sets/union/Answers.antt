use Rattle.std.proofs.Common.{[], ◌∷◌}
use Rattle.cov_syntax.specs.declared.tree.Op2.TheVariants as op2
use Rattle.cov_syntax.specs.declared.tree.Node.TheVariants as n
use Rattle.cov_model.specs.Walk.{part_may}
use Rattle.cov_walk.specs.Places.{may_of}
use Rattle.cov_walk.proofs.Simple.{two_none}
use Rattle.cov_walk.proofs.sets.union.Goals as goal

pub returns : goal.returns
returns c i j f g =
    c.set.ensures (i ∷ j ∷ []) (n.Two op2.Union i.tree j.tree) (λ in_truth. n.Two op2.Union (i.settled in_truth) (j.settled in_truth))
    (c.in_ok-members.ensures (i ∷ []) j (part_may (may_of c.args.at.may)) (c.in_ok-with.ensures [] i (part_may (may_of c.args.at.may)) c.new.ensures f) g)
    (two_none (i.fault (part_may (may_of c.args.at.may))) (j.fault (part_may (may_of c.args.at.may))) f.none g.none)
