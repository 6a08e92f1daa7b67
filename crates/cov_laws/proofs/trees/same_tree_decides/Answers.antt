use Rattle.cov_laws.proofs.SameTrees.{decides_law}
use Rattle.cov_laws.proofs.trees.same_tree_decides.Goals as goal

pub returns : goal.returns
returns c = decides_law
