-- The size of a formula.
use Rattle.std.specs.Prelude.{ℕ, ◌+◌}
use Rattle.cov_ctl.specs.declared.formula.Formula.{Formula}
use Rattle.cov_ctl.specs.declared.formula.Formula.TheOpen.{Formula-F}
use Rattle.cov_ctl.specs.declared.formula.Formula.TheFolds.{fold-Formula}

-- the size of a node, given those of its operands
abbrev pub node_size : Formula-F ℕ → ℕ
node_size (Formula-F.Atom e) = 1
node_size (Formula-F.Not f) = 1 + f
node_size (Formula-F.And f g) = 1 + f + g
node_size (Formula-F.Or f g) = 1 + f + g
node_size (Formula-F.Implies f g) = 1 + f + g
node_size (Formula-F.Ex f) = 1 + f
node_size (Formula-F.Ef f) = 1 + f
node_size (Formula-F.Eg f) = 1 + f
node_size (Formula-F.Eu f g) = 1 + f + g
node_size (Formula-F.Ax f) = 1 + f
node_size (Formula-F.Af f) = 1 + f
node_size (Formula-F.Ag f) = 1 + f
node_size (Formula-F.Au f g) = 1 + f + g

-- the number of nodes of a formula
abbrev pub size : Formula → ℕ
size = fold-Formula ℕ node_size
