-- In which parts of the linear fragment a formula is.
use Rattle.std.specs.Prelude.{◌≡◌}
use Rattle.cov_syntax.specs.declared.tree.Expr.{Expr}
use Rattle.cov_logic.specs.Formula.{Formula}
use Rattle.cov_logic.specs.LinearFragment.{is_plain, is_universal, is_existential}
use Rattle.cov_ctl.specs.declared.linear.Fragment.{Fragment}

-- what is found of a formula is true of it
pub record IsFragmentOf (f : Formula Expr) (found : Fragment) : Type 0 where
  pub plain : found.plain ≡ is_plain f
  pub universal : found.universal ≡ is_universal f
  pub existential : found.existential ≡ is_existential f
