-- The last guard of a case against those before it.
use Rattle.std.specs.Prelude.{Bool, ◌||◌, List}
use Rattle.std.specs.List.{list_any}
use Rattle.cov_syntax.specs.declared.tree.Expr.{Expr}
use Rattle.cov_syntax.specs.declared.tree.Branch.{Branch}
use Rattle.cov_model.specs.Trees.{is_negation}

-- one is the negation of the other
abbrev pub are_opposite : Expr → Expr → Bool
are_opposite g h = is_negation g h || is_negation h g

-- some branch has a guard that is opposite to this one
abbrev pub has_opposite : Expr → List Branch → Bool
has_opposite g bs = list_any (λ b. are_opposite b.guard g) bs
