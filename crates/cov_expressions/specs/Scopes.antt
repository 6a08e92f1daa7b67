-- What has to stand where an expression is read.
use Rattle.std.specs.Prelude.{◌≡◌, ◌*◌, ◌&&◌, Bool, None}
use Rattle.std.specs.List.{list_all}
use Rattle.cov_syntax.specs.declared.tree.Expr.{Expr}
use Rattle.cov_model.specs.Order.{reads}
use Rattle.cov_model.specs.WellFormed.{IsWellFormed}
use Rattle.cov_bits.specs.Layout.{bits, sizes}
use Rattle.cov_space.specs.Sets.{SpaceOf}
use Rattle.cov_nodes.specs.Standing.{AreStanding, has_entry}
use Rattle.cov_expressions.specs.declared.scope.Scope.{Scope}

-- the Space has the levels of the model's bits, and the sets of the DEFINEs stand, for the present state under the flip and for the next state without one
pub record IsScope (s : SpaceOf) (scope : Scope) : Type 0 where
  pub formed : IsWellFormed scope.m.now
  pub plan : scope.plan.now ≡ sizes scope.m.now.vars
  pub levels : s.levels ≡ 3 * bits (sizes scope.m.now.vars)
  pub here : AreStanding s scope.m.now scope.at.present scope.at.flip scope.here.now
  pub there : AreStanding s scope.m.now scope.at.next None scope.there.now

-- the sets of each DEFINE that the expression reads stand for both states
abbrev pub reads_standing : Scope → Expr → Bool
reads_standing scope e = list_all (λ i. has_entry scope.here.now i && has_entry scope.there.now i) (reads e)
