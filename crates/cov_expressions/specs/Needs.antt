-- What has to stand where the sets of an expression are put.
use Rattle.std.specs.Prelude.{◌≡◌, ℕ, ◌+◌, ◌*◌, ◌≤◌, List, length, slice_get, IsTrue, IsFalse, Some}
use Rattle.cov_syntax.specs.declared.tree.Value.{Value}
use Rattle.cov_syntax.specs.declared.tree.Branch.{Branch}
use Rattle.cov_syntax.specs.declared.tree.Expr.{Expr}
use Rattle.cov_model.specs.declared.model.Model.{Model}
use Rattle.cov_model.specs.Types.{has_twice}
use Rattle.cov_ranges.specs.Ranges.{IsExpressionOf, is_set}
use Rattle.cov_types.specs.Roots.{greatest_width}
use Rattle.cov_space.specs.Sets.{SpaceOf, HasRoom}
use Rattle.cov_nodes.specs.Choices.{IsChunk}
use Rattle.cov_expressions.specs.declared.scope.Scope.{Scope}
use Rattle.cov_expressions.specs.Scopes.{IsScope, reads_standing}

-- the greatest number of values of an expression of the model
unfoldable pub widest : Model → ℕ
widest m = greatest_width m

-- the places for the sets of an expression of this depth
abbrev pub places_for : Model → ℕ → ℕ
places_for m d = (3 * widest m + 4) * d + 7

-- the sets of an expression of this depth can be put over these values
pub record CanPut (s : SpaceOf) (scope : Scope) (xs : List Value) (d : ℕ) : Type 0 where
  pub scoped : IsScope s scope
  pub chunk : IsChunk s.levels xs
  pub narrow : length xs ≤ widest scope.m.now
  pub room : HasRoom s (places_for scope.m.now d)

-- an expression of the model, and the sets of the DEFINEs that it reads stand
pub record IsReadable (scope : Scope) (e : Expr) : Type 0 where
  pub expression : IsExpressionOf scope.m.now e
  pub reads : IsTrue (reads_standing scope e)

-- the values of an expression, none twice
pub record IsList (m : Model) (xs : List Value) : Type 0 where
  pub few : length xs ≤ 1024
  pub narrow : length xs ≤ widest m
  pub once : IsFalse (has_twice xs)

-- the sets of all chunks of a list can be put for an expression of this depth
pub record CanPutAll (s : SpaceOf) (scope : Scope) (xs : List Value) (d : ℕ) : Type 0 where
  pub scoped : IsScope s scope
  pub list : IsList scope.m.now xs
  pub room : HasRoom s (widest scope.m.now + places_for scope.m.now d)

-- each of the expressions can be read
pub record AreReadable (scope : Scope) (es : List Expr) : Type 0 where
  pub each : (i : ℕ) (e : Expr) → slice_get es i ≡ Some e → IsReadable scope e

-- the guards and the bodies can be read, and the guards are no sets
pub record AreArms (scope : Scope) (bs : List Branch) : Type 0 where
  pub guards : (i : ℕ) (b : Branch) → slice_get bs i ≡ Some b → IsReadable scope b.guard
  pub bodies : (i : ℕ) (b : Branch) → slice_get bs i ≡ Some b → IsReadable scope b.body
  pub single : (i : ℕ) (b : Branch) → slice_get bs i ≡ Some b → IsFalse (is_set b.guard)
