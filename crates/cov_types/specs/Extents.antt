-- How wide and how deep expressions are.
use Rattle.std.specs.Prelude.{◌≡◌, ◌≤◌, ◌+◌, min, max, List, map}
use Rattle.cov_syntax.specs.declared.tree.Expr.{Expr}
use Rattle.cov_model.specs.Flat.{greatest, depth}
use Rattle.cov_model.specs.Kinds.{Kinds}
use Rattle.cov_walk.specs.Widest.{widest}
use Rattle.cov_types.specs.declared.extents.Extent.{Extent}

-- the greatest number of values of the own kinds of these expressions and of their parts, and the greatest depth, counted up to the greatest number of 32 bits
pub record IsExtent (ks : Kinds) (es : List Expr) (x : Extent) : Type 0 where
  pub width : x.width ≡ greatest (map (widest ks) es)
  pub narrow : x.width ≤ 1024
  pub depth : x.depth ≡ min (greatest (map depth es)) 4294967295

-- the greater width and the greater depth of two
pub record IsJoined (x y z : Extent) : Type 0 where
  pub width : z.width ≡ max x.width y.width
  pub depth : z.depth ≡ max x.depth y.depth
