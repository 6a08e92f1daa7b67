-- Sets that are read with other bits on a layer.
use Rattle.std.specs.Prelude.{ℕ, zero, suc, ◌+◌, ◌*◌, ◌&&◌, List, Bool, false, take}
use Rattle.cov_dd.specs.Operations.{put}
use Rattle.cov_dd.specs.Need.{values}
use Rattle.cov_space.specs.declared.layer.Layer.{Layer}
use Rattle.cov_space.specs.Layers.{place_of}
use Rattle.cov_space.specs.Sets.{SpaceOf, lies}
use Rattle.cov_model.specs.declared.model.Model.{Model}
use Rattle.cov_nodes.specs.declared.reading.Reading.{Reading}
use Rattle.cov_nodes.specs.Points.{has_typed}

-- the first sets alone
abbrev pub first_sets : SpaceOf → ℕ → SpaceOf
first_sets s n = record s { sets = take n s.sets }

-- the row with so many bits of a layer cleared
abbrev pub cleared : Layer → ℕ → List Bool → List Bool
cleared layer zero row = row
cleared layer (suc b) row = cleared layer b (put row (3 * b + place_of layer) false)

-- the rows that lie in the set once they are cleared
abbrev pub cleared_set : ℕ → Layer → ℕ → List Bool → List Bool
cleared_set levels layer count set = values levels (λ row. lies set (cleared layer count row))

-- the rows of the set that name typed states
abbrev pub typed_part : ℕ → Model → Reading → List Bool → List Bool
typed_part levels m at set = values levels (λ row. lies set row && (has_typed m at.present row && has_typed m at.next row))
