-- Sets that stand for the chunks of a list, as one set over other values.
use Rattle.std.specs.Prelude.{ℕ, ◌+◌, List, Bool, length}
use Rattle.std.specs.Int.{div_ceil}
use Rattle.cov_syntax.specs.declared.tree.Value.{Value}
use Rattle.cov_space.specs.Sets.{SpaceOf, lies, set_at}
use Rattle.cov_families.specs.Families.{carried_set, index_of}
use Rattle.cov_families.specs.Steps.{some_set}
use Rattle.cov_nodes.specs.Standing.{chunk, chunk_size}
use Rattle.cov_nodes.specs.Tables.{itself, numbers_of}

-- the set of a list's values as one over other values
abbrev pub own_set : ℕ → List Value → List Value → List Bool → List Bool
own_set levels part xs set = carried_set levels (index_of (length part)) (index_of (length xs)) (numbers_of itself part xs) set

-- the k-th chunk of a list of values
abbrev pub part_at : SpaceOf → List Value → ℕ → List Value
part_at s vs k = chunk (chunk_size s.levels) vs k

-- a row lies in the set of the k-th chunk, as one over other values
abbrev pub in_chunk : SpaceOf → ℕ → List Value → List Value → List Bool → ℕ → Bool
in_chunk s first vs xs row k = lies (own_set s.levels (part_at s vs k) xs (set_at s.sets (first + k))) row

-- how many chunks a list has
abbrev pub chunk_count : SpaceOf → List Value → ℕ
chunk_count s vs = div_ceil (length vs) (chunk_size s.levels)

-- the rows that lie in the set of some chunk
abbrev pub gathered_set : SpaceOf → ℕ → List Value → List Value → List Bool
gathered_set s first vs xs = some_set s.levels (chunk_count s vs) (in_chunk s first vs xs)
