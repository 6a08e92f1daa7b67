-- How many nodes a diagram reaches.
use Rattle.std.specs.Prelude.{ℕ, zero, suc, ◌*◌, ◌==◌, ◌||◌, not, List, ◌∷◌, Bool, true, false, length, map, count_by, if◌then◌else◌}
use Rattle.std.specs.List.{range_with_len}
use Rattle.cov_dd.specs.declared.node.Ref.{Ref}
use Rattle.cov_dd.specs.declared.node.Ref.TheVariants.{Constant, Inner}
use Rattle.cov_dd.specs.declared.node.Part.{Part}
use Rattle.cov_dd.specs.declared.questions.Question.{Question}
use Rattle.cov_dd.specs.declared.questions.Question.TheVariants.{Apply, Negate, Restrict}
use Rattle.cov_dd.specs.Nodes.{node_at, rank}

-- whether two references are one
abbrev pub same_ref : Ref → Ref → Bool
same_ref (Constant a) (Constant b) = if a then b else not b
same_ref (Constant a) (Inner j) = false
same_ref (Inner i) (Constant b) = false
same_ref (Inner i) (Inner j) = i == j

-- whether g is a part of the diagram f, in so many steps; its rank is enough
abbrev pub is_part_by : ℕ → List Part → Ref → Ref → Bool
is_part_by steps nodes (Constant b) g = same_ref (Constant b) g
is_part_by zero nodes (Inner i) g = same_ref (Inner i) g
is_part_by (suc steps) nodes (Inner i) g = same_ref (Inner i) g || (is_part_by steps nodes (node_at nodes i).low g || is_part_by steps nodes (node_at nodes i).high g)

-- both constants, and all nodes that stand
abbrev pub all_refs : ℕ → List Ref
all_refs count = Constant false ∷ Constant true ∷ map (λ i. Inner i) (range_with_len 0 count)

-- how many nodes a diagram reaches, itself and the constants among them
abbrev pub size : List Part → Ref → ℕ
size nodes f = count_by (is_part_by (rank f) nodes f) (all_refs (length nodes))

-- as many different parts a question has at most
abbrev pub parts_of : List Part → Question → ℕ
parts_of nodes (Apply op f g) = size nodes f * size nodes g
parts_of nodes (Negate f) = size nodes f
parts_of nodes (Restrict f level bit) = size nodes f
