-- The number of sets that the engine may hold for a model.
use Rattle.std.specs.Prelude.{ℕ, ◌+◌, ◌*◌, ◌^◌, max, if◌then◌else◌, List, map, length, sum_by}
use Rattle.cov_syntax.specs.declared.tree.Expr.{Expr}
use Rattle.cov_model.specs.declared.model.Var.{Var}
use Rattle.cov_model.specs.declared.model.Define.{Define}
use Rattle.cov_model.specs.declared.model.Model.{Model}
use Rattle.cov_model.specs.Flat.{greatest, depth, expressions}
use Rattle.cov_model.specs.Kinds.{Kind, Kinds, is_boolean, width}
use Rattle.cov_model.specs.Settled.{kinds_of}
use Rattle.cov_model.specs.Types.{bits}
use Rattle.cov_model.specs.Walk.{own}
use Rattle.cov_model.specs.Written.{formula_size}
use Rattle.cov_walk.specs.Widest.{widest}

-- the bits of a state
abbrev pub state_bits : List Var → ℕ
state_bits vars = sum_by bits vars

-- the sets that the engine holds for an expression of this kind: one if it is Boolean, else one for each value
abbrev pub sets_of : Kind → ℕ
sets_of k = if is_boolean k then 1 else width k

-- the sets that the engine holds for DEFINEs
abbrev pub define_sets : Kinds → List Define → ℕ
define_sets ks defines = sum_by (λ (d : Define). sets_of (own ks d.body)) defines

-- the INIT, INVAR and TRANS conditions and the assignments
abbrev pub constraints : Model → ℕ
constraints m = length m.inits + length m.invars + length m.trans + (length m.nows + length m.firsts + length m.nexts)

-- the greatest number of nodes of a specification's formula
abbrev pub greatest_size : List Expr → ℕ
greatest_size specs = greatest (map formula_size specs)

-- the greatest number of values of a variable
abbrev pub widest_variable : List Var → ℕ
widest_variable vars = greatest (map (λ (x : Var). length x.values) vars)

-- the greatest number of values of a variable, or of the own kind of an expression of the model or of a part of one, at least 2
abbrev pub greatest_width : Model → ℕ
greatest_width m = max (max (widest_variable m.vars) (greatest (map (widest (kinds_of m)) (expressions m)))) 2

-- the greatest number of nodes on one path of an expression's tree
abbrev pub greatest_depth : Model → ℕ
greatest_depth m = greatest (map depth (expressions m))

-- the number of sets that the engine may hold at one time
abbrev pub roots : Model → ℕ
roots m =
    64
    + 2 * state_bits m.vars
    + 2 * define_sets (kinds_of m) m.defines
    + (constraints m + length m.fair)
    + 8 * greatest_size m.specs
    + (3 * greatest_width m + 4) * (greatest_depth m + 1)

-- the number of nodes with which no set is refused
abbrev pub enough : Model → ℕ
enough m = (roots m + 1) * 2 ^ (3 * state_bits m.vars)
