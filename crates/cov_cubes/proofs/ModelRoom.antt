-- The room that is left behind the sets of a model.
use Rattle.std.proofs.Common.{◌≡◌, ℕ, ◌+◌, ◌*◌, ◌≤◌, max, List, [], ◌∷◌, length, map, refl, sym, ◌∙◌, ap, arith, subst}
use Rattle.std.proofs.lemmas.List.Sums.{sum_by-cons}
use Rattle.cov_bits.specs.Layout.{bits, sizes, width}
use Rattle.cov_model.specs.declared.model.Model.{Model}
use Rattle.cov_model.specs.declared.model.Var.{Var}
use Rattle.cov_model.specs.Flat.{expressions, greatest}
use Rattle.cov_model.specs.Types as types
use Rattle.cov_model.specs.Settled.{kinds_of}
use Rattle.cov_types.specs.Roots.{constraints, define_sets, greatest_depth, greatest_size, state_bits, widest_variable}
use Rattle.cov_walk.specs.Widest.{widest}
use Rattle.cov_space.specs.Sets.{HasRoom}
use Rattle.cov_sym.specs.declared.sys.Sys.{Sys}
use Rattle.cov_sym.specs.Systems.{IsBuiltFor}

-- the bits of all variables are those of a state
bits_of_state : (vars : List Var) → bits (sizes vars) ≡ state_bits vars
bits_of_state [] = refl
bits_of_state (x ∷ xs) = ap (λ k. width (length x.values) + k) (bits_of_state xs) ∙ sym (sum_by-cons types.bits x xs)

within : (sets built own bit defines few size widest other deep places : ℕ) → sets ≤ built + 2 → built ≤ few + 8 → own ≤ widest
    → places ≡ 64 + 2 * bit + 2 * defines + few + 8 * size + (3 * max (max widest other) 2 + 4) * (deep + 1) → sets + (own + bit + 6) ≤ places
within sets built own bit defines few size widest other deep places a b c e = omega arith

-- places for the rest sets of each value of a variable, one for each bit, and those of an operation
pub room_left : (m : Model) (sys : Sys) → IsBuiltFor m sys → length sys.space.sets ≤ sys.built + 2 → HasRoom sys.space (greatest sys.plan + bits sys.plan + 6)
room_left m sys b alone =
    let plan : sizes m.vars ≡ sys.plan = sym b.plan in
    let bit : bits (sizes m.vars) ≡ state_bits m.vars = bits_of_state m.vars in
    let widest_is : greatest (sizes m.vars) ≤ widest_variable m.vars = omega arith in
    subst (λ (ns : List ℕ). HasRoom sys.space (greatest ns + bits ns + 6)) plan
    (subst (λ k. length sys.space.sets + (greatest (sizes m.vars) + k + 6) ≤ sys.space.places) (sym bit)
    (within (length sys.space.sets) sys.built (greatest (sizes m.vars)) (state_bits m.vars) (define_sets (kinds_of m) m.defines) (constraints m + length m.fair) (greatest_size m.specs) (widest_variable m.vars)
    (greatest (map (widest (kinds_of m)) (expressions m))) (greatest_depth m) sys.space.places alone b.few widest_is b.places))
