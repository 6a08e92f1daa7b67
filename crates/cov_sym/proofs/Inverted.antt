-- The set of an atom from two readings and the pairs of different states.
use Rattle.std.proofs.Common.{◌≡◌, ℕ, ◌+◌, ◌*◌, ◌++◌, ◌&&◌, List, [], ◌∷◌, Bool, true, false, not, cond, Option, None, length, refl, sym, ◌∙◌, ap, ap₂, arith}
use Rattle.std.proofs.lemmas.List.{get_or_at, nil_from_length}
use Rattle.std.specs.Str.{bytes_eq}
use Rattle.cov_syntax.specs.declared.tree.Expr.{Expr}
use Rattle.cov_bits.specs.Layout.{bits, sizes}
use Rattle.cov_model.specs.declared.model.Model.{Model}
use Rattle.cov_model.specs.declared.model.Signal.{Signal}
use Rattle.cov_model.specs.Meaning.{value}
use Rattle.cov_model.specs.States.{holds}
use Rattle.cov_model.specs.Values.{truth}
use Rattle.cov_space.specs.declared.layer.Layer.TheVariants.{W, V}
use Rattle.cov_space.specs.Operations.{intersection, symmetric_difference}
use Rattle.cov_space.specs.Sets.{SpaceOf, lies, set_at}
use Rattle.cov_space.specs.Steps.{with_more}
use Rattle.cov_space.proofs.Calls.{at_behind}
use Rattle.cov_space.proofs.Members.{lies-intersection, lies-symmetric_difference}
use Rattle.cov_space.proofs.Sets.{values_same, lies_values}
use Rattle.cov_image.specs.Stacks.{below}
use Rattle.cov_image.proofs.Stacks.{below_more}
use Rattle.cov_places.specs.Places.{is_typed_on, state_on, typed_set}
use Rattle.cov_nodes.specs.Points.{at_layer, has_typed, is_point, point_at, state_of}
use Rattle.cov_conditions.specs.Conditions.{condition_set}
use Rattle.cov_sym.specs.Pairs.{chosen_set, differing_set, read_set}
use Rattle.cov_sym.specs.Systems.{atom_set, flip_at}
use Rattle.cov_sym.proofs.Differences.{differs, states_differ}

-- ---- the choice between two sets

choice : (x y d : Bool) → cond y (not (d && cond x (not y) y)) (d && cond x (not y) y) ≡ cond d x y
choice true true true = refl
choice true true false = refl
choice true false true = refl
choice true false false = refl
choice false true true = refl
choice false true false = refl
choice false false true = refl
choice false false false = refl

-- with three operations
pub chosen_is : (levels : ℕ) (x y d : List Bool) → symmetric_difference levels y (intersection levels d (symmetric_difference levels x y)) ≡ chosen_set levels x y d
unfolding chosen_set
chosen_is levels x y d =
    values_same levels (λ r. cond (lies y r) (not (lies (intersection levels d (symmetric_difference levels x y)) r)) (lies (intersection levels d (symmetric_difference levels x y)) r)) (λ r. cond (lies d r) (lies x r) (lies y r)) (λ r len.
    ap (λ b. cond (lies y r) (not b) b)
    (lies-intersection levels d (symmetric_difference levels x y) r len ∙ ap (λ b. lies d r && b) (lies-symmetric_difference levels x y r len))
    ∙ choice (lies x r) (lies y r) (lies d r))

-- ---- atoms

turned : (w v h : Bool) → (((v && v) && h) && w) ≡ ((w && v) && h)
turned true true true = refl
turned true true false = refl
turned true false h = refl
turned false true true = refl
turned false true false = refl
turned false false h = refl

lies_condition : (levels : ℕ) (m : Model) (flip : Option Signal) (e : Expr) (r : List Bool) → length r ≡ levels
    → lies (condition_set levels m (at_layer V flip) e) r ≡ ((has_typed m V r && has_typed m V r) && holds m e (state_of m V r) flip)
lies_condition levels m flip e r len = lies_values levels (λ row. is_point m (at_layer V flip) row && truth (value e (point_at m (at_layer V flip) row))) r len

lies_typed : (levels : ℕ) (m : Model) (r : List Bool) → length r ≡ levels → lies (typed_set levels (sizes m.vars) W) r ≡ has_typed m W r
lies_typed levels m r len = lies_values levels (λ row. is_typed_on (sizes m.vars) W row) r len

-- one reading
pub read_is : (levels : ℕ) (m : Model) (flip : Option Signal) (e : Expr) → intersection levels (condition_set levels m (at_layer V flip) e) (typed_set levels (sizes m.vars) W) ≡ read_set levels m flip e
unfolding read_set
read_is levels m flip e =
    values_same levels (λ r. lies (condition_set levels m (at_layer V flip) e) r && lies (typed_set levels (sizes m.vars) W) r) (λ r. (has_typed m W r && has_typed m V r) && holds m e (state_of m V r) flip) (λ r len.
    ap₂ ◌&&◌ (lies_condition levels m flip e r len) (lies_typed levels m r len)
    ∙ turned (has_typed m W r) (has_typed m V r) (holds m e (state_of m V r) flip))

-- two readings, the plain one where the states differ
both_read : (q w v : Bool) (h : Option Signal → Bool) (signal : Option Signal) → (cond (not q) ((v && v) && h None) ((v && v) && h signal) && w) ≡ ((w && v) && h (cond q signal None))
both_read true w v h signal = turned w v (h signal)
both_read false w v h signal = turned w v (h None)

pub atom_is : (levels : ℕ) (m : Model) (signal : Option Signal) (e : Expr)
    → intersection levels (chosen_set levels (condition_set levels m (at_layer V None) e) (condition_set levels m (at_layer V signal) e) (differing_set levels (sizes m.vars))) (typed_set levels (sizes m.vars) W)
    ≡ atom_set levels m signal e
unfolding chosen_set differing_set
atom_is levels m signal e =
    let ns : List ℕ = sizes m.vars in
    let a : List Bool = condition_set levels m (at_layer V None) e in
    let b : List Bool = condition_set levels m (at_layer V signal) e in
    let d : List Bool = differing_set levels ns in
    values_same levels (λ r. lies (chosen_set levels a b d) r && lies (typed_set levels ns W) r) (λ r. (has_typed m W r && has_typed m V r) && holds m e (state_of m V r) (flip_at m signal r)) (λ r len.
    let q : Bool = bytes_eq (state_of m W r) (state_of m V r) in
    let v : Bool = has_typed m V r in
    let differ : lies d r ≡ not q = lies_values levels (λ row. not (bytes_eq (state_on ns W row) (state_on ns V row))) r len in
    ap₂ ◌&&◌
    (lies_values levels (λ row. cond (lies d row) (lies a row) (lies b row)) r len
    ∙ ap (λ c. cond c (lies a r) (lies b r)) differ
    ∙ ap₂ (λ x y. cond (not q) x y) (lies_condition levels m None e r len) (lies_condition levels m signal e r len))
    (lies_typed levels m r len)
    ∙ both_read q (has_typed m W r) v (λ flip. holds m e (state_of m V r) flip) signal)

-- ---- one reading is enough

one_choice : (q : Bool) (flip : Option Signal) → cond q flip flip ≡ flip
one_choice true flip = refl
one_choice false flip = refl

-- where no signal is inverted
pub plain_is : (levels : ℕ) (m : Model) (e : Expr) → read_set levels m None e ≡ atom_set levels m None e
unfolding read_set
plain_is levels m e =
    values_same levels (λ r. (has_typed m W r && has_typed m V r) && holds m e (state_of m V r) None) (λ r. (has_typed m W r && has_typed m V r) && holds m e (state_of m V r) (flip_at m None r)) (λ r len.
    ap (λ (flip : Option Signal). (has_typed m W r && has_typed m V r) && holds m e (state_of m V r) flip) (sym (one_choice (bytes_eq (state_of m W r) (state_of m V r)) None)))

never : (q : Bool) → false ≡ not q → q ≡ true
never true h = refl
never false h = cc h

-- and where there are no bits, so that all states are the same
pub single_is : (levels : ℕ) (m : Model) (signal : Option Signal) (e : Expr) → levels ≡ 3 * bits (sizes m.vars) → bits (sizes m.vars) ≡ 0 → read_set levels m signal e ≡ atom_set levels m signal e
unfolding read_set
single_is levels m signal e whole none =
    values_same levels (λ r. (has_typed m W r && has_typed m V r) && holds m e (state_of m V r) signal) (λ r. (has_typed m W r && has_typed m V r) && holds m e (state_of m V r) (flip_at m signal r)) (λ r len.
    let empty : r ≡ [] = nil_from_length r (omega arith) in
    let same : bytes_eq (state_of m W r) (state_of m V r) ≡ true = never (bytes_eq (state_of m W r) (state_of m V r)) (sym (ap differs empty) ∙ states_differ (sizes m.vars) r (len ∙ whole)) in
    ap (λ c. (has_typed m W r && has_typed m V r) && holds m e (state_of m V r) (cond c signal None)) (sym same))

-- ---- on a stack

-- the last set is met with the typed states on layer W
pub typed_on : (old s new : SpaceOf) (ns : List ℕ) (n : ℕ) (x : List Bool) → length old.sets ≡ n → s ≡ with_more old (x ∷ [])
    → new ≡ with_more (below s n) (intersection s.levels (set_at s.sets n) (typed_set s.levels ns W) ∷ []) → new ≡ with_more old (intersection old.levels x (typed_set old.levels ns W) ∷ [])
typed_on old s new ns n x count is e =
    e
    ∙ ap (λ (z : SpaceOf). with_more (below z n) (intersection z.levels (set_at z.sets n) (typed_set z.levels ns W) ∷ [])) is
    ∙ ap (λ (z : SpaceOf). with_more z (intersection old.levels (set_at (old.sets ++ x ∷ []) n) (typed_set old.levels ns W) ∷ [])) (below_more old (x ∷ []) n count)
    ∙ ap (λ (y : List Bool). with_more old (intersection old.levels y (typed_set old.levels ns W) ∷ [])) (get_or_at old.sets x [] [] n count)

-- the last three sets give way to the chosen one
pub chosen_on : (old s new : SpaceOf) (n : ℕ) (x y d : List Bool) → length old.sets ≡ n → s ≡ with_more old (x ∷ y ∷ d ∷ [])
    → new ≡ with_more (below s n) (chosen_set s.levels (set_at s.sets n) (set_at s.sets (n + 1)) (set_at s.sets (n + 2)) ∷ []) → new ≡ with_more old (chosen_set old.levels x y d ∷ [])
chosen_on old s new n x y d count is e =
    let more : List (List Bool) = x ∷ y ∷ d ∷ [] in
    let at_x : set_at s.sets n ≡ x = at_behind old s more n 0 is (omega arith) in
    let at_y : set_at s.sets (n + 1) ≡ y = at_behind old s more (n + 1) 1 is (omega arith) in
    let at_d : set_at s.sets (n + 2) ≡ d = at_behind old s more (n + 2) 2 is (omega arith) in
    e
    ∙ ap (λ (z : SpaceOf). with_more z (chosen_set s.levels (set_at s.sets n) (set_at s.sets (n + 1)) (set_at s.sets (n + 2)) ∷ [])) (ap (λ (z : SpaceOf). below z n) is ∙ below_more old more n count)
    ∙ ap (λ k. with_more old (chosen_set k (set_at s.sets n) (set_at s.sets (n + 1)) (set_at s.sets (n + 2)) ∷ [])) (ap (λ (z : SpaceOf). z.levels) is)
    ∙ ap (λ (z : List Bool). with_more old (chosen_set old.levels z (set_at s.sets (n + 1)) (set_at s.sets (n + 2)) ∷ [])) at_x
    ∙ ap₂ (λ z t. with_more old (chosen_set old.levels x z t ∷ [])) at_y at_d
