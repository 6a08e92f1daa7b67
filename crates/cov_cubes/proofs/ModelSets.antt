-- The sets of the initial and of the reachable states of a model.
use Rattle.std.proofs.Common.{◌≡◌, ◌↔◌, ℕ, ◌+◌, ◌*◌, List, [], ◌∷◌, Bool, IsTrue, length, refl, sym, ◌∙◌, ap, arith, subst}
use Rattle.std.proofs.lemmas.Bool.{and_parts}
use Rattle.cov_bits.specs.Layout.{width, bits, sizes, are_places}
use Rattle.cov_bits.proofs.Widths.{place_below}
use Rattle.cov_bits.proofs.Codes.{places_parts}
use Rattle.cov_bits.proofs.Formed.{typed_places}
use Rattle.cov_classes.specs.Cubes.{cubes}
use Rattle.cov_logic.specs.Lasso.{first_of, Leads}
use Rattle.cov_model.specs.declared.model.Model.{Model}
use Rattle.cov_model.specs.Paths.{structure, IsReachable}
use Rattle.cov_model.specs.States.{State, is_typed, is_state, is_initial, is_step}
use Rattle.cov_space.specs.declared.layer.Layer.TheVariants.{V}
use Rattle.cov_space.specs.Sets.{lies, set_at}
use Rattle.cov_space.proofs.Sets.{lies_values}
use Rattle.cov_fields.specs.Fields.{written}
use Rattle.cov_fields.proofs.Places.{held_written}
use Rattle.cov_nodes.specs.Points.{state_of}
use Rattle.cov_lifts.proofs.States as lifts
use Rattle.cov_sym.specs.declared.sys.Sys.{Sys}
use Rattle.cov_sym.specs.Systems.{IsBuiltFor}
use Rattle.cov_cubes.specs.States.{present, placed, blank, places_at, states_in, IsStateSet}
use Rattle.cov_cubes.specs.Models.{states_of_slot, ModelSetsLaw}
use Rattle.cov_cubes.proofs.Rows.{length-blank, length-placed, places_above}
use Rattle.cov_cubes.proofs.Rests.{typed_is}
use Rattle.cov_cubes.proofs.Alike.{cubes_alike}

-- ---- the row of a state

-- it holds the state's places
placed_names : (from : ℕ) (ns s : List ℕ) (r : List Bool) → IsTrue (are_places ns s) → places_at from ns (placed from ns s r) ≡ s
placed_names from [] [] r h = refl
placed_names from [] (v ∷ s) r h = cc
placed_names from (n ∷ ns) [] r h = cc
placed_names from (n ∷ ns) (v ∷ s) r h =
    let p = places_parts n ns v s h in
    let later : List Bool = placed (from + width n) ns s r in
    ap (λ k. k ∷ places_at (from + width n) ns (written (present from n) v later)) (held_written (present from n) v later (place_below n v p.0))
    ∙ ap (λ (l : List ℕ). v ∷ l) (places_above from n v (from + width n) ns later (omega arith) ∙ placed_names (from + width n) ns s r p.1)

-- the row of a state, at the levels of a model
abbrev pub row_at : Model → Sys → State → List Bool
row_at m sys s = placed 0 (sizes m.vars) s (blank sys.space.levels)

length-row_at : (m : Model) (sys : Sys) → IsBuiltFor m sys → (s : State) → length (row_at m sys s) ≡ sys.space.levels
length-row_at m sys b s =
    let levels : sys.space.levels ≡ 3 * bits (sizes m.vars) = b.levels in
    length-placed sys.space.levels 0 (sizes m.vars) s (blank sys.space.levels) (omega arith) (length-blank sys.space.levels)

row_names : (m : Model) (sys : Sys) (s : State) → IsTrue (is_typed m s) → state_of m V (row_at m sys s) ≡ s
row_names m sys s typed = placed_names 0 (sizes m.vars) s (blank sys.space.levels) (subst IsTrue (typed_places m.vars s) typed)

-- a set of rows that are told by their present states, as a set of states
pub told_states : (m : Model) (sys : Sys) → IsBuiltFor m sys → (set : List Bool) (P : State → Type 0)
    → ((r : List Bool) → length r ≡ sys.space.levels → IsTrue (lies set r) ↔ P (state_of m V r))
    → (s : State) → IsTrue (is_typed m s) → IsTrue (states_in (sizes m.vars) sys.space.levels set s) ↔ P s
told_states m sys b set P exact s typed =
    subst (λ (t : State). IsTrue (states_in (sizes m.vars) sys.space.levels set s) ↔ P t) (row_names m sys s typed) (exact (row_at m sys s) (length-row_at m sys b s))

-- ---- typed states

state_typed : (m : Model) (s : State) → IsTrue (is_state m s) → IsTrue (are_places (sizes m.vars) s)
state_typed m s h = subst IsTrue (typed_places m.vars s) (and_parts (is_typed m s) _ (and_parts _ _ h).0).0

initial_typed : (m : Model) (s : State) → IsTrue (is_initial m s) → IsTrue (are_places (sizes m.vars) s)
initial_typed m s h = state_typed m s (and_parts (is_state m s) _ (and_parts _ _ h).0).0

step_typed : (m : Model) (s t : State) → IsTrue (is_step m s t) → IsTrue (are_places (sizes m.vars) t)
step_typed m s t h = state_typed m t (and_parts (is_state m s) (is_state m t) (and_parts _ _ (and_parts _ _ h).0).0).1

-- what a step leads to is typed
led_typed : (m : Model) (s : State) (path : List State) (t : State) → Leads (structure m) (s ∷ path) t → IsTrue (are_places (sizes m.vars) t)
led_typed m s [] t leads = step_typed m s t leads.0
led_typed m s (u ∷ path) t leads = led_typed m u path t leads.1

pub reachable_typed : (m : Model) (s : State) → IsReachable m s → IsTrue (are_places (sizes m.vars) s)
reachable_typed m s h = by h.0 h.1 h.2
  where
    by : (path : List State) → IsTrue (is_initial m (first_of path s)) → Leads (structure m) path s → IsTrue (are_places (sizes m.vars) s)
    by [] initial leads = initial_typed m s initial
    by (u ∷ path) initial leads = led_typed m u path s leads

-- ---- the initial states

initial_row : (m : Model) (sys : Sys) → IsBuiltFor m sys → (r : List Bool) → length r ≡ sys.space.levels → lies (set_at sys.space.sets sys.initial) r ≡ is_initial m (state_of m V r)
initial_row m sys b r len = ap (λ (set : List Bool). lies set r) b.initial ∙ lies_values sys.space.levels (λ row. is_initial m (state_of m V row)) r len

pub initial_is : (m : Model) (sys : Sys) → IsBuiltFor m sys → IsStateSet (sizes m.vars) sys.space.levels (set_at sys.space.sets sys.initial)
initial_is m sys b = record {
  apart_w = lifts.apart_w (sizes m.vars) sys.space.levels (set_at sys.space.sets sys.initial) (is_initial m) (initial_row m sys b);
  apart_n = lifts.apart_n (sizes m.vars) sys.space.levels (set_at sys.space.sets sys.initial) (is_initial m) (initial_row m sys b);
  typed = λ r len h. initial_typed m (state_of m V r) (subst IsTrue (initial_row m sys b r len) h);
}

pub initial_cubes : (m : Model) (sys : Sys) → IsBuiltFor m sys → cubes (sizes m.vars) (states_of_slot m sys sys.initial) ≡ cubes (sizes m.vars) (is_initial m)
initial_cubes m sys b =
    cubes_alike (sizes m.vars) (states_of_slot m sys sys.initial) (is_initial m) (λ s typed.
    initial_row m sys b (row_at m sys s) (length-row_at m sys b s)
    ∙ ap (is_initial m) (row_names m sys s (subst IsTrue (sym (typed_places m.vars s ∙ typed_is (sizes m.vars) s)) typed)))

-- ---- the reachable states

pub reachable_is : (m : Model) (sys : Sys) → IsBuiltFor m sys → IsStateSet (sizes m.vars) sys.space.levels (set_at sys.space.sets sys.reachable)
reachable_is m sys b = record {
  apart_w = lifts.reachable_w m sys.space.levels (set_at sys.space.sets sys.reachable) b.reachable;
  apart_n = lifts.reachable_n m sys.space.levels (set_at sys.space.sets sys.reachable) b.reachable;
  typed = λ r len h. reachable_typed m (state_of m V r) ((b.reachable r len).0 h);
}

pub reachable_are : (m : Model) (sys : Sys) → IsBuiltFor m sys → (s : State) → IsTrue (is_typed m s) → IsTrue (states_of_slot m sys sys.reachable s) ↔ IsReachable m s
reachable_are m sys b = told_states m sys b (set_at sys.space.sets sys.reachable) (IsReachable m) b.reachable

pub model_sets : ModelSetsLaw
model_sets = record { initial_is = initial_is; initial_cubes = initial_cubes; reachable_is = reachable_is; reachable_are = reachable_are }
