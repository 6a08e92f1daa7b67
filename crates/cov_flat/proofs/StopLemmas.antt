-- Stops by their numbers, and what targets are in the flat model.
use Rattle.std.proofs.Common.{◌≡◌, ℕ, ◌+◌, ◌<◌, ◌++◌, ◌∷◌, [], List, length, take, get_or, Option, Some, None, refl, sym, ap, subst, ◌∙◌}
use Rattle.std.specs.Prelude.{slice_get, option_map, is_some, IsTrue}
use Rattle.std.specs.List.{flat_map}
use Rattle.std.specs.Option.{option_map_or}
use Rattle.std.proofs.lemmas.Option.{slice_get-get_or, get_or_from_slice_get}
use Rattle.std.proofs.lemmas.List.{take_more, append-nil}
use Rattle.std.proofs.lemmas.Grind.{flat_map-append}
use Rattle.cov_syntax.specs.declared.program.Program.{Program}
use Rattle.cov_syntax.specs.declared.tree.Node.{Node, out-Node, out-roll-Node}
use Rattle.cov_syntax.specs.declared.tree.Node.TheOpen.{Node-F}
use Rattle.cov_syntax.specs.declared.tree.Node.TheVariants as n
use Rattle.cov_modules.specs.Names.{Dotted}
use Rattle.cov_modules.specs.Things.{Thing, variable, define, named, path_layer}
use Rattle.cov_modules.specs.Walk.{Stop, root, walk}
use Rattle.cov_modules.specs.FlatLists.{index_of, place_in, node_of}
use Rattle.cov_paths.specs.Targets.{named_at, IsNamed}
use Rattle.cov_paths.specs.declared.target.Target.{Target}
use Rattle.cov_paths.specs.declared.target.Target.TheVariants as target
use Rattle.cov_flat.specs.Reading.{flat_walk, flat_index, stop_at, empty_module, variable_number, variable_of, only_variable}
use Rattle.cov_flat.specs.Parts.{here}

-- the stop of a number is there
pub stop_there : (p : Program) (k : ℕ) → k < length (flat_walk p) → slice_get (flat_walk p) k ≡ Some (stop_at p k)
unfolding stop_at
stop_there p k h = slice_get-get_or (flat_walk p) k (root empty_module) h

-- the stop that is there is that of the number
pub stop_is : (p : Program) (k : ℕ) (s : Stop) → slice_get (walk p) k ≡ Some s → stop_at p k ≡ s
unfolding stop_at flat_walk
stop_is p k s h = get_or_from_slice_get (walk p) k s (root empty_module) h

-- what the stops up to a number give, and what that one gives
pub stops_step : {A : Type 0} (f : Stop → List A) (p : Program) (k : ℕ) → k < length (flat_walk p) → flat_map f (take (k + 1) (flat_walk p)) ≡ flat_map f (take k (flat_walk p)) ++ f (stop_at p k)
unfolding stop_at
stops_step f p k h =
    let w : List Stop = flat_walk p in
    let s : Stop = get_or w k (root empty_module) in
    ap (flat_map f) (take_more w k (root empty_module) h) ∙ flat_map-append f (take k w) (s ∷ []) ∙ ap (λ ys. flat_map f (take k w) ++ ys) (append-nil (f s))

-- what a path names at a number
pub named_here : (p : Program) (k : ℕ) (path : Dotted) → k < length (flat_walk p) → named_at p k path ≡ named p (here p k) path
unfolding flat_walk
named_here p k path h = ap (λ (o : Option Stop). option_map_or (λ (s : Stop). named p s.here path) o None) (stop_there p k h)

-- the path that a path's node is
pub path_at : (path : Dotted) → path_layer (out-Node (n.Path path)) ≡ Some path
path_at path = ap (λ (m : Node). path_layer (out-Node m)) (sym (n.rolls-Path path)) ∙ ap path_layer (out-roll-Node (Node-F.Path path))

-- the answer of a call, at what is known of it
pub target_is : (p : Program) (o : Option Target) (x y : Target) (t u : Option Thing) → o ≡ Some x → x ≡ y → t ≡ u → IsNamed p o t → IsNamed p (Some y) u
target_is p o x y t u there same equal is =
    let given : IsNamed p (Some x) t = subst (λ (z : Option Target). IsNamed p z t) there is in
    let renamed : IsNamed p (Some y) t = subst (λ (z : Target). IsNamed p (Some z) t) same given in
    subst (λ (z : Option Thing). IsNamed p (Some y) z) equal renamed

-- a name that is there, by what is known of its place
thing_by : (con : Dotted → Thing) (ds : List Dotted) (i : ℕ) (t : Option Thing) (o : Option Dotted) → slice_get ds i ≡ o → ((d : Dotted) → slice_get ds i ≡ Some d → place_in ds d ≡ i)
    → option_map con o ≡ t → IsTrue (is_some t) → (d : Dotted) × (Some (con d) ≡ t) × (place_in ds d ≡ i)
thing_by con ds i t (Some d) e law h s = (d, h, law d e)
thing_by con ds i t None e law h s = let none : IsTrue (is_some {T = Thing} None) = subst (λ (u : Option Thing). IsTrue (is_some u)) (sym h) s in absurd cc

module _ (p : Program) (i : ℕ) (t : Option Thing) where
  -- a variable with this number has its place
  abbrev pub VariableHasPlace : Type 0
  VariableHasPlace = (d : Dotted) → slice_get (index_of p).vars i ≡ Some d → place_in (index_of p).vars d ≡ i

  -- a DEFINE with this number has its place
  abbrev pub DefineHasPlace : Type 0
  DefineHasPlace = (d : Dotted) → slice_get (index_of p).defs i ≡ Some d → place_in (index_of p).defs d ≡ i

  -- a variable as a node
  pub node_variable : (path : Dotted) → VariableHasPlace → IsNamed p (Some (target.Variable i)) t → n.Var i ≡ node_of (flat_index p) path t
  unfolding flat_index
  node_variable path law is =
      let found : (d : Dotted) × (Some (variable d) ≡ t) × (place_in (index_of p).vars d ≡ i) = thing_by variable (index_of p).vars i t (slice_get (index_of p).vars i) refl law is.0 is.1 in
      ap n.Var (sym found.2) ∙ ap (node_of (index_of p) path) found.1

  -- a DEFINE as a node
  pub node_define : (path : Dotted) → DefineHasPlace → IsNamed p (Some (target.Define i)) t → n.Def i ≡ node_of (flat_index p) path t
  unfolding flat_index
  node_define path law is =
      let found : (d : Dotted) × (Some (define d) ≡ t) × (place_in (index_of p).defs d ≡ i) = thing_by define (index_of p).defs i t (slice_get (index_of p).defs i) refl law is.0 is.1 in
      ap n.Def (sym found.2) ∙ ap (node_of (index_of p) path) found.1

  -- a variable's number
  pub number_variable : VariableHasPlace → IsNamed p (Some (target.Variable i)) t → Some i ≡ variable_number (flat_index p) t
  unfolding flat_index
  number_variable law is =
      let found : (d : Dotted) × (Some (variable d) ≡ t) × (place_in (index_of p).vars d ≡ i) = thing_by variable (index_of p).vars i t (slice_get (index_of p).vars i) refl law is.0 is.1 in
      ap (λ (j : ℕ). Some j) (sym found.2) ∙ ap (variable_number (index_of p)) found.1

  -- a variable by its number
  pub thing_variable : VariableHasPlace → IsNamed p (Some (target.Variable i)) t → variable_of (flat_index p) (Some i) ≡ only_variable t
  unfolding flat_index
  thing_variable law is =
      let found : (d : Dotted) × (Some (variable d) ≡ t) × (place_in (index_of p).vars d ≡ i) = thing_by variable (index_of p).vars i t (slice_get (index_of p).vars i) refl law is.0 is.1 in
      is.0 ∙ sym found.1 ∙ ap only_variable found.1
