-- Where nothing is put off any more, the table is that of the flat walk.
use Rattle.std.proofs.Common.{◌≡◌, ℕ, zero, suc, ◌+◌, ◌<◌, inl, inr, false, List, [], ◌∷◌, ◌++◌, map, length, take, drop, slice_get, Option, Some, None, is_none, refl, sym, ap, subst, ◌∙◌, arith, length-append, length-drop}
use Rattle.std.specs.List.{flat_map}
use Rattle.std.specs.Option.{option_map_or}
use Rattle.std.proofs.lemmas.Bool.{cases_lt}
use Rattle.std.proofs.lemmas.List.{length-take}
use Rattle.std.proofs.lemmas.Option.{slice_get_within}
use Rattle.std.proofs.Math.Seq.{take-length}
use Rattle.cov_syntax.specs.declared.program.ModuleTree.{ModuleTree}
use Rattle.cov_syntax.specs.declared.program.Program.{Program}
use Rattle.cov_modules.specs.Names.{first}
use Rattle.cov_modules.specs.Modules.{module_named, main_of, Declaration, instances}
use Rattle.cov_modules.specs.Things.{Instance}
use Rattle.cov_modules.specs.Walk.{Stop, stop_in, stops_below, walk_from, root, walk}
use Rattle.cov_modules.specs.ModuleFaults.{modules_fault, unknown_place}
use Rattle.cov_modules.proofs.WalkLemmas.{none-head}
use Rattle.cov_modules.proofs.LawLemmas.{module-sound, main-there, few-names, few-stops}
use Rattle.cov_stops.specs.declared.stops.Entry.{Entry}
use Rattle.cov_stops.specs.Table.{IsChild, IsStopsOf}
use Rattle.cov_stops.specs.Touring.{all_below, child_stops, IsNoted, IsNumbered, IsTouring}
use Rattle.cov_stops.proofs.ComingLemmas.{stop_at, stop-made}
use Rattle.cov_stops.proofs.ListLemmas.{drop-at, get-behind, get-front, flat-fewer}
use Rattle.cov_stops.proofs.TourLemmas.{child-drop}

-- The stop of a declaration among those right below.
record IsMade (p : Program) (caller : Instance) (ds : List Declaration) (j : ℕ) (d : Declaration) : Type 0 where
  stop : Stop
  made : stop_in p caller d ≡ stop ∷ []
  there : slice_get (flat_map (stop_in p caller) ds) j ≡ Some stop

-- each declaration makes one stop, in their order
made-at : (p : Program) (caller : Instance) (ds : List Declaration) (j : ℕ) (d : Declaration) → first (map (unknown_place p) ds) ≡ None → slice_get ds j ≡ Some d → IsMade p caller ds j d
made-at p caller [] j d known at = absurd cc
made-at p caller (c ∷ ds) zero d known at = by-module (module_named p c.from.name) refl (none-head (is_none (module_named p c.from.name)) c.from.place (map (unknown_place p) ds) known).0
  where
    by-module : (o : Option ModuleTree) → module_named p c.from.name ≡ o → is_none (module_named p c.from.name) ≡ false → IsMade p caller (c ∷ ds) zero d
    by-module None e some = let none = ap is_none e in absurd cc
    by-module (Some m) e some =
        let same : c ≡ d = cc in
        let made = stop-made p caller c m e in
        record {
          stop = stop_at p caller c m;
          made = subst (λ x. stop_in p caller x ≡ stop_at p caller c m ∷ []) same made;
          there = ap (λ ys. slice_get (ys ++ flat_map (stop_in p caller) ds) 0) made;
        }
made-at p caller (c ∷ ds) (suc j) d known at =
    let parts = none-head (is_none (module_named p c.from.name)) c.from.place (map (unknown_place p) ds) known in
    further c ds j d parts.0 (made-at p caller ds j d parts.1 at)
  where
    further : (c : Declaration) (ds : List Declaration) (j : ℕ) (d : Declaration) → is_none (module_named p c.from.name) ≡ false → IsMade p caller ds j d → IsMade p caller (c ∷ ds) (suc j) d
    further c ds j d some rest = by-module (module_named p c.from.name) refl
      where
        by-module : (o : Option ModuleTree) → module_named p c.from.name ≡ o → IsMade p caller (c ∷ ds) (suc j) d
        by-module None e = let none = ap is_none e in absurd cc
        by-module (Some m) e = record {
          stop = rest.stop;
          made = rest.made;
          there = ap (λ ys. slice_get (ys ++ flat_map (stop_in p caller) ds) (suc j)) (stop-made p caller c m e) ∙ rest.there;
        }

-- a number for which a place was kept is that of a later stop
later-by : (p : Program) (k from j number : ℕ) → from ≡ 1 + length (all_below p (take k (walk p))) → from + j < 1 + length (all_below p (take number (walk p))) → k < number
later-by p k from j number is before = elim (cases_lt k number) [
  | inl less ↦ less
  | inr more ↦ absurd (let fewer = flat-fewer (stops_below p) (walk p) number k more in omega arith)
]

-- the stop that is kept at the place of an instance
child-there : (p : Program) (k j : ℕ) (e : Entry) (s : Stop) (d : Declaration) → slice_get (walk p) k ≡ Some s → e.first_child ≡ 1 + length (all_below p (take k (walk p)))
    → (made : IsMade p s.here (instances s.here.from) j d) → slice_get (child_stops p) (e.first_child + j) ≡ Some made.stop
child-there p k j e s d walked from made =
    get-behind (child_stops p) e.first_child j
    ∙ ap (λ n. slice_get (drop n (child_stops p)) j) from
    ∙ ap (λ ys. slice_get ys j) (child-drop p k s (drop (suc k) (walk p)) (drop-at (walk p) k s walked))
    ∙ get-front (stops_below p s) (all_below p (drop (suc k) (walk p))) j made.stop made.there

-- a walk has a stop
pub walk-some : (p : Program) (k : ℕ) (s : Stop) → 0 < length (walk_from p k s)
walk-some p zero s = omega arith
walk-some p (suc k) s = omega arith

-- the flat walk has one
pub walk-there : (p : Program) → modules_fault p ≡ None → 0 < length (walk p)
walk-there p sound = by-main (main_of p) refl (main-there p sound)
  where
    by-main : (o : Option ModuleTree) → main_of p ≡ o → is_none (main_of p) ≡ false → 0 < length (option_map_or (λ m. walk_from p (length p.modules) (root m)) (main_of p) [])
    by-main None e some = let none = ap is_none e in absurd cc
    by-main (Some m) e some = let h = walk-some p (length p.modules) (root m) in
        subst (λ o. 0 < length (option_map_or (λ m. walk_from p (length p.modules) (root m)) o [])) (sym e) h

module _ (p : Program) (sound : modules_fault p ≡ None) (entries : List Entry) (children : List ℕ) (vars defines : ℕ) (t : IsTouring p entries children [] vars defines) where
  -- all stops are done
  all-done : length entries ≡ length (walk p)
  all-done =
      let within = t.within in
      let none : length (drop (length entries) (walk p)) ≡ 0 = ap length t.left in
      omega (arith, none, length-drop (length entries) (walk p))

  -- all places among the children have their numbers
  numbered : (i : ℕ) → i < length children → IsNumbered p children i
  numbered i less = elim (t.numbers i less) [ inl a ↦ a | inr h ↦ absurd cc ]

  -- so has one at which a stop is kept
  numbered-at : (i : ℕ) (c : Stop) → slice_get (child_stops p) i ≡ Some c → IsNumbered p children i
  numbered-at i c here =
      let all : length children ≡ 1 + length (all_below p (walk p)) = t.kept ∙ ap (λ n. 1 + length (all_below p (take n (walk p)))) all-done ∙ ap (λ w. 1 + length (all_below p w)) (take-length (walk p)) in
      let within = slice_get_within (child_stops p) i c here in
      numbered i (omega (arith, all, within, length-append (take 1 (walk p)) (all_below p (walk p)), length-take 1 (walk p)))

  child-by : (k j : ℕ) (e : Entry) (s : Stop) (d : Declaration) (made : IsMade p s.here (instances s.here.from) j d) → e.first_child ≡ 1 + length (all_below p (take k (walk p)))
      → slice_get (child_stops p) (e.first_child + j) ≡ Some made.stop → IsNumbered p children (e.first_child + j) → IsChild p (record { entries = entries; children = children }) k e s j d
  child-by k j e s d made is here number = record {
    number = number.number;
    there = number.there;
    stop = made.stop;
    walked = number.walked ∙ here;
    made = made.made;
    later = later-by p k e.first_child j number.number is number.before;
  }

  -- where the number of an instance stands
  child : (k : ℕ) (e : Entry) (s : Stop) → IsNoted p k e s → slice_get (walk p) k ≡ Some s → (j : ℕ) (d : Declaration) → IsMade p s.here (instances s.here.from) j d → IsChild p (record { entries = entries; children = children }) k e s j d
  child k e s noted walked j d made =
      let here = child-there p k j e s d walked noted.children_from made in
      child-by k j e s d made noted.children_from here (numbered-at (e.first_child + j) made.stop here)

  -- the table is that of the flat walk
  pub tour-end : IsStopsOf p (record { entries = entries; children = children })
  tour-end = record {
    count = all-done;
    few = let few = few-stops p sound in let all = all-done in omega arith;
    some = let some = walk-there p sound in let all = all-done in omega arith;
    few_vars = let few = few-names p sound in omega arith;
    few_defines = let few = few-names p sound in omega arith;
    few_children = let count = t.count in let few = few-stops p sound in let all = all-done in omega arith;
    tells = λ k e s there walked. let noted : IsNoted p k e s = t.noted k e s there walked in record {
      «module» = noted.module;
      caller = noted.caller;
      called_by = noted.called_by;
      calls = noted.calls;
      declared = noted.declared;
      at_main = noted.at_main;
      vars_before = noted.vars_before;
      defines_before = noted.defines_before;
      children = λ j d at. child k e s noted walked j d (made-at p s.here (instances s.here.from) j d (module-sound p sound e.module s.here.from noted.module).known at);
    };
  }
