-- What the entry of a stop tells of it.
use Rattle.std.proofs.Common.{◌≡◌, ℕ, zero, suc, ◌<◌, inl, inr, ◌++◌, ◌∷◌, [], length, Option, Some, None, refl, sym, ap, ◌∙◌, arith}
use Rattle.std.specs.Prelude.{slice_get}
use Rattle.std.specs.Option.{option_map_or}
use Rattle.std.proofs.lemmas.Option.{slice_get_within}
use Rattle.cov_syntax.specs.declared.program.ModuleTree.{ModuleTree}
use Rattle.cov_syntax.specs.declared.program.Program.{Program}
use Rattle.cov_modules.specs.Names.{Dotted}
use Rattle.cov_modules.specs.Modules.{main_of, module_named, Declaration}
use Rattle.cov_modules.specs.Things.{Instance}
use Rattle.cov_modules.specs.Walk.{Stop, stop_in, arguments, root, walk, walk_from}
use Rattle.cov_stops.specs.declared.stops.Entry.{Entry}
use Rattle.cov_stops.specs.Table.{StopTable, IsStopsOf, IsDeclaredAt, TellsStop}
use Rattle.cov_flat.specs.Reading.{flat_walk, stop_at}
use Rattle.cov_flat.specs.Parts.{here}
use Rattle.cov_flat.proofs.StopLemmas.{stop_is, stop_there}

-- ---- the first stop

walk_at_root : (p : Program) (levels : ℕ) (m : ModuleTree) → slice_get (walk_from p levels (root m)) 0 ≡ Some (root m)
walk_at_root p zero m = refl
walk_at_root p (suc levels) m = refl

first_by : (p : Program) (o : Option ModuleTree) → 0 < length (option_map_or (λ m. walk_from p (length p.modules) (root m)) o [])
    → (m : ModuleTree) × (slice_get (option_map_or (λ m. walk_from p (length p.modules) (root m)) o []) 0 ≡ Some (root m))
first_by p None h = absurd (omega arith)
first_by p (Some m) h = (m, walk_at_root p (length p.modules) m)

-- the first stop is at `main`
pub first_stop : (p : Program) → 0 < length (flat_walk p) → (m : ModuleTree) × (stop_at p 0 ≡ root m)
unfolding flat_walk
first_stop p h = let found : (m : ModuleTree) × (slice_get (walk p) 0 ≡ Some (root m)) = first_by p (main_of p) h in (found.0, stop_is p 0 (root found.0) found.1)

-- ---- the name of a stop that is made

made_by : (p : Program) (caller : Instance) (d : Declaration) (o : Option ModuleTree) (s : Stop)
    → option_map_or (λ (m : ModuleTree). let at = caller.name ++ d.name.name ∷ [] in record {
      caller = caller;
      given = d.given;
      here = record { name = at; from = m; formals = arguments p caller at m.formals d.given };
    } ∷ []) o [] ≡ s ∷ []
    → s.here.name ≡ caller.name ++ d.name.name ∷ []
made_by p caller d None s h = absurd cc
made_by p caller d (Some m) s h =
    let at : Dotted = caller.name ++ d.name.name ∷ [] in
    let t : Stop = record { caller = caller; given = d.given; here = record { name = at; from = m; formals = arguments p caller at m.formals d.given } } in
    let same : t ≡ s = cc in
    ap (λ (u : Stop). u.here.name) (sym same)

-- a stop that a declaration makes has the name of the caller with one more part
pub made_name : (p : Program) (caller : Instance) (d : Declaration) (s : Stop) → stop_in p caller d ≡ s ∷ [] → s.here.name ≡ caller.name ++ d.name.name ∷ []
made_name p caller d s h = made_by p caller d (module_named p d.from.name) s h

-- ---- entries

module _ (p : Program) (t : StopTable) (k : ℕ) (is : IsStopsOf p t) (there : k < length (flat_walk p)) where
  -- the number has an entry
  pub entry_there : k < length t.entries
  unfolding flat_walk
  entry_there = omega arith

  module _ (e : Entry) (got : slice_get t.entries k ≡ Some e) where
    -- what the entry tells
    pub entry_tells : TellsStop p t k e (stop_at p k)
    unfolding flat_walk
    entry_tells = is.tells k e (stop_at p k) got (stop_there p k there)

    -- the caller is a stop
    pub caller_there : e.caller < length (flat_walk p)
    unfolding flat_walk
    caller_there = slice_get_within (walk p) e.caller entry_tells.caller entry_tells.called_by

    -- the caller is the instance that gives the arguments
    pub caller_is : here p e.caller ≡ (stop_at p k).caller
    caller_is = ap (λ (s : Stop). s.here) (stop_is p e.caller entry_tells.caller entry_tells.called_by) ∙ entry_tells.calls

    -- but for `main`, the stop is declared behind its caller
    pub declared_behind : 0 < k → (e.caller < k) × IsDeclaredAt p e.section (stop_at p k)
    declared_behind h = elim entry_tells.declared [ inl none ↦ absurd (omega (arith, none.0)) | inr found ↦ found ]
