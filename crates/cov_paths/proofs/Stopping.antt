-- The stops of the flat walk, and what they are given.
use Rattle.std.proofs.Common.{◌≡◌, ℕ, zero, suc, ◌+◌, ◌<◌, inl, inr, List, [], ◌∷◌, ◌++◌, length, take, slice_get, Option, Some, None, refl, sym, ap, subst, ◌∙◌, arith}
use Rattle.std.specs.List.{flat_map}
use Rattle.std.specs.Option.{option_map_or}
use Rattle.std.proofs.lemmas.Option.{slice_get_within}
use Rattle.cov_syntax.specs.declared.program.Spelled.{Spelled}
use Rattle.cov_syntax.specs.declared.program.TypeTree.TheVariants as type
use Rattle.cov_syntax.specs.declared.program.Section.{Section}
use Rattle.cov_syntax.specs.declared.program.Section.TheVariants as section
use Rattle.cov_syntax.specs.declared.program.ModuleTree.{ModuleTree}
use Rattle.cov_syntax.specs.declared.program.Program.{Program}
use Rattle.cov_modules.specs.Names.{Dotted}
use Rattle.cov_modules.specs.Modules.{module_named, main_of, is_main, Declaration, instance_of, instances}
use Rattle.cov_modules.specs.Things.{Instance}
use Rattle.cov_modules.specs.Walk.{arguments, Stop, stop_in, walk_from, root, walk}
use Rattle.cov_modules.specs.ModuleFaults.{modules_fault}
use Rattle.cov_modules.proofs.WalkLemmas.{IsSound, found-sound}
use Rattle.cov_modules.proofs.LawLemmas.{has-no-fault, module-sound, instance-arguments, main-without-formals}
use Rattle.cov_stops.specs.declared.stops.Entry.{Entry}
use Rattle.cov_stops.specs.Table.{StopTable, IsDeclaredAt, TellsStop, IsStopsOf}
use Rattle.cov_paths.proofs.Lists.{item-there, get-flat, find-passes}

-- A stop that a declaration makes: its module, and what it is.
pub record IsMade (p : Program) (caller : Instance) (d : Declaration) (s : Stop) : Type 0 where
  pub found : module_named p d.from.name ≡ Some s.here.from
  pub name : s.here.name ≡ caller.name ++ d.name.name ∷ []
  pub given : s.given ≡ d.given
  pub formals : s.here.formals ≡ arguments p caller s.here.name s.here.from.formals s.given

-- the stop that a declaration makes of a module
abbrev stop_of : Program → Instance → Declaration → ModuleTree → Stop
stop_of p caller d m = record {
  caller = caller;
  given = d.given;
  here = record { name = caller.name ++ d.name.name ∷ []; from = m; formals = arguments p caller (caller.name ++ d.name.name ∷ []) m.formals d.given };
}

-- by the module of its name
made-by : (p : Program) (caller : Instance) (d : Declaration) (s : Stop) (o : Option ModuleTree) → module_named p d.from.name ≡ o
    → option_map_or (λ m. stop_of p caller d m ∷ []) o [] ≡ s ∷ [] → IsMade p caller d s
made-by p caller d s None is e = absurd cc
made-by p caller d s (Some m) is e =
    let same : stop_of p caller d m ≡ s = cc in
    subst (IsMade p caller d) same (record { found = is; name = refl; given = refl; formals = refl })

-- a stop that a declaration makes
pub made : (p : Program) (caller : Instance) (d : Declaration) (s : Stop) → stop_in p caller d ≡ s ∷ [] → IsMade p caller d s
made p caller d s e = made-by p caller d s (module_named p d.from.name) refl e

-- the first stop of a walk
first-stop : (p : Program) (n : ℕ) (r s : Stop) → slice_get (walk_from p n r) 0 ≡ Some s → r ≡ s
first-stop p zero r s e = cc
first-stop p (suc n) r s e = cc

-- by the module `main`
main-by : (p : Program) (s : Stop) (o : Option ModuleTree) → main_of p ≡ o → slice_get (option_map_or (λ m. walk_from p (length p.modules) (root m)) o []) 0 ≡ Some s
    → (m : ModuleTree) × (main_of p ≡ Some m) × (root m ≡ s)
main-by p s None is e = absurd cc
main-by p s (Some m) is e = (m, is, first-stop p (length p.modules) (root m) s e)

-- no arguments
arguments-nil : (p : Program) (caller : Instance) (at : Dotted) (fs : List Spelled) → arguments p caller at fs [] ≡ []
arguments-nil p caller at [] = refl
arguments-nil p caller at (f ∷ fs) = refl

-- an instance that is declared at a section is one of the instances
declared-there : (m : ModuleTree) (j : ℕ) (t : Section) (d : Declaration) → slice_get m.sections j ≡ Some t → instance_of t ≡ d ∷ [] → (i : ℕ) × (slice_get (instances m) i ≡ Some d)
declared-there m j t d at is =
    let one : 0 < length (instance_of t) = subst (λ (ds : List Declaration). 0 < length ds) (sym is) (omega arith) in
    (length (flat_map instance_of (take j m.sections)) + 0, get-flat instance_of m.sections j t 0 at one ∙ ap (λ (ds : List Declaration). slice_get ds 0) is)

module _ (p : Program) (none : modules_fault p ≡ None) (t : StopTable) (h : IsStopsOf p t) where
  -- each stop of the walk has an entry
  pub entry-there : (k : ℕ) (s : Stop) → slice_get (walk p) k ≡ Some s → (e : Entry) × (slice_get t.entries k ≡ Some e)
  entry-there k s walked =
      let within : k < length (walk p) = slice_get_within (walk p) k s walked in
      let below : k < length t.entries = omega (arith, h.count) in
      item-there t.entries k below

  -- the module of each stop is without faults
  pub stop-sound : (k : ℕ) (s : Stop) → slice_get (walk p) k ≡ Some s → IsSound p s.here.from
  stop-sound k s walked =
      let e = entry-there k s walked in
      module-sound p none e.0.module s.here.from (h.tells k e.0 s e.1 walked).module

  -- `main` has no formals
  root-none : (s : Stop) → slice_get (walk p) 0 ≡ Some s → (length s.here.from.formals ≡ 0) × (s.here.formals ≡ [])
  root-none s walked =
      let main = main-by p s (main_of p) refl walked in
      let clean = has-no-fault p none in
      let sound = found-sound p clean.known clean.arguments (is_main p) main.0 main.1 in
      let none' = main-without-formals p main.0 sound (find-passes (is_main p) p.modules main.0 main.1) in
      (subst (λ (s : Stop). length s.here.from.formals ≡ 0) main.2 none', ap (λ (s : Stop). s.here.formals) (sym main.2))

  module _ (k : ℕ) (e : Entry) (s : Stop) (told : TellsStop p t k e s) (walked : slice_get (walk p) k ≡ Some s) where
    -- the instance that declares a stop
    caller-sound : IsSound p s.caller.from
    caller-sound = subst (λ (x : Instance). IsSound p x.from) told.calls (stop-sound e.caller told.caller told.called_by)

    -- where a stop is declared, it has as many arguments as formals
    declared-count : IsDeclaredAt p e.section s → length s.given ≡ length s.here.from.formals
    declared-count at =
        let d : Declaration = record { name = at.name; from = at.from; given = s.given } in
        let there = declared-there s.caller.from e.section (section.Decl at.name (type.Instance at.from s.given) at.place) d at.there refl in
        instance-arguments p s.caller.from caller-sound there.0 d there.1
        ∙ ap (λ o. option_map_or (λ (m : ModuleTree). length m.formals) o 0) (made p s.caller d s at.made).found

    -- `main` is given nothing
    root-count : k ≡ 0 → s.given ≡ [] → length s.given ≡ length s.here.from.formals
    root-count first none' =
        let at : slice_get (walk p) 0 ≡ Some s = subst (λ (j : ℕ). slice_get (walk p) j ≡ Some s) first walked in
        ap length none' ∙ sym (root-none s at).0

    -- a stop has as many arguments as formals
    pub same-count : length s.given ≡ length s.here.from.formals
    same-count = elim told.declared [ inl a ↦ root-count a.0 a.1 | inr b ↦ declared-count b.1 ]

    -- what the formals of `main` stand for
    root-formals : k ≡ 0 → s.given ≡ [] → s.here.formals ≡ arguments p s.caller s.here.name s.here.from.formals s.given
    root-formals first none' =
        let at : slice_get (walk p) 0 ≡ Some s = subst (λ (j : ℕ). slice_get (walk p) j ≡ Some s) first walked in
        (root-none s at).1
        ∙ sym (ap (arguments p s.caller s.here.name s.here.from.formals) none' ∙ arguments-nil p s.caller s.here.name s.here.from.formals)

    -- what the formals of a stop stand for
    pub formals-are : s.here.formals ≡ arguments p s.caller s.here.name s.here.from.formals s.given
    formals-are = elim told.declared [
      | inl a ↦ root-formals a.0 a.1
      | inr b ↦ (made p s.caller (record { name = b.1.name; from = b.1.from; given = s.given }) s b.1.made).formals
    ]
