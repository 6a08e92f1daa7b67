-- What the stops are given, by their entries.
use Rattle.std.proofs.Common.{◌≡◌, ℕ, ◌+◌, ◌<◌, ◌≤◌, inl, inr, [], length, take, slice_get, Some, None, refl, sym, ap, ◌∙◌, arith, length-append}
use Rattle.std.specs.List.{flat_map, zip}
use Rattle.std.specs.Option.{option_map_or}
use Rattle.std.proofs.lemmas.Option.{slice_get_within, same_Some}
use Rattle.cov_syntax.specs.declared.program.TypeTree.TheVariants as type
use Rattle.cov_syntax.specs.declared.program.Section.{Section}
use Rattle.cov_syntax.specs.declared.program.Section.TheVariants as section
use Rattle.cov_syntax.specs.declared.program.ModuleTree.{ModuleTree}
use Rattle.cov_syntax.specs.declared.program.Program.{Program}
use Rattle.cov_modules.specs.Things.{Instance}
use Rattle.cov_modules.specs.Walk.{Stop, walk}
use Rattle.cov_modules.specs.FlatLists.{define_of_argument, define_of, defines_at, flat_defines}
use Rattle.cov_modules.specs.ModuleFaults.{modules_fault}
use Rattle.cov_stops.specs.declared.stops.Entry.{Entry}
use Rattle.cov_stops.specs.Table.{StopTable, IsDeclaredAt, TellsStop, IsStopsOf}
use Rattle.cov_paths.specs.Arguments.{given_in, given_at, defines, first_own}
use Rattle.cov_paths.proofs.Lists.{item-there, few-flat}
use Rattle.cov_paths.proofs.Stopping.{entry-there, same-count}
use Rattle.cov_paths.proofs.Numbering.{defines-length}

module _ (p : Program) (t : StopTable) (h : IsStopsOf p t) (k : ℕ) (within : k < length (walk p)) where
  -- the stop of the number
  abbrev stop : Stop
  stop = (item-there (walk p) k within).0

  walked : slice_get (walk p) k ≡ Some stop
  walked = (item-there (walk p) k within).1

  -- the arguments of the stop
  pub given-is : given_at p k ≡ stop.given
  given-is = ap (λ o. option_map_or (λ (s : Stop). s.given) o []) walked

  module _ (e : Entry) (at : slice_get t.entries k ≡ Some e) where
    told : TellsStop p t k e stop
    told = h.tells k e stop at walked

    -- what is declared nowhere is given nothing
    undeclared : k ≡ 0 → given_at p k ≡ []
    undeclared first = given-is ∙ elim told.declared [ inl a ↦ a.1 | inr b ↦ (let below : e.caller < k = b.0 in absurd (omega arith)) ]

    -- the caller has an entry
    pub caller-below : e.caller < length t.entries
    caller-below = let c : e.caller < length (walk p) = slice_get_within (walk p) e.caller told.caller told.called_by in omega (arith, h.count)

    -- the caller comes before
    pub caller-before : 0 < k → e.caller < k
    caller-before later = elim told.declared [ inl a ↦ (let first : k ≡ 0 = a.0 in absurd (omega arith)) | inr b ↦ b.0 ]

    -- where arguments are given, the caller comes before
    pub caller-before-given : 0 < length (given_at p k) → e.caller < k
    caller-before-given filled = elim told.declared [
      | inl a ↦ (let none : length (given_at p k) ≡ 0 = ap length (given-is ∙ a.1) in absurd (omega arith))
      | inr b ↦ b.0
    ]

    module _ (c : Entry) (at-c : slice_get t.entries e.caller ≡ Some c) where
      -- the module of the caller
      caller-module : slice_get p.modules c.module ≡ Some stop.caller.from
      caller-module = (h.tells e.caller c told.caller at-c told.called_by).module ∙ ap (λ (x : Instance). Some x.from) told.calls

      -- it is one of the modules
      pub module-below : c.module < length p.modules
      module-below = slice_get_within p.modules c.module stop.caller.from caller-module

      -- the section that declares the stop
      section-there : (m : ModuleTree) → slice_get p.modules c.module ≡ Some m → IsDeclaredAt p e.section stop
          → (g : Section) × (slice_get m.sections e.section ≡ Some g) × (given_in g ≡ stop.given)
      section-there m at-m d =
          let same : stop.caller.from ≡ m = same_Some stop.caller.from m (sym caller-module ∙ at-m) in
          (section.Decl d.name (type.Instance d.from stop.given) d.place, ap (λ (m : ModuleTree). slice_get m.sections e.section) (sym same) ∙ d.there, refl)

      section-of : (m : ModuleTree) → slice_get p.modules c.module ≡ Some m → 0 < k → (g : Section) × (slice_get m.sections e.section ≡ Some g) × (given_in g ≡ stop.given)
      section-of m at-m later = elim told.declared [ inl a ↦ (let first : k ≡ 0 = a.0 in absurd (omega arith)) | inr b ↦ section-there m at-m b.1 ]

      -- the section is one of the caller's
      pub section-below : (m : ModuleTree) → slice_get p.modules c.module ≡ Some m → 0 < k → e.section < length m.sections
      section-below m at-m later = let g = section-of m at-m later in slice_get_within m.sections e.section g.0 g.1

      -- it gives the stop its arguments
      pub section-gives : (m : ModuleTree) → slice_get p.modules c.module ≡ Some m → 0 < k → (g : Section) → slice_get m.sections e.section ≡ Some g → given_in g ≡ given_at p k
      section-gives m at-m later g at-g =
          let x = section-of m at-m later in
          ap given_in (same_Some g x.0 (sym at-g ∙ x.1)) ∙ x.2 ∙ sym given-is

    -- the number of the first DEFINE of the arguments
    pub number-before : e.first_define ≡ length (flat_defines (take k (walk p)))
    number-before = told.defines_before

    -- the number of the first DEFINE of its own
    pub first-is : e.first_define + defines (given_at p k) ≡ first_own p k
    first-is = ap (λ n. n + defines (given_at p k)) told.defines_before

    -- the module of the stop
    pub own-module-below : e.module < length p.modules
    own-module-below = slice_get_within p.modules e.module stop.here.from told.module

  -- `main` is given nothing
  pub nothing-given : k ≡ 0 → given_at p k ≡ []
  nothing-given first =
      let below : k < length t.entries = omega (arith, h.count) in
      let e = item-there t.entries k below in
      undeclared e.0 e.1 first

  -- that number is small
  pub first-small : modules_fault p ≡ None → first_own p k ≤ 4096
  first-small none =
      let e = entry-there p none t h k stop walked in
      let count = defines-length stop stop.here.from.formals stop.given (same-count p none t h k e.0 stop (told e.0 e.1) walked) in
      let all = few-flat defines_at (walk p) k stop walked in
      let g : defines (given_at p k) ≡ defines stop.given = ap defines given-is in
      omega (arith, h.few_defines, length-append (flat_map (define_of_argument stop) (zip stop.here.from.formals stop.given)) (flat_map (define_of stop.here) stop.here.from.sections))
