-- The targets that names have in the stops.
use Rattle.std.proofs.Common.{◌≡◌, ℕ, ◌+◌, ◌<◌, false, IsTrue, List, [], ◌++◌, map, length, take, slice_get, is_none, is_some, option_map, Option, Some, None, refl, sym, ap, subst, ◌∙◌, arith, nat_cmp}
use Rattle.std.specs.List.{flat_map, zip}
use Rattle.std.specs.Option.{option_map_or}
use Rattle.std.specs.BTreeMap.{get}
use Rattle.std.proofs.lemmas.List.{length-map, map-append}
use Rattle.std.proofs.lemmas.Option.{slice_get_within, same_Some}
use Rattle.cov_syntax.specs.declared.program.Program.{Program}
use Rattle.cov_modules.specs.Modules.{module_named, Declaration, instances}
use Rattle.cov_modules.specs.Things.{Thing, variable, define, instance, own}
use Rattle.cov_modules.specs.Walk.{Stop, walk}
use Rattle.cov_modules.specs.FlatLists.{FlatVar, var_of, flat_vars, FlatDefine, define_of_argument, define_of, defines_at, flat_defines, index_of}
use Rattle.cov_modules.specs.ModuleFaults.{modules_fault}
use Rattle.cov_stops.specs.declared.stops.Entry.{Entry}
use Rattle.cov_stops.specs.Table.{IsChild, TellsStop}
use Rattle.cov_paths.specs.declared.item.Item.{Item}
use Rattle.cov_paths.specs.declared.item.Item.TheVariants as item
use Rattle.cov_paths.specs.declared.scope.Scope.{Scope}
use Rattle.cov_paths.specs.declared.own_names.OwnNames.{OwnNames}
use Rattle.cov_paths.specs.declared.target.Target.{Target}
use Rattle.cov_paths.specs.declared.target.Target.TheVariants as target
use Rattle.cov_paths.specs.Targets.{thing_of, IsNamed}
use Rattle.cov_paths.specs.Items.{IsScopeOf}
use Rattle.cov_paths.specs.Arguments.{given_at, defines, first_own}
use Rattle.cov_paths.specs.Found.{own_at}
use Rattle.cov_paths.specs.Scopes.{IsOwnNamesOf}
use Rattle.cov_paths.proofs.Lists.{item-there, get-behind, get-flat-map}
use Rattle.cov_paths.proofs.Declaring.{flat_name, Tells, declared-item}
use Rattle.cov_paths.proofs.Stopping.{made, same-count}
use Rattle.cov_paths.proofs.Numbering.{defines-length}

-- a target of a thing that is there
pub named-some : (p : Program) (x : Target) (t : Option Thing) (y : Thing) → thing_of p x ≡ Some y → t ≡ Some y → IsNamed p (Some x) t
named-some p x t y a b = (a ∙ sym b, subst (λ (o : Option Thing). IsTrue (is_some o)) (sym b) refl)

-- a function of an item that is there
pub at-some : {A B : Type 0} → (f : A → B) (o : Option A) (x : A) (d : B) → o ≡ Some x → option_map_or f o d ≡ f x
at-some f o x d e = ap (λ o. option_map_or f o d) e

-- there is something
known-some : {A : Type 0} → (o : Option A) (x : A) → o ≡ Some x → is_none o ≡ false
known-some o x e = ap is_none e

module _ (p : Program) (none : modules_fault p ≡ None) (t : OwnNames) (h : IsOwnNamesOf p t) (k : ℕ) (within : k < length (walk p))
    (e : Entry) (at : slice_get t.stops.entries k ≡ Some e) (q : Scope) (scoped : slice_get t.modules e.module ≡ Some q) (i : ℕ) where
  -- the stop of the number
  abbrev s : Stop
  s = (item-there (walk p) k within).0

  walked : slice_get (walk p) k ≡ Some s
  walked = (item-there (walk p) k within).1

  told : TellsStop p t.stops k e s
  told = h.stops.tells k e s at walked

  scope-is : IsScopeOf s.here.from q
  scope-is = h.scopes.each e.module s.here.from q told.module scoped

  own-is : own_at p k i ≡ own p s.here.name s.here.from i
  own-is = at-some (λ (s : Stop). own p s.here.name s.here.from i) (slice_get (walk p) k) s None walked

  -- what the stop's module declares under the name, by the item
  told-item : (o : Option Item) → get nat_cmp q.items i ≡ o
      → Tells p s.here i (map (λ (v : FlatVar). v.name) (flat_map (var_of s.here.name) s.here.from.sections)) (map (λ (d : FlatDefine). d.name) (flat_map (define_of s.here) s.here.from.sections)) (instances s.here.from) (own p s.here.name s.here.from i) o
  told-item o is = subst (λ (o : Option Item).
      Tells p s.here i (map (λ (v : FlatVar). v.name) (flat_map (var_of s.here.name) s.here.from.sections)) (map (λ (d : FlatDefine). d.name) (flat_map (define_of s.here) s.here.from.sections)) (instances s.here.from) (own p s.here.name s.here.from i) o)
      (sym (scope-is.items i) ∙ is) (declared-item p s.here i s.here.from.sections)

  -- no item, no thing
  pub own-none : get nat_cmp q.items i ≡ None → own_at p k i ≡ None
  own-none is = own-is ∙ told-item None is

  module _ (r : ℕ) (is : get nat_cmp q.items i ≡ Some (item.Variable r)) where
    var-there : slice_get (index_of p).vars (e.first_var + r) ≡ Some (flat_name s.here i)
    var-there =
        ap (λ n. slice_get (index_of p).vars (n + r)) told.vars_before
        ∙ get-flat-map (λ (s : Stop). flat_map (var_of s.here.name) s.here.from.sections) (λ (v : FlatVar). v.name) (walk p) k s r (flat_name s.here i) walked (told-item (Some (item.Variable r)) is).0

    -- the number of a variable is small
    pub small-variable : e.first_var + r < 4096
    small-variable =
        let within : e.first_var + r < length (map (λ (v : FlatVar). v.name) (flat_vars (walk p))) = slice_get_within (index_of p).vars (e.first_var + r) (flat_name s.here i) var-there in
        omega (arith, length-map (flat_vars (walk p)) (λ (v : FlatVar). v.name), h.stops.few_vars)

    -- the variable of the number
    pub own-variable : IsNamed p (Some (target.Variable (e.first_var + r))) (own_at p k i)
    own-variable = named-some p (target.Variable (e.first_var + r)) (own_at p k i) (variable (flat_name s.here i)) (ap (option_map variable) var-there) (own-is ∙ (told-item (Some (item.Variable r)) is).1)

  module _ (n : ℕ) (first' : slice_get t.first_defines k ≡ Some n) (r : ℕ) (is : get nat_cmp q.items i ≡ Some (item.Define r)) where
    -- the arguments' DEFINEs come first
    own-place : slice_get (map (λ (d : FlatDefine). d.name) (defines_at s)) (defines s.given + r) ≡ Some (flat_name s.here i)
    own-place =
        let as' : List FlatDefine = flat_map (define_of_argument s) (zip s.here.from.formals s.given) in
        let os : List FlatDefine = flat_map (define_of s.here) s.here.from.sections in
        let count : length (map (λ (d : FlatDefine). d.name) as') ≡ defines s.given = length-map as' (λ (d : FlatDefine). d.name) ∙ defines-length s s.here.from.formals s.given (same-count p none t.stops h.stops k e s told walked) in
        ap (λ xs. slice_get xs (defines s.given + r)) (map-append (λ (d : FlatDefine). d.name) as' os)
        ∙ ap (λ m. slice_get (map (λ (d : FlatDefine). d.name) as' ++ map (λ (d : FlatDefine). d.name) os) (m + r)) (sym count)
        ∙ get-behind (map (λ (d : FlatDefine). d.name) as') (map (λ (d : FlatDefine). d.name) os) r
        ∙ (told-item (Some (item.Define r)) is).0

    first-is : n + r ≡ length (flat_defines (take k (walk p))) + (defines s.given + r)
    first-is =
        let f : n ≡ first_own p k = h.firsts.each k n first' in
        let g : defines (given_at p k) ≡ defines s.given = ap defines (at-some (λ (s : Stop). s.given) (slice_get (walk p) k) s [] walked) in
        omega arith

    define-there : slice_get (index_of p).defs (n + r) ≡ Some (flat_name s.here i)
    define-there =
        ap (slice_get (index_of p).defs) first-is
        ∙ get-flat-map defines_at (λ (d : FlatDefine). d.name) (walk p) k s (defines s.given + r) (flat_name s.here i) walked own-place

    -- the number of a DEFINE is small
    pub small-define : n + r < 4096
    small-define =
        let within : n + r < length (map (λ (d : FlatDefine). d.name) (flat_defines (walk p))) = slice_get_within (index_of p).defs (n + r) (flat_name s.here i) define-there in
        omega (arith, length-map (flat_defines (walk p)) (λ (d : FlatDefine). d.name), h.stops.few_defines)

    -- the DEFINE of the number
    pub own-define : IsNamed p (Some (target.Define (n + r))) (own_at p k i)
    own-define = named-some p (target.Define (n + r)) (own_at p k i) (define (flat_name s.here i)) (ap (option_map define) define-there) (own-is ∙ (told-item (Some (item.Define r)) is).1)

  module _ (r : ℕ) (is : get nat_cmp q.items i ≡ Some (item.Instance r)) where
    declared-child : (d : Declaration) × (IsChild p t.stops k e s r d) × (d.name.name ≡ i)
        × (is_none (module_named p d.from.name) ≡ false → own p s.here.name s.here.from i ≡ option_map (λ m. instance (flat_name s.here i) m) (module_named p d.from.name))
    declared-child = let x = told-item (Some (item.Instance r)) is in (x.0, told.children r x.0 x.1, x.2, x.3)

    -- the place of an instance is one of the children
    pub small-child : e.first_child + r < length t.stops.children
    small-child = let x = declared-child in slice_get_within t.stops.children (e.first_child + r) x.1.number x.1.there

    -- the instance of the number
    pub own-instance : (number : ℕ) → slice_get t.stops.children (e.first_child + r) ≡ Some number → IsNamed p (Some (target.Instance number)) (own_at p k i)
    own-instance number at' =
        let x = declared-child in
        let c = x.1 in
        let m = made p s.here x.0 c.stop c.made in
        let same : c.number ≡ number = same_Some c.number number (sym c.there ∙ at') in
        let name : c.stop.here.name ≡ flat_name s.here i = m.name ∙ ap (flat_name s.here) x.2 in
        let thing : own p s.here.name s.here.from i ≡ Some (instance c.stop.here.name c.stop.here.from) =
        x.3 (known-some (module_named p x.0.from.name) c.stop.here.from m.found)
        ∙ ap (option_map (λ m. instance (flat_name s.here i) m)) m.found
        ∙ ap (λ n. Some (instance n c.stop.here.from)) (sym name) in
        named-some p (target.Instance number) (own_at p k i) (instance c.stop.here.name c.stop.here.from)
        (ap (option_map (λ (s : Stop). instance s.here.name s.here.from)) (ap (slice_get (walk p)) (sym same) ∙ c.walked))
        (own-is ∙ thing)
