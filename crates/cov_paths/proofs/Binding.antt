-- What the formals of a stop stand for, one after the other.
use Rattle.std.proofs.Common.{◌≡◌, ℕ, ◌+◌, ◌<◌, ◌≤◌, List, [], ◌∷◌, ◌++◌, map, length, take, slice_get, option_map, Option, Some, None, refl, sym, ap, subst, ◌∙◌, arith, nat_cmp}
use Rattle.std.specs.List.{flat_map, zip}
use Rattle.std.specs.BTreeMap.{get}
use Rattle.std.proofs.lemmas.List.{map-append, take_all}
use Rattle.std.proofs.lemmas.Option.{slice_get_within, get_or_from_slice_get}
use Rattle.cov_syntax.specs.declared.program.Spelled.{Spelled}
use Rattle.cov_syntax.specs.declared.program.Program.{Program}
use Rattle.cov_syntax.specs.declared.tree.Expr.{Expr}
use Rattle.cov_modules.specs.Names.{Dotted}
use Rattle.cov_modules.specs.Things.{Thing, define, Instance, named, path_of}
use Rattle.cov_modules.specs.Walk.{Stop, argument, arguments, walk}
use Rattle.cov_modules.specs.FlatLists.{FlatDefine, define_of_argument, define_of, defines_at, flat_defines, index_of}
use Rattle.cov_modules.specs.ModuleFaults.{modules_fault}
use Rattle.cov_stops.specs.declared.stops.Entry.{Entry}
use Rattle.cov_stops.specs.Table.{StopTable, TellsStop, IsStopsOf}
use Rattle.cov_paths.specs.declared.scope.Scope.{Scope}
use Rattle.cov_paths.specs.declared.scopes.Scopes.{Scopes}
use Rattle.cov_paths.specs.declared.target.Target.{Target}
use Rattle.cov_paths.specs.declared.target.Target.TheVariants as target
use Rattle.cov_paths.specs.Targets.{named_at, IsNamed}
use Rattle.cov_paths.specs.Items.{IsScopeOf}
use Rattle.cov_paths.specs.Arguments.{given_at, defines_of, defines}
use Rattle.cov_paths.specs.Scopes.{AreFirstScopes}
use Rattle.cov_paths.specs.Found.{formals_at, formal_at, IsFormal, AreNamed, IsArgument}
use Rattle.cov_paths.proofs.Lists.{item-there, get-front, get-flat-map, zip-more}
use Rattle.cov_paths.proofs.Stopping.{same-count, formals-are}
use Rattle.cov_paths.proofs.Numbering.{defines-more, defines-few, define-there}
use Rattle.cov_paths.proofs.Giving.{given-is, first-small}
use Rattle.cov_paths.proofs.Naming.{named-some, at-some}
use Rattle.cov_paths.proofs.Finding.{IsFrontOf, arguments-front, target_at, formal-found, argument-there, arguments-length}

module _ (p : Program) (none : modules_fault p ≡ None) (t : StopTable) (h : IsStopsOf p t) (k : ℕ) (within : k < length (walk p)) (e : Entry) (at : slice_get t.entries k ≡ Some e) where
  -- the stop of the number
  abbrev stop : Stop
  stop = (item-there (walk p) k within).0

  walked : slice_get (walk p) k ≡ Some stop
  walked = (item-there (walk p) k within).1

  told : TellsStop p t k e stop
  told = h.tells k e stop at walked

  count : length stop.given ≡ length stop.here.from.formals
  count = same-count p none t h k e stop told walked

  formals-there : formals_at p k ≡ arguments p stop.caller stop.here.name stop.here.from.formals stop.given
  formals-there = at-some (λ (s : Stop). s.here.formals) (slice_get (walk p) k) stop [] walked ∙ formals-are p none t h k e stop told walked

  -- as many formals as arguments
  pub formals-count : length (formals_at p k) ≡ length (given_at p k)
  formals-count =
      ap length formals-there
      ∙ arguments-length p stop.caller stop.here.name stop.here.from.formals stop.given count
      ∙ ap length (sym (given-is p t h k within))

  -- a formal is found at the place of its name
  pub bound-formal : (q : Scope) → IsScopeOf stop.here.from q → (xs : List (Option Target)) → AreNamed p xs (formals_at p k) → (i : ℕ) → IsFormal p (target_at xs (get nat_cmp q.formals i)) (formal_at p k i)
  bound-formal q scoped xs named' i =
      let front = subst (λ (fs : List (ℕ × Option Thing)). IsFrontOf fs (map (λ (f : Spelled). f.name) stop.here.from.formals)) (sym formals-there)
      (arguments-front p stop.caller stop.here.name stop.here.from.formals stop.given) in
      subst (λ o. IsFormal p (target_at xs o) (formal_at p k i)) (sym (scoped.formals i))
      (formal-found p (formals_at p k) xs (map (λ (f : Spelled). f.name) stop.here.from.formals) i named' front)

  module _ (j : ℕ) (a : Expr) (number : ℕ) (here : slice_get (given_at p k) j ≡ Some a) (numbered : number ≡ length (flat_defines (take k (walk p))) + defines (take j (given_at p k))) where
    given-here : slice_get stop.given j ≡ Some a
    given-here = ap (λ es. slice_get es j) (sym (given-is p t h k within)) ∙ here

    numbered-here : number ≡ length (flat_defines (take k (walk p))) + defines (take j stop.given)
    numbered-here = numbered ∙ ap (λ es. length (flat_defines (take k (walk p))) + defines (take j es)) (given-is p t h k within)

    formal-here : (f : Spelled) × (slice_get stop.here.from.formals j ≡ Some f)
    formal-here = let below : j < length stop.given = slice_get_within stop.given j a given-here in item-there stop.here.from.formals j (omega (arith, count))

    -- the DEFINE that the argument becomes
    define-here : path_of a ≡ None → slice_get (index_of p).defs number ≡ Some (stop.here.name ++ formal-here.0.name ∷ [])
    define-here pathless =
        let as' : List FlatDefine = flat_map (define_of_argument stop) (zip stop.here.from.formals stop.given) in
        let os : List FlatDefine = flat_map (define_of stop.here) stop.here.from.sections in
        let place = define-there stop stop.here.from.formals stop.given j formal-here.0 a formal-here.1 given-here pathless in
        let short : defines (take j stop.given) < length (map (λ (d : FlatDefine). d.name) as') =
        slice_get_within (map (λ (d : FlatDefine). d.name) as') (defines (take j stop.given)) (stop.here.name ++ formal-here.0.name ∷ []) place in
        ap (slice_get (index_of p).defs) numbered-here
        ∙ get-flat-map defines_at (λ (d : FlatDefine). d.name) (walk p) k stop (defines (take j stop.given)) (stop.here.name ++ formal-here.0.name ∷ []) walked
        (ap (λ xs. slice_get xs (defines (take j stop.given))) (map-append (λ (d : FlatDefine). d.name) as' os)
        ∙ get-front (map (λ (d : FlatDefine). d.name) as') (map (λ (d : FlatDefine). d.name) os) (defines (take j stop.given)) short
        ∙ place)

    -- by the path of the argument
    named-by : (x : Option Target) (o : Option Dotted) → path_of a ≡ o → (let T : Type 0 = elim o [ Some path ↦ IsNamed p x (named_at p e.caller path) | None ↦ x ≡ Some (target.Define number) ] in T)
        → IsNamed p x (let y : Option Thing = elim o [ Some path ↦ named p stop.caller path | None ↦ Some (define (stop.here.name ++ formal-here.0.name ∷ [])) ] in y)
    named-by x (Some path) is n =
        subst (IsNamed p x) (at-some (λ (s : Stop). named p s.here path) (slice_get (walk p) e.caller) told.caller None told.called_by ∙ ap (λ (y : Instance). named p y path) told.calls) n
    named-by x None is n =
        let thing : Option Thing = Some (define (stop.here.name ++ formal-here.0.name ∷ [])) in
        subst (λ (y : Option Target). IsNamed p y thing) (sym n)
        (named-some p (target.Define number) thing (define (stop.here.name ++ formal-here.0.name ∷ [])) (ap (option_map define) (define-here is)) refl)

    -- the target of the argument is what its formal stands for
    pub bound-more : (x : Option Target) (xs : List (Option Target)) → IsArgument p e.caller a number x → AreNamed p xs (take j (formals_at p k)) → AreNamed p (xs ++ x ∷ []) (take (j + 1) (formals_at p k))
    bound-more x xs is are =
        let f : ℕ × Option Thing = (formal-here.0.name, argument p stop.caller stop.here.name formal-here.0 a) in
        let there : slice_get (formals_at p k) j ≡ Some f =
        ap (λ fs. slice_get fs j) formals-there
        ∙ argument-there p stop.caller stop.here.name stop.here.from.formals stop.given j formal-here.0 a formal-here.1 given-here in
        zip-more (λ (g : ℕ × Option Thing) (y : Option Target). IsNamed p y g.1) (formals_at p k) j f xs x there are (named-by x (path_of a) refl is)

    -- the number after the argument
    pub next-number : number + defines_of a ≡ length (flat_defines (take k (walk p))) + defines (take (j + 1) (given_at p k))
    next-number =
        let below : j < length (given_at p k) = slice_get_within (given_at p k) j a here in
        let more = defines-more (given_at p k) j a a below (sym (get_or_from_slice_get (given_at p k) j a a here)) in
        omega arith

    -- it is small
    pub next-small : number + defines_of a ≤ 4096
    next-small =
        let few = defines-few (given_at p k) (j + 1) in
        let small : length (flat_defines (take k (walk p))) + defines (given_at p k) ≤ 4096 = first-small p t h k within none in
        omega (arith, next-number)

  -- all formals are bound at the end
  pub bound-all : (n : ℕ) (xs : List (Option Target)) → length (given_at p k) ≤ n → AreNamed p xs (take n (formals_at p k)) → AreNamed p xs (formals_at p k)
  bound-all n xs enough are = subst (AreNamed p xs) (take_all n (formals_at p k) (omega (arith, formals-count))) are

-- a formal of a stop is found in the table
pub bound-in : (p : Program) → modules_fault p ≡ None → (c : Scopes) → AreFirstScopes p c → (k : ℕ) → k < length c.formals → (e : Entry) → slice_get c.own.stops.entries k ≡ Some e
    → (q : Scope) → slice_get c.own.modules e.module ≡ Some q → (xs : List (Option Target)) → slice_get c.formals k ≡ Some xs → (i : ℕ) → (o : Option ℕ) → get nat_cmp q.formals i ≡ o
    → IsFormal p (target_at xs o) (formal_at p k i)
bound-in p none c are k below e at q scoped xs there i o is =
    let within : k < length (walk p) = omega (arith, are.few) in
    let s = item-there (walk p) k within in
    let told = are.own.stops.tells k e s.0 at s.1 in
    let scope = are.own.scopes.each e.module s.0.here.from q told.module scoped in
    subst (λ o. IsFormal p (target_at xs o) (formal_at p k i)) is (bound-formal p none c.own.stops are.own.stops k within e at q scope xs (are.formals k xs there) i)
