-- The expressions of a flat model: what they cite is there, and they are no deeper than the limit.
use Rattle.std.proofs.Common.{◌≡◌, ◌≤◌, inl, inr, Bool, true, false, cond, nat_lt, List, [], ◌∷◌, ◌++◌, map, length, sum_by, Option, Some, None, is_some, is_none, refl, sym, ap, subst, ◌∙◌, arith}
use Rattle.std.specs.List.{flat_map, filter, zip}
use Rattle.std.proofs.lemmas.List.Sums.{sum_by-cons}
use Rattle.cov_syntax.specs.declared.tree.Span.{Span}
use Rattle.cov_syntax.specs.declared.tree.Expr.{Expr}
use Rattle.cov_syntax.specs.declared.fault.FaultKind.{FaultKind}
use Rattle.cov_syntax.specs.declared.fault.FaultKind.TheVariants as kind
use Rattle.cov_syntax.specs.declared.fault.ModelFault.{ModelFault}
use Rattle.cov_syntax.specs.declared.program.When.{When}
use Rattle.cov_syntax.specs.declared.program.CondKind.{CondKind}
use Rattle.cov_syntax.specs.declared.program.Section.{Section}
use Rattle.cov_syntax.specs.declared.program.Section.TheVariants as section
use Rattle.cov_syntax.specs.declared.program.Program.{Program}
use Rattle.cov_model.specs.declared.model.Assign.{Assign}
use Rattle.cov_model.specs.declared.model.Model.{Model}
use Rattle.cov_model.specs.Flat.{depth}
use Rattle.cov_model.specs.WellFormed.{cites}
use Rattle.cov_modules.specs.Names.{Dotted, first}
use Rattle.cov_modules.specs.Things.{Thing, variable, define, instance, symbol, Instance, named, path_of}
use Rattle.cov_modules.specs.Walk.{Stop, walk}
use Rattle.cov_modules.specs.FlatLists.{FlatDefine, define_of_argument, define_of, defines_at, flat_defines, index_of, place_in, flat_expr, same_kind, same_when, cond_of, conds, Assignment, target_of, assign_of, assignments, flat_assign, assigns, flat_model}
use Rattle.cov_modules.specs.Conditions.{expressions_of, module_expressions, IsFlattenable}
use Rattle.cov_modules.specs.Counts.{nodes, body_of, bodies}
use Rattle.cov_modules.specs.ModuleFaults.{place_if, fault, modules_fault}
use Rattle.cov_modules.specs.NameFaults.{unknown_in, unknown_argument, unknown_in_section, unknown_at, unknown_name, double_assign}
use Rattle.cov_modules.specs.Flatten.{flat_fault}
use Rattle.cov_modules.proofs.LawLemmas.{few-nodes}
use Rattle.cov_flatness.proofs.Among.{Among, among-left, among-right, among-split, among-flat, from-flat, among-map, from-map, from-filter, none-of}
use Rattle.cov_flatness.proofs.Walking.{IsWhole, walk-whole}
use Rattle.cov_flatness.proofs.ThereLemmas.{IsThereIf}
use Rattle.cov_flatness.proofs.Reading.{read-shallow}
use Rattle.cov_flatness.proofs.Citing.{read-cites}
use Rattle.cov_flatness.proofs.Visits.{cited-named, expression-unflat, visited, path-there}
use Rattle.cov_flatness.proofs.FlatNames.{flats}

-- ---- what an instance reads

-- An expression of a section that is asked for names in an instance.
record IsAsked (p : Program) (y : Instance) (x : Section) (e : Expr) : Type 0 where
  stands : Among (expressions_of x) e
  asked : Among (unknown_in_section p y x) (unknown_in p y e)

-- a condition
condition-by : (p : Program) (y : Instance) (b : Bool) (k : CondKind) (body e : Expr) → Among (cond b (body ∷ []) []) e → IsAsked p y (section.Cond k body) e × Among (body_of (section.Cond k body)) e
condition-by p y true k body e (inl is) = (record { stands = inl is; asked = inl (ap (unknown_in p y) is) }, inl is)
condition-by p y true k body e (inr h) = absurd h
condition-by p y false k body e h = absurd h

condition-asked : (p : Program) (y : Instance) (k : CondKind) (x : Section) (e : Expr) → Among (cond_of k x) e → IsAsked p y x e × Among (body_of x) e
condition-asked p y k (section.Cond kind body) e h = condition-by p y (same_kind k kind) kind body e h
condition-asked p y k (section.Decl name kind place) e h = absurd h
condition-asked p y k (section.Define name body) e h = absurd h
condition-asked p y k (section.Assign when target body) e h = absurd h

-- a DEFINE of a section
define-asked : (p : Program) (y : Instance) (x : Section) (w : FlatDefine) → Among (define_of y x) w → IsAsked p y x w.body × (y ≡ w.reader)
define-asked p y (section.Define name body) w (inl is) =
    let same : body ≡ w.body = ap (λ (w : FlatDefine). w.body) is in
    (record { stands = inl same; asked = inl (ap (unknown_in p y) same) }, ap (λ (w : FlatDefine). w.reader) is)
define-asked p y (section.Define name body) w (inr h) = absurd h
define-asked p y (section.Decl name kind place) w h = absurd h
define-asked p y (section.Assign when target body) w h = absurd h
define-asked p y (section.Cond kind body) w h = absurd h

-- An assignment that an instance reads: its body is asked for names, and its target is what the instance names.
record IsAssigned (p : Program) (y : Instance) (x : Section) (a : Assignment) : Type 0 where
  body : IsAsked p y x a.body
  stands : Among (body_of x) a.body
  reader : y ≡ a.reader
  target : Expr
  names : target_of p y target ≡ a.target

assignment-asked : (p : Program) (y : Instance) (x : Section) (a : Assignment) → Among (assign_of p y x) a → IsAssigned p y x a
assignment-asked p y (section.Assign when target body) a (inl is) =
    let same : body ≡ a.body = ap (λ (a : Assignment). a.body) is in
    record {
      body = record { stands = inr (inl same); asked = inr (inl (ap (unknown_in p y) same)) };
      stands = inl same;
      reader = ap (λ (a : Assignment). a.reader) is;
      target = target;
      names = ap (λ (a : Assignment). a.target) is;
    }
assignment-asked p y (section.Assign when target body) a (inr h) = absurd h
assignment-asked p y (section.Decl name kind place) a h = absurd h
assignment-asked p y (section.Define name body) a h = absurd h
assignment-asked p y (section.Cond kind body) a h = absurd h

-- an argument that becomes a DEFINE is no path
argument-by : (o : Option Dotted) (w e : FlatDefine) → Among (cond (is_some o) [] (w ∷ [])) e → (o ≡ None) × (w ≡ e)
argument-by None w e (inl is) = (refl, is)
argument-by None w e (inr h) = absurd h
argument-by (Some path) w e h = absurd h

-- then it is asked for names as any expression
argument-none : (p : Program) (y : Instance) (e : Expr) → path_of e ≡ None → unknown_argument p y e ≡ None → unknown_in p y e ≡ None
argument-none p y e none h = sym (ap (λ (o : Option Dotted). elim o [ Some path ↦ place_if (is_none (named p y path)) e.place | None ↦ unknown_in p y e ]) none) ∙ h

-- the second of two stands among the second
among-zip : {A B : Type 0} (xs : List A) (ys : List B) (a : A × B) → Among (zip xs ys) a → Among ys a.1
among-zip [] ys a h = absurd h
among-zip (x ∷ xs) [] a h = absurd h
among-zip {A} {B} (x ∷ xs) (y ∷ ys) a (inl e) = inl (ap (λ (a : A × B). a.1) e)
among-zip (x ∷ xs) (y ∷ ys) a (inr h) = inr (among-zip xs ys a h)

-- an expression has no more nodes than all together
some-nodes : (es : List Expr) (e : Expr) → Among es e → nodes e ≤ sum_by nodes es
some-nodes [] e h = absurd h
some-nodes (x ∷ es) e (inl is) = let same : nodes x ≡ nodes e = ap nodes is in omega (arith, same, sum_by-cons nodes x es)
some-nodes (x ∷ es) e (inr h) = let rest = some-nodes es e h in omega (arith, rest, sum_by-cons nodes x es)

-- ---- no fault

-- neither fault is there
no-fault : (a : Option ModelFault) (k : FaultKind) (o : Option Span) (rest : List (Option ModelFault)) → first (a ∷ fault k o ∷ rest) ≡ None → (a ≡ None) × (o ≡ None)
no-fault None k None rest h = (refl, refl)
no-fault None k (Some place) rest h = absurd cc
no-fault (Some a) k o rest h = absurd cc

-- without a fault there is none of the modules, and no unknown name
pub no-faults : (p : Program) → flat_fault p ≡ None → (modules_fault p ≡ None) × (unknown_name p ≡ None)
no-faults p h = no-fault (modules_fault p) kind.UnknownName (unknown_name p) (fault kind.DoubleAssign (double_assign p) ∷ []) h

-- ---- the expressions of the model

module _ (p : Program) (f : IsFlattenable p) (h : modules_fault p ≡ None) (u : unknown_name p ≡ None) where
  abbrev m : Model
  m = flat_model p

  whole : IsWhole p (walk p)
  whole = walk-whole p h

  -- An expression of the model: all that it cites is there, and it is within the limit.
  pub record IsRead (e : Expr) : Type 0 where
    pub cited : cites (flat_model p) e ≡ true
    pub shallow : depth e ≤ 1000000

  none-at : (t : Stop) (o : Option Span) → Among (walk p) t → Among (unknown_at p t) o → o ≡ None
  none-at t o at g = none-of (flat_map (unknown_at p) (walk p)) o u (among-flat (unknown_at p) (walk p) t o at g)

  -- an expression of a stop's module
  read : (t : Stop) (e : Expr) → Among (walk p) t → Among (module_expressions t.here.from) e → unknown_in p t.here e ≡ None → Among (bodies (walk p)) e → IsRead (flat_expr p (index_of p) t.here e)
  read t e at stands none there =
      let s = visited p f whole t at in
      let deep = read-shallow p (index_of p) t.here e in
      let few = some-nodes (bodies (walk p)) e there in
      let all = few-nodes p h in
      record {
        cited = read-cites p m (flats p f h) t.here (path-there p f whole t at) e none (cited-named p f t.here.from s.from e stands) (expression-unflat p f t.here.from s.from e stands);
        shallow = omega (arith, deep, few, all);
      }

  -- an expression of one of its sections
  read-asked : (t : Stop) (x : Section) (e : Expr) → Among (walk p) t → Among t.here.from.sections x → IsAsked p t.here x e → Among (bodies (walk p)) e → IsRead (flat_expr p (index_of p) t.here e)
  read-asked t x e at in_ a there =
      read t e at (among-flat expressions_of t.here.from.sections x e in_ a.stands)
      (none-at t (unknown_in p t.here e) at
      (among-right (map (unknown_argument p t.caller) t.given) (flat_map (unknown_in_section p t.here) t.here.from.sections) (unknown_in p t.here e)
      (among-flat (unknown_in_section p t.here) t.here.from.sections x (unknown_in p t.here e) in_ a.asked)))
      there

  -- the bodies of sections and of DEFINEs
  body-there : (t : Stop) (x : Section) (e : Expr) → Among (walk p) t → Among t.here.from.sections x → Among (body_of x) e → Among (bodies (walk p)) e
  body-there t x e at in_ g =
      among-right (map (λ (d : FlatDefine). d.body) (flat_defines (walk p))) (flat_map (λ (s : Stop). flat_map body_of s.here.from.sections) (walk p)) e
      (among-flat (λ (s : Stop). flat_map body_of s.here.from.sections) (walk p) t e at (among-flat body_of t.here.from.sections x e in_ g))

  define-there : (w : FlatDefine) → Among (flat_defines (walk p)) w → Among (bodies (walk p)) w.body
  define-there w g =
      among-left (map (λ (d : FlatDefine). d.body) (flat_defines (walk p))) (flat_map (λ (s : Stop). flat_map body_of s.here.from.sections) (walk p)) w.body
      (among-map (λ (d : FlatDefine). d.body) (flat_defines (walk p)) w g)

  -- ---- conditions

  pub condition-read : (k : CondKind) (e : Expr) → Among (conds p (index_of p) (walk p) k) e → IsRead e
  condition-read k e g =
      let t = from-flat (λ (s : Stop). map (flat_expr p (index_of p) s.here) (flat_map (cond_of k) s.here.from.sections)) (walk p) e g in
      let b = from-map (flat_expr p (index_of p) t.0.here) (flat_map (cond_of k) t.0.here.from.sections) e t.2 in
      let x = from-flat (cond_of k) t.0.here.from.sections b.0 b.1 in
      let a = condition-asked p t.0.here k x.0 b.0 x.2 in
      subst IsRead b.2 (read-asked t.0 x.0 b.0 t.1 x.1 a.0 (body-there t.0 x.0 b.0 t.1 x.1 a.1))

  -- ---- DEFINEs

  -- of an argument, which the caller reads
  argument-read : (t : Stop) (w : FlatDefine) → Among (walk p) t → Among (flat_map (define_of_argument t) (zip t.here.from.formals t.given)) w → Among (flat_defines (walk p)) w → IsRead (flat_expr p (index_of p) w.reader w.body)
  argument-read t w at g there =
      let a = from-flat (define_of_argument t) (zip t.here.from.formals t.given) w g in
      let e : Expr = a.0.1 in
      let is = argument-by (path_of e) (record { name = t.here.name ++ a.0.0.name ∷ []; body = e; place = e.place; reader = t.caller }) w a.2 in
      let given : Among t.given e = among-zip t.here.from.formals t.given a.0 a.1 in
      let s = visited p f whole t at in
      let none : unknown_in p t.caller e ≡ None =
      argument-none p t.caller e is.0
      (none-at t (unknown_argument p t.caller e) at
      (among-left (map (unknown_argument p t.caller) t.given) (flat_map (unknown_in_section p t.here) t.here.from.sections) (unknown_argument p t.caller e) (among-map (unknown_argument p t.caller) t.given e given))) in
      let body : e ≡ w.body = ap (λ (w : FlatDefine). w.body) is.1 in
      let by-caller : IsRead (flat_expr p (index_of p) s.caller.here e) =
      read s.caller e s.calling (subst (λ (y : Instance). Among (module_expressions y.from) e) (sym s.calls) (s.given e given))
      (subst (λ (y : Instance). unknown_in p y e ≡ None) (sym s.calls) none)
      (subst (λ (e : Expr). Among (bodies (walk p)) e) (sym body) (define-there w there)) in
      subst (λ (w : FlatDefine). IsRead (flat_expr p (index_of p) w.reader w.body)) is.1 (subst (λ (y : Instance). IsRead (flat_expr p (index_of p) y e)) s.calls by-caller)

  -- of a section
  own-read : (t : Stop) (w : FlatDefine) → Among (walk p) t → Among (flat_map (define_of t.here) t.here.from.sections) w → Among (flat_defines (walk p)) w → IsRead (flat_expr p (index_of p) w.reader w.body)
  own-read t w at g there =
      let x = from-flat (define_of t.here) t.here.from.sections w g in
      let a = define-asked p t.here x.0 w x.2 in
      subst (λ (y : Instance). IsRead (flat_expr p (index_of p) y w.body)) a.1 (read-asked t x.0 w.body at x.1 a.0 (define-there w there))

  pub define-read : (w : FlatDefine) → Among (flat_defines (walk p)) w → IsRead (flat_expr p (index_of p) w.reader w.body)
  define-read w g =
      let t = from-flat defines_at (walk p) w g in
      elim (among-split (flat_map (define_of_argument t.0) (zip t.0.here.from.formals t.0.given)) (flat_map (define_of t.0.here) t.0.here.from.sections) w t.2) [
        | inl a ↦ argument-read t.0 w t.1 a g
        | inr b ↦ own-read t.0 w t.1 b g
      ]

  -- ---- assignments

  -- An assignment of the model: its variable is there, and its body is read.
  pub record IsAssignment (b : Assign) : Type 0 where
    pub variable : nat_lt b.var (length (flat_model p).vars) ≡ true
    pub body : IsRead b.body

  -- a target names what is there
  target-there : (t : Stop) (e : Expr) → Among (walk p) t → IsThereIf p (target_of p t.here e)
  target-there t e at = by (path_of e)
    where
      by : (o : Option Dotted) → IsThereIf p (elim o [ Some path ↦ named p t.here path | None ↦ None ])
      by None = tt
      by (Some path) = path-there p f whole t at path

  -- what becomes of an assignment, by its target
  assignment-by : (o : Option Thing) (e : Expr) (place : Span) (b : Assign) → IsThereIf p o → IsRead e
      → Among (elim o [
        | Some t ↦ elim t [ variable d ↦ record { var = place_in (index_of p).vars d; body = e; place = place } ∷ [] | define d ↦ [] | instance d n ↦ [] | symbol i ↦ [] ]
        | None ↦ []
      ]) b
      → IsAssignment b
  assignment-by None e place b there r g = absurd g
  assignment-by (Some (variable d)) e place b there r (inl is) =
      let made : IsAssignment (record { var = place_in (index_of p).vars d; body = e; place = place }) = record { variable = (flats p f h).variables d there; body = r } in
      subst IsAssignment is made
  assignment-by (Some (variable d)) e place b there r (inr g) = absurd g
  assignment-by (Some (define d)) e place b there r g = absurd g
  assignment-by (Some (instance d n)) e place b there r g = absurd g
  assignment-by (Some (symbol i)) e place b there r g = absurd g

  -- an assignment of a section
  section-assignment : (t : Stop) (x : Section) (a : Assignment) (b : Assign) → Among (walk p) t → Among t.here.from.sections x → IsAssigned p t.here x a → Among (flat_assign p (index_of p) a) b → IsAssignment b
  section-assignment t x a b at in_ is g =
      assignment-by a.target (flat_expr p (index_of p) a.reader a.body) a.place b
      (subst (IsThereIf p) is.names (target-there t is.target at))
      (subst (λ (y : Instance). IsRead (flat_expr p (index_of p) y a.body)) is.reader (read-asked t x a.body at in_ is.body (body-there t x a.body at in_ is.stands)))
      g

  pub assignment-read : (k : When) (b : Assign) → Among (assigns p (index_of p) (walk p) k) b → IsAssignment b
  assignment-read k b g =
      let a = from-flat (flat_assign p (index_of p)) (filter (λ (a : Assignment). same_when k a.when) (assignments p (walk p))) b g in
      let t = from-flat (λ (s : Stop). flat_map (assign_of p s.here) s.here.from.sections) (walk p) a.0 (from-filter (λ (a : Assignment). same_when k a.when) (assignments p (walk p)) a.0 a.1) in
      let x = from-flat (assign_of p t.0.here) t.0.here.from.sections a.0 t.2 in
      section-assignment t.0 x.0 a.0 b t.1 x.1 (assignment-asked p t.0.here x.0 a.0 x.2) a.2
