-- What a path names in an instance of the flat walk is there.
use Rattle.std.proofs.Common.{◌≡◌, ℕ, inl, inr, Bool, true, false, cond, ◌==◌, List, [], ◌∷◌, ◌++◌, map, fold, Option, Some, None, is_some, option_map, unwrap_or, refl, sym, ap, subst, ◌∙◌}
use Rattle.std.specs.List.{flat_map, zip}
use Rattle.cov_syntax.specs.declared.program.Spelled.{Spelled}
use Rattle.cov_syntax.specs.declared.program.TypeTree.TheVariants as type
use Rattle.cov_syntax.specs.declared.program.Section.{Section}
use Rattle.cov_syntax.specs.declared.program.Section.TheVariants as section
use Rattle.cov_syntax.specs.declared.program.ModuleTree.{ModuleTree}
use Rattle.cov_syntax.specs.declared.program.Program.{Program}
use Rattle.cov_syntax.specs.declared.tree.Expr.{Expr}
use Rattle.cov_modules.specs.Names.{Dotted, has, first}
use Rattle.cov_modules.specs.Modules.{module_named, Declaration, instance_of, symbols}
use Rattle.cov_modules.specs.Things.{Thing, variable, define, instance, symbol, declares, own, formal, known_symbol, first_part, further_part, named, path_of}
use Rattle.cov_modules.specs.Walk.{arguments, Stop, walk}
use Rattle.cov_modules.specs.FlatLists.{FlatVar, var_of, flat_vars, FlatDefine, define_of_argument, define_of, defines_at, flat_defines, index_of}
use Rattle.cov_modules.proofs.NameLemmas.{same-number}
use Rattle.cov_flatness.proofs.Among.{Among, among-left, among-right, among-flat, among-map, from-map}
use Rattle.cov_flatness.proofs.Walking.{made, below-made, IsWhole}

-- a variable or a DEFINE is among the flat names, an instance is a stop of the walk, and a symbol stands in the file
abbrev pub IsThere : Program → Thing → Type 0
IsThere p (variable d) = Among (index_of p).vars d
IsThere p (define d) = Among (index_of p).defs d
IsThere p (instance at m) = (t : Stop) × Among (walk p) t × (t.here.name ≡ at) × (t.here.from ≡ m)
IsThere p (symbol i) = has (symbols p) i ≡ true

-- it is there, if it is one
abbrev pub IsThereIf : Program → Option Thing → Type 0
IsThereIf p None = Unit {0}
IsThereIf p (Some t) = IsThere p t

-- each formal stands for what is there, if it is one
abbrev pub AreThere : Program → List (ℕ × Option Thing) → Type 0
AreThere p [] = Unit {0}
AreThere p (f ∷ fs) = IsThereIf p f.1 × AreThere p fs

-- the first of some that are there
first-there : (p : Program) (os : List (Option Thing)) → ((o : Option Thing) → Among os o → IsThereIf p o) → IsThereIf p (first os)
first-there p [] h = tt
first-there p (None ∷ os) h = first-there p os (λ o g. h o (inr g))
first-there p (Some x ∷ os) h = h (Some x) (inl refl)

-- by a test
by-test : (p : Program) (b : Bool) (o : Option Thing) → (b ≡ true → IsThereIf p o) → IsThereIf p (cond b o None)
by-test p true o h = h refl
by-test p false o h = tt

-- one that stands in place of another
by-formal : (p : Program) (b : Bool) (o r : Option Thing) (rest : Option (Option Thing)) → IsThereIf p o → IsThereIf p (unwrap_or rest r) → IsThereIf p (unwrap_or (cond b (Some o) rest) r)
by-formal p true o r rest h g = h
by-formal p false o r rest h g = g

-- what the formal of a name stands for, or else another
formal-there : (p : Program) (fs : List (ℕ × Option Thing)) (i : ℕ) (o : Option Thing) → AreThere p fs → IsThereIf p o → IsThereIf p (unwrap_or (formal fs i) o)
formal-there p [] i o h g = g
formal-there p (f ∷ fs) i o h g = by-formal p (f.0 == i) f.1 o (formal fs i) h.0 (formal-there p fs i o h.1 g)

module _ (p : Program) (whole : IsWhole p (walk p)) where
  module _ (t : Stop) (at : Among (walk p) t) where
    -- the variables and DEFINEs of a section
    variable-among : (x : Section) (v : FlatVar) → Among t.here.from.sections x → Among (var_of t.here.name x) v → Among (index_of p).vars v.name
    variable-among x v h g =
        among-map (λ (v : FlatVar). v.name) (flat_vars (walk p)) v
        (among-flat (λ (s : Stop). flat_map (var_of s.here.name) s.here.from.sections) (walk p) t v at (among-flat (var_of t.here.name) t.here.from.sections x v h g))

    define-among : (v : FlatDefine) → Among (defines_at t) v → Among (index_of p).defs v.name
    define-among v h = among-map (λ (v : FlatDefine). v.name) (flat_defines (walk p)) v (among-flat defines_at (walk p) t v at h)

    own-define-among : (x : Section) (v : FlatDefine) → Among t.here.from.sections x → Among (define_of t.here x) v → Among (index_of p).defs v.name
    own-define-among x v h g =
        define-among v (among-right (flat_map (define_of_argument t) (zip t.here.from.formals t.given)) (flat_map (define_of t.here) t.here.from.sections) v
        (among-flat (define_of t.here) t.here.from.sections x v h g))

    -- the instance of a section, by its module
    instance-there : (d : Declaration) (i : ℕ) (o : Option ModuleTree) → module_named p d.from.name ≡ o → Among (flat_map instance_of t.here.from.sections) d → d.name.name ≡ i
        → IsThereIf p (option_map (λ (m : ModuleTree). instance (t.here.name ++ i ∷ []) m) o)
    instance-there d i None e h same = tt
    instance-there d i (Some m) e h same = (made p t.here d m, whole.closed t (made p t.here d m) at (below-made p t d m h e), ap (λ (j : ℕ). t.here.name ++ j ∷ []) same, refl)

    -- a variable of a section, by its name
    variable-there : (x : Section) (v : FlatVar) (n i : ℕ) → Among t.here.from.sections x → Among (var_of t.here.name x) v → v.name ≡ t.here.name ++ n ∷ []
        → IsThereIf p (cond (n == i) (Some (variable (t.here.name ++ i ∷ []))) None)
    variable-there x v n i h g is =
        by-test p (n == i) (Some (variable (t.here.name ++ i ∷ [])))
        (λ e. subst (λ (d : Dotted). Among (index_of p).vars d) (is ∙ ap (λ (j : ℕ). t.here.name ++ j ∷ []) (same-number n i e)) (variable-among x v h g))

    -- what a section declares
    declares-there : (i : ℕ) (x : Section) → Among t.here.from.sections x → IsThereIf p (declares p t.here.name i x)
    declares-there i (section.Decl name (type.Instance from given) place) h =
        let d : Declaration = record { name = name; from = from; given = given } in
        by-test p (name.name == i) (option_map (λ (m : ModuleTree). instance (t.here.name ++ i ∷ []) m) (module_named p from.name))
        (λ e. instance-there d i (module_named p from.name) refl
        (among-flat instance_of t.here.from.sections (section.Decl name (type.Instance from given) place) d h (inl refl))
        (same-number name.name i e))
    declares-there i (section.Decl name type.Boolean place) h = variable-there (section.Decl name type.Boolean place) _ name.name i h (inl refl) refl
    declares-there i (section.Decl name (type.List values) place) h = variable-there (section.Decl name (type.List values) place) _ name.name i h (inl refl) refl
    declares-there i (section.Decl name (type.Between low high) place) h = variable-there (section.Decl name (type.Between low high) place) _ name.name i h (inl refl) refl
    declares-there i (section.Define name body) h =
        by-test p (name.name == i) (Some (define (t.here.name ++ i ∷ [])))
        (λ e. subst (λ (d : Dotted). Among (index_of p).defs d) (ap (λ (j : ℕ). t.here.name ++ j ∷ []) (same-number name.name i e)) (own-define-among (section.Define name body) _ h (inl refl)))
    declares-there i (section.Assign when target body) h = tt
    declares-there i (section.Cond kind body) h = tt

    -- what the module of a stop declares
    own-there : (i : ℕ) → IsThereIf p (own p t.here.name t.here.from i)
    own-there i = first-there p (map (declares p t.here.name i) t.here.from.sections)
        (λ o g. let r = from-map (declares p t.here.name i) t.here.from.sections o g in subst (IsThereIf p) r.2 (declares-there i r.0 r.1))

    -- a symbol that is known
    symbol-there : (i : ℕ) → IsThereIf p (known_symbol p i)
    symbol-there i = by-test p (has (symbols p) i) (Some (symbol i)) (λ e. e)

    -- the first part of a path
    first-part-there : AreThere p t.here.formals → (i : ℕ) → IsThereIf p (first_part p t.here i)
    first-part-there formals i =
        formal-there p t.here.formals i (first (own p t.here.name t.here.from i ∷ known_symbol p i ∷ [])) formals
        (first-there p (own p t.here.name t.here.from i ∷ known_symbol p i ∷ []) (λ o g. elim g [
          | inl e ↦ subst (IsThereIf p) e (own-there i)
          | inr g' ↦ elim g' [ inl e ↦ subst (IsThereIf p) e (symbol-there i) | inr n ↦ absurd n ]
        ]))

  -- a further part
  further-there : (o : Option Thing) (i : ℕ) → IsThereIf p o → IsThereIf p (further_part p o i)
  further-there None i h = tt
  further-there (Some (variable d)) i h = tt
  further-there (Some (define d)) i h = tt
  further-there (Some (instance at m)) i h =
      subst (λ (n : ModuleTree). IsThereIf p (own p at n i)) h.3 (subst (λ (d : Dotted). IsThereIf p (own p d h.0.here.from i)) h.2 (own-there h.0 h.1 i))
  further-there (Some (symbol j)) i h = tt

  parts-there : (is : Dotted) (o : Option Thing) → IsThereIf p o → IsThereIf p (fold (further_part p) o is)
  parts-there [] o h = h
  parts-there (i ∷ is) o h = parts-there is (further_part p o i) (further-there o i h)

  -- what a path names in a stop whose formals stand for what is there
  pub named-there : (t : Stop) → Among (walk p) t → AreThere p t.here.formals → (path : Dotted) → IsThereIf p (named p t.here path)
  named-there t at formals [] = tt
  named-there t at formals (i ∷ is) = parts-there is (first_part p t.here i) (first-part-there t at formals i)

  -- ---- the formals of a stop below another

  module _ (s : Stop) (at : Among (walk p) s) (formals : AreThere p s.here.formals) (d : Declaration) (m : ModuleTree) (below : Among (walk p) (made p s.here d m)) where
    argument-there : (f : Spelled) (e : Expr) (o : Option Dotted) → path_of e ≡ o → Among (zip m.formals d.given) (f, e)
        → IsThereIf p (elim o [ Some path ↦ named p s.here path | None ↦ Some (define ((s.here.name ++ d.name.name ∷ []) ++ f.name ∷ [])) ])
    argument-there f e (Some path) is h = named-there s at formals path
    argument-there f e None is h =
        let t : Stop = made p s.here d m in
        let v : FlatDefine = record { name = (s.here.name ++ d.name.name ∷ []) ++ f.name ∷ []; body = e; place = e.place; reader = s.here } in
        let alone : Among (cond (is_some (path_of e)) [] (v ∷ [])) v = subst (λ (o : Option Dotted). Among (cond (is_some o) [] (v ∷ [])) v) (sym is) (inl refl) in
        define-among t below v (among-left (flat_map (define_of_argument t) (zip m.formals d.given)) (flat_map (define_of t.here) m.sections) v
        (among-flat (define_of_argument t) (zip m.formals d.given) (f, e) v h alone))

    arguments-there : (fs : List Spelled) (es : List Expr) → ((a : Spelled × Expr) → Among (zip fs es) a → Among (zip m.formals d.given) a) → AreThere p (arguments p s.here (s.here.name ++ d.name.name ∷ []) fs es)
    arguments-there [] es within = tt
    arguments-there (f ∷ fs) [] within = tt
    arguments-there (f ∷ fs) (e ∷ es) within = (argument-there f e (path_of e) refl (within (f, e) (inl refl)), arguments-there fs es (λ a h. within a (inr h)))

    -- they stand for what is there
    pub formals-there : AreThere p (made p s.here d m).here.formals
    formals-there = arguments-there m.formals d.given (λ a h. h)
