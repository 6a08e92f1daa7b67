-- What is known of each stop of the flat walk.
use Rattle.std.proofs.Common.{◌≡◌, ℕ, inl, inr, true, ◌==◌, nat_lt, List, [], ◌∷◌, ◌++◌, map, length, refl, sym, ap, subst}
use Rattle.std.specs.List.{list_all, flat_map}
use Rattle.cov_syntax.specs.declared.program.Spelled.{Spelled}
use Rattle.cov_syntax.specs.declared.program.TypeTree.TheVariants as type
use Rattle.cov_syntax.specs.declared.program.Section.{Section}
use Rattle.cov_syntax.specs.declared.program.Section.TheVariants as section
use Rattle.cov_syntax.specs.declared.program.ModuleTree.{ModuleTree}
use Rattle.cov_syntax.specs.declared.program.Program.{Program}
use Rattle.cov_syntax.specs.declared.tree.Expr.{Expr}
use Rattle.cov_modules.specs.Names.{Dotted, has}
use Rattle.cov_modules.specs.Modules.{declared, Declaration, instance_of, instances, symbols_of, module_symbols, symbols}
use Rattle.cov_modules.specs.Things.{named}
use Rattle.cov_modules.specs.Walk.{Stop, stops_below, root, walk}
use Rattle.cov_modules.specs.Conditions.{expressions_of, module_expressions, cited, names_cited, is_unflat, IsFlattenable}
use Rattle.cov_modules.specs.ModuleFaults.{names_of}
use Rattle.cov_modules.proofs.NameLemmas.{same-number}
use Rattle.cov_modules.proofs.HasLemmas.{or-split}
use Rattle.cov_flatness.proofs.Among.{Among, among-left, among-right, among-split, among-flat, from-flat, among-map, among-found, each-passes}
use Rattle.cov_flatness.proofs.Walking.{made, from-below, walk-begins, walk-holds, IsWhole}
use Rattle.cov_flatness.proofs.ThereLemmas.{IsThereIf, AreThere, named-there, formals-there}
use Rattle.cov_flatness.proofs.Citing.{AreNamed}

-- a name that stands in a list of names
among-has : (xs : List ℕ) (i : ℕ) → has xs i ≡ true → Among xs i
among-has [] i h = absurd cc
among-has (x ∷ xs) i h = elim (or-split (x == i) (has xs i) h) [ inl e ↦ inl (same-number x i e) | inr g ↦ inr (among-has xs i g) ]

-- names of a front and of a rest
pub named-both : (p : Program) (is js : List ℕ) → AreNamed p is → AreNamed p js → AreNamed p (is ++ js)
named-both p is js h g i a = elim (among-split is js i a) [ inl b ↦ h i b | inr c ↦ g i c ]

-- an instance is declared
instance-declared : (x : Section) (d : Declaration) → Among (instance_of x) d → Among (declared x) d.name
instance-declared (section.Decl name (type.Instance from given) place) d (inl e) = inl (ap (λ (d : Declaration). d.name) e)
instance-declared (section.Decl name (type.Instance from given) place) d (inr h) = absurd h
instance-declared (section.Decl name type.Boolean place) d h = absurd h
instance-declared (section.Decl name (type.List values) place) d h = absurd h
instance-declared (section.Decl name (type.Between low high) place) d h = absurd h
instance-declared (section.Define name body) d h = absurd h
instance-declared (section.Assign when target body) d h = absurd h
instance-declared (section.Cond kind body) d h = absurd h

-- its arguments stand in its section
arguments-stand : (x : Section) (d : Declaration) → Among (instance_of x) d → (e : Expr) → Among d.given e → Among (expressions_of x) e
arguments-stand (section.Decl name (type.Instance from given) place) d (inl is) e h = subst (λ (d : Declaration). Among d.given e) (sym is) h
arguments-stand (section.Decl name (type.Instance from given) place) d (inr g) e h = absurd g
arguments-stand (section.Decl name type.Boolean place) d g e h = absurd g
arguments-stand (section.Decl name (type.List values) place) d g e h = absurd g
arguments-stand (section.Decl name (type.Between low high) place) d g e h = absurd g
arguments-stand (section.Define name body) d g e h = absurd g
arguments-stand (section.Assign when target body) d g e h = absurd g
arguments-stand (section.Cond kind body) d g e h = absurd g

-- ---- what is known of each module

module _ (p : Program) (f : IsFlattenable p) (m : ModuleTree) (at : Among p.modules m) where
  abbrev cited-names : List ℕ
  cited-names = map (λ (x : Spelled). x.name) (m.name ∷ m.formals ++ flat_map declared m.sections)

  abbrev cited-modules : List ℕ
  cited-modules = map (λ (d : Declaration). d.from.name) (instances m)

  all-named : AreNamed p (names_cited m)
  all-named i h =
      each-passes (λ (i : ℕ). nat_lt i (length p.names)) (names_cited m) i
      (each-passes (λ (m : ModuleTree). list_all (λ (i : ℕ). nat_lt i (length p.names)) (names_cited m)) p.modules m f.cited_there at) h

  -- its formals and what it declares are names
  pub name-named : (x : Spelled) → Among (names_of m) x → nat_lt x.name (length p.names) ≡ true
  name-named x h =
      all-named x.name
      (among-left (cited-names ++ cited-modules ++ flat_map symbols_of m.sections) (flat_map cited (module_expressions m)) x.name
      (among-left (cited-names ++ cited-modules) (flat_map symbols_of m.sections) x.name
      (among-left cited-names cited-modules x.name
      (among-map (λ (x : Spelled). x.name) (m.name ∷ m.formals ++ flat_map declared m.sections) x (inr h)))))

  -- its symbols are names
  pub symbols-named : AreNamed p (flat_map symbols_of m.sections)
  symbols-named i h =
      all-named i
      (among-left (cited-names ++ cited-modules ++ flat_map symbols_of m.sections) (flat_map cited (module_expressions m)) i
      (among-right (cited-names ++ cited-modules) (flat_map symbols_of m.sections) i h))

  -- its expressions cite names
  pub cited-named : (e : Expr) → Among (module_expressions m) e → AreNamed p (cited e)
  cited-named e h i g =
      all-named i
      (among-right (cited-names ++ cited-modules ++ flat_map symbols_of m.sections) (flat_map cited (module_expressions m)) i
      (among-flat cited (module_expressions m) e i h g))

  -- its expressions have the form that they have before flattening
  pub expression-unflat : (e : Expr) → Among (module_expressions m) e → is_unflat e ≡ true
  expression-unflat e h =
      each-passes is_unflat (module_expressions m) e (each-passes (λ (m : ModuleTree). list_all is_unflat (module_expressions m)) p.modules m f.unflat at) h

-- the symbols of the file are names
pub symbol-named : (p : Program) → IsFlattenable p → (i : ℕ) → has (symbols p) i ≡ true → nat_lt i (length p.names) ≡ true
symbol-named p f i h = let r = from-flat module_symbols p.modules i (among-has (symbols p) i h) in symbols-named p f r.0 r.1 i r.2

-- ---- the stops

-- A stop: its module and its caller are there, its arguments stand in its caller's module, its name has names as parts, and its formals stand for what is there.
pub record IsVisited (p : Program) (s : Stop) : Type 0 where
  pub from : Among p.modules s.here.from
  pub caller : Stop
  pub calling : Among (walk p) caller
  pub calls : caller.here ≡ s.caller
  pub given : (e : Expr) → Among s.given e → Among (module_expressions s.caller.from) e
  pub parts : AreNamed p s.here.name
  pub formals : AreThere p s.here.formals

module _ (p : Program) (f : IsFlattenable p) (whole : IsWhole p (walk p)) where
  abbrev Visited : Stop → Type 0
  Visited s = Among (walk p) s × IsVisited p s

  -- the stop that a declaration makes
  made-visited : (s : Stop) (b : Declaration) (m : ModuleTree) → Among (walk p) s → IsVisited p s → Among (instances s.here.from) b → Among p.modules m → Among (walk p) (made p s.here b m) → IsVisited p (made p s.here b m)
  made-visited s b m at v declared' from below =
      let r = from-flat instance_of s.here.from.sections b declared' in
      record {
        from = from;
        caller = s;
        calling = at;
        calls = refl;
        given = λ e h. among-flat expressions_of s.here.from.sections r.0 e r.1 (arguments-stand r.0 b r.2 e h);
        parts = named-both p s.here.name (b.name.name ∷ []) v.parts (λ i h. elim h [
          | inl e ↦ subst (λ (j : ℕ). nat_lt j (length p.names) ≡ true) e
              (name-named p f s.here.from v.from b.name
              (among-right s.here.from.formals (flat_map declared s.here.from.sections) b.name (among-flat declared s.here.from.sections r.0 b.name r.1 (instance-declared r.0 b r.2))))
          | inr n ↦ absurd n
        ]);
        formals = formals-there p whole s at v.formals b m below;
      }

  step : (s t : Stop) → Visited s → Among (stops_below p s) t → Visited t
  step s t v h =
      let b = from-below p s t h in
      let at : Among (walk p) t = whole.closed s t v.0 h in
      let there : Among (walk p) (made p s.here b.declaration b.tree) = subst (λ (u : Stop). Among (walk p) u) (sym b.is) at in
      (at, subst (IsVisited p) b.is (made-visited s b.declaration b.tree v.0 v.1 b.declared (among-found (λ (m : ModuleTree). m.name.name == b.declaration.from.name) p.modules b.tree b.found) there))

  abbrev start : Stop
  start = root whole.main

  start-there : Among (walk p) start
  start-there = subst (λ (w : List Stop). Among w start) (sym whole.is) (walk-begins p (length p.modules) start)

  start-visited : Visited start
  start-visited = (
    start-there,
    record {
      from = whole.there;
      caller = start;
      calling = start-there;
      calls = refl;
      given = λ e h. absurd h;
      parts = λ i h. absurd h;
      formals = tt;
    },
  )

  -- each stop of the walk
  pub visited : (s : Stop) → Among (walk p) s → IsVisited p s
  visited s h = (walk-holds p Visited step (length p.modules) start s start-visited (subst (λ (w : List Stop). Among w s) whole.is h)).1

  -- what a path names in it is there
  pub path-there : (s : Stop) → Among (walk p) s → (path : Dotted) → IsThereIf p (named p s.here path)
  path-there s h path = named-there p whole s h (visited s h).formals path
