-- What a module declares under a name, with its rank.
use Rattle.std.proofs.Common.{◌≡◌, ℕ, suc, ◌+◌, Bool, true, false, cond, ◌==◌, List, [], ◌∷◌, ◌++◌, map, slice_get, is_none, option_map, Option, Some, None, refl, ap, ◌∙◌, arith}
use Rattle.std.specs.List.{flat_map}
use Rattle.cov_syntax.specs.declared.program.TypeTree.TheVariants as type
use Rattle.cov_syntax.specs.declared.program.Section.{Section}
use Rattle.cov_syntax.specs.declared.program.Section.TheVariants as section
use Rattle.cov_syntax.specs.declared.program.Program.{Program}
use Rattle.cov_modules.specs.Names.{Dotted, first}
use Rattle.cov_modules.specs.Modules.{module_named, Declaration, instance_of}
use Rattle.cov_modules.specs.Things.{Thing, variable, define, instance, declares, Instance}
use Rattle.cov_modules.specs.FlatLists.{FlatVar, var_of, FlatDefine, define_of}
use Rattle.cov_modules.proofs.NameLemmas.{same-number}
use Rattle.cov_paths.specs.declared.item.Item.{Item}
use Rattle.cov_paths.specs.declared.item.Item.TheVariants as item
use Rattle.cov_paths.specs.Items.{behind, one_variable, one_define, one_instance, item_in}

-- the flat name of a declared name
abbrev pub flat_name : Instance → ℕ → Dotted
flat_name x i = x.name ++ i ∷ []

-- the item is the one of its rank in the lists of names, and it is the thing; no item, no thing
abbrev pub Tells : Program → Instance → ℕ → List Dotted → List Dotted → List Declaration → Option Thing → Option Item → Type 0
Tells p x i vars defs ds t None = t ≡ None
Tells p x i vars defs ds t (Some (item.Variable r)) = (slice_get vars r ≡ Some (flat_name x i)) × (t ≡ Some (variable (flat_name x i)))
Tells p x i vars defs ds t (Some (item.Define r)) = (slice_get defs r ≡ Some (flat_name x i)) × (t ≡ Some (define (flat_name x i)))
Tells p x i vars defs ds t (Some (item.Instance r)) = (d : Declaration) × (slice_get ds r ≡ Some d) × (d.name.name ≡ i)
    × (is_none (module_named p d.from.name) ≡ false → t ≡ option_map (λ m. instance (flat_name x i) m) (module_named p d.from.name))

-- the first of a list is there
first-known : {A B : Type 0} → (f : A → B) (o : Option A) (ts : List (Option B)) → is_none o ≡ false → first (option_map f o ∷ ts) ≡ option_map f o
first-known f None ts h = absurd cc
first-known f (Some a) ts h = refl

module _ (p : Program) (x : Instance) (i n : ℕ) (vars defs : List Dotted) (ds : List Declaration) (ts : List (Option Thing)) where
  -- one more variable before the others
  variable-before : (o : Option Item) (b : Bool) → (n == i) ≡ b → Tells p x i vars defs ds (first ts) o
      → Tells p x i (flat_name x n ∷ vars) defs ds (first (cond b (Some (variable (flat_name x i))) None ∷ ts)) (cond b (Some (item.Variable 0)) (behind one_variable o))
  variable-before o true e t = (ap (λ k. Some (flat_name x k)) (same-number n i e), refl)
  variable-before None false e t = t
  variable-before (Some (item.Variable r)) false e t = let next : 1 + r ≡ suc r = omega arith in (ap (slice_get (flat_name x n ∷ vars)) next ∙ t.0, t.1)
  variable-before (Some (item.Define r)) false e t = let next : 0 + r ≡ r = omega arith in (ap (slice_get defs) next ∙ t.0, t.1)
  variable-before (Some (item.Instance r)) false e t = let next : 0 + r ≡ r = omega arith in (t.0, ap (slice_get ds) next ∙ t.1, t.2, t.3)

  -- one more DEFINE before the others
  define-before : (o : Option Item) (b : Bool) → (n == i) ≡ b → Tells p x i vars defs ds (first ts) o
      → Tells p x i vars (flat_name x n ∷ defs) ds (first (cond b (Some (define (flat_name x i))) None ∷ ts)) (cond b (Some (item.Define 0)) (behind one_define o))
  define-before o true e t = (ap (λ k. Some (flat_name x k)) (same-number n i e), refl)
  define-before None false e t = t
  define-before (Some (item.Variable r)) false e t = let next : 0 + r ≡ r = omega arith in (ap (slice_get vars) next ∙ t.0, t.1)
  define-before (Some (item.Define r)) false e t = let next : 1 + r ≡ suc r = omega arith in (ap (slice_get (flat_name x n ∷ defs)) next ∙ t.0, t.1)
  define-before (Some (item.Instance r)) false e t = let next : 0 + r ≡ r = omega arith in (t.0, ap (slice_get ds) next ∙ t.1, t.2, t.3)

-- one more instance before the others
instance-before : (p : Program) (x : Instance) (i : ℕ) (vars defs : List Dotted) (d : Declaration) (ds : List Declaration) (ts : List (Option Thing))
    (o : Option Item) (b : Bool) → (d.name.name == i) ≡ b → Tells p x i vars defs ds (first ts) o
    → Tells p x i vars defs (d ∷ ds) (first (cond b (option_map (λ m. instance (flat_name x i) m) (module_named p d.from.name)) None ∷ ts)) (cond b (Some (item.Instance 0)) (behind one_instance o))
instance-before p x i vars defs d ds ts o true e t = (d, refl, same-number d.name.name i e, first-known (λ m. instance (flat_name x i) m) (module_named p d.from.name) ts)
instance-before p x i vars defs d ds ts None false e t = t
instance-before p x i vars defs d ds ts (Some (item.Variable r)) false e t = let next : 0 + r ≡ r = omega arith in (ap (slice_get vars) next ∙ t.0, t.1)
instance-before p x i vars defs d ds ts (Some (item.Define r)) false e t = let next : 0 + r ≡ r = omega arith in (ap (slice_get defs) next ∙ t.0, t.1)
instance-before p x i vars defs d ds ts (Some (item.Instance r)) false e t = let next : 1 + r ≡ suc r = omega arith in (t.0, ap (slice_get (d ∷ ds)) next ∙ t.1, t.2, t.3)

module _ (p : Program) (x : Instance) (i : ℕ) where
  abbrev var_names : List Section → List Dotted
  var_names ss = map (λ (v : FlatVar). v.name) (flat_map (var_of x.name) ss)

  abbrev define_names : List Section → List Dotted
  define_names ss = map (λ (d : FlatDefine). d.name) (flat_map (define_of x) ss)

  -- the item that sections declare under a name
  pub declared-item : (ss : List Section)
      → Tells p x i (map (λ (v : FlatVar). v.name) (flat_map (var_of x.name) ss)) (map (λ (d : FlatDefine). d.name) (flat_map (define_of x) ss)) (flat_map instance_of ss) (first (map (declares p x.name i) ss)) (item_in ss i)
  declared-item [] = refl
  declared-item (section.Decl name type.Boolean place ∷ ss) =
      variable-before p x i name.name (var_names ss) (define_names ss) (flat_map instance_of ss) (map (declares p x.name i) ss) (item_in ss i) (name.name == i) refl (declared-item ss)
  declared-item (section.Decl name (type.List values) place ∷ ss) =
      variable-before p x i name.name (var_names ss) (define_names ss) (flat_map instance_of ss) (map (declares p x.name i) ss) (item_in ss i) (name.name == i) refl (declared-item ss)
  declared-item (section.Decl name (type.Between low high) place ∷ ss) =
      variable-before p x i name.name (var_names ss) (define_names ss) (flat_map instance_of ss) (map (declares p x.name i) ss) (item_in ss i) (name.name == i) refl (declared-item ss)
  declared-item (section.Decl name (type.Instance from given) place ∷ ss) =
      instance-before p x i (var_names ss) (define_names ss) (record { name = name; from = from; given = given }) (flat_map instance_of ss) (map (declares p x.name i) ss) (item_in ss i) (name.name == i) refl (declared-item ss)
  declared-item (section.Define name body ∷ ss) =
      define-before p x i name.name (var_names ss) (define_names ss) (flat_map instance_of ss) (map (declares p x.name i) ss) (item_in ss i) (name.name == i) refl (declared-item ss)
  declared-item (section.Assign when target body ∷ ss) = declared-item ss
  declared-item (section.Cond kind body ∷ ss) = declared-item ss
