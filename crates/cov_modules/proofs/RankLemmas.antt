-- Ranks that never rise tell which modules hold which not.
use Rattle.std.proofs.Common.{◌≡◌, ℕ, zero, suc, ◌<◌, ◌≤◌, inl, inr, Bool, true, false, cond, ◌&&◌, ◌==◌, nat_le, List, [], ◌∷◌, find, Option, Some, None, refl, ap, subst, ◌∙◌, arith}
use Rattle.std.specs.List.{list_any, list_all}
use Rattle.std.specs.Option.{option_map_or}
use Rattle.std.proofs.lemmas.Bool.Decides.{nat_tests}
use Rattle.cov_syntax.specs.declared.program.ModuleTree.{ModuleTree}
use Rattle.cov_syntax.specs.declared.program.Program.{Program}
use Rattle.cov_modules.specs.Names.{place_of}
use Rattle.cov_modules.specs.Modules.{module_names, module_named, Declaration, instances}
use Rattle.cov_modules.specs.ModuleFaults.{instances_in, holds_module}
use Rattle.cov_modules.specs.Ranks.{rank_at, rank_of, is_at_most, never_rises_in, never_rises}
use Rattle.cov_modules.proofs.NameLemmas.{same-number}
use Rattle.cov_modules.proofs.HasLemmas.{or-split}

-- both tests are true
and-both : (a b : Bool) → (a && b) ≡ true → (a ≡ true) × (b ≡ true)
and-both true b h = (refl, h)
and-both false b h = absurd cc

-- a test of numbers
at-most : (a b : ℕ) → nat_le a b ≡ true → a ≤ b
at-most a b h = grind (arith, nat_tests)

-- without ranks each is 0
no-rank : (o : Option ℕ) → rank_at [] o ≡ 0
no-rank (Some k) = refl
no-rank None = refl

-- so the ranks of a list of declarations do not rise
flat-in : (names : List ℕ) (i : ℕ) (ds : List Declaration) → list_all (is_at_most names [] (rank_of names [] i)) ds ≡ true
flat-in names i [] = refl
flat-in names i (d ∷ ds) =
    ap (λ a. nat_le a (rank_of names [] i) && list_all (is_at_most names [] (rank_of names [] i)) ds) (no-rank (place_of names d.from.name))
    ∙ ap (λ b. nat_le 0 b && list_all (is_at_most names [] (rank_of names [] i)) ds) (no-rank (place_of names i))
    ∙ flat-in names i ds

-- nor those of a list of modules
flat-all : (names : List ℕ) (ms : List ModuleTree) → list_all (never_rises_in names []) ms ≡ true
flat-all names [] = refl
flat-all names (m ∷ ms) = ap (λ b. b && list_all (never_rises_in names []) ms) (flat-in names m.name.name (instances m)) ∙ flat-all names ms

-- no ranks never rise
pub never_rises-none : (p : Program) → never_rises p [] ≡ true
never_rises-none p = flat-all (module_names p) p.modules

-- what holds of each item holds of one that is found, and it passes the test
found-all : {A : Type 0} → (f t : A → Bool) (xs : List A) (x : A) → list_all f xs ≡ true → Some x ≡ find t xs → (f x ≡ true) × (t x ≡ true)
found-all f t [] x all e = absurd cc
found-all f t (y ∷ ys) x all e = let parts = and-both (f y) (list_all f ys) all in found-by f t y x (t y) refl (find t ys) parts.0 (found-all f t ys x parts.1) e
  where
    found-by : {A : Type 0} → (f t : A → Bool) (y x : A) (b : Bool) → t y ≡ b → (o : Option A) → f y ≡ true → (Some x ≡ o → (f x ≡ true) × (t x ≡ true)) → Some x ≡ cond b (Some y) o → (f x ≡ true) × (t x ≡ true)
    found-by f t y x true is o here there e = let same : x ≡ y = cc in (ap f same ∙ here, ap t same ∙ is)
    found-by f t y x false is o here there e = there e

module _ (p : Program) (ranks : List ℕ) (never : never_rises p ranks ≡ true) where
  rank : ℕ → ℕ
  rank i = rank_of (module_names p) ranks i

  -- the instances of a module have no greater rank
  below-by : (a : ℕ) (o : Option ModuleTree) → o ≡ module_named p a → list_all (is_at_most (module_names p) ranks (rank a)) (option_map_or instances o []) ≡ true
  unfolding rank
  below-by a None e = refl
  below-by a (Some m) e =
      let found = found-all (never_rises_in (module_names p) ranks) (λ (m : ModuleTree). m.name.name == a) p.modules m never e in
      subst (λ i. list_all (is_at_most (module_names p) ranks (rank_of (module_names p) ranks i)) (instances m) ≡ true) (same-number m.name.name a found.1) found.0

  -- through one of the declarations
  through : (k b r : ℕ) → ((a : ℕ) → holds_module p k a b ≡ true → rank b ≤ rank a) → (ds : List Declaration)
      → list_all (is_at_most (module_names p) ranks r) ds ≡ true → list_any (λ (d : Declaration). holds_module p k d.from.name b) ds ≡ true → rank b ≤ r
  unfolding rank
  through k b r further [] all any = absurd cc
  through k b r further (d ∷ ds) all any =
      let parts = and-both (is_at_most (module_names p) ranks r d) (list_all (is_at_most (module_names p) ranks r) ds) all in
      elim (or-split (holds_module p k d.from.name b) (list_any (λ (d : Declaration). holds_module p k d.from.name b) ds) any) [
        | inl h ↦ (let low = further d.from.name h in let high = at-most (rank_of (module_names p) ranks d.from.name) r parts.0 in omega arith)
        | inr rest ↦ through k b r further ds parts.1 rest
      ]

  -- a module holds none of a greater rank
  holds-rank : (k a b : ℕ) → holds_module p k a b ≡ true → rank b ≤ rank a
  holds-rank zero a b h = subst (λ x. rank x ≤ rank a) (same-number a b h) (omega arith)
  holds-rank (suc k) a b h = elim (or-split (a == b) (list_any (λ (d : Declaration). holds_module p k d.from.name b) (instances_in p a)) h) [
    | inl e ↦ subst (λ x. rank x ≤ rank a) (same-number a b e) (omega arith)
    | inr any ↦ through k b (rank a) (λ c. holds-rank k c b) (instances_in p a) (below-by a (module_named p a) refl) any
  ]

  -- so none where the rank is less
  pub less-holds-none : (k a b : ℕ) → rank_of (module_names p) ranks a < rank_of (module_names p) ranks b → false ≡ holds_module p k a b
  unfolding rank
  less-holds-none k a b less = none-by (holds_module p k a b) (λ h. let le = holds-rank k a b h in absurd (omega arith))
    where
      none-by : (t : Bool) → (t ≡ true → ⊥) → false ≡ t
      none-by true h = absurd (h refl)
      none-by false h = refl
