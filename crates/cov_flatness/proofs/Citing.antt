-- What an expression cites is there, as an instance reads it.
use Rattle.std.proofs.Common.{◌≡◌, ℕ, inl, Bool, true, false, not, ◌&&◌, nat_lt, List, [], ◌∷◌, ◌++◌, map, length, Option, Some, None, refl, sym, ap, subst, ◌∙◌}
use Rattle.std.specs.List.{list_all, flat_map}
use Rattle.std.proofs.lemmas.Bool.{and_parts, and_from}
use Rattle.cov_syntax.specs.declared.tree.Span.{Span}
use Rattle.cov_syntax.specs.declared.tree.Value.{Value}
use Rattle.cov_syntax.specs.declared.tree.Value.TheVariants as v
use Rattle.cov_syntax.specs.declared.tree.Expr.{Expr}
use Rattle.cov_syntax.specs.declared.tree.Branch.{Branch}
use Rattle.cov_syntax.specs.declared.tree.Node.{Node, roll-Node}
use Rattle.cov_syntax.specs.declared.tree.Node.TheOpen.{Node-F}
use Rattle.cov_syntax.specs.declared.tree.Node.TheFolds.{map-Node, fold-Node, fold-Branch}
use Rattle.cov_syntax.specs.declared.program.Program.{Program}
use Rattle.cov_model.specs.declared.model.Model.{Model}
use Rattle.cov_model.specs.Walk.{put, branch_of}
use Rattle.cov_model.specs.WellFormed.{cites, cites_layer, is_symbol, some_items}
use Rattle.cov_modules.specs.Names.{Dotted, has, first}
use Rattle.cov_modules.specs.Modules.{symbol_of, symbols}
use Rattle.cov_modules.specs.Things.{Thing, variable, define, instance, symbol, Instance, named}
use Rattle.cov_modules.specs.FlatLists.{index_of, place_in, flat_expr}
use Rattle.cov_modules.specs.NameFaults.{is_value, unknown_layer, unknown_in}
use Rattle.cov_modules.specs.ModuleFaults.{place_if}
use Rattle.cov_modules.specs.Conditions.{cited, cited_layer, is_unflat, unflat_layer, is_filled}
use Rattle.cov_flatness.proofs.Among.{Among, among-left, among-right}
use Rattle.cov_flatness.proofs.ByParts.{Layer, EachItem, EachArm, EachPart, by_parts, fold_step, fold_branch}
use Rattle.cov_flatness.proofs.ThereLemmas.{IsThereIf}
use Rattle.cov_flatness.proofs.Reading.{flat, flat_branch, thing_layer, read_layer, read_step, read_branch}

-- ---- the folds, by their top nodes

module _ (m : Model) where
  abbrev cites_node : Node → Bool
  cites_node = fold-Node Bool Bool Bool (cites_layer m) (λ b. b.guard && b.body) (λ e. e.node)

  abbrev cites_branch : Branch → Bool
  cites_branch = fold-Branch Bool Bool Bool (cites_layer m) (λ b. b.guard && b.body) (λ e. e.node)

  abbrev cites_parts : Layer → Node-F Bool Bool Bool
  cites_parts l = map-Node Node Branch Expr Bool Bool Bool cites_node cites_branch (cites m) l

  cites_step : (place : Span) (l : Layer) → cites m (put place (roll-Node l)) ≡ cites_layer m (cites_parts l)
  cites_step place l = fold_step Bool Bool Bool (cites_layer m) (λ b. b.guard && b.body) (λ e. e.node) place l

  cites_at_branch : (b : Branch) → cites_branch b ≡ (cites m b.guard && cites m b.body)
  cites_at_branch b = fold_branch Bool Bool Bool (cites_layer m) (λ b. b.guard && b.body) (λ e. e.node) b

abbrev cited_node : Node → List ℕ
cited_node = fold-Node (List ℕ) (List ℕ) (List ℕ) cited_layer (λ b. b.guard ++ b.body) (λ e. e.node)

abbrev cited_branch : Branch → List ℕ
cited_branch = fold-Branch (List ℕ) (List ℕ) (List ℕ) cited_layer (λ b. b.guard ++ b.body) (λ e. e.node)

abbrev cited_parts : Layer → Node-F (List ℕ) (List ℕ) (List ℕ)
cited_parts l = map-Node Node Branch Expr (List ℕ) (List ℕ) (List ℕ) cited_node cited_branch cited l

cited_step : (place : Span) (l : Layer) → cited (put place (roll-Node l)) ≡ cited_layer (cited_parts l)
cited_step place l = fold_step (List ℕ) (List ℕ) (List ℕ) cited_layer (λ b. b.guard ++ b.body) (λ e. e.node) place l

cited_at_branch : (b : Branch) → cited_branch b ≡ cited b.guard ++ cited b.body
cited_at_branch b = fold_branch (List ℕ) (List ℕ) (List ℕ) cited_layer (λ b. b.guard ++ b.body) (λ e. e.node) b

abbrev unflat_node : Node → Bool
unflat_node = fold-Node Bool Bool Bool unflat_layer (λ b. b.guard && b.body) (λ e. e.node)

abbrev unflat_branch : Branch → Bool
unflat_branch = fold-Branch Bool Bool Bool unflat_layer (λ b. b.guard && b.body) (λ e. e.node)

abbrev unflat_parts : Layer → Node-F Bool Bool Bool
unflat_parts l = map-Node Node Branch Expr Bool Bool Bool unflat_node unflat_branch is_unflat l

unflat_step : (place : Span) (l : Layer) → is_unflat (put place (roll-Node l)) ≡ unflat_layer (unflat_parts l)
unflat_step place l = fold_step Bool Bool Bool unflat_layer (λ b. b.guard && b.body) (λ e. e.node) place l

unflat_at_branch : (b : Branch) → unflat_branch b ≡ (is_unflat b.guard && is_unflat b.body)
unflat_at_branch b = fold_branch Bool Bool Bool unflat_layer (λ b. b.guard && b.body) (λ e. e.node) b

module _ (p : Program) (x : Instance) where
  abbrev unknown_node : Node → Span → Option Span
  unknown_node = fold-Node (Span → Option Span) (Option Span) (Option Span) (unknown_layer p x) (λ b. first (b.guard ∷ b.body ∷ [])) (λ e. e.node e.place)

  abbrev unknown_branch : Branch → Option Span
  unknown_branch = fold-Branch (Span → Option Span) (Option Span) (Option Span) (unknown_layer p x) (λ b. first (b.guard ∷ b.body ∷ [])) (λ e. e.node e.place)

  abbrev unknown_parts : Layer → Node-F (Span → Option Span) (Option Span) (Option Span)
  unknown_parts l = map-Node Node Branch Expr (Span → Option Span) (Option Span) (Option Span) unknown_node unknown_branch (unknown_in p x) l

  unknown_step : (place : Span) (l : Layer) → unknown_in p x (put place (roll-Node l)) ≡ unknown_layer p x (unknown_parts l) place
  unknown_step place l = fold_step (Span → Option Span) (Option Span) (Option Span) (unknown_layer p x) (λ b. first (b.guard ∷ b.body ∷ [])) (λ e. e.node e.place) place l

  unknown_at_branch : (b : Branch) → unknown_branch b ≡ first (unknown_in p x b.guard ∷ unknown_in p x b.body ∷ [])
  unknown_at_branch b = fold_branch (Span → Option Span) (Option Span) (Option Span) (unknown_layer p x) (λ b. first (b.guard ∷ b.body ∷ [])) (λ e. e.node e.place) b

-- ---- what is known of the names

-- each of the names is one
abbrev pub AreNamed : Program → List ℕ → Type 0
AreNamed p is = (i : ℕ) → Among is i → nat_lt i (length p.names) ≡ true

named-left : (p : Program) (is js : List ℕ) → AreNamed p (is ++ js) → AreNamed p is
named-left p is js h i g = h i (among-left is js i g)

named-right : (p : Program) (is js : List ℕ) → AreNamed p (is ++ js) → AreNamed p js
named-right p is js h j g = h j (among-right is js j g)

-- What a model has of a program: its flat variables and DEFINEs, and its names, among them the symbols.
pub record HasFlat (p : Program) (m : Model) : Type 0 where
  pub variables : (d : Dotted) → Among (index_of p).vars d → nat_lt (place_in (index_of p).vars d) (length m.vars) ≡ true
  pub defines : (d : Dotted) → Among (index_of p).defs d → nat_lt (place_in (index_of p).defs d) (length m.defines) ≡ true
  pub symbols_named : (i : ℕ) → has (symbols p) i ≡ true → nat_lt i (length p.names) ≡ true
  pub names : (i : ℕ) → nat_lt i (length p.names) ≡ true → is_symbol m (v.Sym i) ≡ true

-- a path that is passed names a value
valued : (b : Bool) (place : Span) → place_if (not b) place ≡ None → b ≡ true
valued true place e = refl
valued false place e = absurd cc

-- the first of a list is not there, and none behind it
none-first : {A : Type 0} (o : Option A) (os : List (Option A)) → first (o ∷ os) ≡ None → (o ≡ None) × (first os ≡ None)
none-first None os e = (refl, e)
none-first (Some y) os e = absurd cc

-- two that are not there
both-none : {A : Type 0} (a b : Option A) → first (a ∷ b ∷ []) ≡ None → (a ≡ None) × (b ≡ None)
both-none None None e = (refl, refl)
both-none None (Some y) e = absurd cc
both-none (Some y) b e = absurd cc

module _ (p : Program) (m : Model) (flats : HasFlat p m) (x : Instance) (there : (path : Dotted) → IsThereIf p (named p x path)) where
  abbrev Kept : Expr → Type 0
  Kept e = unknown_in p x e ≡ None → AreNamed p (cited e) → is_unflat e ≡ true → cites m (flat p (index_of p) x e) ≡ true

  literal-kept : (y : Value) → AreNamed p (symbol_of y) → is_symbol m y ≡ true
  literal-kept (v.Bool b) h = refl
  literal-kept (v.Int i) h = refl
  literal-kept (v.Sym i) h = flats.names i (h i (inl refl))

  thing-kept : (path : Dotted) (o : Option Thing) → IsThereIf p o → is_value o ≡ true → cites_layer m (cites_parts m (thing_layer p (index_of p) x path o)) ≡ true
  thing-kept path None h e = absurd cc
  thing-kept path (Some (variable d)) h e = flats.variables d h
  thing-kept path (Some (define d)) h e = flats.defines d h
  thing-kept path (Some (instance d n)) h e = absurd cc
  thing-kept path (Some (symbol i)) h e = flats.names i (flats.symbols_named i h)

  items-kept : (es : List Expr) → EachItem Kept es → first (map (unknown_in p x) es) ≡ None → AreNamed p (flat_map (λ is. is) (map cited es)) → list_all (λ b. b) (map is_unflat es) ≡ true
      → list_all (λ b. b) (map (cites m) (map (flat p (index_of p) x) es)) ≡ true
  items-kept [] h e g u = refl
  items-kept (a ∷ es) h e g u =
      let none = none-first (unknown_in p x a) (map (unknown_in p x) es) e in
      let forms = and_parts (is_unflat a) (list_all (λ b. b) (map is_unflat es)) u in
      and_from (cites m (flat p (index_of p) x a)) (list_all (λ b. b) (map (cites m) (map (flat p (index_of p) x) es)))
      (h.0 none.0 (named-left p (cited a) (flat_map (λ is. is) (map cited es)) g) forms.0)
      (items-kept es h.1 none.1 (named-right p (cited a) (flat_map (λ is. is) (map cited es)) g) forms.1)

  set-kept : (es : List Expr) → EachItem Kept es → first (map (unknown_in p x) es) ≡ None → AreNamed p (flat_map (λ is. is) (map cited es)) → (is_filled (map is_unflat es) && list_all (λ b. b) (map is_unflat es)) ≡ true
      → some_items (map (cites m) (map (flat p (index_of p) x) es)) ≡ true
  set-kept [] h e g u = absurd cc
  set-kept (a ∷ es) h e g u = items-kept (a ∷ es) h e g u

  arms-kept : (bs : List Branch) → EachArm Kept bs → first (map (unknown_branch p x) bs) ≡ None → AreNamed p (flat_map (λ is. is) (map cited_branch bs)) → list_all (λ b. b) (map unflat_branch bs) ≡ true
      → list_all (λ b. b) (map (cites_branch m) (map (flat_branch p (index_of p) x) bs)) ≡ true
  arms-kept [] h e g u = refl
  arms-kept (b ∷ bs) h e g u =
      let none = none-first (unknown_branch p x b) (map (unknown_branch p x) bs) e in
      let both = both-none (unknown_in p x b.guard) (unknown_in p x b.body) (sym (unknown_at_branch p x b) ∙ none.0) in
      let forms = and_parts (unflat_branch b) (list_all (λ b. b) (map unflat_branch bs)) u in
      let form = and_parts (is_unflat b.guard) (is_unflat b.body) (sym (unflat_at_branch b) ∙ forms.0) in
      let here : AreNamed p (cited b.guard ++ cited b.body) = subst (AreNamed p) (cited_at_branch b) (named-left p (cited_branch b) (flat_map (λ is. is) (map cited_branch bs)) g) in
      let kept : cites_branch m (flat_branch p (index_of p) x b) ≡ true =
      ap (cites_branch m) (read_branch p (index_of p) x b)
      ∙ cites_at_branch m (branch_of (flat p (index_of p) x b.guard) (flat p (index_of p) x b.body))
      ∙ and_from (cites m (flat p (index_of p) x b.guard)) (cites m (flat p (index_of p) x b.body))
      (h.0 both.0 (named-left p (cited b.guard) (cited b.body) here) form.0)
      (h.1 both.1 (named-right p (cited b.guard) (cited b.body) here) form.1) in
      and_from (cites_branch m (flat_branch p (index_of p) x b)) (list_all (λ b. b) (map (cites_branch m) (map (flat_branch p (index_of p) x) bs)))
      kept
      (arms-kept bs h.2 none.1 (named-right p (cited_branch b) (flat_map (λ is. is) (map cited_branch bs)) g) forms.1)

  case-kept : (bs : List Branch) → EachArm Kept bs → first (map (unknown_branch p x) bs) ≡ None → AreNamed p (flat_map (λ is. is) (map cited_branch bs)) → (is_filled (map unflat_branch bs) && list_all (λ b. b) (map unflat_branch bs)) ≡ true
      → some_items (map (cites_branch m) (map (flat_branch p (index_of p) x) bs)) ≡ true
  case-kept [] h e g u = absurd cc
  case-kept (b ∷ bs) h e g u = arms-kept (b ∷ bs) h e g u

  kept-at : (place : Span) (l : Layer) → EachPart Kept l → unknown_layer p x (unknown_parts p x l) place ≡ None → AreNamed p (cited_layer (cited_parts l)) → unflat_layer (unflat_parts l) ≡ true
      → cites_layer m (cites_parts m (read_layer p (index_of p) x l)) ≡ true
  kept-at place (Node-F.Lit y) h e g u = literal-kept y g
  kept-at place (Node-F.Path path) h e g u = thing-kept path (named p x path) (there path) (valued (is_value (named p x path)) place e)
  kept-at place (Node-F.Var i) h e g u = absurd cc
  kept-at place (Node-F.Def i) h e g u = absurd cc
  kept-at place (Node-F.One op a) h e g u = h e g u
  kept-at place (Node-F.Two op a b) h e g u =
      let none = both-none (unknown_in p x a) (unknown_in p x b) e in
      let form = and_parts (is_unflat a) (is_unflat b) u in
      and_from (cites m (flat p (index_of p) x a)) (cites m (flat p (index_of p) x b)) (h.0 none.0 (named-left p (cited a) (cited b) g) form.0) (h.1 none.1 (named-right p (cited a) (cited b) g) form.1)
  kept-at place (Node-F.Range low high) h e g u = refl
  kept-at place (Node-F.Set es) h e g u = set-kept es h e g u
  kept-at place (Node-F.Case bs) h e g u = case-kept bs h e g u

  -- it cites what is there
  pub read-cites : (e : Expr) → unknown_in p x e ≡ None → AreNamed p (cited e) → is_unflat e ≡ true → cites m (flat_expr p (index_of p) x e) ≡ true
  read-cites = by_parts Kept (λ place l h e g u.
      ap (cites m) (read_step p (index_of p) x place l) ∙ cites_step m place (read_layer p (index_of p) x l)
      ∙ kept-at place l h (sym (unknown_step p x place l) ∙ e) (subst (AreNamed p) (cited_step place l) g) (sym (unflat_step place l) ∙ u))
