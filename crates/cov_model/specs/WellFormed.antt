-- Well-formed models.
use Rattle.std.specs.Prelude.{◌≡◌, ℕ, Bool, true, false, not, ◌&&◌, if◌then◌else◌, ◌==◌, nat_lt, List, [], ◌∷◌, ◌++◌, map, length, slice_get, IsTrue, Some, None, Ok}
use Rattle.std.specs.List.{list_all, list_any}
use Rattle.cov_syntax.specs.declared.tree.Value.{Value}
use Rattle.cov_syntax.specs.declared.tree.Value.TheVariants as v
use Rattle.cov_syntax.specs.declared.tree.Expr.{Expr}
use Rattle.cov_syntax.specs.declared.tree.Node.TheOpen.{Node-F}
use Rattle.cov_syntax.specs.declared.tree.Node.TheFolds.{fold-Expr}
use Rattle.cov_model.specs.declared.model.Var.{Var}
use Rattle.cov_model.specs.declared.model.Define.{Define}
use Rattle.cov_model.specs.declared.model.Assign.{Assign}
use Rattle.cov_model.specs.declared.model.Model.{Model}
use Rattle.cov_model.specs.Kinds.{is_truth}
use Rattle.cov_model.specs.Names.{is_name, is_dotted}
use Rattle.cov_model.specs.Accepted.{kinds}

-- a symbol of the model is a name
abbrev pub is_symbol : Model → Value → Bool
is_symbol m (v.Sym i) = elim (slice_get m.names i) [ Some t ↦ is_name t | None ↦ false ]
is_symbol m _ = true

-- at least one, and all hold
abbrev pub some_items : List Bool → Bool
some_items [] = false
some_items (b ∷ bs) = list_all (λ c. c) (b ∷ bs)

-- each variable, DEFINE and symbol that is cited is there, no path stands in it, and no set or case is empty
abbrev pub cites_layer : Model → Node-F Bool Bool Bool → Bool
cites_layer m (Node-F.Lit x) = is_symbol m x
cites_layer m (Node-F.Path p) = false
cites_layer m (Node-F.Var i) = nat_lt i (length m.vars)
cites_layer m (Node-F.Def i) = nat_lt i (length m.defines)
cites_layer m (Node-F.One op a) = a
cites_layer m (Node-F.Two op a b) = a && b
cites_layer m (Node-F.Range low high) = true
cites_layer m (Node-F.Set es) = some_items es
cites_layer m (Node-F.Case bs) = some_items bs

-- each of these holds in the whole expression
abbrev pub cites : Model → Expr → Bool
cites m = fold-Expr Bool Bool Bool (cites_layer m) (λ b. b.guard && b.body) (λ e. e.node)

-- in each of the expressions
abbrev pub all_cite : Model → List Expr → Bool
all_cite m es = list_all (cites m) es

-- each assigned variable is there, and what its right side cites
abbrev pub assigns_cite : Model → List Assign → Bool
assigns_cite m as' = list_all (λ (a : Assign). nat_lt a.var (length m.vars) && cites m a.body) as'

-- the name is there, and is names joined by dots
abbrev pub has_name : Model → ℕ → Bool
has_name m i = elim (slice_get m.names i) [ Some t ↦ is_dotted t | None ↦ false ]

-- no number stands twice
abbrev pub all_different : List ℕ → Bool
all_different [] = true
all_different (i ∷ is) = not (list_any (λ j. j == i) is) && all_different is

-- the names of the variables and of the DEFINEs
abbrev pub flat_names : Model → List ℕ
flat_names m = map (λ (x : Var). x.name) m.vars ++ map (λ (d : Define). d.name) m.defines

-- FALSE and TRUE, or no Boolean
abbrev pub are_values : List Value → Bool
are_values (v.Bool false ∷ v.Bool true ∷ []) = true
are_values xs = not (list_any is_truth xs)

-- the condition of whoever reads a model
pub record IsWellFormed (m : Model) : Type 0 where
  pub conditions : IsTrue (all_cite m (m.inits ++ m.invars ++ m.trans ++ m.fair ++ m.specs))
  pub bodies : IsTrue (list_all (λ (d : Define). cites m d.body) m.defines)
  pub assigned : IsTrue (assigns_cite m (m.nows ++ m.firsts ++ m.nexts))
  pub symbols : IsTrue (list_all (λ (x : Var). list_all (is_symbol m) x.values) m.vars)
  pub names : IsTrue (list_all (has_name m) (flat_names m))
  pub different : IsTrue (all_different (flat_names m))
  pub values : IsTrue (list_all (λ (x : Var). are_values x.values) m.vars)
  pub settled : kinds m ≡ Ok m
