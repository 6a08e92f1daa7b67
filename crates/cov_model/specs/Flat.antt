-- Flat models: what the kinds ask of a model before they settle it.
use Rattle.std.specs.Prelude.{ℕ, ◌+◌, ◌≤◌, max, List, [], ◌∷◌, ◌++◌, map, length, IsTrue}
use Rattle.std.specs.List.{list_all}
use Rattle.cov_syntax.specs.declared.tree.Expr.{Expr}
use Rattle.cov_syntax.specs.declared.tree.Node.TheOpen.{Node-F}
use Rattle.cov_syntax.specs.declared.tree.Node.TheFolds.{fold-Expr}
use Rattle.cov_model.specs.declared.model.Var.{Var}
use Rattle.cov_model.specs.declared.model.Define.{Define}
use Rattle.cov_model.specs.declared.model.Assign.{Assign}
use Rattle.cov_model.specs.declared.model.Model.{Model}
use Rattle.cov_model.specs.WellFormed.{all_cite, cites, assigns_cite, is_symbol, has_name, all_different, flat_names, are_values}

-- the greatest of the numbers, and 0 without one
abbrev pub greatest : List ℕ → ℕ
greatest [] = 0
greatest (k ∷ ks) = max k (greatest ks)

-- a node and the deepest of its parts
abbrev pub depth_layer : Node-F ℕ ℕ ℕ → ℕ
depth_layer (Node-F.One op a) = 1 + a
depth_layer (Node-F.Two op a b) = 1 + max a b
depth_layer (Node-F.Set es) = 1 + greatest es
depth_layer (Node-F.Case bs) = 1 + greatest bs
depth_layer _ = 1

-- the greatest number of nodes on one path of an expression's tree
abbrev pub depth : Expr → ℕ
depth = fold-Expr ℕ ℕ ℕ depth_layer (λ b. max b.guard b.body) (λ e. e.node)

-- the conditions and specifications
abbrev pub conditions_of : Model → List Expr
conditions_of m = m.inits ++ m.invars ++ m.trans ++ m.fair ++ m.specs

-- the assignments of the three forms
abbrev pub assignments_of : Model → List Assign
assignments_of m = m.nows ++ m.firsts ++ m.nexts

-- every expression of the model
abbrev pub expressions : Model → List Expr
expressions m = map (λ (d : Define). d.body) m.defines ++ conditions_of m ++ map (λ (a : Assign). a.body) (assignments_of m)

-- What whoever settles a model can know: all that is cited is there, names and values are right, and the model is within the limits.
pub record IsFlat (m : Model) : Type 0 where
  pub conditions : IsTrue (all_cite m (conditions_of m))
  pub bodies : IsTrue (list_all (λ (d : Define). cites m d.body) m.defines)
  pub assigned : IsTrue (assigns_cite m (assignments_of m))
  pub symbols : IsTrue (list_all (λ (x : Var). list_all (is_symbol m) x.values) m.vars)
  pub names : IsTrue (list_all (has_name m) (flat_names m))
  pub different : IsTrue (all_different (flat_names m))
  pub values : IsTrue (list_all (λ (x : Var). are_values x.values) m.vars)
  pub few_defines : length m.defines ≤ 4096
  pub few_parts : length (conditions_of m) + length (assignments_of m) ≤ 1000000
  pub shallow : greatest (map depth (expressions m)) ≤ 1000001
