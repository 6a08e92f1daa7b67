-- An expression as an instance reads it: how deep it is, and that all that it cites is there.
use Rattle.std.proofs.Common.{◌≡◌, ℕ, ◌+◌, ◌≤◌, max, List, [], ◌∷◌, map, sum_by, Option, Some, None, sym, ap, ◌∙◌, arith}
use Rattle.std.proofs.lemmas.List.Sums.{sum_by-cons}
use Rattle.cov_syntax.specs.declared.tree.Span.{Span}
use Rattle.cov_syntax.specs.declared.tree.Value.TheVariants as v
use Rattle.cov_syntax.specs.declared.tree.Expr.{Expr, roll-Expr}
use Rattle.cov_syntax.specs.declared.tree.Branch.{Branch, roll-Branch}
use Rattle.cov_syntax.specs.declared.tree.Node.{Node, roll-Node}
use Rattle.cov_syntax.specs.declared.tree.Node.TheVariants as n
use Rattle.cov_syntax.specs.declared.tree.Node.TheOpen.{Node-F}
use Rattle.cov_syntax.specs.declared.tree.Node.TheFolds.{map-Node, fold-Node, fold-Branch}
use Rattle.cov_syntax.specs.declared.program.Program.{Program}
use Rattle.cov_model.specs.Walk.{put, branch_of}
use Rattle.cov_model.specs.Flat.{depth, depth_layer, greatest}
use Rattle.cov_modules.specs.Names.{Dotted}
use Rattle.cov_modules.specs.Things.{Thing, variable, define, instance, symbol, Instance, named}
use Rattle.cov_modules.specs.FlatLists.{Index, place_in, node_of, flat_layer, flat_expr}
use Rattle.cov_modules.specs.Counts.{nodes, nodes_layer, nodes_branch, nodes_expr, branch_nodes, node_nodes}
use Rattle.cov_flatness.proofs.ByParts.{Layer, EachItem, EachArm, EachPart, by_parts, fold_step, fold_branch}

-- ---- the folds, by their top nodes

-- the depth of a node and of a branch
abbrev depth_node : Node → ℕ
depth_node = fold-Node ℕ ℕ ℕ depth_layer (λ b. max b.guard b.body) (λ e. e.node)

abbrev depth_branch : Branch → ℕ
depth_branch = fold-Branch ℕ ℕ ℕ depth_layer (λ b. max b.guard b.body) (λ e. e.node)

abbrev depth_parts : Layer → Node-F ℕ ℕ ℕ
depth_parts l = map-Node Node Branch Expr ℕ ℕ ℕ depth_node depth_branch depth l

depth_step : (place : Span) (l : Layer) → depth (put place (roll-Node l)) ≡ depth_layer (depth_parts l)
depth_step place l = fold_step ℕ ℕ ℕ depth_layer (λ b. max b.guard b.body) (λ e. e.node) place l

depth_at_branch : (b : Branch) → depth_branch b ≡ max (depth b.guard) (depth b.body)
depth_at_branch b = fold_branch ℕ ℕ ℕ depth_layer (λ b. max b.guard b.body) (λ e. e.node) b

-- its nodes
abbrev nodes_parts : Layer → Node-F ℕ ℕ ℕ
nodes_parts l = map-Node Node Branch Expr ℕ ℕ ℕ node_nodes branch_nodes nodes l

nodes_step : (place : Span) (l : Layer) → nodes (put place (roll-Node l)) ≡ nodes_layer (nodes_parts l)
nodes_step place l = fold_step ℕ ℕ ℕ nodes_layer nodes_branch nodes_expr place l

nodes_at_branch : (b : Branch) → branch_nodes b ≡ nodes b.guard + nodes b.body
nodes_at_branch b = fold_branch ℕ ℕ ℕ nodes_layer nodes_branch nodes_expr b

-- there is a node at least
some-node : (l : Node-F ℕ ℕ ℕ) → 1 ≤ nodes_layer l
some-node (Node-F.Lit y) = omega arith
some-node (Node-F.Path path) = omega arith
some-node (Node-F.Var i) = omega arith
some-node (Node-F.Def i) = omega arith
some-node (Node-F.One op a) = omega arith
some-node (Node-F.Two op a b) = omega arith
some-node (Node-F.Range low high) = omega arith
some-node (Node-F.Set es) = omega arith
some-node (Node-F.Case bs) = omega arith

pub has-node : (e : Expr) → 1 ≤ nodes e
has-node = by_parts (λ e. 1 ≤ nodes e) (λ place l h. let some = some-node (nodes_parts l) in let step = nodes_step place l in omega arith)

module _ (p : Program) (ix : Index) (x : Instance) where
  abbrev pub flat : Expr → Expr
  flat = flat_expr p ix x

  abbrev flat_node : Node → Node
  flat_node = fold-Node Node Branch Expr (flat_layer p ix x) (λ b. roll-Branch (record { guard = b.guard; body = b.body })) (λ e. roll-Expr (record { node = e.node; place = e.place }))

  abbrev pub flat_branch : Branch → Branch
  flat_branch = fold-Branch Node Branch Expr (flat_layer p ix x) (λ b. roll-Branch (record { guard = b.guard; body = b.body })) (λ e. roll-Expr (record { node = e.node; place = e.place }))

  -- the layer of a thing
  abbrev pub thing_layer : Dotted → Option Thing → Layer
  thing_layer path (Some (variable d)) = Node-F.Var (place_in ix.vars d)
  thing_layer path (Some (define d)) = Node-F.Def (place_in ix.defs d)
  thing_layer path (Some (symbol i)) = Node-F.Lit (v.Sym i)
  thing_layer path _ = Node-F.Path path

  -- a layer as the instance reads it
  abbrev pub read_layer : Layer → Layer
  read_layer (Node-F.Lit y) = Node-F.Lit y
  read_layer (Node-F.Path path) = thing_layer path (named p x path)
  read_layer (Node-F.Var i) = Node-F.Var i
  read_layer (Node-F.Def i) = Node-F.Def i
  read_layer (Node-F.One op a) = Node-F.One op (flat a)
  read_layer (Node-F.Two op a b) = Node-F.Two op (flat a) (flat b)
  read_layer (Node-F.Range low high) = Node-F.Range low high
  read_layer (Node-F.Set es) = Node-F.Set (map flat es)
  read_layer (Node-F.Case bs) = Node-F.Case (map flat_branch bs)

  thing_rolls : (path : Dotted) (o : Option Thing) → node_of ix path o ≡ roll-Node (thing_layer path o)
  thing_rolls path None = sym (n.rolls-Path path)
  thing_rolls path (Some (variable d)) = sym (n.rolls-Var (place_in ix.vars d))
  thing_rolls path (Some (define d)) = sym (n.rolls-Def (place_in ix.defs d))
  thing_rolls path (Some (instance d m)) = sym (n.rolls-Path path)
  thing_rolls path (Some (symbol i)) = sym (n.rolls-Lit (v.Sym i))

  rolls : (l : Layer) → flat_layer p ix x (map-Node Node Branch Expr Node Branch Expr flat_node flat_branch flat l) ≡ roll-Node (read_layer l)
  rolls (Node-F.Lit y) = sym (n.rolls-Lit y)
  rolls (Node-F.Path path) = thing_rolls path (named p x path)
  rolls (Node-F.Var i) = sym (n.rolls-Var i)
  rolls (Node-F.Def i) = sym (n.rolls-Def i)
  rolls (Node-F.One op a) = sym (n.rolls-One op (flat a))
  rolls (Node-F.Two op a b) = sym (n.rolls-Two op (flat a) (flat b))
  rolls (Node-F.Range low high) = sym (n.rolls-Range low high)
  rolls (Node-F.Set es) = sym (n.rolls-Set (map flat es))
  rolls (Node-F.Case bs) = sym (n.rolls-Case (map flat_branch bs))

  -- an expression as the instance reads it
  pub read_step : (place : Span) (l : Layer) → flat (put place (roll-Node l)) ≡ put place (roll-Node (read_layer l))
  read_step place l =
      fold_step Node Branch Expr (flat_layer p ix x) (λ b. roll-Branch (record { guard = b.guard; body = b.body })) (λ e. roll-Expr (record { node = e.node; place = e.place })) place l
      ∙ ap (put place) (rolls l)

  pub read_branch : (b : Branch) → flat_branch b ≡ branch_of (flat b.guard) (flat b.body)
  read_branch b = fold_branch Node Branch Expr (flat_layer p ix x) (λ b. roll-Branch (record { guard = b.guard; body = b.body })) (λ e. roll-Expr (record { node = e.node; place = e.place })) b

  -- ---- it is no deeper than it has nodes

  abbrev Shallow : Expr → Type 0
  Shallow e = depth (flat e) ≤ nodes e

  items-shallow : (es : List Expr) → EachItem Shallow es → greatest (map depth (map flat es)) ≤ sum_by (λ k. k) (map nodes es)
  items-shallow [] h = omega arith
  items-shallow (e ∷ es) h = let rest = items-shallow es h.1 in let sum = sum_by-cons (λ (k : ℕ). k) (nodes e) (map nodes es) in omega (arith, h.0, rest, sum)

  arms-shallow : (bs : List Branch) → EachArm Shallow bs → greatest (map depth_branch (map flat_branch bs)) ≤ sum_by (λ k. k) (map branch_nodes bs)
  arms-shallow [] h = omega arith
  arms-shallow (b ∷ bs) h =
      let rest = arms-shallow bs h.2 in
      let sum = sum_by-cons (λ (k : ℕ). k) (branch_nodes b) (map branch_nodes bs) in
      let here : depth_branch (flat_branch b) ≡ max (depth (flat b.guard)) (depth (flat b.body)) = ap depth_branch (read_branch b) ∙ depth_at_branch (branch_of (flat b.guard) (flat b.body)) in
      let count = nodes_at_branch b in
      omega (arith, h.0, h.1, rest, sum, here, count)

  thing-shallow : (path : Dotted) (o : Option Thing) → depth_layer (depth_parts (thing_layer path o)) ≤ 1
  thing-shallow path None = omega arith
  thing-shallow path (Some (variable d)) = omega arith
  thing-shallow path (Some (define d)) = omega arith
  thing-shallow path (Some (instance d m)) = omega arith
  thing-shallow path (Some (symbol i)) = omega arith

  shallow-at : (l : Layer) → EachPart Shallow l → depth_layer (depth_parts (read_layer l)) ≤ nodes_layer (nodes_parts l)
  shallow-at (Node-F.Lit y) h = omega arith
  shallow-at (Node-F.Path path) h = thing-shallow path (named p x path)
  shallow-at (Node-F.Var i) h = omega arith
  shallow-at (Node-F.Def i) h = omega arith
  shallow-at (Node-F.One op a) h = omega arith
  shallow-at (Node-F.Two op a b) h = omega (arith, h.0, h.1)
  shallow-at (Node-F.Range low high) h = omega arith
  shallow-at (Node-F.Set es) h = let items = items-shallow es h in omega arith
  shallow-at (Node-F.Case bs) h = let arms = arms-shallow bs h in omega arith

  pub read-shallow : (e : Expr) → depth (flat_expr p ix x e) ≤ nodes e
  read-shallow = by_parts Shallow (λ place l h.
      let at = shallow-at l h in
      let deep : depth (flat (put place (roll-Node l))) ≡ depth_layer (depth_parts (read_layer l)) = ap depth (read_step place l) ∙ depth_step place (read_layer l) in
      let count = nodes_step place l in
      omega (arith, at, deep, count))
