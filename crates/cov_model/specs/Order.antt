-- The order of dependence of the DEFINEs, and circles among them.
use Rattle.std.specs.Prelude.{ℕ, zero, suc, ◌+◌, Bool, true, false, not, ◌&&◌, ◌||◌, if◌then◌else◌, ◌==◌, List, [], ◌∷◌, ◌++◌, map, length, slice_get, unwrap_or, position, Option, Some, None}
use Rattle.std.specs.List.{list_any, list_all, flat_map}
use Rattle.std.specs.Option.{option_map_or}
use Rattle.cov_syntax.specs.declared.fault.ModelFault.{ModelFault}
use Rattle.cov_syntax.specs.declared.tree.Expr.{Expr, roll-Expr}
use Rattle.cov_syntax.specs.declared.tree.Branch.{Branch, roll-Branch}
use Rattle.cov_syntax.specs.declared.tree.Node.{Node}
use Rattle.cov_syntax.specs.declared.tree.Node.TheVariants as n
use Rattle.cov_syntax.specs.declared.tree.Node.TheOpen.{Node-F, Branch-F, Expr-F}
use Rattle.cov_syntax.specs.declared.tree.Node.TheFolds.{fold-Expr}
use Rattle.cov_model.specs.declared.model.Define.{Define}
use Rattle.cov_model.specs.declared.model.Assign.{Assign}
use Rattle.cov_model.specs.declared.model.Model.{Model}

-- a node, given what its parts name
abbrev pub reads_layer : Node-F (List ℕ) (List ℕ) (List ℕ) → List ℕ
reads_layer (Node-F.Lit x) = []
reads_layer (Node-F.Path p) = []
reads_layer (Node-F.Var i) = []
reads_layer (Node-F.Def i) = i ∷ []
reads_layer (Node-F.One op a) = a
reads_layer (Node-F.Two op a b) = a ++ b
reads_layer (Node-F.Range low high) = []
reads_layer (Node-F.Set es) = flat_map (λ xs. xs) es
reads_layer (Node-F.Case bs) = flat_map (λ xs. xs) bs

-- the DEFINEs that an expression names
abbrev pub reads : Expr → List ℕ
reads = fold-Expr (List ℕ) (List ℕ) (List ℕ) reads_layer (λ b. b.guard ++ b.body) (λ e. e.node)

-- the number stands in the list
abbrev pub has : List ℕ → ℕ → Bool
has xs i = list_any (λ j. j == i) xs

-- which DEFINEs each DEFINE names
abbrev pub Reads : Type 0
Reads = List (List ℕ)

-- which DEFINEs the bodies name
abbrev pub reads_of : List Define → Reads
reads_of ds = map (λ (d : Define). reads d.body) ds

-- the DEFINEs that a DEFINE names
abbrev pub read_by : Reads → ℕ → List ℕ
read_by g i = unwrap_or (slice_get g i) []

-- DEFINE i reads DEFINE j, itself or through at most so many others
abbrev pub leads_to : ℕ → Reads → ℕ → ℕ → Bool
leads_to zero g i j = has (read_by g i) j
leads_to (suc others) g i j = has (read_by g i) j || list_any (λ k. leads_to others g k j) (read_by g i)

-- the first DEFINE from place i on that reads itself
abbrev pub circular_from : Reads → ℕ → List Define → Option ModelFault
circular_from g i [] = None
circular_from g i (d ∷ ds) = if leads_to (length g) g i i then Some (record { code = 17; place = d.place }) else circular_from g (i + 1) ds

-- the first DEFINE that reads itself
abbrev pub circular : List Define → Option ModelFault
circular ds = circular_from (reads_of ds) 0 ds

-- the first DEFINE from place i on that is not placed yet and reads only placed ones
abbrev pub next_define : List ℕ → ℕ → Reads → Option ℕ
next_define placed i [] = None
next_define placed i (js ∷ g) = if not (has placed i) && list_all (has placed) js then Some i else next_define placed (i + 1) g

-- at most so many more are placed
abbrev pub placed_after : ℕ → Reads → List ℕ → List ℕ
placed_after zero g placed = placed
placed_after (suc more) g placed = elim (next_define placed 0 g) [ None ↦ placed | Some i ↦ placed_after more g (placed ++ i ∷ []) ]

-- the places of the DEFINEs, in order of dependence
abbrev pub dependence : Reads → List ℕ
dependence g = placed_after (length g) g []

-- the place of a DEFINE in an order
abbrev pub place_in : List ℕ → ℕ → ℕ
place_in order i = unwrap_or (position (λ j. j == i) order) 0

-- a node with its parts renumbered
abbrev pub renumbered_layer : List ℕ → Node-F Node Branch Expr → Node
renumbered_layer order (Node-F.Lit x) = n.Lit x
renumbered_layer order (Node-F.Path p) = n.Path p
renumbered_layer order (Node-F.Var i) = n.Var i
renumbered_layer order (Node-F.Def i) = n.Def (place_in order i)
renumbered_layer order (Node-F.One op a) = n.One op a
renumbered_layer order (Node-F.Two op a b) = n.Two op a b
renumbered_layer order (Node-F.Range low high) = n.Range low high
renumbered_layer order (Node-F.Set es) = n.Set es
renumbered_layer order (Node-F.Case bs) = n.Case bs

-- the expression, its DEFINEs named by their places in this order
abbrev pub renumbered : List ℕ → Expr → Expr
renumbered order = fold-Expr Node Branch Expr (renumbered_layer order)
    (λ b. roll-Branch (record { guard = b.guard; body = b.body }))
    (λ e. roll-Expr (record { node = e.node; place = e.place }))

-- ---- every expression of a model

-- the DEFINE with another body
abbrev pub with_body : (Expr → Expr) → Define → Define
with_body f d = record d { body = f d.body }

-- the assignment with another right side
abbrev pub with_assigned : (Expr → Expr) → Assign → Assign
with_assigned f a = record a { body = f a.body }

-- the DEFINEs in an order, their bodies renumbered by it
abbrev pub in_order : List ℕ → List Define → List Define
in_order order ds = flat_map (λ i. option_map_or (λ (d : Define). with_body (renumbered order) d ∷ []) (slice_get ds i) []) order

-- the model with its DEFINEs in order of dependence
abbrev pub ordered : Model → Model
ordered m =
    let order = dependence (reads_of m.defines) in
    let on : Expr → Expr = renumbered order in
    record m {
      defines = in_order order m.defines;
      inits = map on m.inits;
      invars = map on m.invars;
      nows = map (with_assigned on) m.nows;
      firsts = map (with_assigned on) m.firsts;
      nexts = map (with_assigned on) m.nexts;
      trans = map on m.trans;
      fair = map on m.fair;
      specs = map on m.specs;
    }
