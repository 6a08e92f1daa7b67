-- The flat variables, DEFINEs and expressions, and the lists of the flat model.
use Rattle.std.specs.Prelude.{ℕ, zero, suc, ◌+◌, ℤ, pos, ◌+ℤ◌, ◌-ℤ◌, nat_abs, int_le, Bool, true, false, if◌then◌else◌, min, List, [], ◌∷◌, ◌++◌, map, unwrap_or, position, fold, filter, is_some, Option, Some, None}
use Rattle.std.specs.List.{list_any, flat_map, zip}
use Rattle.std.specs.Str.{bytes_eq}
use Rattle.cov_syntax.specs.declared.tree.Span.{Span}
use Rattle.cov_syntax.specs.declared.program.Spelled.{Spelled}
use Rattle.cov_syntax.specs.declared.program.TypeTree.{TypeTree}
use Rattle.cov_syntax.specs.declared.program.TypeTree.TheVariants as type
use Rattle.cov_syntax.specs.declared.program.When.{When}
use Rattle.cov_syntax.specs.declared.program.When.TheVariants as when
use Rattle.cov_syntax.specs.declared.program.CondKind.{CondKind}
use Rattle.cov_syntax.specs.declared.program.CondKind.TheVariants as cond_kind
use Rattle.cov_syntax.specs.declared.program.Section.{Section}
use Rattle.cov_syntax.specs.declared.program.Section.TheVariants as section
use Rattle.cov_syntax.specs.declared.program.Program.{Program}
use Rattle.cov_syntax.specs.declared.tree.Value.{Value}
use Rattle.cov_syntax.specs.declared.tree.Value.TheVariants as v
use Rattle.cov_syntax.specs.declared.tree.Expr.{Expr, roll-Expr}
use Rattle.cov_syntax.specs.declared.tree.Branch.{Branch, roll-Branch}
use Rattle.cov_syntax.specs.declared.tree.Node.{Node}
use Rattle.cov_syntax.specs.declared.tree.Node.TheVariants as n
use Rattle.cov_syntax.specs.declared.tree.Node.TheOpen.{Node-F}
use Rattle.cov_syntax.specs.declared.tree.Node.TheFolds.{fold-Expr}
use Rattle.cov_model.specs.declared.model.Assign.{Assign}
use Rattle.cov_model.specs.declared.model.Model.{Model}
use Rattle.cov_modules.specs.Names.{Dotted, same_name, spelled}
use Rattle.cov_modules.specs.Things.{Thing, variable, define, instance, symbol, Instance, named, path_of}
use Rattle.cov_modules.specs.Walk.{Stop, walk}

-- A variable with its flat name and its values, the place of its declared name and that of its type.
pub record FlatVar : Type 0 where
  pub name : Dotted
  pub values : List Value
  pub place : Span
  pub kind_place : Span

-- so many integers from one on
abbrev pub range_values : ℤ → ℕ → List Value
range_values low zero = []
range_values low (suc k) = v.Int low ∷ range_values (low +ℤ pos 1) k

-- FALSE and TRUE, the values as written, or the integers of the range ascending, of which the first 1,025 are listed
abbrev pub values_of : TypeTree → List Value
values_of type.Boolean = v.Bool false ∷ v.Bool true ∷ []
values_of (type.List values) = values
values_of (type.Between low high) = if int_le low high then range_values low (min (nat_abs (high -ℤ low) + 1) 1025) else []
values_of (type.Instance from given) = []

-- the variable that a section of an instance declares
abbrev pub var_of : Dotted → Section → List FlatVar
var_of at (section.Decl name (type.Instance from given) place) = []
var_of at (section.Decl name kind place) = record { name = at ++ name.name ∷ []; values = values_of kind; place = name.place; kind_place = place } ∷ []
var_of at _ = []

-- the variables of the stops
abbrev pub flat_vars : List Stop → List FlatVar
flat_vars w = flat_map (λ (s : Stop). flat_map (var_of s.here.name) s.here.from.sections) w

-- A DEFINE with its flat name, its place, and the instance in which its body is read.
pub record FlatDefine : Type 0 where
  pub name : Dotted
  pub body : Expr
  pub place : Span
  pub reader : Instance

-- an argument that is no path becomes a DEFINE
abbrev pub define_of_argument : Stop → Spelled × Expr → List FlatDefine
define_of_argument s a = if is_some (path_of a.1) then [] else record { name = s.here.name ++ a.0.name ∷ []; body = a.1; place = a.1.place; reader = s.caller } ∷ []

-- the DEFINE that a section of an instance declares
abbrev pub define_of : Instance → Section → List FlatDefine
define_of x (section.Define name body) = record { name = x.name ++ name.name ∷ []; body = body; place = name.place; reader = x } ∷ []
define_of x _ = []

-- the DEFINEs of a stop: those of its arguments, then its own
abbrev pub defines_at : Stop → List FlatDefine
defines_at s = flat_map (define_of_argument s) (zip s.here.from.formals s.given) ++ flat_map (define_of s.here) s.here.from.sections

-- the DEFINEs of the stops
abbrev pub flat_defines : List Stop → List FlatDefine
flat_defines w = flat_map defines_at w

-- The flat names of the variables and of the DEFINEs, each in the order of the flat walk.
pub record Index : Type 0 where
  pub vars : List Dotted
  pub defs : List Dotted

-- the place of a name in the list
abbrev pub place_in : List Dotted → Dotted → ℕ
place_in ds d = unwrap_or (position (same_name d) ds) 0

-- the flat names of a program
abbrev pub index_of : Program → Index
index_of p = let w = walk p in record { vars = map (λ (x : FlatVar). x.name) (flat_vars w); defs = map (λ (d : FlatDefine). d.name) (flat_defines w) }

-- a thing as a node; a path that names no value stays
abbrev pub node_of : Index → Dotted → Option Thing → Node
node_of ix path (Some (variable d)) = n.Var (place_in ix.vars d)
node_of ix path (Some (define d)) = n.Def (place_in ix.defs d)
node_of ix path (Some (symbol i)) = n.Lit (v.Sym i)
node_of ix path _ = n.Path path

-- a node as the instance reads it
abbrev pub flat_layer : Program → Index → Instance → Node-F Node Branch Expr → Node
flat_layer p ix x (Node-F.Lit a) = n.Lit a
flat_layer p ix x (Node-F.Path path) = node_of ix path (named p x path)
flat_layer p ix x (Node-F.Var i) = n.Var i
flat_layer p ix x (Node-F.Def i) = n.Def i
flat_layer p ix x (Node-F.One op a) = n.One op a
flat_layer p ix x (Node-F.Two op a b) = n.Two op a b
flat_layer p ix x (Node-F.Range low high) = n.Range low high
flat_layer p ix x (Node-F.Set es) = n.Set es
flat_layer p ix x (Node-F.Case bs) = n.Case bs

-- the expression as the instance reads it
abbrev pub flat_expr : Program → Index → Instance → Expr → Expr
flat_expr p ix x = fold-Expr Node Branch Expr (flat_layer p ix x)
    (λ b. roll-Branch (record { guard = b.guard; body = b.body }))
    (λ e. roll-Expr (record { node = e.node; place = e.place }))

-- both are the same kind of condition
abbrev pub same_kind : CondKind → CondKind → Bool
same_kind cond_kind.Init cond_kind.Init = true
same_kind cond_kind.Invar cond_kind.Invar = true
same_kind cond_kind.Trans cond_kind.Trans = true
same_kind cond_kind.Fair cond_kind.Fair = true
same_kind cond_kind.Spec cond_kind.Spec = true
same_kind _ _ = false

-- both are the same form of assignment
abbrev pub same_when : When → When → Bool
same_when when.Now when.Now = true
same_when when.First when.First = true
same_when when.Next when.Next = true
same_when _ _ = false

-- the condition of this kind that a section is
abbrev pub cond_of : CondKind → Section → List Expr
cond_of k (section.Cond kind body) = if same_kind k kind then body ∷ [] else []
cond_of k _ = []

-- the conditions of this kind, as their instances read them
abbrev pub conds : Program → Index → List Stop → CondKind → List Expr
conds p ix w k = flat_map (λ (s : Stop). map (flat_expr p ix s.here) (flat_map (cond_of k) s.here.from.sections)) w

-- An assignment as the flat walk meets it: to what its target's path leads.
pub record Assignment : Type 0 where
  pub when : When
  pub target : Option Thing
  pub place : Span
  pub body : Expr
  pub reader : Instance

-- what the path that a target is names in the instance
abbrev pub target_of : Program → Instance → Expr → Option Thing
target_of p x e = elim (path_of e) [ Some path ↦ named p x path | None ↦ None ]

-- the assignment that a section of an instance is
abbrev pub assign_of : Program → Instance → Section → List Assignment
assign_of p x (section.Assign when target body) = record { when = when; target = target_of p x target; place = target.place; body = body; reader = x } ∷ []
assign_of p x _ = []

-- the assignments of the stops
abbrev pub assignments : Program → List Stop → List Assignment
assignments p w = flat_map (λ (s : Stop). flat_map (assign_of p s.here) s.here.from.sections) w

-- an assignment to a variable, as its instance reads it
abbrev pub flat_assign : Program → Index → Assignment → List Assign
flat_assign p ix a = elim a.target [
  | Some t ↦ elim t [
    | variable d ↦ record { var = place_in ix.vars d; body = flat_expr p ix a.reader a.body; place = a.place } ∷ []
    | define d ↦ []
    | instance d m ↦ []
    | symbol i ↦ []
  ]
  | None ↦ []
]

-- the assignments of this form
abbrev pub assigns : Program → Index → List Stop → When → List Assign
assigns p ix w k = flat_map (flat_assign p ix) (filter (λ (a : Assignment). same_when k a.when) (assignments p w))

-- a text is put last where it is not there yet
abbrev pub added : List (List ℕ) → List ℕ → List (List ℕ)
added names t = if list_any (bytes_eq t) names then names else names ++ t ∷ []

-- the names of the program, then the flat names that are not there yet, those of the variables first
abbrev pub all_names : Program → Index → List (List ℕ)
all_names p ix = fold added p.names (map (spelled p.names) (ix.vars ++ ix.defs))

-- the place of a text among the names
abbrev pub number_of : List (List ℕ) → List ℕ → ℕ
number_of names t = unwrap_or (position (bytes_eq t) names) 0

-- the flat model of a program
abbrev pub flat_model : Program → Model
flat_model p =
    let w = walk p in
    let ix = index_of p in
    let names = all_names p ix in
    record {
      names = names;
      vars = map (λ (x : FlatVar). record { name = number_of names (spelled p.names x.name); values = x.values; place = x.place; kind_place = x.kind_place }) (flat_vars w);
      defines = map (λ (d : FlatDefine). record { name = number_of names (spelled p.names d.name); body = flat_expr p ix d.reader d.body; place = d.place }) (flat_defines w);
      inits = conds p ix w cond_kind.Init;
      invars = conds p ix w cond_kind.Invar;
      nows = assigns p ix w when.Now;
      firsts = assigns p ix w when.First;
      nexts = assigns p ix w when.Next;
      trans = conds p ix w cond_kind.Trans;
      fair = conds p ix w cond_kind.Fair;
      specs = conds p ix w cond_kind.Spec;
    }
