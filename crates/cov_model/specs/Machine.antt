-- What a machine with numbers of 32 bits makes of an expression, a state and a step. In a well-formed model it is what they are.
use Rattle.std.specs.Prelude.{◌≡◌, ℕ, Bool, true, false, ◌&&◌, List, [], ◌∷◌, ◌++◌, map, length, take, Option, Some, None}
use Rattle.std.specs.List.{list_any, list_all}
use Rattle.cov_syntax.specs.declared.tree.Value.{Value}
use Rattle.cov_syntax.specs.declared.tree.Value.TheVariants as v
use Rattle.cov_syntax.specs.declared.tree.Expr.{Expr}
use Rattle.cov_syntax.specs.declared.tree.Branch.{Branch}
use Rattle.cov_syntax.specs.declared.tree.Node.{Node}
use Rattle.cov_syntax.specs.declared.tree.Node.TheFolds.{fold-Node, fold-Branch}
use Rattle.cov_model.specs.declared.model.Signal.{Signal}
use Rattle.cov_model.specs.declared.model.Define.{Define}
use Rattle.cov_model.specs.declared.model.Assign.{Assign}
use Rattle.cov_model.specs.declared.model.Model.{Model}
use Rattle.cov_model.specs.declared.frame.Frame.{Frame}
use Rattle.cov_model.specs.declared.scratch.Scratch.{Scratch}
use Rattle.cov_model.specs.Values.{machine, truth, item}
use Rattle.cov_model.specs.Meaning.{Readings, Point, Meaning, of_node, of_branch, of_expr, meaning_by, first_body, still}
use Rattle.cov_model.specs.States.{State, values_at, is_typed}

-- ---- expressions

-- what an expression means to the machine
abbrev pub meaning : Expr → Meaning
meaning = meaning_by machine

-- the same of a node
abbrev pub node_meaning : Node → Meaning
node_meaning = fold-Node Meaning (Meaning × Meaning) Meaning (of_node machine) of_branch of_expr

-- the same of a branch: of its guard and of its body
abbrev pub branch_meaning : Branch → Meaning × Meaning
branch_meaning = fold-Branch Meaning (Meaning × Meaning) Meaning (of_node machine) of_branch of_expr

-- the value of an expression
abbrev pub value : Expr → Point → Value
value e = (meaning e).value

-- whether the value is a choice of the expression
abbrev pub allows : Expr → Point → Value → Bool
allows e = (meaning e).allows

-- the value of a node
abbrev pub node_value : Node → Point → Value
node_value m = (node_meaning m).value

-- whether the value is a choice of the node
abbrev pub node_allows : Node → Point → Value → Bool
node_allows m = (node_meaning m).allows

-- the value of the first body whose guard is true
abbrev pub cases_value : List Branch → Point → Value
cases_value bs p = first_body (λ m. m.value p) p (v.Bool false) (map branch_meaning bs)

-- whether the value is a choice of the first body whose guard is true
abbrev pub cases_allow : List Branch → Point → Value → Bool
cases_allow bs p x = first_body (λ m. m.allows p x) p false (map branch_meaning bs)

-- whether the value is a choice of some member
abbrev pub some_allows : List Expr → Point → Value → Bool
some_allows es p x = list_any (λ m. m.allows p x) (map meaning es)

-- every condition is true
abbrev pub all_true : List Expr → Point → Bool
all_true es p = list_all (λ e. truth (value e p)) es

-- each assigned variable has a value, among these, that its expression allows
abbrev pub all_obeyed : List Assign → Point → List Value → Bool
all_obeyed assigned p xs = list_all (λ a. allows a.body p (item xs a.var)) assigned

-- ---- frames

-- what a frame holds: of the DEFINEs, those that are known
abbrev pub readings_of : Frame → Readings
readings_of r = record { vars = r.vars; defs = take r.known r.defines; flip = r.flip }

-- what is read between two frames
abbrev pub point : Frame → Frame → Point
point p q = record { present = readings_of p; next = readings_of q }

-- a frame has a place for each variable and each DEFINE of the model
pub record HasRoom (m : Model) (r : Frame) : Type 0 where
  pub vars : length r.vars ≡ length m.vars
  pub defines : length r.defines ≡ length m.defines

-- the memory was made for the model
pub record IsScratchOf (m : Model) (sc : Scratch) : Type 0 where
  pub present : HasRoom m sc.present
  pub next : HasRoom m sc.next

-- ---- states

-- the values of the DEFINEs in their order, behind those that stand already
abbrev pub define_values : List Define → List Value → Option Signal → List Value → List Value
define_values [] vars flip done = done
define_values (d ∷ ds) vars flip done = define_values ds vars flip (done ++ value d.body (still (record { vars = vars; defs = done; flip = flip })) ∷ [])

-- what is read in a state
abbrev pub readings_in : Model → State → Option Signal → Readings
readings_in m s flip = let vars = values_at m.vars s in record { vars = vars; defs = define_values m.defines vars flip []; flip = flip }

-- a typed state is a state of the model
abbrev pub meets : Model → Readings → Bool
meets m r = all_true m.invars (still r) && all_obeyed m.nows (still r) r.vars

-- and an initial one
abbrev pub begins : Model → Readings → Bool
begins m r = meets m r && all_true m.inits (still r) && all_obeyed m.firsts (still r) r.vars

-- a step leads from the first of two typed states to the second
abbrev pub leads : Model → Readings → Readings → Bool
leads m r q = let p : Point = record { present = r; next = q } in meets m r && meets m q && all_true m.trans p && all_obeyed m.nexts p q.vars
