-- The walk over a model: its first fault, and the model with 0 and 1 read as FALSE and TRUE in Boolean places.
use Rattle.std.specs.Prelude.{ℕ, Bool, true, false, if◌then◌else◌, List, [], ◌∷◌, ◌++◌, map, Option, Some, None}
use Rattle.cov_syntax.specs.declared.fault.ModelFault.{ModelFault}
use Rattle.cov_syntax.specs.declared.tree.Expr.{Expr}
use Rattle.cov_model.specs.declared.model.Var.{Var}
use Rattle.cov_model.specs.declared.model.Define.{Define}
use Rattle.cov_model.specs.declared.model.Assign.{Assign}
use Rattle.cov_model.specs.declared.model.Model.{Model}
use Rattle.cov_model.specs.Kinds.{Kind, Kinds, kind_at, kind_of_values, is_boolean}
use Rattle.cov_model.specs.Walk.{first, May, Asks, truth, no_truth, asks_truth, kind_fault, judged, own}
use Rattle.cov_model.specs.Order.{with_body, with_assigned}

-- what is known of the kinds where a DEFINE is read: those of the variables, and of the DEFINEs before it
abbrev pub known : List Kind → List Kind → Kinds
known vars done = record { vars = vars; defs = done }

-- the own kinds of the DEFINEs in their order, behind those that stand already
abbrev pub define_kinds : List Kind → List Define → List Kind → List Kind
define_kinds vars [] done = done
define_kinds vars (d ∷ ds) done = define_kinds vars ds (done ++ own (known vars done) d.body ∷ [])

-- the kinds of the variables
abbrev pub variable_kinds : Model → List Kind
variable_kinds m = map (λ (x : Var). kind_of_values x.values) m.vars

-- the kinds of what an expression of the model can read
abbrev pub kinds_of : Model → Kinds
kinds_of m = record { vars = variable_kinds m; defs = define_kinds (variable_kinds m) m.defines [] }

-- a place in which no `next`, no CTL operator and no set may stand
abbrev pub steady : May
steady = record { next = false; temporal = false; set = false }

-- the right side of `x :=` and of `init(x) :=`
abbrev pub chosen : May
chosen = record { next = false; temporal = false; set = true }

-- the right side of `next(x) :=`
abbrev pub chosen_next : May
chosen_next = record { next = true; temporal = false; set = true }

-- the body of a TRANS
abbrev pub moving : May
moving = record { next = true; temporal = false; set = false }

-- the body of a SPEC
abbrev pub timed : May
timed = record { next = false; temporal = true; set = false }

-- the first fault of an expression that stands in such a place; Kind of its place comes last
abbrev pub whole_fault : Kinds → May → Option Asks → Expr → Option ModelFault
whole_fault ks may asks e = first ((judged ks e).fault may ∷ kind_fault asks (judged ks e) ∷ [])

-- the right side of an assignment to a Boolean variable is a Boolean place, and any other takes no Boolean
abbrev pub asked_by : Kinds → ℕ → Asks
asked_by ks i = if is_boolean (kind_at ks.vars i) then truth else no_truth

-- the first fault of the right side of an assignment
abbrev pub assign_fault : Kinds → May → Assign → Option ModelFault
assign_fault ks may a = whole_fault ks may (Some (asked_by ks a.var)) a.body

-- the first fault of each DEFINE, read with the kinds of those before it
abbrev pub define_faults : List Kind → List Define → List Kind → List (Option ModelFault)
define_faults vars [] done = []
define_faults vars (d ∷ ds) done =
    whole_fault (known vars done) steady None d.body ∷ define_faults vars ds (done ++ own (known vars done) d.body ∷ [])

-- the first fault of the walk: DEFINEs, conditions and assignments, specifications
abbrev pub walk_fault : Model → Option ModelFault
walk_fault m = let ks = kinds_of m in first (
    define_faults ks.vars m.defines []
    ++ map (whole_fault ks steady (Some truth)) m.inits
    ++ map (whole_fault ks steady (Some truth)) m.invars
    ++ map (assign_fault ks chosen) m.nows
    ++ map (assign_fault ks chosen) m.firsts
    ++ map (assign_fault ks chosen_next) m.nexts
    ++ map (whole_fault ks moving (Some truth)) m.trans
    ++ map (whole_fault ks steady (Some truth)) m.fair
    ++ map (whole_fault ks timed (Some truth)) m.specs)

-- the expression with 0 and 1 read as FALSE and TRUE in Boolean places
abbrev pub settled : Kinds → Bool → Expr → Expr
settled ks in_truth e = (judged ks e).settled in_truth

-- the assignment with its right side settled
abbrev pub settled_assign : Kinds → Assign → Assign
settled_assign ks a = with_assigned (settled ks (asks_truth (Some (asked_by ks a.var)))) a

-- the DEFINEs, each settled with the kinds of those before it
abbrev pub settled_defines : List Kind → List Define → List Kind → List Define
settled_defines vars [] done = []
settled_defines vars (d ∷ ds) done =
    with_body (settled (known vars done) false) d ∷ settled_defines vars ds (done ++ own (known vars done) d.body ∷ [])

-- the model with every expression settled in its place
abbrev pub settled_model : Model → Model
settled_model m = let ks = kinds_of m in record m {
  defines = settled_defines ks.vars m.defines [];
  inits = map (settled ks true) m.inits;
  invars = map (settled ks true) m.invars;
  nows = map (settled_assign ks) m.nows;
  firsts = map (settled_assign ks) m.firsts;
  nexts = map (settled_assign ks) m.nexts;
  trans = map (settled ks true) m.trans;
  fair = map (settled ks true) m.fair;
  specs = map (settled ks true) m.specs;
}
