-- The walk over an expression: the own kind of each node, the first fault, and 0 and 1 read as FALSE and TRUE in Boolean places.
use Rattle.std.specs.Prelude.{ℕ, ℤ, pos, negsuc, int_lt, int_le, Bool, true, false, not, ◌&&◌, ◌||◌, if◌then◌else◌, nat_lt, List, [], ◌∷◌, ◌++◌, map, length, Option, Some, None, option_map}
use Rattle.std.specs.Ordering.{int_eq}
use Rattle.std.specs.List.{list_any}
use Rattle.cov_syntax.specs.declared.tree.Span.{Span}
use Rattle.cov_syntax.specs.declared.fault.ModelFault.{ModelFault}
use Rattle.cov_syntax.specs.declared.tree.Value.{Value}
use Rattle.cov_syntax.specs.declared.tree.Value.TheVariants as v
use Rattle.cov_syntax.specs.declared.tree.Op1.{Op1}
use Rattle.cov_syntax.specs.declared.tree.Op1.TheVariants as op1
use Rattle.cov_syntax.specs.declared.tree.Op2.{Op2}
use Rattle.cov_syntax.specs.declared.tree.Op2.TheVariants as op2
use Rattle.cov_syntax.specs.declared.tree.Expr.{Expr, roll-Expr}
use Rattle.cov_syntax.specs.declared.tree.Branch.{Branch, roll-Branch}
use Rattle.cov_syntax.specs.declared.tree.Node.{Node}
use Rattle.cov_syntax.specs.declared.tree.Node.TheVariants as n
use Rattle.cov_syntax.specs.declared.tree.Node.TheOpen.{Node-F}
use Rattle.cov_syntax.specs.declared.tree.Node.TheFolds.{fold-Expr}
use Rattle.cov_model.specs.Kinds.{Kind, boolean, interval, among, is_boolean, is_number, low_end, high_end, width, joined_kind, Kinds, kind_at, literal, own_of_one, own_of_two}
use Rattle.cov_model.specs.Trees.{is_closed}

-- ---- faults

-- the first that is there
abbrev pub first : {A : Type 0} → List (Option A) → Option A
first [] = None
first (None ∷ xs) = first xs
first (Some x ∷ xs) = Some x

-- a fault where the test holds
abbrev pub fault_if : Bool → ℕ → Span → Option ModelFault
fault_if b code place = if b then Some (record { code = code; place = place }) else None

-- the code of BadType
abbrev pub bad_type : ℕ
bad_type = 10

-- the code of Kind
abbrev pub kind : ℕ
kind = 11

-- the code of SetPlace
abbrev pub set_place : ℕ
set_place = 12

-- the code of CaseNotClosed
abbrev pub case_not_closed : ℕ
case_not_closed = 13

-- the code of DivisorMayBeZero
abbrev pub divisor_may_be_zero : ℕ
divisor_may_be_zero = 14

-- the code of RangeTooWide
abbrev pub range_too_wide : ℕ
range_too_wide = 15

-- the code of NextPlace
abbrev pub next_place : ℕ
next_place = 18

-- the code of TemporalPlace
abbrev pub temporal_place : ℕ
temporal_place = 19

-- an integer outside the limits, or more than 1,024 values
abbrev pub is_wide : Kind → Bool
is_wide boolean = false
is_wide (interval low high) = int_lt low (negsuc 999999) || int_lt (pos 1000000) high || nat_lt 1024 (width (interval low high))
is_wide (among xs) = nat_lt 1024 (length xs)

-- ---- places

-- what may stand in a place: `next`, a CTL operator, a set
pub record May : Type 0 where
  pub next : Bool
  pub temporal : Bool
  pub set : Bool

-- what a place asks of the kind: a Boolean, a number, or anything but a Boolean
pub data Asks : Type 0 where
  truth : Asks
  number : Asks
  no_truth : Asks

-- whether a kind fits what a place asks
abbrev pub kind_fits : Asks → Kind → Bool
kind_fits truth k = is_boolean k
kind_fits number k = is_number k
kind_fits no_truth k = not (is_boolean k)

-- the CTL operators with one operand
abbrev pub is_temporal_one : Op1 → Bool
is_temporal_one op1.Not = false
is_temporal_one op1.Neg = false
is_temporal_one op1.Next = false
is_temporal_one _ = true

-- the CTL operators with two
abbrev pub is_temporal_two : Op2 → Bool
is_temporal_two op2.Au = true
is_temporal_two op2.Eu = true
is_temporal_two _ = false

-- below an operator of logic a place may have what the operator's place may have, but no set
abbrev pub logic_may : May → May
logic_may may = record { next = may.next; temporal = may.temporal; set = false }

-- a place in which neither a CTL operator nor a set may stand
abbrev pub plain_may : May → May
plain_may may = record { next = may.next; temporal = false; set = false }

-- the place of a branch or a member
abbrev pub part_may : May → May
part_may may = record { next = may.next; temporal = false; set = may.set }

-- the right side of `in`
abbrev pub set_may : May → May
set_may may = record { next = may.next; temporal = false; set = true }

-- a place in which none of the three may stand
abbrev pub nothing_may : May
nothing_may = record { next = false; temporal = false; set = false }

-- the place of an operator's one operand
abbrev pub may_of_one : Op1 → May → May
may_of_one op1.Neg may = plain_may may
may_of_one op1.Next may = nothing_may
may_of_one _ may = logic_may may

-- the place of an operator's left operand
abbrev pub may_of_left : Op2 → May → May
may_of_left op2.And may = logic_may may
may_of_left op2.Or may = logic_may may
may_of_left op2.Xor may = logic_may may
may_of_left op2.Implies may = logic_may may
may_of_left op2.Iff may = logic_may may
may_of_left op2.Au may = logic_may may
may_of_left op2.Eu may = logic_may may
may_of_left op2.Union may = part_may may
may_of_left _ may = plain_may may

-- the place of an operator's right operand
abbrev pub may_of_right : Op2 → May → May
may_of_right op2.Member may = set_may may
may_of_right op may = may_of_left op may

-- where one side is Boolean, both are Boolean places
abbrev pub as_one_side : Kind → Kind → Option Asks
as_one_side a b = if is_boolean a || is_boolean b then Some truth else None

-- what an operator asks of its one operand
abbrev pub asked_of_one : Op1 → Option Asks
asked_of_one op1.Neg = Some number
asked_of_one op1.Next = None
asked_of_one _ = Some truth

-- what an operator asks of both operands, by their own kinds
abbrev pub asked_of_two : Op2 → Kind → Kind → Option Asks
asked_of_two op2.Eq a b = as_one_side a b
asked_of_two op2.Ne a b = as_one_side a b
asked_of_two op2.Member a b = as_one_side a b
asked_of_two op2.Union a b = as_one_side a b
asked_of_two op2.Lt a b = Some number
asked_of_two op2.Le a b = Some number
asked_of_two op2.Gt a b = Some number
asked_of_two op2.Ge a b = Some number
asked_of_two op2.Add a b = Some number
asked_of_two op2.Sub a b = Some number
asked_of_two op2.Mul a b = Some number
asked_of_two op2.Div a b = Some number
asked_of_two op2.Mod a b = Some number
asked_of_two _ a b = Some truth

-- a Boolean place
abbrev pub asks_truth : Option Asks → Bool
asks_truth (Some truth) = true
asks_truth _ = false

-- ---- what the walk finds at an expression

-- What the walk finds at an expression.
pub record Judged : Type 0 where
  -- the expression itself
  pub tree : Expr
  pub own : Kind
  -- the first expression in its place that does not fit what the place asks
  pub misfit : Asks → Option Span
  -- the first fault, where it stands in a place that may have these
  pub fault : May → Option ModelFault
  -- with 0 and 1 read as FALSE and TRUE, where it stands in a Boolean place or not
  pub settled : Bool → Expr

-- a node at its place
abbrev pub put : Span → Node → Expr
put place m = roll-Expr (record { node = m; place = place })

-- Kind of an operand, where its place asks something
abbrev pub kind_fault : Option Asks → Judged → Option ModelFault
kind_fault None e = None
kind_fault (Some asks) e = option_map (λ place. record { code = kind; place = place }) (e.misfit asks)

-- an expression that is no case, set or `union`, given by the tests at its node
abbrev pub simple : Span → Node → Kind → (May → List (Option ModelFault)) → Node → Judged
simple place m own tests settled = record {
  tree = put place m;
  own = own;
  misfit = λ asks. if kind_fits asks own then None else Some place;
  fault = λ may. first (tests may ++ fault_if (is_wide own) range_too_wide place ∷ []);
  settled = λ b. put place settled;
}

-- a case, set or `union`, given by its branch bodies or members besides; where it does not fit itself, its parts are asked
abbrev pub compound : Span → Node → Kind → List Judged → (May → List (Option ModelFault)) → (Bool → Node) → Judged
compound place m own parts tests settled = record {
  tree = put place m;
  own = own;
  misfit = λ asks. if kind_fits asks own then None else first (map (λ e. e.misfit asks) parts);
  fault = λ may. first (tests may ++ fault_if (is_wide own) range_too_wide place ∷ []);
  settled = λ b. put place (settled (b || is_boolean own));
}

-- a literal, which a Boolean place takes where it is 0 or 1
abbrev pub bit : ℤ → Option Bool
bit i = if int_eq i (pos 0) then Some false else if int_eq i (pos 1) then Some true else None

-- 0 or 1: it fits every place
abbrev pub judged_bit : Span → ℤ → Bool → Judged
judged_bit place i b = record {
  tree = put place (n.Lit (v.Int i));
  own = interval i i;
  misfit = λ asks. None;
  fault = λ may. None;
  settled = λ in_truth. put place (n.Lit (if in_truth then v.Bool b else v.Int i));
}

-- a literal
abbrev pub judged_literal : Span → Value → Judged
judged_literal place (v.Int i) = elim (bit i) [ None ↦ simple place (n.Lit (v.Int i)) (interval i i) (λ may. []) (n.Lit (v.Int i)) | Some b ↦ judged_bit place i b ]
judged_literal place x = simple place (n.Lit x) (literal x) (λ may. []) (n.Lit x)

-- the tests at an operator with one operand
abbrev pub tests_of_one : Span → Op1 → Judged → May → List (Option ModelFault)
tests_of_one place op1.Next e may = e.fault (may_of_one op1.Next may) ∷ fault_if (not may.next) next_place place ∷ []
tests_of_one place op e may =
    e.fault (may_of_one op may)
    ∷ fault_if (is_temporal_one op && not may.temporal) temporal_place place
    ∷ kind_fault (asked_of_one op) e
    ∷ []

-- the operators with a divisor
abbrev pub divides : Op2 → Bool
divides op2.Div = true
divides op2.Mod = true
divides _ = false

-- 0 lies in the interval
abbrev pub has_zero : Kind → Bool
has_zero k = int_le (low_end k) (pos 0) && int_le (pos 0) (high_end k)

-- the tests at an operator with two operands
abbrev pub tests_of_two : Span → Op2 → Judged → Judged → May → List (Option ModelFault)
tests_of_two place op a b may =
    a.fault (may_of_left op may)
    ∷ b.fault (may_of_right op may)
    ∷ fault_if (is_temporal_two op && not may.temporal) temporal_place place
    ∷ kind_fault (asked_of_two op a.own b.own) a
    ∷ kind_fault (asked_of_two op a.own b.own) b
    ∷ fault_if (divides op && has_zero b.own) divisor_may_be_zero b.tree.place
    ∷ []

-- members, of a set or of a `union`
abbrev pub tests_of_set : Span → List Judged → May → List (Option ModelFault)
tests_of_set place es may =
    map (λ e. e.fault (part_may may)) es
    ++ fault_if (not may.set) set_place place
    ∷ (if list_any (λ e. is_boolean e.own) es then map (kind_fault (Some truth)) es else [])

-- the bodies of the branches
abbrev pub bodies : List (Judged × Judged) → List Judged
bodies bs = map (λ (b : Judged × Judged). b.1) bs

-- the guards of the branches
abbrev pub guards : List (Judged × Judged) → List Judged
guards bs = map (λ (b : Judged × Judged). b.0) bs

-- guard, body, guard, body ..
abbrev pub in_order : List (Judged × Judged) → List (Judged × Bool)
in_order [] = []
in_order (b ∷ bs) = (b.0, true) ∷ (b.1, false) ∷ in_order bs

-- the own kind of a case
abbrev pub case_own : List (Judged × Judged) → Kind
case_own bs = joined_kind (map (λ e. e.own) (bodies bs))

-- a guard is a Boolean place, and a body is one where some body is Boolean
abbrev pub tests_of_case : Span → List (Judged × Judged) → May → List (Option ModelFault)
tests_of_case place bs may =
    map (λ (x : Judged × Bool). x.0.fault (if x.1 then plain_may may else part_may may)) (in_order bs)
    ++ map (λ (x : Judged × Bool). if x.1 || is_boolean (case_own bs) then kind_fault (Some truth) x.0 else None) (in_order bs)
    ++ fault_if (not (is_closed [] (map (λ e. e.tree) (guards bs)))) case_not_closed place
    ∷ []

-- an operator with its operands settled
abbrev pub settled_two : Op2 → Judged → Judged → Node
settled_two op a b =
    let in_truth = asks_truth (asked_of_two op a.own b.own) in
    n.Two op (a.settled in_truth) (b.settled in_truth)

-- a branch of a guard and a body
abbrev pub branch_of : Expr → Expr → Branch
branch_of g e = roll-Branch (record { guard = g; body = e })

-- an operator with two operands
abbrev pub judged_two : Span → Op2 → Judged → Judged → Judged
judged_two place op2.Union a b =
    compound place (n.Two op2.Union a.tree b.tree) (own_of_two op2.Union a.own b.own) (a ∷ b ∷ [])
    (tests_of_set place (a ∷ b ∷ []))
    (λ in_truth. n.Two op2.Union (a.settled in_truth) (b.settled in_truth))
judged_two place op a b =
    simple place (n.Two op a.tree b.tree) (own_of_two op a.own b.own) (tests_of_two place op a b) (settled_two op a b)

-- a node at its place, given what is found at its parts
abbrev pub of_node : Kinds → Node-F (Span → Judged) (Judged × Judged) Judged → Span → Judged
of_node ks (Node-F.Lit x) place = judged_literal place x
of_node ks (Node-F.Path p) place = simple place (n.Path p) boolean (λ may. []) (n.Path p)
of_node ks (Node-F.Var i) place = simple place (n.Var i) (kind_at ks.vars i) (λ may. []) (n.Var i)
of_node ks (Node-F.Def i) place = simple place (n.Def i) (kind_at ks.defs i) (λ may. []) (n.Def i)
of_node ks (Node-F.One op e) place =
    simple place (n.One op e.tree) (own_of_one op e.own) (tests_of_one place op e) (n.One op (e.settled (asks_truth (asked_of_one op))))
of_node ks (Node-F.Two op a b) place = judged_two place op a b
of_node ks (Node-F.Range low high) place =
    simple place (n.Range low high) (interval low high)
    (λ may. fault_if (int_lt high low) bad_type place ∷ fault_if (not may.set) set_place place ∷ [])
    (n.Range low high)
of_node ks (Node-F.Set es) place =
    compound place (n.Set (map (λ e. e.tree) es)) (joined_kind (map (λ e. e.own) es)) es
    (tests_of_set place es)
    (λ in_truth. n.Set (map (λ e. e.settled in_truth) es))
of_node ks (Node-F.Case bs) place =
    compound place (n.Case (map (λ (b : Judged × Judged). branch_of b.0.tree b.1.tree) bs)) (case_own bs) (bodies bs)
    (tests_of_case place bs)
    (λ in_truth. n.Case (map (λ (b : Judged × Judged). branch_of (b.0.settled true) (b.1.settled in_truth)) bs))

-- what the walk finds at an expression, where names have these kinds
abbrev pub judged : Kinds → Expr → Judged
judged ks = fold-Expr (Span → Judged) (Judged × Judged) Judged (of_node ks) (λ b. (b.guard, b.body)) (λ e. e.node e.place)

-- the own kind of an expression
abbrev pub own : Kinds → Expr → Kind
own ks e = (judged ks e).own
