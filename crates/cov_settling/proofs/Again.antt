-- What the walk finds at a settled literal, reading or operator.
use Rattle.std.proofs.Common.{◌≡◌, ℤ, Bool, true, false, not, ◌&&◌, ◌||◌, if◌then◌else◌, IsTrue, List, [], ◌∷◌, ◌++◌, Option, Some, None, refl, sym, ap, subst, ◌∙◌}
use Rattle.std.specs.Prelude.{option_map}
use Rattle.cov_syntax.specs.declared.tree.Span.{Span}
use Rattle.cov_syntax.specs.declared.fault.ModelFault.{ModelFault}
use Rattle.cov_syntax.specs.declared.tree.Value.{Value}
use Rattle.cov_syntax.specs.declared.tree.Value.TheVariants as v
use Rattle.cov_syntax.specs.declared.tree.Op1.{Op1}
use Rattle.cov_syntax.specs.declared.tree.Op1.TheVariants as op1
use Rattle.cov_syntax.specs.declared.tree.Op2.{Op2}
use Rattle.cov_syntax.specs.declared.tree.Op2.TheVariants as op2
use Rattle.cov_syntax.specs.declared.tree.Expr.{Expr}
use Rattle.cov_syntax.specs.declared.tree.Node.{Node, roll-Node}
use Rattle.cov_syntax.specs.declared.tree.Node.TheVariants as n
use Rattle.cov_syntax.specs.declared.tree.Node.TheOpen.{Node-F}
use Rattle.cov_model.specs.Kinds.{Kind, boolean, interval, is_boolean, is_number, Kinds, literal, own_of_one, own_of_two}
use Rattle.cov_model.specs.Walk as walk
use Rattle.cov_model.specs.Walk.{first, fault_if, is_wide, May, Asks, truth, number, no_truth, kind_fits, Judged, put, kind, kind_fault, asks_truth, simple, bit, judged_bit, judged_literal, judged, own, asked_of_one, asked_of_two, as_one_side, may_of_one, may_of_left, may_of_right, plain_may, tests_of_one, tests_of_two, is_temporal_one, is_temporal_two, temporal_place, next_place, divisor_may_be_zero, divides, has_zero, settled_two, range_too_wide}
use Rattle.cov_model.specs.Settled.{settled}
use Rattle.cov_model.specs.Laws.{kind_in}
use Rattle.cov_model.proofs.Tied.{first_none, no_fault, no_misfit, no_misfit_truth, kind_in_simple, Layer}
use Rattle.cov_model.proofs.Closed.{integer, judged_layer, judged_step, by_top}
use Rattle.cov_model.proofs.Law.{law}

-- what is claimed of k, which the walk finds at an expression that is settled, where it found j before
pub record Again (may : May) (b : Bool) (j k : Judged) : Type 0 where
  pub own : k.own ≡ kind_in b j.own
  pub fits : IsTrue b → k.misfit truth ≡ None
  pub fault : k.fault may ≡ None
  pub twice : k.settled b ≡ j.settled b

-- an expression without fault that fits its place
abbrev pub Stays : Kinds → Judged → Type 0
Stays ks j = (may : May) (b : Bool) → j.fault may ≡ None → (IsTrue b → j.misfit truth ≡ None) → Again may b j (judged ks (j.settled b))

-- ---- lists of faults

pub first_of : {A : Type 0} (x : Option A) (xs : List (Option A)) → x ≡ None → first xs ≡ None → first (x ∷ xs) ≡ None
first_of x xs h i = subst (λ o. first (o ∷ xs) ≡ None) (sym h) i

pub first_both : {A : Type 0} (xs ys : List (Option A)) → first xs ≡ None → first ys ≡ None → first (xs ++ ys) ≡ None
first_both [] ys h i = i
first_both (x ∷ xs) ys h i = let c = first_none x xs h in first_of x (xs ++ ys) c.0 (first_both xs ys c.1 i)

pub no_kind_fault : (asks : Asks) (j : Judged) → j.misfit asks ≡ None → kind_fault (Some asks) j ≡ None
no_kind_fault asks j h = ap (λ (o : Option Span). option_map (λ (place : Span). let f : ModelFault = record { code = kind; place = place } in f) o) h

pub wide_again : (b : Bool) (k l : Kind) (place : Span) → l ≡ kind_in b k → fault_if (is_wide k) range_too_wide place ≡ None → fault_if (is_wide l) range_too_wide place ≡ None
wide_again true k l place e h = ap (λ (z : Kind). fault_if (is_wide z) range_too_wide place) e
wide_again false k l place e h = ap (λ (z : Kind). fault_if (is_wide z) range_too_wide place) e ∙ h

-- ---- what fits by its own kind

fit : (c : Bool) (o : Option Span) → c ≡ true → (if c then None else o) ≡ None
fit true o h = refl
fit false o h = cc

integer_fits : (place : Span) (i : ℤ) (o : Option Bool) (asks : Asks) → kind_fits asks (integer place i o).own ≡ true → (integer place i o).misfit asks ≡ None
integer_fits place i None asks h = fit (kind_fits asks (interval i i)) (Some place) h
integer_fits place i (Some c) asks h = refl

fits_top : (ks : Kinds) (place : Span) (l : Layer) (asks : Asks) → kind_fits asks (walk.of_node ks (judged_layer ks l) place).own ≡ true → (walk.of_node ks (judged_layer ks l) place).misfit asks ≡ None
fits_top ks place (Node-F.Lit (v.Int i)) asks h = integer_fits place i (bit i) asks h
fits_top ks place (Node-F.Two op2.Union x y) asks h = fit (kind_fits asks (own_of_two op2.Union (judged ks x).own (judged ks y).own)) _ h
fits_top ks place (Node-F.Two op x y) asks h = fit (kind_fits asks (own_of_two op (judged ks x).own (judged ks y).own)) (Some place) h
fits_top ks place l asks h = fit (kind_fits asks (walk.of_node ks (judged_layer ks l) place).own) _ h

-- what fits by its own kind fits
pub own_fits : (ks : Kinds) (e : Expr) (asks : Asks) → kind_fits asks (own ks e) ≡ true → (judged ks e).misfit asks ≡ None
own_fits ks e asks = by_top (λ f. kind_fits asks (judged ks f).own ≡ true → (judged ks f).misfit asks ≡ None)
    (λ place l. subst (λ (j : Judged). kind_fits asks j.own ≡ true → j.misfit asks ≡ None) (sym (judged_step ks place l)) (fits_top ks place l asks)) e

truth_in : (b : Bool) (k l : Kind) → l ≡ kind_in b k → IsTrue b → is_boolean l ≡ true
truth_in true k l h u = ap is_boolean h
truth_in false k l h u = cc

-- the claim from what the walk finds at the node
pub again : (ks : Kinds) (may : May) (b : Bool) (j k : Judged) (e : Expr) → judged ks e ≡ k → k.own ≡ kind_in b j.own → k.fault may ≡ None → k.settled b ≡ j.settled b → Again may b j (judged ks e)
again ks may b j k e h o f t = record {
  own = ap (λ (z : Judged). z.own) h ∙ o;
  fits = λ u. own_fits ks e truth (truth_in b j.own (judged ks e).own (ap (λ (z : Judged). z.own) h ∙ o) u);
  fault = ap (λ (z : Judged). z.fault may) h ∙ f;
  twice = ap (λ (z : Judged). z.settled b) h ∙ t;
}

pub found : (ks : Kinds) (place : Span) (m : Node) (l : Layer) → roll-Node l ≡ m → judged ks (put place m) ≡ walk.of_node ks (judged_layer ks l) place
found ks place m l h = ap (λ (z : Node). judged ks (put place z)) (sym h) ∙ judged_step ks place l

-- ---- literals and readings

pub leaf : (ks : Kinds) (place : Span) (m : Node) (k : Kind) (tests : May → List (Option ModelFault)) → judged ks (put place m) ≡ simple place m k tests m → Stays ks (simple place m k tests m)
leaf ks place m k tests h may b f g = again ks may b (simple place m k tests m) (simple place m k tests m) (put place m) h (sym (kind_in_simple b k place g)) f refl

bit_stays : (ks : Kinds) (place : Span) (i : ℤ) (c : Bool) → bit i ≡ Some c → Stays ks (judged_bit place i c)
bit_stays ks place i c h may true f g =
    again ks may true (judged_bit place i c) (simple place (n.Lit (v.Bool c)) boolean (λ may. []) (n.Lit (v.Bool c))) (put place (n.Lit (v.Bool c)))
    (found ks place (n.Lit (v.Bool c)) (Node-F.Lit (v.Bool c)) (n.rolls-Lit (v.Bool c))) refl refl refl
bit_stays ks place i c h may false f g =
    again ks may false (judged_bit place i c) (judged_bit place i c) (put place (n.Lit (v.Int i)))
    (found ks place (n.Lit (v.Int i)) (Node-F.Lit (v.Int i)) (n.rolls-Lit (v.Int i)) ∙ ap (integer place i) h) refl refl refl

integer_stays : (ks : Kinds) (place : Span) (i : ℤ) (o : Option Bool) → bit i ≡ o → Stays ks (integer place i o)
integer_stays ks place i None h = leaf ks place (n.Lit (v.Int i)) (interval i i) (λ may. []) (found ks place (n.Lit (v.Int i)) (Node-F.Lit (v.Int i)) (n.rolls-Lit (v.Int i)) ∙ ap (integer place i) h)
integer_stays ks place i (Some c) h = bit_stays ks place i c h

pub literal_stays : (ks : Kinds) (place : Span) (x : Value) → Stays ks (judged_literal place x)
literal_stays ks place (v.Int i) = integer_stays ks place i (bit i) refl
literal_stays ks place (v.Bool c) = leaf ks place (n.Lit (v.Bool c)) boolean (λ may. []) (found ks place (n.Lit (v.Bool c)) (Node-F.Lit (v.Bool c)) (n.rolls-Lit (v.Bool c)))
literal_stays ks place (v.Sym s) = leaf ks place (n.Lit (v.Sym s)) (literal (v.Sym s)) (λ may. []) (found ks place (n.Lit (v.Sym s)) (Node-F.Lit (v.Sym s)) (n.rolls-Lit (v.Sym s)))

-- ---- what a place asks of the settled expression

-- where a place asks for no Boolean, the own kind fits
abbrev pub OwnFits : Option Asks → Kind → Type 0
OwnFits None k = Unit {0}
OwnFits (Some truth) k = Unit {0}
OwnFits (Some number) k = IsTrue (is_number k)
OwnFits (Some Asks.no_truth) k = IsTrue (not (is_boolean k))

pub kind_again : (ks : Kinds) (asks : Option Asks) (a : Expr) → own ks (settled ks (asks_truth asks) a) ≡ kind_in (asks_truth asks) (own ks a) → OwnFits asks (own ks a)
    → kind_fault asks (judged ks (settled ks (asks_truth asks) a)) ≡ None
kind_again ks None a h f = refl
kind_again ks (Some truth) a h f = no_kind_fault truth (judged ks (settled ks true a)) (own_fits ks (settled ks true a) truth (ap is_boolean h))
kind_again ks (Some number) a h f = no_kind_fault number (judged ks (settled ks false a)) (own_fits ks (settled ks false a) number (ap is_number h ∙ f))
kind_again ks (Some Asks.no_truth) a h f = no_kind_fault Asks.no_truth (judged ks (settled ks false a)) (own_fits ks (settled ks false a) Asks.no_truth (ap (λ (k : Kind). not (is_boolean k)) h ∙ f))

numeric : (ks : Kinds) (a : Expr) (may : May) → (judged ks a).fault (plain_may may) ≡ None → kind_fault (Some number) (judged ks a) ≡ None → IsTrue (is_number (own ks a))
numeric ks a may f k = (law a ks).is_numeric (plain_may may) f refl (no_misfit number (judged ks a) k)

-- ---- one operand

one_fits : (ks : Kinds) (op : Op1) (a : Expr) (may : May) → (judged ks a).fault (may_of_one op may) ≡ None → kind_fault (asked_of_one op) (judged ks a) ≡ None → OwnFits (asked_of_one op) (own ks a)
one_fits ks op1.Neg a may f k = numeric ks a may f k
one_fits ks _ a may f k = tt

one_own : (op : Op1) (k l : Kind) → l ≡ kind_in (asks_truth (asked_of_one op)) k → own_of_one op l ≡ own_of_one op k
one_own op1.Neg k l h = ap (own_of_one op1.Neg) h
one_own op1.Next k l h = h
one_own _ k l h = refl

-- the faults of the operand
one_parts : (place : Span) (op : Op1) (j : Judged) (may : May) (k : Kind) → first (tests_of_one place op j may ++ fault_if (is_wide k) range_too_wide place ∷ []) ≡ None
    → (j.fault (may_of_one op may) ≡ None) × (kind_fault (asked_of_one op) j ≡ None)
one_parts place op1.Next j may k f = ((first_none (j.fault (may_of_one op1.Next may)) (fault_if (not may.next) next_place place ∷ fault_if (is_wide k) range_too_wide place ∷ []) f).0, refl)
one_parts place op j may k f =
    let w : List (Option ModelFault) = fault_if (is_wide k) range_too_wide place ∷ [] in
    let t : Option ModelFault = fault_if (is_temporal_one op && not may.temporal) temporal_place place in
    let x = first_none (j.fault (may_of_one op may)) (t ∷ kind_fault (asked_of_one op) j ∷ w) f in
    let y = first_none t (kind_fault (asked_of_one op) j ∷ w) x.1 in
    (x.0, (first_none (kind_fault (asked_of_one op) j) w y.1).0)

one_tests : (place : Span) (op : Op1) (j l : Judged) (may : May) (k : Kind) → first (tests_of_one place op j may ++ fault_if (is_wide k) range_too_wide place ∷ []) ≡ None
    → l.fault (may_of_one op may) ≡ None → kind_fault (asked_of_one op) l ≡ None
    → first (tests_of_one place op l may ++ fault_if (is_wide k) range_too_wide place ∷ []) ≡ None
one_tests place op1.Next j l may k f h i =
    let r : List (Option ModelFault) = fault_if (not may.next) next_place place ∷ fault_if (is_wide k) range_too_wide place ∷ [] in
    first_of (l.fault (may_of_one op1.Next may)) r h (first_none (j.fault (may_of_one op1.Next may)) r f).1
one_tests place op j l may k f h i =
    let w : List (Option ModelFault) = fault_if (is_wide k) range_too_wide place ∷ [] in
    let t : Option ModelFault = fault_if (is_temporal_one op && not may.temporal) temporal_place place in
    let x = first_none (j.fault (may_of_one op may)) (t ∷ kind_fault (asked_of_one op) j ∷ w) f in
    let y = first_none t (kind_fault (asked_of_one op) j ∷ w) x.1 in
    let z = first_none (kind_fault (asked_of_one op) j) w y.1 in
    first_of (l.fault (may_of_one op may)) (t ∷ kind_fault (asked_of_one op) l ∷ w) h (first_of t (kind_fault (asked_of_one op) l ∷ w) y.0 (first_of (kind_fault (asked_of_one op) l) w i z.1))

pub one_stays : (ks : Kinds) (place : Span) (op : Op1) (a : Expr) → Stays ks (judged ks a) → Stays ks (walk.of_node ks (Node-F.One op (judged ks a)) place)
one_stays ks place op a s may b f g =
    let t : Bool = asks_truth (asked_of_one op) in
    let j : Judged = judged ks a in
    let x : Expr = j.settled t in
    let l : Judged = judged ks x in
    let p = one_parts place op j may (own_of_one op j.own) f in
    let h : Again (may_of_one op may) t j l = s (may_of_one op may) t p.0 (no_misfit_truth (asked_of_one op) j p.1) in
    let e : own_of_one op l.own ≡ own_of_one op j.own = one_own op j.own l.own h.own in
    again ks may b (walk.of_node ks (Node-F.One op j) place) (walk.of_node ks (Node-F.One op l) place) (put place (n.One op x)) (found ks place (n.One op x) (Node-F.One op x) (n.rolls-One op x))
    (e ∙ sym (kind_in_simple b (own_of_one op j.own) place g))
    (subst (λ (k : Kind). first (tests_of_one place op l may ++ fault_if (is_wide k) range_too_wide place ∷ []) ≡ None) (sym e)
    (one_tests place op j l may (own_of_one op j.own) f h.fault (kind_again ks (asked_of_one op) a h.own (one_fits ks op a may p.0 p.1))))
    (ap (λ (z : Expr). put place (n.One op z)) h.twice)

-- ---- two operands

both : (f : Kind → Kind → Kind) (k l k' l' : Kind) → k' ≡ k → l' ≡ l → f k' l' ≡ f k l
both f k l k' l' h i = ap (λ (z : Kind). f z l') h ∙ ap (f k) i

two_own : (op : Op2) → (op ≡ op2.Union → ⊥) → (k l k' l' : Kind) → k' ≡ kind_in (asks_truth (asked_of_two op k l)) k → l' ≡ kind_in (asks_truth (asked_of_two op k l)) l → own_of_two op k' l' ≡ own_of_two op k l
two_own op2.Add u k l k' l' h i = both (own_of_two op2.Add) k l k' l' h i
two_own op2.Sub u k l k' l' h i = both (own_of_two op2.Sub) k l k' l' h i
two_own op2.Mul u k l k' l' h i = both (own_of_two op2.Mul) k l k' l' h i
two_own op2.Div u k l k' l' h i = both (own_of_two op2.Div) k l k' l' h i
two_own op2.Mod u k l k' l' h i = both (own_of_two op2.Mod) k l k' l' h i
two_own op2.Union u k l k' l' h i = absurd (u refl)
two_own _ u k l k' l' h i = refl

abbrev side : Bool → Option Asks
side c = if c then Some truth else None

one_side : (k l k' l' : Kind) → k' ≡ kind_in (asks_truth (as_one_side k l)) k → l' ≡ kind_in (asks_truth (as_one_side k l)) l → as_one_side k' l' ≡ as_one_side k l
one_side k l k' l' = by (is_boolean k || is_boolean l) refl
  where
    by : (c : Bool) → (is_boolean k || is_boolean l) ≡ c → k' ≡ kind_in (asks_truth (side c)) k → l' ≡ kind_in (asks_truth (side c)) l → as_one_side k' l' ≡ side c
    by true e h i = ap (λ (z : Kind). as_one_side z l') h
    by false e h i = ap (λ (z : Kind). as_one_side z l') h ∙ ap (as_one_side k) i ∙ ap side e

two_asked : (op : Op2) (k l k' l' : Kind) → k' ≡ kind_in (asks_truth (asked_of_two op k l)) k → l' ≡ kind_in (asks_truth (asked_of_two op k l)) l → asked_of_two op k' l' ≡ asked_of_two op k l
two_asked op2.Eq k l k' l' h i = one_side k l k' l' h i
two_asked op2.Ne k l k' l' h i = one_side k l k' l' h i
two_asked op2.Member k l k' l' h i = one_side k l k' l' h i
two_asked op2.Union k l k' l' h i = one_side k l k' l' h i
two_asked _ k l k' l' h i = refl

side_fits : (c : Bool) (k : Kind) → OwnFits (if c then Some truth else None) k
side_fits true k = tt
side_fits false k = tt

left_fits : (ks : Kinds) (op : Op2) (a : Expr) (l : Kind) (may : May) → (judged ks a).fault (may_of_left op may) ≡ None → kind_fault (asked_of_two op (own ks a) l) (judged ks a) ≡ None → OwnFits (asked_of_two op (own ks a) l) (own ks a)
left_fits ks op2.Eq a l may f k = side_fits (is_boolean (own ks a) || is_boolean l) (own ks a)
left_fits ks op2.Ne a l may f k = side_fits (is_boolean (own ks a) || is_boolean l) (own ks a)
left_fits ks op2.Member a l may f k = side_fits (is_boolean (own ks a) || is_boolean l) (own ks a)
left_fits ks op2.Union a l may f k = side_fits (is_boolean (own ks a) || is_boolean l) (own ks a)
left_fits ks op2.Lt a l may f k = numeric ks a may f k
left_fits ks op2.Le a l may f k = numeric ks a may f k
left_fits ks op2.Gt a l may f k = numeric ks a may f k
left_fits ks op2.Ge a l may f k = numeric ks a may f k
left_fits ks op2.Add a l may f k = numeric ks a may f k
left_fits ks op2.Sub a l may f k = numeric ks a may f k
left_fits ks op2.Mul a l may f k = numeric ks a may f k
left_fits ks op2.Div a l may f k = numeric ks a may f k
left_fits ks op2.Mod a l may f k = numeric ks a may f k
left_fits ks _ a l may f k = tt

right_fits : (ks : Kinds) (op : Op2) (a : Expr) (l : Kind) (may : May) → (judged ks a).fault (may_of_right op may) ≡ None → kind_fault (asked_of_two op l (own ks a)) (judged ks a) ≡ None → OwnFits (asked_of_two op l (own ks a)) (own ks a)
right_fits ks op2.Eq a l may f k = side_fits (is_boolean l || is_boolean (own ks a)) (own ks a)
right_fits ks op2.Ne a l may f k = side_fits (is_boolean l || is_boolean (own ks a)) (own ks a)
right_fits ks op2.Member a l may f k = side_fits (is_boolean l || is_boolean (own ks a)) (own ks a)
right_fits ks op2.Union a l may f k = side_fits (is_boolean l || is_boolean (own ks a)) (own ks a)
right_fits ks op2.Lt a l may f k = numeric ks a may f k
right_fits ks op2.Le a l may f k = numeric ks a may f k
right_fits ks op2.Gt a l may f k = numeric ks a may f k
right_fits ks op2.Ge a l may f k = numeric ks a may f k
right_fits ks op2.Add a l may f k = numeric ks a may f k
right_fits ks op2.Sub a l may f k = numeric ks a may f k
right_fits ks op2.Mul a l may f k = numeric ks a may f k
right_fits ks op2.Div a l may f k = numeric ks a may f k
right_fits ks op2.Mod a l may f k = numeric ks a may f k
right_fits ks _ a l may f k = tt

divisor_again : (op : Op2) (k l l' : Kind) (p q : Span) → l' ≡ kind_in (asks_truth (asked_of_two op k l)) l → fault_if (divides op && has_zero l) divisor_may_be_zero p ≡ None → fault_if (divides op && has_zero l') divisor_may_be_zero q ≡ None
divisor_again op2.Div k l l' p q h f = ap (λ (c : Bool). fault_if c divisor_may_be_zero q) (ap has_zero h ∙ no_fault (has_zero l) divisor_may_be_zero p f)
divisor_again op2.Mod k l l' p q h f = ap (λ (c : Bool). fault_if c divisor_may_be_zero q) (ap has_zero h ∙ no_fault (has_zero l) divisor_may_be_zero p f)
divisor_again _ k l l' p q h f = refl

abbrev pub plain_two : Span → Op2 → Judged → Judged → Judged
plain_two place op a b = simple place (n.Two op a.tree b.tree) (own_of_two op a.own b.own) (tests_of_two place op a b) (settled_two op a b)

record TwoParts (place : Span) (op : Op2) (i j : Judged) (may : May) (k : Kind) : Type 0 where
  left : i.fault (may_of_left op may) ≡ None
  right : j.fault (may_of_right op may) ≡ None
  temporal : fault_if (is_temporal_two op && not may.temporal) temporal_place place ≡ None
  left_kind : kind_fault (asked_of_two op i.own j.own) i ≡ None
  right_kind : kind_fault (asked_of_two op i.own j.own) j ≡ None
  divisor : fault_if (divides op && has_zero j.own) divisor_may_be_zero j.tree.place ≡ None
  wide : fault_if (is_wide k) range_too_wide place ≡ None

two_parts : (place : Span) (op : Op2) (i j : Judged) (may : May) (k : Kind) → first (tests_of_two place op i j may ++ fault_if (is_wide k) range_too_wide place ∷ []) ≡ None → TwoParts place op i j may k
two_parts place op i j may k f =
    let w : List (Option ModelFault) = fault_if (is_wide k) range_too_wide place ∷ [] in
    let d : Option ModelFault = fault_if (divides op && has_zero j.own) divisor_may_be_zero j.tree.place in
    let kj : Option ModelFault = kind_fault (asked_of_two op i.own j.own) j in
    let ki : Option ModelFault = kind_fault (asked_of_two op i.own j.own) i in
    let t : Option ModelFault = fault_if (is_temporal_two op && not may.temporal) temporal_place place in
    let c1 = first_none (i.fault (may_of_left op may)) (j.fault (may_of_right op may) ∷ t ∷ ki ∷ kj ∷ d ∷ w) f in
    let c2 = first_none (j.fault (may_of_right op may)) (t ∷ ki ∷ kj ∷ d ∷ w) c1.1 in
    let c3 = first_none t (ki ∷ kj ∷ d ∷ w) c2.1 in
    let c4 = first_none ki (kj ∷ d ∷ w) c3.1 in
    let c5 = first_none kj (d ∷ w) c4.1 in
    let c6 = first_none d w c5.1 in
    record { left = c1.0; right = c2.0; temporal = c3.0; left_kind = c4.0; right_kind = c5.0; divisor = c6.0; wide = (first_none (fault_if (is_wide k) range_too_wide place) [] c6.1).0 }

two_tests : (place : Span) (op : Op2) (i j : Judged) (may : May) (k : Kind) → TwoParts place op i j may k → first (tests_of_two place op i j may ++ fault_if (is_wide k) range_too_wide place ∷ []) ≡ None
two_tests place op i j may k p =
    let w : List (Option ModelFault) = fault_if (is_wide k) range_too_wide place ∷ [] in
    let d : Option ModelFault = fault_if (divides op && has_zero j.own) divisor_may_be_zero j.tree.place in
    let kj : Option ModelFault = kind_fault (asked_of_two op i.own j.own) j in
    let ki : Option ModelFault = kind_fault (asked_of_two op i.own j.own) i in
    let t : Option ModelFault = fault_if (is_temporal_two op && not may.temporal) temporal_place place in
    first_of (i.fault (may_of_left op may)) (j.fault (may_of_right op may) ∷ t ∷ ki ∷ kj ∷ d ∷ w) p.left
    (first_of (j.fault (may_of_right op may)) (t ∷ ki ∷ kj ∷ d ∷ w) p.right
    (first_of t (ki ∷ kj ∷ d ∷ w) p.temporal
    (first_of ki (kj ∷ d ∷ w) p.left_kind
    (first_of kj (d ∷ w) p.right_kind
    (first_of d w p.divisor
    (first_of (fault_if (is_wide k) range_too_wide place) [] p.wide refl))))))

pub two_stays : (ks : Kinds) (place : Span) (op : Op2) → (op ≡ op2.Union → ⊥)
    → ((x y : Expr) → judged ks (put place (n.Two op x y)) ≡ plain_two place op (judged ks x) (judged ks y))
    → (a b : Expr) → Stays ks (judged ks a) → Stays ks (judged ks b) → Stays ks (plain_two place op (judged ks a) (judged ks b))
two_stays ks place op u found_two a c sa sc may b f g =
    let i : Judged = judged ks a in
    let j : Judged = judged ks c in
    let asks : Option Asks = asked_of_two op i.own j.own in
    let t : Bool = asks_truth asks in
    let x : Expr = i.settled t in
    let y : Expr = j.settled t in
    let i' : Judged = judged ks x in
    let j' : Judged = judged ks y in
    let p = two_parts place op i j may (own_of_two op i.own j.own) f in
    let h : Again (may_of_left op may) t i i' = sa (may_of_left op may) t p.left (no_misfit_truth asks i p.left_kind) in
    let k : Again (may_of_right op may) t j j' = sc (may_of_right op may) t p.right (no_misfit_truth asks j p.right_kind) in
    let e : own_of_two op i'.own j'.own ≡ own_of_two op i.own j.own = two_own op u i.own j.own i'.own j'.own h.own k.own in
    let q : asked_of_two op i'.own j'.own ≡ asks = two_asked op i.own j.own i'.own j'.own h.own k.own in
    again ks may b (plain_two place op i j) (plain_two place op i' j') (put place (n.Two op x y)) (found_two x y)
    (e ∙ sym (kind_in_simple b (own_of_two op i.own j.own) place g))
    (two_tests place op i' j' may (own_of_two op i'.own j'.own) (record {
      left = h.fault;
      right = k.fault;
      temporal = p.temporal;
      left_kind = ap (λ (z : Option Asks). kind_fault z i') q ∙ kind_again ks asks a h.own (left_fits ks op a j.own may p.left p.left_kind);
      right_kind = ap (λ (z : Option Asks). kind_fault z j') q ∙ kind_again ks asks c k.own (right_fits ks op c i.own may p.right p.right_kind);
      divisor = divisor_again op i.own j.own j'.own j.tree.place j'.tree.place k.own p.divisor;
      wide = ap (λ (z : Kind). fault_if (is_wide z) range_too_wide place) e ∙ p.wide;
    }))
    (ap (λ (z : Option Asks). put place (n.Two op (i'.settled (asks_truth z)) (j'.settled (asks_truth z)))) q
    ∙ ap (λ (z : Expr). put place (n.Two op z (j'.settled t))) h.twice
    ∙ ap (λ (z : Expr). put place (n.Two op x z)) k.twice)
