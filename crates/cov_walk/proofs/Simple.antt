-- What is found at a literal, a reading, a range and an operator.
use Rattle.std.proofs.Common.{◌≡◌, ℤ, pos, Bool, true, false, not, ◌||◌, if◌then◌else◌, IsFalse, List, [], ◌∷◌, Option, Some, None, Result, Ok, Err, refl, ap, sym, subst, ◌∙◌}
use Rattle.std.specs.Prelude.{int_lt}
use Rattle.std.specs.Ordering.{int_eq}
use Rattle.cov_syntax.specs.declared.tree.Span.{Span}
use Rattle.cov_syntax.specs.declared.fault.ModelFault.{ModelFault}
use Rattle.cov_syntax.specs.declared.fault.Refused.{Refused}
use Rattle.cov_syntax.specs.declared.tree.Value.{Value}
use Rattle.cov_syntax.specs.declared.tree.Value.TheVariants as v
use Rattle.cov_syntax.specs.declared.tree.Op2.{Op2}
use Rattle.cov_syntax.specs.declared.tree.Op2.TheVariants as op2
use Rattle.cov_syntax.specs.declared.tree.Node.{Node}
use Rattle.cov_syntax.specs.declared.tree.Node.TheVariants as n
use Rattle.cov_syntax.specs.declared.tree.Node.TheOpen.{Node-F}
use Rattle.cov_model.specs.Kinds as kinds
use Rattle.cov_model.specs.Kinds.{Kind, Kinds, interval, literal, own_of_two}
use Rattle.cov_model.specs.Walk.{first, fault_if, is_wide, bad_type, set_place, range_too_wide, May, Judged, simple, judged_bit, judged_literal, judged_two, tests_of_two, settled_two, of_node}
use Rattle.cov_kinds.specs.declared.kind.Kind.{Kind as Made}
use Rattle.cov_kinds.specs.Seen.{seen, IsKindOrWide}
use Rattle.cov_walk.specs.declared.misfits.Misfits.{Misfits}
use Rattle.cov_walk.specs.declared.found.Found.{Found}
use Rattle.cov_walk.specs.Misfits.{IsUnless}
use Rattle.cov_walk.specs.Found.{IsFound, Answers, TellsFault}
use Rattle.cov_walk.specs.Places.{is_bit, is_union}
use Rattle.cov_walk.proofs.Firsts.{first_behind, first_front, tells_first}

-- an expression here fits nothing
abbrev pub everywhere : Span → Misfits
everywhere place = record { truth = Some place; number = Some place; no_truth = Some place }

pub not_wide : (b : Bool) (place : Span) → IsFalse b → first (fault_if b range_too_wide place ∷ []) ≡ None
not_wide true place h = cc
not_wide false place h = refl

-- where no test finds a fault, and the kind is not too wide
pub simple_found : (place : Span) (m : Node) (k : Kind) (tests : May → List (Option ModelFault)) (s : Node) (may : May) (f : Found)
    → first (tests may) ≡ None → IsFalse (is_wide k) → seen f.own ≡ k → IsUnless k (everywhere place) f.misfits → IsFound (simple place m k tests s) may f
simple_found place m k tests s may f t w o u = record {
  own = o;
  misfits = record { truth = u.truth; number = u.number; no_truth = u.no_truth };
  none = first_behind (tests may) (fault_if (is_wide k) range_too_wide place ∷ []) t ∙ not_wide (is_wide k) place w;
}

-- where a test finds a fault
pub simple_told : (place : Span) (m : Node) (k : Kind) (tests : May → List (Option ModelFault)) (s : Node) (may : May) (r : Refused)
    → TellsFault (first (tests may)) r → TellsFault ((simple place m k tests s).fault may) r
simple_told place m k tests s may r h =
    subst (λ (o : Option ModelFault). TellsFault o r) (sym (first_front (tests may) (fault_if (is_wide k) range_too_wide place ∷ []))) (tells_first (first (tests may)) (fault_if (is_wide k) range_too_wide place ∷ []) r h)

-- the kind that was not too wide
pub taken : (o : Option Made) (k : Made) (l : Kind) → o ≡ Some k → IsKindOrWide o l → (seen k ≡ l) × IsFalse (is_wide l)
taken o k l e h = let P : Option Made → Type 0 = λ o. IsKindOrWide o l in subst P e h

-- ---- literals

pub bit_found : (place : Span) (x : Value) (may : May) (f : Found) → is_bit x ≡ true → seen f.own ≡ literal x → f.misfits ≡ record { truth = None; number = None; no_truth = None } → IsFound (judged_literal place x) may f
bit_found place (v.Bool b) may f h o m = cc
bit_found place (v.Sym s) may f h o m = cc
bit_found place (v.Int i) may f h o m = by (int_eq i (pos 0)) (int_eq i (pos 1)) h
  where
    by : (a b : Bool) → (a || b) ≡ true → IsFound (elim (if a then Some false else if b then Some true else None) [ None ↦ simple place (n.Lit (v.Int i)) (interval i i) (λ may. []) (n.Lit (v.Int i)) | Some c ↦ judged_bit place i c ]) may f
    by true b h = record { own = o; misfits = record { truth = ap (λ (m : Misfits). m.truth) m; number = ap (λ (m : Misfits). m.number) m; no_truth = ap (λ (m : Misfits). m.no_truth) m }; none = refl }
    by false true h = record { own = o; misfits = record { truth = ap (λ (m : Misfits). m.truth) m; number = ap (λ (m : Misfits). m.number) m; no_truth = ap (λ (m : Misfits). m.no_truth) m }; none = refl }
    by false false h = cc

pub literal_found : (place : Span) (x : Value) (may : May) (f : Found) → is_bit x ≡ false → IsFalse (is_wide (literal x)) → seen f.own ≡ literal x → IsUnless (literal x) (everywhere place) f.misfits → IsFound (judged_literal place x) may f
literal_found place (v.Bool b) may f h w o u = simple_found place (n.Lit (v.Bool b)) kinds.boolean (λ may. []) (n.Lit (v.Bool b)) may f refl w o u
literal_found place (v.Sym s) may f h w o u = simple_found place (n.Lit (v.Sym s)) (literal (v.Sym s)) (λ may. []) (n.Lit (v.Sym s)) may f refl w o u
literal_found place (v.Int i) may f h w o u = by (int_eq i (pos 0)) (int_eq i (pos 1)) h
  where
    by : (a b : Bool) → (a || b) ≡ false → IsFound (elim (if a then Some false else if b then Some true else None) [ None ↦ simple place (n.Lit (v.Int i)) (interval i i) (λ may. []) (n.Lit (v.Int i)) | Some c ↦ judged_bit place i c ]) may f
    by true b h = cc
    by false true h = cc
    by false false h = simple_found place (n.Lit (v.Int i)) (interval i i) (λ may. []) (n.Lit (v.Int i)) may f refl w o u

-- ---- ranges

leaf_tests : (place : Span) (m s : Node) (k : Kind) (tests : May → List (Option ModelFault)) (may : May) (r : Result Found Refused)
    → first (tests may) ≡ None → Answers (simple place m k (λ may. []) s) may r → Answers (simple place m k tests s) may r
leaf_tests place m s k tests may (Ok f) t h = record { own = h.own; misfits = h.misfits; none = first_behind (tests may) (fault_if (is_wide k) range_too_wide place ∷ []) t ∙ h.none }
leaf_tests place m s k tests may (Err y) t h = subst (λ (o : Option ModelFault). TellsFault o y) (sym (first_behind (tests may) (fault_if (is_wide k) range_too_wide place ∷ []) t)) h

pub two_none : (a b : Option ModelFault) → a ≡ None → b ≡ None → first (a ∷ b ∷ []) ≡ None
two_none None None h k = refl
two_none None (Some y) h k = cc
two_none (Some x) b h k = cc

pub range_answers : (ks : Kinds) (place : Span) (low high l h : ℤ) (may : May) (r : Result Found Refused) → l ≡ low → h ≡ high
    → fault_if (int_lt h l) bad_type place ≡ None → fault_if (not may.set) set_place place ≡ None
    → Answers (simple place (n.Range low high) (interval l h) (λ may. []) (n.Range low high)) may r
    → Answers (of_node ks (Node-F.Range low high) place) may r
range_answers ks place low high l h may r p q b s a =
    let A : ℤ → ℤ → Type 0 = λ x y. (fault_if (int_lt y x) bad_type place ≡ None) × Answers (simple place (n.Range low high) (interval x y) (λ may. []) (n.Range low high)) may r in
    let now : A low high = subst (λ x. A x high) p (subst (λ y. A l y) q (b, a)) in
    leaf_tests place (n.Range low high) (n.Range low high) (interval low high)
    (λ may. fault_if (int_lt high low) bad_type place ∷ fault_if (not may.set) set_place place ∷ []) may r
    (two_none (fault_if (int_lt high low) bad_type place) (fault_if (not may.set) set_place place) now.0 s) now.1

-- ---- two operands

pub simple_two : (place : Span) (op : Op2) (i j : Judged) → IsFalse (is_union op)
    → judged_two place op i j ≡ simple place (n.Two op i.tree j.tree) (own_of_two op i.own j.own) (tests_of_two place op i j) (settled_two op i j)
simple_two place op2.Union i j h = cc
simple_two place op i j h = refl

pub two_told : (place : Span) (op : Op2) (i j : Judged) (may : May) (r : Refused) → IsFalse (is_union op) → TellsFault (first (tests_of_two place op i j may)) r → TellsFault ((judged_two place op i j).fault may) r
two_told place op i j may r u h =
    subst (λ (x : Judged). TellsFault (x.fault may) r) (sym (simple_two place op i j u))
    (simple_told place (n.Two op i.tree j.tree) (own_of_two op i.own j.own) (tests_of_two place op i j) (settled_two op i j) may r h)

pub two_found : (place : Span) (op : Op2) (i j : Judged) (may m m' : May) (left right f : Found) (o : Option Made) (k : Made) → IsFalse (is_union op)
    → IsFound i m left → IsFound j m' right → first (tests_of_two place op i j may) ≡ None
    → o ≡ Some k → IsKindOrWide o (own_of_two op (seen left.own) (seen right.own))
    → f.own ≡ k → IsUnless (seen k) (everywhere place) f.misfits
    → IsFound (judged_two place op i j) may f
two_found place op i j may m m' left right f o k u g h t e w p q =
    let s = taken o k (own_of_two op i.own j.own) e
    (subst (λ (a : Kind). IsKindOrWide o (own_of_two op a j.own)) g.own (subst (λ (b : Kind). IsKindOrWide o (own_of_two op (seen left.own) b)) h.own w)) in
    subst (λ (x : Judged). IsFound x may f) (sym (simple_two place op i j u))
    (simple_found place (n.Two op i.tree j.tree) (own_of_two op i.own j.own) (tests_of_two place op i j) (settled_two op i j) may f t s.1 (ap seen p ∙ s.0)
    (subst (λ (a : Kind). IsUnless a (everywhere place) f.misfits) s.0 q))

-- ---- what is told

pub answers_told : (j : Judged) (may : May) (r : Result Found Refused) (z : Refused) → r ≡ Err z → TellsFault (j.fault may) z → Answers j may r
answers_told j may r z e h = let P : Result Found Refused → Type 0 = λ r. Answers j may r in subst P (sym e) h

pub wide_told : (o : Option Made) (k : Kind) (place : Span) (z : Refused) → o ≡ None → IsKindOrWide o k → TellsFault (fault_if true range_too_wide place) z → TellsFault (fault_if (is_wide k) range_too_wide place) z
wide_told o k place z e h t =
    let P : Option Made → Type 0 = λ o. IsKindOrWide o k in
    let w : is_wide k ≡ true = subst P e h in
    subst (λ (b : Bool). TellsFault (fault_if b range_too_wide place) z) (sym w) t
