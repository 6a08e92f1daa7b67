-- What is claimed of an expression in which the walk finds no fault and in whose Boolean places no 0 or 1 stands, and the pieces that the claims are made of.
use Rattle.std.proofs.Common.{◌≡◌, ℕ, Bool, true, false, not, if◌then◌else◌, IsTrue, IsFalse, List, [], ◌∷◌, ◌++◌, map, Option, Some, None, refl, sym, ap, subst, ◌∙◌, arith}
use Rattle.cov_syntax.specs.declared.tree.Span.{Span}
use Rattle.cov_syntax.specs.declared.fault.ModelFault.{ModelFault}
use Rattle.cov_syntax.specs.declared.tree.Value.{Value}
use Rattle.cov_syntax.specs.declared.tree.Value.TheVariants as v
use Rattle.cov_syntax.specs.declared.tree.Expr.{Expr, roll-Expr}
use Rattle.cov_syntax.specs.declared.tree.Branch.{Branch, roll-Branch}
use Rattle.cov_syntax.specs.declared.tree.Node.{Node, roll-Node, out-Node, out-roll-Node}
use Rattle.cov_syntax.specs.declared.tree.Node.TheVariants as n
use Rattle.cov_syntax.specs.declared.tree.Node.TheOpen.{Node-F, Branch-F, Expr-F}
use Rattle.cov_model.specs.Values.{same_value, whole, machine}
use Rattle.cov_model.specs.Meaning.{Point, Meaning, single}
use Rattle.cov_model.specs.Kinds.{Kind, boolean, interval, among, is_boolean, is_number, Kinds, of_kind}
use Rattle.cov_model.specs.Walk.{first, fault_if, May, Asks, truth, number, kind_fits, Judged, put, kind_fault, asks_truth}
use Rattle.cov_model.specs.Laws.{ReadsKinds, kind_in, Keeps}
use Rattle.cov_model.proofs.Joins.{same_value-eq}

-- what the walk finds at an expression, and what it means, in whole numbers and in the machine's
pub record Tied (ks : Kinds) (j : Judged) (w m : Meaning) (e : Expr) : Type 0 where
  pub tree : j.tree ≡ e
  pub is_numeric : (may : May) → j.fault may ≡ None → IsFalse may.set → j.misfit number ≡ None → IsTrue (is_number j.own)
  pub keeps : (may : May) (b : Bool) (p : Point) → j.fault may ≡ None → (IsTrue b → j.misfit truth ≡ None) → j.settled b ≡ e
      → ReadsKinds ks p.present → ReadsKinds ks p.next → Keeps (kind_in b j.own) may w m p

pub retie : (ks : Kinds) {j k : Judged} {w x m y : Meaning} {e f : Expr} → j ≡ k → w ≡ x → m ≡ y → e ≡ f → Tied ks j w m e → Tied ks k x y f
retie ks {j = j} {k = k} {w = w} {x = x} {m = m} {y = y} {e = e} {f = f} h i q r t =
    subst (λ (z : Expr). Tied ks k x y z) r
    (subst (λ (z : Meaning). Tied ks k x z e) q
    (subst (λ (z : Meaning). Tied ks k z m e) i
    (subst (λ (z : Judged). Tied ks z w m e) h t)))

-- ---- faults that are not there

pub first_none : {A : Type 0} (x : Option A) (xs : List (Option A)) → first (x ∷ xs) ≡ None → (x ≡ None) × (first xs ≡ None)
first_none None xs h = (refl, h)
first_none (Some x) xs h = cc

pub first_none_left : {A : Type 0} (xs ys : List (Option A)) → first (xs ++ ys) ≡ None → first xs ≡ None
first_none_left [] ys h = refl
first_none_left (None ∷ xs) ys h = first_none_left xs ys h
first_none_left (Some x ∷ xs) ys h = cc

pub first_none_right : {A : Type 0} (xs ys : List (Option A)) → first (xs ++ ys) ≡ None → first ys ≡ None
first_none_right [] ys h = h
first_none_right (x ∷ xs) ys h = first_none_right xs ys (first_none x (xs ++ ys) h).1

pub no_fault : (b : Bool) (code : ℕ) (place : Span) → fault_if b code place ≡ None → b ≡ false
no_fault true code place h = cc
no_fault false code place h = refl

pub no_misfit : (asks : Asks) (j : Judged) → kind_fault (Some asks) j ≡ None → j.misfit asks ≡ None
no_misfit asks j h = by (j.misfit asks) refl h
  where
    by : (o : Option Span) → j.misfit asks ≡ o → kind_fault (Some asks) j ≡ None → o ≡ None
    by None e h = refl
    by (Some place) e h = cc

-- where a place asks for a Boolean
pub no_misfit_truth : (asks : Option Asks) (j : Judged) → kind_fault asks j ≡ None → IsTrue (asks_truth asks) → j.misfit truth ≡ None
no_misfit_truth None j h t = cc
no_misfit_truth (Some truth) j h t = no_misfit truth j h
no_misfit_truth (Some number) j h t = cc
no_misfit_truth (Some Asks.no_truth) j h t = cc

pub fits_where : (b : Bool) (place : Span) → (if b then None else Some place) ≡ None → b ≡ true
fits_where true place h = refl
fits_where false place h = cc

pub is_boolean-eq : (k : Kind) → is_boolean k ≡ true → k ≡ boolean
is_boolean-eq boolean h = refl
is_boolean-eq (interval low high) h = cc
is_boolean-eq (among xs) h = cc

-- an expression that fits a Boolean place by its own kind
pub kind_in_simple : (b : Bool) (k : Kind) (place : Span) → (IsTrue b → (if kind_fits truth k then None else Some place) ≡ None) → kind_in b k ≡ k
kind_in_simple true k place h = sym (is_boolean-eq k (fits_where (is_boolean k) place (h refl)))
kind_in_simple false k place h = refl

-- ---- meanings

pub single_keeps : (k : Kind) (may : May) (f g : Point → Value) (p : Point) → IsTrue (of_kind k (f p)) → g p ≡ f p → Keeps k may (single f) (single g) p
single_keeps k may f g p h e = record {
  choices = λ x q. subst (λ (y : Value). IsTrue (of_kind k y)) (same_value-eq (f p) x q) h;
  value_of = λ s. h;
  same_choices = λ x. ap (λ (y : Value). same_value y x) e;
  same_value = e;
}

-- ---- trees

abbrev pub Layer : Type 0
Layer = Node-F Node Branch Expr

-- what stands in a node is known by the node
pub injected : (m : Node) (k l : Layer) (place : Span) → roll-Node k ≡ m → put place m ≡ put place (roll-Node l) → k ≡ l
injected m k l place r h = sym (out-roll-Node k) ∙ ap out-Node r ∙ ap (λ (e : Expr). out-Node e.node) h ∙ out-roll-Node l
