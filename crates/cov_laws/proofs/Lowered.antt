-- What an expression is lowered to is true exactly where the expression is.
use Rattle.std.proofs.Common.{◌≡◌, Bool, true, false, not, ◌&&◌, ◌||◌, IsTrue, IsFalse, ◌⊎◌, ◌↔◌, inl, inr, Option, Some, None, refl, sym, ap, subst, ◌∙◌}
use Rattle.std.specs.Str.{bytes_eq}
use Rattle.std.proofs.lemmas.Bool.{cases_Bool, cond-true, cond-false}
use Rattle.cov_syntax.specs.declared.tree.Span.{Span}
use Rattle.cov_syntax.specs.declared.tree.Op1.TheVariants as op1
use Rattle.cov_syntax.specs.declared.tree.Op2.TheVariants as op2
use Rattle.cov_syntax.specs.declared.tree.Expr.{Expr}
use Rattle.cov_syntax.specs.declared.tree.Branch.{Branch}
use Rattle.cov_syntax.specs.declared.tree.Node.{Node, roll-Node, out-Node, out-roll-Node}
use Rattle.cov_syntax.specs.declared.tree.Node.TheOpen.{Node-F}
use Rattle.cov_syntax.specs.declared.tree.Node.TheFolds.{map-Node, fold-Node, fold-Branch, fold-Expr}
use Rattle.cov_logic.specs.Formula as logic
use Rattle.cov_logic.specs.Truth.{Sat}
use Rattle.cov_logic.proofs.Tests.{not_is, and_is, or_is}
use Rattle.cov_model.specs.declared.model.Model.{Model}
use Rattle.cov_model.specs.declared.model.Signal.{Signal}
use Rattle.cov_model.specs.Meaning.{Meaning, of_node}
use Rattle.cov_model.specs.Values.{truth, same_truth, whole}
use Rattle.cov_model.specs.Paths.{structure, mutant_labelling}
use Rattle.cov_model.specs.States.{State, holds, at}
use Rattle.cov_model.specs.Walk.{put}
use Rattle.cov_model.proofs.Closed.{meaning_step, meant, by_top}
use Rattle.cov_order.proofs.ByParts.{Layer, EachPart, by_parts, fold_step}
use Rattle.cov_ctl.specs.declared.formula.Formula.{Formula}
use Rattle.cov_ctl.specs.declared.formula.Formula.TheVariants as f
use Rattle.cov_ctl.specs.declared.formula.Formula.TheFolds as formulas
use Rattle.cov_ctl.specs.Formulas.{formula_of}
use Rattle.cov_ctl.specs.Temporal.{temporal_layer, temporal_branch, temporal_expr, is_temporal, node_is_temporal, branch_is_temporal}
use Rattle.cov_ctl.specs.Lowered.{lowered, lowered_layer, written_out, on_node, on_branch, on_expr}
use Rattle.cov_laws.specs.Lowering.{ReadsAt, LoweredIsRight}

-- ---- a tree by its top node

abbrev lowering : Expr → Expr → Formula
lowering = fold-Expr (Expr → Formula) (Branch → Formula) (Expr → Formula) on_node on_branch on_expr

abbrev lowering_layer : Layer → Node-F (Expr → Formula) (Branch → Formula) (Expr → Formula)
lowering_layer l =
    map-Node Node Branch Expr (Expr → Formula) (Branch → Formula) (Expr → Formula)
    (fold-Node (Expr → Formula) (Branch → Formula) (Expr → Formula) on_node on_branch on_expr)
    (fold-Branch (Expr → Formula) (Branch → Formula) (Expr → Formula) on_node on_branch on_expr) lowering l

abbrev of_layer : Span → Layer → Formula
of_layer place l = lowered_layer (put place (roll-Node l)) (lowering_layer l) l

lowered_step : (place : Span) (l : Layer) → lowered (put place (roll-Node l)) ≡ of_layer place l
lowered_step place l =
    let e : Expr = put place (roll-Node l) in
    ap (λ (t : Expr → Formula). t e) (fold_step (Expr → Formula) (Branch → Formula) (Expr → Formula) on_node on_branch on_expr place l)
    ∙ ap (λ (k : Layer). lowered_layer e (lowering_layer l) k) (out-roll-Node l)

abbrev parts_temporal : Layer → Bool
parts_temporal l = temporal_layer (map-Node Node Branch Expr Bool Bool Bool node_is_temporal branch_is_temporal is_temporal l)

temporal_step : (place : Span) (l : Layer) → is_temporal (put place (roll-Node l)) ≡ parts_temporal l
temporal_step place l = fold_step Bool Bool Bool temporal_layer temporal_branch temporal_expr place l

-- ---- the formula of a node

of_atom : (e : Expr) → formula_of (f.Atom e) ≡ logic.Atom e
of_atom e = search formulas.the_lemmas

of_not : (a : Formula) → formula_of (f.Not a) ≡ logic.Not (formula_of a)
of_not a = search formulas.the_lemmas

of_and : (a b : Formula) → formula_of (f.And a b) ≡ logic.And (formula_of a) (formula_of b)
of_and a b = search formulas.the_lemmas

of_or : (a b : Formula) → formula_of (f.Or a b) ≡ logic.Or (formula_of a) (formula_of b)
of_or a b = search formulas.the_lemmas

of_implies : (a b : Formula) → formula_of (f.Implies a b) ≡ logic.Implies (formula_of a) (formula_of b)
of_implies a b = search formulas.the_lemmas

-- `a & b | !a & !b`, and `a & !b | !a & b`
of_iff : (a b : Formula) → formula_of (written_out op2.Iff a b)
    ≡ logic.Or (logic.And (formula_of a) (formula_of b)) (logic.And (logic.Not (formula_of a)) (logic.Not (formula_of b)))
of_iff a b = search formulas.the_lemmas

of_xor : (a b : Formula) → formula_of (written_out op2.Xor a b)
    ≡ logic.Or (logic.And (formula_of a) (logic.Not (formula_of b))) (logic.And (logic.Not (formula_of a)) (formula_of b))
of_xor a b = search formulas.the_lemmas

-- ---- tests

implies_is : (x y : Bool) → IsTrue (not x || y) ↔ (IsTrue x → IsTrue y)
implies_is true y = (λ h _. h, λ h. h refl)
implies_is false y = (λ h e. cc, λ h. refl)

no_left : (x y : Bool) → IsFalse (x || y) → IsFalse x
no_left true y h = cc
no_left false y h = refl

no_right : (x y : Bool) → IsFalse (x || y) → IsFalse y
no_right true y h = cc
no_right false y h = h

same_is : (x y : Bool) → IsTrue (same_truth x y) ↔ ((IsTrue x × IsTrue y) ⊎ ((¬ IsTrue x) × (¬ IsTrue y)))
same_is true true = (λ h. inl (refl, refl), λ h. refl)
same_is true false = (λ h. cc, λ h. elim h [ inl p ↦ p.1 | inr n ↦ absurd (n.0 refl) ])
same_is false true = (λ h. cc, λ h. elim h [ inl p ↦ p.0 | inr n ↦ absurd (n.1 refl) ])
same_is false false = (λ h. inr (λ e. cc, λ e. cc), λ h. refl)

other_is : (x y : Bool) → IsTrue (not (same_truth x y)) ↔ ((IsTrue x × (¬ IsTrue y)) ⊎ ((¬ IsTrue x) × IsTrue y))
other_is true true = (λ h. cc, λ h. elim h [ inl p ↦ absurd (p.1 refl) | inr n ↦ absurd (n.0 refl) ])
other_is true false = (λ h. inl (refl, λ e. cc), λ h. refl)
other_is false true = (λ h. inr (λ e. cc, refl), λ h. refl)
other_is false false = (λ h. cc, λ h. elim h [ inl p ↦ p.0 | inr n ↦ n.1 ])

module _ (m : Model) (label : State → Expr → Bool) (s : State) (flip : Option Signal) (reads : ReadsAt m label s flip) where
  abbrev True : Formula → Type 0
  True x = Sat (structure m) label (formula_of x) s

  abbrev Holds : Expr → Type 0
  Holds e = IsTrue (holds m e s flip)

  -- the same truth under equal formulas
  by_formula : (x : Formula) (y : logic.Formula Expr) → formula_of x ≡ y → (P : Type 0) → Sat (structure m) label y s ↔ P → True x ↔ P
  by_formula x y e P h = subst (λ z. Sat (structure m) label z s ↔ P) (sym e) h

  -- the tree holds by its top node
  abbrev layer_holds : Layer → Bool
  layer_holds l = truth ((of_node whole (meant whole l)).value (at m s flip))

  holds_step : (place : Span) (l : Layer) → holds m (put place (roll-Node l)) s flip ≡ layer_holds l
  holds_step place l = ap (λ (x : Meaning). truth (x.value (at m s flip))) (meaning_step whole place l)

  abbrev R : Expr → Type 0
  R e = IsFalse (is_temporal e) → True (lowered e) ↔ Holds e

  -- an atom is true where it holds
  at_atom : (e : Expr) → True (f.Atom e) ↔ Holds e
  at_atom e = by_formula (f.Atom e) (logic.Atom e) (of_atom e) (Holds e) (λ h. sym (reads.by e) ∙ h, λ h. reads.by e ∙ h)

  at_not : (a : Expr) (e : Expr) → holds m e s flip ≡ not (holds m a s flip) → True (lowered a) ↔ Holds a → True (f.Not (lowered a)) ↔ Holds e
  at_not a e is h =
      by_formula (f.Not (lowered a)) (logic.Not (formula_of (lowered a))) (of_not (lowered a)) (Holds e) (
        λ n. is ∙ (not_is (holds m a s flip)).1 (λ p. n (h.1 p)),
        λ p t. (not_is (holds m a s flip)).0 (sym is ∙ p) (h.0 t),
      )

  at_and : (a b : Expr) (e : Expr) → holds m e s flip ≡ (holds m a s flip && holds m b s flip) →
      True (lowered a) ↔ Holds a → True (lowered b) ↔ Holds b → True (f.And (lowered a) (lowered b)) ↔ Holds e
  at_and a b e is h k =
      by_formula (f.And (lowered a) (lowered b)) (logic.And (formula_of (lowered a)) (formula_of (lowered b))) (of_and (lowered a) (lowered b)) (Holds e) (
        λ p. is ∙ (and_is (holds m a s flip) (holds m b s flip)).1 (h.0 p.0, k.0 p.1),
        λ p. let q = (and_is (holds m a s flip) (holds m b s flip)).0 (sym is ∙ p) in (h.1 q.0, k.1 q.1),
      )

  at_or : (a b : Expr) (e : Expr) → holds m e s flip ≡ (holds m a s flip || holds m b s flip) →
      True (lowered a) ↔ Holds a → True (lowered b) ↔ Holds b → True (f.Or (lowered a) (lowered b)) ↔ Holds e
  at_or a b e is h k =
      by_formula (f.Or (lowered a) (lowered b)) (logic.Or (formula_of (lowered a)) (formula_of (lowered b))) (of_or (lowered a) (lowered b)) (Holds e) (
        λ p. is ∙ (or_is (holds m a s flip) (holds m b s flip)).1 (elim p [ inl x ↦ inl (h.0 x) | inr y ↦ inr (k.0 y) ]),
        λ p. elim ((or_is (holds m a s flip) (holds m b s flip)).0 (sym is ∙ p)) [ inl x ↦ inl (h.1 x) | inr y ↦ inr (k.1 y) ],
      )

  at_implies : (a b : Expr) (e : Expr) → holds m e s flip ≡ (not (holds m a s flip) || holds m b s flip) →
      True (lowered a) ↔ Holds a → True (lowered b) ↔ Holds b → True (f.Implies (lowered a) (lowered b)) ↔ Holds e
  at_implies a b e is h k =
      by_formula (f.Implies (lowered a) (lowered b)) (logic.Implies (formula_of (lowered a)) (formula_of (lowered b)))
      (of_implies (lowered a) (lowered b)) (Holds e) (
        λ p. is ∙ (implies_is (holds m a s flip) (holds m b s flip)).1 (λ x. k.0 (p (h.1 x))),
        λ p x. k.1 ((implies_is (holds m a s flip) (holds m b s flip)).0 (sym is ∙ p) (h.0 x)),
      )

  at_layer : (place : Span) (l : Layer) → EachPart R l → IsFalse (parts_temporal l) → True (of_layer place l) ↔ Holds (put place (roll-Node l))
  at_layer place (Node-F.One op1.Not a) r u = at_not a _ (holds_step place (Node-F.One op1.Not a)) (r u)
  at_layer place (Node-F.One op1.Neg a) r u = at_atom _
  at_layer place (Node-F.One op1.Next a) r u = at_atom _
  at_layer place (Node-F.One _ a) r u = cc
  at_layer place (Node-F.Two op2.And a b) r u =
      at_and a b _ (holds_step place (Node-F.Two op2.And a b)) (r.0 (no_left (is_temporal a) (is_temporal b) u)) (r.1 (no_right (is_temporal a) (is_temporal b) u))
  at_layer place (Node-F.Two op2.Or a b) r u =
      at_or a b _ (holds_step place (Node-F.Two op2.Or a b)) (r.0 (no_left (is_temporal a) (is_temporal b) u)) (r.1 (no_right (is_temporal a) (is_temporal b) u))
  at_layer place (Node-F.Two op2.Implies a b) r u =
      at_implies a b _ (holds_step place (Node-F.Two op2.Implies a b)) (r.0 (no_left (is_temporal a) (is_temporal b) u))
      (r.1 (no_right (is_temporal a) (is_temporal b) u))
  at_layer place (Node-F.Two op2.Iff a b) r u =
      let e : Expr = put place (roll-Node (Node-F.Two op2.Iff a b)) in
      subst (λ x. True x ↔ Holds e) (sym (cond-false (is_temporal a || is_temporal b) (written_out op2.Iff (lowered a) (lowered b)) (f.Atom e) u)) (at_atom e)
  at_layer place (Node-F.Two op2.Xor a b) r u =
      let e : Expr = put place (roll-Node (Node-F.Two op2.Xor a b)) in
      subst (λ x. True x ↔ Holds e) (sym (cond-false (is_temporal a || is_temporal b) (written_out op2.Xor (lowered a) (lowered b)) (f.Atom e) u)) (at_atom e)
  at_layer place (Node-F.Two op2.Au a b) r u = cc
  at_layer place (Node-F.Two op2.Eu a b) r u = cc
  at_layer place (Node-F.Two _ a b) r u = at_atom _
  at_layer place _ r u = at_atom _

  plain_holds : (e : Expr) → R e
  plain_holds = by_parts R (λ place l r u.
      subst (λ x. True x ↔ Holds (put place (roll-Node l))) (sym (lowered_step place l)) (at_layer place l r (sym (temporal_step place l) ∙ u)))

  -- both are true or neither is
  abbrev BothOrNeither : Expr → Expr → Type 0
  BothOrNeither a b = (True (lowered a) × True (lowered b)) ⊎ ((¬ True (lowered a)) × (¬ True (lowered b)))

  -- one of them is true alone
  abbrev OneAlone : Expr → Expr → Type 0
  OneAlone a b = (True (lowered a) × (¬ True (lowered b))) ⊎ ((¬ True (lowered a)) × True (lowered b))

  -- without CTL operators it is one atom
  plain_iff : (a b e : Expr) → holds m e s flip ≡ same_truth (holds m a s flip) (holds m b s flip) → True (lowered a) ↔ Holds a → True (lowered b) ↔ Holds b →
      True (f.Atom e) ↔ BothOrNeither a b
  plain_iff a b e is h k = (
    λ t. elim ((same_is (holds m a s flip) (holds m b s flip)).0 (sym is ∙ (at_atom e).0 t)) [
      | inl p ↦ inl (h.1 p.0, k.1 p.1)
      | inr n ↦ inr (λ x. n.0 (h.0 x), λ y. n.1 (k.0 y))
    ],
    λ p. (at_atom e).1 (is ∙ (same_is (holds m a s flip) (holds m b s flip)).1 (elim p [
      | inl q ↦ inl (h.0 q.0, k.0 q.1)
      | inr n ↦ inr (λ x. n.0 (h.1 x), λ y. n.1 (k.1 y))
    ])),
  )

  plain_xor : (a b e : Expr) → holds m e s flip ≡ not (same_truth (holds m a s flip) (holds m b s flip)) → True (lowered a) ↔ Holds a → True (lowered b) ↔ Holds b →
      True (f.Atom e) ↔ OneAlone a b
  plain_xor a b e is h k = (
    λ t. elim ((other_is (holds m a s flip) (holds m b s flip)).0 (sym is ∙ (at_atom e).0 t)) [
      | inl p ↦ inl (h.1 p.0, λ y. p.1 (k.0 y))
      | inr n ↦ inr (λ x. n.0 (h.0 x), k.1 n.1)
    ],
    λ p. (at_atom e).1 (is ∙ (other_is (holds m a s flip) (holds m b s flip)).1 (elim p [
      | inl q ↦ inl (h.0 q.0, λ y. q.1 (k.1 y))
      | inr n ↦ inr (λ x. n.0 (h.1 x), k.0 n.1)
    ])),
  )

  -- with them it is written out, or it is one atom
  iff_at : (place : Span) (a b : Expr) → True (lowered (put place (roll-Node (Node-F.Two op2.Iff a b)))) ↔ BothOrNeither a b
  iff_at place a b =
      let e : Expr = put place (roll-Node (Node-F.Two op2.Iff a b)) in
      let out : Formula = written_out op2.Iff (lowered a) (lowered b) in
      subst (λ x. True x ↔ BothOrNeither a b) (sym (lowered_step place (Node-F.Two op2.Iff a b)))
      (elim (cases_Bool (is_temporal a || is_temporal b)) [
        | inl t ↦
            subst (λ x. True x ↔ BothOrNeither a b) (sym (cond-true (is_temporal a || is_temporal b) out (f.Atom e) t))
            (by_formula out _ (of_iff (lowered a) (lowered b)) (BothOrNeither a b) (λ h. h, λ h. h))
        | inr u ↦
            subst (λ x. True x ↔ BothOrNeither a b) (sym (cond-false (is_temporal a || is_temporal b) out (f.Atom e) u))
            (plain_iff a b e (holds_step place (Node-F.Two op2.Iff a b)) (plain_holds a (no_left (is_temporal a) (is_temporal b) u))
            (plain_holds b (no_right (is_temporal a) (is_temporal b) u)))
      ])

  xor_at : (place : Span) (a b : Expr) → True (lowered (put place (roll-Node (Node-F.Two op2.Xor a b)))) ↔ OneAlone a b
  xor_at place a b =
      let e : Expr = put place (roll-Node (Node-F.Two op2.Xor a b)) in
      let out : Formula = written_out op2.Xor (lowered a) (lowered b) in
      subst (λ x. True x ↔ OneAlone a b) (sym (lowered_step place (Node-F.Two op2.Xor a b)))
      (elim (cases_Bool (is_temporal a || is_temporal b)) [
        | inl t ↦
            subst (λ x. True x ↔ OneAlone a b) (sym (cond-true (is_temporal a || is_temporal b) out (f.Atom e) t))
            (by_formula out _ (of_xor (lowered a) (lowered b)) (OneAlone a b) (λ h. h, λ h. h))
        | inr u ↦
            subst (λ x. True x ↔ OneAlone a b) (sym (cond-false (is_temporal a || is_temporal b) out (f.Atom e) u))
            (plain_xor a b e (holds_step place (Node-F.Two op2.Xor a b)) (plain_holds a (no_left (is_temporal a) (is_temporal b) u))
            (plain_holds b (no_right (is_temporal a) (is_temporal b) u)))
      ])

  iff_is : (a b e : Expr) → out-Node e.node ≡ Node-F.Two op2.Iff a b → True (lowered e) ↔ BothOrNeither a b
  iff_is a b = by_top (λ e. out-Node e.node ≡ Node-F.Two op2.Iff a b → True (lowered e) ↔ BothOrNeither a b) (λ place l h.
      subst (λ (k : Layer). True (lowered (put place (roll-Node k))) ↔ BothOrNeither a b) (sym (sym (out-roll-Node l) ∙ h)) (iff_at place a b))

  xor_is : (a b e : Expr) → out-Node e.node ≡ Node-F.Two op2.Xor a b → True (lowered e) ↔ OneAlone a b
  xor_is a b = by_top (λ e. out-Node e.node ≡ Node-F.Two op2.Xor a b → True (lowered e) ↔ OneAlone a b) (λ place l h.
      subst (λ (k : Layer). True (lowered (put place (roll-Node k))) ↔ OneAlone a b) (sym (sym (out-roll-Node l) ∙ h)) (xor_at place a b))

mutant_reads : (m : Model) (q : Signal) (w s : State) → (flip : Option Signal) × ReadsAt m (mutant_labelling m q w) s flip
mutant_reads m q w s = elim (cases_Bool (bytes_eq w s)) [
  | inl e ↦ (Some q, record { by = λ a. cond-true (bytes_eq w s) (holds m a s (Some q)) (holds m a s None) e })
  | inr e ↦ (None, record { by = λ a. cond-false (bytes_eq w s) (holds m a s (Some q)) (holds m a s None) e })
]

pub lowered_law : LoweredIsRight
lowered_law = record {
  plain = λ m label s flip reads e u. plain_holds m label s flip reads e u;
  both_or_neither = λ m label s flip reads e a b h. iff_is m label s flip reads a b e h;
  one_alone = λ m label s flip reads e a b h. xor_is m label s flip reads a b e h;
  mutants = mutant_reads;
}
