-- In a closed case some guard is true.
use Rattle.std.proofs.Common.{◌≡◌, ℕ, ℤ, pos, Bool, true, false, not, ◌||◌, ◌&&◌, if◌then◌else◌, IsTrue, ◌⊎◌, inl, inr, List, [], ◌∷◌, map, Option, Some, None, refl, sym, ap, subst, ◌∙◌, arith}
use Rattle.std.specs.Ordering.{int_eq}
use Rattle.std.specs.List.{list_any}
use Rattle.std.proofs.lemmas.Int.{ints}
use Rattle.cov_syntax.specs.declared.tree.Span.{Span}
use Rattle.cov_syntax.specs.declared.tree.Node.{Node, roll-Node, out-Node, out-roll-Node, roll-out-Node}
use Rattle.cov_syntax.specs.declared.tree.Node.TheVariants as n
use Rattle.cov_syntax.specs.declared.tree.Expr.{Expr, roll-Expr}
use Rattle.cov_syntax.specs.declared.tree.Branch.{Branch}
use Rattle.cov_syntax.specs.declared.tree.Node.TheFolds.{map-Node, fold-Node, fold-Branch, fold-roll-Node, fold-roll-Expr}
use Rattle.cov_syntax.specs.declared.tree.Node.TheOpen.{Node-F, Branch-F, Expr-F}
use Rattle.cov_syntax.specs.declared.tree.Value.{Value}
use Rattle.cov_syntax.specs.declared.tree.Value.TheVariants as v
use Rattle.cov_syntax.specs.declared.tree.Op1.TheVariants as op1
use Rattle.cov_model.specs.Values.{truth, whole}
use Rattle.cov_model.specs.Meaning.{Point, Meaning, of_node, of_branch, of_expr, meaning, meaning_by, value}
use Rattle.cov_model.specs.Kinds.{Kinds, interval}
use Rattle.cov_model.specs.Trees.{same_tree, is_negation, one_layer, is_true, true_layer, is_closed}
use Rattle.cov_model.specs.Walk.{Judged, put, judged, judged_literal, bit, judged_bit, simple}
use Rattle.cov_model.specs.Walk as walk
use Rattle.cov_model.proofs.Alike.{same_meaning}
use Rattle.cov_model.proofs.Joins.{or_left, or_right, or_case}
use Rattle.cov_model.proofs.Tied.{injected}

abbrev Layer : Type 0
Layer = Node-F Node Branch Expr

abbrev pub node_meaning : (ℤ → ℤ) → Node → Meaning
node_meaning fit = fold-Node Meaning (Meaning × Meaning) Meaning (of_node fit) of_branch of_expr

abbrev pub branch_meaning : (ℤ → ℤ) → Branch → Meaning × Meaning
branch_meaning fit = fold-Branch Meaning (Meaning × Meaning) Meaning (of_node fit) of_branch of_expr

abbrev pub meant : (ℤ → ℤ) → Layer → Node-F Meaning (Meaning × Meaning) Meaning
meant fit l = map-Node Node Branch Expr Meaning (Meaning × Meaning) Meaning (node_meaning fit) (branch_meaning fit) (meaning_by fit) l

-- what a tree means, by its top node
pub meaning_step : (fit : ℤ → ℤ) (place : Span) (l : Layer) → meaning_by fit (put place (roll-Node l)) ≡ of_node fit (meant fit l)
meaning_step fit place l =
    fold-roll-Expr Meaning (Meaning × Meaning) Meaning (of_node fit) of_branch of_expr (record { node = roll-Node l; place = place })
    ∙ fold-roll-Node Meaning (Meaning × Meaning) Meaning (of_node fit) of_branch of_expr l

abbrev pub judged_node : Kinds → Node → Span → Judged
judged_node ks = fold-Node (Span → Judged) (Judged × Judged) Judged (walk.of_node ks) (λ b. (b.guard, b.body)) (λ e. e.node e.place)

abbrev pub judged_branch : Kinds → Branch → Judged × Judged
judged_branch ks = fold-Branch (Span → Judged) (Judged × Judged) Judged (walk.of_node ks) (λ b. (b.guard, b.body)) (λ e. e.node e.place)

abbrev pub judged_layer : Kinds → Layer → Node-F (Span → Judged) (Judged × Judged) Judged
judged_layer ks l = map-Node Node Branch Expr (Span → Judged) (Judged × Judged) Judged (judged_node ks) (judged_branch ks) (judged ks) l

-- what the walk finds at a tree, by its top node
pub judged_step : (ks : Kinds) (place : Span) (l : Layer) → judged ks (put place (roll-Node l)) ≡ walk.of_node ks (judged_layer ks l) place
judged_step ks place l =
    fold-roll-Expr (Span → Judged) (Judged × Judged) Judged (walk.of_node ks) (λ b. (b.guard, b.body)) (λ e. e.node e.place) (record { node = roll-Node l; place = place })
    ∙ ap (λ (f : Span → Judged). f place) (fold-roll-Node (Span → Judged) (Judged × Judged) Judged (walk.of_node ks) (λ b. (b.guard, b.body)) (λ e. e.node e.place) l)

-- a tree is its top node at its place
pub by_top : (F : Expr → Type 0) → ((place : Span) (l : Layer) → F (put place (roll-Node l))) → (e : Expr) → F e
by_top F h e = subst (λ (m : Node). F (put e.place m)) (roll-out-Node e.node) (h e.place (out-Node e.node))

-- ---- negations

negation_top : (g : Expr) (p : Point) (place : Span) (l : Layer) → IsTrue (one_layer l g) → truth (value (put place (roll-Node l)) p) ≡ not (truth (value g p))
negation_top g p place (Node-F.One op1.Not a) h =
    ap (λ (m : Meaning). truth (m.value p)) (meaning_step whole place (Node-F.One op1.Not a))
    ∙ ap (λ (m : Meaning). not (truth (m.value p))) (same_meaning a g h)
negation_top g p place _ h = cc

negation : (e g : Expr) (p : Point) → IsTrue (is_negation e g) → truth (value e p) ≡ not (truth (value g p))
negation e g p = by_top (λ f. IsTrue (is_negation f g) → truth (value f p) ≡ not (truth (value g p)))
    (λ place l h. negation_top g p place l (subst (λ (k : Layer). IsTrue (one_layer k g)) (out-roll-Node l) h)) e

-- ---- the guard TRUE

not_turned : (place : Span) (i : ℤ) (b : Bool) → put place (n.Lit (v.Bool b)) ≡ put place (roll-Node (Node-F.Lit (v.Int i))) → ⊥
not_turned place i b h = let e : Node-F.Lit (v.Bool b) ≡ Node-F.Lit (v.Int i) = injected (n.Lit (v.Bool b)) (Node-F.Lit (v.Bool b)) (Node-F.Lit (v.Int i)) place (n.rolls-Lit (v.Bool b)) h in cc

-- an integer literal, by whether it is 0, 1 or neither
abbrev pub integer : Span → ℤ → Option Bool → Judged
integer place i None = simple place (n.Lit (v.Int i)) (interval i i) (λ may. []) (n.Lit (v.Int i))
integer place i (Some b) = judged_bit place i b

one_turns : (ks : Kinds) (place : Span) (i : ℤ) → IsTrue (int_eq i (pos 1)) → (judged_literal place (v.Int i)).settled true ≡ put place (roll-Node (Node-F.Lit (v.Int i))) → ⊥
one_turns ks place i o h = by (int_eq i (pos 0)) (int_eq i (pos 1)) o h
  where
    by : (b c : Bool) → IsTrue c
        → (integer place i (if b then Some false else if c then Some true else None)).settled true ≡ put place (roll-Node (Node-F.Lit (v.Int i)))
        → ⊥
    by true c o h = not_turned place i false h
    by false true o h = not_turned place i true h
    by false false o h = cc

true_top : (ks : Kinds) (p : Point) (place : Span) (l : Layer) → (judged ks (put place (roll-Node l))).settled true ≡ put place (roll-Node l)
    → IsTrue (true_layer l) → truth (value (put place (roll-Node l)) p) ≡ true
true_top ks p place (Node-F.Lit (v.Bool b)) s h = ap (λ (m : Meaning). truth (m.value p)) (meaning_step whole place (Node-F.Lit (v.Bool b))) ∙ h
true_top ks p place (Node-F.Lit (v.Int i)) s h =
    absurd (one_turns ks place i h (ap (λ (j : Judged). j.settled true) (sym (judged_step ks place (Node-F.Lit (v.Int i)))) ∙ s))
true_top ks p place _ s h = cc

true_guard : (ks : Kinds) (p : Point) (g : Expr) → (judged ks g).settled true ≡ g → IsTrue (is_true g) → truth (value g p) ≡ true
true_guard ks p g = by_top (λ f. (judged ks f).settled true ≡ f → IsTrue (is_true f) → truth (value f p) ≡ true)
    (λ place l s h. true_top ks p place l s (subst (λ (k : Layer). IsTrue (true_layer k)) (out-roll-Node l) h)) g

-- ---- closed cases

-- guards in which no 0 or 1 stands in a Boolean place
abbrev pub AllSettled : Kinds → List Expr → Type 0
AllSettled ks [] = Unit {0}
AllSettled ks (g ∷ gs) = ((judged ks g).settled true ≡ g) × AllSettled ks gs

abbrev pub some_true : Point → List Expr → Bool
some_true p gs = list_any (λ g. truth (value g p)) gs

opposed : (p : Point) (g : Expr) (before : List Expr) → IsTrue (list_any (λ e. is_negation e g || is_negation g e) before) → IsTrue (some_true p before) ⊎ IsTrue (truth (value g p))
opposed p g [] h = cc
opposed p g (e ∷ before) h = elim (or_case (is_negation e g || is_negation g e) (list_any (λ e. is_negation e g || is_negation g e) before) h) [
  | inl k ↦ one_of (truth (value e p)) (truth (value g p)) (some_true p before) (elim (or_case (is_negation e g) (is_negation g e) k) [ inl a ↦ inl (negation e g p a) | inr a ↦ inr (negation g e p a) ])
  | inr k ↦ elim (opposed p g before k) [ inl a ↦ inl (or_right (truth (value e p)) (some_true p before) a) | inr a ↦ inr a ]
]
  where
    one_of : (a b c : Bool) → (a ≡ not b) ⊎ (b ≡ not a) → IsTrue (a || c) ⊎ IsTrue b
    one_of true b c h = inl refl
    one_of false true c h = inr refl
    one_of false false c (inl h) = cc
    one_of false false c (inr h) = cc

true_before : (ks : Kinds) (p : Point) (before gs : List Expr) → AllSettled ks gs → IsTrue (is_closed before gs) → IsTrue (some_true p before) ⊎ IsTrue (some_true p gs)
true_before ks p before [] s h = cc
true_before ks p before (g ∷ []) s h = elim (or_case (is_true g) (list_any (λ e. is_negation e g || is_negation g e) before) h) [
  | inl k ↦ inr (or_left (truth (value g p)) false (true_guard ks p g s.0 k))
  | inr k ↦ elim (opposed p g before k) [ inl a ↦ inl a | inr a ↦ inr (or_left (truth (value g p)) false a) ]
]
true_before ks p before (g ∷ f ∷ gs) s h = elim (true_before ks p (g ∷ before) (f ∷ gs) s.1 h) [
  | inl k ↦ elim (or_case (truth (value g p)) (some_true p before) k) [ inl a ↦ inr (or_left (truth (value g p)) (some_true p (f ∷ gs)) a) | inr a ↦ inl a ]
  | inr k ↦ inr (or_right (truth (value g p)) (some_true p (f ∷ gs)) k)
]

-- in a closed case some guard is true
pub closed_true : (ks : Kinds) (p : Point) (gs : List Expr) → AllSettled ks gs → IsTrue (is_closed [] gs) → IsTrue (some_true p gs)
closed_true ks p gs s h = elim (true_before ks p [] gs s h) [ inl k ↦ cc | inr k ↦ k ]
