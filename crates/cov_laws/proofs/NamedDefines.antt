-- A DEFINE that stands in an expression is among those that the expression reads.
use Rattle.std.proofs.Common.{◌≡◌, ℕ, Bool, false, ◌||◌, ◌==◌, IsTrue, inl, inr, List, [], ◌∷◌, ◌++◌, map, sym, subst, ◌∙◌}
use Rattle.std.specs.List.{list_any, flat_map}
use Rattle.std.proofs.lemmas.Bool.{or_cases, or_left}
use Rattle.std.proofs.lemmas.Bool.Decides.{Decides-eqb}
use Rattle.cov_syntax.specs.declared.tree.Expr.{Expr}
use Rattle.cov_syntax.specs.declared.tree.Branch.{Branch}
use Rattle.cov_syntax.specs.declared.tree.Node.{Node}
use Rattle.cov_syntax.specs.declared.tree.Node.TheOpen.{Node-F}
use Rattle.cov_syntax.specs.declared.tree.Node.TheFolds.{map-Node, fold-Node, fold-Branch}
use Rattle.cov_model.specs.declared.model.Signal.TheVariants as signal
use Rattle.cov_model.specs.Order.{reads, reads_layer, has}
use Rattle.cov_model.proofs.Joins.{any_left, any_right}
use Rattle.cov_order.proofs.ByParts.{Layer, EachItem, EachArm, EachPart, by_parts, fold_step, fold_branch}
use Rattle.cov_laws.specs.Signals.{names}
use Rattle.cov_laws.proofs.NamedReadings.{names_parts, names_step, names_arm, arm_step}

abbrev branch_reads : Branch → List ℕ
branch_reads = fold-Branch (List ℕ) (List ℕ) (List ℕ) reads_layer (λ b. b.guard ++ b.body) (λ e. e.node)

abbrev layer_reads : Layer → List ℕ
layer_reads l =
    reads_layer (map-Node Node Branch Expr (List ℕ) (List ℕ) (List ℕ)
    (fold-Node (List ℕ) (List ℕ) (List ℕ) reads_layer (λ b. b.guard ++ b.body) (λ e. e.node)) branch_reads reads l)

module _ (j : ℕ) where
  abbrev R : Expr → Type 0
  R e = IsTrue (names (signal.Def j) e) → IsTrue (has (reads e) j)

  either : (a b : Bool) (xs ys : List ℕ) → (IsTrue a → IsTrue (has xs j)) → (IsTrue b → IsTrue (has ys j)) → IsTrue (a || b) → IsTrue (has (xs ++ ys) j)
  either a b xs ys f g h =
      elim (or_cases a b h) [
        | inl p ↦ any_left (λ i. i == j) xs ys (f p)
        | inr q ↦ any_right (λ i. i == j) xs ys (g q)
      ]

  items : (es : List Expr) → EachItem R es → IsTrue (list_any (λ b. b) (map (names (signal.Def j)) es)) → IsTrue (has (flat_map (λ xs. xs) (map reads es)) j)
  items [] r h = cc
  items (e ∷ es) r h =
      either (names (signal.Def j) e) (list_any (λ b. b) (map (names (signal.Def j)) es)) (reads e) (flat_map (λ xs. xs) (map reads es)) r.0 (items es r.1) h

  reads_at : (b : Branch) → branch_reads b ≡ reads b.guard ++ reads b.body
  reads_at b = fold_branch (List ℕ) (List ℕ) (List ℕ) reads_layer (λ b. b.guard ++ b.body) (λ e. e.node) b

  arms : (bs : List Branch) → EachArm R bs → IsTrue (list_any (λ b. b) (map (names_arm (signal.Def j)) bs)) →
      IsTrue (has (flat_map (λ xs. xs) (map branch_reads bs)) j)
  arms [] r h = cc
  arms (b ∷ bs) r h =
      either (names_arm (signal.Def j) b) (list_any (λ b. b) (map (names_arm (signal.Def j)) bs)) (branch_reads b)
      (flat_map (λ xs. xs) (map branch_reads bs))
      (λ p. subst (λ xs. IsTrue (has xs j)) (sym (reads_at b))
      (either (names (signal.Def j) b.guard) (names (signal.Def j) b.body) (reads b.guard) (reads b.body) r.0 r.1 (sym (arm_step (signal.Def j) b) ∙ p)))
      (arms bs r.2) h

  at_layer : (l : Layer) → EachPart R l → IsTrue (names_parts (signal.Def j) l) → IsTrue (has (layer_reads l) j)
  at_layer (Node-F.Lit x) r h = cc
  at_layer (Node-F.Path p) r h = cc
  at_layer (Node-F.Var i) r h = cc
  at_layer (Node-F.Def i) r h = or_left (i == j) false ((Decides-eqb i j).1 (sym ((Decides-eqb j i).0 h)))
  at_layer (Node-F.One op a) r h = r h
  at_layer (Node-F.Two op a b) r h = either (names (signal.Def j) a) (names (signal.Def j) b) (reads a) (reads b) r.0 r.1 h
  at_layer (Node-F.Range low high) r h = cc
  at_layer (Node-F.Set es) r h = items es r h
  at_layer (Node-F.Case bs) r h = arms bs r h

  pub named_is_read : (e : Expr) → R e
  named_is_read = by_parts R (λ place l r h.
      subst (λ xs. IsTrue (has xs j)) (sym (fold_step (List ℕ) (List ℕ) (List ℕ) reads_layer (λ b. b.guard ++ b.body) (λ e. e.node) place l))
      (at_layer l r (sym (names_step (signal.Def j) place l) ∙ h)))
