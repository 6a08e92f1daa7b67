-- Each atom of the formula that a specification is lowered to is one of the model.
use Rattle.std.proofs.Common.{◌≡◌, Bool, true, false, ◌||◌, if◌then◌else◌, IsFalse, inr, List, ◌∷◌, Option, Some, None, refl, sym, ap, subst, ◌∙◌}
use Rattle.cov_syntax.specs.declared.tree.Span.{Span}
use Rattle.cov_syntax.specs.declared.fault.ModelFault.{ModelFault}
use Rattle.cov_syntax.specs.declared.tree.Op1.{Op1}
use Rattle.cov_syntax.specs.declared.tree.Op1.TheVariants as op1
use Rattle.cov_syntax.specs.declared.tree.Op2.{Op2}
use Rattle.cov_syntax.specs.declared.tree.Op2.TheVariants as op2
use Rattle.cov_syntax.specs.declared.tree.Expr.{Expr}
use Rattle.cov_syntax.specs.declared.tree.Branch.{Branch}
use Rattle.cov_syntax.specs.declared.tree.Node.{Node, roll-Node, out-roll-Node}
use Rattle.cov_syntax.specs.declared.tree.Node.TheVariants as n
use Rattle.cov_syntax.specs.declared.tree.Node.TheOpen.{Node-F}
use Rattle.cov_syntax.specs.declared.tree.Node.TheFolds.{map-Node, fold-Node, fold-Branch, fold-Expr}
use Rattle.cov_model.specs.declared.model.Model.{Model}
use Rattle.cov_model.specs.Kinds.{Kinds}
use Rattle.cov_model.specs.Walk as walk
use Rattle.cov_model.specs.Walk.{first, truth, Judged, put, judged, kind_fault}
use Rattle.cov_model.specs.Settled.{kinds_of, steady, timed}
use Rattle.cov_model.specs.Atoms.{StandsIn, whole, operand, left, right, StandsInModel, IsAtomOf}
use Rattle.cov_model.proofs.Tied.{first_none, no_misfit, injected}
use Rattle.cov_model.proofs.Closed.{judged_layer, judged_step}
use Rattle.cov_order.proofs.ByParts.{Layer, EachPart, by_parts, fold_step}
use Rattle.cov_ranges.proofs.Places.{part_of_part}
use Rattle.cov_ctl.specs.declared.formula.Formula.{Formula}
use Rattle.cov_ctl.specs.declared.formula.Formula.TheVariants as f
use Rattle.cov_ctl.specs.Temporal.{is_temporal}
use Rattle.cov_ctl.specs.Lowered.{lowered, lowered_layer, written_out, on_node, on_branch, on_expr}
use Rattle.cov_ctl.specs.Formulas.{formula_of}
use Rattle.cov_formulas.specs.Formulas.{AllAtoms}
use Rattle.cov_formulas.proofs.Shapes.{of_atom, of_not, of_ex, of_ef, of_eg, of_ax, of_af, of_ag, of_and, of_or, of_implies, of_eu, of_au}
use Rattle.cov_formulas.proofs.NoOperators.{temporal_step, no_operator}
use Rattle.cov_formulas.proofs.OwnKinds.{own_boolean}
use Rattle.cov_formulas.proofs.WrittenSame.{written_is}

-- ---- the formula of a tree, by its top node

abbrev lowering : Expr → Expr → Formula
lowering = fold-Expr (Expr → Formula) (Branch → Formula) (Expr → Formula) on_node on_branch on_expr

abbrev lowering_node : Node → Expr → Formula
lowering_node = fold-Node (Expr → Formula) (Branch → Formula) (Expr → Formula) on_node on_branch on_expr

abbrev lowering_branch : Branch → Branch → Formula
lowering_branch = fold-Branch (Expr → Formula) (Branch → Formula) (Expr → Formula) on_node on_branch on_expr

abbrev lowering_layer : Layer → Node-F (Expr → Formula) (Branch → Formula) (Expr → Formula)
lowering_layer l = map-Node Node Branch Expr (Expr → Formula) (Branch → Formula) (Expr → Formula) lowering_node lowering_branch lowering l

abbrev of_layer : Span → Layer → Formula
of_layer place l = lowered_layer (put place (roll-Node l)) (lowering_layer l) l

lowered_step : (place : Span) (l : Layer) → lowered (put place (roll-Node l)) ≡ of_layer place l
lowered_step place l =
    let e : Expr = put place (roll-Node l) in
    ap (λ (t : Expr → Formula). t e) (fold_step (Expr → Formula) (Branch → Formula) (Expr → Formula) on_node on_branch on_expr place l)
    ∙ ap (λ (k : Layer). lowered_layer e (lowering_layer l) k) (out-roll-Node l)

-- ---- what is known where a formula may stand

-- no fault in the body of a SPEC, and settled as one
pub record Fits (j : Judged) (e : Expr) : Type 0 where
  pub none : j.fault timed ≡ None
  pub misfit : j.misfit truth ≡ None
  pub settles : j.settled true ≡ e

third : {A : Type 0} (a b c : Option A) (rest : List (Option A)) → first (a ∷ b ∷ c ∷ rest) ≡ None → (a ≡ None) × (c ≡ None)
third a b c rest h =
    let i = first_none a (b ∷ c ∷ rest) h in
    let j = first_none b (c ∷ rest) i.1 in
    (i.0, (first_none c rest j.1).0)

module _ (m : Model) where
  abbrev ks : Kinds
  ks = kinds_of m

  abbrev All : Formula → Type 0
  All x = AllAtoms (IsAtomOf m) (formula_of x)

  abbrev R : Expr → Type 0
  R e = StandsInModel m e → Fits (judged ks e) e → All (lowered e)

  -- ---- parts

  deeper : (x e : Expr) → StandsInModel m e → StandsIn x e → StandsInModel m x
  deeper x e s p = record { place = s.place; whole = s.whole; there = s.there; stands = part_of_part x e s.whole p s.stands }

  operand_stands : (place : Span) (op : Op1) (a : Expr) → StandsInModel m (put place (roll-Node (Node-F.One op a))) → StandsInModel m a
  operand_stands place op a s = deeper a _ s (operand _ a op (out-roll-Node (Node-F.One op a)) whole)

  left_stands : (place : Span) (op : Op2) (a b : Expr) → StandsInModel m (put place (roll-Node (Node-F.Two op a b))) → StandsInModel m a
  left_stands place op a b s = deeper a _ s (left _ a b op (out-roll-Node (Node-F.Two op a b)) whole)

  right_stands : (place : Span) (op : Op2) (a b : Expr) → StandsInModel m (put place (roll-Node (Node-F.Two op a b))) → StandsInModel m b
  right_stands place op a b s = deeper b _ s (right _ a b op (out-roll-Node (Node-F.Two op a b)) whole)

  operand_fits : (place : Span) (op : Op1) (a : Expr) (x : Option ModelFault) (rest : List (Option ModelFault))
      → first ((judged ks a).fault timed ∷ x ∷ kind_fault (Some truth) (judged ks a) ∷ rest) ≡ None
      → put place (n.One op ((judged ks a).settled true)) ≡ put place (roll-Node (Node-F.One op a)) → Fits (judged ks a) a
  operand_fits place op a x rest h s =
      let q : Node-F.One op ((judged ks a).settled true) ≡ Node-F.One op a
      = injected (n.One op ((judged ks a).settled true)) (Node-F.One op ((judged ks a).settled true)) (Node-F.One op a) place (n.rolls-One op ((judged ks a).settled true)) s in
      let t = third _ x _ rest h in
      record { none = t.0; misfit = no_misfit truth (judged ks a) t.1; settles = cc }

  operands_fit : (place : Span) (op : Op2) (a b : Expr) (x : Option ModelFault) (rest : List (Option ModelFault))
      → first ((judged ks a).fault timed ∷ (judged ks b).fault timed ∷ x ∷ kind_fault (Some truth) (judged ks a) ∷ kind_fault (Some truth) (judged ks b) ∷ rest) ≡ None
      → put place (n.Two op ((judged ks a).settled true) ((judged ks b).settled true)) ≡ put place (roll-Node (Node-F.Two op a b))
      → Fits (judged ks a) a × Fits (judged ks b) b
  operands_fit place op a b x rest h s =
      let q : Node-F.Two op ((judged ks a).settled true) ((judged ks b).settled true) ≡ Node-F.Two op a b
      = injected (n.Two op ((judged ks a).settled true) ((judged ks b).settled true)) (Node-F.Two op ((judged ks a).settled true) ((judged ks b).settled true)) (Node-F.Two op a b) place
      (n.rolls-Two op ((judged ks a).settled true) ((judged ks b).settled true)) s in
      let f0 = first_none ((judged ks a).fault timed) _ h in
      let f1 = first_none ((judged ks b).fault timed) _ f0.1 in
      let f2 = first_none x _ f1.1 in
      let f3 = first_none (kind_fault (Some truth) (judged ks a)) _ f2.1 in
      let f4 = first_none (kind_fault (Some truth) (judged ks b)) rest f3.1 in (
        record { none = f0.0; misfit = no_misfit truth (judged ks a) f3.0; settles = cc },
        record { none = f1.0; misfit = no_misfit truth (judged ks b) f4.0; settles = cc },
      )

  -- ---- atoms

  -- where no CTL operator stands
  atom_by : (e : Expr) → StandsInModel m e → Fits (judged ks e) e → IsFalse (is_temporal e) → All (f.Atom e)
  atom_by e s h t =
      let atom : IsAtomOf m e = record {
        boolean = own_boolean ks e h.misfit h.settles;
        propositional = written_is e ∙ t;
        no_fault = rw (h.none, h.misfit) refl;
        stands = inr s;
      } in
      subst (AllAtoms (IsAtomOf m)) (sym (of_atom e)) atom

  -- where none could
  atom : (place : Span) (l : Layer) → StandsInModel m (put place (roll-Node l)) → Fits (judged ks (put place (roll-Node l))) (put place (roll-Node l))
      → (walk.of_node ks (judged_layer ks l) place).fault steady ≡ None → All (f.Atom (put place (roll-Node l)))
  atom place l s h g =
      let e : Expr = put place (roll-Node l) in
      atom_by e s h (no_operator ks e steady refl (subst (λ (j : Judged). j.fault steady ≡ None) (sym (judged_step ks place l)) g))

  -- ---- nodes

  not_all : (x : Formula) → All x → All (f.Not x)
  not_all x h = subst (AllAtoms (IsAtomOf m)) (sym (of_not x)) h

  and_all : (x y : Formula) → All x → All y → All (f.And x y)
  and_all x y h k = subst (AllAtoms (IsAtomOf m)) (sym (of_and x y)) (h, k)

  or_all : (x y : Formula) → All x → All y → All (f.Or x y)
  or_all x y h k = subst (AllAtoms (IsAtomOf m)) (sym (of_or x y)) (h, k)

  written_out_all : (op : Op2) (x y : Formula) → All x → All y → All (written_out op x y)
  written_out_all op2.Xor x y h k = or_all _ _ (and_all x (f.Not y) h (not_all y k)) (and_all (f.Not x) y (not_all x h) k)
  written_out_all _ x y h k = or_all _ _ (and_all x y h k) (and_all (f.Not x) (f.Not y) (not_all x h) (not_all y k))

  either_all : (t : Bool) (x y : Formula) → (t ≡ true → All x) → (t ≡ false → All y) → All (if t then x else y)
  either_all true x y h k = h refl
  either_all false x y h k = k refl

  abbrev Layered : Span → Layer → Type 0
  Layered place l = StandsInModel m (put place (roll-Node l)) → Fits (judged ks (put place (roll-Node l))) (put place (roll-Node l))
      → Fits (walk.of_node ks (judged_layer ks l) place) (put place (roll-Node l)) → All (of_layer place l)

  one : (place : Span) (op : Op1) (a : Expr) → R a → Layered place (Node-F.One op a)
  one place op1.Not a r s h g = not_all (lowered a) (r (operand_stands place op1.Not a s) (operand_fits place op1.Not a _ _ g.none g.settles))
  one place op1.Ex a r s h g = subst (AllAtoms (IsAtomOf m)) (sym (of_ex (lowered a))) (r (operand_stands place op1.Ex a s) (operand_fits place op1.Ex a _ _ g.none g.settles))
  one place op1.Ef a r s h g = subst (AllAtoms (IsAtomOf m)) (sym (of_ef (lowered a))) (r (operand_stands place op1.Ef a s) (operand_fits place op1.Ef a _ _ g.none g.settles))
  one place op1.Eg a r s h g = subst (AllAtoms (IsAtomOf m)) (sym (of_eg (lowered a))) (r (operand_stands place op1.Eg a s) (operand_fits place op1.Eg a _ _ g.none g.settles))
  one place op1.Ax a r s h g = subst (AllAtoms (IsAtomOf m)) (sym (of_ax (lowered a))) (r (operand_stands place op1.Ax a s) (operand_fits place op1.Ax a _ _ g.none g.settles))
  one place op1.Af a r s h g = subst (AllAtoms (IsAtomOf m)) (sym (of_af (lowered a))) (r (operand_stands place op1.Af a s) (operand_fits place op1.Af a _ _ g.none g.settles))
  one place op1.Ag a r s h g = subst (AllAtoms (IsAtomOf m)) (sym (of_ag (lowered a))) (r (operand_stands place op1.Ag a s) (operand_fits place op1.Ag a _ _ g.none g.settles))
  one place op1.Neg a r s h g = atom place (Node-F.One op1.Neg a) s h g.none
  one place op1.Next a r s h g = atom place (Node-F.One op1.Next a) s h g.none

  -- the formulas of both operands, where both may be formulas
  both : (place : Span) (op : Op2) (a b : Expr) → R a × R b → StandsInModel m (put place (roll-Node (Node-F.Two op a b))) → Fits (judged ks a) a × Fits (judged ks b) b → All (lowered a) × All (lowered b)
  both place op a b r s h = (r.0 (left_stands place op a b s) h.0, r.1 (right_stands place op a b s) h.1)

  -- a `<->` or `xor`
  split : (place : Span) (op : Op2) (a b : Expr) → StandsInModel m (put place (roll-Node (Node-F.Two op a b)))
      → Fits (judged ks (put place (roll-Node (Node-F.Two op a b)))) (put place (roll-Node (Node-F.Two op a b)))
      → is_temporal (put place (roll-Node (Node-F.Two op a b))) ≡ (is_temporal a || is_temporal b) → All (lowered a) × All (lowered b)
      → All (if is_temporal a || is_temporal b then written_out op (lowered a) (lowered b) else f.Atom (put place (roll-Node (Node-F.Two op a b))))
  split place op a b s h t k =
      either_all (is_temporal a || is_temporal b) _ _ (λ e. written_out_all op (lowered a) (lowered b) k.0 k.1) (λ e. atom_by _ s h (t ∙ e))

  two : (place : Span) (op : Op2) (a b : Expr) → R a × R b → Layered place (Node-F.Two op a b)
  two place op2.And a b r s h g = let k = both place op2.And a b r s (operands_fit place op2.And a b _ _ g.none g.settles) in and_all (lowered a) (lowered b) k.0 k.1
  two place op2.Or a b r s h g = let k = both place op2.Or a b r s (operands_fit place op2.Or a b _ _ g.none g.settles) in or_all (lowered a) (lowered b) k.0 k.1
  two place op2.Implies a b r s h g =
      subst (AllAtoms (IsAtomOf m)) (sym (of_implies (lowered a) (lowered b))) (both place op2.Implies a b r s (operands_fit place op2.Implies a b _ _ g.none g.settles))
  two place op2.Au a b r s h g = subst (AllAtoms (IsAtomOf m)) (sym (of_au (lowered a) (lowered b))) (both place op2.Au a b r s (operands_fit place op2.Au a b _ _ g.none g.settles))
  two place op2.Eu a b r s h g = subst (AllAtoms (IsAtomOf m)) (sym (of_eu (lowered a) (lowered b))) (both place op2.Eu a b r s (operands_fit place op2.Eu a b _ _ g.none g.settles))
  two place op2.Iff a b r s h g =
      split place op2.Iff a b s h (temporal_step place (Node-F.Two op2.Iff a b)) (both place op2.Iff a b r s (operands_fit place op2.Iff a b _ _ g.none g.settles))
  two place op2.Xor a b r s h g =
      split place op2.Xor a b s h (temporal_step place (Node-F.Two op2.Xor a b)) (both place op2.Xor a b r s (operands_fit place op2.Xor a b _ _ g.none g.settles))
  two place op a b r s h g = atom place (Node-F.Two op a b) s h g.none

  at : (place : Span) (l : Layer) → EachPart R l → Layered place l
  at place (Node-F.One op a) r s h g = one place op a r s h g
  at place (Node-F.Two op a b) r s h g = two place op a b r s h g
  at place (Node-F.Lit x) r s h g = atom_by _ s h (temporal_step place (Node-F.Lit x))
  at place (Node-F.Path p) r s h g = atom_by _ s h (temporal_step place (Node-F.Path p))
  at place (Node-F.Var i) r s h g = atom_by _ s h (temporal_step place (Node-F.Var i))
  at place (Node-F.Def i) r s h g = atom_by _ s h (temporal_step place (Node-F.Def i))
  at place (Node-F.Range low high) r s h g = atom_by _ s h (temporal_step place (Node-F.Range low high))
  at place (Node-F.Set es) r s h g = atom place (Node-F.Set es) s h g.none
  at place (Node-F.Case bs) r s h g = atom place (Node-F.Case bs) s h g.none

  pub all_atoms : (e : Expr) → R e
  all_atoms = by_parts R (λ place l r s h.
      subst All (sym (lowered_step place l)) (at place l r s h (subst (λ (j : Judged). Fits j (put place (roll-Node l))) (judged_step ks place l) h)))
