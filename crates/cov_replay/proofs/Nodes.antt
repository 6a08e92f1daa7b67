-- The nodes of a formula, and what is told of each by its operands.
use Rattle.std.proofs.Common.{◌≡◌, ℕ, zero, suc, ◌+◌, ◌-◌, ◌*◌, ◌<◌, ◌≤◌, ◌⊎◌, ◌↔◌, IsTrue, [], ◌∷◌, ◌++◌, get_or, inl, inr, max, Bool, true, false, not, List, length, refl, sym, ap, ◌∙◌, subst, arith}
use Rattle.cov_syntax.specs.declared.tree.Expr.{Expr}
use Rattle.cov_logic.specs.Lasso.{Lasso}
use Rattle.cov_logic.specs.Suffix.{suffix}
use Rattle.cov_logic.specs.Formula.{Formula, Atom, Not, And, Or, Implies, EX, EF, EG, EU, AX, AF, AG, AU}
use Rattle.cov_ctl.specs.declared.formula.Formula as ctl
use Rattle.cov_ctl.specs.declared.formula.Formula.TheVariants as v
use Rattle.cov_ctl.specs.Formulas.{formula_of}
use Rattle.cov_model.specs.declared.model.Model.{Model}
use Rattle.cov_model.specs.Atoms.{IsAtomOf}
use Rattle.cov_model.specs.States.{State}
use Rattle.cov_formulas.specs.Formulas.{AllAtoms}
use Rattle.cov_formulas.proofs.Shapes.{of_ex, of_ef, of_eg, of_ax, of_af, of_ag, of_and, of_or, of_implies, of_eu, of_au}
use Rattle.cov_replay.specs.Columns.{IsColumn}
use Rattle.cov_replay.specs.Heights.{height}
use Rattle.cov_replay.specs.Operators.{Walks, Joins, walk_of, join_of, first_shown}
use Rattle.cov_replay.specs.Told.{Tells, HasPlaces}
use Rattle.cov_replay.specs.declared.operators.Walk.{Walk}
use Rattle.cov_replay.specs.declared.operators.Join.{Join}

pub height_some : {A : Type 0} (f : Formula A) → 1 ≤ height f
height_some (Atom a) = omega arith
height_some (Not f) = omega arith
height_some (And f g) = omega arith
height_some (Or f g) = omega arith
height_some (Implies f g) = omega arith
height_some (EX f) = omega arith
height_some (EF f) = omega arith
height_some (EG f) = omega arith
height_some (EU f g) = omega arith
height_some (AX f) = omega arith
height_some (AF f) = omega arith
height_some (AG f) = omega arith
height_some (AU f g) = omega arith

-- an operator over one operand
pub record IsOverOne (f a : Formula Expr) : Type 0 where
  pub low : height f ≡ 1 + height a
  pub atoms : (m : Model) → AllAtoms (IsAtomOf m) f → AllAtoms (IsAtomOf m) a
  pub column : (label : State → Expr → Bool) (shown : Bool) (l : Lasso State) (n : ℕ) (xs : List Bool)
      → IsColumn (Walks (walk_of f shown) (Tells label shown a)) l n xs → IsColumn (Tells label shown f) l n xs

ex_column : (a : Formula Expr) (label : State → Expr → Bool) (shown : Bool) (l : Lasso State) (n : ℕ) (xs : List Bool)
    → IsColumn (Walks (walk_of (EX a) shown) (Tells label shown a)) l n xs → IsColumn (Tells label shown (EX a)) l n xs
ex_column a label true l n xs h = h
ex_column a label false l n xs h = h

ef_column : (a : Formula Expr) (label : State → Expr → Bool) (shown : Bool) (l : Lasso State) (n : ℕ) (xs : List Bool)
    → IsColumn (Walks (walk_of (EF a) shown) (Tells label shown a)) l n xs → IsColumn (Tells label shown (EF a)) l n xs
ef_column a label true l n xs h = h
ef_column a label false l n xs h = h

eg_column : (a : Formula Expr) (label : State → Expr → Bool) (shown : Bool) (l : Lasso State) (n : ℕ) (xs : List Bool)
    → IsColumn (Walks (walk_of (EG a) shown) (Tells label shown a)) l n xs → IsColumn (Tells label shown (EG a)) l n xs
eg_column a label true l n xs h = h
eg_column a label false l n xs h = h

ax_column : (a : Formula Expr) (label : State → Expr → Bool) (shown : Bool) (l : Lasso State) (n : ℕ) (xs : List Bool)
    → IsColumn (Walks (walk_of (AX a) shown) (Tells label shown a)) l n xs → IsColumn (Tells label shown (AX a)) l n xs
ax_column a label true l n xs h = h
ax_column a label false l n xs h = h

af_column : (a : Formula Expr) (label : State → Expr → Bool) (shown : Bool) (l : Lasso State) (n : ℕ) (xs : List Bool)
    → IsColumn (Walks (walk_of (AF a) shown) (Tells label shown a)) l n xs → IsColumn (Tells label shown (AF a)) l n xs
af_column a label true l n xs h = h
af_column a label false l n xs h = h

ag_column : (a : Formula Expr) (label : State → Expr → Bool) (shown : Bool) (l : Lasso State) (n : ℕ) (xs : List Bool)
    → IsColumn (Walks (walk_of (AG a) shown) (Tells label shown a)) l n xs → IsColumn (Tells label shown (AG a)) l n xs
ag_column a label true l n xs h = h
ag_column a label false l n xs h = h

one_at : (h a : ctl.Formula) (f : Formula Expr) → formula_of h ≡ f → IsOverOne f (formula_of a) → IsOverOne (formula_of h) (formula_of a)
one_at h a f e over = subst (λ (z : Formula Expr). IsOverOne z (formula_of a)) (sym e) over

pub over_one : (h a : ctl.Formula)
    → (h ≡ v.Ex a) ⊎ ((h ≡ v.Ef a) ⊎ ((h ≡ v.Eg a) ⊎ ((h ≡ v.Ax a) ⊎ ((h ≡ v.Af a) ⊎ (h ≡ v.Ag a))))) → IsOverOne (formula_of h) (formula_of a)
over_one h a (inl e) = one_at h a (EX (formula_of a)) (ap formula_of e ∙ of_ex a) (record { low = refl; atoms = λ m x. x; column = ex_column (formula_of a) })
over_one h a (inr (inl e)) = one_at h a (EF (formula_of a)) (ap formula_of e ∙ of_ef a) (record { low = refl; atoms = λ m x. x; column = ef_column (formula_of a) })
over_one h a (inr (inr (inl e))) = one_at h a (EG (formula_of a)) (ap formula_of e ∙ of_eg a) (record { low = refl; atoms = λ m x. x; column = eg_column (formula_of a) })
over_one h a (inr (inr (inr (inl e)))) = one_at h a (AX (formula_of a)) (ap formula_of e ∙ of_ax a) (record { low = refl; atoms = λ m x. x; column = ax_column (formula_of a) })
over_one h a (inr (inr (inr (inr (inl e))))) = one_at h a (AF (formula_of a)) (ap formula_of e ∙ of_af a) (record { low = refl; atoms = λ m x. x; column = af_column (formula_of a) })
over_one h a (inr (inr (inr (inr (inr e))))) = one_at h a (AG (formula_of a)) (ap formula_of e ∙ of_ag a) (record { low = refl; atoms = λ m x. x; column = ag_column (formula_of a) })

-- an operator over two operands
pub record IsOverTwo (f a b : Formula Expr) : Type 0 where
  pub low : height f ≡ 1 + max (height a) (height b)
  pub atoms : (m : Model) → AllAtoms (IsAtomOf m) f → AllAtoms (IsAtomOf m) a × AllAtoms (IsAtomOf m) b
  pub column : (label : State → Expr → Bool) (shown : Bool) (l : Lasso State) (n : ℕ) (xs : List Bool)
      → IsColumn (Joins (join_of f shown) (Tells label (first_shown f shown) a) (Tells label shown b)) l n xs → IsColumn (Tells label shown f) l n xs

and_column : (a b : Formula Expr) (label : State → Expr → Bool) (shown : Bool) (l : Lasso State) (n : ℕ) (xs : List Bool)
    → IsColumn (Joins (join_of (And a b) shown) (Tells label shown a) (Tells label shown b)) l n xs → IsColumn (Tells label shown (And a b)) l n xs
and_column a b label true l n xs h = h
and_column a b label false l n xs h = h

or_column : (a b : Formula Expr) (label : State → Expr → Bool) (shown : Bool) (l : Lasso State) (n : ℕ) (xs : List Bool)
    → IsColumn (Joins (join_of (Or a b) shown) (Tells label shown a) (Tells label shown b)) l n xs → IsColumn (Tells label shown (Or a b)) l n xs
or_column a b label true l n xs h = h
or_column a b label false l n xs h = h

implies_column : (a b : Formula Expr) (label : State → Expr → Bool) (shown : Bool) (l : Lasso State) (n : ℕ) (xs : List Bool)
    → IsColumn (Joins (join_of (Implies a b) shown) (Tells label (not shown) a) (Tells label shown b)) l n xs → IsColumn (Tells label shown (Implies a b)) l n xs
implies_column a b label true l n xs h = h
implies_column a b label false l n xs h = h

eu_column : (a b : Formula Expr) (label : State → Expr → Bool) (shown : Bool) (l : Lasso State) (n : ℕ) (xs : List Bool)
    → IsColumn (Joins (join_of (EU a b) shown) (Tells label shown a) (Tells label shown b)) l n xs → IsColumn (Tells label shown (EU a b)) l n xs
eu_column a b label true l n xs h = h
eu_column a b label false l n xs h = h

au_column : (a b : Formula Expr) (label : State → Expr → Bool) (shown : Bool) (l : Lasso State) (n : ℕ) (xs : List Bool)
    → IsColumn (Joins (join_of (AU a b) shown) (Tells label shown a) (Tells label shown b)) l n xs → IsColumn (Tells label shown (AU a b)) l n xs
au_column a b label true l n xs h = h
au_column a b label false l n xs h = h

two_at : (h a b : ctl.Formula) (f : Formula Expr) → formula_of h ≡ f → IsOverTwo f (formula_of a) (formula_of b) → IsOverTwo (formula_of h) (formula_of a) (formula_of b)
two_at h a b f e over = subst (λ (z : Formula Expr). IsOverTwo z (formula_of a) (formula_of b)) (sym e) over

pub over_two : (h a b : ctl.Formula)
    → (h ≡ v.And a b) ⊎ ((h ≡ v.Or a b) ⊎ ((h ≡ v.Implies a b) ⊎ ((h ≡ v.Eu a b) ⊎ (h ≡ v.Au a b)))) → IsOverTwo (formula_of h) (formula_of a) (formula_of b)
over_two h a b (inl e) = two_at h a b _ (ap formula_of e ∙ of_and a b) (record { low = refl; atoms = λ m x. x; column = and_column (formula_of a) (formula_of b) })
over_two h a b (inr (inl e)) = two_at h a b _ (ap formula_of e ∙ of_or a b) (record { low = refl; atoms = λ m x. x; column = or_column (formula_of a) (formula_of b) })
over_two h a b (inr (inr (inl e))) = two_at h a b _ (ap formula_of e ∙ of_implies a b) (record { low = refl; atoms = λ m x. x; column = implies_column (formula_of a) (formula_of b) })
over_two h a b (inr (inr (inr (inl e)))) = two_at h a b _ (ap formula_of e ∙ of_eu a b) (record { low = refl; atoms = λ m x. x; column = eu_column (formula_of a) (formula_of b) })
over_two h a b (inr (inr (inr (inr e)))) = two_at h a b _ (ap formula_of e ∙ of_au a b) (record { low = refl; atoms = λ m x. x; column = au_column (formula_of a) (formula_of b) })

-- ---- cells

-- one level of them
pub one_level : (n levels cells h : ℕ) → 1 ≤ h → h ≤ levels → n * levels ≤ cells → n ≤ cells
one_level n levels cells h some low room = grind arith

-- two levels
pub two_levels : (n levels cells h : ℕ) → 2 ≤ h → h ≤ levels → n * levels ≤ cells → n ≤ cells - n
two_levels n levels cells h some low room = grind arith

-- the levels below the first
pub levels_below : (n levels cells rest : ℕ) → 1 ≤ levels → n * levels ≤ cells → rest + n ≡ cells → n * (levels - 1) ≤ rest
levels_below n levels cells rest some room whole = grind arith

-- the cells below the first level are enough for a column
pub room_below : (n levels cells mid front back new h : ℕ) → mid ≡ n → front ≡ mid → back + mid ≡ cells → new ≡ back → 2 ≤ h → h ≤ levels
    → n * levels ≤ cells → front ≤ new
room_below n levels cells mid front back new h e f b s high low room =
    let less : n ≤ cells - n = two_levels n levels cells h high low room in
    omega arith

front_same : (xs ys : List Bool) (p : ℕ) → p < length xs → get_or (xs ++ ys) p false ≡ get_or xs p false
front_same [] ys p c = absurd (omega arith)
front_same (x ∷ xs) ys zero c = refl
front_same (x ∷ xs) ys (suc p) c = front_same xs ys p (omega arith)

-- the column stands in the first cells
pub front_column : (P : Lasso State → Type 0) (l : Lasso State) (n : ℕ) (xs ys : List Bool) → length xs ≡ n → IsColumn P l n xs → IsColumn P l n (xs ++ ys)
front_column P l n xs ys e h =
    record { by = λ p c. subst (λ (b : Bool). IsTrue b ↔ P (suffix p l)) (sym (front_same xs ys p (omega arith))) (h.by p c) }

not_column : (a : Formula Expr) (label : State → Expr → Bool) (shown : Bool) (l : Lasso State) (n : ℕ) (xs : List Bool)
    → IsColumn (Tells label (not shown) a) l n xs → IsColumn (Tells label shown (Not a)) l n xs
not_column a label true l n xs h = h
not_column a label false l n xs h = h

-- ---- the column of each node

pub atom_node : (F : Formula Expr) (x : Expr) → F ≡ Atom x → (label : State → Expr → Bool) (shown : Bool) (l : Lasso State) (n : ℕ) (new more : List Bool)
    → length new ≡ n → IsColumn (Tells label shown (Atom x)) l n new → IsColumn (Tells label shown F) l n (new ++ more)
atom_node F x is label shown l n new more e h =
    subst (λ (f : Formula Expr). IsColumn (Tells label shown f) l n (new ++ more)) (sym is) (front_column (Tells label shown (Atom x)) l n new more e h)

pub not_node : (F A : Formula Expr) → F ≡ Not A → (label : State → Expr → Bool) (shown : Bool) (l : Lasso State) (n : ℕ) (xs new more : List Bool)
    → length new ≡ n → IsColumn (Tells label (not shown) A) l n xs → ((p : ℕ) → p < n → get_or new p false ≡ get_or xs p false)
    → IsColumn (Tells label shown F) l n (new ++ more)
not_node F A is label shown l n xs new more e h same =
    subst (λ (f : Formula Expr). IsColumn (Tells label shown f) l n (new ++ more)) (sym is)
    (front_column (Tells label shown (Not A)) l n new more e
    (not_column A label shown l n new
    (record { by = λ p c. subst (λ (b : Bool). IsTrue b ↔ Tells label (not shown) A (suffix p l)) (sym (same p c)) (h.by p c) })))

pub walked : (F A : Formula Expr) → IsOverOne F A → (label : State → Expr → Bool) (shown : Bool) (way : Walk) (l : Lasso State) (n turn : ℕ)
    (column ys new more : List Bool) → HasPlaces l n turn → way ≡ walk_of F shown → length column ≡ n → length new ≡ n
    → IsColumn (Tells label shown A) l n ys
    → ((label : State → Expr → Bool) (shown : Bool) (f : Formula Expr) (l : Lasso State) → HasPlaces l (length column) turn
    → IsColumn (Tells label shown f) l (length column) ys → IsColumn (Walks way (Tells label shown f)) l (length column) new)
    → IsColumn (Tells label shown F) l n (new ++ more)
walked F A over label shown way l n turn column ys new more places is e d h put =
    front_column (Tells label shown F) l n new more d
    (over.column label shown l n new
    (subst (λ v. IsColumn (Walks v (Tells label shown A)) l n new) is
    (subst (λ i. IsColumn (Walks way (Tells label shown A)) l i new) e
    (put label shown A l (subst (λ i. HasPlaces l i turn) (sym e) places) (subst (λ i. IsColumn (Tells label shown A) l i ys) (sym e) h)))))

pub joined : (F A B : Formula Expr) → IsOverTwo F A B → (label : State → Expr → Bool) (shown first : Bool) (way : Join) (l : Lasso State) (n turn : ℕ)
    (xs column ys new more : List Bool) → HasPlaces l n turn → first ≡ first_shown F shown → way ≡ join_of F shown → length column ≡ n → length new ≡ n
    → IsColumn (Tells label first A) l n xs → ((p : ℕ) → p < n → get_or column p false ≡ get_or xs p false) → IsColumn (Tells label shown B) l n ys
    → ((label : State → Expr → Bool) (first second : Bool) (f g : Formula Expr) (l : Lasso State) → HasPlaces l (length column) turn
    → IsColumn (Tells label first f) l (length column) column → IsColumn (Tells label second g) l (length column) ys
    → IsColumn (Joins way (Tells label first f) (Tells label second g)) l (length column) new)
    → IsColumn (Tells label shown F) l n (new ++ more)
joined F A B over label shown first way l n turn xs column ys new more places side is e d h same g put =
    let first_column : IsColumn (Tells label first A) l n column =
    record { by = λ p c. subst (λ (b : Bool). IsTrue b ↔ Tells label first A (suffix p l)) (sym (same p c)) (h.by p c) } in
    front_column (Tells label shown F) l n new more d
    (over.column label shown l n new
    (subst (λ s. IsColumn (Joins (join_of F shown) (Tells label s A) (Tells label shown B)) l n new) side
    (subst (λ v. IsColumn (Joins v (Tells label first A) (Tells label shown B)) l n new) is
    (subst (λ i. IsColumn (Joins way (Tells label first A) (Tells label shown B)) l i new) e
    (put label first shown A B l (subst (λ i. HasPlaces l i turn) (sym e) places)
    (subst (λ i. IsColumn (Tells label first A) l i column) (sym e) first_column)
    (subst (λ i. IsColumn (Tells label shown B) l i ys) (sym e) g))))))
