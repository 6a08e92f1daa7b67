-- Walks over a node with two operands.
use Rattle.std.proofs.Common.{◌≡◌, ◌≢◌, ◌⊎◌, inl, inr, ℕ, ◌+◌, ◌-◌, ◌==◌, ◌<◌, Bool, true, false, not, if◌then◌else◌, Some, refl, ap, sym, subst, ◌∙◌, arith}
use Rattle.std.specs.declared.ops.ControlFlow.{ControlFlow}
use Rattle.std.specs.declared.ops.ControlFlow.TheVariants.{Continue, Break}
use Rattle.std.proofs.lemmas.Bool.{cond_both, eqb-true, leb-true, leb-false}
use Rattle.cov_syntax.specs.declared.tree.Expr.{Expr}
use Rattle.cov_logic.specs.Formula.{Formula, And, Or, Implies, EU, AU}
use Rattle.cov_logic.specs.Occurrence.{size, in_left, occurrence}
use Rattle.cov_logic.specs.Polarity.{positive}
use Rattle.cov_logic.specs.Replacement.{replace}
use Rattle.cov_ctl.specs.declared.formula.Formula as ctl
use Rattle.cov_ctl.specs.declared.formula.Formula.TheVariants as v
use Rattle.cov_ctl.specs.declared.formula.Formula.TheFolds as formulas
use Rattle.cov_ctl.specs.declared.occurrences.Node.{Node}
use Rattle.cov_ctl.specs.declared.replacing.Replaced.{Replaced}
use Rattle.cov_ctl.specs.Formulas.{formula_of}
use Rattle.cov_ctl.specs.Occurrences.{polarity, Tells}
use Rattle.cov_ctl.specs.Replacing.{over_both, IsReplaced}
use Rattle.cov_ctl.proofs.Occurring.{occurs}
use Rattle.cov_ctl.proofs.Replacements.{replaced_both}

-- a node over two operands, in the left one of which a polarity is turned or not
pub record IsOver (whole f g : Formula Expr) (turned : Bool → Bool) (op : Formula Expr → Formula Expr → Formula Expr) : Type 0 where
  pub nodes : size whole ≡ 1 + size f + size g
  pub found : (n : ℕ) → occurrence whole n
      ≡ (if n == 1 then Some whole else if in_left f n then occurrence f (n - 1) else occurrence g (n - 1 - size f))
  pub sign : (n : ℕ) → positive whole n ≡ (if n == 1 then true else if in_left f n then turned (positive f (n - 1)) else positive g (n - 1 - size f))
  pub made : (x y : Formula Expr) → over_both whole x y ≡ op x y
  pub replaced : (n : ℕ) (x : Formula Expr) → replace whole n x
      ≡ (if n == 1 then x else if in_left f n then op (replace f (n - 1) x) g else op f (replace g (n - 1 - size f) x))

abbrev kept : Bool → Bool
kept b = b

-- one of the operators stands over the two
pub record IsNodeOver (h f g : ctl.Formula) : Type 0 where
  pub turned : Bool → Bool
  pub op : Formula Expr → Formula Expr → Formula Expr
  pub over : IsOver (formula_of h) (formula_of f) (formula_of g) turned op

-- the same of those that keep the polarity
pub record IsKeptOver (h f g : ctl.Formula) : Type 0 where
  pub op : Formula Expr → Formula Expr → Formula Expr
  pub over : IsOver (formula_of h) (formula_of f) (formula_of g) kept op

over_and : (f g : Formula Expr) → IsOver (And f g) f g kept And
over_and f g = record { nodes = refl; found = λ n. refl; sign = λ n. refl; made = λ x y. refl; replaced = λ n x. refl }

over_or : (f g : Formula Expr) → IsOver (Or f g) f g kept Or
over_or f g = record { nodes = refl; found = λ n. refl; sign = λ n. refl; made = λ x y. refl; replaced = λ n x. refl }

over_eu : (f g : Formula Expr) → IsOver (EU f g) f g kept EU
over_eu f g = record { nodes = refl; found = λ n. refl; sign = λ n. refl; made = λ x y. refl; replaced = λ n x. refl }

over_au : (f g : Formula Expr) → IsOver (AU f g) f g kept AU
over_au f g = record { nodes = refl; found = λ n. refl; sign = λ n. refl; made = λ x y. refl; replaced = λ n x. refl }

over_implies : (f g : Formula Expr) → IsOver (Implies f g) f g not Implies
over_implies f g = record { nodes = refl; found = λ n. refl; sign = λ n. refl; made = λ x y. refl; replaced = λ n x. refl }

-- ---- the formula of each node

of_and : (f g : ctl.Formula) → formula_of (v.And f g) ≡ And (formula_of f) (formula_of g)
of_and f g = search formulas.the_lemmas

of_or : (f g : ctl.Formula) → formula_of (v.Or f g) ≡ Or (formula_of f) (formula_of g)
of_or f g = search formulas.the_lemmas

of_implies : (f g : ctl.Formula) → formula_of (v.Implies f g) ≡ Implies (formula_of f) (formula_of g)
of_implies f g = search formulas.the_lemmas

of_eu : (f g : ctl.Formula) → formula_of (v.Eu f g) ≡ EU (formula_of f) (formula_of g)
of_eu f g = search formulas.the_lemmas

of_au : (f g : ctl.Formula) → formula_of (v.Au f g) ≡ AU (formula_of f) (formula_of g)
of_au f g = search formulas.the_lemmas

at_node : (turned : Bool → Bool) (op : Formula Expr → Formula Expr → Formula Expr) (h f g w : ctl.Formula) → h ≡ w → formula_of w ≡ op (formula_of f) (formula_of g)
    → IsOver (op (formula_of f) (formula_of g)) (formula_of f) (formula_of g) turned op → IsOver (formula_of h) (formula_of f) (formula_of g) turned op
at_node turned op h f g w e shape over =
    subst (λ (z : Formula Expr). IsOver z (formula_of f) (formula_of g) turned op) (sym (ap formula_of e ∙ shape)) over

pub at_implies : (h f g : ctl.Formula) → h ≡ v.Implies f g → IsOver (formula_of h) (formula_of f) (formula_of g) not Implies
at_implies h f g e = at_node not Implies h f g _ e (of_implies f g) (over_implies _ _)

pub at_kept : (h f g : ctl.Formula) → (h ≡ v.And f g) ⊎ ((h ≡ v.Or f g) ⊎ ((h ≡ v.Eu f g) ⊎ (h ≡ v.Au f g))) → IsKeptOver h f g
at_kept h f g (inl e) = record { op = And; over = at_node kept And h f g _ e (of_and f g) (over_and _ _) }
at_kept h f g (inr (inl e)) = record { op = Or; over = at_node kept Or h f g _ e (of_or f g) (over_or _ _) }
at_kept h f g (inr (inr (inl e))) = record { op = EU; over = at_node kept EU h f g _ e (of_eu f g) (over_eu _ _) }
at_kept h f g (inr (inr (inr e))) = record { op = AU; over = at_node kept AU h f g _ e (of_au f g) (over_au _ _) }

pub at_each : (h f g : ctl.Formula)
    → (h ≡ v.And f g) ⊎ ((h ≡ v.Or f g) ⊎ ((h ≡ v.Implies f g) ⊎ ((h ≡ v.Eu f g) ⊎ (h ≡ v.Au f g)))) → IsNodeOver h f g
at_each h f g (inl e) = record { turned = kept; op = And; over = at_node kept And h f g _ e (of_and f g) (over_and _ _) }
at_each h f g (inr (inl e)) = record { turned = kept; op = Or; over = at_node kept Or h f g _ e (of_or f g) (over_or _ _) }
at_each h f g (inr (inr (inl e))) = record { turned = not; op = Implies; over = at_implies h f g e }
at_each h f g (inr (inr (inr (inl e)))) = record { turned = kept; op = EU; over = at_node kept EU h f g _ e (of_eu f g) (over_eu _ _) }
at_each h f g (inr (inr (inr (inr e)))) = record { turned = kept; op = AU; over = at_node kept AU h f g _ e (of_au f g) (over_au _ _) }

-- ---- where the occurrence is

-- it is in the left operand
on_left : {B : Type 0} (f y : Formula Expr) (n : ℕ) (here l r : B) → n ≢ 1 → occurrence f (n - 1) ≡ Some y → (if n == 1 then here else if in_left f n then l else r) ≡ l
on_left f y n here l r ne e =
    let o = occurs f y (n - 1) e in
    cond_both (n == 1) here (if in_left f n then l else r) (λ z. z ≡ l) (λ e. absurd (ne (eqb-true n 1 e)))
    (λ _. cond_both (in_left f n) l r (λ z. z ≡ l) (λ _. refl) (λ d. let right = leb-false n (1 + size f) d in absurd (omega (arith, o.1))))

-- it is in the right operand
on_right : {B : Type 0} (f : Formula Expr) (n left : ℕ) (here l : B) (r : ℕ → B) → n ≢ 1 → 0 < left → left + size f ≡ n - 1
    → (if n == 1 then here else if in_left f n then l else r (n - 1 - size f)) ≡ r left
on_right f n left here l r ne some e =
    cond_both (n == 1) here (if in_left f n then l else r (n - 1 - size f)) (λ z. z ≡ r left) (λ e. absurd (ne (eqb-true n 1 e)))
    (λ _. cond_both (in_left f n) l (r (n - 1 - size f)) (λ z. z ≡ r left) (λ d. let low = leb-true n (1 + size f) d in absurd (omega arith))
    (λ _. let same : n - 1 - size f ≡ left = omega arith in ap r same))

twice_turned : (w b : Bool) → polarity (not w) b ≡ polarity w (not b)
twice_turned true true = refl
twice_turned true false = refl
twice_turned false true = refl
twice_turned false false = refl

module _ (whole f g : Formula Expr) (turned : Bool → Bool) (op : Formula Expr → Formula Expr → Formula Expr) (over : IsOver whole f g turned op) where
  -- what is found in the left operand is found in the node
  told_left : (n : ℕ) (w inner : Bool) → ((b : Bool) → polarity inner b ≡ polarity w (turned b)) → n ≢ 1 → (x : Node) → Tells f (n - 1) inner (Break x) → Tells whole n w (Break x)
  told_left n w inner same ne x h = (
    over.found n ∙ on_left f _ n (Some whole) _ _ ne h.0 ∙ h.0,
    h.1 ∙ same (positive f (n - 1)) ∙ ap (polarity w) (sym (over.sign n ∙ on_left f _ n true (turned (positive f (n - 1))) _ ne h.0)),
  )

  -- and so is what the right operand tells, where the left one leaves numbers
  pub told_right : (n left : ℕ) (w : Bool) → n ≢ 1 → (0 < left) × (left + size f ≡ n - 1) → (r : ControlFlow Node ℕ) → Tells g left w r → Tells whole n w r
  told_right n left w ne at (Break x) h = (
    over.found n ∙ on_right f n left (Some whole) (occurrence f (n - 1)) (occurrence g) ne at.0 at.1 ∙ h.0,
    h.1 ∙ ap (polarity w) (sym (over.sign n ∙ on_right f n left true (turned (positive f (n - 1))) (positive g) ne at.0 at.1)),
  )
  told_right n left w ne at (Continue l) h = (h.0, omega (arith, over.nodes, at.0, at.1, h.1))

  -- both operands are walked, and the node is made of what they give
  pub both_replaced : (n : ℕ) (x : Formula Expr) → n ≢ 1 → (a b : Replaced) → IsReplaced f (n - 1) x a → IsReplaced g a.left x b
      → (r : Formula Expr) → r ≡ over_both whole (formula_of a.formula) (formula_of b.formula) → (r ≡ replace whole n x) × (b.left ≡ n - size whole)
  both_replaced n x ne a b h i r e = (
    e ∙ over.made _ _ ∙ ap (λ y. op y (formula_of b.formula)) h.0
        ∙ ap (op (replace f (n - 1) x)) (i.0 ∙ ap (λ (l : ℕ). replace g l x) h.1)
        ∙ sym (over.replaced n x ∙ replaced_both op f g n x ne),
    omega (arith, over.nodes, h.1, i.1),
  )

pub kept_left : (whole f g : Formula Expr) (op : Formula Expr → Formula Expr → Formula Expr) → IsOver whole f g kept op → (n : ℕ) (w : Bool)
    → n ≢ 1 → (x : Node) → Tells f (n - 1) w (Break x) → Tells whole n w (Break x)
kept_left whole f g op over n w = told_left whole f g kept op over n w w (λ b. refl)

pub turned_left : (whole f g : Formula Expr) (op : Formula Expr → Formula Expr → Formula Expr) → IsOver whole f g not op → (n : ℕ) (w : Bool)
    → n ≢ 1 → (x : Node) → Tells f (n - 1) (not w) (Break x) → Tells whole n w (Break x)
turned_left whole f g op over n w = told_left whole f g not op over n w (not w) (twice_turned w)
