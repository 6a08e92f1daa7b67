-- A formula is monotone in each occurrence, up or down by its polarity.
use Rattle.std.proofs.Common.{◌≡◌, ℕ, ◌-◌, ◌==◌, Bool, true, false, not, if◌then◌else◌, inl, inr, subst}
use Rattle.cov_logic.specs.Structure.{Structure}
use Rattle.cov_logic.specs.Suffix.{at}
use Rattle.cov_logic.specs.Formula.{Formula, Atom, Not, And, Or, Implies, EX, EF, EG, EU, AX, AF, AG, AU}
use Rattle.cov_logic.specs.Occurrence.{size, in_left}
use Rattle.cov_logic.specs.Polarity.{positive}
use Rattle.cov_logic.specs.Replacement.{replace}
use Rattle.cov_logic.specs.OccurrenceLaws.{Entails, MonotoneByPolarity}

module _ {S A : Type 0} (m : Structure S) (label : S → A → Bool) where
  -- f is below g for true, above it for false
  abbrev pub Oriented : Bool → Formula A → Formula A → Type 0
  Oriented true f g = Entails m label f g
  Oriented false f g = Entails m label g f

  entails_refl : (f : Formula A) → Entails m label f f
  entails_refl f = record { by = λ s h. h }

  -- an operator that keeps order keeps it in either direction
  keeps : (op : Formula A → Formula A) → ((f g : Formula A) → Entails m label f g → Entails m label (op f) (op g)) →
      (b : Bool) (f g : Formula A) → Oriented b f g → Oriented b (op f) (op g)
  keeps op k true f g h = k f g h
  keeps op k false f g h = k g f h

  -- and one that turns order turns it in either direction
  turns : (op : Formula A → Formula A) → ((f g : Formula A) → Entails m label f g → Entails m label (op g) (op f)) →
      (b : Bool) (f g : Formula A) → Oriented b f g → Oriented (not b) (op f) (op g)
  turns op k true f g h = k f g h
  turns op k false f g h = k g f h

  not_turns : (f g : Formula A) → Entails m label f g → Entails m label (Not g) (Not f)
  not_turns f g h = record { by = λ s n p. n (h.by s p) }

  and_left : (r f g : Formula A) → Entails m label f g → Entails m label (And f r) (And g r)
  and_left r f g h = record { by = λ s p. (h.by s p.0, p.1) }

  and_right : (r f g : Formula A) → Entails m label f g → Entails m label (And r f) (And r g)
  and_right r f g h = record { by = λ s p. (p.0, h.by s p.1) }

  or_left : (r f g : Formula A) → Entails m label f g → Entails m label (Or f r) (Or g r)
  or_left r f g h = record { by = λ s p. elim p [ inl a ↦ inl (h.by s a) | inr b ↦ inr b ] }

  or_right : (r f g : Formula A) → Entails m label f g → Entails m label (Or r f) (Or r g)
  or_right r f g h = record { by = λ s p. elim p [ inl a ↦ inl a | inr b ↦ inr (h.by s b) ] }

  implies_left : (r f g : Formula A) → Entails m label f g → Entails m label (Implies g r) (Implies f r)
  implies_left r f g h = record { by = λ s p a. p (h.by s a) }

  implies_right : (r f g : Formula A) → Entails m label f g → Entails m label (Implies r f) (Implies r g)
  implies_right r f g h = record { by = λ s p a. h.by s (p a) }

  ex_keeps : (f g : Formula A) → Entails m label f g → Entails m label (EX f) (EX g)
  ex_keeps f g h = record { by = λ s (l, fair, p). (l, fair, h.by (at l 1) p) }

  ef_keeps : (f g : Formula A) → Entails m label f g → Entails m label (EF f) (EF g)
  ef_keeps f g h = record { by = λ s (l, fair, p). (l, fair, (p.0, h.by (at l p.0) p.1)) }

  eg_keeps : (f g : Formula A) → Entails m label f g → Entails m label (EG f) (EG g)
  eg_keeps f g h = record { by = λ s (l, fair, p). (l, fair, λ i. h.by (at l i) (p i)) }

  eu_left : (r f g : Formula A) → Entails m label f g → Entails m label (EU f r) (EU g r)
  eu_left r f g h = record { by = λ s (l, fair, p). (l, fair, (p.0, p.1, λ i b. h.by (at l i) (p.2 i b))) }

  eu_right : (r f g : Formula A) → Entails m label f g → Entails m label (EU r f) (EU r g)
  eu_right r f g h = record { by = λ s (l, fair, p). (l, fair, (p.0, h.by (at l p.0) p.1, p.2)) }

  ax_keeps : (f g : Formula A) → Entails m label f g → Entails m label (AX f) (AX g)
  ax_keeps f g h = record { by = λ s p l fair. h.by (at l 1) (p l fair) }

  af_keeps : (f g : Formula A) → Entails m label f g → Entails m label (AF f) (AF g)
  af_keeps f g h = record { by = λ s p l fair. let q = p l fair in (q.0, h.by (at l q.0) q.1) }

  ag_keeps : (f g : Formula A) → Entails m label f g → Entails m label (AG f) (AG g)
  ag_keeps f g h = record { by = λ s p l fair i. h.by (at l i) (p l fair i) }

  au_left : (r f g : Formula A) → Entails m label f g → Entails m label (AU f r) (AU g r)
  au_left r f g h = record { by = λ s p l fair. let q = p l fair in (q.0, q.1, λ i b. h.by (at l i) (q.2 i b)) }

  au_right : (r f g : Formula A) → Entails m label f g → Entails m label (AU r f) (AU r g)
  au_right r f g h = record { by = λ s p l fair. let q = p l fair in (q.0, h.by (at l q.0) q.1, q.2) }

  -- the node itself is replaced, or one below it
  here_or_below : (x y : Formula A) → Entails m label x y → (here p : Bool) (f g : Formula A) → Oriented p f g →
      Oriented (if here then true else p) (if here then x else f) (if here then y else g)
  here_or_below x y h true p f g r = h
  here_or_below x y h false p f g r = r

  -- the occurrence is in the left operand or in the right one
  left_or_right : (left p q : Bool) (f g f' g' : Formula A) → Oriented p f g → Oriented q f' g' →
      Oriented (if left then p else q) (if left then f else f') (if left then g else g')
  left_or_right true p q f g f' g' a b = a
  left_or_right false p q f g f' g' a b = b

  -- a formula is monotone in each of its occurrences, up or down by its polarity
  pub monotone : (f : Formula A) (n : ℕ) (x y : Formula A) → Entails m label x y → Oriented (positive f n) (replace f n x) (replace f n y)
  monotone (Atom a) n x y h = elim (n == 1) as (λ b. Oriented true (if b then x else Atom a) (if b then y else Atom a)) [ true ↦ h | false ↦ entails_refl (Atom a) ]
  monotone (Not f) n x y h =
      here_or_below x y h (n == 1) _ _ _ (turns Not not_turns (positive f (n - 1)) _ _ (monotone f (n - 1) x y h))
  monotone (And f g) n x y h =
      here_or_below x y h (n == 1) _ _ _ (left_or_right (in_left f n) _ _ _ _ _ _
      (keeps (λ a. And a g) (and_left g) (positive f (n - 1)) _ _ (monotone f (n - 1) x y h))
      (keeps (And f) (and_right f) (positive g (n - 1 - size f)) _ _ (monotone g (n - 1 - size f) x y h)))
  monotone (Or f g) n x y h =
      here_or_below x y h (n == 1) _ _ _ (left_or_right (in_left f n) _ _ _ _ _ _
      (keeps (λ a. Or a g) (or_left g) (positive f (n - 1)) _ _ (monotone f (n - 1) x y h))
      (keeps (Or f) (or_right f) (positive g (n - 1 - size f)) _ _ (monotone g (n - 1 - size f) x y h)))
  monotone (Implies f g) n x y h =
      here_or_below x y h (n == 1) _ _ _ (left_or_right (in_left f n) _ _ _ _ _ _
      (turns (λ a. Implies a g) (implies_left g) (positive f (n - 1)) _ _ (monotone f (n - 1) x y h))
      (keeps (Implies f) (implies_right f) (positive g (n - 1 - size f)) _ _ (monotone g (n - 1 - size f) x y h)))
  monotone (EX f) n x y h = here_or_below x y h (n == 1) _ _ _ (keeps EX ex_keeps (positive f (n - 1)) _ _ (monotone f (n - 1) x y h))
  monotone (EF f) n x y h = here_or_below x y h (n == 1) _ _ _ (keeps EF ef_keeps (positive f (n - 1)) _ _ (monotone f (n - 1) x y h))
  monotone (EG f) n x y h = here_or_below x y h (n == 1) _ _ _ (keeps EG eg_keeps (positive f (n - 1)) _ _ (monotone f (n - 1) x y h))
  monotone (EU f g) n x y h =
      here_or_below x y h (n == 1) _ _ _ (left_or_right (in_left f n) _ _ _ _ _ _
      (keeps (λ a. EU a g) (eu_left g) (positive f (n - 1)) _ _ (monotone f (n - 1) x y h))
      (keeps (EU f) (eu_right f) (positive g (n - 1 - size f)) _ _ (monotone g (n - 1 - size f) x y h)))
  monotone (AX f) n x y h = here_or_below x y h (n == 1) _ _ _ (keeps AX ax_keeps (positive f (n - 1)) _ _ (monotone f (n - 1) x y h))
  monotone (AF f) n x y h = here_or_below x y h (n == 1) _ _ _ (keeps AF af_keeps (positive f (n - 1)) _ _ (monotone f (n - 1) x y h))
  monotone (AG f) n x y h = here_or_below x y h (n == 1) _ _ _ (keeps AG ag_keeps (positive f (n - 1)) _ _ (monotone f (n - 1) x y h))
  monotone (AU f g) n x y h =
      here_or_below x y h (n == 1) _ _ _ (left_or_right (in_left f n) _ _ _ _ _ _
      (keeps (λ a. AU a g) (au_left g) (positive f (n - 1)) _ _ (monotone f (n - 1) x y h))
      (keeps (AU f) (au_right f) (positive g (n - 1 - size f)) _ _ (monotone g (n - 1 - size f) x y h)))

  -- upward in a positive occurrence
  pub upward : (f : Formula A) (n : ℕ) (x y : Formula A) → Entails m label x y → positive f n ≡ true → Entails m label (replace f n x) (replace f n y)
  upward f n x y h e = subst (λ b. Oriented b (replace f n x) (replace f n y)) e (monotone f n x y h)

  -- downward in a negative one
  pub downward : (f : Formula A) (n : ℕ) (x y : Formula A) → Entails m label x y → positive f n ≡ false → Entails m label (replace f n y) (replace f n x)
  downward f n x y h e = subst (λ b. Oriented b (replace f n x) (replace f n y)) e (monotone f n x y h)

pub monotone_law : (S A : Type 0) → MonotoneByPolarity S A
monotone_law S A m label f n x y h = (upward m label f n x y h, downward m label f n x y h)
