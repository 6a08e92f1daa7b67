-- A property of all atoms of a formula is kept at an occurrence and where one is replaced.
use Rattle.std.proofs.Common.{◌≡◌, ℕ, ◌-◌, ◌==◌, Bool, true, false, Option, Some, None, if◌then◌else◌, subst}
use Rattle.cov_logic.specs.Formula.{Formula, Atom, Not, And, Or, Implies, EX, EF, EG, EU, AX, AF, AG, AU}
use Rattle.cov_logic.specs.Occurrence.{size, in_left, occurrence}
use Rattle.cov_logic.specs.Replacement.{replace}
use Rattle.cov_formulas.specs.Formulas.{AllAtoms}

module _ {A : Type 0} (P : A → Type 0) where
  -- ---- occurrences

  -- what is found has the property
  abbrev Finds : Option (Formula A) → Type 0
  Finds o = (g : Formula A) → o ≡ Some g → AllAtoms P g

  here : (b : Bool) (whole : Formula A) (o : Option (Formula A)) → AllAtoms P whole → Finds o → Finds (if b then Some whole else o)
  here true whole o h k = λ g e. let same : whole ≡ g = cc in subst (AllAtoms P) same h
  here false whole o h k = k

  in_one : (b : Bool) (o p : Option (Formula A)) → Finds o → Finds p → Finds (if b then o else p)
  in_one true o p h k = h
  in_one false o p h k = k

  finds : (f : Formula A) (n : ℕ) → AllAtoms P f → Finds (occurrence f n)
  finds (Atom a) n h = here (n == 1) (Atom a) None h (λ g e. cc)
  finds (Not f) n h = here (n == 1) (Not f) _ h (finds f (n - 1) h)
  finds (And f g) n h = here (n == 1) (And f g) _ h (in_one (in_left f n) _ _ (finds f (n - 1) h.0) (finds g (n - 1 - size f) h.1))
  finds (Or f g) n h = here (n == 1) (Or f g) _ h (in_one (in_left f n) _ _ (finds f (n - 1) h.0) (finds g (n - 1 - size f) h.1))
  finds (Implies f g) n h = here (n == 1) (Implies f g) _ h (in_one (in_left f n) _ _ (finds f (n - 1) h.0) (finds g (n - 1 - size f) h.1))
  finds (EX f) n h = here (n == 1) (EX f) _ h (finds f (n - 1) h)
  finds (EF f) n h = here (n == 1) (EF f) _ h (finds f (n - 1) h)
  finds (EG f) n h = here (n == 1) (EG f) _ h (finds f (n - 1) h)
  finds (EU f g) n h = here (n == 1) (EU f g) _ h (in_one (in_left f n) _ _ (finds f (n - 1) h.0) (finds g (n - 1 - size f) h.1))
  finds (AX f) n h = here (n == 1) (AX f) _ h (finds f (n - 1) h)
  finds (AF f) n h = here (n == 1) (AF f) _ h (finds f (n - 1) h)
  finds (AG f) n h = here (n == 1) (AG f) _ h (finds f (n - 1) h)
  finds (AU f g) n h = here (n == 1) (AU f g) _ h (in_one (in_left f n) _ _ (finds f (n - 1) h.0) (finds g (n - 1 - size f) h.1))

  pub at_occurrence : (f : Formula A) (n : ℕ) (g : Formula A) → AllAtoms P f → occurrence f n ≡ Some g → AllAtoms P g
  at_occurrence f n g h e = finds f n h g e

  -- ---- replacing

  either : (b : Bool) (x y : Formula A) → AllAtoms P x → AllAtoms P y → AllAtoms P (if b then x else y)
  either true x y h k = h
  either false x y h k = k

  module _ (x : Formula A) (new : AllAtoms P x) where
    pub all_replaced : (f : Formula A) (n : ℕ) → AllAtoms P f → AllAtoms P (replace f n x)
    all_replaced (Atom a) n h = either (n == 1) x (Atom a) new h
    all_replaced (Not f) n h = either (n == 1) x (Not (replace f (n - 1) x)) new (all_replaced f (n - 1) h)
    all_replaced (And f g) n h =
        either (n == 1) x _ new (either (in_left f n) (And (replace f (n - 1) x) g) (And f (replace g (n - 1 - size f) x)) (all_replaced f (n - 1) h.0, h.1) (h.0, all_replaced g (n - 1 - size f) h.1))
    all_replaced (Or f g) n h =
        either (n == 1) x _ new (either (in_left f n) (Or (replace f (n - 1) x) g) (Or f (replace g (n - 1 - size f) x)) (all_replaced f (n - 1) h.0, h.1) (h.0, all_replaced g (n - 1 - size f) h.1))
    all_replaced (Implies f g) n h =
        either (n == 1) x _ new (either (in_left f n) (Implies (replace f (n - 1) x) g) (Implies f (replace g (n - 1 - size f) x)) (all_replaced f (n - 1) h.0, h.1) (h.0, all_replaced g (n - 1 - size f) h.1))
    all_replaced (EX f) n h = either (n == 1) x (EX (replace f (n - 1) x)) new (all_replaced f (n - 1) h)
    all_replaced (EF f) n h = either (n == 1) x (EF (replace f (n - 1) x)) new (all_replaced f (n - 1) h)
    all_replaced (EG f) n h = either (n == 1) x (EG (replace f (n - 1) x)) new (all_replaced f (n - 1) h)
    all_replaced (EU f g) n h =
        either (n == 1) x _ new (either (in_left f n) (EU (replace f (n - 1) x) g) (EU f (replace g (n - 1 - size f) x)) (all_replaced f (n - 1) h.0, h.1) (h.0, all_replaced g (n - 1 - size f) h.1))
    all_replaced (AX f) n h = either (n == 1) x (AX (replace f (n - 1) x)) new (all_replaced f (n - 1) h)
    all_replaced (AF f) n h = either (n == 1) x (AF (replace f (n - 1) x)) new (all_replaced f (n - 1) h)
    all_replaced (AG f) n h = either (n == 1) x (AG (replace f (n - 1) x)) new (all_replaced f (n - 1) h)
    all_replaced (AU f g) n h =
        either (n == 1) x _ new (either (in_left f n) (AU (replace f (n - 1) x) g) (AU f (replace g (n - 1 - size f) x)) (all_replaced f (n - 1) h.0, h.1) (h.0, all_replaced g (n - 1 - size f) h.1))
