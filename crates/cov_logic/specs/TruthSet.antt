-- The truth set of a formula for many labellings at once, by recursion on the formula, from three operations on sets
-- of pairs.
use Rattle.std.specs.Prelude.{Bool, true, not, ◌&&◌, ◌||◌, IsTrue, ◌↔◌}
use Rattle.cov_logic.specs.Structure.{Structure}
use Rattle.cov_logic.specs.Paths.{Next, Always, Until, SomeLasso}
use Rattle.cov_logic.specs.Formula.{Formula, Atom, Not, And, Or, Implies, EX, EF, EG, EU, AX, AF, AG, AU}
use Rattle.cov_logic.specs.Sets.{Pairs}

-- the operations EX, E[U] and EG on sets of pairs
pub record Operations (W S : Type 0) : Type 0 where
  pub ex : Pairs W S → Pairs W S
  pub eu : Pairs W S → Pairs W S → Pairs W S
  pub eg : Pairs W S → Pairs W S

-- for each w apart, each gives the states from which some fair lasso is as its name says
pub record AreExact {W S : Type 0} (m : Structure S) (ops : Operations W S) : Type 0 where
  pub ex : (a : Pairs W S) (w : W) (v : S) → IsTrue (ops.ex a w v) ↔ SomeLasso m v (Next (λ t. IsTrue (a w t)))
  pub eu : (a b : Pairs W S) (w : W) (v : S) →
      IsTrue (ops.eu a b w v) ↔ SomeLasso m v (Until (λ t. IsTrue (a w t)) (λ t. IsTrue (b w t)))
  pub eg : (a : Pairs W S) (w : W) (v : S) → IsTrue (ops.eg a w v) ↔ SomeLasso m v (Always (λ t. IsTrue (a w t)))

-- all pairs
abbrev pub everything : {W S : Type 0} → Pairs W S
everything w v = true

-- the pairs outside a set
abbrev pub complement : {W S : Type 0} → Pairs W S → Pairs W S
complement a w v = not (a w v)

-- the pairs in both sets
abbrev pub intersection : {W S : Type 0} → Pairs W S → Pairs W S → Pairs W S
intersection a b w v = a w v && b w v

-- the pairs of w and v such that the formula is computed to be true at v under the labelling of w
abbrev pub truth_set : {W S A : Type 0} → Operations W S → (W → S → A → Bool) → Formula A → Pairs W S
truth_set ops label (Atom a) w v = label w v a
truth_set ops label (Not f) w v = not (truth_set ops label f w v)
truth_set ops label (And f g) w v = truth_set ops label f w v && truth_set ops label g w v
truth_set ops label (Or f g) w v = truth_set ops label f w v || truth_set ops label g w v
truth_set ops label (Implies f g) w v = not (truth_set ops label f w v) || truth_set ops label g w v
truth_set ops label (EX f) w v = ops.ex (truth_set ops label f) w v
truth_set ops label (EF f) w v = ops.eu everything (truth_set ops label f) w v
truth_set ops label (EG f) w v = ops.eg (truth_set ops label f) w v
truth_set ops label (EU f g) w v = ops.eu (truth_set ops label f) (truth_set ops label g) w v
truth_set ops label (AX f) w v = not (ops.ex (complement (truth_set ops label f)) w v)
truth_set ops label (AF f) w v = not (ops.eg (complement (truth_set ops label f)) w v)
truth_set ops label (AG f) w v = not (ops.eu everything (complement (truth_set ops label f)) w v)
truth_set ops label (AU f g) w v =
    let no_f = complement (truth_set ops label f) in
    let no_g = complement (truth_set ops label g) in
    not (ops.eg no_g w v) && not (ops.eu no_g (intersection no_g no_f) w v)
