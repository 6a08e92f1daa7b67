-- What evidence claims.
use Rattle.std.specs.Prelude.{ℕ, suc, zero, Bool, Option, None, slice_get}
use Rattle.std.specs.Option.{option_map}
use Rattle.cov_syntax.specs.declared.tree.Expr.{Expr}
use Rattle.cov_logic.specs.Formula.{Formula}
use Rattle.cov_logic.specs.Occurrence.{IsOccurrence}
use Rattle.cov_model.specs.declared.model.Model.{Model}
use Rattle.cov_model.specs.Paths.{labelling, mutant_labelling}
use Rattle.cov_model.specs.States.{State}
use Rattle.cov_ctl.specs.Formulas.{formula_of}
use Rattle.cov_ctl.specs.Lowered.{lowered}
use Rattle.cov_claims.specs.Refuted.{hardest}
use Rattle.cov_claims.specs.declared.evidence.Claim.{Claim}
use Rattle.cov_claims.specs.declared.evidence.Claim.TheVariants.{Mutant, Occurrence}

-- the specification of this number, from 1, if there is one
abbrev pub specification : Model → ℕ → Option (Formula Expr)
specification m zero = None
specification m (suc i) = option_map (λ e. formula_of (lowered e)) (slice_get m.specs i)

-- what the claim names is an occurrence of the formula; a mutant names none
abbrev pub Occurs : Claim → Formula Expr → Type 0
Occurs (Mutant q w) f = Unit {0}
Occurs (Occurrence n) f = IsOccurrence f n

-- the refuted formula, which does not pass by the claim: the specification itself for a mutant, and for an occurrence the
-- specification with the constant in its place that makes it hardest to pass
abbrev pub refuted_formula : Claim → Formula Expr → Formula Expr
refuted_formula (Mutant q w) f = f
refuted_formula (Occurrence n) f = hardest f n

-- which atoms are true at a state by the claim: with the signal inverted at one state alone for a mutant, and without
-- any inversion for an occurrence
abbrev pub claim_labelling : Model → Claim → State → Expr → Bool
claim_labelling m (Mutant q w) = mutant_labelling m q w
claim_labelling m (Occurrence n) = labelling m None
