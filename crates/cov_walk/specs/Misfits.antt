-- What does not fit, for each thing that a place may ask.
use Rattle.std.specs.Prelude.{◌≡◌, Option, Some, None, [], ◌∷◌, if◌then◌else◌, option_map}
use Rattle.cov_syntax.specs.declared.tree.Span.{Span}
use Rattle.cov_syntax.specs.declared.fault.ModelFault.{ModelFault}
use Rattle.cov_model.specs.Kinds.{Kind}
use Rattle.cov_model.specs.Walk as walk
use Rattle.cov_model.specs.Walk.{first, kind_fits, kind}
use Rattle.cov_walk.specs.declared.misfits.Misfits.{Misfits}

-- the misfits are those of this function of what a place asks
pub record HasMisfits (f : walk.Asks → Option Span) (m : Misfits) : Type 0 where
  pub truth : m.truth ≡ f walk.truth
  pub number : m.number ≡ f walk.number
  pub no_truth : m.no_truth ≡ f walk.no_truth

-- what does not fit what a place asks
abbrev pub misfit : Misfits → walk.Asks → Option Span
misfit m walk.truth = m.truth
misfit m walk.number = m.number
misfit m walk.no_truth = m.no_truth

-- nothing for what the kind fits, and else what did not fit before
pub record IsUnless (k : Kind) (before m : Misfits) : Type 0 where
  pub truth : m.truth ≡ (if kind_fits walk.truth k then None else before.truth)
  pub number : m.number ≡ (if kind_fits walk.number k then None else before.number)
  pub no_truth : m.no_truth ≡ (if kind_fits walk.no_truth k then None else before.no_truth)

-- the first of both
pub record IsEarlier (a b m : Misfits) : Type 0 where
  pub truth : m.truth ≡ first (a.truth ∷ b.truth ∷ [])
  pub number : m.number ≡ first (a.number ∷ b.number ∷ [])
  pub no_truth : m.no_truth ≡ first (a.no_truth ∷ b.no_truth ∷ [])

-- Kind of what does not fit, where a place asks something
abbrev pub kind_told : Option walk.Asks → Misfits → Option ModelFault
kind_told None m = None
kind_told (Some asks) m = option_map (λ place. record { code = kind; place = place }) (misfit m asks)
