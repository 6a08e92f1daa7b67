-- The memory of the judge.
use Rattle.std.specs.Prelude.{◌≡◌, ℕ, suc, ◌*◌, ◌≤◌, length, slice_get, Some, None}
use Rattle.cov_syntax.specs.declared.tree.Expr.{Expr}
use Rattle.cov_logic.specs.Formula.{Formula}
use Rattle.cov_logic.specs.Occurrence.{size, IsOccurrence}
use Rattle.cov_ctl.specs.declared.formula.Formula as ctl
use Rattle.cov_ctl.specs.Formulas.{formula_of}
use Rattle.cov_formulas.specs.Formulas.{IsFormulaOf}
use Rattle.cov_model.specs.declared.model.Model.{Model}
use Rattle.cov_model.specs.Machine.{IsScratchOf}
use Rattle.cov_claims.specs.declared.evidence.Evidence.{Evidence}
use Rattle.cov_replay.specs.declared.bench.Bench.{Bench}
use Rattle.cov_replay.specs.declared.bench.Subject.{Subject}
use Rattle.cov_replay.specs.declared.bench.Subject.TheVariants as subject
use Rattle.cov_claims.specs.Refuted.{hardest}
use Rattle.cov_claims.specs.Claims.{specification, Occurs, refuted_formula}
use Rattle.cov_replay.specs.Heights.{height}
use Rattle.cov_claims.specs.Places.{places_of}

-- the specification of this number, from 1
pub record IsNumbered (m : Model) (n : ℕ) (s : Expr) : Type 0 where
  pub place : ℕ
  pub is : n ≡ suc place
  pub there : slice_get m.specs place ≡ Some s

-- the formula is the claimed one, with atoms of the model, and is not too large
pub record IsClaimed (m : Model) (e : Evidence) (g : ctl.Formula) : Type 0 where
  pub spec : Formula Expr
  pub named : specification m e.spec ≡ Some spec
  pub occurs : Occurs e.claim spec
  pub is : formula_of g ≡ refuted_formula e.claim spec
  pub of_model : IsFormulaOf m g
  pub small : size (formula_of g) ≤ 4096

-- the numbers of the evidence name no occurrence of the specification
pub record NamesNothing (m : Model) (e : Evidence) : Type 0 where
  pub spec : Formula Expr
  pub named : specification m e.spec ≡ Some spec
  pub none : Occurs e.claim spec → ⊥

-- what the numbers of the evidence name
abbrev pub IsSubject : Model → Evidence → Subject → Type 0
IsSubject m e subject.NoSpec = specification m e.spec ≡ None
IsSubject m e subject.NoOccurrence = NamesNothing m e
IsSubject m e (subject.Claimed g) = IsClaimed m e g

-- the formula with the constant in the place of occurrence n, if it has one
abbrev pub IsConstantIn : Formula Expr → ℕ → Subject → Type 0
IsConstantIn f n subject.NoSpec = ⊥
IsConstantIn f n subject.NoOccurrence = IsOccurrence f n → ⊥
IsConstantIn f n (subject.Claimed g) = IsOccurrence f n × (formula_of g ≡ hardest f n)

-- the levels of cells that what is judged needs
abbrev pub levels_of : Subject → ℕ
levels_of subject.NoSpec = 1
levels_of subject.NoOccurrence = 1
levels_of (subject.Claimed g) = height (formula_of g)

-- what is judged is not too large
abbrev pub IsSmall : Subject → Type 0
IsSmall subject.NoSpec = Unit {0}
IsSmall subject.NoOccurrence = Unit {0}
IsSmall (subject.Claimed g) = size (formula_of g) ≤ 4096

-- the memory was made for the model and the evidence
pub record IsBenchFor (m : Model) (e : Evidence) (b : Bench) : Type 0 where
  pub subject : IsSubject m e b.subject
  pub scratch : IsScratchOf m b.scratch
  pub levels : b.levels ≡ levels_of b.subject
  pub cells : length b.cells.items ≡ places_of e.lasso * b.levels
