-- What the numbers of evidence name.
use Rattle.std.proofs.Common.{◌≡◌, ℕ, suc, ◌≤◌, Bool, not, List, Option, Some, slice_get, refl, sym, ap, ◌∙◌, subst, arith}
use Rattle.std.specs.Option.{option_map}
use Rattle.cov_syntax.specs.declared.tree.Expr.{Expr}
use Rattle.cov_logic.specs.Formula.{Formula, Atom}
use Rattle.cov_logic.specs.Occurrence as logic
use Rattle.cov_logic.specs.Polarity.{positive}
use Rattle.cov_logic.specs.Replacement.{replace}
use Rattle.cov_model.specs.declared.model.Model.{Model}
use Rattle.cov_model.specs.Atoms.{IsAtomOf}
use Rattle.cov_model.specs.WellFormed.{IsWellFormed}
use Rattle.cov_ctl.specs.declared.formula.Formula as ctl
use Rattle.cov_ctl.specs.Constants.{constant_expr}
use Rattle.cov_ctl.specs.Formulas.{formula_of}
use Rattle.cov_ctl.specs.Lowered.{lowered}
use Rattle.cov_ctl.proofs.FormulaLaws.{of_constant, size_of}
use Rattle.cov_ctl.proofs.Replacements.{size_replaced}
use Rattle.cov_types.proofs.LoweredSizes.{lowered_formula}
use Rattle.cov_ranges.proofs.Places.{specs_stand}
use Rattle.cov_formulas.specs.Formulas.{AllAtoms}
use Rattle.cov_formulas.proofs.ConstantAtoms.{constant_of}
use Rattle.cov_formulas.proofs.Kept.{all_replaced}
use Rattle.cov_formulas.proofs.Lowering.{all_atoms}
use Rattle.cov_formulas.proofs.SpecLists.{spec_fits, spec_small}
use Rattle.cov_claims.specs.declared.evidence.Claim.TheVariants.{Mutant, Occurrence}
use Rattle.cov_claims.specs.declared.evidence.Evidence.{Evidence}
use Rattle.cov_model.specs.declared.model.Signal.{Signal}
use Rattle.cov_replay.specs.declared.bench.Subject.{Subject}
use Rattle.cov_replay.specs.declared.bench.Subject.TheVariants as subject
use Rattle.cov_replay.specs.Benches.{IsNumbered, IsClaimed, IsSubject, IsConstantIn, IsSmall}
use Rattle.cov_claims.specs.Claims.{specification, Occurs, refuted_formula}

named_at : (m : Model) (n : ℕ) (s : Expr) (i : ℕ) → n ≡ suc i → slice_get m.specs i ≡ Some s → specification m n ≡ Some (formula_of (lowered s))
named_at m n s i is there =
    ap (specification m) is ∙ ap (λ (o : Option Expr). option_map (λ (e : Expr). formula_of (lowered e)) o) there

-- the specification of a number
pub named : (m : Model) (n : ℕ) (s : Expr) → IsNumbered m n s → specification m n ≡ Some (formula_of (lowered s))
named m n s h = named_at m n s h.place h.is h.there

spec_atoms : (m : Model) (w : IsWellFormed m) (n : ℕ) (s : Expr) → IsNumbered m n s → AllAtoms (IsAtomOf m) (formula_of (lowered s))
spec_atoms m w n s h = all_atoms m s (specs_stand m h.place s h.there) (spec_fits m w h.place s h.there)

spec_size : (m : Model) (w : IsWellFormed m) (n : ℕ) (s : Expr) → IsNumbered m n s → logic.size (formula_of (lowered s)) ≤ 4096
spec_size m w n s h =
    subst (λ i. i ≤ 4096) (size_of (lowered s)) (subst (λ i. i ≤ 4096) (lowered_formula s) (spec_small m w h.place s h.there))

-- a mutant is one of the specification itself
pub mutant_claimed : (m : Model) (e : Evidence) (s : Expr) (g : ctl.Formula) (q : Signal) (at : List ℕ) → IsWellFormed m → IsNumbered m e.spec s → g ≡ lowered s
    → e.claim ≡ Mutant q at → IsClaimed m e g
mutant_claimed m e s g q at w h is claim = record {
  spec = formula_of (lowered s);
  named = named m e.spec s h;
  occurs = subst (λ c. Occurs c (formula_of (lowered s))) (sym claim) tt;
  is = ap formula_of is ∙ ap (λ c. refuted_formula c (formula_of (lowered s))) (sym claim);
  of_model = subst (λ f. AllAtoms (IsAtomOf m) (formula_of f)) (sym is) (spec_atoms m w e.spec s h);
  small = subst (λ f. logic.size (formula_of f) ≤ 4096) (sym is) (spec_size m w e.spec s h);
}

-- an occurrence is one of the specification, or none
pub occurrence_subject : (m : Model) (e : Evidence) (s : Expr) (f : ctl.Formula) (n : ℕ) (x : Subject) → IsWellFormed m → IsNumbered m e.spec s → f ≡ lowered s
    → e.claim ≡ Occurrence n → IsConstantIn (formula_of f) n x → IsSubject m e x
occurrence_subject m e s f n subject.NoSpec w h is claim c = absurd c
occurrence_subject m e s f n subject.NoOccurrence w h is claim c = record {
  spec = formula_of (lowered s);
  named = named m e.spec s h;
  none = λ o. c (subst (λ z. logic.IsOccurrence (formula_of z) n) (sym is) (subst (λ k. Occurs k (formula_of (lowered s))) claim o));
}
occurrence_subject m e s f n (subject.Claimed g) w h is claim c =
    let F : Formula Expr = formula_of f in
    let b : Bool = not (positive F n) in
    let x : Formula Expr = Atom (constant_expr b) in
    let spec : F ≡ formula_of (lowered s) = ap formula_of is in
    let new : AllAtoms (IsAtomOf m) x = subst (AllAtoms (IsAtomOf m)) (of_constant b) (constant_of m b) in
    let old : AllAtoms (IsAtomOf m) F = subst (AllAtoms (IsAtomOf m)) (sym spec) (spec_atoms m w e.spec s h) in
    let less : logic.size (replace F n x) ≤ logic.size F = size_replaced F n x refl in
    let small : logic.size F ≤ 4096 = subst (λ z. logic.size z ≤ 4096) (sym spec) (spec_size m w e.spec s h) in
    let own : logic.size (formula_of g) ≡ logic.size (replace F n x) = ap logic.size c.1 in
    record {
      spec = F;
      named = named m e.spec s h ∙ ap Some (sym spec);
      occurs = subst (λ k. Occurs k F) (sym claim) c.0;
      is = c.1 ∙ ap (λ k. refuted_formula k F) (sym claim);
      of_model = subst (AllAtoms (IsAtomOf m)) (sym c.1) (all_replaced (IsAtomOf m) x new F n old);
      small = omega arith;
    }

pub small_subject : (m : Model) (e : Evidence) (x : Subject) → IsSubject m e x → IsSmall x
small_subject m e subject.NoSpec h = tt
small_subject m e subject.NoOccurrence h = tt
small_subject m e (subject.Claimed g) h = h.small
