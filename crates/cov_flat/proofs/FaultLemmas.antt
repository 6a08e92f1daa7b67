-- A program in which no step finds a fault.
use Rattle.std.proofs.Common.{◌≡◌, ◌∷◌, [], Option, Some, None, Result, Ok, Err, ap, ◌∙◌}
use Rattle.cov_syntax.specs.declared.fault.FaultKind.TheVariants as kind
use Rattle.cov_syntax.specs.declared.fault.ModelFault.{ModelFault}
use Rattle.cov_syntax.specs.declared.program.Program.{Program}
use Rattle.cov_model.specs.declared.model.Model.{Model}
use Rattle.cov_modules.specs.Names.{first}
use Rattle.cov_modules.specs.FlatLists.{flat_model}
use Rattle.cov_modules.specs.ModuleFaults.{fault, modules_fault}
use Rattle.cov_modules.specs.NameFaults.{unknown_name, double_assign}
use Rattle.cov_modules.specs.Flatten.{flat, flat_fault}

module _ (p : Program) (sound : modules_fault p ≡ None) (known : unknown_name p ≡ None) (single : double_assign p ≡ None) where
  -- there is no fault
  pub no_fault : flat_fault p ≡ None
  no_fault =
      ap (λ (o : Option ModelFault). first (o ∷ fault kind.UnknownName (unknown_name p) ∷ fault kind.DoubleAssign (double_assign p) ∷ [])) sound
      ∙ ap (λ (o : Option ModelFault). first (o ∷ fault kind.DoubleAssign (double_assign p) ∷ [])) (ap (fault kind.UnknownName) known)
      ∙ ap (λ (o : Option ModelFault). first (o ∷ [])) (ap (fault kind.DoubleAssign) single)

  -- the answer is the flat model
  pub flat_is : flat p ≡ Ok (flat_model p)
  flat_is = let answer : Option ModelFault → Result Model ModelFault = λ (o : Option ModelFault). elim o [ Some f ↦ Err f | None ↦ Ok (flat_model p) ] in ap answer no_fault
