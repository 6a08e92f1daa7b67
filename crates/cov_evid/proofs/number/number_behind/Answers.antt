use Rattle.std.proofs.Common.{◌≡◌, ℕ, ◌++◌, Bool, true, false, List, Option, Some, None, IfSome, IfNone, refl, ap, ◌∙◌, decimal}
use Rattle.std.specs.Prelude.{if◌then◌else◌}
use Rattle.cov_evid.specs.FirstFault.{has_number}
use Rattle.cov_evid.specs.Numbers.{digits_number, is_number}
use Rattle.cov_evid.specs.Spelling.{IsNumber}
use Rattle.cov_evid.proofs.Fronts.{no_number, number_is}
use Rattle.cov_evid.proofs.Numbers.{decimal_is}
use Rattle.cov_evid.proofs.number.number_behind.Goals as goal

-- what the number behind a front tells of the line
record Tells (front line : List ℕ) (o : Option ℕ) : Type 0 where
  some : IfSome o (λ n. IsNumber n × (line ≡ front ++ decimal n))
  none : IfNone o (has_number front line ≡ false)
  is : IfSome o (λ n. has_number front line ≡ true)

tells : (front line rest : List ℕ) (o : Option ℕ) → line ≡ front ++ rest → o ≡ (if is_number rest then Some (digits_number 0 rest) else None) → Tells front line o
tells front line rest o e h = by (is_number rest) o refl h
  where
    by : (b : Bool) (o : Option ℕ) → is_number rest ≡ b → o ≡ (if b then Some (digits_number 0 rest) else None) → Tells front line o
    by true o t g =
        let p = decimal_is rest t in
        rw g (record { some = (p.0, e ∙ ap (λ (z : List ℕ). front ++ z) p.1); none = tt; is = number_is front line rest true e t })
    by false o t g = rw g (record { some = tt; none = number_is front line rest false e t; is = tt })

pub returns-in-Some-clause-some : goal.returns-in-Some-clause-some
returns-in-Some-clause-some c = (tells _ _ _ _ c.in-Some.ensures.some c.number.ensures).some

pub returns-in-Some-clause-none : goal.returns-in-Some-clause-none
returns-in-Some-clause-none c = (tells _ _ _ _ c.in-Some.ensures.some c.number.ensures).none

pub returns-in-Some-clause-is : goal.returns-in-Some-clause-is
returns-in-Some-clause-is c = (tells _ _ _ _ c.in-Some.ensures.some c.number.ensures).is

pub returns-in-None-clause-none : goal.returns-in-None-clause-none
returns-in-None-clause-none c = no_number c.args.front.now c.args.line.now c.in-None.ensures.value
