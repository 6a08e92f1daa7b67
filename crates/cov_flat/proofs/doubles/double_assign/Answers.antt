use Rattle.std.proofs.Common.{◌≡◌, ◌∙◌, ap, subst, IfOk, List, [], Option}
use Rattle.cov_syntax.specs.declared.tree.Span.{Span}
use Rattle.cov_modules.specs.NameFaults.{double_assign}
use Rattle.cov_flat.specs.declared.doubles.Assigned.{Assigned}
use Rattle.cov_flat.specs.Doubles.{double_number}
use Rattle.cov_flat.proofs.DoubleLemmas.{double_is}
use Rattle.cov_flat.proofs.doubles.double_assign.Goals as goal

pub returns : goal.returns
returns c =
    let all : double_number [] c.as_slice.result.now ≡ double_assign c.args.p.now
    = ap (λ (xs : List Assigned). double_number [] xs) c.as_slice.ensures
    ∙ double_is c.args.p.now c.in_ok-assigned.assigned (c.variables_have_places.ensures c.args.p.now c.requires.flattenable c.requires.sound) c.in_ok-assigned.ensures in
    subst (λ (z : Option Span). IfOk c.double.result (λ place. place ≡ z)) all c.double.ensures
