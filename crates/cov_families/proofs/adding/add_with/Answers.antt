use Rattle.std.proofs.Common.{◌≡◌, ◌+◌, ◌-◌, ◌&&◌, List, [], ◌∷◌, Bool, length, refl, ◌∙◌, ap, arith}
use Rattle.cov_space.specs.Sets.{SpaceOf, lies, set_at}
use Rattle.cov_space.specs.Operations.{intersection}
use Rattle.cov_space.specs.Steps.{with_more}
use Rattle.cov_space.proofs.Sets.{lies_values}
use Rattle.cov_space.proofs.Members.{lies-intersection}
use Rattle.cov_space.proofs.Calls.{at_front, at_behind, push_behind, err_call}
use Rattle.cov_fields.specs.Fields.{held}
use Rattle.cov_fields.specs.Sets.{number_set}
use Rattle.cov_families.proofs.Numbers.{equal_turned}
use Rattle.cov_families.proofs.Gathering.{push_same, two_at, adds_top}
use Rattle.cov_families.proofs.adding.add_with.Goals as goal

pub returns-clause-ok : goal.returns-clause-ok
returns-clause-ok c =
    let old : SpaceOf = c.args.sp.now in
    let s1 : SpaceOf = c.put_number.new.sp in
    let last : c.sets-last.result - 1 ≡ length old.sets - 1 = omega arith in
    let top : List Bool = set_at old.sets (length old.sets - 1) in
    let number : List Bool = number_set old.levels c.args.to c.args.k in
    let is1 : s1 ≡ with_more old (number ∷ []) = c.in_ok-put_number.ensures.ok.is in
    let front : set_at s1.sets (c.sets-last.result - 1) ≡ top = at_front old s1 (number ∷ []) (c.sets-last.result - 1) is1 (omega arith) ∙ ap (set_at old.sets) last in
    let behind : set_at s1.sets (c.sets-last.result - 1 + 1) ≡ number = at_behind old s1 (number ∷ []) (c.sets-last.result - 1 + 1) 0 is1 (omega arith) in
    let is2 : c.and.new.self ≡ with_more old (number ∷ intersection old.levels top number ∷ []) =
    push_same old s1 c.and.new.self (number ∷ []) _ _ is1 c.in_ok-and.ensures.ok (two_at old s1 intersection (number ∷ []) _ _ _ _ is1 front behind) in
    adds_top c.add_last.result old c.and.new.self c.add_last.new.sp _ c.args.place 1 (intersection old.levels top number) _ is2 refl refl (omega arith) (λ row len.
    lies-intersection old.levels top number row len
    ∙ ap (λ b. lies top row && b) (lies_values old.levels _ row len ∙ equal_turned (held c.args.to row) c.args.k))
    c.add_last.ensures.ok

pub returns-clause-err : goal.returns-clause-err
returns-clause-err c =
    let old : SpaceOf = c.args.sp.now in
    let number : List Bool = number_set old.levels c.args.to c.args.k in
    err_call c.add_last.result old c.and.new.self _ _ (push_behind old c.put_number.new.sp c.and.new.self (number ∷ []) _ c.in_ok-put_number.ensures.ok.is c.in_ok-and.ensures.ok) c.add_last.ensures.err
