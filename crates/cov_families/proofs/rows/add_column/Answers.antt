use Rattle.std.proofs.Common.{◌+◌, ◌&&◌, ℕ, Option, ◌∷◌, [], List, Bool, refl, sym, ◌∙◌, ap, arith}
use Rattle.std.proofs.Math.Bool.{and-false}
use Rattle.cov_space.specs.Sets.{SpaceOf, lies, set_at}
use Rattle.cov_space.specs.Operations.{intersection}
use Rattle.cov_space.proofs.Members.{lies-intersection}
use Rattle.cov_families.specs.Steps.{in_code}
use Rattle.cov_families.proofs.Gathering.{adds_none, adds_top}
use Rattle.cov_families.proofs.rows.add_column.Goals as goal

pub returns-in_default-clause-ok : goal.returns-in_default-clause-ok
returns-in_default-clause-ok c =
    let old : SpaceOf = c.args.sp.now in
    adds_none old c.args.place _ c.requires.place (c.sets-sets.ensures.proper c.args.place (omega arith)) (λ row.
    ap (λ (t : Option ℕ). lies (set_at old.sets c.args.column) row && in_code old.sets c.args.codes t row) c.in_default.is ∙ and-false (lies (set_at old.sets c.args.column) row))

pub returns-clause-ok : goal.returns-clause-ok
returns-clause-ok c =
    let old : SpaceOf = c.args.sp.now in
    let x : List Bool = set_at old.sets c.args.column in
    let y : List Bool = set_at old.sets (c.args.codes + c.in-Some.k) in
    let both : List Bool = intersection old.levels x y in
    adds_top c.add_last.result old c.and.new.self c.add_last.new.sp (both ∷ []) c.args.place 0 both _ c.in_ok-and.ensures.ok.is refl refl (omega arith) (λ row len.
    lies-intersection old.levels x y row len ∙ ap (λ (t : Option ℕ). lies x row && in_code old.sets c.args.codes t row) (sym c.in-Some.is)) c.add_last.ensures.ok
