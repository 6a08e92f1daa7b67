use Rattle.std.proofs.Common.{◌≡◌, ◌<◌, ◌≤◌, ◌+◌, ◌∷◌, [], List, Bool, length, refl, rules, arith}
use Rattle.cov_space.specs.declared.layer.Layer.TheVariants.{W}
use Rattle.cov_space.specs.Sets.{SpaceOf, set_at}
use Rattle.cov_space.specs.Operations.{intersection}
use Rattle.cov_space.specs.Steps.{with_more}
use Rattle.cov_space.proofs.Calls.{at_behind, at_front, err_exit}
use Rattle.cov_fair.proofs.Calls.{put_and}
use Rattle.cov_places.specs.Places.{typed_set}
use Rattle.cov_sym.proofs.Exchanging.{basic_above, call_base, settled_last}
use Rattle.cov_sym.proofs.atoms.meet_typed.Goals as goal

pub returns-in_err-put_typed-clause-err : goal.returns-in_err-put_typed-clause-err
returns-in_err-put_typed-clause-err c =
    err_exit c.from_residual.result c.in_err-put_typed.field-0.0 _ (search rules) (call_base c.args.sp.now c.put_typed.new.sp c.args.n c.in_err-put_typed.field-0.0 c.in_err-put_typed.ensures.err)

pub returns-in_err-and-clause-err : goal.returns-in_err-and-clause-err
returns-in_err-and-clause-err c =
    let s : SpaceOf = c.args.sp.now in
    let s1 : SpaceOf = c.put_typed.new.sp in
    let n = c.args.n in
    err_exit c.from_residual-in_err-and.result c.in_err-and.field-0.0 _ (search rules)
    (basic_above s s1 c.and.new.self (typed_set s.levels c.args.plan.now W ∷ []) (intersection s1.levels (set_at s1.sets n) (set_at s1.sets (n + 1))) n c.in_err-and.field-0.0 c.in_ok-put_typed.ensures.ok.is c.in_err-and.ensures.err)

pub returns-clause-ok : goal.returns-clause-ok
returns-clause-ok c =
    let s : SpaceOf = c.args.sp.now in
    let s1 : SpaceOf = c.put_typed.new.sp in
    let s2 : SpaceOf = c.and.new.self in
    let n = c.args.n in
    let x : List Bool = set_at s.sets n in
    let t : List Bool = typed_set s.levels c.args.plan.now W in
    let last : length s.sets ≡ n + 1 = c.requires.last in
    let there : n < length s.sets = omega arith in
    let within : n ≤ length s.sets = omega arith in
    let is1 : s1 ≡ with_more s (t ∷ []) = c.in_ok-put_typed.ensures.ok.is in
    let is2 : s2 ≡ with_more s (t ∷ intersection s.levels x t ∷ []) =
    put_and s s1 s2 (t ∷ []) n (n + 1) x t is1 (at_front s s1 (t ∷ []) n is1 there) (at_behind s s1 (t ∷ []) (n + 1) 0 is1 (omega arith)) c.in_ok-and.ensures.ok in
    settled_last s s2 c.settle.new.self n 1 (t ∷ intersection s.levels x t ∷ []) within is2 refl c.settle.ensures
