use Rattle.std.proofs.Common.{◌≡◌, ◌<◌, ◌≤◌, ◌+◌, ◌∷◌, [], List, Bool, length, refl, rules, arith}
use Rattle.cov_space.specs.Operations.{complement, intersection}
use Rattle.cov_space.specs.Sets.{SpaceOf, set_at}
use Rattle.cov_space.specs.Steps.{with_more}
use Rattle.cov_space.proofs.Calls.{at_behind, at_front, err_exit}
use Rattle.cov_fair.proofs.Calls.{put_and}
use Rattle.cov_sym.proofs.Exchanging.{basic_above, settled_last}
use Rattle.cov_sym.proofs.Sets.{put_none}
use Rattle.cov_coverage.proofs.others.keep_others.Goals as goal

pub returns-in_err-not-clause-err : goal.returns-in_err-not-clause-err
returns-in_err-not-clause-err c =
    let s : SpaceOf = c.args.sp.now in
    let n = c.args.n in
    err_exit c.from_residual.result c.in_err-not.field-0.0 _ (search rules)
    (basic_above s s c.not.new.self [] (complement s.levels (set_at s.sets n)) n c.in_err-not.field-0.0 (put_none s) c.in_err-not.ensures.err)

pub returns-in_err-and-clause-err : goal.returns-in_err-and-clause-err
returns-in_err-and-clause-err c =
    let s : SpaceOf = c.args.sp.now in
    let s1 : SpaceOf = c.not.new.self in
    let n = c.args.n in
    err_exit c.from_residual-in_err-and.result c.in_err-and.field-0.0 _ (search rules)
    (basic_above s s1 c.and.new.self (complement s.levels (set_at s.sets n) ∷ []) (intersection s1.levels (set_at s1.sets (n + 1)) (set_at s1.sets c.args.set)) n c.in_err-and.field-0.0 c.in_ok-not.ensures.ok.is
    c.in_err-and.ensures.err)

pub returns-clause-ok : goal.returns-clause-ok
returns-clause-ok c =
    let s : SpaceOf = c.args.sp.now in
    let s1 : SpaceOf = c.not.new.self in
    let s2 : SpaceOf = c.and.new.self in
    let n = c.args.n in
    let x : List Bool = complement s.levels (set_at s.sets n) in
    let y : List Bool = set_at s.sets c.args.set in
    let last : length s.sets ≡ n + 1 = c.requires.last in
    let lower : c.args.set < n = c.requires.set in
    let there : c.args.set < length s.sets = omega arith in
    let within : n ≤ length s.sets = omega arith in
    let is1 : s1 ≡ with_more s (x ∷ []) = c.in_ok-not.ensures.ok.is in
    let is2 : s2 ≡ with_more s (x ∷ intersection s.levels x y ∷ []) =
    put_and s s1 s2 (x ∷ []) (n + 1) c.args.set x y is1 (at_behind s s1 (x ∷ []) (n + 1) 0 is1 (omega arith)) (at_front s s1 (x ∷ []) c.args.set is1 there) c.in_ok-and.ensures.ok in
    settled_last s s2 c.settle.new.self n 1 (x ∷ intersection s.levels x y ∷ []) within is2 refl c.settle.ensures
