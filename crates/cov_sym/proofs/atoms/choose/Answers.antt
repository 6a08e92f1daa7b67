use Rattle.std.proofs.Common.{◌≡◌, ℕ, ◌<◌, ◌≤◌, ◌+◌, ◌∷◌, [], List, Bool, length, refl, ◌∙◌, ap, rules, arith}
use Rattle.cov_space.specs.Answers.{PutsSet}
use Rattle.cov_space.specs.Sets.{SpaceOf, set_at}
use Rattle.cov_space.specs.Operations.{intersection, symmetric_difference}
use Rattle.cov_space.specs.Steps.{with_more}
use Rattle.cov_space.proofs.Calls.{at_behind, at_front, basic_call, err_exit}
use Rattle.cov_image.specs.Stacks.{below}
use Rattle.cov_fair.proofs.Calls.{put_and}
use Rattle.cov_sym.proofs.Exchanging.{basic_above, call_base, put_xor, settled_last}
use Rattle.cov_sym.proofs.Inverted.{chosen_is}
use Rattle.cov_sym.proofs.atoms.choose.Goals as goal

-- where the first two sets differ, and that among the third
two : (s s1 s2 : SpaceOf) (n : ℕ) (f : List Bool) → length s.sets ≡ n + 3 → s1 ≡ with_more s (f ∷ []) → PutsSet s1 s2 (intersection s1.levels (set_at s1.sets (n + 2)) (set_at s1.sets (n + 3)))
    → s2 ≡ with_more s (f ∷ intersection s.levels (set_at s.sets (n + 2)) f ∷ [])
two s s1 s2 n f last is puts =
    let there : n + 2 < length s.sets = omega arith in
    put_and s s1 s2 (f ∷ []) (n + 2) (n + 3) (set_at s.sets (n + 2)) f is (at_front s s1 (f ∷ []) (n + 2) is there) (at_behind s s1 (f ∷ []) (n + 3) 0 is (omega arith)) puts

pub returns-in_err-xor-clause-err : goal.returns-in_err-xor-clause-err
returns-in_err-xor-clause-err c =
    let s : SpaceOf = c.args.sp.now in
    let n = c.args.n in
    err_exit c.from_residual.result c.in_err-xor.field-0.0 _ (search rules)
    (call_base s c.xor.new.self n c.in_err-xor.field-0.0 (basic_call s c.xor.new.self (symmetric_difference s.levels (set_at s.sets n) (set_at s.sets (n + 1))) c.in_err-xor.field-0.0 c.in_err-xor.ensures.err))

pub returns-in_err-and-clause-err : goal.returns-in_err-and-clause-err
returns-in_err-and-clause-err c =
    let s : SpaceOf = c.args.sp.now in
    let s1 : SpaceOf = c.xor.new.self in
    let n = c.args.n in
    let f : List Bool = symmetric_difference s.levels (set_at s.sets n) (set_at s.sets (n + 1)) in
    err_exit c.from_residual-in_err-and.result c.in_err-and.field-0.0 _ (search rules)
    (basic_above s s1 c.and.new.self (f ∷ []) (intersection s1.levels (set_at s1.sets (n + 2)) (set_at s1.sets (n + 3))) n c.in_err-and.field-0.0 c.in_ok-xor.ensures.ok.is c.in_err-and.ensures.err)

pub returns-in_err-xor-2-clause-err : goal.returns-in_err-xor-2-clause-err
returns-in_err-xor-2-clause-err c =
    let s : SpaceOf = c.args.sp.now in
    let s2 : SpaceOf = c.and.new.self in
    let n = c.args.n in
    let f : List Bool = symmetric_difference s.levels (set_at s.sets n) (set_at s.sets (n + 1)) in
    err_exit c.from_residual-in_err-xor-2.result c.in_err-xor-2.field-0.0 _ (search rules)
    (basic_above s s2 c.xor-2.new.self (f ∷ intersection s.levels (set_at s.sets (n + 2)) f ∷ []) (symmetric_difference s2.levels (set_at s2.sets (n + 1)) (set_at s2.sets (n + 4))) n c.in_err-xor-2.field-0.0
    (two s c.xor.new.self s2 n f c.requires.last c.in_ok-xor.ensures.ok.is c.in_ok-and.ensures.ok) c.in_err-xor-2.ensures.err)

pub returns-clause-ok : goal.returns-clause-ok
returns-clause-ok c =
    let s : SpaceOf = c.args.sp.now in
    let s2 : SpaceOf = c.and.new.self in
    let s3 : SpaceOf = c.xor-2.new.self in
    let n = c.args.n in
    let x : List Bool = set_at s.sets n in
    let y : List Bool = set_at s.sets (n + 1) in
    let d : List Bool = set_at s.sets (n + 2) in
    let f : List Bool = symmetric_difference s.levels x y in
    let g : List Bool = intersection s.levels d f in
    let r : List Bool = symmetric_difference s.levels y g in
    let last : length s.sets ≡ n + 3 = c.requires.last in
    let there : n + 1 < length s.sets = omega arith in
    let within : n ≤ length s.sets = omega arith in
    let is2 : s2 ≡ with_more s (f ∷ g ∷ []) = two s c.xor.new.self s2 n f last c.in_ok-xor.ensures.ok.is c.in_ok-and.ensures.ok in
    let is3 : s3 ≡ with_more s (f ∷ g ∷ r ∷ []) =
    put_xor s s2 s3 (f ∷ g ∷ []) (n + 1) (n + 4) y g is2 (at_front s s2 (f ∷ g ∷ []) (n + 1) is2 there) (at_behind s s2 (f ∷ g ∷ []) (n + 4) 1 is2 (omega arith)) c.in_ok-xor-2.ensures.ok in
    settled_last s s3 c.settle.new.self n 2 (f ∷ g ∷ r ∷ []) within is3 refl c.settle.ensures
    ∙ ap (λ (z : List Bool). with_more (below s n) (z ∷ [])) (chosen_is s.levels x y d)
