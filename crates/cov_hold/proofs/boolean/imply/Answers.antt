use Rattle.std.proofs.Common.{◌≡◌, ◌≤◌, ◌+◌, length, List, [], ◌∷◌, Bool, refl, rules, arith}
use Rattle.cov_space.specs.Sets.{SpaceOf, set_at}
use Rattle.cov_space.specs.Operations.{complement, union}
use Rattle.cov_space.specs.Steps.{with_more}
use Rattle.cov_space.proofs.Calls.{at_behind, at_front, basic_call, err_exit}
use Rattle.cov_fair.proofs.Calls.{put_or}
use Rattle.cov_sym.proofs.Exchanging.{basic_above, call_base, settled_last}
use Rattle.cov_hold.proofs.Forms.{right_implies}
use Rattle.cov_hold.proofs.Putting.{complement_pairs, union_pairs}
use Rattle.cov_hold.proofs.Turning.{exchanges_of}
use Rattle.cov_hold.proofs.boolean.imply.Goals as goal

pub returns-in_err-not-clause-err : goal.returns-in_err-not-clause-err
returns-in_err-not-clause-err c =
    let s : SpaceOf = c.args.sys.now.space in
    let r : List Bool = complement s.levels (set_at s.sets c.args.n) in
    err_exit c.from_residual.result c.in_err-not.field-0.0 _ (search rules)
    (call_base s c.not.new.self c.args.n c.in_err-not.field-0.0 (basic_call s c.not.new.self r c.in_err-not.field-0.0 c.in_err-not.ensures.err))

pub returns-in_err-or-clause-err : goal.returns-in_err-or-clause-err
returns-in_err-or-clause-err c =
    let s : SpaceOf = c.args.sys.now.space in
    let t : SpaceOf = c.not.new.self in
    let n = c.args.n in
    let x : List Bool = complement s.levels (set_at s.sets n) in
    err_exit c.from_residual-in_err-or.result c.in_err-or.field-0.0 _ (search rules)
    (basic_above s t c.or.new.self (x ∷ []) (union t.levels (set_at t.sets (n + 2)) (set_at t.sets (n + 1))) n c.in_err-or.field-0.0 c.in_ok-not.ensures.ok.is c.in_err-or.ensures.err)

pub returns-clause-ok : goal.returns-clause-ok
returns-clause-ok c =
    let sys = c.args.sys.now in
    let s : SpaceOf = c.args.sys.now.space in
    let t : SpaceOf = c.not.new.self in
    let m = c.args.m.now in
    let n = c.args.n in
    let x : List Bool = set_at s.sets n in
    let y : List Bool = set_at s.sets (n + 1) in
    let z : List Bool = complement s.levels x in
    let r : List Bool = union s.levels z y in
    let within : n ≤ length s.sets = let e = c.requires.last in omega arith in
    let last : length s.sets ≡ n + 2 = c.requires.last in
    let is : t ≡ with_more s (z ∷ []) = c.in_ok-not.ensures.ok.is in
    let is2 : c.or.new.self ≡ with_more s (z ∷ r ∷ []) =
    put_or s t c.or.new.self (z ∷ []) (n + 2) (n + 1) z y is (at_behind s t (z ∷ []) (n + 2) 0 is (omega arith)) (at_front s t (z ∷ []) (n + 1) is (omega arith)) c.in_ok-or.ensures.ok in
    record {
      set = r;
      exchanges = exchanges_of m sys c.settle.new.self n r c.requires.prepared c.requires.above within
          (settled_last s c.or.new.self c.settle.new.self n 1 (z ∷ r ∷ []) within is2 refl c.settle.ensures)
          (union_pairs s.levels z y (complement_pairs s.levels x c.requires.first_pairs) c.requires.second_pairs);
      right = λ signal f g h k. right_implies m s.levels signal f g x y h k;
    }
