use Rattle.std.proofs.Common.{◌≤◌, ◌+◌, length, List, [], ◌∷◌, Bool, refl, rules, arith}
use Rattle.cov_space.specs.Sets.{SpaceOf, set_at}
use Rattle.cov_space.specs.Operations.{intersection}
use Rattle.cov_space.proofs.Calls.{basic_call, err_exit}
use Rattle.cov_sym.proofs.Exchanging.{call_base, settled_last}
use Rattle.cov_hold.proofs.Forms.{right_and}
use Rattle.cov_hold.proofs.Putting.{intersection_pairs}
use Rattle.cov_hold.proofs.Turning.{exchanges_of}
use Rattle.cov_hold.proofs.boolean.meet.Goals as goal

pub returns-in_err-and-clause-err : goal.returns-in_err-and-clause-err
returns-in_err-and-clause-err c =
    let s : SpaceOf = c.args.sys.now.space in
    let r : List Bool = intersection s.levels (set_at s.sets c.args.n) (set_at s.sets (c.args.n + 1)) in
    err_exit c.from_residual.result c.in_err-and.field-0.0 _ (search rules)
    (call_base s c.and.new.self c.args.n c.in_err-and.field-0.0 (basic_call s c.and.new.self r c.in_err-and.field-0.0 c.in_err-and.ensures.err))

pub returns-clause-ok : goal.returns-clause-ok
returns-clause-ok c =
    let sys = c.args.sys.now in
    let s : SpaceOf = c.args.sys.now.space in
    let m = c.args.m.now in
    let n = c.args.n in
    let x : List Bool = set_at s.sets n in
    let y : List Bool = set_at s.sets (n + 1) in
    let r : List Bool = intersection s.levels x y in
    let within : n ≤ length s.sets = let e = c.requires.last in omega arith in
    record {
      set = r;
      exchanges = exchanges_of m sys c.settle.new.self n r c.requires.prepared c.requires.above within
          (settled_last s c.and.new.self c.settle.new.self n 0 (r ∷ []) within c.in_ok-and.ensures.ok.is refl c.settle.ensures) (intersection_pairs s.levels x y c.requires.first_pairs c.requires.second_pairs);
      right = λ signal f g h k. right_and m s.levels signal f g x y h k;
    }
