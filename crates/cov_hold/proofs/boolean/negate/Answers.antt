use Rattle.std.proofs.Common.{◌≤◌, length, List, [], ◌∷◌, Bool, refl, arith}
use Rattle.cov_space.specs.Sets.{SpaceOf, set_at}
use Rattle.cov_space.specs.Operations.{complement}
use Rattle.cov_sym.proofs.Exchanging.{settled_last}
use Rattle.cov_hold.proofs.Forms.{right_not}
use Rattle.cov_hold.proofs.Putting.{complement_pairs}
use Rattle.cov_hold.proofs.Turning.{exchanges_of}
use Rattle.cov_hold.proofs.boolean.negate.Goals as goal

pub returns-clause-ok : goal.returns-clause-ok
returns-clause-ok c =
    let sys = c.args.sys.now in
    let s : SpaceOf = c.args.sys.now.space in
    let m = c.args.m.now in
    let n = c.args.n in
    let x : List Bool = set_at s.sets n in
    let r : List Bool = complement s.levels x in
    let within : n ≤ length s.sets = let e = c.requires.last in omega arith in
    record {
      set = r;
      exchanges = exchanges_of m sys c.settle.new.self n r c.requires.prepared c.requires.above within
          (settled_last s c.not.new.self c.settle.new.self n 0 (r ∷ []) within c.in_ok-not.ensures.ok.is refl c.settle.ensures) (complement_pairs s.levels x c.requires.pairs);
      right = λ signal f h. right_not m s.levels signal f x h;
    }
