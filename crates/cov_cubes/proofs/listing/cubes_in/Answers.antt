use Rattle.std.proofs.Common.{◌≡◌, ◌-◌, List, ℕ, Bool, take, drop, IsTrue, subst, sym, arith}
use Rattle.std.specs.List.{list_all}
use Rattle.cov_bits.specs.Layout.{bits, sizes}
use Rattle.cov_classes.specs.Cubes as classes
use Rattle.cov_classes.specs.Partition.{is_cube}
use Rattle.cov_classes.proofs.Parts.{proper}
use Rattle.cov_space.specs.Sets.{set_at}
use Rattle.cov_cubes.specs.States.{states_in}
use Rattle.cov_cubes.specs.OneValue.{singles}
use Rattle.cov_cubes.proofs.Passing.{IsBehind, firsts_passed}
use Rattle.cov_cubes.proofs.Counted.{found_all, all_taken}
use Rattle.cov_cubes.proofs.listing.cubes_in.Goals as goal

pub walk-requires-clause-rest : goal.walk-requires-clause-rest
walk-requires-clause-rest c =
    let ns : List ℕ = c.args.plan.now in
    let set : List Bool = set_at c.args.sp.now.sets c.args.set in
    let b : IsBehind c.args.sp.now.levels c.args.plan.now 0 c.in-Ok.x (c.in-Ok.x - 0) (set_at c.args.sp.now.sets c.args.set) =
    firsts_passed c.args.sp.now.levels ns (sizes c.args.m.now.vars) c.in-Ok.x set c.requires.plan c.requires.levels c.requires.states c.in-Ok.ensures.passed in
    b.rest

pub walk-requires-clause-room : goal.walk-requires-clause-room
walk-requires-clause-room c =
    let ns : List ℕ = c.args.plan.now in
    let set : List Bool = set_at c.args.sp.now.sets c.args.set in
    let b : IsBehind c.args.sp.now.levels c.args.plan.now 0 c.in-Ok.x (c.in-Ok.x - 0) (set_at c.args.sp.now.sets c.args.set) =
    firsts_passed c.args.sp.now.levels ns (sizes c.args.m.now.vars) c.in-Ok.x set c.requires.plan c.requires.levels c.requires.states c.in-Ok.ensures.passed in
    let left : bits c.args.plan.now ≡ bits (drop c.in-Ok.x c.args.plan.now) = b.bits_are in
    omega arith

pub returns-in-Ok-walk-clause-cubes : goal.returns-in-Ok-walk-clause-cubes
returns-in-Ok-walk-clause-cubes c =
    let ns : List ℕ = c.args.plan.now in
    let set : List Bool = set_at c.args.sp.now.sets c.args.set in
    let b : IsBehind c.args.sp.now.levels c.args.plan.now 0 c.in-Ok.x (c.in-Ok.x - 0) (set_at c.args.sp.now.sets c.args.set) =
    firsts_passed c.args.sp.now.levels ns (sizes c.args.m.now.vars) c.in-Ok.x set c.requires.plan c.requires.levels c.requires.states c.in-Ok.ensures.passed in
    (found_all c.enter_singles.new.found c.walk.new.found c.new.result (singles (c.in-Ok.x - 0)) c.new-2.result _ _ c.args.limit c.new.ensures c.new-2.ensures c.in-Ok.ensures.entered c.in-Ok-walk.ensures.ok b.cubes_are).0

pub returns-in-Ok-walk-clause-more : goal.returns-in-Ok-walk-clause-more
returns-in-Ok-walk-clause-more c =
    let ns : List ℕ = c.args.plan.now in
    let set : List Bool = set_at c.args.sp.now.sets c.args.set in
    let b : IsBehind c.args.sp.now.levels c.args.plan.now 0 c.in-Ok.x (c.in-Ok.x - 0) (set_at c.args.sp.now.sets c.args.set) =
    firsts_passed c.args.sp.now.levels ns (sizes c.args.m.now.vars) c.in-Ok.x set c.requires.plan c.requires.levels c.requires.states c.in-Ok.ensures.passed in
    (found_all c.enter_singles.new.found c.walk.new.found c.new.result (singles (c.in-Ok.x - 0)) c.new-2.result _ _ c.args.limit c.new.ensures c.new-2.ensures c.in-Ok.ensures.entered c.in-Ok-walk.ensures.ok b.cubes_are).1

pub returns-in-Ok-walk-clause-proper : goal.returns-in-Ok-walk-clause-proper
returns-in-Ok-walk-clause-proper c =
    let ns : List ℕ = c.args.plan.now in
    let set : List Bool = set_at c.args.sp.now.sets c.args.set in
    let b : IsBehind c.args.sp.now.levels c.args.plan.now 0 c.in-Ok.x (c.in-Ok.x - 0) (set_at c.args.sp.now.sets c.args.set) =
    firsts_passed c.args.sp.now.levels ns (sizes c.args.m.now.vars) c.in-Ok.x set c.requires.plan c.requires.levels c.requires.states c.in-Ok.ensures.passed in
    let states : classes.Set = states_in ns c.args.sp.now.levels set in
    let is : c.walk.new.found.list.cubes ≡ take c.args.limit (classes.cubes ns states) = (found_all c.enter_singles.new.found c.walk.new.found c.new.result (singles (c.in-Ok.x - 0)) c.new-2.result _ _ c.args.limit c.new.ensures c.new-2.ensures c.in-Ok.ensures.entered c.in-Ok-walk.ensures.ok b.cubes_are).0 in
    subst (λ (l : List (List (List ℕ))). IsTrue (list_all (is_cube ns) l)) (sym is) (all_taken (is_cube ns) c.args.limit (classes.cubes ns states) (proper ns states))
