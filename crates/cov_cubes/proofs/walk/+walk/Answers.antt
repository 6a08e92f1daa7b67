use Rattle.std.proofs.Common.{◌≡◌, ◌+◌, ◌-◌, ◌<◌, ◌≤◌, ◌∷◌, List, ℕ, Bool, length, get_or, drop, take, slice_get, Some, rules, sym, ◌∙◌, ap, subst, arith}
use Rattle.std.specs.Prelude.{flat_map}
use Rattle.std.proofs.lemmas.List.{take_at}
use Rattle.cov_bits.specs.Layout.{bits, sizes}
use Rattle.cov_classes.specs.Cubes.{Set}
use Rattle.cov_space.specs.Sets.{SpaceOf, set_at}
use Rattle.cov_space.proofs.Calls.{leaves_behind, err_exit}
use Rattle.cov_fields.proofs.Steps.{count_last}
use Rattle.cov_cubes.specs.declared.found.Found.{Found}
use Rattle.cov_cubes.specs.Rests.{IsVariable, states_of}
use Rattle.cov_cubes.specs.Steps.{added, behind, classes_of}
use Rattle.cov_cubes.specs.OneValue.{singles}
use Rattle.cov_cubes.proofs.Sizes.{length-plan}
use Rattle.cov_cubes.proofs.Gathered.{cubes_of}
use Rattle.cov_cubes.proofs.Counted.{few_found}
use Rattle.cov_cubes.proofs.Walking.{size_within, classes_found, class_headed, Entered, entered, GoesOn, goes_on, walk_turn, walk_full, walk_done, whole_cubes, walk_last}
use Rattle.cov_cubes.proofs.walk.+walk.Goals as goal

pub returns-then-x-len-clause-ok : goal.returns-then-x-len-clause-ok
returns-then-x-len-clause-ok t c =
    let whole : length c.args.plan.now ≡ length c.args.m.now.vars = length-plan c.args.plan.now c.args.m.now.vars c.requires.plan in
    walk_last c.add_last.result c.args.sp.now.levels c.args.plan.now c.args.x (set_at c.args.sp.now.sets c.args.set) c.args.found.now c.add_last.new.found (omega arith) c.requires.rest c.requires.open c.requires.few c.add_last.ensures.empty c.add_last.ensures.some

pub find_classes-requires-clause-room : goal.find_classes-requires-clause-room
find_classes-requires-clause-room t c =
    let ns : List ℕ = c.args.plan.now in
    let whole : length c.args.plan.now ≡ length c.args.m.now.vars = length-plan c.args.plan.now c.args.m.now.vars c.requires.plan in
    let y : IsVariable ns c.args.x c.in-Some.y = c.in-Some.ensures in
    let size : c.in-Some.y.size ≡ get_or c.args.plan.now c.args.x 0 = y.size in
    omega (arith, size_within c.args.plan.now c.args.x (omega arith))

pub get-requires : goal.get-requires
get-requires t c =
    let ns : List ℕ = c.args.plan.now in
    let old : SpaceOf = c.args.sp.now in
    let x : ℕ = c.args.x in
    let set : List Bool = set_at old.sets c.args.set in
    let whole : length c.args.plan.now ≡ length c.args.m.now.vars = length-plan c.args.plan.now c.args.m.now.vars c.requires.plan in
    let lx : c.args.x < length c.args.plan.now = omega arith in
    (class_headed (get_or ns x 0) (drop (x + 1) ns) (states_of old.levels ns x set) c.in_ok-classes.classes c.loop-i.i c.get-class.result.now
    (classes_found old.levels ns x set c.in-Some.y c.in_ok-classes.classes lx c.requires.rest c.in-Some.ensures c.in_ok-classes.ensures.ok) c.get-class.ensures).some

pub walk-requires : goal.walk-requires
walk-requires t c =
    let ns : List ℕ = c.args.plan.now in
    let old : SpaceOf = c.args.sp.now in
    let x : ℕ = c.args.x in
    let set : List Bool = set_at old.sets c.args.set in
    let whole : length c.args.plan.now ≡ length c.args.m.now.vars = length-plan c.args.plan.now c.args.m.now.vars c.requires.plan in
    let lx : c.args.x < length c.args.plan.now = omega arith in
    let count : length old.sets ≡ c.sets-n.result = sym c.sets-n.ensures.count in
    let class : List ℕ = c.get-class.result.now in
    let e : Entered old c.restrict_to.new.sp ns x c.sets-n.result set class =
    entered old c.loop-i.sp c.restrict_to.new.sp ns x c.get.result.now c.sets-n.result c.args.set c.loop-i.i c.in-Some.y c.in_ok-classes.classes class lx count c.requires.rest c.in-Some.ensures c.in_ok-classes.ensures.ok c.get-class.ensures c.loop-i.invariant.kept c.get.ensures c.in_ok-restrict_to.ensures.ok in
    let n : length c.restrict_to.new.sp.sets ≡ c.sets-n.result + 1 = count_last old c.restrict_to.new.sp c.sets-n.result _ count e.is in
    let places : c.restrict_to.new.sp.places ≡ old.places = ap (λ (z : SpaceOf). z.places) e.is in
    let levels : c.restrict_to.new.sp.levels ≡ old.levels = ap (λ (z : SpaceOf). z.levels) e.is in
    let next : ℕ = c.in-Ok.next in
    let g : GoesOn old c.restrict_to.new.sp ns x next c.sets-n.result set class =
    goes_on old c.restrict_to.new.sp ns (sizes c.args.m.now.vars) x next c.sets-n.result c.in-Some.y set class c.requires.plan lx (c.requires.bits lx) c.in-Some.ensures c.in-Ok.ensures.passed e in
    let few : length c.enter_with_singles.new.found.list.cubes ≤ c.enter_with_singles.new.found.limit = subst (λ (z : Found). length z.list.cubes ≤ z.limit) (sym c.in-Ok.ensures.entered) c.loop-i.invariant.few in
    let up : x + 1 ≤ c.in-Ok.next = g.passed.up in
    let there : c.in-Ok.next ≤ length c.args.plan.now = g.passed.there in
    let room : bits (drop c.in-Ok.next c.args.plan.now) + 1 ≤ bits (drop c.args.x c.args.plan.now) = g.fewer_bits in
    (omega arith, (c.requires.plan, (levels ∙ c.requires.levels, (there, (g.passed.others, (omega arith, (g.rest, (omega arith, (ap (λ (z : Found). z.list.more) c.in-Ok.ensures.entered ∙ c.loop-i.invariant.more, few)))))))))

pub returns-in_err-walk-clause-err : goal.returns-in_err-walk-clause-err
returns-in_err-walk-clause-err t c =
    let ns : List ℕ = c.args.plan.now in
    let old : SpaceOf = c.args.sp.now in
    let x : ℕ = c.args.x in
    let set : List Bool = set_at old.sets c.args.set in
    let whole : length c.args.plan.now ≡ length c.args.m.now.vars = length-plan c.args.plan.now c.args.m.now.vars c.requires.plan in
    let lx : c.args.x < length c.args.plan.now = omega arith in
    let count : length old.sets ≡ c.sets-n.result = sym c.sets-n.ensures.count in
    let class : List ℕ = c.get-class.result.now in
    let e : Entered old c.restrict_to.new.sp ns x c.sets-n.result set class =
    entered old c.loop-i.sp c.restrict_to.new.sp ns x c.get.result.now c.sets-n.result c.args.set c.loop-i.i c.in-Some.y c.in_ok-classes.classes class lx count c.requires.rest c.in-Some.ensures c.in_ok-classes.ensures.ok c.get-class.ensures c.loop-i.invariant.kept c.get.ensures c.in_ok-restrict_to.ensures.ok in
    err_exit c.from_residual-in_err-walk.result c.in_err-walk.field-0.0 _ (search rules) (leaves_behind old c.restrict_to.new.sp _ _ c.in_err-walk.field-0.0 e.is c.in_err-walk.ensures.err)

pub returns-then-found-clause-ok : goal.returns-then-found-clause-ok
returns-then-found-clause-ok t c =
    let ns : List ℕ = c.args.plan.now in
    let old : SpaceOf = c.args.sp.now in
    let x : ℕ = c.args.x in
    let set : List Bool = set_at old.sets c.args.set in
    let whole : length c.args.plan.now ≡ length c.args.m.now.vars = length-plan c.args.plan.now c.args.m.now.vars c.requires.plan in
    let lx : c.args.x < length c.args.plan.now = omega arith in
    let count : length old.sets ≡ c.sets-n.result = sym c.sets-n.ensures.count in
    let class : List ℕ = c.get-class.result.now in
    let e : Entered old c.restrict_to.new.sp ns x c.sets-n.result set class =
    entered old c.loop-i.sp c.restrict_to.new.sp ns x c.get.result.now c.sets-n.result c.args.set c.loop-i.i c.in-Some.y c.in_ok-classes.classes class lx count c.requires.rest c.in-Some.ensures c.in_ok-classes.ensures.ok c.get-class.ensures c.loop-i.invariant.kept c.get.ensures c.in_ok-restrict_to.ensures.ok in
    let ms : List ℕ = drop (x + 1) ns in
    let states : Set = states_of old.levels ns x set in
    let cs : List (List ℕ) = classes_of (get_or ns x 0) ms states in
    let same : c.in_ok-classes.classes ≡ cs = classes_found old.levels ns x set c.in-Some.y c.in_ok-classes.classes lx c.requires.rest c.in-Some.ensures c.in_ok-classes.ensures.ok in
    let at : slice_get cs c.loop-i.i ≡ Some class = subst (λ (l : List (List ℕ)). slice_get l c.loop-i.i ≡ Some class) same c.get-class.ensures in
    let next : ℕ = c.in-Ok.next in
    let g : GoesOn old c.restrict_to.new.sp ns x next c.sets-n.result set class =
    goes_on old c.restrict_to.new.sp ns (sizes c.args.m.now.vars) x next c.sets-n.result c.in-Some.y set class c.requires.plan lx (c.requires.bits lx) c.in-Some.ensures c.in-Ok.ensures.passed e in
    let turn : ◌≡◌ {A = Found} (record { front = c.cut.new.self; limit = c.walk.new.found.limit; list = c.walk.new.found.list }) (record c.args.found.now { list = added c.args.found.now.limit c.args.found.now.list (behind c.args.found.now.front (flat_map (cubes_of ms states) (take (c.loop-i.i + 1) cs))) }) =
    walk_turn c.args.found.now c.loop-i.found c.enter_with_singles.new.found c.walk.new.found c.cut.new.self (cubes_of ms states) cs c.loop-i.i c.len-before.result class (class ∷ singles (next - (x + 1))) _ at c.len-before.ensures c.loop-i.invariant.found c.in-Ok.ensures.entered c.in_ok-walk.ensures.ok c.cut.ensures g.cubes_are in
    walk_full c.args.found.now _ (cubes_of ms states) cs (c.loop-i.i + 1) _ c.requires.open c.if-found.true (whole_cubes old.levels ns x set lx) turn

pub loop-i-preserved : goal.loop-i-preserved
loop-i-preserved t c =
    let ns : List ℕ = c.args.plan.now in
    let old : SpaceOf = c.args.sp.now in
    let x : ℕ = c.args.x in
    let set : List Bool = set_at old.sets c.args.set in
    let whole : length c.args.plan.now ≡ length c.args.m.now.vars = length-plan c.args.plan.now c.args.m.now.vars c.requires.plan in
    let lx : c.args.x < length c.args.plan.now = omega arith in
    let count : length old.sets ≡ c.sets-n.result = sym c.sets-n.ensures.count in
    let class : List ℕ = c.get-class.result.now in
    let e : Entered old c.restrict_to.new.sp ns x c.sets-n.result set class =
    entered old c.loop-i.sp c.restrict_to.new.sp ns x c.get.result.now c.sets-n.result c.args.set c.loop-i.i c.in-Some.y c.in_ok-classes.classes class lx count c.requires.rest c.in-Some.ensures c.in_ok-classes.ensures.ok c.get-class.ensures c.loop-i.invariant.kept c.get.ensures c.in_ok-restrict_to.ensures.ok in
    let ms : List ℕ = drop (x + 1) ns in
    let states : Set = states_of old.levels ns x set in
    let cs : List (List ℕ) = classes_of (get_or ns x 0) ms states in
    let same : c.in_ok-classes.classes ≡ cs = classes_found old.levels ns x set c.in-Some.y c.in_ok-classes.classes lx c.requires.rest c.in-Some.ensures c.in_ok-classes.ensures.ok in
    let at : slice_get cs c.loop-i.i ≡ Some class = subst (λ (l : List (List ℕ)). slice_get l c.loop-i.i ≡ Some class) same c.get-class.ensures in
    let next : ℕ = c.in-Ok.next in
    let g : GoesOn old c.restrict_to.new.sp ns x next c.sets-n.result set class =
    goes_on old c.restrict_to.new.sp ns (sizes c.args.m.now.vars) x next c.sets-n.result c.in-Some.y set class c.requires.plan lx (c.requires.bits lx) c.in-Some.ensures c.in-Ok.ensures.passed e in
    let turn : ◌≡◌ {A = Found} (record { front = c.cut.new.self; limit = c.walk.new.found.limit; list = c.walk.new.found.list }) (record c.args.found.now { list = added c.args.found.now.limit c.args.found.now.list (behind c.args.found.now.front (flat_map (cubes_of ms states) (take (c.loop-i.i + 1) cs))) }) =
    walk_turn c.args.found.now c.loop-i.found c.enter_with_singles.new.found c.walk.new.found c.cut.new.self (cubes_of ms states) cs c.loop-i.i c.len-before.result class (class ∷ singles (next - (x + 1))) _ at c.len-before.ensures c.loop-i.invariant.found c.in-Ok.ensures.entered c.in_ok-walk.ensures.ok c.cut.ensures g.cubes_are in
    record {
      kept = c.cut-in-loop-i.ensures ∙ ap (λ (z : SpaceOf). record z { sets = take c.sets-n.result z.sets }) (c.in_ok-walk.ensures.kept ∙ e.is) ∙ ap (λ (l : List (List Bool)). record old { sets = l }) (take_at old.sets _ c.sets-n.result count);
      found = turn;
      more = c.if-found.false;
      few = few_found c.enter_with_singles.new.found c.walk.new.found _ c.in_ok-walk.ensures.ok;
    }

pub returns-clause-ok : goal.returns-clause-ok
returns-clause-ok t c =
    let ns : List ℕ = c.args.plan.now in
    let old : SpaceOf = c.args.sp.now in
    let whole : length c.args.plan.now ≡ length c.args.m.now.vars = length-plan c.args.plan.now c.args.m.now.vars c.requires.plan in
    let lx : c.args.x < length c.args.plan.now = omega arith in
    let set : List Bool = set_at old.sets c.args.set in
    let cs : c.in_ok-classes.classes ≡ classes_of (get_or ns c.args.x 0) (drop (c.args.x + 1) ns) (states_of old.levels ns c.args.x set) = classes_found old.levels ns c.args.x set c.in-Some.y c.in_ok-classes.classes lx c.requires.rest c.in-Some.ensures c.in_ok-classes.ensures.ok in
    let n : length c.in_ok-classes.classes ≡ length (classes_of (get_or ns c.args.x 0) (drop (c.args.x + 1) ns) (states_of old.levels ns c.args.x set)) = ap length cs in
    walk_done c.args.found.now c.loop-i.found (cubes_of (drop (c.args.x + 1) ns) (states_of old.levels ns c.args.x set)) (classes_of (get_or ns c.args.x 0) (drop (c.args.x + 1) ns) (states_of old.levels ns c.args.x set)) c.loop-i.i _ (omega arith) (whole_cubes old.levels ns c.args.x set lx) c.loop-i.invariant.found
