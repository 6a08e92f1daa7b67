-- The sets of a table's diagrams, and what a try of a task does to them.
use Rattle.std.proofs.Common.{◌≡◌, ℕ, suc, ◌<◌, ◌≤◌, ◌+◌, ◌++◌, List, [], ◌∷◌, Bool, true, false, cond, length, map, get_or, set, not, Result, Ok, Err, OnOk, IfErr, refl, sym, ◌∙◌, ap, subst, arith, inl, inr}
use Rattle.std.proofs.lemmas.List.{length-map, length-set, get_or-map, get_or_append_left, get_or_push, length_push, map-append}
use Rattle.std.proofs.lemmas.Bool.{cases_lt}
use Rattle.cov_dd.specs.declared.node.Ref.{Ref}
use Rattle.cov_dd.specs.declared.node.Ref.TheVariants.{Constant, Inner}
use Rattle.cov_dd.specs.declared.fault.TableFault.{TableFault}
use Rattle.cov_dd.specs.declared.fault.TableFault.TheVariants as fault
use Rattle.cov_dd.specs.declared.fault.Full.{Full}
use Rattle.cov_dd.specs.Nodes.{TableOf, node_at, rank, den, chosen, IsTable, Extends, Denotes}
use Rattle.cov_dd.specs.Cofactors.{fixed, Computes, IsMissing, IsCofactor, IsRefused, IsFault, fault_of}
use Rattle.cov_dd.specs.Operations.{value_of, put}
use Rattle.cov_dd.specs.Need.{values, NeedMoreThan}
use Rattle.cov_dd.specs.Reached.{AllLive, AllReached, IsCollected, ref_at}
use Rattle.cov_dd.proofs.Growth.{keeps}
use Rattle.cov_dd.proofs.Rows.{put_is_set}
use Rattle.cov_dd.proofs.CofactorLemmas.{length-fixed, adds_same, missing_same}
use Rattle.cov_dd.proofs.NeedLemmas.{need_no_more, need_more_at_full}
use Rattle.cov_dd.proofs.ReachLemmas.{reached_cofactor}
use Rattle.cov_space.specs.declared.task.Task.{Task}
use Rattle.cov_space.specs.declared.task.Task.TheVariants.{Bit, Apply, Not, Restrict}
use Rattle.cov_space.specs.Sets.{lies, set_at, SetsNeedMoreThan}
use Rattle.cov_space.specs.Tasks.{IsTask, asked, den_at, set_of, sets_of, set_in, Performed, Puts, Needs, IsTaskFault}
use Rattle.cov_space.proofs.Sets.{values_same, lies_values}

-- the test of the set at a place is the function of its reference
pub lies_at : (t : TableOf) (list : List Ref) (k : ℕ) → k < length list → (row : List Bool) → length row ≡ t.levels → set_in t list k row ≡ den_at t.nodes list k row
lies_at t list k lt row len =
    ap (λ x. lies x row) (get_or-map (set_of t) list k (Constant false) [] lt)
    ∙ lies_values t.levels (den t.nodes (ref_at list k)) row len

length-put_same : (row : List Bool) (k : ℕ) (b : Bool) → k < length row → length (put row k b) ≡ length row
length-put_same row k b lt = ap length (put_is_set row k b lt) ∙ length-set row k b

-- equal tests at the places give equal tests of a task
pub asked_same : (levels count : ℕ) (at at' : ℕ → List Bool → Bool) (task : Task) → IsTask levels count task → ((k : ℕ) → k < count → (row : List Bool) → length row ≡ levels → at k row ≡ at' k row) → (row : List Bool) → length row ≡ levels → asked at task row ≡ asked at' task row
asked_same levels count at at' (Bit level) is same row len = refl
asked_same levels count at at' (Apply op a b) is same row len = ap (λ x. value_of op x (at b row)) (same a is.0 row len) ∙ ap (λ x. value_of op (at' a row) x) (same b is.1 row len)
asked_same levels count at at' (Not a) is same row len = ap not (same a is row len)
asked_same levels count at at' (Restrict a level bit) is same row len = let lt : level < length row = let l : level < levels = is.1 in omega arith in same a is.0 (put row level bit) (length-put_same row level bit lt ∙ len)

pub asked_lies : (t : TableOf) (list : List Ref) (task : Task) → IsTask t.levels (length list) task → (row : List Bool) → length row ≡ t.levels → asked (set_in t list) task row ≡ asked (den_at t.nodes list) task row
asked_lies t list task is row len = asked_same t.levels (length list) (set_in t list) (den_at t.nodes list) task is (lies_at t list) row len

-- ---- the bit of a level

bit_choice : (x : Bool) → cond x true false ≡ x
bit_choice true = refl
bit_choice false = refl

-- its node was refused
pub bit_refused : (res : Result Ref TableFault) (s t : TableOf) (level : ℕ) (full : Full) → res ≡ Err (fault_of full) → Computes s t level (chosen level (den s.nodes (Constant false)) (den s.nodes (Constant true)))
    → IsRefused t level (chosen level (den s.nodes (Constant false)) (den s.nodes (Constant true))) full → Performed s t res (λ row. get_or row level false)
bit_refused res s t level full is c e =
    subst (λ (r : Result Ref TableFault). Performed s t r (λ row. get_or row level false)) (sym is) (record {
      ok = tt;
      computes = record {
        extends = c.extends;
        table = c.table;
        adds = adds_same s t 0 (chosen level (den s.nodes (Constant false)) (den s.nodes (Constant true))) (λ row. get_or row level false) (λ row. bit_choice (get_or row level false)) (record { each = λ i from to. (omega arith, (c.adds.each i from to).1) });
      };
      err = record {
        held = e.held;
        budget = e.budget;
        stands = e.stands;
        missing = missing_same t 0 (chosen level (den s.nodes (Constant false)) (den s.nodes (Constant true))) (λ row. get_or row level false) (λ row. bit_choice (get_or row level false)) (record { first = e.missing.first; above = omega arith; level = e.missing.level; depends = e.missing.depends; absent = e.missing.absent });
      };
    })

-- ---- the sets stay

pub sets_grown : (s t : TableOf) → IsTable s.levels s.nodes → Extends s t → (list : List Ref) → AllLive s.nodes list → sets_of t list ≡ sets_of s list
sets_grown s t table e [] live = refl
sets_grown s t table e (r ∷ list) live =
    let k = keeps s t table e r (live 0 (omega arith)) in
    let head : set_of t r ≡ set_of s r = ap (λ n. values n (den t.nodes r)) e.levels ∙ values_same s.levels (den t.nodes r) (den s.nodes r) (λ row len. k.den row) in
    ap (λ x. x ∷ sets_of t list) head ∙ ap (λ x. set_of s r ∷ x) (sets_grown s t table e list (λ i lt. live (suc i) (omega arith)))

pub live_grown : (s t : TableOf) → IsTable s.levels s.nodes → Extends s t → (list : List Ref) → AllLive s.nodes list → AllLive t.nodes list
live_grown s t table e list live k lt = (keeps s t table e (ref_at list k) (live k lt)).live

pub sets_by : (s t : TableOf) (before after : List Ref) → t.levels ≡ s.levels → length after ≡ length before → ((k : ℕ) → k < length before → (row : List Bool) → den t.nodes (ref_at after k) row ≡ den s.nodes (ref_at before k) row) → sets_of t after ≡ sets_of s before
sets_by s t [] [] levels count same = refl
sets_by s t [] (r ∷ after) levels count same = absurd (omega arith)
sets_by s t (r ∷ before) [] levels count same = absurd (omega arith)
sets_by s t (r ∷ before) (q ∷ after) levels count same =
    let head : set_of t q ≡ set_of s r = ap (λ n. values n (den t.nodes q)) levels ∙ values_same s.levels (den t.nodes q) (den s.nodes r) (λ row len. same 0 (omega arith) row) in
    ap (λ x. x ∷ sets_of t after) head ∙ ap (λ x. set_of s r ∷ x) (sets_by s t before after levels (omega arith) (λ k lt. same (suc k) (omega arith)))

pub sets_collected : (s t : TableOf) (before after : List Ref) → IsCollected s t before after → sets_of t after ≡ sets_of s before
sets_collected s t before after c = sets_by s t before after c.levels c.count (λ k lt row. (c.each k lt).den row)

pub live_collected : (s t : TableOf) (before after : List Ref) → IsCollected s t before after → AllLive t.nodes after
live_collected s t before after c k lt = let n : length after ≡ length before = c.count in (c.each k (omega arith)).live

-- the set of the new reference
pub set_put : (s t : TableOf) (list : List Ref) (r : Ref) (test function : List Bool → Bool) → IsTable s.levels s.nodes → Extends s t → AllLive s.nodes list → Denotes t 0 r function → ((row : List Bool) → length row ≡ s.levels → test row ≡ function row)
    → sets_of t (list ++ r ∷ []) ≡ sets_of s list ++ values s.levels test ∷ []
set_put s t list r test function table e live d same =
    map-append (set_of t) list (r ∷ [])
    ∙ ap (λ x. x ++ set_of t r ∷ []) (sets_grown s t table e list live)
    ∙ ap (λ x. sets_of s list ++ x ∷ []) (ap (λ n. values n (den t.nodes r)) e.levels ∙ values_same s.levels (den t.nodes r) test (λ row len. d.den row ∙ sym (same row len)))

pub live_put : (t : TableOf) (list : List Ref) (r : Ref) → AllLive t.nodes list → rank r ≤ length t.nodes → AllLive t.nodes (list ++ r ∷ [])
live_put t list r live last k lt =
    elim (cases_lt k (length list)) [
      | inl below ↦ subst (λ (x : Ref). rank x ≤ length t.nodes) (sym (get_or_append_left list (r ∷ []) (Constant false) k below)) (live k below)
      | inr ge ↦ subst (λ (x : Ref). rank x ≤ length t.nodes) (sym (get_or_push list r (Constant false) k (omega (arith, length_push list r)))) last
    ]

-- ---- the cause of a refusal

length-tests : (t : TableOf) (list : List Ref) → length (map lies (sets_of t list)) ≡ length list
length-tests t list = length-map (sets_of t list) lies ∙ length-map list (set_of t)

test_at : (t : TableOf) (list : List Ref) (k : ℕ) → k < length list → (row : List Bool) → length row ≡ t.levels → get_or (map lies (sets_of t list)) k (λ _. false) row ≡ den t.nodes (ref_at list k) row
test_at t list k lt row len =
    let n : length (sets_of t list) ≡ length list = length-map list (set_of t) in
    ap (λ (f : List Bool → Bool). f row) (get_or-map lies (sets_of t list) k [] (λ _. false) (omega arith))
    ∙ lies_at t list k lt row len

-- sets that stand do not need more nodes than stand
pub few_standing : (t : TableOf) (list : List Ref) → IsTable t.levels t.nodes → AllLive t.nodes list → (count : ℕ) → length t.nodes ≤ count → SetsNeedMoreThan t.levels (sets_of t list) count → ⊥
few_standing t list table live count le need =
    let n : length (map lies (sets_of t list)) ≡ length list = length-tests t list in
    let lt : count < length t.nodes = need_no_more t table (map lies (sets_of t list)) (λ k lt. (ref_at list k, live k (omega arith), λ row len. sym (test_at t list k (omega arith) row len))) count need in
    omega arith

cofactor_agree : (levels : ℕ) (f g : List Bool → Bool) (level : ℕ) (part : List Bool → Bool) → level ≤ levels → ((row : List Bool) → length row ≡ levels → f row ≡ g row) → IsCofactor levels f level part → IsCofactor levels g level part
cofactor_agree levels f g level part le same c =
    let bits : length c.first ≡ level = c.bits in
    record { first = c.first; bits = c.bits; same = λ row len. c.same row len ∙ same _ (length-fixed c.first row levels (omega arith) len) }

missing_agree : (t : TableOf) (f g : List Bool → Bool) → ((row : List Bool) → length row ≡ t.levels → f row ≡ g row) → IsMissing t 0 f → IsMissing t 0 g
missing_agree t f g same m =
    let level : length m.first < t.levels = m.level in
    let at : (row : List Bool) → length row ≡ t.levels → fixed f m.first row ≡ fixed g m.first row = λ row len. same _ (length-fixed m.first row t.levels (omega arith) len) in
    record {
      first = m.first;
      above = m.above;
      level = m.level;
      depends = λ h. m.depends (λ row len. at (set row (length m.first) false) (length-set row (length m.first) false ∙ len) ∙ h row len ∙ sym (at (set row (length m.first) true) (length-set row (length m.first) true ∙ len)));
      absent = λ i within here h. m.absent i within here (λ row len. h row len ∙ sym (at row len));
    }

-- At a full table in which each node is a part of a diagram of the list or of the function asked for, the sets with the one asked for need more.
pub need_refused : (s t : TableOf) (list : List Ref) (test function : List Bool → Bool) → IsTable s.levels s.nodes → AllLive s.nodes list → AllReached s.nodes list → Computes s t 0 function → IsMissing t 0 function
    → ((row : List Bool) → length row ≡ s.levels → test row ≡ function row)
    → SetsNeedMoreThan s.levels (sets_of s list ++ values s.levels test ∷ []) (length t.nodes)
need_refused s t list test function table live reached c m same =
    let sets : List (List Bool) = sets_of s list ++ values s.levels test ∷ [] in
    let n : length (map lies sets) ≡ length list + 1 = length-map sets lies ∙ length_push (sets_of s list) (values s.levels test) ∙ ap (λ k. k + 1) (length-map list (set_of s)) in
    let nl : length (sets_of s list) ≡ length list = length-map list (set_of s) in
    let ns : length sets ≡ length list + 1 = length_push (sets_of s list) (values s.levels test) ∙ ap (λ k. k + 1) nl in
    let levels : t.levels ≡ s.levels = c.extends.levels in
    let front : (k : ℕ) → k < length list → (row : List Bool) → length row ≡ t.levels → den s.nodes (ref_at list k) row ≡ get_or (map lies sets) k (λ _. false) row = λ k lt row len.
    sym (ap (λ (f : List Bool → Bool). f row) (get_or-map lies sets k [] (λ _. false) (omega arith))
    ∙ ap (λ x. lies x row) (get_or_append_left (sets_of s list) (values s.levels test ∷ []) [] k (omega arith))
    ∙ lies_at s list k lt row (len ∙ levels)) in
    let back : (row : List Bool) → length row ≡ t.levels → function row ≡ get_or (map lies sets) (length list) (λ _. false) row = λ row len.
    sym (ap (λ (f : List Bool → Bool). f row) (get_or-map lies sets (length list) [] (λ _. false) (omega arith))
    ∙ ap (λ x. lies x row) (get_or_push (sets_of s list) (values s.levels test) [] (length list) nl)
    ∙ lies_values s.levels test row (len ∙ levels) ∙ same row (len ∙ levels)) in
    let each : (i : ℕ) → i < length t.nodes → (k : ℕ) × (k < length (map lies sets)) × IsCofactor t.levels (get_or (map lies sets) k (λ _. false)) (node_at t.nodes i).level (den t.nodes (Inner i)) = λ i lt.
    let placed : (node_at t.nodes i).level < t.levels = (c.table.placed i lt).level in
    elim (cases_lt i (length s.nodes)) [
      | inl old ↦
          let (k, lk, r) = reached i old in
          let q : IsCofactor s.levels (den s.nodes (ref_at list k)) (node_at s.nodes i).level (den s.nodes (Inner i)) = reached_cofactor s.levels s.nodes table (ref_at list k) (Inner i) r (live k lk) i refl in
          let kept = keeps s t table c.extends (Inner i) (omega arith) in
          let level : (node_at t.nodes i).level ≡ (node_at s.nodes i).level = kept.level in
          let q' : IsCofactor t.levels (den s.nodes (ref_at list k)) (node_at t.nodes i).level (den t.nodes (Inner i)) = record { first = q.first; bits = q.bits ∙ sym level; same = λ row len. kept.den row ∙ q.same row (len ∙ levels) } in
          (k, omega arith, cofactor_agree t.levels _ _ (node_at t.nodes i).level (den t.nodes (Inner i)) (omega arith) (front k lk) q')
      | inr new ↦
          let a = c.adds.each i new lt in
          (length list, omega arith, cofactor_agree t.levels _ _ (node_at t.nodes i).level (den t.nodes (Inner i)) (omega arith) back a.1)
    ] in
    subst (λ (k : ℕ). NeedMoreThan k (map lies sets) (length t.nodes)) levels
    (need_more_at_full t 0 (map lies sets) (length list) c.table each (omega arith) (missing_agree t function _ back m))

-- ---- the outcomes

pub put_few : (s t : TableOf) (list : List Ref) (r : Ref) (test function : List Bool → Bool) → IsTable s.levels s.nodes → Computes s t 0 function → AllLive s.nodes list → Denotes t 0 r function → length t.nodes ≤ t.budget
    → ((row : List Bool) → length row ≡ s.levels → test row ≡ function row) → Puts s t list (list ++ r ∷ []) test
put_few s t list r test function table c live d le same =
    let sets : sets_of t (list ++ r ∷ []) ≡ sets_of s list ++ values s.levels test ∷ [] = set_put s t list r test function table c.extends live d same in
    let budget : t.budget ≡ s.budget = c.extends.budget in
    record {
      sets = sets;
      few = λ need. few_standing t (list ++ r ∷ []) c.table (live_put t list r (live_grown s t table c.extends list live) d.live) s.budget (omega arith)
          (subst (λ (k : ℕ). SetsNeedMoreThan k (sets_of t (list ++ r ∷ [])) s.budget) (sym c.extends.levels) (subst (λ (x : List (List Bool)). SetsNeedMoreThan s.levels x s.budget) (sym sets) need));
    }

-- a try that was refused where the list reaches each node
pub task_fault : (s t : TableOf) (list : List Ref) (test function : List Bool → Bool) (e : TableFault) → IsTable s.levels s.nodes → AllLive s.nodes list → AllReached s.nodes list → Computes s t 0 function → IsFault t 0 function e → length t.nodes ≤ t.budget
    → ((row : List Bool) → length row ≡ s.levels → test row ≡ function row) → IsTaskFault s t list list test e
task_fault s t list test function (fault.Full held budget) table live reached c e le same =
    let kept : t.budget ≡ s.budget = c.extends.budget in
    let stands : t.budget ≤ length t.nodes = e.stands in
    let held : held ≡ length t.nodes = e.held in
    let told : budget ≡ t.budget = e.budget in
    let all : length t.nodes ≡ s.budget = omega arith in
    record {
      same = sets_grown s t table c.extends list live;
      held_is = omega arith;
      budget_is = omega arith;
      need = subst (λ (k : ℕ). SetsNeedMoreThan s.levels (sets_of s list ++ values s.levels test ∷ []) k) all (need_refused s t list test function table live reached c e.missing same);
    }
task_fault s t list test function fault.Memory table live reached c e le same = sets_grown s t table c.extends list live

-- the same seen from a table before, whose sets these are
asked_moved : (sets sets' : List (List Bool)) (task : Task) → sets ≡ sets' → asked (λ k. lies (set_at sets k)) task ≡ asked (λ k. lies (set_at sets' k)) task
asked_moved sets sets' task e = ap (λ x. asked (λ k. lies (set_at x k)) task) e

pub puts_moved : (r s t : TableOf) (first before after : List Ref) (task : Task) → s.levels ≡ r.levels → s.budget ≡ r.budget → sets_of s before ≡ sets_of r first → Puts s t before after (asked (set_in s before) task) → Puts r t first after (asked (set_in r first) task)
puts_moved r s t first before after task levels budget same p =
    let P : ℕ → ℕ → List (List Bool) → Type 0 = λ n b x. (sets_of t after ≡ x ++ values n (asked (λ k. lies (set_at x k)) task) ∷ []) × (SetsNeedMoreThan n (x ++ values n (asked (λ k. lies (set_at x k)) task) ∷ []) b → ⊥) in
    let q : P r.levels r.budget (sets_of r first) = subst (λ (n : ℕ). P n r.budget (sets_of r first)) levels (subst (λ (b : ℕ). P s.levels b (sets_of r first)) budget (subst (λ (x : List (List Bool)). P s.levels s.budget x) same (p.sets, p.few))) in
    record { sets = q.0; few = q.1 }

pub needs_moved : (r s t : TableOf) (first before after : List Ref) (task : Task) (held budget : ℕ) → s.levels ≡ r.levels → s.budget ≡ r.budget → sets_of s before ≡ sets_of r first → Needs s t before after (asked (set_in s before) task) held budget → Needs r t first after (asked (set_in r first) task) held budget
needs_moved r s t first before after task held budget levels same_budget same p =
    let P : ℕ → ℕ → List (List Bool) → Type 0 = λ n b x. SetsNeedMoreThan n (x ++ values n (asked (λ k. lies (set_at x k)) task) ∷ []) b in
    let q : P r.levels r.budget (sets_of r first) = subst (λ (n : ℕ). P n r.budget (sets_of r first)) levels (subst (λ (b : ℕ). P s.levels b (sets_of r first)) same_budget (subst (λ (x : List (List Bool)). P s.levels s.budget x) same p.need)) in
    record { same = p.same ∙ same; held_is = p.held_is ∙ same_budget; budget_is = p.budget_is ∙ same_budget; need = q }

pub fault_moved : (r s t : TableOf) (first before after : List Ref) (task : Task) (e : TableFault) → s.levels ≡ r.levels → s.budget ≡ r.budget → sets_of s before ≡ sets_of r first → IsTaskFault s t before after (asked (set_in s before) task) e → IsTaskFault r t first after (asked (set_in r first) task) e
fault_moved r s t first before after task (fault.Full held budget) levels same_budget same p = needs_moved r s t first before after task held budget levels same_budget same p
fault_moved r s t first before after task fault.Memory levels same_budget same p = p ∙ same

pub puts_moved_ok : (res : Result Unit TableFault) (r s t : TableOf) (first before after : List Ref) (task : Task) → s.levels ≡ r.levels → s.budget ≡ r.budget → sets_of s before ≡ sets_of r first → OnOk res (Puts s t before after (asked (set_in s before) task)) → OnOk res (Puts r t first after (asked (set_in r first) task))
puts_moved_ok (Ok x) r s t first before after task levels budget same p = puts_moved r s t first before after task levels budget same p
puts_moved_ok (Err e) r s t first before after task levels budget same p = tt

pub fault_moved_err : (res : Result Unit TableFault) (r s t : TableOf) (first before after : List Ref) (task : Task) → s.levels ≡ r.levels → s.budget ≡ r.budget → sets_of s before ≡ sets_of r first → IfErr res (λ e. IsTaskFault s t before after (asked (set_in s before) task) e) → IfErr res (λ e. IsTaskFault r t first after (asked (set_in r first) task) e)
fault_moved_err (Ok x) r s t first before after task levels budget same p = tt
fault_moved_err (Err e) r s t first before after task levels budget same p = fault_moved r s t first before after task e levels budget same p
