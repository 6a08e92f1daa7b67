-- A table and a list of its diagrams, seen as a list of sets.
use Rattle.std.proofs.Common.{◌≡◌, ℕ, ◌<◌, ◌≤◌, ◌+◌, ◌*◌, ◌^◌, ◌++◌, List, [], ◌∷◌, Bool, true, false, length, map, take, Result, Ok, Err, OnOk, OnErr, IfOk, IsTrue, ◌↔◌, refl, sym, ◌∙◌, ap, subst, arith}
use Rattle.std.proofs.lemmas.List.{length-map, length_push, take-map, map-append, get_or-map}
use Rattle.std.proofs.Math.Nat.{mul-le-mul_right}
use Rattle.cov_dd.specs.declared.node.Ref.{Ref}
use Rattle.cov_dd.specs.declared.node.Ref.TheVariants.{Constant}
use Rattle.cov_dd.specs.declared.fault.NoMemory.{NoMemory}
use Rattle.cov_dd.specs.Nodes.{TableOf, den, SameFunction}
use Rattle.cov_dd.specs.Need.{values}
use Rattle.cov_dd.specs.Operations.{put, Ignores}
use Rattle.cov_dd.specs.Reached.{ref_at, IsCollected}
use Rattle.cov_space.specs.declared.task.Task.{Task}
use Rattle.cov_space.specs.Sets.{SpaceOf, lies, set_at, SameSets}
use Rattle.cov_space.specs.Tasks.{asked, asked_set, set_of, sets_of, set_in, Kept, Needs}
use Rattle.cov_space.specs.Views.{view_of}
use Rattle.cov_space.specs.Answers.{raised, IsOverBudget}
use Rattle.cov_space.proofs.Sets.{values_same, same_sets}
use Rattle.cov_space.proofs.Rows.{length-put_below}
use Rattle.cov_space.proofs.TaskLemmas.{lies_at, sets_collected}
use Rattle.cov_space.proofs.BoundLemmas.{need_bound}

pub length-sets_of : (t : TableOf) (list : List Ref) → length (sets_of t list) ≡ length list
length-sets_of t list = length-map list (set_of t)

pub same_space : (a b : SpaceOf) → a.levels ≡ b.levels → a.budget ≡ b.budget → a.places ≡ b.places → a.refused ≡ b.refused → a.sets ≡ b.sets → a ≡ b
same_space a b p q r s e =
    let f1 : ℕ → SpaceOf = λ x. record { levels = x; budget = a.budget; places = a.places; refused = a.refused; sets = a.sets } in
    let f2 : ℕ → SpaceOf = λ x. record { levels = b.levels; budget = x; places = a.places; refused = a.refused; sets = a.sets } in
    let f3 : ℕ → SpaceOf = λ x. record { levels = b.levels; budget = b.budget; places = x; refused = a.refused; sets = a.sets } in
    let f4 : ℕ → SpaceOf = λ x. record { levels = b.levels; budget = b.budget; places = b.places; refused = x; sets = a.sets } in
    let f5 : List (List Bool) → SpaceOf = λ x. record { levels = b.levels; budget = b.budget; places = b.places; refused = b.refused; sets = x } in
    ap f1 p ∙ ap f2 q ∙ ap f3 r ∙ ap f4 s ∙ ap f5 e

-- the refusal of a basic operation
pub over_budget : (t u : TableOf) (before after : List Ref) (places refused : ℕ) (task : Task) (held budget roots : ℕ) → Kept t u after → roots ≡ length after → length before ≤ places → Needs t u before after (asked (set_in t before) task) held budget
    → IsOverBudget (view_of t before places refused) (view_of u after places (raised refused)) (asked_set t.levels (sets_of t before) task) (record { held = held; budget = budget; roots = roots })
over_budget t u before after places refused task held budget roots k count room r =
    let sets : List (List Bool) = sets_of t before ++ asked_set t.levels (sets_of t before) task ∷ [] in
    let before_len : length (sets_of t before) ≡ length before = length-sets_of t before in
    let after_len : length (sets_of u after) ≡ length after = length-sets_of u after in
    let same : length (sets_of u after) ≡ length (sets_of t before) = ap length r.same in
    let here : roots ≡ length (sets_of t before) = count ∙ sym after_len ∙ same in
    let n : length (map lies sets) ≡ roots + 1 = length-map sets lies ∙ length_push (sets_of t before) (asked_set t.levels (sets_of t before) task) ∙ ap (λ x. x + 1) (sym here) in
    let within : t.budget < (roots + 1) * 2 ^ t.levels = subst (λ (x : ℕ). t.budget < x * 2 ^ t.levels) n (need_bound t.levels (map lies sets) t.budget r.need) in
    let more : (roots + 1) * 2 ^ t.levels ≤ (places + 1) * 2 ^ t.levels = mul-le-mul_right (2 ^ t.levels) (omega arith) in
    record {
      refused = record {
        is = same_space (view_of u after places (raised refused)) (record { levels = t.levels; budget = t.budget; places = places; refused = raised refused; sets = sets_of t before }) k.levels k.budget refl refl r.same;
        held = r.held_is;
        budget = r.budget_is;
        kept = omega arith;
        roots = omega arith;
        within = within;
        short = omega arith;
      };
      roots = here;
      need = r.need;
    }

-- a place of the list of sets is one of the list of diagrams
pub place_in : (s : SpaceOf) (t : TableOf) (list : List Ref) (places refused a : ℕ) → view_of t list places refused ≡ s → a < length s.sets → a < length list
place_in s t list places refused a is lt =
    let e : length (sets_of t list) ≡ length s.sets = ap (λ (x : SpaceOf). length x.sets) is in
    let n : length (sets_of t list) ≡ length list = length-sets_of t list in
    omega arith

pub collected_space : {X E : Type 0} (res : Result X E) (t u : TableOf) (before after : List Ref) (places refused : ℕ) → OnErr res ((u ≡ t) × (after ≡ before)) → OnOk res (IsCollected t u before after) → view_of u after places refused ≡ view_of t before places refused
collected_space (Ok x) t u before after places refused e k = same_space (view_of u after places refused) (view_of t before places refused) k.levels k.budget refl refl (sets_collected t u before after k)
collected_space (Err x) t u before after places refused e k = ap (λ (y : TableOf). view_of y after places refused) e.0 ∙ ap (λ (y : List Ref). view_of t y places refused) e.1

pub cut_sets : (t : TableOf) (list : List Ref) (n : ℕ) → sets_of t (take n list) ≡ take n (sets_of t list)
cut_sets t list n = sym (take-map (set_of t) n list)

pub settled_sets : (t : TableOf) (list : List Ref) (n last : ℕ) (r : Ref) → last < length list → r ≡ ref_at list last → sets_of t (take n list ++ r ∷ []) ≡ take n (sets_of t list) ++ set_at (sets_of t list) last ∷ []
settled_sets t list n last r lt e =
    map-append (set_of t) (take n list) (r ∷ [])
    ∙ ap (λ x. x ++ set_of t r ∷ []) (cut_sets t list n)
    ∙ ap (λ x. take n (sets_of t list) ++ x ∷ []) (ap (set_of t) e ∙ sym (get_or-map (set_of t) list last (Constant false) [] lt))

set_at-is : (t : TableOf) (list : List Ref) (k : ℕ) → k < length list → set_at (sets_of t list) k ≡ set_of t (ref_at list k)
set_at-is t list k lt = get_or-map (set_of t) list k (Constant false) [] lt

-- a set that stands is the list of its test's values
pub proper_at : (t : TableOf) (list : List Ref) (k : ℕ) → k < length (sets_of t list) → values t.levels (lies (set_at (sets_of t list) k)) ≡ set_at (sets_of t list) k
proper_at t list k lt =
    let l : length (sets_of t list) ≡ length list = length-sets_of t list in
    let at : k < length list = omega arith in
    values_same t.levels (lies (set_at (sets_of t list) k)) (den t.nodes (ref_at list k)) (λ row len. lies_at t list k at row len) ∙ sym (set_at-is t list k at)

-- two diagrams are of one function exactly where their sets agree at each row
pub same_tests : (b : Bool) (t : TableOf) (list : List Ref) (i j : ℕ) (f g : Ref) → i < length list → j < length list → f ≡ ref_at list i → g ≡ ref_at list j → IsTrue b ↔ SameFunction t.levels t.nodes f g → IsTrue b ↔ SameSets t.levels (set_at (sets_of t list) i) (set_at (sets_of t list) j)
same_tests b t list i j f g li lj is_f is_g same =
    let at_f : (row : List Bool) → length row ≡ t.levels → den t.nodes f row ≡ lies (set_at (sets_of t list) i) row = λ row len. ap (λ (x : Ref). den t.nodes x row) is_f ∙ sym (lies_at t list i li row len) in
    let at_g : (row : List Bool) → length row ≡ t.levels → den t.nodes g row ≡ lies (set_at (sets_of t list) j) row = λ row len. ap (λ (x : Ref). den t.nodes x row) is_g ∙ sym (lies_at t list j lj row len) in (
      (λ h row len. sym (at_f row len) ∙ same.0 h row len ∙ at_g row len),
      (λ h. same.1 (λ row len. at_f row len ∙ h row len ∙ sym (at_g row len))),
    )

-- and exactly where their sets are one
pub same_lists : (b : Bool) (t : TableOf) (list : List Ref) (i j : ℕ) (f g : Ref) → i < length list → j < length list → f ≡ ref_at list i → g ≡ ref_at list j → IsTrue b ↔ SameFunction t.levels t.nodes f g → IsTrue b ↔ (set_at (sets_of t list) i ≡ set_at (sets_of t list) j)
same_lists b t list i j f g li lj is_f is_g same =
    let tests = same_tests b t list i j f g li lj is_f is_g same in (
      (λ h. same_sets t.levels (set_at (sets_of t list) i) (set_at (sets_of t list) j) (proper_at t list i (omega (arith, length-sets_of t list))) (proper_at t list j (omega (arith, length-sets_of t list))) (tests.0 h)),
      (λ e. tests.1 (λ row len. ap (λ x. lies x row) e)),
    )

-- functions that agree depend on the same bits
pub ignores_agree : (levels level : ℕ) (f g : List Bool → Bool) → level < levels → ((row : List Bool) → length row ≡ levels → f row ≡ g row) → Ignores levels level f → Ignores levels level g
ignores_agree levels level f g lt same h row len =
    let at : (b : Bool) → length (put row level b) ≡ levels = λ b. length-put_below levels row level b len lt in
    sym (same (put row level false) (at false)) ∙ h row len ∙ same (put row level true) (at true)

pub depends_at : (res : Result Bool NoMemory) (t : TableOf) (list : List Ref) (a level : ℕ) (r : Ref) → a < length list → level < t.levels → r ≡ ref_at list a
    → IfOk res (λ b. (b ≡ false) ↔ Ignores t.levels level (den t.nodes r)) → IfOk res (λ b. (b ≡ false) ↔ Ignores t.levels level (lies (set_at (sets_of t list) a)))
depends_at (Err e) t list a level r la lt is h = tt
depends_at (Ok b) t list a level r la lt is h =
    let same : (row : List Bool) → length row ≡ t.levels → den t.nodes r row ≡ lies (set_at (sets_of t list) a) row = λ row len. ap (λ (x : Ref). den t.nodes x row) is ∙ sym (lies_at t list a la row len) in (
      (λ e. ignores_agree t.levels level _ _ lt same (h.0 e)),
      (λ i. h.1 (ignores_agree t.levels level _ _ lt (λ row len. sym (same row len)) i)),
    )
