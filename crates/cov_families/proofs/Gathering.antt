-- Sets that are added to one set in turn.
use Rattle.std.proofs.Common.{◌≡◌, ℕ, zero, suc, ◌⊎◌, inl, inr, ◌<◌, ◌≤◌, ◌+◌, ◌-◌, ◌&&◌, ◌||◌, ◌==◌, List, [], ◌∷◌, ◌++◌, Bool, Result, OnOk, Option, Some, false, length, take, refl, sym, ◌∙◌, ap, ap₂, arith, length-append}
use Rattle.std.proofs.Math.Bool.{or-false}
use Rattle.std.proofs.Math.Seq.{take-length}
use Rattle.std.proofs.lemmas.List.{take_at, take_more, take-append-le, length-take-le, get_or_append_left, get_or_at}
use Rattle.std.proofs.lemmas.Bool.{cases_lt}
use Rattle.cov_dd.specs.Need.{values}
use Rattle.cov_space.specs.declared.fault.SpaceFault.{SpaceFault}
use Rattle.cov_space.specs.Sets.{SpaceOf, lies, set_at}
use Rattle.cov_space.specs.Operations.{constant_set, union}
use Rattle.cov_space.specs.Answers.{PutsSet}
use Rattle.cov_space.specs.Steps.{with_more}
use Rattle.cov_space.proofs.Sets.{values_same, lies_values}
use Rattle.cov_space.proofs.Calls.{at_front, at_behind, push_behind, on_ok_map}
use Rattle.cov_fields.specs.declared.field.Field.{Field}
use Rattle.cov_fields.specs.Fields.{held}
use Rattle.cov_fields.proofs.Steps.{puts_last}
use Rattle.cov_families.specs.Families.{names, some_below}
use Rattle.cov_families.specs.Steps.{Adds, Gathers, some_set, in_turn}

-- ---- sets that are put

-- a set that is put, under another name
pub push_same : (old s new : SpaceOf) (more : List (List Bool)) (set set' : List Bool) → s ≡ with_more old more → PutsSet s new set → set ≡ set' → new ≡ with_more old (more ++ set' ∷ [])
push_same old s new more set set' is puts same = push_behind old s new more set is puts ∙ ap (λ (z : List Bool). with_more old (more ++ z ∷ [])) same

-- what an operation makes of two sets where there are more sets
pub two_at : (old s : SpaceOf) (op : ℕ → List Bool → List Bool → List Bool) (more : List (List Bool)) (i j : ℕ) (x y : List Bool) → s ≡ with_more old more
    → set_at s.sets i ≡ x → set_at s.sets j ≡ y → op s.levels (set_at s.sets i) (set_at s.sets j) ≡ op old.levels x y
two_at old s op more i j x y is at_i at_j = ap (λ k. op k (set_at s.sets i) (set_at s.sets j)) (ap (λ (z : SpaceOf). z.levels) is) ∙ ap₂ (op old.levels) at_i at_j

pub length-more : (old s : SpaceOf) (more : List (List Bool)) → s ≡ with_more old more → length s.sets ≡ length old.sets + length more
length-more old s more is = ap (λ (z : SpaceOf). length z.sets) is ∙ length-append old.sets more

-- ---- one set is added

-- the last set is added
pub adds_last : (old s new : SpaceOf) (place last : ℕ) → place < length old.sets → last ≡ length old.sets - 1 → PutsSet old s (union old.levels (set_at old.sets place) (set_at old.sets last))
    → new ≡ record s { sets = take place s.sets ++ set_at s.sets (length s.sets - 1) ∷ [] } → Adds old new place (lies (set_at old.sets (length old.sets - 1)))
adds_last old s new place last lt e puts settle =
    let u : List Bool = union old.levels (set_at old.sets place) (set_at old.sets last) in
    let long : length s.sets ≡ length old.sets + 1 = puts.count in
    let count : length (take place old.sets) ≡ place = length-take-le place old.sets (omega arith) in
    let at : set_at s.sets (length s.sets - 1) ≡ u = at_behind old s (u ∷ []) (length s.sets - 1) 0 puts.is (omega arith) in
    let front : take place s.sets ≡ take place old.sets = ap (λ (z : SpaceOf). take place z.sets) puts.is ∙ take-append-le place old.sets (u ∷ []) (omega arith) in
    let is : new ≡ record old { sets = take place old.sets ++ union old.levels (set_at old.sets place) (set_at old.sets (length old.sets - 1)) ∷ [] } =
    settle ∙ ap (λ (z : List (List Bool)). record s { sets = z }) (ap₂ (λ (p : List (List Bool)) (x : List Bool). p ++ x ∷ []) front (at ∙ ap (λ k. union old.levels (set_at old.sets place) (set_at old.sets k)) e))
    ∙ ap (λ (z : SpaceOf). record z { sets = take place old.sets ++ union old.levels (set_at old.sets place) (set_at old.sets (length old.sets - 1)) ∷ [] }) puts.is in
    record {
      is = is;
      count = ap (λ (z : SpaceOf). length z.sets) is ∙ length-append (take place old.sets) _ ∙ ap (λ k. k + 1) count;
    }

-- a set is added where further sets stand behind those of before
pub adds_behind : (old s new : SpaceOf) (more : List (List Bool)) (place : ℕ) (t u : List Bool → Bool) → s ≡ with_more old more → place < length old.sets → Adds s new place t
    → ((row : List Bool) → length row ≡ old.levels → t row ≡ u row) → Adds old new place u
adds_behind old s new more place t u is lt adds same =
    let front : take place s.sets ≡ take place old.sets = ap (λ (z : SpaceOf). take place z.sets) is ∙ take-append-le place old.sets more (omega arith) in
    let at : set_at s.sets place ≡ set_at old.sets place = at_front old s more place is lt in
    let made : values s.levels (λ row. lies (set_at s.sets place) row || t row) ≡ values old.levels (λ row. lies (set_at old.sets place) row || u row) =
    ap (λ k. values k (λ row. lies (set_at s.sets place) row || t row)) (ap (λ (z : SpaceOf). z.levels) is)
    ∙ values_same old.levels _ _ (λ row len. ap₂ (λ (x : List Bool) (b : Bool). lies x row || b) at (same row len)) in
    record {
      is = adds.is ∙ ap (λ (z : List (List Bool)). record s { sets = z }) (ap₂ (λ (p : List (List Bool)) (x : List Bool). p ++ x ∷ []) front made)
          ∙ ap (λ (z : SpaceOf). record z { sets = take place old.sets ++ values old.levels (λ row. lies (set_at old.sets place) row || u row) ∷ [] }) is;
      count = adds.count;
    }

-- the last one of the further sets is added
pub adds_top : (res : Result Unit SpaceFault) (old s new : SpaceOf) (more : List (List Bool)) (place i : ℕ) (x : List Bool) (u : List Bool → Bool) → s ≡ with_more old more → length more ≡ suc i → set_at more i ≡ x → place < length old.sets
    → ((row : List Bool) → length row ≡ old.levels → lies x row ≡ u row) → OnOk res (Adds s new place (lies (set_at s.sets (length s.sets - 1)))) → OnOk res (Adds old new place u)
adds_top res old s new more place i x u is long last lt same adds =
    let all : length s.sets ≡ length old.sets + length more = length-more old s more is in
    let at : set_at s.sets (length s.sets - 1) ≡ x = at_behind old s more (length s.sets - 1) i is (omega arith) ∙ last in
    on_ok_map res _ _ (λ (a : Adds s new place (lies (set_at s.sets (length s.sets - 1)))). adds_behind old s new more place (lies (set_at s.sets (length s.sets - 1))) u is lt a (λ row len. ap (λ (y : List Bool). lies y row) at ∙ same row len)) adds

-- the last one of the further sets is added, where the row holds the target too
pub adds_named : (res : Result Unit SpaceFault) (old s new : SpaceOf) (place k : ℕ) (to : Field) (target : Option ℕ) (x : List Bool) (u : List Bool → Bool) → s ≡ with_more old (x ∷ []) → place < length old.sets → target ≡ Some k
    → ((row : List Bool) → length row ≡ old.levels → lies x row ≡ u row) → OnOk res (Adds s new place (λ row. lies (set_at s.sets (length s.sets - 1)) row && (k == held to row)))
    → OnOk res (Adds old new place (λ row. u row && names target (held to row)))
adds_named res old s new place k to target x u is lt some same adds =
    let all : length s.sets ≡ length old.sets + 1 = length-more old s (x ∷ []) is in
    let at : set_at s.sets (length s.sets - 1) ≡ x = at_behind old s (x ∷ []) (length s.sets - 1) 0 is (omega arith) in
    on_ok_map res _ _ (λ (a : Adds s new place (λ row. lies (set_at s.sets (length s.sets - 1)) row && (k == held to row))).
    adds_behind old s new (x ∷ []) place (λ row. lies (set_at s.sets (length s.sets - 1)) row && (k == held to row)) (λ row. u row && names target (held to row)) is lt a (λ row len.
    ap₂ ◌&&◌ (ap (λ (y : List Bool). lies y row) at ∙ same row len) (ap (λ (t : Option ℕ). names t (held to row)) (sym some)))) adds

-- no rows are added
pub adds_none : (old : SpaceOf) (place : ℕ) (t : List Bool → Bool) → place + 1 ≡ length old.sets → values old.levels (lies (set_at old.sets place)) ≡ set_at old.sets place
    → ((row : List Bool) → t row ≡ false) → Adds old old place t
adds_none old place t count proper none =
    let kept : values old.levels (λ row. lies (set_at old.sets place) row || t row) ≡ set_at old.sets place =
    values_same old.levels _ _ (λ row len. ap (λ b. lies (set_at old.sets place) row || b) (none row) ∙ or-false (lies (set_at old.sets place) row)) ∙ proper in
    let whole : take place old.sets ++ set_at old.sets place ∷ [] ≡ old.sets = sym (take_more old.sets place [] (omega arith)) ∙ ap (λ k. take k old.sets) count ∙ take-length old.sets in
    record {
      is = ap (λ (z : List (List Bool)). record old { sets = z }) (sym (ap (λ (x : List Bool). take place old.sets ++ x ∷ []) kept ∙ whole));
      count = sym count;
    }

-- ---- sets are gathered

pub gathers_none : (old s : SpaceOf) (test : List Bool → ℕ → Bool) → PutsSet old s (constant_set old.levels false) → Gathers old s 0 test
gathers_none old s test puts = record {
  is = puts.is;
  count = puts.count;
  places = ap (λ (z : SpaceOf). z.places) puts.is;
  levels = ap (λ (z : SpaceOf). z.levels) puts.is;
}

pub gathers_more : (old s new : SpaceOf) (n i : ℕ) (test : List Bool → ℕ → Bool) (t : List Bool → Bool) → length old.sets ≡ n → Gathers old s i test → Adds s new n t
    → ((row : List Bool) → length row ≡ old.levels → t row ≡ test row i) → Gathers old new (i + 1) test
gathers_more old s new n i test t count before adds same =
    let x : List Bool = some_set old.levels i test in
    let at : set_at s.sets n ≡ x = at_behind old s (x ∷ []) n 0 before.is (omega arith) in
    let front : take n s.sets ≡ old.sets = ap (λ (z : SpaceOf). take n z.sets) before.is ∙ take_at old.sets (x ∷ []) n count in
    let next : suc i ≡ i + 1 = omega arith in
    let made : values s.levels (λ row. lies (set_at s.sets n) row || t row) ≡ some_set old.levels (i + 1) test =
    ap (λ k. values k (λ row. lies (set_at s.sets n) row || t row)) before.levels
    ∙ values_same old.levels _ (λ row. some_below (i + 1) (test row)) (λ row len.
    ap₂ (λ (y : List Bool) (b : Bool). lies y row || b) at (same row len)
    ∙ ap (λ b. b || test row i) (lies_values old.levels (λ r. some_below i (test r)) row len)
    ∙ ap (λ k. some_below k (test row)) next) in
    let is : new ≡ with_more old (some_set old.levels (i + 1) test ∷ []) =
    adds.is ∙ ap (λ (z : List (List Bool)). record s { sets = z }) (ap₂ (λ (p : List (List Bool)) (y : List Bool). p ++ y ∷ []) front made)
    ∙ ap (λ (z : SpaceOf). record z { sets = old.sets ++ some_set old.levels (i + 1) test ∷ [] }) before.is in
    record {
      is = is;
      count = adds.count ∙ ap (λ k. k + 1) (sym count);
      places = ap (λ (z : SpaceOf). z.places) is;
      levels = ap (λ (z : SpaceOf). z.levels) is;
    }

-- what is gathered is a set
pub gathers_puts : (old s : SpaceOf) (n : ℕ) (test : List Bool → ℕ → Bool) (f : List Bool → Bool) → Gathers old s n test → ((row : List Bool) → length row ≡ old.levels → some_below n (test row) ≡ f row) → PutsSet old s (values old.levels f)
gathers_puts old s n test f all same =
    puts_last old s (values old.levels f) (all.is ∙ ap (λ (z : List Bool). with_more old (z ∷ [])) (values_same old.levels (λ row. some_below n (test row)) f same))

-- ---- sets that stand in turn

pub length-in_turn : (n : ℕ) (set : ℕ → List Bool) → length (in_turn n set) ≡ n
length-in_turn zero set = refl
length-in_turn (suc n) set = length-append (in_turn n set) (set n ∷ []) ∙ ap (λ k. k + 1) (length-in_turn n set) ∙ (let e : n + 1 ≡ suc n = omega arith in e)

pub at_in_turn : (n : ℕ) (set : ℕ → List Bool) (k : ℕ) → k < n → set_at (in_turn n set) k ≡ set k
at_in_turn zero set k lt = absurd (omega arith)
at_in_turn (suc n) set k lt = by (cases_lt k n) (λ l. at_in_turn n set k l)
  where
    by : (k < n) ⊎ (n ≤ k) → (k < n → set_at (in_turn n set) k ≡ set k) → set_at (in_turn n set ++ set n ∷ []) k ≡ set k
    by (inl l) go = let long : length (in_turn n set) ≡ n = length-in_turn n set in get_or_append_left (in_turn n set) (set n ∷ []) [] k (omega arith) ∙ go l
    by (inr le) go =
        let e : n ≡ k = omega arith in
        get_or_at (in_turn n set) (set n) [] [] k (length-in_turn n set ∙ e) ∙ ap set e
