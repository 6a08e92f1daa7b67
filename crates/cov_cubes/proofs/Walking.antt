-- The steps of the walk over the variables.
use Rattle.std.proofs.Common.{◌≡◌, ◌≢◌, ℕ, zero, suc, ◌<◌, ◌≤◌, ◌+◌, ◌-◌, ◌++◌, if◌then◌else◌, List, [], ◌∷◌, Bool, true, false, IsTrue, length, map, take, drop, get_or, slice_get, Some, Result, OnOk, refl, sym, ◌∙◌, ap, subst, arith}
use Rattle.std.specs.Prelude.{flat_map, nat_lt}
use Rattle.std.specs.List.{list_all}
use Rattle.std.proofs.lemmas.Grind.{flat_map-append}
use Rattle.std.proofs.lemmas.List.{append-nil, take_all, take_at, take-append-drop, drop_all}
use Rattle.cov_model.specs.Flat.{greatest}
use Rattle.cov_bits.specs.Layout.{first, bits, width}
use Rattle.cov_classes.specs.Cubes.{Set, cubes, rest}
use Rattle.cov_classes.specs.Partition.{is_typed}
use Rattle.cov_classes.proofs.Listing.{and_split, below}
use Rattle.cov_space.specs.declared.layer.Layer.TheVariants.{V}
use Rattle.cov_space.specs.declared.fault.SpaceFault.{SpaceFault}
use Rattle.cov_space.specs.Sets.{SpaceOf, set_at}
use Rattle.cov_space.specs.Answers.{PutsSet}
use Rattle.cov_space.specs.Steps.{with_more}
use Rattle.cov_space.proofs.Calls.{at_behind, on_ok_map}
use Rattle.cov_fields.specs.declared.field.Field.{Field}
use Rattle.cov_fields.specs.Fields.{field_of}
use Rattle.cov_fields.specs.Sets.{rest_set, IsEmpty}
use Rattle.cov_cubes.specs.declared.variable.Variable.{Variable}
use Rattle.cov_cubes.specs.declared.found.Found.{Found}
use Rattle.cov_cubes.specs.States.{states_from}
use Rattle.cov_cubes.specs.Rests.{IsRest, IsRestOf, IsVariable, states_of}
use Rattle.cov_cubes.specs.Steps.{added, behind, rests, alike, classes_by, classes_of}
use Rattle.cov_cubes.specs.OneValue.{IsPassed, singles}
use Rattle.cov_cubes.proofs.Sizes.{drop_next}
use Rattle.cov_cubes.proofs.Rests.{empty_states, states_empty}
use Rattle.cov_cubes.proofs.Firsts.{rest_next, states_next}
use Rattle.cov_cubes.proofs.Joined.{classes_are}
use Rattle.cov_cubes.proofs.Gathered.{cubes_of, by_classes, is_headed, all_headed}
use Rattle.cov_cubes.proofs.Counted.{added_more, added_full, added_none, behind_append, behind_more, behind_first}
use Rattle.cov_cubes.proofs.Passing.{IsBehind, passed, width_some, bits_left}

-- ---- classes

pub size_within : (ns : List ℕ) (x : ℕ) → x < length ns → get_or ns x 0 ≤ greatest ns
size_within [] x lt = absurd (omega arith)
size_within (n ∷ ns) zero lt = omega arith
size_within (n ∷ ns) (suc x) lt = let h : get_or ns x 0 ≤ greatest ns = size_within ns x (omega arith) in omega arith

pub classes_found : (levels : ℕ) (ns : List ℕ) (x : ℕ) (set : List Bool) (y : Variable) (cs : List (List ℕ)) → x < length ns → IsRestOf levels ns x set → IsVariable ns x y
    → cs ≡ classes_by (alike (rests levels y.field set y.size) 0) y.size → cs ≡ classes_of (get_or ns x 0) (drop (x + 1) ns) (states_of levels ns x set)
classes_found levels ns x set y cs lx is variable e =
    e ∙ ap (λ (f : Field). classes_by (alike (rests levels f set y.size) 0) y.size) variable.field
    ∙ ap (λ n. classes_by (alike (rests levels (field_of ns x V) set n) 0) n) variable.size
    ∙ classes_are levels ns x set lx is

headed_at : (n : ℕ) (cs : List (List ℕ)) (i : ℕ) (class : List ℕ) → IsTrue (list_all (is_headed n) cs) → slice_get cs i ≡ Some class → IsTrue (is_headed n class)
headed_at n [] i class h e = cc
headed_at n (c ∷ cs) zero class h e = let same : c ≡ class = cc in subst (λ (k : List ℕ). IsTrue (is_headed n k)) same (and_split (is_headed n c) (list_all (is_headed n) cs) h).0
headed_at n (c ∷ cs) (suc i) class h e = headed_at n cs i class (and_split (is_headed n c) (list_all (is_headed n) cs) h).1 e

-- a class has a value, which is one of the variable's
pub record Headed (n : ℕ) (class : List ℕ) : Type 0 where
  pub some : 0 < length class
  pub below : get_or class 0 0 < n

pub class_headed : (n : ℕ) (ms : List ℕ) (set : Set) (cs : List (List ℕ)) (i : ℕ) (class : List ℕ) → cs ≡ classes_of n ms set → slice_get cs i ≡ Some class → Headed n class
class_headed n ms set cs i class is e =
    let h = and_split (nat_lt 0 (length class)) (nat_lt (get_or class 0 0) n) (headed_at n cs i class (subst (λ (l : List (List ℕ)). IsTrue (list_all (is_headed n) l)) (sym is) (all_headed n ms set)) e) in
    record { some = below 0 (length class) h.0; below = below (get_or class 0 0) n h.1 }

pub first_item : (class : List ℕ) (v : ℕ) → slice_get class 0 ≡ Some v → v ≡ get_or class 0 0
first_item [] v e = cc
first_item (u ∷ class) v e = let same : u ≡ v = cc in sym same

-- ---- the rest set of a class

pub walk_put : (old s s1 : SpaceOf) (ns : List ℕ) (x v w k : ℕ) (y : Variable) → s ≡ old → IsVariable ns x y → w ≡ v → PutsSet s s1 (rest_set s.levels y.field w (set_at s.sets k))
    → s1 ≡ with_more old (rest_set old.levels (field_of ns x V) v (set_at old.sets k) ∷ [])
walk_put old s s1 ns x v w k y kept variable same puts =
    puts.is
    ∙ ap (λ (z : SpaceOf). with_more z (rest_set z.levels y.field w (set_at z.sets k) ∷ [])) kept
    ∙ ap (λ (f : Field). with_more old (rest_set old.levels f w (set_at old.sets k) ∷ [])) variable.field
    ∙ ap (λ u. with_more old (rest_set old.levels (field_of ns x V) u (set_at old.sets k) ∷ [])) same

-- the last set is a rest set of the remaining variables, with these states
pub record Descends (levels : ℕ) (ns : List ℕ) (x : ℕ) (set : List Bool) (states : Set) : Type 0 where
  pub rest : IsRestOf levels ns x set
  pub states_are : states_of levels ns x set ≡ states

pub descends : (old s1 : SpaceOf) (ns : List ℕ) (x v n : ℕ) (set : List Bool) → x < length ns → v < get_or ns x 0 → length old.sets ≡ n → IsRestOf old.levels ns x set
    → s1 ≡ with_more old (rest_set old.levels (field_of ns x V) v set ∷ []) → Descends s1.levels ns (x + 1) (set_at s1.sets n) (rest (states_of old.levels ns x set) v)
descends old s1 ns x v n set lx lt count is e =
    let r : List Bool = rest_set old.levels (field_of ns x V) v set in
    let levels : old.levels ≡ s1.levels = sym (ap (λ (z : SpaceOf). z.levels) e) in
    let at : r ≡ set_at s1.sets n = sym (at_behind old s1 (r ∷ []) n 0 e (omega arith)) in
    let t : Set = rest (states_of old.levels ns x set) v in
    subst (λ m. Descends m ns (x + 1) (set_at s1.sets n) t) levels
    (subst (λ (z : List Bool). Descends old.levels ns (x + 1) z t) at (record { rest = rest_next old.levels ns x v set lx is lt; states_are = states_next old.levels ns x v set lx is }))

-- a class was entered: its rest set stands last
pub record Entered (old s1 : SpaceOf) (ns : List ℕ) (x n : ℕ) (set : List Bool) (class : List ℕ) : Type 0 where
  pub is : s1 ≡ with_more old (rest_set old.levels (field_of ns x V) (get_or class 0 0) set ∷ [])
  pub down : Descends s1.levels ns (x + 1) (set_at s1.sets n) (rest (states_of old.levels ns x set) (get_or class 0 0))

pub entered : (old s s1 : SpaceOf) (ns : List ℕ) (x w n k i : ℕ) (y : Variable) (cs : List (List ℕ)) (class : List ℕ) → x < length ns → length old.sets ≡ n → IsRestOf old.levels ns x (set_at old.sets k) → IsVariable ns x y
    → cs ≡ classes_by (alike (rests old.levels y.field (set_at old.sets k) y.size) 0) y.size → slice_get cs i ≡ Some class → s ≡ old → slice_get class 0 ≡ Some w
    → PutsSet s s1 (rest_set s.levels y.field w (set_at s.sets k)) → Entered old s1 ns x n (set_at old.sets k) class
entered old s s1 ns x w n k i y cs class lx count is variable found at kept item puts =
    let set : List Bool = set_at old.sets k in
    let head : Headed (get_or ns x 0) class = class_headed (get_or ns x 0) (drop (x + 1) ns) (states_of old.levels ns x set) cs i class (classes_found old.levels ns x set y cs lx is variable found) at in
    let e : s1 ≡ with_more old (rest_set old.levels (field_of ns x V) (get_or class 0 0) set ∷ []) = walk_put old s s1 ns x (get_or class 0 0) w k y kept variable (first_item class w item) puts in
    record { is = e; down = descends old s1 ns x (get_or class 0 0) n set lx head.below count is e }

-- the walk goes on at a variable of several values, behind the class that was entered and those of the variables of one value
pub record GoesOn (old s1 : SpaceOf) (ns : List ℕ) (x to n : ℕ) (set : List Bool) (class : List ℕ) : Type 0 where
  pub passed : IsPassed ns (x + 1) to
  pub rest : IsRestOf s1.levels ns to (set_at s1.sets n)
  pub fewer_bits : bits (drop to ns) + 1 ≤ bits (drop x ns)
  pub cubes_are : behind (class ∷ singles (to - (x + 1))) (cubes (drop to ns) (states_of s1.levels ns to (set_at s1.sets n))) ≡ cubes_of (drop (x + 1) ns) (states_of old.levels ns x set) class

-- a variable of several values has bits
fewer_bits : (ns : List ℕ) (x : ℕ) (y : Variable) → x < length ns → get_or ns x 0 ≢ 1 → IsVariable ns x y → bits (drop (x + 1) ns) + 1 ≤ bits (drop x ns)
fewer_bits ns x y lx several variable =
    let size : y.size ≡ get_or ns x 0 = variable.size in
    let some : 0 < y.size = variable.sized.0 in
    let bit : 0 < width (get_or ns x 0) = width_some (get_or ns x 0) (omega (arith, several)) in
    let all : bits (drop x ns) ≡ width (get_or ns x 0) + bits (drop (x + 1) ns) = bits_left ns x lx in
    omega arith

pub goes_on : (old s1 : SpaceOf) (ns ms : List ℕ) (x to n : ℕ) (y : Variable) (set : List Bool) (class : List ℕ) → ns ≡ ms → x < length ns → get_or ns x 0 ≢ 1 → IsVariable ns x y → IsPassed ms (x + 1) to
    → Entered old s1 ns x n set class → GoesOn old s1 ns x to n set class
goes_on old s1 ns ms x to n y set class plan lx several variable p e =
    let own : IsPassed ns (x + 1) to = subst (λ (l : List ℕ). IsPassed l (x + 1) to) (sym plan) p in
    let last : List Bool = set_at s1.sets n in
    let b : IsBehind s1.levels ns (x + 1) to (to - (x + 1)) (set_at s1.sets n) = passed s1.levels ns (x + 1) to last own e.down.rest in
    record {
      passed = own;
      rest = b.rest;
      fewer_bits = subst (λ k. k + 1 ≤ bits (drop x ns)) b.bits_are (fewer_bits ns x y lx several variable);
      cubes_are =
          behind_first class (singles (to - (x + 1))) (cubes (drop to ns) (states_of s1.levels ns to last))
          ∙ ap (map (λ c. class ∷ c)) (sym b.cubes_are ∙ ap (cubes (drop (x + 1) ns)) e.down.states_are);
    }

-- ---- what is found

take_get : (cs : List (List ℕ)) (i : ℕ) (class : List ℕ) → slice_get cs i ≡ Some class → take (i + 1) cs ≡ take i cs ++ class ∷ []
take_get [] i class e = cc
take_get (c ∷ cs) zero class e = let same : c ≡ class = cc in ap (λ (k : List ℕ). k ∷ []) same
take_get (c ∷ cs) (suc i) class e = let next : suc i + 1 ≡ suc (i + 1) = omega arith in ap (λ k. take k (c ∷ cs)) next ∙ ap (λ (l : List (List ℕ)). c ∷ l) (take_get cs i class e)

pub walk_turn : (old cur ent new : Found) (front : List (List ℕ)) (f : List ℕ → List (List (List ℕ))) (cs : List (List ℕ)) (i before : ℕ) (class : List ℕ) (more : List (List ℕ)) (xs : List (List (List ℕ)))
    → slice_get cs i ≡ Some class → before ≡ length old.front
    → cur ≡ record old { list = added old.limit old.list (behind old.front (flat_map f (take i cs))) }
    → ent ≡ record cur { front = cur.front ++ more }
    → new ≡ record ent { list = added ent.limit ent.list (behind ent.front xs) }
    → front ≡ take before new.front
    → behind more xs ≡ f class
    → ◌≡◌ {A = Found} (record { front = front; limit = new.limit; list = new.list }) (record old { list = added old.limit old.list (behind old.front (flat_map f (take (i + 1) cs))) })
walk_turn old cur ent new front f cs i before class more xs at count is_cur is_ent is_new is_front made =
    let so_far : List (List (List ℕ)) = behind old.front (flat_map f (take i cs)) in
    let whole : new ≡ record { front = old.front ++ more; limit = old.limit; list = added old.limit (added old.limit old.list so_far) (behind (old.front ++ more) xs) } =
    is_new ∙ ap (λ (e : Found). record e { list = added e.limit e.list (behind e.front xs) }) (is_ent ∙ ap (λ (e : Found). record e { front = e.front ++ more }) is_cur) in
    let later : behind (old.front ++ more) xs ≡ behind old.front (f class) = behind_more old.front more xs ∙ ap (behind old.front) made in
    let next : flat_map f (take i cs) ++ f class ≡ flat_map f (take (i + 1) cs) =
    sym (ap (flat_map f) (take_get cs i class at) ∙ flat_map-append f (take i cs) (class ∷ []) ∙ ap (λ (l : List (List (List ℕ))). flat_map f (take i cs) ++ l) (append-nil (f class))) in
    ap (λ (l : List (List ℕ)). record { front = l; limit = new.limit; list = new.list }) is_front
    ∙ ap (λ (e : Found). record { front = take before e.front; limit = e.limit; list = e.list }) whole
    ∙ ap (λ (l : List (List ℕ)). record { front = l; limit = old.limit; list = added old.limit (added old.limit old.list so_far) (behind (old.front ++ more) xs) }) (take_at old.front more before (sym count))
    ∙ ap (λ (l : List (List (List ℕ))). record old { list = added old.limit (added old.limit old.list so_far) l }) later
    ∙ ap (λ l. record old { list = l }) (added_more old.limit old.list so_far (behind old.front (f class)) ∙ ap (added old.limit old.list) (sym (behind_append old.front (flat_map f (take i cs)) (f class)) ∙ ap (behind old.front) next))

-- the limit is passed
pub walk_full : (old new : Found) (f : List ℕ → List (List (List ℕ))) (cs : List (List ℕ)) (j : ℕ) (whole : List (List (List ℕ))) → old.list.more ≡ false → new.list.more ≡ true → flat_map f cs ≡ whole
    → new ≡ record old { list = added old.limit old.list (behind old.front (flat_map f (take j cs))) } → new ≡ record old { list = added old.limit old.list (behind old.front whole) }
walk_full old new f cs j whole open' full all is =
    let parts : flat_map f (take j cs) ++ flat_map f (drop j cs) ≡ whole = sym (flat_map-append f (take j cs) (drop j cs)) ∙ ap (flat_map f) (take-append-drop j cs) ∙ all in
    let more : (added old.limit old.list (behind old.front (flat_map f (take j cs)))).more ≡ true = ap (λ (e : Found). e.list.more) (sym is) ∙ full in
    is ∙ ap (λ l. record old { list = l }) (sym (added_full old.limit old.list (behind old.front (flat_map f (take j cs))) (behind old.front (flat_map f (drop j cs))) open' more)
    ∙ ap (added old.limit old.list) (sym (behind_append old.front (flat_map f (take j cs)) (flat_map f (drop j cs))) ∙ ap (behind old.front) parts))

-- all classes are done
pub walk_done : (old new : Found) (f : List ℕ → List (List (List ℕ))) (cs : List (List ℕ)) (j : ℕ) (whole : List (List (List ℕ))) → length cs ≤ j → flat_map f cs ≡ whole
    → new ≡ record old { list = added old.limit old.list (behind old.front (flat_map f (take j cs))) } → new ≡ record old { list = added old.limit old.list (behind old.front whole) }
walk_done old new f cs j whole le all is = is ∙ ap (λ (l : List (List (List ℕ))). record old { list = added old.limit old.list (behind old.front l) }) (ap (flat_map f) (take_all j cs le) ∙ all)

pub whole_cubes : (levels : ℕ) (ns : List ℕ) (x : ℕ) (set : List Bool) → x < length ns
    → flat_map (cubes_of (drop (x + 1) ns) (states_of levels ns x set)) (classes_of (get_or ns x 0) (drop (x + 1) ns) (states_of levels ns x set)) ≡ cubes (drop x ns) (states_of levels ns x set)
whole_cubes levels ns x set lx = by_classes (get_or ns x 0) (drop (x + 1) ns) (states_of levels ns x set) ∙ ap (λ (l : List ℕ). cubes l (states_of levels ns x set)) (sym (drop_next ns x lx))

-- no variable is left
pub walk_last : (res : Result Unit SpaceFault) (levels : ℕ) (ns : List ℕ) (x : ℕ) (set : List Bool) (old new : Found) → length ns ≤ x → IsRestOf levels ns x set → old.list.more ≡ false → length old.list.cubes ≤ old.limit
    → (IsEmpty levels set → OnOk res (new ≡ old)) → ((IsEmpty levels set → ⊥) → OnOk res (new ≡ record old { list = added old.limit old.list (old.front ∷ []) }))
    → OnOk res (new ≡ record old { list = added old.limit old.list (behind old.front (cubes (drop x ns) (states_of levels ns x set))) })
walk_last res levels ns x set old new le is open' few empty some =
    let none : drop x ns ≡ [] = drop_all x ns le in
    let own : IsRest levels (first ns x) [] set = subst (λ (ms : List ℕ). IsRest levels (first ns x) ms set) none is in
    subst (λ (l : List (List (List ℕ))). OnOk res (new ≡ record old { list = added old.limit old.list (behind old.front l) })) (ap (λ (ms : List ℕ). cubes ms (states_from (first ns x) ms levels set)) (sym none))
    (by (states_from (first ns x) [] levels set []) refl own)
  where
    only : states_from (first ns x) [] levels set [] ≡ false → (s : List ℕ) → IsTrue (is_typed [] s) → states_from (first ns x) [] levels set s ≡ false
    only f [] typed = f
    only f (v ∷ s) typed = cc

    by : (b : Bool) → states_from (first ns x) [] levels set [] ≡ b → IsRest levels (first ns x) [] set → OnOk res (new ≡ record old { list = added old.limit old.list (behind old.front (if states_from (first ns x) [] levels set [] then [] ∷ [] else [])) })
    by false e own =
        on_ok_map res (new ≡ old) _ (λ h. h ∙ ap (λ l. record old { list = l }) (sym (added_none old.limit old.list open' few))
        ∙ ap (λ b. record old { list = added old.limit old.list (behind old.front (if b then [] ∷ [] else [])) }) (sym e)) (empty (states_empty levels (first ns x) [] set own (only e)))
    by true e own =
        on_ok_map res (new ≡ record old { list = added old.limit old.list (old.front ∷ []) }) _ (λ h. h ∙ ap (λ (l : List (List ℕ)). record old { list = added old.limit old.list (l ∷ []) }) (sym (append-nil old.front))
        ∙ ap (λ b. record old { list = added old.limit old.list (behind old.front (if b then [] ∷ [] else [])) }) (sym e)) (some (λ no_row. let f : states_from (first ns x) [] levels set [] ≡ false = empty_states levels (first ns x) [] set own no_row [] in absurd (cc)))
