-- The sets of the DEFINEs, one after the other.
use Rattle.std.proofs.Common.{◌≡◌, ℕ, zero, suc, ◌+◌, ◌<◌, ◌≤◌, ◌==◌, Bool, false, ◌&&◌, IsTrue, ◌⊎◌, inl, inr, List, [], ◌∷◌, ◌++◌, length, take, drop, sum_by, Option, Some, None, refl, sym, ap, subst, ◌∙◌, arith, length-append, Result, Ok, Err, OnOk, IfErr, is_err}
use Rattle.std.specs.Prelude.{slice_get, IsSome}
use Rattle.std.specs.List.{list_all}
use Rattle.std.specs.Option.{option_map_or}
use Rattle.std.proofs.lemmas.Bool.{cases_lt}
use Rattle.std.proofs.lemmas.List.{take-append-drop}
use Rattle.std.proofs.lemmas.List.Sums.{sum_by-append, sum_by-cons}
use Rattle.std.proofs.lemmas.Option.{get_or_from_slice_get}
use Rattle.std.proofs.Math.Seq.{take-suc}
use Rattle.cov_model.specs.declared.model.Define.{Define}
use Rattle.cov_model.specs.declared.model.Model.{Model}
use Rattle.cov_model.specs.declared.model.Signal.{Signal}
use Rattle.cov_model.specs.Order.{has}
use Rattle.cov_model.specs.Settled.{kinds_of}
use Rattle.cov_model.specs.Walk.{own}
use Rattle.cov_model.proofs.Joins.{or_left, or_right}
use Rattle.cov_model.proofs.Joined.{and_split, and_join}
use Rattle.cov_types.specs.Roots.{define_sets, sets_of}
use Rattle.cov_space.specs.declared.layer.Layer.{Layer}
use Rattle.cov_space.specs.Sets.{HasRoom, SpaceOf}
use Rattle.cov_space.proofs.Calls.{more_trans}
use Rattle.cov_nodes.specs.declared.defined.Standing as standing
use Rattle.cov_nodes.specs.Standing.{IsStanding, has_entry}
use Rattle.cov_conditions.specs.Bodies.{HaveEntries, PutsDefines, PutsEntry, sets_at}
use Rattle.cov_conditions.specs.Marks.{are_marked, is_marked}
use Rattle.cov_conditions.proofs.Standings.{standing_more}

abbrev Entries : Type 0
Entries = List (Option standing.Standing)

-- ---- what a body reads

same_number : (x : ℕ) → IsTrue (x == x)
same_number x = grind arith

-- a DEFINE that is marked reads such as have entries
pub reads_stand : (marks : List Bool) (here there : Entries) (i : ℕ) (js : List ℕ) → HaveEntries marks i here → HaveEntries marks i there → IsTrue (are_marked marks js) → ((j : ℕ) → IsTrue (has js j) → j < i)
    → IsTrue (list_all (λ j. has_entry here j && has_entry there j) js)
reads_stand marks here there i [] h t m e = refl
reads_stand marks here there i (j ∷ js) h t m e =
    let s = and_split (is_marked marks j) (are_marked marks js) m in
    let lt : j < i = e j (or_left (j == j) (has js j) (same_number j)) in
    and_join (has_entry here j && has_entry there j) (list_all (λ j. has_entry here j && has_entry there j) js)
    (and_join (has_entry here j) (has_entry there j) (h j lt s.0) (t j lt s.0))
    (reads_stand marks here there i js h t s.1 (λ k r. e k (or_right (j == k) (has js k) r)))

-- ---- entries

entry_at : (xs : Entries) (e : Option standing.Standing) (j : ℕ) (d : standing.Standing) → slice_get (xs ++ e ∷ []) j ≡ Some (Some d) → (slice_get xs j ≡ Some (Some d)) ⊎ ((j ≡ length xs) × (e ≡ Some d))
entry_at [] e zero d h = inr (refl, cc)
entry_at [] e (suc j) d h = cc
entry_at (x ∷ xs) e zero d h = inl h
entry_at (x ∷ xs) e (suc j) d h = elim (entry_at xs e j d h) [ inl k ↦ inl k | inr k ↦ inr (ap suc k.0, k.1) ]

entry_kept : (xs : Entries) (e : Option standing.Standing) (j : ℕ) → IsTrue (has_entry xs j) → IsTrue (has_entry (xs ++ e ∷ []) j)
entry_kept [] e j h = cc
entry_kept (x ∷ xs) e zero h = h
entry_kept (x ∷ xs) e (suc j) h = entry_kept xs e j h

entry_last : (xs : Entries) (d : standing.Standing) → IsTrue (has_entry (xs ++ Some d ∷ []) (length xs))
entry_last [] d = refl
entry_last (x ∷ xs) d = entry_last xs d

entry_there : (xs : Entries) (e : Option standing.Standing) (j : ℕ) → j ≡ length xs → IsSome e → IsTrue (has_entry (xs ++ e ∷ []) j)
entry_there xs (Some d) j is some = subst (λ k. IsTrue (has_entry (xs ++ Some d ∷ []) k)) (sym is) (entry_last xs d)
entry_there xs None j is some = cc

-- ---- how many sets

abbrev sets_for : Model → Define → ℕ
sets_for m d = sets_of (own (kinds_of m) d.body)

sets_here : (m : Model) (i : ℕ) (d : Define) → slice_get m.defines i ≡ Some d → sets_at m i ≡ sets_for m d
sets_here m i d at = ap (λ (o : Option Define). option_map_or (sets_for m) o 0) at

sum_one : (m : Model) (d : Define) → sum_by (sets_for m) (d ∷ []) ≡ sets_for m d
sum_one m d = sum_by-cons (sets_for m) d [] ∙ plain (sets_for m d)
  where
    plain : (n : ℕ) → n + 0 ≡ n
    plain n = omega arith

sets_next : (m : Model) (i : ℕ) (d : Define) → slice_get m.defines i ≡ Some d → i < length m.defines → define_sets (kinds_of m) (take (i + 1) m.defines) ≡ define_sets (kinds_of m) (take i m.defines) + sets_at m i
sets_next m i d at lt =
    ap (λ n. define_sets (kinds_of m) (take n m.defines)) next
    ∙ ap (define_sets (kinds_of m)) (take-suc m.defines i d lt ∙ ap (λ (x : Define). take i m.defines ++ x ∷ []) (get_or_from_slice_get m.defines i d d at))
    ∙ sum_by-append (sets_for m) (take i m.defines) (d ∷ [])
    ∙ ap (λ n. define_sets (kinds_of m) (take i m.defines) + n) (sum_one m d ∙ sym (sets_here m i d at))
  where
    next : i + 1 ≡ suc i
    next = omega arith

sets_part : (m : Model) (n : ℕ) → define_sets (kinds_of m) (take n m.defines) ≤ define_sets (kinds_of m) m.defines
sets_part m n =
    let e : define_sets (kinds_of m) m.defines ≡ define_sets (kinds_of m) (take n m.defines) + define_sets (kinds_of m) (drop n m.defines) =
    ap (define_sets (kinds_of m)) (sym (take-append-drop n m.defines)) ∙ sum_by-append (sets_for m) (take n m.defines) (drop n m.defines) in
    omega (arith, e)

pub define_at : (ds : List Define) (i : ℕ) → i < length ds → (d : Define) × (slice_get ds i ≡ Some d)
define_at [] i lt = absurd (omega arith)
define_at (d ∷ ds) zero lt = (d, refl)
define_at (d ∷ ds) (suc i) lt = define_at ds i (omega arith)

-- the sets so far, and those of one more
pub sets_room : (m : Model) (i count : ℕ) → i < length m.defines → count ≤ define_sets (kinds_of m) (take i m.defines) → count + sets_at m i ≤ define_sets (kinds_of m) m.defines
sets_room m i count lt le =
    let at = define_at m.defines i lt in
    let e = sets_next m i at.0 at.1 lt in
    let p = sets_part m (i + 1) in
    omega (arith, e, p)

-- ---- one after the other

pub record Gathered (old s : SpaceOf) (m : Model) (layer : Layer) (flip : Option Signal) (marks : List Bool) (i : ℕ) (entries : Entries) : Type 0 where
  pub puts : PutsDefines old s m layer flip marks i entries (define_sets (kinds_of m) (take i m.defines))
  pub count : length entries ≡ i

pub gathers_turn : (old s new : SpaceOf) (m : Model) (layer : Layer) (flip : Option Signal) (marks : List Bool) (i : ℕ) (entries : Entries) (e : Option standing.Standing) (d : Define) → slice_get m.defines i ≡ Some d → i < length m.defines
    → Gathered old s m layer flip marks i entries → PutsEntry s new m layer flip marks i e → Gathered old new m layer flip marks (i + 1) (entries ++ e ∷ [])
gathers_turn old s new m layer flip marks i entries e d at lt g p = record {
  puts = record {
    more = g.puts.more ++ p.more;
    is = more_trans old s new g.puts.more p.more g.puts.is p.is;
    few = let n = length-append g.puts.more p.more in let a = g.puts.few in let b = p.few in let s = sets_next m i d at lt in omega (arith, n, a, b, s);
    stand = λ j x h. elim (entry_at entries e j x h) [
      | inl k ↦ standing_more s new p.more m layer flip entries p.is g.puts.stand j x k
      | inr k ↦ subst (λ n. IsStanding new m layer flip n x) (sym (k.0 ∙ g.count)) (p.stands x k.1)
    ];
    there = λ j below h. elim (cases_lt j i) [
      | inl le ↦ entry_kept entries e j (g.puts.there j le h)
      | inr ge ↦ here j (omega arith) h
    ];
  };
  count = let n = length-append entries (e ∷ []) in let c = g.count in omega (arith, n, c);
}
  where
    here : (j : ℕ) → j ≡ i → IsTrue (is_marked marks j) → IsTrue (has_entry (entries ++ e ∷ []) j)
    here j same h = entry_there entries e j (same ∙ sym g.count) (p.there (subst (λ n. IsTrue (is_marked marks n)) same h))

-- the room for one more
pub room_left : (old s : SpaceOf) (m : Model) (layer : Layer) (flip : Option Signal) (marks : List Bool) (i : ℕ) (entries : Entries) (room : ℕ) → i < length m.defines → Gathered old s m layer flip marks i entries
    → HasRoom old (define_sets (kinds_of m) m.defines + room) → HasRoom s (sets_at m i + room)
room_left old s m layer flip marks i entries room lt g has =
    let n : length s.sets ≡ length old.sets + length g.puts.more = ap (λ (z : SpaceOf). length z.sets) g.puts.is ∙ length-append old.sets g.puts.more in
    let p : s.places ≡ old.places = ap (λ (z : SpaceOf). z.places) g.puts.is in
    let r : length g.puts.more + sets_at m i ≤ define_sets (kinds_of m) m.defines = sets_room m i (length g.puts.more) lt g.puts.few in
    omega arith

pub not_failed : {E : Type 0} (res : Result Unit E) (b : Bool) (P : Type 0) → b ≡ is_err res → b ≡ false → OnOk res P → P
not_failed (Ok x) b P e f p = p
not_failed (Err x) b P e f p = cc

-- the exit of a `?`
pub err_exit : {X E : Type 0} (res : Result X E) (e : E) (P : E → Type 0) → res ≡ Err e → P e → IfErr res P
err_exit (Ok x) e P is p = tt
err_exit (Err f) e P is p = let same : f ≡ e = cc in subst P (sym same) p
