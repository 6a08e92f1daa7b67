-- What quantification over levels means.
use Rattle.std.proofs.Common.{◌≡◌, ◌≢◌, ℕ, suc, ◌<◌, ◌≤◌, ◌+◌, ◌++◌, ◌||◌, ◌⊎◌, List, [], ◌∷◌, Bool, true, false, length, take, drop, get_or, Result, Ok, Err, OnOk, refl, sym, ◌∙◌, ap, subst, arith, inl, inr, drop-cons}
use Rattle.std.proofs.lemmas.List.{ext_get_or, take_at, get_or_at, length-take-le}
use Rattle.std.proofs.lemmas.Bool.{cases_eq}
use Rattle.cov_dd.specs.Operations.{put}
use Rattle.cov_space.specs.declared.fault.SpaceFault.{SpaceFault}
use Rattle.cov_space.specs.Sets.{SpaceOf, lies, set_at}
use Rattle.cov_space.specs.Answers.{PutsSet}
use Rattle.cov_space.specs.Operations.{restriction, some_at, projection, AllBelow, Agree, IsSomeOf}
use Rattle.cov_space.specs.Steps.{smoothed}
use Rattle.cov_space.proofs.Sets.{values_same, lies_values}
use Rattle.cov_space.proofs.Rows.{get_or-put_same, get_or-put_other, length-put_below}

or_cases : (x y : Bool) → x || y ≡ true → (x ≡ true) ⊎ (y ≡ true)
or_cases true y h = inl refl
or_cases false y h = inr h

or_left : (x y : Bool) → x ≡ true → x || y ≡ true
or_left true y h = refl
or_left false y h = cc

or_right : (x y : Bool) → y ≡ true → x || y ≡ true
or_right true y h = refl
or_right false y h = h

-- one level more
pub projection_step : (levels l : ℕ) (ls : List ℕ) (s : List Bool) → l < levels → smoothed levels l (projection levels ls s) ≡ projection levels (l ∷ ls) s
projection_step levels l ls s lt =
    let p : List Bool = projection levels ls s in
    let at : (b : Bool) (row : List Bool) → length row ≡ levels → lies (restriction levels p l b) row ≡ some_at ls (lies s) (put row l b) = λ b row len.
    lies_values levels (λ r. lies p (put r l b)) row len ∙ lies_values levels (some_at ls (lies s)) (put row l b) (length-put_below levels row l b len lt) in
    values_same levels (λ row. lies (restriction levels p l false) row || lies (restriction levels p l true) row) (some_at (l ∷ ls) (lies s)) (λ row len.
    ap (λ x. x || lies (restriction levels p l true) row) (at false row len) ∙ ap (λ x. some_at ls (lies s) (put row l false) || x) (at true row len))

-- a row with one bit written agrees with the same rows, one more level apart
agree_more : (levels l : ℕ) (ls : List ℕ) (row other : List Bool) (b : Bool) → Agree levels ls (put row l b) other → Agree levels (l ∷ ls) row other
agree_more levels l ls row other b agree = record {
  long = agree.long;
  same = λ k lt miss. let ne : k ≢ l = λ e. miss (inl (sym e)) in agree.same k lt (λ named. miss (inr named)) ∙ get_or-put_other row l k b ne;
}

agree_less : (levels l : ℕ) (ls : List ℕ) (row other : List Bool) → Agree levels (l ∷ ls) row other → Agree levels ls (put row l (get_or other l false)) other
agree_less levels l ls row other agree = record {
  long = agree.long;
  same = λ k lt miss. elim (cases_eq k l) [
    | inl e ↦ ap (λ i. get_or other i false) e ∙ sym (get_or-put_same row l (get_or other l false)) ∙ ap (λ i. get_or (put row l (get_or other l false)) i false) (sym e)
    | inr ne ↦ agree.same k lt (λ named. elim named [ inl e ↦ ne (sym e) | inr rest ↦ miss rest ]) ∙ sym (get_or-put_other row l k (get_or other l false) ne)
  ];
}

pub some_to : (levels : ℕ) (ls : List ℕ) (test : List Bool → Bool) (row : List Bool) → AllBelow levels ls → length row ≡ levels → some_at ls test row ≡ true → (other : List Bool) × Agree levels ls row other × (test other ≡ true)
some_to levels [] test row below len h = (row, record { long = len; same = λ k lt miss. refl }, h)
some_to levels (l ∷ ls) test row below len h =
    let lt : l < levels = below 0 (omega arith) in
    let pick : (b : Bool) → some_at ls test (put row l b) ≡ true → (other : List Bool) × Agree levels (l ∷ ls) row other × (test other ≡ true) = λ b at.
    let (other, agree, is) = some_to levels ls test (put row l b) (λ k k_lt. below (suc k) (omega arith)) (length-put_below levels row l b len lt) at in
    (other, agree_more levels l ls row other b agree, is) in
    elim (or_cases (some_at ls test (put row l false)) (some_at ls test (put row l true)) h) [ inl at ↦ pick false at | inr at ↦ pick true at ]

some_by : (l : ℕ) (ls : List ℕ) (test : List Bool → Bool) (row : List Bool) (b : Bool) → some_at ls test (put row l b) ≡ true → some_at (l ∷ ls) test row ≡ true
some_by l ls test row false h = or_left (some_at ls test (put row l false)) (some_at ls test (put row l true)) h
some_by l ls test row true h = or_right (some_at ls test (put row l false)) (some_at ls test (put row l true)) h

pub some_from : (levels : ℕ) (ls : List ℕ) (test : List Bool → Bool) (row other : List Bool) → AllBelow levels ls → length row ≡ levels → Agree levels ls row other → test other ≡ true → some_at ls test row ≡ true
some_from levels [] test row other below len agree h =
    let long : length other ≡ levels = agree.long in
    let same : other ≡ row = ext_get_or false other row (omega arith) (λ i lt. agree.same i (omega arith) (λ named. named)) in
    ap test (sym same) ∙ h
some_from levels (l ∷ ls) test row other below len agree h =
    let lt : l < levels = below 0 (omega arith) in
    some_by l ls test row (get_or other l false)
    (some_from levels ls test (put row l (get_or other l false)) other (λ k k_lt. below (suc k) (omega arith)) (length-put_below levels row l (get_or other l false) len lt) (agree_less levels l ls row other agree) h)

pub projection_exact : (levels : ℕ) (ls : List ℕ) (s : List Bool) → AllBelow levels ls → IsSomeOf levels ls s (projection levels ls s)
projection_exact levels ls s below row len =
    let is : lies (projection levels ls s) row ≡ some_at ls (lies s) row = lies_values levels (some_at ls (lies s)) row len in (
      (λ h. some_to levels ls (lies s) row below len (sym is ∙ h)),
      (λ w. is ∙ some_from levels ls (lies s) row w.0 below len w.1 w.2),
    )

-- one turn of a loop over the levels, from the last one
pub projection_turn : (s0 s new : SpaceOf) (n i : ℕ) (ls : List ℕ) (x : List Bool) → length s0.sets ≡ n + 1 → suc i ≤ length ls → get_or ls i 0 < s0.levels
    → s ≡ record s0 { sets = take n s0.sets ++ projection s0.levels (drop (suc i) ls) x ∷ [] }
    → new ≡ record s { sets = take n s.sets ++ smoothed s.levels (get_or ls i 0) (set_at s.sets n) ∷ [] }
    → new ≡ record s0 { sets = take n s0.sets ++ projection s0.levels (drop i ls) x ∷ [] }
projection_turn s0 s new n i ls x count within below is e =
    let len : length (take n s0.sets) ≡ n = length-take-le n s0.sets (omega arith) in
    let p : List Bool = projection s0.levels (drop (suc i) ls) x in
    let front : take n s.sets ≡ take n s0.sets = ap (λ (z : SpaceOf). take n z.sets) is ∙ take_at (take n s0.sets) (p ∷ []) n len in
    let last : set_at s.sets n ≡ p = ap (λ (z : SpaceOf). set_at z.sets n) is ∙ get_or_at (take n s0.sets) p [] [] n len in
    let rest : drop i ls ≡ get_or ls i 0 ∷ drop (suc i) ls = drop-cons ls i 0 (omega arith) in
    e
    ∙ ap (λ (y : List (List Bool)). record s { sets = y ++ smoothed s.levels (get_or ls i 0) (set_at s.sets n) ∷ [] }) front
    ∙ ap (λ (y : List Bool). record s { sets = take n s0.sets ++ smoothed s.levels (get_or ls i 0) y ∷ [] }) last
    ∙ ap (λ (z : SpaceOf). record z { sets = take n s0.sets ++ smoothed z.levels (get_or ls i 0) p ∷ [] }) is
    ∙ ap (λ (y : List Bool). record s0 { sets = take n s0.sets ++ y ∷ [] }) (projection_step s0.levels (get_or ls i 0) (drop (suc i) ls) x below ∙ ap (λ (y : List ℕ). projection s0.levels y x) (sym rest))

-- the set that was put last is exactly the projection
pub exact_last : (res : Result Unit SpaceFault) (s0 s : SpaceOf) (ls : List ℕ) (x : List Bool) → AllBelow s0.levels ls → OnOk res (PutsSet s0 s (projection s0.levels ls x)) → OnOk res (IsSomeOf s0.levels ls x (set_at s.sets (length s0.sets)))
exact_last (Err e) s0 s ls x below p = tt
exact_last (Ok y) s0 s ls x below p =
    let at : set_at s.sets (length s0.sets) ≡ projection s0.levels ls x = ap (λ (z : SpaceOf). set_at z.sets (length s0.sets)) p.is ∙ get_or_at s0.sets (projection s0.levels ls x) [] [] (length s0.sets) refl in
    subst (λ (y : List Bool). IsSomeOf s0.levels ls x y) (sym at) (projection_exact s0.levels ls x below)
