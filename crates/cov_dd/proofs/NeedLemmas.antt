use Rattle.std.proofs.Common.{◌≡◌, ◌≢◌, ℕ, zero, suc, ◌<◌, ◌≤◌, ◌+◌, ◌-◌, ◌++◌, List, [], ◌∷◌, Bool, true, false, length, map, take, drop, get_or, set, replicate, refl, sym, ◌∙◌, ap, subst, arith, length-append, length-drop, append_assoc, inl, inr}
use Rattle.std.proofs.lemmas.List.{drop_at, drop-set, get_or-append_right, get_or-drop, get_or_append_left, get_or_push, length_push, length-replicate, length-set, take_more, take_all}
use Rattle.std.proofs.lemmas.List.FromFn.{length-map-range_with_len, get_or-map-range_with_len}
use Rattle.std.specs.List.{range_with_len}
use Rattle.std.proofs.lemmas.Bool.{cases_lt, cases_order}
use Rattle.cov_dd.specs.declared.node.Ref.{Ref}
use Rattle.cov_dd.specs.declared.node.Ref.TheVariants.{Constant, Inner}
use Rattle.cov_dd.specs.declared.node.Part.{Part}
use Rattle.cov_dd.specs.Nodes.{TableOf, node_at, rank, level_of, den, IsPlaced, IsTable, SameFunction}
use Rattle.cov_dd.specs.Cofactors.{IsCofactor, IsMissing, SplitsAt}
use Rattle.cov_dd.specs.Need.{values, IsNeeded, NeedMoreThan}
use Rattle.cov_dd.proofs.Diagrams.{den_by_agree}
use Rattle.cov_dd.proofs.Canonical.{canonical, den_low, den_high}
use Rattle.cov_dd.proofs.Splitting.{split_at, split_skip}
use Rattle.cov_dd.proofs.Values.{values_same, values_at, values_split, halves_same}
use Rattle.cov_dd.proofs.Pigeonhole.{pigeonhole}

-- clear bits, and then the rest of a row
abbrev pub cleared : ℕ → List Bool → List Bool
cleared k rest = replicate k false ++ rest

get_or-cleared : (k : ℕ) (row : List Bool) (j : ℕ) → k ≤ j → get_or (cleared k (drop k row)) j false ≡ get_or row j false
get_or-cleared k row j le =
    get_or-append_right (replicate k false) (drop k row) k j false (length-replicate k false) le
    ∙ get_or-drop k row (j - k) false
    ∙ ap (λ n. get_or row n false) (omega arith)

-- the bits below the level of a diagram may be cleared
pub den_cleared : (levels : ℕ) (nodes : List Part) → IsTable levels nodes → (r : Ref) → rank r ≤ length nodes → (k : ℕ) → k ≤ level_of levels nodes r → (row : List Bool) → den nodes r (cleared k (drop k row)) ≡ den nodes r row
den_cleared levels nodes t r live k le row =
    den_by_agree levels nodes t (cleared k (drop k row)) row (rank r) r live (λ j above. get_or-cleared k row j (omega arith))

length-rest : (levels k : ℕ) (row : List Bool) → length row ≡ levels → length (drop k row) ≡ levels - k
length-rest levels k row len = omega (arith, length-drop k row)

-- the pair for which a node stands
abbrev pub pair_of : ℕ → List Part → ℕ → ℕ × List Bool
pair_of levels nodes i = ((node_at nodes i).level, values (levels - (node_at nodes i).level) (λ rest. den nodes (Inner i) (cleared (node_at nodes i).level rest)))

-- what a diagram is after bits of its own level
den_at_values : (levels : ℕ) (nodes : List Part) → IsTable levels nodes → (i : ℕ) → i < length nodes → (g : List Bool → Bool) → values (levels - (node_at nodes i).level) (λ rest. den nodes (Inner i) (cleared (node_at nodes i).level rest)) ≡ values (levels - (node_at nodes i).level) g
    → (row : List Bool) → length row ≡ levels → den nodes (Inner i) row ≡ g (drop (node_at nodes i).level row)
den_at_values levels nodes t i within g same row len =
    sym (den_cleared levels nodes t (Inner i) (omega arith) (node_at nodes i).level (omega arith) row)
    ∙ values_at (levels - (node_at nodes i).level) (λ rest. den nodes (Inner i) (cleared (node_at nodes i).level rest)) g same (drop (node_at nodes i).level row) (length-rest levels (node_at nodes i).level row len)

-- different nodes stand for different pairs
pub pair_distinct : (levels : ℕ) (nodes : List Part) → IsTable levels nodes → (i j : ℕ) → i < length nodes → j < length nodes → pair_of levels nodes i ≡ pair_of levels nodes j → i ≡ j
pair_distinct levels nodes t i j within within' e =
    let level : (node_at nodes i).level ≡ (node_at nodes j).level = ap (λ (p : ℕ × List Bool). p.0) e in
    let listed : values (levels - (node_at nodes i).level) (λ rest. den nodes (Inner i) (cleared (node_at nodes i).level rest)) ≡ values (levels - (node_at nodes j).level) (λ rest. den nodes (Inner j) (cleared (node_at nodes j).level rest)) = ap (λ (p : ℕ × List Bool). p.1) e in
    let listed' : values (levels - (node_at nodes i).level) (λ rest. den nodes (Inner i) (cleared (node_at nodes i).level rest)) ≡ values (levels - (node_at nodes i).level) (λ rest. den nodes (Inner j) (cleared (node_at nodes j).level rest)) =
    listed ∙ ap (λ k. values (levels - k) (λ rest. den nodes (Inner j) (cleared (node_at nodes j).level rest))) (sym level) in
    let same : SameFunction levels nodes (Inner i) (Inner j) = λ row len.
    den_at_values levels nodes t i within (λ rest. den nodes (Inner j) (cleared (node_at nodes j).level rest)) listed' row len
    ∙ ap (λ k. den nodes (Inner j) (cleared (node_at nodes j).level (drop k row))) level
    ∙ den_cleared levels nodes t (Inner j) (omega arith) (node_at nodes j).level (omega arith) row in
    let e' : Inner i ≡ Inner j = canonical levels nodes t (Inner i) (Inner j) (omega arith) (omega arith) same in
    let n : suc i ≡ suc j = ap rank e' in
    omega arith

-- a row whose bit at a level is given, behind that level
row_from : (k : ℕ) (b : Bool) (row : List Bool) → k < length row → drop k (set row k b) ≡ b ∷ drop (k + 1) row
row_from k b row lt = drop-set row k b lt

-- a node depends on the bit of its level
pub pair_depends : (levels : ℕ) (nodes : List Part) → IsTable levels nodes → (i : ℕ) → i < length nodes → (half : List Bool) → (pair_of levels nodes i).1 ≢ half ++ half
pair_depends levels nodes t i within half e =
    let placed : IsPlaced levels nodes i = t.placed i within in
    let low : rank (node_at nodes i).low ≤ i = placed.low_before in
    let high : rank (node_at nodes i).high ≤ i = placed.high_before in
    let k : ℕ = (node_at nodes i).level in
    let below : (node_at nodes i).level < levels = placed.level in
    let m : ℕ = levels - suc (node_at nodes i).level in
    let width : levels - (node_at nodes i).level ≡ suc m = omega arith in
    let e' : values (suc m) (λ rest. den nodes (Inner i) (cleared k rest)) ≡ half ++ half = ap (λ n. values n (λ rest. den nodes (Inner i) (cleared k rest))) (sym width) ∙ e in
    let bit : (r : List Bool) → length r ≡ m → den nodes (Inner i) (cleared k (false ∷ r)) ≡ den nodes (Inner i) (cleared k (true ∷ r)) = halves_same m (λ rest. den nodes (Inner i) (cleared k rest)) half e' in
    placed.reduced (canonical levels nodes t (node_at nodes i).low (node_at nodes i).high (omega arith) (omega arith) (λ row len.
    let room : k < length row = omega arith in
    den_low levels nodes t i within row len
    ∙ sym (den_cleared levels nodes t (Inner i) (omega arith) k (omega arith) (set row k false))
    ∙ ap (λ x. den nodes (Inner i) (cleared k x)) (row_from k false row room)
    ∙ bit (drop (k + 1) row) (omega (arith, length-drop (k + 1) row))
    ∙ ap (λ x. den nodes (Inner i) (cleared k x)) (sym (row_from k true row room))
    ∙ den_cleared levels nodes t (Inner i) (omega arith) k (omega arith) (set row k true)
    ∙ sym (den_high levels nodes t i within row len)))

-- a node that stands for a cofactor of one of the functions stands for a needed pair
pub pair_needed : (levels : ℕ) (nodes : List Part) → IsTable levels nodes → (functions : List (List Bool → Bool)) (i of : ℕ) → i < length nodes → of < length functions
    → IsCofactor levels (get_or functions of (λ _. false)) (node_at nodes i).level (den nodes (Inner i)) → IsNeeded levels functions (pair_of levels nodes i)
pair_needed levels nodes t functions i of within lt cofactor =
    let below : (node_at nodes i).level < levels = (t.placed i within).level in
    record {
      level = below;
      first = cofactor.first;
      bits = cofactor.bits;
      of = of;
      within = lt;
      is = values_same _ _ _ (λ rest len.
          let zeros : length (replicate (node_at nodes i).level false) ≡ (node_at nodes i).level = length-replicate (node_at nodes i).level false in
          let whole : length (cleared (node_at nodes i).level rest) ≡ levels = omega (arith, length-append (replicate (node_at nodes i).level false) rest) in
          cofactor.same (cleared (node_at nodes i).level rest) whole
          ∙ ap (λ x. get_or functions of (λ _. false) (cofactor.first ++ x)) (drop_at (replicate (node_at nodes i).level false) rest (length cofactor.first) (zeros ∙ sym cofactor.bits)));
      depends = pair_depends levels nodes t i within;
    }

-- the pair of which the node is missing
abbrev pub missing_pair : (t : TableOf) (top : ℕ) (function : List Bool → Bool) → IsMissing t top function → ℕ × List Bool
missing_pair t top function m = (length m.first, values (t.levels - length m.first) (λ rest. function (m.first ++ rest)))

pub missing_needed : (t : TableOf) (top : ℕ) (functions : List (List Bool → Bool)) (of : ℕ) → of < length functions → (m : IsMissing t top (get_or functions of (λ _. false))) → IsNeeded t.levels functions (missing_pair t top _ m)
missing_needed t top functions of lt m = record {
  level = m.level;
  first = m.first;
  bits = refl;
  of = of;
  within = lt;
  is = refl;
  depends = λ half e.
      let below : length m.first < t.levels = m.level in
      let n : ℕ = t.levels - suc (length m.first) in
      let width : t.levels - length m.first ≡ suc n = omega arith in
      let f : List Bool → Bool = get_or functions of (λ _. false) in
      let bit : (r : List Bool) → length r ≡ n → f (m.first ++ false ∷ r) ≡ f (m.first ++ true ∷ r) = halves_same n (λ rest. f (m.first ++ rest)) half (ap (λ w. values w (λ rest. f (m.first ++ rest))) (sym width) ∙ e) in
      m.depends (λ row len.
      let room : length m.first < length row = omega arith in
      ap (λ x. f (m.first ++ x)) (row_from (length m.first) false row room)
      ∙ bit (drop (length m.first + 1) row) (omega (arith, length-drop (length m.first + 1) row))
      ∙ ap (λ x. f (m.first ++ x)) (sym (row_from (length m.first) true row room)));
}

pub missing_differs : (t : TableOf) (top : ℕ) (function : List Bool → Bool) → IsTable t.levels t.nodes → (m : IsMissing t top function) → (i : ℕ) → i < length t.nodes → pair_of t.levels t.nodes i ≢ missing_pair t top function m
missing_differs t top function table m i within e =
    let level : (node_at t.nodes i).level ≡ length m.first = ap (λ (p : ℕ × List Bool). p.0) e in
    let listed : values (t.levels - (node_at t.nodes i).level) (λ rest. den t.nodes (Inner i) (cleared (node_at t.nodes i).level rest)) ≡ values (t.levels - length m.first) (λ rest. function (m.first ++ rest)) = ap (λ (p : ℕ × List Bool). p.1) e in
    m.absent i within level (λ row len.
    den_at_values t.levels t.nodes table i within (λ rest. function (m.first ++ rest)) (listed ∙ ap (λ k. values (t.levels - k) (λ rest. function (m.first ++ rest))) (sym level)) row len
    ∙ ap (λ k. function (m.first ++ drop k row)) level)

-- a fact at each place of a list with one more element
at_push : {X : Type 0} (d : X) (P : X → Type 0) (xs : List X) (x : X) → ((i : ℕ) → i < length xs → P (get_or xs i d)) → P x → (i : ℕ) → i < length (xs ++ x ∷ []) → P (get_or (xs ++ x ∷ []) i d)
at_push d P xs x each last i lt =
    elim (cases_lt i (length xs)) [
      | inl below ↦ subst P (sym (get_or_append_left xs (x ∷ []) d i below)) (each i below)
      | inr le ↦ subst P (sym (get_or_push xs x d i (omega (arith, length_push xs x)))) last
    ]

distinct_push : {X : Type 0} (d : X) (xs : List X) (x : X) → ((i j : ℕ) → i < length xs → j < length xs → get_or xs i d ≡ get_or xs j d → i ≡ j) → ((i : ℕ) → i < length xs → get_or xs i d ≢ x)
    → (i j : ℕ) → i < length (xs ++ x ∷ []) → j < length (xs ++ x ∷ []) → get_or (xs ++ x ∷ []) i d ≡ get_or (xs ++ x ∷ []) j d → i ≡ j
distinct_push d xs x distinct new i j li lj e =
    elim (cases_lt i (length xs)) [
      | inl bi ↦ elim (cases_lt j (length xs)) [
        | inl bj ↦ distinct i j bi bj (sym (get_or_append_left xs (x ∷ []) d i bi) ∙ e ∙ get_or_append_left xs (x ∷ []) d j bj)
        | inr aj ↦ absurd (new i bi (sym (get_or_append_left xs (x ∷ []) d i bi) ∙ e ∙ get_or_push xs x d j (omega (arith, length_push xs x))))
      ]
      | inr ai ↦ elim (cases_lt j (length xs)) [
        | inl bj ↦ absurd (new j bj (sym (get_or_append_left xs (x ∷ []) d j bj) ∙ sym e ∙ get_or_push xs x d i (omega (arith, length_push xs x))))
        | inr aj ↦ omega (arith, length_push xs x)
      ]
    ]

-- the pairs of all nodes
abbrev pub pairs_of : ℕ → List Part → List (ℕ × List Bool)
pairs_of levels nodes = map (pair_of levels nodes) (range_with_len 0 (length nodes))

length-pairs_of : (levels : ℕ) (nodes : List Part) → length (pairs_of levels nodes) ≡ length nodes
length-pairs_of levels nodes = length-map-range_with_len (pair_of levels nodes) 0 (length nodes)

get_or-pairs_of : (levels : ℕ) (nodes : List Part) (i : ℕ) → i < length nodes → get_or (pairs_of levels nodes) i (0, []) ≡ pair_of levels nodes i
get_or-pairs_of levels nodes i lt = get_or-map-range_with_len (pair_of levels nodes) 0 (length nodes) i i (0, []) lt (omega arith)

-- Where each node stands for a cofactor of one of the functions, and a node is missing for one of them, the functions need more nodes than stand.
pub need_more_at_full : (t : TableOf) (top : ℕ) (functions : List (List Bool → Bool)) (of : ℕ) → IsTable t.levels t.nodes
    → ((i : ℕ) → i < length t.nodes → (k : ℕ) × (k < length functions) × IsCofactor t.levels (get_or functions k (λ _. false)) (node_at t.nodes i).level (den t.nodes (Inner i)))
    → of < length functions → IsMissing t top (get_or functions of (λ _. false)) → NeedMoreThan t.levels functions (length t.nodes)
need_more_at_full t top functions of table each lt m =
    let len : length (pairs_of t.levels t.nodes) ≡ length t.nodes = length-pairs_of t.levels t.nodes in (
      pairs_of t.levels t.nodes ++ missing_pair t top _ m ∷ [],
      omega (arith, length_push (pairs_of t.levels t.nodes) (missing_pair t top _ m)),
      record {
        each = at_push (0, []) (IsNeeded t.levels functions) (pairs_of t.levels t.nodes) (missing_pair t top _ m)
            (λ i below. let within : i < length t.nodes = omega arith in
            subst (IsNeeded t.levels functions) (sym (get_or-pairs_of t.levels t.nodes i within)) (pair_needed t.levels t.nodes table functions i (each i within).0 within (each i within).1 (each i within).2))
            (missing_needed t top functions of lt m);
        distinct = distinct_push (0, []) (pairs_of t.levels t.nodes) (missing_pair t top _ m)
            (λ i j bi bj e. pair_distinct t.levels t.nodes table i j (omega arith) (omega arith) (sym (get_or-pairs_of t.levels t.nodes i (omega arith)) ∙ e ∙ get_or-pairs_of t.levels t.nodes j (omega arith)))
            (λ i below e. missing_differs t top _ table m i (omega arith) (sym (get_or-pairs_of t.levels t.nodes i (omega arith)) ∙ e));
      },
    )

-- ---- the other direction

-- where a walk along fixed bits leads
pub record Walked (levels : ℕ) (nodes : List Part) (r : Ref) (first : List Bool) (k : ℕ) : Type 0 where
  pub to : Ref
  pub live : rank to ≤ length nodes
  pub level : k ≤ level_of levels nodes to
  pub same : (row : List Bool) → length row ≡ levels → den nodes to row ≡ den nodes r (take k first ++ drop k row)

-- the fixed bits and one more
one_more : (first row : List Bool) (k : ℕ) (b : Bool) → k < length first → k < length row → get_or first k false ≡ b → take k first ++ drop k (set row k b) ≡ take (suc k) first ++ drop (suc k) row
one_more first row k b lt room bit =
    let next : k + 1 ≡ suc k = omega arith in
    let more : take (suc k) first ≡ take k first ++ get_or first k false ∷ [] = ap (λ n. take n first) (sym next) ∙ take_more first k false lt in
    let behind : drop k (set row k b) ≡ b ∷ drop (suc k) row = row_from k b row room ∙ ap (λ n. b ∷ drop n row) next in
    ap (λ x. take k first ++ x) behind
    ∙ sym (append_assoc (take k first) (b ∷ []) (drop (suc k) row))
    ∙ ap (λ x. (take k first ++ x ∷ []) ++ drop (suc k) row) (sym bit)
    ∙ ap (λ x. x ++ drop (suc k) row) (sym more)

step_by : (t : TableOf) (r : Ref) (first : List Bool) (k : ℕ) (b : Bool) → get_or first k false ≡ b → k < length first → k < t.levels → (w : Walked t.levels t.nodes r first k) → (low high : Ref) → SplitsAt t k w.to low high → Walked t.levels t.nodes r first (suc k)
step_by t r first k true bit lt below w low high s =
    let ordered : k < level_of t.levels t.nodes high = s.below_high.ordered in
    record {
      to = high;
      live = s.below_high.live;
      level = omega arith;
      same = λ row len.
          s.splits.at_high row len ∙ w.same (set row k true) (length-set row k true ∙ len)
          ∙ ap (den t.nodes r) (one_more first row k true lt (omega arith) bit);
    }
step_by t r first k false bit lt below w low high s =
    let ordered : k < level_of t.levels t.nodes low = s.below_low.ordered in
    record {
      to = low;
      live = s.below_low.live;
      level = omega arith;
      same = λ row len.
          s.splits.at_low row len ∙ w.same (set row k false) (length-set row k false ∙ len)
          ∙ ap (den t.nodes r) (one_more first row k false lt (omega arith) bit);
    }

-- each diagram splits at a level at or above its own
pub some_split : (t : TableOf) → IsTable t.levels t.nodes → (k : ℕ) (r : Ref) → rank r ≤ length t.nodes → k ≤ level_of t.levels t.nodes r → k < t.levels → (low : Ref) × (high : Ref) × SplitsAt t k r low high
some_split t table k (Constant b) live le lt = (Constant b, Constant b, split_skip t table k (Constant b) live lt)
some_split t table k (Inner i) live le lt =
    elim (cases_order k (node_at t.nodes i).level) [
      | inl e ↦ ((node_at t.nodes i).low, (node_at t.nodes i).high, subst (λ (n : ℕ). SplitsAt t n (Inner i) (node_at t.nodes i).low (node_at t.nodes i).high) (sym e) (split_at t table i (node_at t.nodes i) (omega arith) refl))
      | inr (inl below) ↦ (Inner i, Inner i, split_skip t table k (Inner i) live below)
      | inr (inr above) ↦ absurd (omega arith)
    ]

pub walk : (t : TableOf) → IsTable t.levels t.nodes → (r : Ref) → rank r ≤ length t.nodes → (first : List Bool) (k : ℕ) → k ≤ length first → k ≤ t.levels → Walked t.levels t.nodes r first k
walk t table r live first zero le le' = record { to = r; live = live; level = omega arith; same = λ row len. refl }
walk t table r live first (suc k) le le' =
    let w : Walked t.levels t.nodes r first k = walk t table r live first k (omega arith) (omega arith) in
    let s : (low : Ref) × (high : Ref) × SplitsAt t k w.to low high = some_split t table k w.to w.live w.level (omega arith) in
    step_by t r first k (get_or first k false) refl (omega arith) (omega arith) w s.0 s.1 s.2

get_or-behind : (k : ℕ) (b : Bool) (rest : List Bool) (j : ℕ) → k < j → get_or (cleared k (b ∷ rest)) j false ≡ get_or rest (j - suc k) false
get_or-behind k b rest j lt =
    let next : j - k ≡ suc (j - suc k) = omega arith in
    get_or-append_right (replicate k false) (b ∷ rest) k j false (length-replicate k false) (omega arith)
    ∙ ap (λ n. get_or (b ∷ rest) n false) next

drop-cleared : (k : ℕ) (rest : List Bool) → drop k (cleared k rest) ≡ rest
drop-cleared k rest = drop_at (replicate k false) rest k (length-replicate k false)

length-cleared : (k : ℕ) (rest : List Bool) → length (cleared k rest) ≡ k + length rest
length-cleared k rest = let z : length (replicate k false) ≡ k = length-replicate k false in omega (arith, length-append (replicate k false) rest)

-- the function at the end of a walk does not depend on a bit above it
above_end : (t : TableOf) → IsTable t.levels t.nodes → (function : List Bool → Bool) (first : List Bool) (to : Ref) → rank to ≤ length t.nodes → length first < level_of t.levels t.nodes to → length first < t.levels
    → ((row : List Bool) → length row ≡ t.levels → den t.nodes to row ≡ function (first ++ drop (length first) row))
    → (rest : List Bool) → suc (length first + length rest) ≡ t.levels → function (first ++ false ∷ rest) ≡ function (first ++ true ∷ rest)
above_end t table function first to live above below same rest len =
    let k : ℕ = length first in
    ap (λ x. function (first ++ x)) (sym (drop-cleared k (false ∷ rest)))
    ∙ sym (same (cleared k (false ∷ rest)) (let l = length-cleared k (false ∷ rest) in omega arith))
    ∙ den_by_agree t.levels t.nodes table (cleared k (false ∷ rest)) (cleared k (true ∷ rest)) (rank to) to live (λ j le. get_or-behind k false rest j (omega arith) ∙ sym (get_or-behind k true rest j (omega arith)))
    ∙ same (cleared k (true ∷ rest)) (let l = length-cleared k (true ∷ rest) in omega arith)
    ∙ ap (λ x. function (first ++ x)) (drop-cleared k (true ∷ rest))

end_is_node : (t : TableOf) → IsTable t.levels t.nodes → (functions : List (List Bool → Bool)) (pair : ℕ × List Bool) → (n : IsNeeded t.levels functions pair) → (to : Ref) → rank to ≤ length t.nodes → length n.first ≤ level_of t.levels t.nodes to
    → ((row : List Bool) → length row ≡ t.levels → den t.nodes to row ≡ get_or functions n.of (λ _. false) (n.first ++ drop (length n.first) row))
    → (i : ℕ) × (i < length t.nodes) × (pair_of t.levels t.nodes i ≡ pair)
end_is_node t table functions pair n (Constant b) live le same =
    let bits : length n.first ≡ pair.0 = n.bits in
    let below : pair.0 < t.levels = n.level in
    let m : ℕ = t.levels - suc pair.0 in
    let width : t.levels - pair.0 ≡ suc m = omega arith in
    let f : List Bool → Bool = λ rest. get_or functions n.of (λ _. false) (n.first ++ rest) in
    absurd (n.depends (values m (λ r. f (false ∷ r)))
    (n.is ∙ ap (λ w. values w f) width ∙ values_split m f
    ∙ ap (λ x. values m (λ r. f (false ∷ r)) ++ x) (values_same m (λ r. f (true ∷ r)) (λ r. f (false ∷ r)) (λ r len.
    sym (above_end t table (get_or functions n.of (λ _. false)) n.first (Constant b) live (omega arith) (omega arith) same r (omega arith))))))
end_is_node t table functions pair n (Inner i) live le same =
    let bits : length n.first ≡ pair.0 = n.bits in
    let below : pair.0 < t.levels = n.level in
    let m : ℕ = t.levels - suc pair.0 in
    let width : t.levels - pair.0 ≡ suc m = omega arith in
    let f : List Bool → Bool = λ rest. get_or functions n.of (λ _. false) (n.first ++ rest) in
    elim (cases_lt (length n.first) (node_at t.nodes i).level) [
      | inl above ↦ absurd (n.depends (values m (λ r. f (false ∷ r)))
          (n.is ∙ ap (λ w. values w f) width ∙ values_split m f
          ∙ ap (λ x. values m (λ r. f (false ∷ r)) ++ x) (values_same m (λ r. f (true ∷ r)) (λ r. f (false ∷ r)) (λ r len.
          sym (above_end t table (get_or functions n.of (λ _. false)) n.first (Inner i) live above (omega arith) same r (omega arith))))))
      | inr at ↦
          let level : (node_at t.nodes i).level ≡ length n.first = omega arith in
          let level' : (node_at t.nodes i).level ≡ pair.0 = level ∙ bits in
          let listed : values (t.levels - (node_at t.nodes i).level) (λ rest. den t.nodes (Inner i) (cleared (node_at t.nodes i).level rest)) ≡ pair.1 =
          values_same (t.levels - (node_at t.nodes i).level) (λ rest. den t.nodes (Inner i) (cleared (node_at t.nodes i).level rest)) f (λ rest len.
          same (cleared (node_at t.nodes i).level rest) (let l = length-cleared (node_at t.nodes i).level rest in omega arith)
          ∙ ap (λ k. get_or functions n.of (λ _. false) (n.first ++ drop k (cleared (node_at t.nodes i).level rest))) (sym level)
          ∙ ap (λ x. get_or functions n.of (λ _. false) (n.first ++ x)) (drop-cleared (node_at t.nodes i).level rest))
          ∙ ap (λ k. values (t.levels - k) f) level' ∙ sym n.is in
          (i, omega arith, ap (λ k. (k, values (t.levels - (node_at t.nodes i).level) (λ rest. den t.nodes (Inner i) (cleared (node_at t.nodes i).level rest)))) level' ∙ ap (λ x. (pair.0, x)) listed)
    ]

-- a needed pair of functions that have diagrams has a node
pub needed_node : (t : TableOf) → IsTable t.levels t.nodes → (functions : List (List Bool → Bool))
    → ((k : ℕ) → k < length functions → (r : Ref) × (rank r ≤ length t.nodes) × ((row : List Bool) → length row ≡ t.levels → den t.nodes r row ≡ get_or functions k (λ _. false) row))
    → (pair : ℕ × List Bool) → IsNeeded t.levels functions pair → (i : ℕ) × (i < length t.nodes) × (pair_of t.levels t.nodes i ≡ pair)
needed_node t table functions roots pair n =
    let root = roots n.of n.within in
    let bits : length n.first ≡ pair.0 = n.bits in
    let below : pair.0 < t.levels = n.level in
    let w : Walked t.levels t.nodes root.0 n.first (length n.first) = walk t table root.0 root.1 n.first (length n.first) (omega arith) (omega arith) in
    end_is_node t table functions pair n w.to w.live w.level (λ row len.
    w.same row len ∙ ap (λ x. den t.nodes root.0 (x ++ drop (length n.first) row)) (take_all (length n.first) n.first (omega arith))
    ∙ root.2 (n.first ++ drop (length n.first) row) (omega (arith, length-append n.first (drop (length n.first) row), length-drop (length n.first) row)))

-- Functions that have diagrams need no more nodes than stand.
pub need_no_more : (t : TableOf) → IsTable t.levels t.nodes → (functions : List (List Bool → Bool))
    → ((k : ℕ) → k < length functions → (r : Ref) × (rank r ≤ length t.nodes) × ((row : List Bool) → length row ≡ t.levels → den t.nodes r row ≡ get_or functions k (λ _. false) row))
    → (count : ℕ) → NeedMoreThan t.levels functions count → count < length t.nodes
need_no_more t table functions roots count (pairs, len, needed) =
    let index : (j : ℕ) → (i : ℕ) × (j < length pairs → (i < length t.nodes) × (pair_of t.levels t.nodes i ≡ get_or pairs j (0, []))) = λ j.
    elim (cases_lt j (length pairs)) [
      | inl lt ↦ let n = needed_node t table functions roots (get_or pairs j (0, [])) (needed.each j lt) in (n.0, λ _. (n.1, n.2))
      | inr ge ↦ (0, λ lt. absurd (omega arith))
    ] in
    let le : length pairs ≤ length t.nodes = pigeonhole (length pairs) (length t.nodes) (λ j. (index j).0)
    (λ j lt. ((index j).1 lt).0)
    (λ j k lt lt' e. needed.distinct j k lt lt' (sym ((index j).1 lt).1 ∙ ap (λ i. pair_of t.levels t.nodes i) e ∙ ((index k).1 lt').1)) in
    omega arith
