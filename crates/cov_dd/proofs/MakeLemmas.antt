use Rattle.std.proofs.Common.{◌≡◌, ℕ, ◌<◌, ◌≤◌, ◌-◌, List, [], ◌∷◌, ◌++◌, Bool, true, false, cond, length, drop, get_or, set, replicate, sym, ◌∙◌, ap, subst, arith, length-append, append-nil}
use Rattle.std.proofs.lemmas.List.{get_or_at, get_or-append_right, get_or-drop, get_or-set_same, length-set, length-replicate}
use Rattle.cov_dd.specs.declared.node.Ref.{Ref}
use Rattle.cov_dd.specs.declared.node.Ref.TheVariants.{Inner}
use Rattle.cov_dd.specs.declared.node.Part.{Part}
use Rattle.cov_dd.specs.Nodes.{TableOf, no_node, node_at, rank, level_of, den, IsBelow, IsPlaced, IsTable, IsNew, chosen}
use Rattle.cov_dd.specs.Cofactors.{fixed, Computes, IsMissing}
use Rattle.cov_dd.proofs.Diagrams.{den_by_agree, cond_both}
use Rattle.cov_dd.proofs.Canonical.{canonical, den_skip, den_low, den_high, same_node}
use Rattle.cov_dd.proofs.Growth.{den_pushed}

-- nothing was added
pub computes_none : (old new : TableOf) (top : ℕ) (function : List Bool → Bool) → IsTable old.levels old.nodes → new.levels ≡ old.levels → new.budget ≡ old.budget → new.nodes ≡ old.nodes → Computes old new top function
computes_none old new top function t levels budget nodes = record {
  extends = record { levels = levels; budget = budget; more = []; nodes = nodes ∙ sym (append-nil old.nodes) };
  table = subst (λ (k : ℕ). IsTable k new.nodes) (sym levels) (subst (λ (x : List Part). IsTable old.levels x) (sym nodes) t);
  adds = record { each = λ i from to. let same : length new.nodes ≡ length old.nodes = ap length nodes in absurd (omega arith) };
}

-- the bits below the level do not matter
pub chosen_agree : (levels : ℕ) (nodes : List Part) → IsTable levels nodes → (level : ℕ) (low high : Ref) → IsBelow levels nodes level low → IsBelow levels nodes level high → (row other : List Bool) → ((k : ℕ) → level ≤ k → get_or row k false ≡ get_or other k false)
    → chosen level (den nodes low) (den nodes high) row ≡ chosen level (den nodes low) (den nodes high) other
chosen_agree levels nodes t level low high below_low below_high row other same =
    let above_low : level < level_of levels nodes low = below_low.ordered in
    let above_high : level < level_of levels nodes high = below_high.ordered in
    ap (λ b. cond b (den nodes high row) (den nodes low row)) (same level (omega arith))
    ∙ cond_both (get_or other level false) _ _ _ _
    (den_by_agree levels nodes t row other (rank high) high below_high.live (λ k le. same k (omega arith)))
    (den_by_agree levels nodes t row other (rank low) low below_low.live (λ k le. same k (omega arith)))

get_or-zeros : (level : ℕ) (row : List Bool) (k : ℕ) → level ≤ k → get_or (replicate level false ++ drop (length (replicate level false)) row) k false ≡ get_or row k false
get_or-zeros level row k le =
    let len : length (replicate level false) ≡ level = length-replicate level false in
    get_or-append_right (replicate level false) (drop (length (replicate level false)) row) level k false len le
    ∙ get_or-drop (length (replicate level false)) row (k - level) false
    ∙ ap (λ n. get_or row n false) (omega arith)

-- fixing the bits below the level changes nothing
pub fixed_zeros : (levels : ℕ) (nodes : List Part) → IsTable levels nodes → (level : ℕ) (low high : Ref) → IsBelow levels nodes level low → IsBelow levels nodes level high → (row : List Bool)
    → fixed (chosen level (den nodes low) (den nodes high)) (replicate level false) row ≡ chosen level (den nodes low) (den nodes high) row
fixed_zeros levels nodes t level low high below_low below_high row =
    chosen_agree levels nodes t level low high below_low below_high (replicate level false ++ drop (length (replicate level false)) row) row (get_or-zeros level row)

-- one node was added
pub computes_pushed : (old new : TableOf) (node : Part) → IsTable old.levels old.nodes → IsTable new.levels new.nodes → new.levels ≡ old.levels → new.budget ≡ old.budget → new.nodes ≡ old.nodes ++ node ∷ [] → IsBelow old.levels old.nodes node.level node.low → IsBelow old.levels old.nodes node.level node.high
    → Computes old new node.level (chosen node.level (den old.nodes node.low) (den old.nodes node.high))
computes_pushed old new node t t' levels budget nodes low high = record {
  extends = record { levels = levels; budget = budget; more = node ∷ []; nodes = nodes };
  table = t';
  adds = record {
    each = λ i from to.
        let len : length new.nodes ≡ length (old.nodes ++ node ∷ []) = ap length nodes in
        let last : i ≡ length old.nodes = omega (arith, length-append old.nodes (node ∷ [])) in
        let here : node_at new.nodes i ≡ node = ap (λ (x : List Part). node_at x i) nodes ∙ get_or_at old.nodes node [] no_node i (sym last) in
        let level : (node_at new.nodes i).level ≡ node.level = ap (λ (n : Part). n.level) here in (
          omega arith,
          record {
            first = replicate node.level false;
            bits = length-replicate node.level false ∙ sym level;
            same = λ row len.
                ap (λ (x : List Part). den x (Inner i) row) nodes ∙ ap (λ k. den (old.nodes ++ node ∷ []) (Inner k) row) last
                ∙ den_pushed old.levels old.nodes t node low.live high.live row
                ∙ sym (fixed_zeros old.levels old.nodes t node.level node.low node.high low high row);
          },
        );
  };
}

-- a choice at a fixed bit
pub chosen_low : (levels level : ℕ) (low high : List Bool → Bool) (row : List Bool) → level < levels → length row ≡ levels → chosen level low high (set row level false) ≡ low (set row level false)
chosen_low levels level low high row lt len =
    let room : level < length row = omega arith in
    ap (λ b. cond b (high (set row level false)) (low (set row level false))) (get_or-set_same row level false false room)

pub chosen_high : (levels level : ℕ) (low high : List Bool → Bool) (row : List Bool) → level < levels → length row ≡ levels → chosen level low high (set row level true) ≡ high (set row level true)
chosen_high levels level low high row lt len =
    let room : level < length row = omega arith in
    ap (λ b. cond b (high (set row level true)) (low (set row level true))) (get_or-set_same row level true false room)

-- where a new node is needed, its function depends on its level, and no node stands for it
pub missing_new : (t : TableOf) → IsTable t.levels t.nodes → (level : ℕ) (low high : Ref) → level < t.levels → IsBelow t.levels t.nodes level low → IsBelow t.levels t.nodes level high → IsNew t.nodes level low high
    → IsMissing t level (chosen level (den t.nodes low) (den t.nodes high))
missing_new t table level low high lt below_low below_high new =
    let function : List Bool → Bool = chosen level (den t.nodes low) (den t.nodes high) in
    let zeros : (row : List Bool) → fixed function (replicate level false) row ≡ function row = fixed_zeros t.levels t.nodes table level low high below_low below_high in
    let len-zeros : length (replicate level false) ≡ level = length-replicate level false in
    let at_low : (row : List Bool) → length row ≡ t.levels → den t.nodes low row ≡ function (set row level false) =
    λ row len. sym (den_skip t.levels t.nodes table low below_low.live level false below_low.ordered row) ∙ sym (chosen_low t.levels level (den t.nodes low) (den t.nodes high) row lt len) in
    let at_high : (row : List Bool) → length row ≡ t.levels → den t.nodes high row ≡ function (set row level true) =
    λ row len. sym (den_skip t.levels t.nodes table high below_high.live level true below_high.ordered row) ∙ sym (chosen_high t.levels level (den t.nodes low) (den t.nodes high) row lt len) in
    record {
      first = replicate level false;
      above = omega arith;
      level = omega arith;
      depends = λ same. new.differ (canonical t.levels t.nodes table low high below_low.live below_high.live (λ row len.
          at_low row len ∙ ap (λ k. function (set row k false)) (sym len-zeros)
          ∙ sym (zeros (set row (length (replicate level false)) false)) ∙ same row len ∙ zeros (set row (length (replicate level false)) true)
          ∙ ap (λ k. function (set row k true)) len-zeros ∙ sym (at_high row len)));
      absent = λ i within at same.
          let placed : IsPlaced t.levels t.nodes i = table.placed i within in
          let low_before : rank (node_at t.nodes i).low ≤ i = placed.low_before in
          let high_before : rank (node_at t.nodes i).high ≤ i = placed.high_before in
          let here : (node_at t.nodes i).level ≡ level = at ∙ len-zeros in
          new.absent i within (same_node (node_at t.nodes i) (record { level = level; low = low; high = high }) here
          (canonical t.levels t.nodes table (node_at t.nodes i).low low (omega arith) below_low.live (λ row len.
          den_low t.levels t.nodes table i within row len ∙ same (set row (node_at t.nodes i).level false) (length-set row (node_at t.nodes i).level false ∙ len)
          ∙ zeros (set row (node_at t.nodes i).level false) ∙ ap (λ k. function (set row k false)) here ∙ sym (at_low row len)))
          (canonical t.levels t.nodes table (node_at t.nodes i).high high (omega arith) below_high.live (λ row len.
          den_high t.levels t.nodes table i within row len ∙ same (set row (node_at t.nodes i).level true) (length-set row (node_at t.nodes i).level true ∙ len)
          ∙ zeros (set row (node_at t.nodes i).level true) ∙ ap (λ k. function (set row k true)) here ∙ sym (at_high row len))));
    }

pub same_missing : (old new : TableOf) (top : ℕ) (function : List Bool → Bool) → new.levels ≡ old.levels → new.nodes ≡ old.nodes → IsMissing old top function → IsMissing new top function
same_missing old new top function levels nodes m = record {
  first = m.first;
  above = m.above;
  level = let l : length m.first < old.levels = m.level in omega arith;
  depends = λ h. m.depends (λ row len. h row (len ∙ sym levels));
  absent = λ i within at h. let len : length new.nodes ≡ length old.nodes = ap length nodes in m.absent i (omega arith) (ap (λ (x : List Part). (node_at x i).level) (sym nodes) ∙ at) (λ row l. ap (λ (x : List Part). den x (Inner i) row) (sym nodes) ∙ h row (l ∙ sym levels));
}
