-- A table with one more node.
use Rattle.std.proofs.Common.{◌≡◌, ◌≢◌, ℕ, ◌<◌, ◌≤◌, List, [], ◌∷◌, ◌++◌, length, sym, ◌∙◌, subst, arith, inl, inr}
use Rattle.std.proofs.lemmas.Bool.{cases_lt}
use Rattle.std.proofs.lemmas.List.{get_or_append_left, get_or_push, length_push}
use Rattle.cov_dd.specs.declared.node.Part.{Part}
use Rattle.cov_dd.specs.Nodes.{no_node, node_at, rank, level_of, IsBelow, IsNew, IsPlaced, IsTable}
use Rattle.cov_dd.proofs.Diagrams.{level_of-grow}

-- a node whose children stand is placed behind the others
placed_push : (levels : ℕ) (nodes : List Part) (node : Part) → IsTable levels nodes → node.level < levels → IsBelow levels nodes node.level node.low → IsBelow levels nodes node.level node.high → node.low ≢ node.high
    → (i : ℕ) → i < length (nodes ++ node ∷ []) → IsPlaced levels (nodes ++ node ∷ []) i
placed_push levels nodes node t level low high differ i lt =
    elim (cases_lt i (length nodes)) [
      | inl below ↦
          let same : node_at (nodes ++ node ∷ []) i ≡ node_at nodes i = get_or_append_left nodes (node ∷ []) no_node i below in
          let p : IsPlaced levels nodes i = t.placed i below in
          let b_low : rank (node_at nodes i).low ≤ i = p.low_before in
          let b_high : rank (node_at nodes i).high ≤ i = p.high_before in
          let o_low : (node_at nodes i).level < level_of levels (nodes ++ node ∷ []) (node_at nodes i).low = subst (λ (k : ℕ). (node_at nodes i).level < k) (sym (level_of-grow levels nodes (node ∷ []) (node_at nodes i).low (omega arith))) p.low_ordered in
          let o_high : (node_at nodes i).level < level_of levels (nodes ++ node ∷ []) (node_at nodes i).high = subst (λ (k : ℕ). (node_at nodes i).level < k) (sym (level_of-grow levels nodes (node ∷ []) (node_at nodes i).high (omega arith))) p.high_ordered in
          record {
            low_before = subst (λ (n : Part). rank n.low ≤ i) (sym same) b_low;
            high_before = subst (λ (n : Part). rank n.high ≤ i) (sym same) b_high;
            low_ordered = subst (λ (n : Part). n.level < level_of levels (nodes ++ node ∷ []) n.low) (sym same) o_low;
            high_ordered = subst (λ (n : Part). n.level < level_of levels (nodes ++ node ∷ []) n.high) (sym same) o_high;
            level = subst (λ (n : Part). n.level < levels) (sym same) p.level;
            reduced = subst (λ (n : Part). n.low ≢ n.high) (sym same) p.reduced;
          }
      | inr le ↦
          let at : length nodes ≡ i = omega (arith, length_push nodes node) in
          let same : node_at (nodes ++ node ∷ []) i ≡ node = get_or_push nodes node no_node i at in
          let l : rank node.low ≤ length nodes = low.live in
          let h : rank node.high ≤ length nodes = high.live in
          record {
            low_before = subst (λ (n : Part). rank n.low ≤ i) (sym same) (omega arith);
            high_before = subst (λ (n : Part). rank n.high ≤ i) (sym same) (omega arith);
            low_ordered = subst (λ (n : Part). n.level < level_of levels (nodes ++ node ∷ []) n.low) (sym same) (subst (λ (k : ℕ). node.level < k) (sym (level_of-grow levels nodes (node ∷ []) node.low l)) low.ordered);
            high_ordered = subst (λ (n : Part). n.level < level_of levels (nodes ++ node ∷ []) n.high) (sym same) (subst (λ (k : ℕ). node.level < k) (sym (level_of-grow levels nodes (node ∷ []) node.high h)) high.ordered);
            level = subst (λ (n : Part). n.level < levels) (sym same) level;
            reduced = subst (λ (n : Part). n.low ≢ n.high) (sym same) differ;
          }
    ]

-- and is new
distinct_push : (nodes : List Part) (node : Part) → ((i j : ℕ) → i < length nodes → j < length nodes → node_at nodes i ≡ node_at nodes j → i ≡ j) → ((k : ℕ) → k < length nodes → node_at nodes k ≢ node)
    → (i j : ℕ) → i < length (nodes ++ node ∷ []) → j < length (nodes ++ node ∷ []) → node_at (nodes ++ node ∷ []) i ≡ node_at (nodes ++ node ∷ []) j → i ≡ j
distinct_push nodes node distinct absent i j li lj e =
    elim (cases_lt i (length nodes)) [
      | inl bi ↦ elim (cases_lt j (length nodes)) [
        | inl bj ↦ distinct i j bi bj (sym (get_or_append_left nodes (node ∷ []) no_node i bi) ∙ e ∙ get_or_append_left nodes (node ∷ []) no_node j bj)
        | inr aj ↦ absurd (absent i bi (sym (get_or_append_left nodes (node ∷ []) no_node i bi) ∙ e ∙ get_or_push nodes node no_node j (omega (arith, length_push nodes node))))
      ]
      | inr ai ↦ elim (cases_lt j (length nodes)) [
        | inl bj ↦ absurd (absent j bj (sym (get_or_append_left nodes (node ∷ []) no_node j bj) ∙ sym e ∙ get_or_push nodes node no_node i (omega (arith, length_push nodes node))))
        | inr aj ↦ omega (arith, length_push nodes node)
      ]
    ]

pub table_push : (levels : ℕ) (nodes : List Part) (node : Part) → IsTable levels nodes → node.level < levels → IsBelow levels nodes node.level node.low → IsBelow levels nodes node.level node.high → IsNew nodes node.level node.low node.high → IsTable levels (nodes ++ node ∷ [])
table_push levels nodes node t level low high new = record {
  placed = placed_push levels nodes node t level low high new.differ;
  distinct = distinct_push nodes node t.distinct new.absent;
}
