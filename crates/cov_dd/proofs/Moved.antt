use Rattle.std.proofs.Common.{◌≡◌, ◌≢◌, ℕ, zero, suc, ◌<◌, ◌≤◌, List, Bool, true, false, cond, length, get_or, refl, sym, ◌∙◌, ap, subst, arith, inl, inr}
use Rattle.std.proofs.lemmas.Bool.{cases_order}
use Rattle.cov_dd.specs.declared.node.Ref.{Ref}
use Rattle.cov_dd.specs.declared.node.Ref.TheVariants.{Constant, Inner}
use Rattle.cov_dd.specs.declared.node.Part.{Part}
use Rattle.cov_dd.specs.Nodes.{node_at, rank, level_of, den, IsPlaced, IsTable}
use Rattle.cov_dd.specs.Moved.{moved, moved_node, IsMarked, AreMoved}
use Rattle.cov_dd.proofs.Diagrams.{den_node, cond_both}
use Rattle.cov_dd.proofs.Canonical.{same_node}

-- marked references that are moved to one are one
same_place : (old new : List Part) (marks : List Bool) (places : List ℕ) → AreMoved old new marks places → (i j : ℕ) → i < length old → j < length old → get_or marks i false ≡ true → get_or marks j false ≡ true → get_or places i 0 ≡ get_or places j 0 → i ≡ j
same_place old new marks places m i j li lj mi mj e =
    elim (cases_order i j) [
      | inl same ↦ same
      | inr (inl lt) ↦ let o : get_or places i 0 < get_or places j 0 = m.order i j lt lj mi mj in absurd (omega arith)
      | inr (inr gt) ↦ let o : get_or places j 0 < get_or places i 0 = m.order j i gt li mj mi in absurd (omega arith)
    ]

pub same_moved : (old new : List Part) (marks : List Bool) (places : List ℕ) → AreMoved old new marks places → (f g : Ref) → rank f ≤ length old → rank g ≤ length old → IsMarked marks f → IsMarked marks g → moved places f ≡ moved places g → f ≡ g
same_moved old new marks places m (Constant a) (Constant b) lf lg mf mg e = e
same_moved old new marks places m (Constant a) (Inner j) lf lg mf mg e = cc
same_moved old new marks places m (Inner i) (Constant b) lf lg mf mg e = cc
same_moved old new marks places m (Inner i) (Inner j) lf lg mf mg e =
    let n : suc (get_or places i 0) ≡ suc (get_or places j 0) = ap rank e in
    ap (λ k. Inner k) (same_place old new marks places m i j (omega arith) (omega arith) mf mg (omega arith))

-- a child that stands before a marked node is moved before it
moved_before : (old new : List Part) (marks : List Bool) (places : List ℕ) → AreMoved old new marks places → (i : ℕ) → i < length old → get_or marks i false ≡ true → (f : Ref) → rank f ≤ i → IsMarked marks f → rank (moved places f) ≤ get_or places i 0
moved_before old new marks places m i li mi (Constant b) le mf = omega arith
moved_before old new marks places m i li mi (Inner j) le mf = let o : get_or places j 0 < get_or places i 0 = m.order j i (omega arith) li mf mi in omega arith

pub moved_level : (levels : ℕ) (old new : List Part) (marks : List Bool) (places : List ℕ) → AreMoved old new marks places → (f : Ref) → rank f ≤ length old → IsMarked marks f → level_of levels new (moved places f) ≡ level_of levels old f
moved_level levels old new marks places m (Constant b) live mf = refl
moved_level levels old new marks places m (Inner i) live mf = ap (λ (n : Part). n.level) (m.node i (omega arith) mf)

-- the nodes that were moved are a table
pub moved_table : (levels : ℕ) (old new : List Part) (marks : List Bool) (places : List ℕ) → AreMoved old new marks places → IsTable levels old → IsTable levels new
moved_table levels old new marks places m t = record {
  placed = λ k lt.
      let (i, li, mi, at) = m.from k lt in
      let p : IsPlaced levels old i = t.placed i li in
      let c = m.children i li mi in
      let b_low : rank (node_at old i).low ≤ i = p.low_before in
      let b_high : rank (node_at old i).high ≤ i = p.high_before in
      let is : node_at new k ≡ moved_node places (node_at old i) = ap (λ n. node_at new n) (sym at) ∙ m.node i li mi in
      let low : rank (moved places (node_at old i).low) ≤ get_or places i 0 = moved_before old new marks places m i li mi (node_at old i).low b_low c.0 in
      let high : rank (moved places (node_at old i).high) ≤ get_or places i 0 = moved_before old new marks places m i li mi (node_at old i).high b_high c.1 in
      record {
        low_before = subst (λ (n : Part). rank n.low ≤ k) (sym is) (omega arith);
        high_before = subst (λ (n : Part). rank n.high ≤ k) (sym is) (omega arith);
        low_ordered = subst (λ (n : Part). n.level < level_of levels new n.low) (sym is) (subst (λ (l : ℕ). (node_at old i).level < l) (sym (moved_level levels old new marks places m (node_at old i).low (omega arith) c.0)) p.low_ordered);
        high_ordered = subst (λ (n : Part). n.level < level_of levels new n.high) (sym is) (subst (λ (l : ℕ). (node_at old i).level < l) (sym (moved_level levels old new marks places m (node_at old i).high (omega arith) c.1)) p.high_ordered);
        level = subst (λ (n : Part). n.level < levels) (sym is) p.level;
        reduced = subst (λ (n : Part). n.low ≢ n.high) (sym is) (λ e. p.reduced (same_moved old new marks places m (node_at old i).low (node_at old i).high (omega arith) (omega arith) c.0 c.1 e));
      };
  distinct = λ k l lk ll e.
      let (i, li, mi, ati) = m.from k lk in
      let (j, lj, mj, atj) = m.from l ll in
      let ci = m.children i li mi in
      let cj = m.children j lj mj in
      let pi : IsPlaced levels old i = t.placed i li in
      let pj : IsPlaced levels old j = t.placed j lj in
      let l_i : rank (node_at old i).low ≤ i = pi.low_before in
      let h_i : rank (node_at old i).high ≤ i = pi.high_before in
      let l_j : rank (node_at old j).low ≤ j = pj.low_before in
      let h_j : rank (node_at old j).high ≤ j = pj.high_before in
      let both : moved_node places (node_at old i) ≡ moved_node places (node_at old j) = sym (m.node i li mi) ∙ ap (λ n. node_at new n) ati ∙ e ∙ ap (λ n. node_at new n) (sym atj) ∙ m.node j lj mj in
      let level : (node_at old i).level ≡ (node_at old j).level = ap (λ (n : Part). n.level) both in
      let low : (node_at old i).low ≡ (node_at old j).low = same_moved old new marks places m _ _ (omega arith) (omega arith) ci.0 cj.0 (ap (λ (n : Part). n.low) both) in
      let high : (node_at old i).high ≡ (node_at old j).high = same_moved old new marks places m _ _ (omega arith) (omega arith) ci.1 cj.1 (ap (λ (n : Part). n.high) both) in
      let same : i ≡ j = t.distinct i j li lj (same_node (node_at old i) (node_at old j) level low high) in
      sym ati ∙ ap (λ n. get_or places n 0) same ∙ atj;
}

-- and each marked diagram keeps its function
pub den_moved : (levels : ℕ) (old new : List Part) (marks : List Bool) (places : List ℕ) → AreMoved old new marks places → IsTable levels old → IsTable levels new → (row : List Bool) (n : ℕ) (f : Ref) → rank f ≤ n → rank f ≤ length old → IsMarked marks f → den new (moved places f) row ≡ den old f row
den_moved levels old new marks places m t t' row n (Constant b) le live mf = refl
den_moved levels old new marks places m t t' row zero (Inner i) le live mf = absurd (omega arith)
den_moved levels old new marks places m t t' row (suc n) (Inner i) le live mf =
    let li : i < length old = omega arith in
    let p : IsPlaced levels old i = t.placed i li in
    let c = m.children i li mf in
    let b_low : rank (node_at old i).low ≤ i = p.low_before in
    let b_high : rank (node_at old i).high ≤ i = p.high_before in
    den_node levels new t' row (get_or places i 0) (m.within i li mf)
    ∙ ap (λ (x : Part). cond (get_or row x.level false) (den new x.high row) (den new x.low row)) (m.node i li mf)
    ∙ cond_both (get_or row (node_at old i).level false) _ _ _ _
    (den_moved levels old new marks places m t t' row n (node_at old i).high (omega arith) (omega arith) c.1)
    (den_moved levels old new marks places m t t' row n (node_at old i).low (omega arith) (omega arith) c.0)
    ∙ sym (den_node levels old t row i li)
