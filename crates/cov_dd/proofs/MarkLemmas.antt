use Rattle.std.proofs.Common.{◌≡◌, ◌≢◌, ℕ, suc, ◌<◌, ◌≤◌, ◌+◌, ◌⊎◌, List, Bool, true, false, length, take, get_or, set, refl, sym, ◌∙◌, ap, subst, arith, inl, inr}
use Rattle.std.proofs.lemmas.List.{get_or-set_same, get_or-set_other, length-set, length-take-le, get_or-take, set_past}
use Rattle.std.proofs.lemmas.Bool.{cases_eq, cases_lt}
use Rattle.cov_dd.specs.declared.node.Ref.{Ref}
use Rattle.cov_dd.specs.declared.node.Ref.TheVariants.{Constant, Inner}
use Rattle.cov_dd.specs.declared.node.Part.{Part}
use Rattle.cov_dd.specs.Nodes.{no_node, node_at, rank}
use Rattle.cov_dd.specs.Moved.{moved, moved_node, IsMarked, AreMoved}
use Rattle.cov_dd.specs.Reached.{Reaches, marked, Fall, AreClosed}
use Rattle.cov_dd.specs.Reached.Reaches.{here, by_low, by_high}
use Rattle.cov_dd.proofs.Canonical.{same_node}

pub reach_trans : (nodes : List Part) (f g h : Ref) → Reaches nodes f g → Reaches nodes g h → Reaches nodes f h
reach_trans nodes _ _ h (here f) q = q
reach_trans nodes _ _ h (by_low i g p) q = by_low i h (reach_trans nodes (node_at nodes i).low g h p q)
reach_trans nodes _ _ h (by_high i g p) q = by_high i h (reach_trans nodes (node_at nodes i).high g h p q)

-- ---- marks

pub length-marked : (marks : List Bool) (r : Ref) → length (marked marks r) ≡ length marks
length-marked marks (Constant b) = refl
length-marked marks (Inner i) = length-set marks i true

pub marked_here : (marks : List Bool) (r : Ref) → rank r ≤ length marks → IsMarked (marked marks r) r
marked_here marks (Constant b) le = tt
marked_here marks (Inner i) le = get_or-set_same marks i true false (omega arith)

pub mark_stays : (marks : List Bool) (r : Ref) (i : ℕ) → get_or marks i false ≡ true → get_or (marked marks r) i false ≡ true
mark_stays marks (Constant b) i m = m
mark_stays marks (Inner j) i m =
    elim (cases_eq i j) [
      | inl e ↦ elim (cases_lt j (length marks)) [
        | inl lt ↦ subst (λ (k : ℕ). get_or (set marks j true) k false ≡ true) (sym e) (get_or-set_same marks j true false lt)
        | inr ge ↦ mark_past marks j i ge m
      ]
      | inr ne ↦ get_or-set_other marks j i true false ne ∙ m
    ]
  where
    mark_past : (marks : List Bool) (j i : ℕ) → length marks ≤ j → get_or marks i false ≡ true → get_or (set marks j true) i false ≡ true
    mark_past marks j i ge m = ap (λ (x : List Bool). get_or x i false) (set_past marks j true ge) ∙ m

pub marked_stays : (marks : List Bool) (r g : Ref) → IsMarked marks g → IsMarked (marked marks r) g
marked_stays marks r (Constant b) m = tt
marked_stays marks r (Inner i) m = mark_stays marks r i m

pub marked_only : (marks : List Bool) (r : Ref) (i : ℕ) → get_or (marked marks r) i false ≡ true → (get_or marks i false ≡ true) ⊎ (r ≡ Inner i)
marked_only marks (Constant b) i m = inl m
marked_only marks (Inner j) i m =
    elim (cases_eq i j) [
      | inl e ↦ inr (ap (λ k. Inner k) (sym e))
      | inr ne ↦ inl (sym (get_or-set_other marks j i true false ne) ∙ m)
    ]

-- the marks of the children of a marked node
pub closed_step : (nodes : List Part) (marks : List Bool) (low high : Ref) (i : ℕ) → i < length nodes → length marks ≡ length nodes → rank low ≤ i → rank high ≤ i → (node_at nodes i).low ≡ low → (node_at nodes i).high ≡ high
    → ((j : ℕ) → suc i ≤ j → j < length nodes → get_or marks j false ≡ true → IsMarked marks (node_at nodes j).low × IsMarked marks (node_at nodes j).high)
    → (j : ℕ) → i ≤ j → j < length nodes → get_or (marked (marked marks low) high) j false ≡ true → IsMarked (marked (marked marks low) high) (node_at nodes j).low × IsMarked (marked (marked marks low) high) (node_at nodes j).high
closed_step nodes marks low high i within len le le' el eh closed j from lt m =
    elim (cases_eq j i) [
      | inl e ↦
          let lows : (node_at nodes j).low ≡ low = ap (λ k. (node_at nodes k).low) e ∙ el in
          let highs : (node_at nodes j).high ≡ high = ap (λ k. (node_at nodes k).high) e ∙ eh in (
            subst (λ (r : Ref). IsMarked (marked (marked marks low) high) r) (sym lows) (marked_stays (marked marks low) high low (marked_here marks low (omega arith))),
            subst (λ (r : Ref). IsMarked (marked (marked marks low) high) r) (sym highs) (marked_here (marked marks low) high (omega (arith, length-marked marks low))),
          )
      | inr ne ↦
          let c = closed j (omega arith) lt (was_marked ne) in (
            marked_stays (marked marks low) high _ (marked_stays marks low _ c.0),
            marked_stays (marked marks low) high _ (marked_stays marks low _ c.1),
          )
    ]
  where
    not_this : (r : Ref) → rank r ≤ i → r ≡ Inner j → ⊥
    not_this r before e = let n : rank r ≡ suc j = ap rank e in omega arith

    was_marked : (j ≡ i → ⊥) → get_or marks j false ≡ true
    was_marked ne =
        elim (marked_only (marked marks low) high j m) [
          | inl first ↦ elim (marked_only marks low j first) [
            | inl was ↦ was
            | inr is ↦ absurd (not_this low le is)
          ]
          | inr is ↦ absurd (not_this high le' is)
        ]

-- each mark is reached from one of the first
pub only_step : (nodes : List Part) (old marks : List Bool) (i : ℕ) (part : Ref) → Reaches nodes (Inner i) part → get_or marks i false ≡ true
    → ((m : ℕ) → get_or marks m false ≡ true → (j : ℕ) × (get_or old j false ≡ true) × Reaches nodes (Inner j) (Inner m))
    → (m : ℕ) → get_or (marked marks part) m false ≡ true → (j : ℕ) × (get_or old j false ≡ true) × Reaches nodes (Inner j) (Inner m)
only_step nodes old marks i part reach mi only m mm =
    elim (marked_only marks part m mm) [
      | inl was ↦ only m was
      | inr is ↦ let (j, mj, r) = only i mi in (j, mj, reach_trans nodes (Inner j) (Inner i) (Inner m) r (subst (λ (x : Ref). Reaches nodes (Inner i) x) is reach))
    ]

-- ---- moves

-- what holds when the nodes before i are moved
pub record Moving (old new : List Part) (marks : List Bool) (places : List ℕ) (i next : ℕ) : Type 0 where
  pub le : next ≤ i
  pub to : length new ≡ length old
  pub slots : length places ≡ length old
  pub rest : (j : ℕ) → i ≤ j → node_at new j ≡ node_at old j
  pub place : (j : ℕ) → j < i → get_or marks j false ≡ true → get_or places j 0 < next
  pub node : (j : ℕ) → j < i → get_or marks j false ≡ true → node_at new (get_or places j 0) ≡ moved_node places (node_at old j)
  pub order : (j k : ℕ) → j < k → k < i → get_or marks j false ≡ true → get_or marks k false ≡ true → get_or places j 0 < get_or places k 0
  pub from : (k : ℕ) → k < next → (j : ℕ) × (j < i) × (get_or marks j false ≡ true) × (get_or places j 0 ≡ k)

pub moving_first : (old : List Part) (marks : List Bool) (places : List ℕ) → length places ≡ length old → Moving old old marks places 0 0
moving_first old marks places len = record {
  le = omega arith;
  to = refl;
  slots = len;
  rest = λ j le. refl;
  place = λ j lt. absurd (omega arith);
  node = λ j lt. absurd (omega arith);
  order = λ j k lt lt'. absurd (omega arith);
  from = λ k lt. absurd (omega arith);
}

pub moving_skip : (old new : List Part) (marks : List Bool) (places : List ℕ) (i next : ℕ) → get_or marks i false ≡ false → Moving old new marks places i next → Moving old new marks places (i + 1) next
moving_skip old new marks places i next clear m = record {
  le = let l : next ≤ i = m.le in omega arith;
  to = m.to;
  slots = m.slots;
  rest = λ j le. m.rest j (omega arith);
  place = λ j lt mj. m.place j (before j lt mj) mj;
  node = λ j lt mj. m.node j (before j lt mj) mj;
  order = λ j k lt lt' mj mk. m.order j k lt (before k lt' mk) mj mk;
  from = λ k lt. let (j, l, mj, at) = m.from k lt in (j, omega arith, mj, at);
}
  where
    before : (j : ℕ) → j < i + 1 → get_or marks j false ≡ true → j < i
    before j lt mj =
        elim (cases_eq j i) [
          | inl e ↦ let b : get_or marks i false ≡ true = subst (λ (k : ℕ). get_or marks k false ≡ true) e mj in cc
          | inr ne ↦ omega arith
        ]

moved_set : (places : List ℕ) (i v : ℕ) (r : Ref) → rank r ≤ i → moved (set places i v) r ≡ moved places r
moved_set places i v (Constant b) le = refl
moved_set places i v (Inner j) le = let ne : j ≢ i = omega arith in ap (λ k. Inner k) (get_or-set_other places i j v 0 ne)

moved_node-set : (places : List ℕ) (i v : ℕ) (n : Part) → rank n.low ≤ i → rank n.high ≤ i → moved_node (set places i v) n ≡ moved_node places n
moved_node-set places i v n le le' = same_node (moved_node (set places i v) n) (moved_node places n) refl (moved_set places i v n.low le) (moved_set places i v n.high le')

pub moving_step : (old new : List Part) (marks : List Bool) (places : List ℕ) (i next : ℕ) → i < length old → Fall old → get_or marks i false ≡ true → Moving old new marks places i next → (x : Part) → x ≡ moved_node places (node_at old i)
    → Moving old (set new next x) marks (set places i next) (i + 1) (next + 1)
moving_step old new marks places i next lt fall mi m x is =
    let le : next ≤ i = m.le in
    let to : length new ≡ length old = m.to in
    let slots : length places ≡ length old = m.slots in
    record {
      le = omega arith;
      to = length-set new next x ∙ m.to;
      slots = length-set places i next ∙ m.slots;
      rest = λ j l. let ne : j ≢ next = omega arith in get_or-set_other new next j x no_node ne ∙ m.rest j (omega arith);
      place = λ j l mj.
          elim (cases_eq j i) [
            | inl e ↦ let p : get_or (set places i next) j 0 ≡ next = at_i j e in omega arith
            | inr ne ↦ let p : get_or (set places i next) j 0 ≡ get_or places j 0 = get_or-set_other places i j next 0 ne in let q : get_or places j 0 < next = m.place j (omega arith) mj in omega arith
          ];
      node = λ j l mj.
          elim (cases_eq j i) [
            | inl e ↦
                ap (λ k. node_at (set new next x) k) (at_i j e)
                ∙ get_or-set_same new next x no_node (omega arith)
                ∙ is
                ∙ ap (λ k. moved_node places (node_at old k)) (sym e)
                ∙ sym (kept j l)
            | inr ne ↦
                let q : get_or places j 0 < next = m.place j (omega arith) mj in
                let ne' : get_or places j 0 ≢ next = omega arith in
                ap (λ k. node_at (set new next x) k) (get_or-set_other places i j next 0 ne)
                ∙ get_or-set_other new next (get_or places j 0) x no_node ne'
                ∙ m.node j (omega arith) mj
                ∙ sym (kept j l)
          ];
      order = λ j k l l' mj mk.
          let nj : j ≢ i = omega arith in
          let pj : get_or (set places i next) j 0 ≡ get_or places j 0 = get_or-set_other places i j next 0 nj in
          elim (cases_eq k i) [
            | inl e ↦ let p : get_or (set places i next) k 0 ≡ next = at_i k e in let q : get_or places j 0 < next = m.place j (omega arith) mj in omega arith
            | inr ne ↦ let p : get_or (set places i next) k 0 ≡ get_or places k 0 = get_or-set_other places i k next 0 ne in let q : get_or places j 0 < get_or places k 0 = m.order j k l (omega arith) mj mk in omega arith
          ];
      from = λ k l.
          elim (cases_eq k next) [
            | inl e ↦ (i, omega arith, mi, get_or-set_same places i next 0 (omega arith) ∙ sym e)
            | inr ne ↦ let (j, lj, mj, at) = m.from k (omega arith) in let ne' : j ≢ i = omega arith in (j, omega arith, mj, get_or-set_other places i j next 0 ne' ∙ at)
          ];
    }
  where
    at_i : (j : ℕ) → j ≡ i → get_or (set places i next) j 0 ≡ next
    at_i j e = let slots : length places ≡ length old = m.slots in ap (λ k. get_or (set places i next) k 0) e ∙ get_or-set_same places i next 0 (omega arith)

    kept : (j : ℕ) → j < i + 1 → moved_node (set places i next) (node_at old j) ≡ moved_node places (node_at old j)
    kept j l =
        let f = fall j (omega arith) in
        let f0 : rank (node_at old j).low ≤ j = f.0 in
        let f1 : rank (node_at old j).high ≤ j = f.1 in
        moved_node-set places i next (node_at old j) (omega arith) (omega arith)

pub moving_last : (old new : List Part) (marks : List Bool) (places : List ℕ) (n next : ℕ) → n ≡ length old → AreClosed old marks → Moving old new marks places n next → AreMoved old (take next new) marks places
moving_last old new marks places n next e closed m =
    let le : next ≤ n = m.le in
    let to : length new ≡ length old = m.to in
    let len : length (take next new) ≡ next = length-take-le next new (omega arith) in
    record {
      within = λ i l mi. let p : get_or places i 0 < next = m.place i (omega arith) mi in omega arith;
      node = λ i l mi. let p : get_or places i 0 < next = m.place i (omega arith) mi in get_or-take next new (get_or places i 0) no_node p ∙ m.node i (omega arith) mi;
      children = closed;
      order = λ i j l l' mi mj. m.order i j l (omega arith) mi mj;
      from = λ k l. let (i, li, mi, at) = m.from k (omega arith) in (i, omega arith, mi, at);
    }

-- what holds when the nodes from i on have handed their marks down
pub record Below (nodes : List Part) (old marks : List Bool) (i : ℕ) : Type 0 where
  pub within : i ≤ length nodes
  pub same : length marks ≡ length nodes
  pub stays : (r : Ref) → IsMarked old r → IsMarked marks r
  pub closed : (j : ℕ) → i ≤ j → j < length nodes → get_or marks j false ≡ true → IsMarked marks (node_at nodes j).low × IsMarked marks (node_at nodes j).high
  pub only : (m : ℕ) → get_or marks m false ≡ true → (j : ℕ) × (get_or old j false ≡ true) × Reaches nodes (Inner j) (Inner m)

pub below_step : (nodes : List Part) (old marks new : List Bool) (i : ℕ) → Fall nodes → get_or marks i false ≡ true → new ≡ marked (marked marks (node_at nodes i).low) (node_at nodes i).high → Below nodes old marks (suc i) → Below nodes old new i
below_step nodes old marks new i fall mi e b =
    let within : suc i ≤ length nodes = b.within in
    let f = fall i (omega arith) in
    let low : Ref = (node_at nodes i).low in
    let high : Ref = (node_at nodes i).high in
    let first = only_step nodes old marks i (node_at nodes i).low (by_low i (node_at nodes i).low (here (node_at nodes i).low)) mi b.only in
    subst (λ (x : List Bool). Below nodes old x i) (sym e) (record {
      within = omega arith;
      same = length-marked (marked marks (node_at nodes i).low) (node_at nodes i).high ∙ length-marked marks (node_at nodes i).low ∙ b.same;
      stays = λ r m. marked_stays (marked marks (node_at nodes i).low) (node_at nodes i).high r (marked_stays marks (node_at nodes i).low r (b.stays r m));
      closed = closed_step nodes marks (node_at nodes i).low (node_at nodes i).high i (omega arith) b.same f.0 f.1 refl refl b.closed;
      only = only_step nodes old (marked marks (node_at nodes i).low) i (node_at nodes i).high (by_high i (node_at nodes i).high (here (node_at nodes i).high)) (mark_stays marks (node_at nodes i).low i mi) first;
    })

pub moving_same : (old new new' : List Part) (marks : List Bool) (places places' : List ℕ) (i next next' : ℕ) → new' ≡ new → places' ≡ places → next' ≡ next → Moving old new marks places i next → Moving old new' marks places' i next'
moving_same old new new' marks places places' i next next' p q r m =
    subst (λ (x : List Part). Moving old x marks places' i next') (sym p) (subst (λ (x : List ℕ). Moving old new marks x i next') (sym q) (subst (λ (x : ℕ). Moving old new marks places i x) (sym r) m))
