use Rattle.std.proofs.Common.{◌≡◌, ℕ, ◌<◌, ◌≤◌, List, Bool, true, false, length, set, drop, replicate, get_or, ◌++◌, sym, ◌∙◌, ap, subst, arith}
use Rattle.std.proofs.lemmas.List.{length-set, length-replicate}
use Rattle.cov_dd.specs.declared.node.Ref.{Ref}
use Rattle.cov_dd.specs.declared.node.Ref.TheVariants.{Constant, Inner}
use Rattle.cov_dd.specs.declared.node.Part.{Part}
use Rattle.cov_dd.specs.Nodes.{TableOf, node_at, rank, level_of, den, Denotes, IsPlaced, IsTable}
use Rattle.cov_dd.specs.Cofactors.{IsCofactor}
use Rattle.cov_dd.specs.Moved.{moved, moved_node, IsMarked, AreMoved}
use Rattle.cov_dd.specs.Reached.{Reaches, Fall, IsCollected, AreGathered, AllLive, ref_at}
use Rattle.cov_dd.specs.Reached.Reaches.{here, by_low, by_high}
use Rattle.cov_dd.proofs.Canonical.{den_low, den_high}
use Rattle.cov_dd.proofs.CofactorLemmas.{fixed_lift}
use Rattle.cov_dd.proofs.NeedLemmas.{den_cleared}
use Rattle.cov_dd.proofs.Moved.{moved_table, moved_level, den_moved}

pub table_falls : (levels : ℕ) (nodes : List Part) → IsTable levels nodes → Fall nodes
table_falls levels nodes t i lt = let p : IsPlaced levels nodes i = t.placed i lt in (p.low_before, p.high_before)

-- parts of a diagram stand before it
pub reach_rank : (levels : ℕ) (nodes : List Part) → IsTable levels nodes → (f g : Ref) → Reaches nodes f g → rank f ≤ length nodes → rank g ≤ rank f
reach_rank levels nodes t _ _ (here f) live = omega arith
reach_rank levels nodes t _ _ (by_low i g r) live =
    let before : rank (node_at nodes i).low ≤ i = (t.placed i (omega arith)).low_before in
    let rest : rank g ≤ rank (node_at nodes i).low = reach_rank levels nodes t (node_at nodes i).low g r (omega arith) in omega arith
reach_rank levels nodes t _ _ (by_high i g r) live =
    let before : rank (node_at nodes i).high ≤ i = (t.placed i (omega arith)).high_before in
    let rest : rank g ≤ rank (node_at nodes i).high = reach_rank levels nodes t (node_at nodes i).high g r (omega arith) in omega arith

-- a part of a diagram is at its level or below
reach_level : (levels : ℕ) (nodes : List Part) → IsTable levels nodes → (f g : Ref) → Reaches nodes f g → rank f ≤ length nodes → level_of levels nodes f ≤ level_of levels nodes g
reach_level levels nodes t _ _ (here f) live = omega arith
reach_level levels nodes t _ _ (by_low i g r) live =
    let p : IsPlaced levels nodes i = t.placed i (omega arith) in
    let before : rank (node_at nodes i).low ≤ i = p.low_before in
    let rest : level_of levels nodes (node_at nodes i).low ≤ level_of levels nodes g = reach_level levels nodes t (node_at nodes i).low g r (omega arith) in
    let lt : (node_at nodes i).level < level_of levels nodes (node_at nodes i).low = p.low_ordered in
    omega arith
reach_level levels nodes t _ _ (by_high i g r) live =
    let p : IsPlaced levels nodes i = t.placed i (omega arith) in
    let before : rank (node_at nodes i).high ≤ i = p.high_before in
    let rest : level_of levels nodes (node_at nodes i).high ≤ level_of levels nodes g = reach_level levels nodes t (node_at nodes i).high g r (omega arith) in
    let lt : (node_at nodes i).level < level_of levels nodes (node_at nodes i).high = p.high_ordered in
    omega arith

-- no diagram is below the constants
level_top : (levels : ℕ) (nodes : List Part) → IsTable levels nodes → (f : Ref) → rank f ≤ length nodes → level_of levels nodes f ≤ levels
level_top levels nodes t (Constant b) live = omega arith
level_top levels nodes t (Inner i) live = let l : (node_at nodes i).level < levels = (t.placed i (omega arith)).level in omega arith

reach_live : (levels : ℕ) (nodes : List Part) → IsTable levels nodes → (f g : Ref) → Reaches nodes f g → rank f ≤ length nodes → rank g ≤ length nodes
reach_live levels nodes t f g r live = let k : rank g ≤ rank f = reach_rank levels nodes t f g r live in omega arith

-- a node stands for its own function
cofactor_self : (levels : ℕ) (nodes : List Part) → IsTable levels nodes → (i : ℕ) → rank (Inner i) ≤ length nodes → IsCofactor levels (den nodes (Inner i)) (node_at nodes i).level (den nodes (Inner i))
cofactor_self levels nodes t i live = record {
  first = replicate (node_at nodes i).level false;
  bits = length-replicate (node_at nodes i).level false;
  same = λ row len. sym (den_cleared levels nodes t (Inner i) live (node_at nodes i).level (omega arith) row) ∙ ap (λ k. den nodes (Inner i) (replicate (node_at nodes i).level false ++ drop k row)) (sym (length-replicate (node_at nodes i).level false));
}

-- what is a cofactor of a cofactor at a level above is one of the whole
cofactor_lift : (levels level k : ℕ) (b : Bool) (function part h : List Bool → Bool) → level < k → k ≤ levels → ((row : List Bool) → length row ≡ levels → part row ≡ function (set row level b)) → IsCofactor levels part k h → IsCofactor levels function k h
cofactor_lift levels level k b function part h lt le is c =
    let bits : length c.first ≡ k = c.bits in
    record {
      first = set c.first level b;
      bits = length-set c.first level b ∙ c.bits;
      same = λ row len. c.same row len ∙ fixed_lift levels level b function part is c.first (omega arith) (omega arith) row len;
    }

-- a node that a diagram reaches stands for a cofactor of its function
pub reached_cofactor : (levels : ℕ) (nodes : List Part) → IsTable levels nodes → (f g : Ref) → Reaches nodes f g → rank f ≤ length nodes → (i : ℕ) → g ≡ Inner i → IsCofactor levels (den nodes f) (node_at nodes i).level (den nodes (Inner i))
reached_cofactor levels nodes t _ _ (here f) live i e = subst (λ (r : Ref). IsCofactor levels (den nodes r) (node_at nodes i).level (den nodes (Inner i))) (sym e) (cofactor_self levels nodes t i (subst (λ (r : Ref). rank r ≤ length nodes) e live))
reached_cofactor levels nodes t _ _ (by_low j g r) live i e =
    let within : j < length nodes = omega arith in
    let p : IsPlaced levels nodes j = t.placed j within in
    let before : rank (node_at nodes j).low ≤ j = p.low_before in
    let level : level_of levels nodes (node_at nodes j).low ≤ level_of levels nodes g = reach_level levels nodes t (node_at nodes j).low g r (omega arith) in
    let level' : level_of levels nodes g ≡ (node_at nodes i).level = ap (λ (x : Ref). level_of levels nodes x) e in
    let lt : (node_at nodes j).level < level_of levels nodes (node_at nodes j).low = p.low_ordered in
    let top : level_of levels nodes (node_at nodes j).low ≤ levels = level_top levels nodes t (node_at nodes j).low (omega arith) in
    let end : (node_at nodes i).level ≤ levels = subst (λ (k : ℕ). k ≤ levels) level' (level_top levels nodes t g (reach_live levels nodes t (node_at nodes j).low g r (omega arith))) in
    cofactor_lift levels (node_at nodes j).level (node_at nodes i).level false (den nodes (Inner j)) (den nodes (node_at nodes j).low) (den nodes (Inner i)) (omega arith) end (den_low levels nodes t j within)
    (reached_cofactor levels nodes t (node_at nodes j).low g r (omega arith) i e)
reached_cofactor levels nodes t _ _ (by_high j g r) live i e =
    let within : j < length nodes = omega arith in
    let p : IsPlaced levels nodes j = t.placed j within in
    let before : rank (node_at nodes j).high ≤ j = p.high_before in
    let level : level_of levels nodes (node_at nodes j).high ≤ level_of levels nodes g = reach_level levels nodes t (node_at nodes j).high g r (omega arith) in
    let level' : level_of levels nodes g ≡ (node_at nodes i).level = ap (λ (x : Ref). level_of levels nodes x) e in
    let lt : (node_at nodes j).level < level_of levels nodes (node_at nodes j).high = p.high_ordered in
    let end : (node_at nodes i).level ≤ levels = subst (λ (k : ℕ). k ≤ levels) level' (level_top levels nodes t g (reach_live levels nodes t (node_at nodes j).high g r (omega arith))) in
    cofactor_lift levels (node_at nodes j).level (node_at nodes i).level true (den nodes (Inner j)) (den nodes (node_at nodes j).high) (den nodes (Inner i)) (omega arith) end (den_high levels nodes t j within)
    (reached_cofactor levels nodes t (node_at nodes j).high g r (omega arith) i e)

-- what was reached is reached after the move
pub reach_moved : (old new : List Part) (marks : List Bool) (places : List ℕ) → AreMoved old new marks places → Fall old → (f g : Ref) → Reaches old f g → rank f ≤ length old → IsMarked marks f → Reaches new (moved places f) (moved places g)
reach_moved old new marks places m fall _ _ (here f) live mf = here (moved places f)
reach_moved old new marks places m fall _ _ (by_low i g r) live mf =
    let f = fall i (omega arith) in
    let before : rank (node_at old i).low ≤ i = f.0 in
    let is : node_at new (get_or places i 0) ≡ moved_node places (node_at old i) = m.node i (omega arith) mf in
    by_low (get_or places i 0) (moved places g) (subst (λ (n : Part). Reaches new n.low (moved places g)) (sym is) (reach_moved old new marks places m fall (node_at old i).low g r (omega arith) (m.children i (omega arith) mf).0))
reach_moved old new marks places m fall _ _ (by_high i g r) live mf =
    let f = fall i (omega arith) in
    let before : rank (node_at old i).high ≤ i = f.1 in
    let is : node_at new (get_or places i 0) ≡ moved_node places (node_at old i) = m.node i (omega arith) mf in
    by_high (get_or places i 0) (moved places g) (subst (λ (n : Part). Reaches new n.high (moved places g)) (sym is) (reach_moved old new marks places m fall (node_at old i).high g r (omega arith) (m.children i (omega arith) mf).1))

pub moved_live : (old new : List Part) (marks : List Bool) (places : List ℕ) → AreMoved old new marks places → (f : Ref) → rank f ≤ length old → IsMarked marks f → rank (moved places f) ≤ length new
moved_live old new marks places m (Constant b) live mf = omega arith
moved_live old new marks places m (Inner i) live mf = let w : get_or places i 0 < length new = m.within i (omega arith) mf in omega arith

-- the walks of a collection give what it promises
pub collected : (old new : TableOf) (before after : List Ref) → IsTable old.levels old.nodes → new.levels ≡ old.levels → new.budget ≡ old.budget → new.calls ≡ old.calls → length new.nodes ≤ length old.nodes
    → AllLive old.nodes before → AreGathered old.nodes new.nodes before after → IsCollected old new before after
collected old new before after table levels budget calls fewer live g =
    let table' : IsTable old.levels new.nodes = moved_table old.levels old.nodes new.nodes g.marks g.places g.are table in
    record {
      levels = levels;
      budget = budget;
      calls = calls;
      fewer = fewer;
      table = subst (λ (k : ℕ). IsTable k new.nodes) (sym levels) table';
      count = g.count;
      each = λ k lt.
          let r : Ref = ref_at before k in
          let at : level_of old.levels new.nodes (moved g.places r) ≡ level_of old.levels old.nodes r = moved_level old.levels old.nodes new.nodes g.marks g.places g.are r (live k lt) (g.roots k lt) in
          let at' : level_of new.levels new.nodes (moved g.places r) ≡ level_of old.levels old.nodes r = ap (λ n. level_of n new.nodes (moved g.places r)) levels ∙ at in
          subst (λ (x : Ref). Denotes new (level_of old.levels old.nodes r) x (den old.nodes r)) (sym (g.renamed k lt)) (record {
            live = moved_live old.nodes new.nodes g.marks g.places g.are r (live k lt) (g.roots k lt);
            level = omega arith;
            den = λ row. den_moved old.levels old.nodes new.nodes g.marks g.places g.are table table' row (rank r) r (omega arith) (live k lt) (g.roots k lt);
          });
      reached = λ i lt.
          let count : length after ≡ length before = g.count in
          let (j, lj, mj, at) = g.are.from i lt in
          let (k, lk, r) = g.only j mj in (
            k,
            omega arith,
            subst (λ (x : Ref). Reaches new.nodes x (Inner i)) (sym (g.renamed k lk)) (subst (λ (n : ℕ). Reaches new.nodes (moved g.places (ref_at before k)) (Inner n)) at
                (reach_moved old.nodes new.nodes g.marks g.places g.are (table_falls old.levels old.nodes table) (ref_at before k) (Inner j) r (live k lk) (g.roots k lk))),
          );
    }
