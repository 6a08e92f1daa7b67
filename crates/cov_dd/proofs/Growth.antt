use Rattle.std.proofs.Common.{◌≡◌, ℕ, ◌<◌, ◌≤◌, List, [], ◌∷◌, ◌++◌, Bool, true, false, cond, length, get_or, refl, sym, ◌∙◌, ap, subst, arith, length-append, append_assoc, append-nil}
use Rattle.std.proofs.lemmas.List.{get_or_at}
use Rattle.cov_dd.specs.declared.node.Ref.{Ref}
use Rattle.cov_dd.specs.declared.node.Ref.TheVariants.{Inner}
use Rattle.cov_dd.specs.declared.node.Part.{Part}
use Rattle.cov_dd.specs.Nodes.{TableOf, no_node, node_at, rank, level_of, den, IsLive, IsPlaced, IsTable, Extends, Keeps, Denotes, chosen}
use Rattle.cov_dd.proofs.Diagrams.{cond_both, den_node, den_by_enough, den_by_grow, level_of-grow}

pub extends_refl : (t : TableOf) → Extends t t
extends_refl t = record { levels = refl; budget = refl; more = []; nodes = sym (append-nil t.nodes) }

pub extends_trans : (s t u : TableOf) → Extends s t → Extends t u → Extends s u
extends_trans s t u p q = record {
  levels = q.levels ∙ p.levels;
  budget = q.budget ∙ p.budget;
  more = p.more ++ q.more;
  nodes = q.nodes ∙ ap (λ (x : List Part). x ++ q.more) p.nodes ∙ append_assoc s.nodes p.more q.more;
}

-- a table that only grew keeps each function
pub keeps : (old new : TableOf) → IsTable old.levels old.nodes → Extends old new → (r : Ref) → IsLive old.nodes r → Keeps old new r
keeps old new t e r live = record {
  live = let l : length new.nodes ≡ length (old.nodes ++ e.more) = ap length e.nodes in omega (arith, length-append old.nodes e.more);
  level = ap (λ k. level_of k new.nodes r) e.levels ∙ ap (λ (x : List Part). level_of old.levels x r) e.nodes ∙ level_of-grow old.levels old.nodes e.more r live;
  den = λ row. ap (λ (x : List Part). den x r row) e.nodes ∙ den_by_grow old.levels old.nodes e.more t row (rank r) r live;
}

-- the node that is pushed goes on at its children
pub den_pushed : (levels : ℕ) (nodes : List Part) → IsTable levels nodes → (node : Part) → rank node.low ≤ length nodes → rank node.high ≤ length nodes → (row : List Bool)
    → den (nodes ++ node ∷ []) (Inner (length nodes)) row ≡ cond (get_or row node.level false) (den nodes node.high row) (den nodes node.low row)
den_pushed levels nodes t node low high row =
    rw (get_or_at nodes node [] no_node (length nodes) refl)
    (cond_both (get_or row node.level false) _ _ _ _
    (den_by_grow levels nodes (node ∷ []) t row (length nodes) node.high high ∙ den_by_enough levels nodes t row (length nodes) (rank node.high) node.high high high (omega arith))
    (den_by_grow levels nodes (node ∷ []) t row (length nodes) node.low low ∙ den_by_enough levels nodes t row (length nodes) (rank node.low) node.low low low (omega arith)))

-- a node that stands denotes the choice of its children
pub found_denotes : (t : TableOf) → IsTable t.levels t.nodes → (i : ℕ) (node : Part) → i < length t.nodes → node_at t.nodes i ≡ node → Denotes t node.level (Inner i) (chosen node.level (den t.nodes node.low) (den t.nodes node.high))
found_denotes t table i node within is =
    let P : Part → Type 0 = λ n. Denotes t n.level (Inner i) (chosen n.level (den t.nodes n.low) (den t.nodes n.high)) in
    subst P is (record { live = omega arith; level = omega arith; den = λ row. den_node t.levels t.nodes table row i within })

-- and so does the node that is added
pub added_denotes : (old new : TableOf) → IsTable old.levels old.nodes → new.levels ≡ old.levels → (node : Part) → rank node.low ≤ length old.nodes → rank node.high ≤ length old.nodes → new.nodes ≡ old.nodes ++ node ∷ []
    → Denotes new node.level (Inner (length old.nodes)) (chosen node.level (den old.nodes node.low) (den old.nodes node.high))
added_denotes old new t same node low high e = record {
  live = let l : length new.nodes ≡ length (old.nodes ++ node ∷ []) = ap length e in omega (arith, length-append old.nodes (node ∷ []));
  level = let l : node_at new.nodes (length old.nodes) ≡ node = ap (λ (x : List Part). node_at x (length old.nodes)) e ∙ get_or_at old.nodes node [] no_node (length old.nodes) refl in let k : (node_at new.nodes (length old.nodes)).level ≡ node.level = ap (λ (n : Part). n.level) l in omega arith;
  den = λ row. ap (λ (x : List Part). den x (Inner (length old.nodes)) row) e ∙ den_pushed old.levels old.nodes t node low high row;
}

-- one step of a walk along the bits of a row
pub den_step : (levels : ℕ) (nodes : List Part) → IsTable levels nodes → (row : List Bool) (i : ℕ) (node : Part) → i < length nodes → node ≡ node_at nodes i
    → (get_or row node.level false ≡ true → IsLive nodes node.high × (den nodes node.high row ≡ den nodes (Inner i) row))
    × (get_or row node.level false ≡ false → IsLive nodes node.low × (den nodes node.low row ≡ den nodes (Inner i) row))
den_step levels nodes t row i node within is =
    let P : Part → Type 0 = λ n. (get_or row n.level false ≡ true → IsLive nodes n.high × (den nodes n.high row ≡ den nodes (Inner i) row)) × (get_or row n.level false ≡ false → IsLive nodes n.low × (den nodes n.low row ≡ den nodes (Inner i) row)) in
    let placed : IsPlaced levels nodes i = t.placed i within in
    let low : rank (node_at nodes i).low ≤ i = placed.low_before in
    let high : rank (node_at nodes i).high ≤ i = placed.high_before in
    subst P (sym is) (
      (λ set. (omega arith, sym (den_node levels nodes t row i within ∙ ap (λ b. cond b (den nodes (node_at nodes i).high row) (den nodes (node_at nodes i).low row)) set))),
      (λ clear. (omega arith, sym (den_node levels nodes t row i within ∙ ap (λ b. cond b (den nodes (node_at nodes i).high row) (den nodes (node_at nodes i).low row)) clear))),
    )
