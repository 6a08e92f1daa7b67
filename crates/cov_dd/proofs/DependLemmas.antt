use Rattle.std.proofs.Common.{◌≡◌, ◌≢◌, ℕ, zero, suc, ◌<◌, ◌≤◌, ◌+◌, ◌-◌, ◌↔◌, List, Bool, true, false, cond, length, get_or, set, drop, ◌++◌, refl, sym, ◌∙◌, ap, arith}
use Rattle.std.proofs.lemmas.List.{length-set, drop-set-add, set-append_right}
use Rattle.cov_dd.specs.declared.node.Ref.{Ref}
use Rattle.cov_dd.specs.declared.node.Ref.TheVariants.{Constant, Inner}
use Rattle.cov_dd.specs.declared.node.Part.{Part}
use Rattle.cov_dd.specs.Nodes.{node_at, rank, den, IsTable, IsPlaced}
use Rattle.cov_dd.specs.Operations.{put, Ignores}
use Rattle.cov_dd.specs.Moved.{IsMarked}
use Rattle.cov_dd.specs.Cofactors.{IsCofactor}
use Rattle.cov_dd.specs.Reached.{Reaches, AreClosed, Fall}
use Rattle.cov_dd.specs.Reached.Reaches.{here, by_low, by_high}
use Rattle.cov_dd.proofs.Diagrams.{den_node, cond_both}
use Rattle.cov_dd.proofs.Canonical.{canonical, den_low, den_high}
use Rattle.cov_dd.proofs.Rows.{put_is_set, get_or-put_other}
use Rattle.cov_dd.proofs.ReachLemmas.{reached_cofactor}
use Rattle.cov_dd.proofs.CofactorLemmas.{length-fixed}

-- what a marked diagram reaches is marked
pub reach_marked : (nodes : List Part) (marks : List Bool) → Fall nodes → AreClosed nodes marks → (f g : Ref) → Reaches nodes f g → rank f ≤ length nodes → IsMarked marks f → IsMarked marks g
reach_marked nodes marks fall closed _ _ (here f) live m = m
reach_marked nodes marks fall closed _ _ (by_low i g r) live m =
    let f = fall i (omega arith) in
    let before : rank (node_at nodes i).low ≤ i = f.0 in
    reach_marked nodes marks fall closed (node_at nodes i).low g r (omega arith) (closed i (omega arith) m).0
reach_marked nodes marks fall closed _ _ (by_high i g r) live m =
    let f = fall i (omega arith) in
    let before : rank (node_at nodes i).high ≤ i = f.1 in
    reach_marked nodes marks fall closed (node_at nodes i).high g r (omega arith) (closed i (omega arith) m).1

-- a diagram without a node of this level does not depend on its bit
pub ignores_by : (levels : ℕ) (nodes : List Part) → IsTable levels nodes → (level n : ℕ) (f : Ref) → rank f ≤ n → rank f ≤ length nodes → ((i : ℕ) → i < length nodes → Reaches nodes f (Inner i) → (node_at nodes i).level ≢ level) → (row other : List Bool) → ((k : ℕ) → k ≢ level → get_or row k false ≡ get_or other k false) → den nodes f row ≡ den nodes f other
ignores_by levels nodes t level n (Constant b) le live none row other same = refl
ignores_by levels nodes t level zero (Inner i) le live none row other same = absurd (omega arith)
ignores_by levels nodes t level (suc n) (Inner i) le live none row other same =
    let within : i < length nodes = omega arith in
    let p : IsPlaced levels nodes i = t.placed i within in
    let low : rank (node_at nodes i).low ≤ i = p.low_before in
    let high : rank (node_at nodes i).high ≤ i = p.high_before in
    den_node levels nodes t row i within
    ∙ ap (λ b. cond b (den nodes (node_at nodes i).high row) (den nodes (node_at nodes i).low row)) (same (node_at nodes i).level (none i within (here (Inner i))))
    ∙ cond_both (get_or other (node_at nodes i).level false) _ _ _ _
    (ignores_by levels nodes t level n (node_at nodes i).high (omega arith) (omega arith) (λ j lt r. none j lt (by_high i (Inner j) r)) row other same)
    (ignores_by levels nodes t level n (node_at nodes i).low (omega arith) (omega arith) (λ j lt r. none j lt (by_low i (Inner j) r)) row other same)
    ∙ sym (den_node levels nodes t other i within)

pub ignores_none : (levels : ℕ) (nodes : List Part) → IsTable levels nodes → (level : ℕ) (f : Ref) → rank f ≤ length nodes → ((i : ℕ) → i < length nodes → Reaches nodes f (Inner i) → (node_at nodes i).level ≢ level) → Ignores levels level (den nodes f)
ignores_none levels nodes t level f live none row len =
    ignores_by levels nodes t level (rank f) f (omega arith) live none (put row level false) (put row level true) (λ k ne. get_or-put_other row level k false ne ∙ sym (get_or-put_other row level k true ne))

-- and one with such a node does
pub depends_some : (levels : ℕ) (nodes : List Part) → IsTable levels nodes → (level : ℕ) (f : Ref) → rank f ≤ length nodes → (i : ℕ) → i < length nodes → (node_at nodes i).level ≡ level → Reaches nodes f (Inner i) → Ignores levels level (den nodes f) → ⊥
depends_some levels nodes t level f live i within at r ignores =
    let p : IsPlaced levels nodes i = t.placed i within in
    let low : rank (node_at nodes i).low ≤ i = p.low_before in
    let high : rank (node_at nodes i).high ≤ i = p.high_before in
    let below : (node_at nodes i).level < levels = p.level in
    let c : IsCofactor levels (den nodes f) (node_at nodes i).level (den nodes (Inner i)) = reached_cofactor levels nodes t f (Inner i) r live i refl in
    let bits : length c.first ≡ (node_at nodes i).level = c.bits in
    let k : ℕ = (node_at nodes i).level in
    p.reduced (canonical levels nodes t (node_at nodes i).low (node_at nodes i).high (omega arith) (omega arith) (λ row len.
    let whole : length (c.first ++ drop (length c.first) row) ≡ levels = length-fixed c.first row levels (omega arith) len in
    let wrote : (b : Bool) → den nodes f (put (c.first ++ drop (length c.first) row) level b) ≡ den nodes (Inner i) (set row k b) = λ b.
    let at_k : length c.first + (level - length c.first) ≡ k = omega arith in
    let room : level < length (c.first ++ drop (length c.first) row) = omega arith in
    ap (den nodes f) (put_is_set (c.first ++ drop (length c.first) row) level b room
    ∙ set-append_right c.first (drop (length c.first) row) (length c.first) level b refl (omega arith)
    ∙ ap (λ x. c.first ++ x) (sym (drop-set-add (length c.first) row (level - length c.first) b) ∙ ap (λ j. drop (length c.first) (set row j b)) at_k))
    ∙ sym (c.same (set row k b) (length-set row k b ∙ len)) in
    den_low levels nodes t i within row len
    ∙ sym (wrote false) ∙ ignores (c.first ++ drop (length c.first) row) whole ∙ wrote true
    ∙ sym (den_high levels nodes t i within row len)))

not_true : (b : Bool) → (b ≡ true → ⊥) → b ≡ false
not_true true h = absurd (h refl)
not_true false h = refl

pub depends_is : (levels : ℕ) (nodes : List Part) → IsTable levels nodes → (level : ℕ) (f : Ref) → rank f ≤ length nodes → (b : Bool)
    → (b ≡ true → (i : ℕ) × (i < length nodes) × ((node_at nodes i).level ≡ level) × Reaches nodes f (Inner i))
    → (b ≡ false → (i : ℕ) → i < length nodes → Reaches nodes f (Inner i) → (node_at nodes i).level ≢ level)
    → (b ≡ false) ↔ Ignores levels level (den nodes f)
depends_is levels nodes t level f live b some none = (
  (λ e. ignores_none levels nodes t level f live (none e)),
  (λ ignores. not_true b (λ e. let (i, lt, at, r) = some e in depends_some levels nodes t level f live i lt at r ignores)),
)
