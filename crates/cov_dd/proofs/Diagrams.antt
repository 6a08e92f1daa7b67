use Rattle.std.proofs.Common.{◌≡◌, ℕ, suc, zero, ◌<◌, ◌≤◌, List, ◌++◌, Bool, false, cond, length, get_or, refl, ◌∙◌, ap, arith}
use Rattle.std.proofs.lemmas.List.{get_or_append_left}
use Rattle.cov_dd.specs.declared.node.Ref.{Ref}
use Rattle.cov_dd.specs.declared.node.Ref.TheVariants.{Constant, Inner}
use Rattle.cov_dd.specs.declared.node.Part.{Part}
use Rattle.cov_dd.specs.Nodes.{no_node, node_at, rank, level_of, den_by, den, IsPlaced, IsTable}

-- a choice whose two sides are equal to two others
pub cond_both : {X : Type 0} (b : Bool) (x y x' y' : X) → x ≡ x' → y ≡ y' → cond b x y ≡ cond b x' y'
cond_both b x y x' y' p q = cc

-- more steps than the rank change nothing
pub den_by_enough : (levels : ℕ) (nodes : List Part) → IsTable levels nodes → (row : List Bool) (n m : ℕ) (r : Ref) → rank r ≤ length nodes → rank r ≤ n → rank r ≤ m → den_by n nodes r row ≡ den_by m nodes r row
den_by_enough levels nodes t row n m (Constant b) live le le' = refl
den_by_enough levels nodes t row zero m (Inner i) live le le' = absurd (omega arith)
den_by_enough levels nodes t row (suc n) zero (Inner i) live le le' = absurd (omega arith)
den_by_enough levels nodes t row (suc n) (suc m) (Inner i) live le le' =
    let within : i < length nodes = omega arith in
    let placed : IsPlaced levels nodes i = t.placed i within in
    let high : rank (node_at nodes i).high ≤ i = placed.high_before in
    let low : rank (node_at nodes i).low ≤ i = placed.low_before in
    cond_both (get_or row (node_at nodes i).level false) _ _ _ _
    (den_by_enough levels nodes t row n m (node_at nodes i).high (omega arith) (omega arith) (omega arith))
    (den_by_enough levels nodes t row n m (node_at nodes i).low (omega arith) (omega arith) (omega arith))

-- a node goes on at its low or high child
pub den_node : (levels : ℕ) (nodes : List Part) → IsTable levels nodes → (row : List Bool) (i : ℕ) → i < length nodes → den nodes (Inner i) row ≡ cond (get_or row (node_at nodes i).level false) (den nodes (node_at nodes i).high row) (den nodes (node_at nodes i).low row)
den_node levels nodes t row i within =
    let placed : IsPlaced levels nodes i = t.placed i within in
    let high : rank (node_at nodes i).high ≤ i = placed.high_before in
    let low : rank (node_at nodes i).low ≤ i = placed.low_before in
    cond_both (get_or row (node_at nodes i).level false) _ _ _ _
    (den_by_enough levels nodes t row i _ (node_at nodes i).high (omega arith) high (omega arith))
    (den_by_enough levels nodes t row i _ (node_at nodes i).low (omega arith) low (omega arith))

-- nodes that are added change no function
pub den_by_grow : (levels : ℕ) (nodes more : List Part) → IsTable levels nodes → (row : List Bool) (n : ℕ) (r : Ref) → rank r ≤ length nodes → den_by n (nodes ++ more) r row ≡ den_by n nodes r row
den_by_grow levels nodes more t row n (Constant b) live = refl
den_by_grow levels nodes more t row zero (Inner i) live = refl
den_by_grow levels nodes more t row (suc n) (Inner i) live =
    let within : i < length nodes = omega arith in
    let placed : IsPlaced levels nodes i = t.placed i within in
    let high : rank (node_at nodes i).high ≤ i = placed.high_before in
    let low : rank (node_at nodes i).low ≤ i = placed.low_before in
    rw (get_or_append_left nodes more no_node i within)
    (cond_both (get_or row (node_at nodes i).level false) _ _ _ _
    (den_by_grow levels nodes more t row n (node_at nodes i).high (omega arith))
    (den_by_grow levels nodes more t row n (node_at nodes i).low (omega arith)))

pub level_of-grow : (levels : ℕ) (nodes more : List Part) (r : Ref) → rank r ≤ length nodes → level_of levels (nodes ++ more) r ≡ level_of levels nodes r
level_of-grow levels nodes more (Constant b) live = refl
level_of-grow levels nodes more (Inner i) live =
    let within : i < length nodes = omega arith in
    ap (λ (n : Part). n.level) (get_or_append_left nodes more no_node i within)

-- the bits above the level of a diagram do not matter
pub den_by_agree : (levels : ℕ) (nodes : List Part) → IsTable levels nodes → (row other : List Bool) (n : ℕ) (r : Ref) → rank r ≤ length nodes → ((k : ℕ) → level_of levels nodes r ≤ k → get_or row k false ≡ get_or other k false) → den_by n nodes r row ≡ den_by n nodes r other
den_by_agree levels nodes t row other n (Constant b) live same = refl
den_by_agree levels nodes t row other zero (Inner i) live same = refl
den_by_agree levels nodes t row other (suc n) (Inner i) live same =
    let within : i < length nodes = omega arith in
    let placed : IsPlaced levels nodes i = t.placed i within in
    let high : rank (node_at nodes i).high ≤ i = placed.high_before in
    let low : rank (node_at nodes i).low ≤ i = placed.low_before in
    let high_ordered : (node_at nodes i).level < level_of levels nodes (node_at nodes i).high = placed.high_ordered in
    let low_ordered : (node_at nodes i).level < level_of levels nodes (node_at nodes i).low = placed.low_ordered in
    ap (λ b. cond b (den_by n nodes (node_at nodes i).high row) (den_by n nodes (node_at nodes i).low row)) (same (node_at nodes i).level (omega arith))
    ∙ cond_both (get_or other (node_at nodes i).level false) _ _ _ _
    (den_by_agree levels nodes t row other n (node_at nodes i).high (omega arith) (λ k le. same k (omega arith)))
    (den_by_agree levels nodes t row other n (node_at nodes i).low (omega arith) (λ k le. same k (omega arith)))
