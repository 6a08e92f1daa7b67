use Rattle.std.proofs.Common.{◌≡◌, ◌≢◌, ℕ, suc, zero, ◌<◌, ◌≤◌, ◌+◌, List, Bool, true, false, cond, length, set, replicate, sym, ◌∙◌, ap, arith, inl, inr}
use Rattle.std.proofs.lemmas.List.{get_or-set_same, get_or-set_other, length-set, length-replicate}
use Rattle.std.proofs.lemmas.Bool.{cases_order}
use Rattle.cov_dd.specs.declared.node.Ref.{Ref}
use Rattle.cov_dd.specs.declared.node.Ref.TheVariants.{Constant, Inner}
use Rattle.cov_dd.specs.declared.node.Part.{Part}
use Rattle.cov_dd.specs.Nodes.{node_at, rank, level_of, den, IsPlaced, IsTable, SameFunction}
use Rattle.cov_dd.proofs.Diagrams.{den_node, den_by_agree}

-- a bit above the level of a diagram does not matter
pub den_skip : (levels : ℕ) (nodes : List Part) → IsTable levels nodes → (r : Ref) → rank r ≤ length nodes → (k : ℕ) (b : Bool) → k < level_of levels nodes r → (row : List Bool) → den nodes r (set row k b) ≡ den nodes r row
den_skip levels nodes t r live k b below row =
    den_by_agree levels nodes t (set row k b) row (rank r) r live (λ j le. let ne : j ≢ k = omega arith in get_or-set_other row k j b false ne)

-- a child is its parent at a fixed bit
pub den_low : (levels : ℕ) (nodes : List Part) → IsTable levels nodes → (i : ℕ) → i < length nodes → (row : List Bool) → length row ≡ levels → den nodes (node_at nodes i).low row ≡ den nodes (Inner i) (set row (node_at nodes i).level false)
den_low levels nodes t i within row len =
    let placed : IsPlaced levels nodes i = t.placed i within in
    let before : rank (node_at nodes i).low ≤ i = placed.low_before in
    let room : (node_at nodes i).level < length row = rw len placed.level in
    sym (den_skip levels nodes t (node_at nodes i).low (omega arith) (node_at nodes i).level false placed.low_ordered row)
    ∙ ap (λ b. cond b (den nodes (node_at nodes i).high (set row (node_at nodes i).level false)) (den nodes (node_at nodes i).low (set row (node_at nodes i).level false))) (sym (get_or-set_same row (node_at nodes i).level false false room))
    ∙ sym (den_node levels nodes t (set row (node_at nodes i).level false) i within)

pub den_high : (levels : ℕ) (nodes : List Part) → IsTable levels nodes → (i : ℕ) → i < length nodes → (row : List Bool) → length row ≡ levels → den nodes (node_at nodes i).high row ≡ den nodes (Inner i) (set row (node_at nodes i).level true)
den_high levels nodes t i within row len =
    let placed : IsPlaced levels nodes i = t.placed i within in
    let before : rank (node_at nodes i).high ≤ i = placed.high_before in
    let room : (node_at nodes i).level < length row = rw len placed.level in
    sym (den_skip levels nodes t (node_at nodes i).high (omega arith) (node_at nodes i).level true placed.high_ordered row)
    ∙ ap (λ b. cond b (den nodes (node_at nodes i).high (set row (node_at nodes i).level true)) (den nodes (node_at nodes i).low (set row (node_at nodes i).level true))) (sym (get_or-set_same row (node_at nodes i).level true false room))
    ∙ sym (den_node levels nodes t (set row (node_at nodes i).level true) i within)

-- where a diagram skips the level of a node with its function, each child has that function too
low_same : (levels : ℕ) (nodes : List Part) → IsTable levels nodes → (i : ℕ) → i < length nodes → (g : Ref) → rank g ≤ length nodes → (node_at nodes i).level < level_of levels nodes g → SameFunction levels nodes (Inner i) g → SameFunction levels nodes (node_at nodes i).low g
low_same levels nodes t i within g live below same row len =
    den_low levels nodes t i within row len ∙ same (set row (node_at nodes i).level false) (length-set row (node_at nodes i).level false ∙ len)
    ∙ den_skip levels nodes t g live (node_at nodes i).level false below row

high_same : (levels : ℕ) (nodes : List Part) → IsTable levels nodes → (i : ℕ) → i < length nodes → (g : Ref) → rank g ≤ length nodes → (node_at nodes i).level < level_of levels nodes g → SameFunction levels nodes (Inner i) g → SameFunction levels nodes (node_at nodes i).high g
high_same levels nodes t i within g live below same row len =
    den_high levels nodes t i within row len ∙ same (set row (node_at nodes i).level true) (length-set row (node_at nodes i).level true ∙ len)
    ∙ den_skip levels nodes t g live (node_at nodes i).level true below row

-- nodes at one level with one function have children with one function
lows_same : (levels : ℕ) (nodes : List Part) → IsTable levels nodes → (i j : ℕ) → i < length nodes → j < length nodes → (node_at nodes i).level ≡ (node_at nodes j).level → SameFunction levels nodes (Inner i) (Inner j) → SameFunction levels nodes (node_at nodes i).low (node_at nodes j).low
lows_same levels nodes t i j within within' e same row len =
    den_low levels nodes t i within row len ∙ same (set row (node_at nodes i).level false) (length-set row (node_at nodes i).level false ∙ len)
    ∙ ap (λ k. den nodes (Inner j) (set row k false)) e ∙ sym (den_low levels nodes t j within' row len)

highs_same : (levels : ℕ) (nodes : List Part) → IsTable levels nodes → (i j : ℕ) → i < length nodes → j < length nodes → (node_at nodes i).level ≡ (node_at nodes j).level → SameFunction levels nodes (Inner i) (Inner j) → SameFunction levels nodes (node_at nodes i).high (node_at nodes j).high
highs_same levels nodes t i j within within' e same row len =
    den_high levels nodes t i within row len ∙ same (set row (node_at nodes i).level true) (length-set row (node_at nodes i).level true ∙ len)
    ∙ ap (λ k. den nodes (Inner j) (set row k true)) e ∙ sym (den_high levels nodes t j within' row len)

back : (levels : ℕ) (nodes : List Part) (f g : Ref) → SameFunction levels nodes f g → SameFunction levels nodes g f
back levels nodes f g same row len = sym (same row len)

pub same_node : (m n : Part) → m.level ≡ n.level → m.low ≡ n.low → m.high ≡ n.high → m ≡ n
same_node m n p q r =
    let by_level : ℕ → Part = λ k. record { level = k; low = m.low; high = m.high } in
    let by_low : Ref → Part = λ f. record { level = n.level; low = f; high = m.high } in
    let by_high : Ref → Part = λ f. record { level = n.level; low = n.low; high = f } in
    ap by_level p ∙ ap by_low q ∙ ap by_high r

-- a node does not have the function of a diagram that skips its level
no_skip : (levels : ℕ) (nodes : List Part) → IsTable levels nodes → (n i : ℕ) (g : Ref) → ((f g : Ref) → rank f + rank g ≤ n → rank f ≤ length nodes → rank g ≤ length nodes → SameFunction levels nodes f g → f ≡ g) → rank (Inner i) + rank g ≤ suc n → i < length nodes → rank g ≤ length nodes → (node_at nodes i).level < level_of levels nodes g → SameFunction levels nodes (Inner i) g → ⊥
no_skip levels nodes t n i g smaller le within live below same =
    let placed : IsPlaced levels nodes i = t.placed i within in
    let low : rank (node_at nodes i).low ≤ i = placed.low_before in
    let high : rank (node_at nodes i).high ≤ i = placed.high_before in
    placed.reduced
    (smaller (node_at nodes i).low g (omega arith) (omega arith) live (low_same levels nodes t i within g live below same)
    ∙ sym (smaller (node_at nodes i).high g (omega arith) (omega arith) live (high_same levels nodes t i within g live below same)))

-- diagrams with one function are one
pub canonical_by : (levels : ℕ) (nodes : List Part) → IsTable levels nodes → (n : ℕ) → (f g : Ref) → rank f + rank g ≤ n → rank f ≤ length nodes → rank g ≤ length nodes → SameFunction levels nodes f g → f ≡ g
canonical_by levels nodes t n (Constant a) (Constant b) le live live' same = ap (λ c. Constant c) (same (replicate levels false) (length-replicate levels false))
canonical_by levels nodes t zero (Constant a) (Inner j) le live live' same = absurd (omega arith)
canonical_by levels nodes t zero (Inner i) g le live live' same = absurd (omega arith)
canonical_by levels nodes t (suc n) (Constant a) (Inner j) le live live' same =
    absurd (no_skip levels nodes t n j (Constant a) (canonical_by levels nodes t n) (omega arith) (omega arith) live (t.placed j (omega arith)).level (back levels nodes (Constant a) (Inner j) same))
canonical_by levels nodes t (suc n) (Inner i) (Constant b) le live live' same =
    absurd (no_skip levels nodes t n i (Constant b) (canonical_by levels nodes t n) (omega arith) (omega arith) live' (t.placed i (omega arith)).level same)
canonical_by levels nodes t (suc n) (Inner i) (Inner j) le live live' same =
    let within : i < length nodes = omega arith in
    let within' : j < length nodes = omega arith in
    elim (cases_order (node_at nodes i).level (node_at nodes j).level) [
      | inl e ↦
          let pi : IsPlaced levels nodes i = t.placed i within in
          let pj : IsPlaced levels nodes j = t.placed j within' in
          let li : rank (node_at nodes i).low ≤ i = pi.low_before in
          let hi : rank (node_at nodes i).high ≤ i = pi.high_before in
          let lj : rank (node_at nodes j).low ≤ j = pj.low_before in
          let hj : rank (node_at nodes j).high ≤ j = pj.high_before in
          let low : (node_at nodes i).low ≡ (node_at nodes j).low =
          canonical_by levels nodes t n _ _ (omega arith) (omega arith) (omega arith) (lows_same levels nodes t i j within within' e same) in
          let high : (node_at nodes i).high ≡ (node_at nodes j).high =
          canonical_by levels nodes t n _ _ (omega arith) (omega arith) (omega arith) (highs_same levels nodes t i j within within' e same) in
          ap (λ k. Inner k) (t.distinct i j within within' (same_node (node_at nodes i) (node_at nodes j) e low high))
      | inr (inl lt) ↦ absurd (no_skip levels nodes t n i (Inner j) (canonical_by levels nodes t n) (omega arith) within live' lt same)
      | inr (inr gt) ↦ absurd (no_skip levels nodes t n j (Inner i) (canonical_by levels nodes t n) (omega arith) within' live gt (back levels nodes (Inner i) (Inner j) same))
    ]

pub canonical : (levels : ℕ) (nodes : List Part) → IsTable levels nodes → (f g : Ref) → rank f ≤ length nodes → rank g ≤ length nodes → SameFunction levels nodes f g → f ≡ g
canonical levels nodes t f g = canonical_by levels nodes t (rank f + rank g) f g (omega arith)
