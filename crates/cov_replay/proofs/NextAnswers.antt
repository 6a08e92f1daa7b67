-- A column that takes the answers of another at the next places.
use Rattle.std.proofs.Common.{◌≡◌, ◌≢◌, ℕ, ◌+◌, ◌-◌, ◌<◌, Bool, false, List, length, get_or, set, refl, arith, below_more, get_or-set_other, get_or-set_same}
use Rattle.cov_logic.specs.LassoLaws.{IsNextPlace}
use Rattle.cov_model.specs.States.{State}
use Rattle.cov_replay.specs.Columns.{IsNextAnswer}

-- one more place
pub next_more : (n turn : ℕ) (xs other : List Bool) (p q : ℕ) → length xs ≡ n → p < n → q < n → IsNextPlace State turn (n - turn) p q
    → ((k : ℕ) → k < p → IsNextAnswer n turn xs other k)
    → (k : ℕ) → k < p + 1 → IsNextAnswer n turn (set xs p (get_or other q false)) other k
next_more n turn xs other p q len h d follows before =
    let lt : p < length xs = omega arith in
    below_more _ _
    (λ k c. let ne : k ≢ p = omega arith in
    let b = before k c in
    let same : get_or (set xs p (get_or other q false)) k false ≡ get_or other b.place false = rw get_or-set_other b.same in
    record { place = b.place; there = b.there; follows = b.follows; same = same })
    (let same : get_or (set xs p (get_or other q false)) p false ≡ get_or other q false = rw get_or-set_same refl in
    record { place = q; there = d; follows = follows; same = same })
