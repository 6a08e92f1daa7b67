-- The rows of the result of each operation, and results of equal sets.
use Rattle.std.proofs.Common.{◌≡◌, ℕ, suc, ◌<◌, ◌||◌, ◌&&◌, not, List, [], ◌∷◌, Bool, true, false, cond, length, get_or, ◌∙◌, ap, arith}
use Rattle.cov_dd.specs.Operations.{put}
use Rattle.cov_space.specs.declared.layer.Layer.{Layer}
use Rattle.cov_space.specs.Sets.{lies, SameSets}
use Rattle.cov_space.specs.Operations.{constant_set, bit_set, intersection, union, symmetric_difference, complement, restriction, some_at, projection, AllBelow}
use Rattle.cov_space.specs.Layers.{read_at, shift_set}
use Rattle.cov_space.proofs.Sets.{values_same, lies_values}
use Rattle.cov_space.proofs.Rows.{length-put_below, length-read_at}

pub lies-constant_set : (levels : ℕ) (truth : Bool) (row : List Bool) → length row ≡ levels → lies (constant_set levels truth) row ≡ truth
lies-constant_set levels truth row len = lies_values levels (λ r. truth) row len

pub lies-bit_set : (levels level : ℕ) (row : List Bool) → length row ≡ levels → lies (bit_set levels level) row ≡ get_or row level false
lies-bit_set levels level row len = lies_values levels (λ r. get_or r level false) row len

pub lies-intersection : (levels : ℕ) (a b row : List Bool) → length row ≡ levels → lies (intersection levels a b) row ≡ (lies a row && lies b row)
lies-intersection levels a b row len = lies_values levels (λ r. lies a r && lies b r) row len

pub lies-union : (levels : ℕ) (a b row : List Bool) → length row ≡ levels → lies (union levels a b) row ≡ (lies a row || lies b row)
lies-union levels a b row len = lies_values levels (λ r. lies a r || lies b r) row len

pub lies-symmetric_difference : (levels : ℕ) (a b row : List Bool) → length row ≡ levels → lies (symmetric_difference levels a b) row ≡ cond (lies a row) (not (lies b row)) (lies b row)
lies-symmetric_difference levels a b row len = lies_values levels (λ r. cond (lies a r) (not (lies b r)) (lies b r)) row len

pub lies-complement : (levels : ℕ) (a row : List Bool) → length row ≡ levels → lies (complement levels a) row ≡ not (lies a row)
lies-complement levels a row len = lies_values levels (λ r. not (lies a r)) row len

pub lies-restriction : (levels : ℕ) (a : List Bool) (level : ℕ) (bit : Bool) (row : List Bool) → length row ≡ levels → lies (restriction levels a level bit) row ≡ lies a (put row level bit)
lies-restriction levels a level bit row len = lies_values levels (λ r. lies a (put r level bit)) row len

pub lies-projection : (levels : ℕ) (ls : List ℕ) (a row : List Bool) → length row ≡ levels → lies (projection levels ls a) row ≡ some_at ls (lies a) row
lies-projection levels ls a row len = lies_values levels (some_at ls (lies a)) row len

pub lies-shift_set : (levels : ℕ) (from to : Layer) (a row : List Bool) → length row ≡ levels → lies (shift_set levels from to a) row ≡ lies a (read_at from to row)
lies-shift_set levels from to a row len = lies_values levels (λ r. lies a (read_at from to r)) row len

-- ---- results of sets whose tests agree

pub intersection_same : (levels : ℕ) (a b c d : List Bool) → SameSets levels a c → SameSets levels b d → intersection levels a b ≡ intersection levels c d
intersection_same levels a b c d p q = values_same levels (λ row. lies a row && lies b row) (λ row. lies c row && lies d row) (λ row len. ap (λ x. x && lies b row) (p row len) ∙ ap (λ x. lies c row && x) (q row len))

pub union_same : (levels : ℕ) (a b c d : List Bool) → SameSets levels a c → SameSets levels b d → union levels a b ≡ union levels c d
union_same levels a b c d p q = values_same levels (λ row. lies a row || lies b row) (λ row. lies c row || lies d row) (λ row len. ap (λ x. x || lies b row) (p row len) ∙ ap (λ x. lies c row || x) (q row len))

pub symmetric_difference_same : (levels : ℕ) (a b c d : List Bool) → SameSets levels a c → SameSets levels b d → symmetric_difference levels a b ≡ symmetric_difference levels c d
symmetric_difference_same levels a b c d p q = values_same levels (λ row. cond (lies a row) (not (lies b row)) (lies b row)) (λ row. cond (lies c row) (not (lies d row)) (lies d row)) (λ row len. ap (λ x. cond x (not (lies b row)) (lies b row)) (p row len) ∙ ap (λ x. cond (lies c row) (not x) x) (q row len))

pub complement_same : (levels : ℕ) (a c : List Bool) → SameSets levels a c → complement levels a ≡ complement levels c
complement_same levels a c p = values_same levels (λ row. not (lies a row)) (λ row. not (lies c row)) (λ row len. ap not (p row len))

pub restriction_same : (levels : ℕ) (a c : List Bool) (level : ℕ) (bit : Bool) → level < levels → SameSets levels a c → restriction levels a level bit ≡ restriction levels c level bit
restriction_same levels a c level bit lt p = values_same levels (λ row. lies a (put row level bit)) (λ row. lies c (put row level bit)) (λ row len. p (put row level bit) (length-put_below levels row level bit len lt))

pub some_at_same : (levels : ℕ) (ls : List ℕ) (f g : List Bool → Bool) → AllBelow levels ls → ((row : List Bool) → length row ≡ levels → f row ≡ g row) → (row : List Bool) → length row ≡ levels → some_at ls f row ≡ some_at ls g row
some_at_same levels [] f g below same row len = same row len
some_at_same levels (l ∷ ls) f g below same row len =
    let at : (b : Bool) → some_at ls f (put row l b) ≡ some_at ls g (put row l b) = λ b. some_at_same levels ls f g (λ k lk. below (suc k) (omega arith)) same (put row l b) (length-put_below levels row l b len (below 0 (omega arith))) in
    ap (λ x. x || some_at ls f (put row l true)) (at false) ∙ ap (λ x. some_at ls g (put row l false) || x) (at true)

pub projection_same : (levels : ℕ) (ls : List ℕ) (a c : List Bool) → AllBelow levels ls → SameSets levels a c → projection levels ls a ≡ projection levels ls c
projection_same levels ls a c below p = values_same levels (some_at ls (lies a)) (some_at ls (lies c)) (some_at_same levels ls (lies a) (lies c) below p)

pub shift_same : (levels : ℕ) (from to : Layer) (a c : List Bool) → SameSets levels a c → shift_set levels from to a ≡ shift_set levels from to c
shift_same levels from to a c p = values_same levels (λ row. lies a (read_at from to row)) (λ row. lies c (read_at from to row)) (λ row len. p (read_at from to row) (length-read_at from to row ∙ len))
