-- A set is its test: the facts on sets that layers above need first.
use Rattle.std.proofs.Common.{◌≡◌, ℕ, zero, suc, ◌<◌, ◌+◌, ◌*◌, ◌^◌, ◌++◌, List, [], ◌∷◌, Bool, true, false, length, get_or, refl, sym, ◌∙◌, ap, subst, arith, length-append}
use Rattle.std.proofs.lemmas.List.{get_or_append_left, get_or-append-add}
use Rattle.std.proofs.Math.Nat.{pow-succ'}
use Rattle.cov_dd.specs.Need.{values}
use Rattle.cov_dd.proofs.Values as dd
use Rattle.cov_space.specs.Sets.{number, lies, SameSets}

-- tests that agree at each row have one set
pub values_same : (n : ℕ) (f g : List Bool → Bool) → ((row : List Bool) → length row ≡ n → f row ≡ g row) → values n f ≡ values n g
values_same = dd.values_same

pub length-values_at : (n : ℕ) (f : List Bool → Bool) → length (values n f) ≡ 2 ^ n
unfolding values
length-values_at zero f = refl
length-values_at (suc n) f =
    let a : length (values n (λ r. f (false ∷ r))) ≡ 2 ^ n = length-values_at n (λ r. f (false ∷ r)) in
    let b : length (values n (λ r. f (true ∷ r))) ≡ 2 ^ n = length-values_at n (λ r. f (true ∷ r)) in
    let p : 2 ^ suc n ≡ 2 * 2 ^ n = pow-succ' 2 n in
    let s : length (values (suc n) f) ≡ length (values n (λ r. f (false ∷ r)) ++ values n (λ r. f (true ∷ r))) = ap length (dd.values_split n f) in
    omega (arith, length-append (values n (λ r. f (false ∷ r))) (values n (λ r. f (true ∷ r))))

pub number_lt : (row : List Bool) → number row < 2 ^ length row
number_lt [] = omega arith
number_lt (true ∷ row) = let i : number row < 2 ^ length row = number_lt row in let p : 2 ^ suc (length row) ≡ 2 * 2 ^ length row = pow-succ' 2 (length row) in omega arith
number_lt (false ∷ row) = let i : number row < 2 ^ length row = number_lt row in let p : 2 ^ suc (length row) ≡ 2 * 2 ^ length row = pow-succ' 2 (length row) in omega arith

-- a row lies in the set of a test where the test is true
pub lies_values : (n : ℕ) (f : List Bool → Bool) (row : List Bool) → length row ≡ n → lies (values n f) row ≡ f row
unfolding values
lies_values zero f [] len = refl
lies_values zero f (b ∷ row) len = absurd (omega arith)
lies_values (suc n) f [] len = absurd (omega arith)
lies_values (suc n) f (false ∷ row) len =
    let l : length row ≡ n = omega arith in
    let a : length (values n (λ r. f (false ∷ r))) ≡ 2 ^ n = length-values_at n (λ r. f (false ∷ r)) in
    let i : number row < 2 ^ length row = number_lt row in
    let i' : number row < 2 ^ n = subst (λ (k : ℕ). number row < 2 ^ k) l i in
    ap (λ x. get_or x (number row) false) (dd.values_split n f)
    ∙ get_or_append_left (values n (λ r. f (false ∷ r))) (values n (λ r. f (true ∷ r))) false (number row) (omega arith)
    ∙ lies_values n (λ r. f (false ∷ r)) row l
lies_values (suc n) f (true ∷ row) len =
    let l : length row ≡ n = omega arith in
    let a : length (values n (λ r. f (false ∷ r))) ≡ 2 ^ n = length-values_at n (λ r. f (false ∷ r)) in
    let at : 2 ^ length row + number row ≡ length (values n (λ r. f (false ∷ r))) + number row = ap (λ k. 2 ^ k + number row) l ∙ ap (λ k. k + number row) (sym a) in
    ap (λ x. get_or x (2 ^ length row + number row) false) (dd.values_split n f)
    ∙ ap (λ k. get_or (values n (λ r. f (false ∷ r)) ++ values n (λ r. f (true ∷ r))) k false) at
    ∙ get_or-append-add (values n (λ r. f (false ∷ r))) (values n (λ r. f (true ∷ r))) (number row) false
    ∙ lies_values n (λ r. f (true ∷ r)) row l

-- a set that is made of a test is the list of its own test's values
pub values_lies : (n : ℕ) (f : List Bool → Bool) → values n (lies (values n f)) ≡ values n f
values_lies n f = values_same n (lies (values n f)) f (lies_values n f)

-- sets that are such lists are equal where their tests agree at each row
pub same_sets : (n : ℕ) (a b : List Bool) → values n (lies a) ≡ a → values n (lies b) ≡ b → SameSets n a b → a ≡ b
same_sets n a b proper_a proper_b same = sym proper_a ∙ values_same n (lies a) (lies b) same ∙ proper_b
