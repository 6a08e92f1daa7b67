-- The greatest number of needed pairs of so many functions.
use Rattle.std.proofs.Common.{◌≡◌, ℕ, zero, suc, ◌<◌, ◌≤◌, ◌+◌, ◌-◌, ◌*◌, ◌^◌, ◌++◌, List, [], ◌∷◌, Bool, true, false, length, get_or, refl, sym, ◌∙◌, ap, arith, inl, inr}
use Rattle.std.proofs.lemmas.Bool.{cases_lt, cases_order}
use Rattle.std.proofs.Math.Nat.{pow-succ', suc-mul, mul-le-mul_right}
use Rattle.cov_dd.specs.Need.{values, IsNeeded, NeedMoreThan}
use Rattle.cov_dd.proofs.Pigeonhole.{pigeonhole}

-- a number for each list of bits
code : List Bool → ℕ
code [] = 1
code (true ∷ r) = 2 * code r + 1
code (false ∷ r) = 2 * code r

code_pos : (r : List Bool) → 0 < code r
unfolding code
code_pos [] = omega arith
code_pos (true ∷ r) = omega arith
code_pos (false ∷ r) = let p : 0 < code r = code_pos r in omega arith

code_lt : (r : List Bool) → code r < 2 ^ suc (length r)
unfolding code
code_lt [] = omega arith
code_lt (true ∷ r) = let p : code r < 2 ^ suc (length r) = code_lt r in let q : 2 ^ suc (suc (length r)) ≡ 2 * 2 ^ suc (length r) = pow-succ' 2 (suc (length r)) in omega arith
code_lt (false ∷ r) = let p : code r < 2 ^ suc (length r) = code_lt r in let q : 2 ^ suc (suc (length r)) ≡ 2 * 2 ^ suc (length r) = pow-succ' 2 (suc (length r)) in omega arith

code_same : (r q : List Bool) → code r ≡ code q → r ≡ q
unfolding code
code_same [] [] e = refl
code_same [] (true ∷ q) e = let p : 0 < code q = code_pos q in absurd (omega arith)
code_same [] (false ∷ q) e = let p : 0 < code q = code_pos q in absurd (omega arith)
code_same (true ∷ r) [] e = let p : 0 < code r = code_pos r in absurd (omega arith)
code_same (false ∷ r) [] e = let p : 0 < code r = code_pos r in absurd (omega arith)
code_same (true ∷ r) (true ∷ q) e = ap (λ x. true ∷ x) (code_same r q (omega arith))
code_same (true ∷ r) (false ∷ q) e = absurd (omega arith)
code_same (false ∷ r) (true ∷ q) e = absurd (omega arith)
code_same (false ∷ r) (false ∷ q) e = ap (λ x. false ∷ x) (code_same r q (omega arith))

mul_le : (a b n : ℕ) → a ≤ b → a * n ≤ b * n
mul_le a b n le = mul-le-mul_right n le

block : (a b c d n : ℕ) → c < n → d < n → a * n + c ≡ b * n + d → (a ≡ b) × (c ≡ d)
block a b c d n lc ld e =
    elim (cases_order a b) [
      | inl same ↦ let h : a * n ≡ b * n = ap (λ x. x * n) same in (same, omega arith)
      | inr (inl lt) ↦ let h : suc a * n ≤ b * n = mul_le (suc a) b n (omega arith) in let k : suc a * n ≡ a * n + n = suc-mul a n in absurd (omega arith)
      | inr (inr gt) ↦ let h : suc b * n ≤ a * n = mul_le (suc b) a n (omega arith) in let k : suc b * n ≡ b * n + n = suc-mul b n in absurd (omega arith)
    ]

pow_le : (a b : ℕ) → a ≤ b → 2 ^ a ≤ 2 ^ b
pow_le zero zero le = omega arith
pow_le zero (suc b) le = let p : 2 ^ zero ≤ 2 ^ b = pow_le zero b (omega arith) in let q : 2 ^ suc b ≡ 2 * 2 ^ b = pow-succ' 2 b in omega arith
pow_le (suc a) zero le = absurd (omega arith)
pow_le (suc a) (suc b) le = let p : 2 ^ a ≤ 2 ^ b = pow_le a b (omega arith) in let q : 2 ^ suc b ≡ 2 * 2 ^ b = pow-succ' 2 b in let r : 2 ^ suc a ≡ 2 * 2 ^ a = pow-succ' 2 a in omega arith

-- a needed pair by the number of its function and its fixed bits
record Numbered (levels : ℕ) (functions : List (List Bool → Bool)) (pair : ℕ × List Bool) (m : ℕ) : Type 0 where
  of : ℕ
  first : List Bool
  is : m ≡ of * 2 ^ levels + code first
  within : of < length functions
  level : length first < levels
  same : pair ≡ (length first, values (levels - length first) (λ rest. get_or functions of (λ _. false) (first ++ rest)))

numbered : (levels : ℕ) (functions : List (List Bool → Bool)) (pair : ℕ × List Bool) → IsNeeded levels functions pair → (m : ℕ) × Numbered levels functions pair m
numbered levels functions pair n = (
  n.of * 2 ^ levels + code n.first,
  record {
    of = n.of;
    first = n.first;
    is = refl;
    within = n.within;
    level = let b : length n.first ≡ pair.0 = n.bits in let l : pair.0 < levels = n.level in omega arith;
    same =
        ap (λ x. (pair.0, x)) n.is
        ∙ ap (λ k. (k, values (levels - k) (λ rest. get_or functions n.of (λ _. false) (n.first ++ rest)))) (sym n.bits);
  },
)

first_lt : (levels : ℕ) (first : List Bool) → length first < levels → code first < 2 ^ levels
first_lt levels first lt = let a : code first < 2 ^ suc (length first) = code_lt first in let b : 2 ^ suc (length first) ≤ 2 ^ levels = pow_le (suc (length first)) levels (omega arith) in omega arith

numbered_lt : (levels : ℕ) (functions : List (List Bool → Bool)) (pair : ℕ × List Bool) (m : ℕ) → Numbered levels functions pair m → m < length functions * 2 ^ levels
numbered_lt levels functions pair m n =
    let c : code n.first < 2 ^ levels = first_lt levels n.first n.level in
    let is : m ≡ n.of * 2 ^ levels + code n.first = n.is in
    let h : suc n.of * 2 ^ levels ≤ length functions * 2 ^ levels = mul_le (suc n.of) (length functions) (2 ^ levels) (let w : n.of < length functions = n.within in omega arith) in
    let k : suc n.of * 2 ^ levels ≡ n.of * 2 ^ levels + 2 ^ levels = suc-mul n.of (2 ^ levels) in
    omega arith

numbered_same : (levels : ℕ) (functions : List (List Bool → Bool)) (pair pair' : ℕ × List Bool) (m m' : ℕ) → Numbered levels functions pair m → Numbered levels functions pair' m' → m ≡ m' → pair ≡ pair'
numbered_same levels functions pair pair' m m' n n' e =
    let b = block n.of n'.of (code n.first) (code n'.first) (2 ^ levels) (first_lt levels n.first n.level) (first_lt levels n'.first n'.level) (sym n.is ∙ e ∙ n'.is) in
    let first : n.first ≡ n'.first = code_same n.first n'.first b.1 in
    let P : ℕ → List Bool → ℕ × List Bool = λ k x. (length x, values (levels - length x) (λ rest. get_or functions k (λ _. false) (x ++ rest))) in
    n.same ∙ ap (λ k. P k n.first) b.0 ∙ ap (λ x. P n'.of x) first ∙ sym n'.same

-- so many needed pairs only if there are functions and fixed bits enough
pub need_bound : (levels : ℕ) (functions : List (List Bool → Bool)) (count : ℕ) → NeedMoreThan levels functions count → count < length functions * 2 ^ levels
need_bound levels functions count (pairs, len, needed) =
    let index : (j : ℕ) → (m : ℕ) × (j < length pairs → Numbered levels functions (get_or pairs j (0, [])) m) = λ j.
    elim (cases_lt j (length pairs)) [
      | inl lt ↦ let n = numbered levels functions (get_or pairs j (0, [])) (needed.each j lt) in (n.0, λ _. n.1)
      | inr ge ↦ (0, λ lt. absurd (omega arith))
    ] in
    let le : length pairs ≤ length functions * 2 ^ levels = pigeonhole (length pairs) (length functions * 2 ^ levels) (λ j. (index j).0)
    (λ j lt. numbered_lt levels functions (get_or pairs j (0, [])) (index j).0 ((index j).1 lt))
    (λ j k lt lt' e. needed.distinct j k lt lt' (numbered_same levels functions (get_or pairs j (0, [])) (get_or pairs k (0, [])) (index j).0 (index k).0 ((index j).1 lt) ((index k).1 lt') e)) in
    omega arith
