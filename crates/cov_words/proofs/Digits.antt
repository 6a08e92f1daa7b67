-- The digits of a number, read from the left.
use Rattle.std.proofs.Common.{ℕ, ◌≡◌, ◌<◌, ◌≤◌, ◌^◌, List, drop, arith, lit<}
use Rattle.std.specs.List.{list_all}
use Rattle.std.proofs.Math.Nat.{pow-le-pow_right}
use Rattle.cov_words.specs.Words.{is_digit, digits_number}

-- What is left of the digits completes the number, which has at most as many digits as were read.
pub record Reads (bs : List ℕ) (i n : ℕ) : Type 0 where
  pub digits : list_all is_digit (drop i bs) ≡ list_all is_digit bs
  pub value : digits_number n (drop i bs) ≡ digits_number 0 bs
  pub small : n < 10 ^ i

-- a number of at most eight digits has room for a ninth
pub room : (n i : ℕ) → n < 10 ^ i → i < 9 → n < 100000000
room n i h k =
    let less : i ≤ 8 = omega arith in
    let at_most : 10 ^ i ≤ 10 ^ 8 = pow-le-pow_right (lit< tt) less in
    omega arith
