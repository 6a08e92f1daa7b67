-- The digits of a number, read from the left, are its decimal text.
use Rattle.std.proofs.Common.{ℕ, zero, suc, ◌≡◌, ◌≢◌, ◌<◌, ◌≤◌, ◌^◌, true, IsTrue, List, [], ◌∷◌, length, drop, refl, sym, ap, ◌∙◌, arith, lit<, decimal}
use Rattle.std.specs.Prelude.{nat_le, not, ◌&&◌, ◌==◌, slice_index}
use Rattle.std.specs.List.{list_all}
use Rattle.std.specs.Int.{IsInRange}
use Rattle.std.proofs.Math.Nat.{pow-le-pow_right}
use Rattle.std.proofs.lemmas.Bool.{and_parts, leb-true, eq-eqb}
use Rattle.std.proofs.lemmas.Bool.Decides.{nat_tests}
use Rattle.std.proofs.lemmas.Fmt.{decimal-digits_value, digits_decimal, length-decimal-le, decimal_digit, decimal_nonempty, first_decimal}
use Rattle.std.proofs.lemmas.Str.Parse.{IsDigitsTest, IsNumeralModel, numerals_by_fold, digits_value_short}
use Rattle.cov_model.specs.Names.{is_digit}
use Rattle.cov_evid.specs.Numbers.{digits_number, is_number}
use Rattle.cov_evid.specs.Spelling.{IsNumber}
use Rattle.cov_evid.proofs.Pieces.{is_line}

-- What is left of the digits completes the number, which has at most as many digits as were read.
pub record Reads (bs : List ℕ) (i n : ℕ) : Type 0 where
  pub digits : list_all is_digit (drop i bs) ≡ list_all is_digit bs
  pub value : digits_number n (drop i bs) ≡ digits_number 0 bs
  pub small : n < 10 ^ i

-- a number of at most eight digits has room for a ninth
pub room : (n i : ℕ) → n < 10 ^ i → i < 9 → n < 100000000
room n i h k =
    let less : i ≤ 8 = omega arith in
    let at_most : 10 ^ i ≤ 10 ^ 8 = pow-le-pow_right (lit< tt) less in
    omega arith

-- a digit is in its range
digit_range : (b : ℕ) → is_digit b ≡ true → IsInRange 48 57 b
digit_range b e = grind (arith, nat_tests)

range_digit : (b : ℕ) → IsInRange 48 57 b → is_digit b ≡ true
range_digit b h = grind (arith, nat_tests)

abbrev IsDigits : List ℕ → Type 0
IsDigits bs = list_all is_digit bs ≡ true

tells : IsDigitsTest IsDigits
tells = record {
  empty = refl;
  parts = λ b bs h. let p = and_parts (is_digit b) (list_all is_digit bs) h in (digit_range b p.0, p.1);
  more = λ b bs r h. rw (range_digit b r) h;
}

-- list_all and digits_number are the words of `decimal`
own : IsNumeralModel IsDigits (digits_number 0)
own = numerals_by_fold IsDigits tells digits_number (record { empty = λ n. refl; more = λ n c cs r. refl })

-- what a number's text is
pub record IsNumeral (bs : List ℕ) : Type 0 where
  pub some : 1 ≤ length bs
  pub few : length bs ≤ 9
  pub first : slice_index bs 0 ≢ 48
  pub digits : list_all is_digit bs ≡ true

numeral_parts : (bs : List ℕ) → is_number bs ≡ true → IsNumeral bs
numeral_parts bs e =
    let p = and_parts (nat_le 1 (length bs) && nat_le (length bs) 9 && not (slice_index bs 0 == 48)) (list_all is_digit bs) e in
    let q = and_parts (nat_le 1 (length bs) && nat_le (length bs) 9) (not (slice_index bs 0 == 48)) p.0 in
    let r = and_parts (nat_le 1 (length bs)) (nat_le (length bs) 9) q.0 in
    record {
      some = leb-true 1 (length bs) r.0;
      few = leb-true (length bs) 9 r.1;
      first = λ same. let t = eq-eqb (slice_index bs 0) 48 same in absurd (let no = rw t at q.1 in cc);
      digits = p.1;
    }

-- 0 is the text that begins with 0
positive : (n : ℕ) (bs : List ℕ) → decimal n ≡ bs → slice_index bs 0 ≢ 48 → 1 ≤ n
positive zero bs e h = absurd (h (ap (λ (z : List ℕ). slice_index z 0) (sym e ∙ decimal_digit 0 (lit< tt))))
positive (suc n) bs e h = omega arith

leb_is : (a b : ℕ) → a ≤ b → nat_le a b ≡ true
leb_is a b h = grind (arith, nat_tests)

other_first : (b : ℕ) → 48 < b → not (b == 48) ≡ true
other_first b h = grind (arith, nat_tests)

-- digits without a leading zero are the text of their number
pub decimal_is : (bs : List ℕ) → is_number bs ≡ true → IsNumber (digits_number 0 bs) × (bs ≡ decimal (digits_number 0 bs))
decimal_is bs e =
    let p = numeral_parts bs e in
    let small : digits_number 0 bs < 10 ^ 9 = digits_value_short own bs 9 p.digits p.few in
    let text : decimal (digits_number 0 bs) ≡ bs =
    decimal-digits_value own bs p.digits p.some (λ zero_first. absurd (p.first zero_first)) (omega arith) in
    let least : 1 ≤ digits_number 0 bs = positive (digits_number 0 bs) bs text p.first in
    ((least, omega arith), sym text)

-- a number has such a text
pub is_decimal : (n : ℕ) → IsNumber n → is_number (decimal n) ≡ true
is_decimal n h =
    let fits : n < 2 ^ 64 = omega arith in
    let some = leb_is 1 (length (decimal n)) (decimal_nonempty n fits) in
    let few = leb_is (length (decimal n)) 9 (length-decimal-le 9 n (omega arith) (omega arith) fits) in
    let first = other_first (slice_index (decimal n) 0) (first_decimal n (omega arith) fits) in
    let digits = digits_decimal own n fits in
    rw (some, few, first, digits) refl

-- no LF stands in it
digits_line : (bs : List ℕ) → list_all is_digit bs ≡ true → IsTrue (is_line bs)
digits_line [] h = refl
digits_line (b ∷ bs) h =
    let p = and_parts (is_digit b) (list_all is_digit bs) h in
    rw (other_end b (digit_range b p.0)) (digits_line bs p.1)
  where
    other_end : (b : ℕ) → IsInRange 48 57 b → not (b == 10) ≡ true
    other_end b r = grind (arith, nat_tests)

pub decimal_line : (n : ℕ) → IsNumber n → IsTrue (is_line (decimal n))
decimal_line n h = digits_line (decimal n) (numeral_parts (decimal n) (is_decimal n h)).digits
