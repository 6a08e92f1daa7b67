-- The texts of values: no comma stands in them, and those of one variable differ.
use Rattle.std.proofs.Common.{◌≡◌, ◌≢◌, ℕ, zero, suc, ◌+◌, ◌/◌, ◌%◌, ◌^◌, ◌<◌, ◌≤◌, ℤ, pos, negsuc, Bool, true, false, not, ◌&&◌, ◌||◌, ◌==◌, if◌then◌else◌, List, [], ◌∷◌, length, get_or, decimal, Option, Some, None, ◌⊎◌, inl, inr, refl, sym, ap, ◌∙◌, arith}
use Rattle.std.specs.Prelude.{nat_le, nat_lt, int_le, slice_get, slice_index}
use Rattle.std.specs.Fmt.{signed_decimal, digit_glyph, digits, digits_onto}
use Rattle.std.specs.List.{list_all, list_any, AllByRecursion}
use Rattle.std.specs.Str.Parse.{digits_value}
use Rattle.std.proofs.Math.Nat.{pow-suc}
use Rattle.std.proofs.lemmas.Bool.{and_parts, or_parts, eqb-true, leb-true, cases_lt}
use Rattle.std.proofs.lemmas.Bool.Decides.{nat_tests, Decides-eqb, Decides-int_eq}
use Rattle.std.proofs.lemmas.Fmt.{decimal_is_IsNumeral_wide, length-decimal-le}
use Rattle.std.proofs.lemmas.Option.{get_or_from_slice_get}
use Rattle.cov_syntax.specs.declared.tree.Value.{Value}
use Rattle.cov_syntax.specs.declared.tree.Value.TheVariants as v
use Rattle.cov_syntax.specs.Texts.{IsDistinctTexts}
use Rattle.cov_syntax.specs.Tokens.{Text}
use Rattle.cov_model.specs.declared.model.Model.{Model}
use Rattle.cov_model.specs.Names.{begins_name, goes_on, all_go_on, is_name, is_reserved}
use Rattle.cov_model.specs.Kinds.{is_truth, member}
use Rattle.cov_model.specs.Types.{has_twice}
use Rattle.cov_model.specs.Values.{is_small, same_value}
use Rattle.cov_model.specs.WellFormed.{is_symbol}
use Rattle.cov_show.specs.Cubes.{value_text}
use Rattle.cov_show.specs.States.{is_small_value}

-- ---- bytes

-- a byte that stands nowhere in a text
abbrev pub lacks : ℕ → Text → Bool
lacks c z = list_all (λ b. not (b == c)) z

not_byte : (b c : ℕ) → (b ≡ c → ⊥) → not (b == c) ≡ true
not_byte b c h = grind (arith, nat_tests)

-- ---- digits

-- decimal digits, and nothing else
abbrev pub are_digits : Text → Bool
are_digits [] = true
are_digits (b ∷ z) = (nat_le 48 b && nat_le b 57) && are_digits z

glyph_is : (d : ℕ) → d < 10 → digit_glyph false d ≡ 48 + d
glyph_is d h = let low : nat_lt d 10 ≡ true = grind (arith, nat_tests) in rw low refl

glyph_digit : (n : ℕ) → (nat_le 48 (digit_glyph false (n % 10)) && nat_le (digit_glyph false (n % 10)) 57) ≡ true
glyph_digit n =
    let below : n % 10 < 10 = omega arith in
    let is : digit_glyph false (n % 10) ≡ 48 + n % 10 = glyph_is (n % 10) below in
    let low : nat_le 48 (48 + n % 10) ≡ true = grind (arith, nat_tests) in
    let high : nat_le (48 + n % 10) 57 ≡ true = grind (arith, nat_tests) in
    rw (is, low, high) refl

onto_digits : (k n : ℕ) (acc : Text) → are_digits acc ≡ true → are_digits (digits_onto k 10 false n acc) ≡ true
onto_digits zero n acc h = h
onto_digits (suc k) n acc h =
    let more : are_digits (digit_glyph false (n % 10) ∷ acc) ≡ true = rw (glyph_digit n, h) refl in
    by (n / 10 == 0) more (onto_digits k (n / 10) (digit_glyph false (n % 10) ∷ acc) more)
  where
    by : (t : Bool) → are_digits (digit_glyph false (n % 10) ∷ acc) ≡ true → are_digits (digits_onto k 10 false (n / 10) (digit_glyph false (n % 10) ∷ acc)) ≡ true
        → are_digits (if t then digit_glyph false (n % 10) ∷ acc else digits_onto k 10 false (n / 10) (digit_glyph false (n % 10) ∷ acc)) ≡ true
    by true e f = e
    by false e f = f

decimal_onto : (n : ℕ) → decimal n ≡ digits_onto 64 10 false n []
unfolding digits
decimal_onto n = refl

decimal_digits : (n : ℕ) → are_digits (decimal n) ≡ true
decimal_digits n = ap are_digits (decimal_onto n) ∙ onto_digits 64 n [] refl

digits_lack : (c : ℕ) (z : Text) → c < 48 → are_digits z ≡ true → lacks c z ≡ true
digits_lack c [] h e = refl
digits_lack c (b ∷ z) h e =
    let p = and_parts (nat_le 48 b && nat_le b 57) (are_digits z) e in
    let q = and_parts (nat_le 48 b) (nat_le b 57) p.0 in
    let high : 48 ≤ b = grind (arith, nat_tests, q.0) in
    rw (not_byte b c (λ f. omega arith), digits_lack c z h p.1) refl

ten_positive : (k : ℕ) → 0 < 10 ^ k
ten_positive zero = omega arith
ten_positive (suc k) = omega (arith, pow-suc 10 k, ten_positive k)

-- a number of more than 64 digits shows 64 of them
onto_long : (k n : ℕ) (acc : Text) → 10 ^ k ≤ n → length (digits_onto k 10 false n acc) ≡ k + length acc
onto_long zero n acc h = omega arith
onto_long (suc k) n acc h = by (n / 10 == 0) refl (onto_long k (n / 10) (digit_glyph false (n % 10) ∷ acc))
  where
    by : (t : Bool) → (n / 10 == 0) ≡ t
        → (10 ^ k ≤ n / 10 → length (digits_onto k 10 false (n / 10) (digit_glyph false (n % 10) ∷ acc)) ≡ k + suc (length acc))
        → length (if t then digit_glyph false (n % 10) ∷ acc else digits_onto k 10 false (n / 10) (digit_glyph false (n % 10) ∷ acc)) ≡ suc k + length acc
    by true e f = let none : n / 10 ≡ 0 = eqb-true (n / 10) 0 e in absurd (omega (arith, h, pow-suc 10 k, ten_positive k))
    by false e f = let high : 10 ^ k ≤ n / 10 = omega (arith, h, pow-suc 10 k) in let more = f high in omega (arith, more)

long_decimal : (n : ℕ) → 10 ^ 64 ≤ n → length (decimal n) ≡ 64
long_decimal n h = ap length (decimal_onto n) ∙ onto_long 64 n [] h

-- a short number has its digits alone
decimal_alone : (m n : ℕ) → m < 10 ^ 10 → decimal m ≡ decimal n → m ≡ n
decimal_alone m n h e = by (cases_lt n (10 ^ 64))
  where
    by : (n < 10 ^ 64) ⊎ (10 ^ 64 ≤ n) → m ≡ n
    by (inl g) = sym (decimal_is_IsNumeral_wide m (omega arith)).1 ∙ ap (digits_value 10) e ∙ (decimal_is_IsNumeral_wide n g).1
    by (inr g) =
        let long = long_decimal n g in
        let short : length (decimal m) ≤ 10 = length-decimal-le 10 m (omega arith) h (omega arith) in
        absurd (omega (arith, ap length e, long, short))

no_minus : (m n : ℕ) → decimal m ≡ 45 ∷ decimal n → ⊥
no_minus m n e =
    let lack : lacks 45 (decimal m) ≡ true = digits_lack 45 (decimal m) (omega arith) (decimal_digits m) in
    let none : lacks 45 (45 ∷ decimal n) ≡ true = ap (lacks 45) (sym e) ∙ lack in
    cc

-- an integer of 32 bits has its text alone
pub integer_alone : (x y : ℤ) → is_small x ≡ true → signed_decimal x ≡ signed_decimal y → x ≡ y
integer_alone (pos m) (pos n) h e = ap pos (decimal_alone m n (small_pos m h) e)
  where
    small_pos : (m : ℕ) → is_small (pos m) ≡ true → m < 10 ^ 10
    small_pos m h =
        let p = and_parts (int_le (negsuc 2147483647) (pos m)) (int_le (pos m) (pos 2147483647)) h in
        let q : nat_le m 2147483647 ≡ true = p.1 in
        omega (arith, leb-true m 2147483647 q)
integer_alone (pos m) (negsuc n) h e = absurd (no_minus m (suc n) e)
integer_alone (negsuc m) (pos n) h e = absurd (no_minus n (suc m) (sym e))
integer_alone (negsuc m) (negsuc n) h e =
    let tail : decimal (suc m) ≡ decimal (suc n) = cc in
    let same : suc m ≡ suc n = decimal_alone (suc m) (suc n) (small_neg m h) tail in
    let body : m ≡ n = omega arith in
    ap negsuc body
  where
    small_neg : (m : ℕ) → is_small (negsuc m) ≡ true → suc m < 10 ^ 10
    small_neg m h =
        let p = and_parts (int_le (negsuc 2147483647) (negsuc m)) (int_le (negsuc m) (pos 2147483647)) h in
        let q : nat_le m 2147483647 ≡ true = p.0 in
        omega (arith, leb-true m 2147483647 q)

-- an integer begins with a digit or `-`
signed_first : (x : ℤ) (b : ℕ) (z : Text) → signed_decimal x ≡ b ∷ z → begins_name b ≡ false
signed_first (pos n) b z e =
    let all : are_digits (b ∷ z) ≡ true = ap are_digits (sym e) ∙ decimal_digits n in
    let p = and_parts (nat_le 48 b && nat_le b 57) (are_digits z) all in
    grind (arith, nat_tests, p.0)
signed_first (negsuc n) b z e = let minus : b ≡ 45 = cc in ap begins_name minus

signed_lacks : (c : ℕ) (x : ℤ) → c < 45 → lacks c (signed_decimal x) ≡ true
signed_lacks c (pos n) h = digits_lack c (decimal n) (omega arith) (decimal_digits n)
signed_lacks c (negsuc n) h =
    rw (not_byte 45 c (λ f. omega arith), digits_lack c (decimal (suc n)) (omega arith) (decimal_digits (suc n))) refl

-- ---- names

-- a byte that no name has
abbrev pub IsOutside : ℕ → Type 0
IsOutside c = (b after : ℕ) → goes_on b after ≡ true → not (b == c) ≡ true

pub comma_outside : IsOutside 44
comma_outside b after e = grind (arith, nat_tests)

pub line_end_outside : IsOutside 10
line_end_outside b after e = grind (arith, nat_tests)

go_on_lack : (c : ℕ) (z : Text) → IsOutside c → all_go_on z ≡ true → lacks c z ≡ true
go_on_lack c [] h e = refl
go_on_lack c (b ∷ z) h e =
    let p = and_parts (goes_on b (slice_index z 0)) (all_go_on z) e in
    rw (h b (slice_index z 0) p.0, go_on_lack c z h p.1) refl

name_parts : (b : ℕ) (z : Text) → is_name (b ∷ z) ≡ true → (begins_name b ≡ true) × (all_go_on (b ∷ z) ≡ true)
name_parts b z e =
    let p = and_parts (begins_name b && all_go_on (b ∷ z)) (not (is_reserved (b ∷ z))) e in
    and_parts (begins_name b) (all_go_on (b ∷ z)) p.0

pub name_lacks : (c : ℕ) (z : Text) → IsOutside c → is_name z ≡ true → lacks c z ≡ true
name_lacks c [] h e = refl
name_lacks c (b ∷ z) h e = go_on_lack c (b ∷ z) h (name_parts b z e).1

-- ---- values

-- a symbol has a name
pub record IsNamed (names : List Text) (k : ℕ) : Type 0 where
  pub text : Text
  pub there : slice_get names k ≡ Some text
  pub is : get_or names k [] ≡ text
  pub name : is_name text ≡ true

named : (m : Model) (k : ℕ) → is_symbol m (v.Sym k) ≡ true → IsNamed m.names k
named m k h = by (slice_get m.names k) refl h
  where
    by : (o : Option Text) → slice_get m.names k ≡ o → elim o [ Some t ↦ is_name t | None ↦ false ] ≡ true → IsNamed m.names k
    by None e f = cc
    by (Some t) e f = record { text = t; there = e; is = get_or_from_slice_get m.names k t [] e; name = f }

-- no value has such a byte
pub value_lacks : (m : Model) (c : ℕ) (x : Value) → c < 45 → IsOutside c → is_symbol m x ≡ true → lacks c (value_text m.names x) ≡ true
value_lacks m c (v.Bool true) h g e =
    rw (not_byte 84 c (λ f. omega arith), not_byte 82 c (λ f. omega arith), not_byte 85 c (λ f. omega arith), not_byte 69 c (λ f. omega arith)) refl
value_lacks m c (v.Bool false) h g e =
    rw (not_byte 70 c (λ f. omega arith), not_byte 65 c (λ f. omega arith), not_byte 76 c (λ f. omega arith), not_byte 83 c (λ f. omega arith), not_byte 69 c (λ f. omega arith)) refl
value_lacks m c (v.Int x) h g e = signed_lacks c x h
value_lacks m c (v.Sym k) h g e = let n = named m k e in rw n.is (name_lacks c n.text g n.name)

-- different texts stand at different places
different_text : (u : Text) (ts : List Text) (j : ℕ) (t : Text) → AllByRecursion (λ w. u ≢ w) ts → slice_get ts j ≡ Some t → u ≡ t → ⊥
different_text u [] j t h g e = cc
different_text u (w ∷ ts) zero t h g e = let same : w ≡ t = cc in h.0 (e ∙ sym same)
different_text u (w ∷ ts) (suc j) t h g e = different_text u ts j t h.1 g e

one_place : (ts : List Text) (i j : ℕ) (t : Text) → IsDistinctTexts ts → slice_get ts i ≡ Some t → slice_get ts j ≡ Some t → i ≡ j
one_place [] i j t d h g = cc
one_place (u ∷ ts) zero zero t d h g = refl
one_place (u ∷ ts) zero (suc j) t d h g = let same : u ≡ t = cc in absurd (different_text u ts j t d.0 g same)
one_place (u ∷ ts) (suc i) zero t d h g = let same : u ≡ t = cc in absurd (different_text u ts i t d.0 h same)
one_place (u ∷ ts) (suc i) (suc j) t d h g = ap suc (one_place ts i j t d.1 h g)

-- no integer has a name
no_number : (x : ℤ) (z : Text) → is_name z ≡ true → signed_decimal x ≡ z → ⊥
no_number x [] h e = cc
no_number x (b ∷ z) h e = let q = (name_parts b z h).0 in let p = signed_first x b z e in cc

-- a value of 32 bits has its text alone among those of its kind
pub value_alone : (m : Model) (x y : Value) → IsDistinctTexts m.names → is_symbol m x ≡ true → is_symbol m y ≡ true → is_truth x ≡ is_truth y → is_small_value x ≡ true
    → value_text m.names x ≡ value_text m.names y → x ≡ y
value_alone m (v.Bool true) (v.Bool true) d h g k s e = refl
value_alone m (v.Bool true) (v.Bool false) d h g k s e = cc
value_alone m (v.Bool false) (v.Bool true) d h g k s e = cc
value_alone m (v.Bool false) (v.Bool false) d h g k s e = refl
value_alone m (v.Bool b) (v.Int y) d h g k s e = cc
value_alone m (v.Bool b) (v.Sym j) d h g k s e = cc
value_alone m (v.Int x) (v.Bool b) d h g k s e = cc
value_alone m (v.Int x) (v.Int y) d h g k s e = ap v.Int (integer_alone x y s e)
value_alone m (v.Int x) (v.Sym j) d h g k s e = let n = named m j g in absurd (no_number x n.text n.name (e ∙ n.is))
value_alone m (v.Sym i) (v.Bool b) d h g k s e = cc
value_alone m (v.Sym i) (v.Int y) d h g k s e = let n = named m i h in absurd (no_number y n.text n.name (sym e ∙ n.is))
value_alone m (v.Sym i) (v.Sym j) d h g k s e =
    let a = named m i h in
    let b = named m j g in
    let same : a.text ≡ b.text = sym a.is ∙ e ∙ b.is in
    ap v.Sym (one_place m.names i j a.text d a.there (b.there ∙ ap (λ (t : Text). Some t) (sym same)))

-- ---- lists of values

same_self : (x : Value) → same_value x x ≡ true
same_self (v.Bool true) = refl
same_self (v.Bool false) = refl
same_self (v.Int x) = (Decides-int_eq x x).1 refl
same_self (v.Sym k) = (Decides-eqb k k).1 refl

has_member : (xs : List Value) (x : Value) (i : ℕ) → slice_get xs i ≡ Some x → member xs x ≡ true
has_member [] x i e = cc
has_member (y ∷ xs) x zero e =
    let same : y ≡ x = cc in
    ap (λ (z : Value). same_value z x || list_any (λ w. same_value w x) xs) same ∙ ap (λ (t : Bool). t || list_any (λ w. same_value w x) xs) (same_self x)
has_member (y ∷ xs) x (suc i) e = ap (λ (t : Bool). same_value y x || t) (has_member xs x i e) ∙ or_true (same_value y x)
  where
    or_true : (t : Bool) → (t || true) ≡ true
    or_true true = refl
    or_true false = refl

-- where no value stands twice, a value has one place
pub one_value : (xs : List Value) (i j : ℕ) (x : Value) → has_twice xs ≡ false → slice_get xs i ≡ Some x → slice_get xs j ≡ Some x → i ≡ j
one_value [] i j x h e f = cc
one_value (y ∷ xs) zero zero x h e f = refl
one_value (y ∷ xs) zero (suc j) x h e f =
    let p = or_parts (member xs y) (has_twice xs) h in
    let same : y ≡ x = cc in
    let again : member xs y ≡ true = has_member xs y j (f ∙ ap (λ (z : Value). Some z) (sym same)) in
    cc
one_value (y ∷ xs) (suc i) zero x h e f =
    let p = or_parts (member xs y) (has_twice xs) h in
    let same : y ≡ x = cc in
    let again : member xs y ≡ true = has_member xs y i (e ∙ ap (λ (z : Value). Some z) (sym same)) in
    cc
one_value (y ∷ xs) (suc i) (suc j) x h e f = ap suc (one_value xs i j x (or_parts (member xs y) (has_twice xs) h).1 e f)

-- all are Booleans, or none is
abbrev pub IsUniform : List Value → Type 0
IsUniform xs = (i j : ℕ) (x y : Value) → slice_get xs i ≡ Some x → slice_get xs j ≡ Some y → is_truth x ≡ is_truth y
