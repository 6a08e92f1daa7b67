-- The tokens of names, numbers, reserved words and marks before a rest.
use Rattle.std.proofs.Common.{◌≡◌, ℕ, suc, ◌+◌, ◌-◌, ◌*◌, ◌<◌, ◌^◌, Bool, true, false, cond, not, ◌&&◌, ◌||◌, ◌==◌, [], ◌∷◌, ◌++◌, length, take, fold, slice_index, decimal, Option, refl, rules, sym, ap, ◌∙◌, arith}
use Rattle.std.specs.Char.{is_ascii_digit}
use Rattle.std.specs.List.{prefix_len}
use Rattle.std.specs.Str.{all_ascii_digits}
use Rattle.std.proofs.lemmas.Bool.{and_parts}
use Rattle.std.proofs.lemmas.Bool.Decides.{nat_tests}
use Rattle.std.proofs.lemmas.List.Folds.{length-prefix_len}
use Rattle.std.proofs.lemmas.Fmt.{digits_value-decimal, digits_decimal, decimal_nonempty}
use Rattle.std.proofs.lemmas.Str.Parse.{IsNumeralModel, FoldsDigits, numerals_by_fold, tells_all_ascii_digits}
use Rattle.std.proofs.lemmas.List.{take_at}
use Rattle.cov_syntax.specs.declared.token.TokenKind.TheVariants as k
use Rattle.cov_syntax.specs.declared.words.Word.{Word}
use Rattle.cov_syntax.specs.Lexemes.{value_of}
use Rattle.cov_syntax.specs.Tokens as spec
use Rattle.cov_syntax.specs.Tokens.{Text, dash, is_blank, begins_comment, begins_name, goes_on, name_len, number_len, spelled_word, name_kind, front_mark, front}

-- what may stand right behind a name, a number or a reserved word: nothing that goes on with it, and no `-` or `>`, which changes whether a last `-` does
pub record IsClear (rest : Text) : Type 0 where
  pub no_dash : (slice_index rest 0 == dash || slice_index rest 0 == 62) ≡ false
  pub no_name : name_len rest ≡ 0
  pub no_digit : number_len rest ≡ 0

-- ---- names and reserved words

last_goes_on : (b after : ℕ) → (after == dash || after == 62) ≡ false → goes_on b after ≡ goes_on b 0
last_goes_on b after e = ap (λ t. begins_name b || is_ascii_digit b || b == 36 || b == 35 || (b == dash && not t)) e

one_more : (t : Bool) (m n : ℕ) → cond t (suc m) 0 ≡ suc n → (t ≡ true) × (m ≡ n)
one_more true m n e = (refl, cc)
one_more false m n e = absurd cc

-- a name by itself is a name before a clear rest
name_cut : (w rest : Text) → name_len w ≡ length w → IsClear rest → name_len (w ++ rest) ≡ length w
name_cut [] rest e c = c.no_name
name_cut (b ∷ []) rest e c =
    let q = one_more (goes_on b 0) 0 0 e in
    let goes : goes_on b (slice_index rest 0) ≡ true = last_goes_on b (slice_index rest 0) c.no_dash ∙ q.0 in
    rw (goes, c.no_name) refl
name_cut (b ∷ d ∷ w) rest e c =
    let q = one_more (goes_on b d) (name_len (d ∷ w)) (length (d ∷ w)) e in
    let more = name_cut (d ∷ w) rest q.1 c in
    rw (q.0, more) refl

-- a byte that begins a name is no blank and no dash
pub name_begins : (b : ℕ) → begins_name b ≡ true → (is_blank b ≡ false) × ((b == dash) ≡ false)
name_begins b e = (grind (arith, nat_tests), grind (arith, nat_tests))

front_of_name : (z : Text) → is_blank (slice_index z 0) ≡ false → (slice_index z 0 == dash) ≡ false → begins_name (slice_index z 0) ≡ true
    → front z ≡ spec.token (name_kind (spelled_word (take (name_len z) z))) (name_len z)
unfolding front
front_of_name z no_blank no_dash begins = rw (no_blank, no_dash, begins) refl

pub front-name : (w rest : Text) (reserved : Option Word) → begins_name (slice_index w 0) ≡ true → name_len w ≡ length w → spelled_word w ≡ reserved → IsClear rest
    → front (w ++ rest) ≡ spec.token (name_kind reserved) (length w)
front-name [] rest reserved begins e is c = absurd cc
front-name (b ∷ w) rest reserved begins e is c =
    let q = name_begins b begins in
    front_of_name (b ∷ (w ++ rest)) q.0 q.1 begins
    ∙ ap (λ m. spec.token (name_kind (spelled_word (take m (b ∷ (w ++ rest))))) m) (name_cut (b ∷ w) rest e c)
    ∙ ap (λ (x : Text). spec.token (name_kind (spelled_word x)) (length (b ∷ w))) (take_at (b ∷ w) rest (length (b ∷ w)) refl)
    ∙ ap (λ r. spec.token (name_kind r) (length (b ∷ w))) is

-- ---- numbers

value_after : ℕ → Text → ℕ
value_after n ds = fold (λ m d. 10 * m + (d - 48)) n ds

value_folds : FoldsDigits value_after
unfolding value_after
value_folds = search rules

-- the texts of digits, and their values
own : IsNumeralModel (λ ds. all_ascii_digits ds ≡ true) (value_after 0)
own = numerals_by_fold (λ ds. all_ascii_digits ds ≡ true) tells_all_ascii_digits value_after value_folds

pub value_of-decimal : (n : ℕ) → n < 2 ^ 64 → value_of (decimal n) ≡ n
unfolding value_after
value_of-decimal n small = digits_value-decimal own n small

decimal_digits : (n : ℕ) → n < 2 ^ 64 → all_ascii_digits (decimal n) ≡ true
decimal_digits n small = digits_decimal own n small

digits_cut : (ds rest : Text) → all_ascii_digits ds ≡ true → prefix_len is_ascii_digit rest ≡ 0 → prefix_len is_ascii_digit (ds ++ rest) ≡ length ds
digits_cut [] rest e c = c
digits_cut (d ∷ ds) rest e c =
    let q = and_parts (is_ascii_digit d) (all_ascii_digits ds) e in
    let more = digits_cut ds rest q.1 c in
    rw q.0 (omega (arith, more))

number_cut : (ds rest : Text) → all_ascii_digits ds ≡ true → number_len rest ≡ 0 → number_len (ds ++ rest) ≡ length ds
number_cut ds rest e c = length-prefix_len is_ascii_digit (ds ++ rest) ∙ digits_cut ds rest e (sym (length-prefix_len is_ascii_digit rest) ∙ c)

-- a digit is no blank and no dash, and begins no name
pub digit_begins : (d : ℕ) → is_ascii_digit d ≡ true → (is_blank d ≡ false) × ((d == dash) ≡ false) × (begins_name d ≡ false)
digit_begins d e = (grind (arith, nat_tests), grind (arith, nat_tests), grind (arith, nat_tests))

front_of_number : (z : Text) → is_blank (slice_index z 0) ≡ false → (slice_index z 0 == dash) ≡ false → begins_name (slice_index z 0) ≡ false → is_ascii_digit (slice_index z 0) ≡ true
    → front z ≡ spec.token k.Number (number_len z)
unfolding front
front_of_number z no_blank no_dash no_name digit = rw (no_blank, no_dash, no_name, digit) refl

front_of_digits : (ds rest : Text) → 0 < length ds → all_ascii_digits ds ≡ true → IsClear rest → front (ds ++ rest) ≡ spec.token k.Number (length ds)
front_of_digits [] rest some e c = absurd (omega arith)
front_of_digits (d ∷ ds) rest some e c =
    let q = digit_begins d (and_parts (is_ascii_digit d) (all_ascii_digits ds) e).0 in
    front_of_number (d ∷ (ds ++ rest)) q.0 q.1 q.2 (and_parts (is_ascii_digit d) (all_ascii_digits ds) e).0
    ∙ ap (spec.token k.Number) (number_cut (d ∷ ds) rest e c.no_digit)

pub front-decimal : (n : ℕ) (rest : Text) → n < 2 ^ 64 → IsClear rest → front (decimal n ++ rest) ≡ spec.token k.Number (length (decimal n))
front-decimal n rest small c = front_of_digits (decimal n) rest (decimal_nonempty n small) (decimal_digits n small) c

-- ---- marks that are the front of a longer one

-- what may stand right behind a `!`, with which it makes no other mark, and behind a `-`
pub record Opens (b : ℕ) : Type 0 where
  pub no_equal : (61 == b) ≡ false
  pub no_above : (62 == b) ≡ false

pub front-not : (z : Text) → Opens (slice_index z 0) → front (33 ∷ z) ≡ spec.token (k.Mark 22) 1
unfolding front front_mark
front-not [] o = refl
front-not (c ∷ z) o = let e : (61 == c) ≡ false = o.no_equal in rw e refl

pub front-minus : (z : Text) → Opens (slice_index z 0) → (slice_index z 0 == dash) ≡ false → front (45 ∷ z) ≡ spec.token (k.Mark 19) 1
unfolding front front_mark
front-minus [] o e = refl
front-minus (c ∷ z) o e = let g : (62 == c) ≡ false = o.no_above in rw (e, g) refl

pub front-dot : (z : Text) → begins_name (slice_index z 0) ≡ true → front (46 ∷ z) ≡ spec.token (k.Mark 9) 1
unfolding front front_mark
front-dot [] e = absurd cc
front-dot (c ∷ z) e = let g : (46 == c) ≡ false = grind (arith, nat_tests) in rw g refl

pub Opens-name : (b : ℕ) → begins_name b ≡ true → Opens b
Opens-name b e = record { no_equal = grind (arith, nat_tests); no_above = grind (arith, nat_tests) }

pub Opens-digit : (d : ℕ) → is_ascii_digit d ≡ true → Opens d
Opens-digit d e = record { no_equal = grind (arith, nat_tests); no_above = grind (arith, nat_tests) }

pub first_digit : (n : ℕ) → n < 2 ^ 64 → is_ascii_digit (slice_index (decimal n) 0) ≡ true
first_digit n small = go (decimal n) (decimal_nonempty n small) (decimal_digits n small)
  where
    go : (ds : Text) → 0 < length ds → all_ascii_digits ds ≡ true → is_ascii_digit (slice_index ds 0) ≡ true
    go [] some e = absurd (omega arith)
    go (d ∷ ds) some e = (and_parts (is_ascii_digit d) (all_ascii_digits ds) e).0
