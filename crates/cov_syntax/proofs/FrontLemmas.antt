-- What a text begins with.
use Rattle.std.proofs.Common.{◌≡◌, ◌≢◌, ℕ, zero, suc, ◌<◌, ◌≤◌, ◌⊎◌, inl, inr, Bool, true, false, cond, ◌||◌, ◌==◌, not, Option, Some, None, List, [], ◌∷◌, ◌++◌, find, length, take, take_while, slice_index, slice_get, nat_eq, nat_lt, refl, sym, ap, subst, ◌∙◌, arith, rules}
use Rattle.std.specs.List.{AllByRecursion, AllPass, list_all, starts_with}
use Rattle.std.specs.Char.{is_ascii_digit}
use Rattle.std.specs.Cmp.Lexicographic.{bytes_decides}
use Rattle.std.proofs.lemmas.Bool.{and_parts, eqb-true, ltb-true, not-true, or_right, both_ways}
use Rattle.std.proofs.lemmas.Bool.Decides.{nat_tests}
use Rattle.std.proofs.lemmas.List.{length-take, length-take-le}
use Rattle.std.proofs.lemmas.List.Sums.{take_while-cons}
use Rattle.std.proofs.lemmas.List.Elements.{All-from_recursion, recursion_from_All}
use Rattle.cov_syntax.specs.declared.token.TokenKind.{TokenKind}
use Rattle.cov_syntax.specs.declared.token.TokenKind.TheVariants as k
use Rattle.cov_syntax.specs.declared.marks.Mark.{Mark}
use Rattle.cov_syntax.specs.declared.marks.Mark.TheVariants as m
use Rattle.cov_syntax.specs.declared.words.Word.{Word}
use Rattle.cov_syntax.specs.Marks.{mark_spelling}
use Rattle.cov_syntax.specs.Tokens as f
use Rattle.cov_syntax.specs.Tokens.{Text, dash, line_feed, Front, front, is_blank, begins_comment, line_len, begins_name, goes_on, name_len, name_kind, number_len, spelled_word, marks_by_length, front_mark, mark_front}
use Rattle.cov_syntax.specs.Cuts.{AllGoOn, IsName, IsSpelling}
use Rattle.cov_syntax.proofs.WordLemmas.{spelled_word-word_spelling, word_spelling-spelled_word}

-- ---- bytes that pass a test

module _ (p : ℕ → Bool) where
  abbrev run_len : Text → ℕ
  run_len z = length (take_while p z)

  run_len-cons : (b : ℕ) (z : Text) → run_len (b ∷ z) ≡ cond (p b) (suc (run_len z)) 0
  run_len-cons b z = ap length (take_while-cons p b z) ∙ by_first (p b)
    where
      by_first : (yes : Bool) → length (cond yes (b ∷ take_while p z) []) ≡ cond yes (suc (run_len z)) 0
      by_first true = refl
      by_first false = refl

  run_len-yes : (b : ℕ) (z : Text) → p b ≡ true → run_len (b ∷ z) ≡ suc (run_len z)
  run_len-yes b z e = run_len-cons b z ∙ ap (λ t. cond t (suc (run_len z)) 0) e

  run_len-no : (b : ℕ) (z : Text) → p b ≡ false → run_len (b ∷ z) ≡ 0
  run_len-no b z e = run_len-cons b z ∙ ap (λ t. cond t (suc (run_len z)) 0) e

  run_len-within : (z : Text) → run_len z ≤ length z
  run_len-within [] = omega arith
  run_len-within (b ∷ z) = by_first (p b) refl (run_len-within z)
    where
      by_first : (yes : Bool) → p b ≡ yes → run_len z ≤ length z → run_len (b ∷ z) ≤ suc (length z)
      by_first true e later = omega (arith, run_len-yes b z e)
      by_first false e later = omega (arith, run_len-no b z e)

  run_passes : (z : Text) → AllByRecursion (λ b. p b ≡ true) (take (run_len z) z)
  run_passes [] = tt
  run_passes (b ∷ z) = by_first (p b) refl (run_passes z)
    where
      by_first : (yes : Bool) → p b ≡ yes → AllByRecursion (λ b. p b ≡ true) (take (run_len z) z) → AllByRecursion (λ b. p b ≡ true) (take (run_len (b ∷ z)) (b ∷ z))
      by_first true e later = rw (run_len-yes b z e) (e, later)
      by_first false e later = rw (run_len-no b z e) tt

  run_longest : (z : Text) (n : ℕ) → n ≤ length z → AllByRecursion (λ b. p b ≡ true) (take n z) → n ≤ run_len z
  run_longest z zero le h = omega arith
  run_longest [] (suc n) le h = absurd (omega arith)
  run_longest (b ∷ z) (suc n) le h = omega (arith, run_len-yes b z h.0, run_longest z n (omega arith) h.1)

  run_len-some : (z : Text) → 0 < length z → p (slice_index z 0) ≡ true → 0 < run_len z
  run_len-some [] some e = absurd (omega arith)
  run_len-some (b ∷ z) some e = omega (arith, run_len-yes b z e)

-- ---- names

-- what follows a byte is the same before and after the text is cut off further on
slice_index-take_then : (z : Text) (n : ℕ) → n ≤ length z → slice_index (take n z ++ slice_index z n ∷ []) 0 ≡ slice_index z 0
slice_index-take_then z zero le = refl
slice_index-take_then [] (suc n) le = absurd (omega arith)
slice_index-take_then (b ∷ z) (suc n) le = refl

name_len-within : (z : Text) → name_len z ≤ length z
name_len-within [] = omega arith
name_len-within (b ∷ z) = by_first (goes_on b (slice_index z 0)) (name_len-within z)
  where
    by_first : (more : Bool) → name_len z ≤ length z → cond more (suc (name_len z)) 0 ≤ suc (length z)
    by_first true later = omega arith
    by_first false later = omega arith

-- the bytes of a name go on
AllGoOn-name_len : (z : Text) → AllGoOn (slice_index z (name_len z)) (take (name_len z) z)
AllGoOn-name_len [] = tt
AllGoOn-name_len (b ∷ z) = by_first (goes_on b (slice_index z 0)) refl (AllGoOn-name_len z)
  where
    by_first : (more : Bool) → goes_on b (slice_index z 0) ≡ more → AllGoOn (slice_index z (name_len z)) (take (name_len z) z)
        → AllGoOn (slice_index (b ∷ z) (cond more (suc (name_len z)) 0)) (take (cond more (suc (name_len z)) 0) (b ∷ z))
    by_first true e later = (ap (λ after. goes_on b after) (slice_index-take_then z (name_len z) (name_len-within z)) ∙ e, later)
    by_first false e later = tt

-- and no more bytes do
name_longest : (z : Text) (n : ℕ) → n ≤ length z → AllGoOn (slice_index z n) (take n z) → n ≤ name_len z
name_longest z zero le h = omega arith
name_longest [] (suc n) le h = absurd (omega arith)
name_longest (b ∷ z) (suc n) le h =
    let goes : goes_on b (slice_index z 0) ≡ true = sym (ap (λ after. goes_on b after) (slice_index-take_then z n (omega arith))) ∙ h.0 in
    let later = name_longest z n (omega arith) h.1 in
    rw goes (omega arith)

-- the first byte of a front
slice_index-take : (z : Text) (n : ℕ) → 0 < n → slice_index (take n z) 0 ≡ slice_index z 0
slice_index-take z zero some = absurd (omega arith)
slice_index-take [] (suc n) some = refl
slice_index-take (b ∷ z) (suc n) some = refl

-- what begins a name goes on with it
goes_on-begins_name : (b after : ℕ) → begins_name b ≡ true → goes_on b after ≡ true
goes_on-begins_name b after e = grind (arith, nat_tests)

name_len-some : (z : Text) → begins_name (slice_index z 0) ≡ true → 0 < name_len z
name_len-some [] e = absurd cc
name_len-some (b ∷ z) e = let goes = goes_on-begins_name b (slice_index z 0) e in rw goes (omega arith)

-- a name begins as its text does
name_first : (z : Text) (behind n : ℕ) → IsName behind (take n z) → begins_name (slice_index z 0) ≡ true
name_first z behind zero h = absurd (let e = h.0 in cc)
name_first z behind (suc n) h = sym (ap begins_name (slice_index-take z (suc n) (omega arith))) ∙ h.0

-- a number too
number_first : (z : Text) (n : ℕ) → 0 < length (take n z) → AllPass is_ascii_digit (take n z) → is_ascii_digit (slice_index z 0) ≡ true
number_first z zero some h = absurd (omega arith)
number_first [] (suc n) some h = absurd (omega arith)
number_first (b ∷ z) (suc n) some h = h 0 0 (omega arith)

no_digit : (b : ℕ) → begins_name b ≡ true → is_ascii_digit b ≡ true → ⊥
no_digit b n d = grind (arith, nat_tests)

-- ---- marks

-- each mark has a place among them
placed : (mark : Mark) → (i : ℕ) × (slice_get marks_by_length i ≡ Some mark)
placed m.OpenParen = (7, refl)
placed m.CloseParen = (8, refl)
placed m.OpenBrace = (9, refl)
placed m.CloseBrace = (10, refl)
placed m.OpenBracket = (11, refl)
placed m.CloseBracket = (12, refl)
placed m.Comma = (13, refl)
placed m.Semicolon = (14, refl)
placed m.Colon = (15, refl)
placed m.Dot = (16, refl)
placed m.Dots = (1, refl)
placed m.Becomes = (2, refl)
placed m.Equal = (17, refl)
placed m.NotEqual = (3, refl)
placed m.Less = (18, refl)
placed m.LessEqual = (4, refl)
placed m.Greater = (19, refl)
placed m.GreaterEqual = (5, refl)
placed m.Plus = (20, refl)
placed m.Minus = (21, refl)
placed m.Star = (22, refl)
placed m.Slash = (23, refl)
placed m.Not = (24, refl)
placed m.And = (25, refl)
placed m.Or = (26, refl)
placed m.Implies = (6, refl)
placed m.Iff = (0, refl)

-- what a test says of all, it says of one
list_all-slice_get : {X : Type 0} (test : X → Bool) (xs : List X) (i : ℕ) (x : X) → list_all test xs ≡ true → slice_get xs i ≡ Some x → test x ≡ true
list_all-slice_get test [] i x all e = absurd cc
list_all-slice_get test (y ∷ xs) zero x all e = let same : y ≡ x = cc in subst (λ v. test v ≡ true) same (and_parts (test y) (list_all test xs) all).0
list_all-slice_get test (y ∷ xs) (suc i) x all e = list_all-slice_get test xs i x (and_parts (test y) (list_all test xs) all).1 e

-- no mark begins as a name or a number does
mark_first : (mark : Mark) → (begins_name (slice_index (mark_spelling mark) 0) || is_ascii_digit (slice_index (mark_spelling mark) 0)) ≡ false
mark_first mark = not-true _ (list_all-slice_get (λ v. not (begins_name (slice_index (mark_spelling v) 0) || is_ascii_digit (slice_index (mark_spelling v) 0))) marks_by_length (placed mark).0 mark refl (placed mark).1)

module _ {X : Type 0} (size : X → ℕ) where
  -- the sizes are at most n, and fall
  abbrev Falls : ℕ → List X → Type 0
  Falls n [] = Unit {0}
  Falls n (x ∷ xs) = (size x ≤ n) × Falls (size x) xs

  size-slice_get : (n : ℕ) (xs : List X) (i : ℕ) (x : X) → Falls n xs → slice_get xs i ≡ Some x → size x ≤ n
  size-slice_get n [] i x falls e = absurd cc
  size-slice_get n (y ∷ xs) zero x falls e = let same : y ≡ x = cc in subst (λ v. size v ≤ n) same falls.0
  size-slice_get n (y ∷ xs) (suc i) x falls e = omega (arith, falls.0, size-slice_get (size y) xs i x falls.1 e)

module _ {X : Type 0} (p : X → Bool) where
  -- what was found passes
  find_passes : (xs : List X) (x : X) → find p xs ≡ Some x → p x ≡ true
  find_passes [] x e = absurd cc
  find_passes (y ∷ xs) x e = by_first (p y) refl e (λ h. find_passes xs x h)
    where
      by_first : (yes : Bool) → p y ≡ yes → cond yes (Some y) (find p xs) ≡ Some x → (find p xs ≡ Some x → p x ≡ true) → p x ≡ true
      by_first true t h later = let same : y ≡ x = cc in subst (λ v. p v ≡ true) same t
      by_first false t h later = later h

  -- where nothing was found, none passes
  find_none : (xs : List X) (i : ℕ) (x : X) → slice_get xs i ≡ Some x → find p xs ≡ None → p x ≡ true → ⊥
  find_none [] i x at e pass = absurd cc
  find_none (y ∷ xs) i x at e pass = by_first (p y) refl i at e (λ j h g. find_none xs j x h g pass)
    where
      by_first : (yes : Bool) → p y ≡ yes → (j : ℕ) → slice_get (y ∷ xs) j ≡ Some x → cond yes (Some y) (find p xs) ≡ None
          → ((k : ℕ) → slice_get xs k ≡ Some x → find p xs ≡ None → ⊥) → ⊥
      by_first true t j h g later = absurd cc
      by_first false t zero h g later = let same : y ≡ x = cc in both_ways (p y) t (subst (λ v. p v ≡ true) (sym same) pass)
      by_first false t (suc j) h g later = later j h g

  -- among elements whose sizes fall, what was found first is the largest
  find_largest : (size : X → ℕ) (n : ℕ) (xs : List X) (i : ℕ) (x y : X) → Falls size n xs → find p xs ≡ Some x → slice_get xs i ≡ Some y → p y ≡ true → size y ≤ size x
  find_largest size n [] i x y falls e at pass = absurd cc
  find_largest size n (v ∷ xs) i x y falls e at pass = by_first (p v) refl i e at (λ j h g. find_largest size (size v) xs j x y falls.1 h g pass)
    where
      by_first : (yes : Bool) → p v ≡ yes → (j : ℕ) → cond yes (Some v) (find p xs) ≡ Some x → slice_get (v ∷ xs) j ≡ Some y
          → ((k : ℕ) → find p xs ≡ Some x → slice_get xs k ≡ Some y → size y ≤ size x) → size y ≤ size x
      by_first true t zero h g later = let same : x ≡ y = cc in omega (arith, ap size same)
      by_first true t (suc j) h g later = let same : v ≡ x = cc in omega (arith, ap size same, size-slice_get size (size v) xs j y falls.1 g)
      by_first false t zero h g later = let same : v ≡ y = cc in absurd (both_ways (p v) t (subst (λ u. p u ≡ true) (sym same) pass))
      by_first false t (suc j) h g later = later j h g

abbrev mark_len : Mark → ℕ
mark_len mark = length (mark_spelling mark)

-- each has a byte at least
mark_len-some : (mark : Mark) → 0 < mark_len mark
mark_len-some mark = ltb-true 0 _ (list_all-slice_get (λ v. nat_lt 0 (mark_len v)) marks_by_length (placed mark).0 mark refl (placed mark).1)

-- the longer marks come first
marks_fall : Falls mark_len 3 marks_by_length
marks_fall = search rules

-- a mark at the front has its bytes there
mark_at_front : (z : Text) (mark : Mark) → starts_with nat_eq z (mark_spelling mark) ≡ true → (mark_spelling mark ≡ take (mark_len mark) z) × (mark_len mark ≤ length z)
mark_at_front z mark e =
    let same : mark_spelling mark ≡ take (mark_len mark) z = (bytes_decides (mark_spelling mark) (take (mark_len mark) z)).0 e in
    (same, omega (arith, ap length same, length-take (mark_len mark) z))

-- and where its bytes are, the mark is
mark_from_front : (z : Text) (mark : Mark) (n : ℕ) → n ≤ length z → mark_spelling mark ≡ take n z → (starts_with nat_eq z (mark_spelling mark) ≡ true) × (mark_len mark ≡ n)
mark_from_front z mark n le e =
    let len : mark_len mark ≡ n = ap length e ∙ length-take-le n z le in
    ((bytes_decides (mark_spelling mark) (take (mark_len mark) z)).1 (e ∙ ap (λ k. take k z) (sym len)), len)

-- ---- what stands at the front

module _ (z : Text) where
  -- the first bytes are a token of this kind
  pub record IsTokenFront (kind : TokenKind) (n : ℕ) : Type 0 where
    pub some : 0 < n
    pub within : n ≤ length z
    pub spelled : IsSpelling kind (slice_index z n) (take n z)

  -- a blank or a comment
  abbrev pub IsBlankFront : ℕ → Type 0
  IsBlankFront n = (0 < n) × (n ≤ length z) × (((is_blank (slice_index z 0) ≡ true) × (n ≡ 1)) ⊎ ((begins_comment z ≡ true) × (n ≡ line_len z)))

  -- what a front says of the text
  abbrev pub IsFront : Front → Type 0
  IsFront (f.blank n) = IsBlankFront n
  IsFront (f.token kind n) = IsTokenFront kind n × ((other : TokenKind) (m : ℕ) → n < m → ¬ IsTokenFront other m)
  IsFront f.nothing = (is_blank (slice_index z 0) ≡ false) × (begins_comment z ≡ false) × ((other : TokenKind) (m : ℕ) → ¬ IsTokenFront other m)

  no_name : (behind n : ℕ) → begins_name (slice_index z 0) ≡ false → ¬ IsName behind (take n z)
  no_name behind n e h = both_ways _ e (name_first z behind n h)

  no_number : (n : ℕ) → is_ascii_digit (slice_index z 0) ≡ false → ¬ ((0 < length (take n z)) × AllPass is_ascii_digit (take n z))
  no_number n e h = both_ways _ e (number_first z n h.0 h.1)

  no_mark : (mark : Mark) (n : ℕ) → 0 < n → (begins_name (slice_index z 0) || is_ascii_digit (slice_index z 0)) ≡ true → mark_spelling mark ≢ take n z
  no_mark mark n some e h =
      let first : slice_index (mark_spelling mark) 0 ≡ slice_index z 0 = ap (λ t. slice_index t 0) h ∙ slice_index-take z n some in
      both_ways _ (sym (ap (λ b. begins_name b || is_ascii_digit b) first) ∙ mark_first mark) e

  module _ (begins : begins_name (slice_index z 0) ≡ true) where
    name_front : IsName (slice_index z (name_len z)) (take (name_len z) z)
    name_front = (ap begins_name (slice_index-take z (name_len z) (name_len-some z begins)) ∙ begins, AllGoOn-name_len z)

    -- the name of the front, by the reserved word that it spells
    name_token : (o : Option Word) → spelled_word (take (name_len z) z) ≡ o → IsTokenFront (name_kind o) (name_len z)
    name_token (Some w) e = record {
      some = name_len-some z begins;
      within = name_len-within z;
      spelled = (name_front, (w, refl, word_spelling-spelled_word _ w e));
    }
    name_token None e = record {
      some = name_len-some z begins;
      within = name_len-within z;
      spelled = (name_front, λ w h. let found = sym (ap spelled_word h) ∙ spelled_word-word_spelling w in absurd cc);
    }

    no_longer_name : (other : TokenKind) (m : ℕ) → name_len z < m → ¬ IsTokenFront other m
    no_longer_name k.Name m lt t = absurd (omega (arith, name_longest z m t.within t.spelled.0.1))
    no_longer_name k.Number m lt t = no_digit (slice_index z 0) begins (number_first z m t.spelled.0 t.spelled.1)
    no_longer_name (k.Word w) m lt t = absurd (omega (arith, name_longest z m t.within t.spelled.0.1))
    no_longer_name (k.Mark n) m lt t = no_mark t.spelled.0 m t.some (rw begins refl) t.spelled.2

  module _ (some : 0 < length z) (digit : is_ascii_digit (slice_index z 0) ≡ true) where
    number_token : IsTokenFront k.Number (number_len z)
    number_token =
        let more = run_len-some is_ascii_digit z some digit in
        let within = run_len-within is_ascii_digit z in
        record {
          some = more;
          within = within;
          spelled = (omega (arith, length-take-le (number_len z) z within), All-from_recursion _ _ (run_passes is_ascii_digit z));
        }

    no_longer_number : (other : TokenKind) (m : ℕ) → number_len z < m → ¬ IsTokenFront other m
    no_longer_number k.Name m lt t = no_digit (slice_index z 0) (name_first z _ m t.spelled.0) digit
    no_longer_number k.Number m lt t = absurd (omega (arith, run_longest is_ascii_digit z m t.within (recursion_from_All _ _ t.spelled.1)))
    no_longer_number (k.Word w) m lt t = no_digit (slice_index z 0) (name_first z _ m t.spelled.0) digit
    no_longer_number (k.Mark n) m lt t = no_mark t.spelled.0 m t.some (or_right (begins_name (slice_index z 0)) (is_ascii_digit (slice_index z 0)) digit) t.spelled.2

  module _ (no_begin : begins_name (slice_index z 0) ≡ false) (no_first : is_ascii_digit (slice_index z 0) ≡ false) where
    -- the longest mark at the front, or nothing
    mark_means : is_blank (slice_index z 0) ≡ false → begins_comment z ≡ false → (o : Option Mark) → front_mark z ≡ o → IsFront (mark_front o)
    unfolding front_mark
    mark_means blank comment (Some mark) e =
        let at = mark_at_front z mark (find_passes (λ v. starts_with nat_eq z (mark_spelling v)) marks_by_length mark e) in (
          record { some = mark_len-some mark; within = at.1; spelled = (mark, refl, at.0) },
          λ other m lt t. longer other m lt t,
        )
      where
        longer : (other : TokenKind) (m : ℕ) → mark_len mark < m → ¬ IsTokenFront other m
        longer k.Name m lt t = no_name _ m no_begin t.spelled.0
        longer k.Number m lt t = no_number m no_first t.spelled
        longer (k.Word w) m lt t = no_name _ m no_begin t.spelled.0
        longer (k.Mark n) m lt t =
            let there = mark_from_front z t.spelled.0 m t.within t.spelled.2 in
            absurd (omega (arith, there.1, find_largest (λ v. starts_with nat_eq z (mark_spelling v)) mark_len 3 marks_by_length (placed t.spelled.0).0 mark t.spelled.0 marks_fall e (placed t.spelled.0).1 there.0))
    mark_means blank comment None e = (blank, comment, λ other m t. none other m t)
      where
        none : (other : TokenKind) (m : ℕ) → ¬ IsTokenFront other m
        none k.Name m t = no_name _ m no_begin t.spelled.0
        none k.Number m t = no_number m no_first t.spelled
        none (k.Word w) m t = no_name _ m no_begin t.spelled.0
        none (k.Mark n) m t =
            find_none (λ v. starts_with nat_eq z (mark_spelling v)) marks_by_length (placed t.spelled.0).0 t.spelled.0 (placed t.spelled.0).1 e
            (mark_from_front z t.spelled.0 m t.within t.spelled.2).0

  -- the front, by the tests that are left
  abbrev number_or_less : Bool → Front
  number_or_less digit = cond digit (f.token k.Number (number_len z)) (mark_front (front_mark z))

  abbrev name_or_less : Bool → Front
  name_or_less name = cond name (f.token (name_kind (spelled_word (take (name_len z) z))) (name_len z)) (number_or_less (is_ascii_digit (slice_index z 0)))

  abbrev comment_or_less : Bool → Front
  comment_or_less comment = cond comment (f.blank (line_len z)) (name_or_less (begins_name (slice_index z 0)))

  module _ (some : 0 < length z) where
    comment_is : begins_comment z ≡ true → IsBlankFront (line_len z)
    comment_is e =
        let dashes = eqb-true (slice_index z 0) dash (and_parts (slice_index z 0 == dash) (slice_index z 1 == dash) e).0 in
        let goes : not (slice_index z 0 == line_feed) ≡ true = rw dashes refl in
        (run_len-some (λ b. not (b == line_feed)) z some goes, run_len-within (λ b. not (b == line_feed)) z, inr (e, refl))

    number_is : is_blank (slice_index z 0) ≡ false → begins_comment z ≡ false → begins_name (slice_index z 0) ≡ false
        → (digit : Bool) → is_ascii_digit (slice_index z 0) ≡ digit → IsFront (number_or_less digit)
    number_is blank comment name true e = (number_token some e, no_longer_number some e)
    number_is blank comment name false e = mark_means name e blank comment (front_mark z) refl

    name_is : is_blank (slice_index z 0) ≡ false → begins_comment z ≡ false → (name : Bool) → begins_name (slice_index z 0) ≡ name → IsFront (name_or_less name)
    name_is blank comment true e = (name_token e (spelled_word (take (name_len z) z)) refl, no_longer_name e)
    name_is blank comment false e = number_is blank comment e (is_ascii_digit (slice_index z 0)) refl

    comment_or_less_is : is_blank (slice_index z 0) ≡ false → (comment : Bool) → begins_comment z ≡ comment → IsFront (comment_or_less comment)
    comment_or_less_is blank true e = comment_is e
    comment_or_less_is blank false e = name_is blank e (begins_name (slice_index z 0)) refl

    -- what the front of a text is
    pub front_is : IsFront (front z)
    unfolding front
    front_is = by_blank (is_blank (slice_index z 0)) refl
      where
        by_blank : (blank : Bool) → is_blank (slice_index z 0) ≡ blank → IsFront (cond blank (f.blank 1) (comment_or_less (begins_comment z)))
        by_blank true e = (omega arith, some, inl (e, refl))
        by_blank false e = comment_or_less_is e (begins_comment z) refl
