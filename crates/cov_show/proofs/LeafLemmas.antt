-- Integers, names and paths are read again.
use Rattle.std.proofs.Common.{◌≡◌, ◌≢◌, ℕ, zero, suc, ◌+◌, ◌<◌, ◌≤◌, ◌^◌, min, Bool, true, false, ◌&&◌, ◌==◌, ◌⊎◌, inl, inr, nat_lt, is_none, ℤ, pos, negsuc, neg_ℤ, List, [], ◌∷◌, ◌++◌, length, slice_index, slice_index_or, decimal, codes, Option, Some, None, refl, sym, ap, subst, ◌∙◌, arith, append_assoc}
use Rattle.std.specs.Char.{is_ascii_digit}
use Rattle.std.specs.Fmt.{signed_decimal}
use Rattle.std.specs.List.{list_all, AllByRecursion}
use Rattle.std.specs.Str.{bytes_eq}
use Rattle.std.specs.Cmp.Lexicographic.{bytes_decides}
use Rattle.std.proofs.lemmas.Bool.{and_parts, ltb-true, eqb-true}
use Rattle.std.proofs.lemmas.Fmt.{decimal_nonempty}
use Rattle.std.proofs.lemmas.List.{append-nil}
use Rattle.cov_syntax.specs.declared.lexeme.Lexeme.{Lexeme}
use Rattle.cov_syntax.specs.declared.lexeme.Terminal.TheVariants as k
use Rattle.cov_syntax.specs.declared.token.TokenKind.TheVariants as token
use Rattle.cov_syntax.specs.declared.words.Word.{Word}
use Rattle.cov_syntax.specs.Lexemes.{Lexemes, kind, place_of, greatest_number, value_of}
use Rattle.cov_syntax.specs.Reading.{ReadsInt, ReadsName, ReadsPath}
use Rattle.cov_syntax.specs.Reading.{ReadsSeparated.last, ReadsSeparated.more, ReadsInt.plain, ReadsInt.minus, ReadsName.name}
use Rattle.cov_syntax.specs.Texts.{IsDistinctTexts}
use Rattle.cov_syntax.specs.Tokens.{Text, begins_name, name_len, spelled_word, front, front_mark}
use Rattle.cov_show.specs.Printing.{path_text}
use Rattle.cov_show.specs.ReadAgain.{is_name, is_named}
use Rattle.cov_show.proofs.WrittenTexts.{Written, word, lexeme_before}
use Rattle.cov_show.proofs.WordLemmas.{IsClear, Opens, Opens-digit, front-name, front-decimal, front-minus, front-dot, value_of-decimal, first_digit, digit_begins}
use Rattle.cov_show.proofs.Again.{clear_dot}

-- ---- integers

-- no more than the greatest number
pub record IsShort (i : ℤ) : Type 0 where
  pub size : ℕ
  pub small : size ≤ greatest_number
  pub either : (i ≡ pos size) ⊎ ((m : ℕ) × (size ≡ suc m) × (i ≡ negsuc m))

-- an integer that the grammar reads
pub short : {xs ys : Lexemes} {i : ℤ} → ReadsInt xs i ys → IsShort i
short (plain {t = t} e le) = record { size = t.value; small = le; either = inl refl }
short (minus {u = u} e g le) = negative u.value le
  where
    negative : (n : ℕ) → n ≤ greatest_number → IsShort (neg_ℤ (pos n))
    negative zero le = record { size = zero; small = le; either = inl refl }
    negative (suc m) le = record { size = suc m; small = le; either = inr (m, refl, refl) }

-- A text whose front is read as the integer.
pub record RereadsInt (total : ℕ) (names : List Text) (z : Text) (i : ℤ) (ys : Lexemes) : Type 0 where
  pub xs : Lexemes
  pub written : Written total names z xs
  pub reads : ReadsInt xs i ys
  pub opens : Opens (slice_index z 0)

-- the first byte of a text that is not empty
first_byte : (w rest : Text) → 0 < length w → slice_index (w ++ rest) 0 ≡ slice_index w 0
first_byte [] rest some = absurd (omega arith)
first_byte (b ∷ w) rest some = refl

module _ (total : ℕ) (names : List Text) where
  number : (n : ℕ) (rest : Text) (ys : Lexemes) → n ≤ greatest_number → IsClear rest → Written total names rest ys
      → Written total names (decimal n ++ rest) (lexeme_before total names token.Number (decimal n) rest ∷ ys)
  number n rest ys le c h = let small : n < 2 ^ 64 = omega arith in word token.Number (decimal n) rest (decimal_nonempty n small) (front-decimal n rest small c) h

  -- it begins with a digit
  digit_before : (n : ℕ) (rest : Text) → n ≤ greatest_number → is_ascii_digit (slice_index (decimal n ++ rest) 0) ≡ true
  digit_before n rest le =
      let small : n < 2 ^ 64 = omega arith in
      ap is_ascii_digit (first_byte (decimal n) rest (decimal_nonempty n small)) ∙ first_digit n small

  -- the value of its lexeme
  number_value : (n : ℕ) → n ≤ greatest_number → min (value_of (decimal n)) (greatest_number + 1) ≡ n
  number_value n le = let small : n < 2 ^ 64 = omega arith in rw (value_of-decimal n small) (omega arith)

  pub again_int : (i : ℤ) → IsShort i → (rest : Text) (ys : Lexemes) → IsClear rest → Written total names rest ys → RereadsInt total names (signed_decimal i ++ rest) i ys
  again_int i s rest ys c h = elim s.either [ inl e ↦ subst (λ (j : ℤ). RereadsInt total names (signed_decimal j ++ rest) j ys) (sym e) positive | inr (m, e, g) ↦ subst (λ (j : ℤ). RereadsInt total names (signed_decimal j ++ rest) j ys) (sym g) (negative m (omega (arith, e, s.small))) ]
    where
      n : ℕ
      n = s.size

      positive : RereadsInt total names (decimal n ++ rest) (pos n) ys
      positive = record {
        xs = lexeme_before total names token.Number (decimal n) rest ∷ ys;
        written = number n rest ys s.small c h;
        reads = subst (λ (v : ℕ). ReadsInt (lexeme_before total names token.Number (decimal n) rest ∷ ys) (pos v) ys) (number_value n s.small)
            (plain refl (omega (arith, number_value n s.small, s.small)));
        opens = Opens-digit (slice_index (decimal n ++ rest) 0) (digit_before n rest s.small);
      }

      negative : (m : ℕ) → suc m ≤ greatest_number → RereadsInt total names (45 ∷ (decimal (suc m) ++ rest)) (negsuc m) ys
      negative m le =
          let digit : is_ascii_digit (slice_index (decimal (suc m) ++ rest) 0) ≡ true = digit_before (suc m) rest le in
          record {
            xs = lexeme_before total names (token.Mark 19) (45 ∷ []) (decimal (suc m) ++ rest) ∷ lexeme_before total names token.Number (decimal (suc m)) rest ∷ ys;
            written = word (token.Mark 19) (45 ∷ []) (decimal (suc m) ++ rest) (omega arith)
                (front-minus (decimal (suc m) ++ rest) (Opens-digit (slice_index (decimal (suc m) ++ rest) 0) digit) (digit_begins (slice_index (decimal (suc m) ++ rest) 0) digit).1)
                (number (suc m) rest ys le c h);
            reads = subst (λ (v : ℕ). ReadsInt (lexeme_before total names (token.Mark 19) (45 ∷ []) (decimal (suc m) ++ rest) ∷ lexeme_before total names token.Number (decimal (suc m)) rest ∷ ys) (neg_ℤ (pos v)) ys) (number_value (suc m) le)
                (minus refl refl (omega (arith, number_value (suc m) le, le)));
            opens = record { no_equal = refl; no_above = refl };
          }

-- ---- names

all_at : (P : Text → Type 0) (ts : List Text) (i : ℕ) → AllByRecursion P ts → i < length ts → P (slice_index_or ts i [])
all_at P [] i h lt = absurd (omega arith)
all_at P (t ∷ ts) zero h lt = h.0
all_at P (t ∷ ts) (suc i) h lt = all_at P ts i h.1 (omega arith)

-- the place of a text among distinct texts
place_of-distinct : (ts : List Text) (i : ℕ) → IsDistinctTexts ts → i < length ts → place_of (slice_index_or ts i []) ts ≡ i
place_of-distinct [] i d lt = absurd (omega arith)
place_of-distinct (t ∷ ts) zero d lt = let e : bytes_eq t t ≡ true = (bytes_decides t t).1 refl in rw e refl
place_of-distinct (t ∷ ts) (suc i) d lt =
    let below : i < length ts = omega arith in
    let differs : t ≢ slice_index_or ts i [] = all_at (λ u. t ≢ u) ts i d.0 below in
    let e : bytes_eq (slice_index_or ts i []) t ≡ false = by_test (bytes_eq (slice_index_or ts i []) t) refl differs in
    rw e (ap suc (place_of-distinct ts i d.1 below))
  where
    by_test : (b : Bool) → bytes_eq (slice_index_or ts i []) t ≡ b → t ≢ slice_index_or ts i [] → b ≡ false
    by_test true e differs = absurd (differs (sym ((bytes_decides (slice_index_or ts i []) t).0 e)))
    by_test false e differs = refl

record IsName (t : Text) : Type 0 where
  begins : begins_name (slice_index t 0) ≡ true
  whole : name_len t ≡ length t
  no_word : spelled_word t ≡ None
  some : 0 < length t

name_parts : (t : Text) → is_name t ≡ true → IsName t
name_parts t e =
    let p = and_parts (begins_name (slice_index t 0) && name_len t == length t) (is_none (spelled_word t)) e in
    let q = and_parts (begins_name (slice_index t 0)) (name_len t == length t) p.0 in
    record { begins = q.0; whole = eqb-true (name_len t) (length t) q.1; no_word = none (spelled_word t) p.1; some = not_empty t q.0 }
  where
    none : (o : Option Word) → is_none o ≡ true → o ≡ None
    none None e = refl
    none (Some w) e = absurd cc

    not_empty : (t : Text) → begins_name (slice_index t 0) ≡ true → 0 < length t
    not_empty [] e = absurd cc
    not_empty (b ∷ t) e = omega arith

-- A text whose front is the name of a number.
record RereadsName (total : ℕ) (names : List Text) (z : Text) (i : ℕ) (ys : Lexemes) : Type 0 where
  t : Lexeme
  written : Written total names z (t ∷ ys)
  is_name : t.kind ≡ k.Name
  value : t.value ≡ i
  begins : begins_name (slice_index z 0) ≡ true

-- A text whose front is read as the path.
pub record RereadsPath (total : ℕ) (names : List Text) (z : Text) (path : List ℕ) (ys : Lexemes) : Type 0 where
  pub xs : Lexemes
  pub written : Written total names z xs
  pub reads : ReadsPath xs path ys
  pub begins : begins_name (slice_index z 0) ≡ true
  pub is_name : kind xs ≡ k.Name

module _ (total : ℕ) (names : List Text) (distinct : IsDistinctTexts names) where
  abbrev label : ℕ → Text
  label i = slice_index_or names i []

  again_name : (i : ℕ) → is_named names i ≡ true → (rest : Text) (ys : Lexemes) → IsClear rest → Written total names rest ys → RereadsName total names (label i ++ rest) i ys
  again_name i e rest ys c h =
      let p = and_parts (nat_lt i (length names)) (is_name (label i)) e in
      let n = name_parts (label i) p.1 in
      record {
        t = lexeme_before total names token.Name (label i) rest;
        written = word token.Name (label i) rest n.some (front-name (label i) rest None n.begins n.whole n.no_word c) h;
        is_name = refl;
        value = place_of-distinct names i distinct (ltb-true i (length names) p.0);
        begins = ap begins_name (first_byte (label i) rest n.some) ∙ n.begins;
      }

  reads_name : (t : Lexeme) (ys : Lexemes) (i : ℕ) → t.kind ≡ k.Name → t.value ≡ i → ReadsName (t ∷ ys) i ys
  reads_name t ys i e v = subst (λ (j : ℕ). ReadsName (t ∷ ys) j ys) v (name e)

  path_last : (i : ℕ) → is_named names i ≡ true → (rest : Text) (ys : Lexemes) → IsClear rest → Written total names rest ys
      → RereadsPath total names (path_text names [] (i ∷ []) ++ rest) (i ∷ []) ys
  path_last i e rest ys c h =
      let q = again_name i e rest ys c h in
      subst (λ (z : Text). RereadsPath total names (z ++ rest) (i ∷ []) ys) (sym (append-nil (label i)))
      (record { xs = q.t ∷ ys; written = q.written; reads = last (reads_name q.t ys i q.is_name q.value); begins = q.begins; is_name = q.is_name })

  path_more : (i : ℕ) (path : List ℕ) → is_named names i ≡ true → path_text names (codes ".") path ≡ 46 ∷ path_text names [] path
      → (rest : Text) (ys : Lexemes) → RereadsPath total names (path_text names [] path ++ rest) path ys
      → RereadsPath total names (path_text names [] (i ∷ path) ++ rest) (i ∷ path) ys
  unfolding front front_mark
  path_more i path e dotted rest ys q =
      let z : Text = path_text names [] path ++ rest in
      let dot : Lexeme = lexeme_before total names (token.Mark 9) (46 ∷ []) z in
      let marked : Written total names (46 ∷ z) (dot ∷ q.xs) = word (token.Mark 9) (46 ∷ []) z (omega arith) (front-dot z q.begins) q.written in
      let p = again_name i e (46 ∷ z) (dot ∷ q.xs) (clear_dot z) marked in
      let is : label i ++ (46 ∷ z) ≡ path_text names [] (i ∷ path) ++ rest =
      sym (append_assoc (label i) (46 ∷ path_text names [] path) rest) ∙ ap (λ (y : Text). (label i ++ y) ++ rest) (sym dotted) in
      subst (λ (y : Text). RereadsPath total names y (i ∷ path) ys) is
      (record { xs = p.t ∷ dot ∷ q.xs; written = p.written; reads = more refl (reads_name p.t (dot ∷ q.xs) i p.is_name p.value) q.reads; begins = p.begins; is_name = p.is_name })

  dotted : {xs ys : Lexemes} {path : List ℕ} → ReadsPath xs path ys → path_text names (codes ".") path ≡ 46 ∷ path_text names [] path
  dotted (last p) = refl
  dotted (more e p q) = refl

  pub again_path : {ps qs : Lexemes} {path : List ℕ} → ReadsPath ps path qs → list_all (is_named names) path ≡ true
      → (rest : Text) (ys : Lexemes) → IsClear rest → Written total names rest ys → RereadsPath total names (path_text names [] path ++ rest) path ys
  again_path (last {a = i} p) e rest ys c h = path_last i (and_parts (is_named names i) true e).0 rest ys c h
  again_path (more {a = i} {as' = path} d p q) e rest ys c h =
      let named = and_parts (is_named names i) (list_all (is_named names) path) e in
      path_more i path named.0 (dotted q) rest ys (again_path q named.1 rest ys c h)
