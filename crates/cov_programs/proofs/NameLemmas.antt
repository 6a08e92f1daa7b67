-- The names of a text: each is a name of the language, each name token has its place among them, and they are no more than the bytes.
use Rattle.std.proofs.Common.{◌≡◌, ◌≢◌, ℕ, suc, ◌+◌, ◌<◌, ◌≤◌, Bool, true, false, cond, not, ◌||◌, List, [], ◌∷◌, ◌++◌, length, map, slice_index, Ok, Err, nat_lt, refl, sym, ap, subst, arith, length-append}
use Rattle.std.specs.List.{AllByRecursion, list_all, list_any}
use Rattle.std.specs.Str.{bytes_eq}
use Rattle.std.specs.Cmp.Lexicographic.{bytes_decides}
use Rattle.std.proofs.lemmas.Bool.{and_from, and_parts, ltb-false}
use Rattle.std.proofs.lemmas.Bool.Decides.{nat_tests}
use Rattle.cov_model.specs.Names as model
use Rattle.cov_model.specs.Names.{is_name, all_go_on, is_reserved}
use Rattle.cov_syntax.specs.declared.fault.FaultKind.TheVariants.{FileTooLong}
use Rattle.cov_syntax.specs.declared.token.Token.{Token}
use Rattle.cov_syntax.specs.declared.token.TokenKind.{TokenKind}
use Rattle.cov_syntax.specs.declared.token.TokenKind.TheVariants as k
use Rattle.cov_syntax.specs.declared.words.Word.{Word}
use Rattle.cov_syntax.specs.Words.{word_spelling, used_words, left_out_words}
use Rattle.cov_syntax.specs.Cuts.{AllGoOn, IsSpelling, IsCut}
use Rattle.cov_syntax.specs.Lexemes.{spelling, with_name, names_after, names_from, names_of, place_of}
use Rattle.cov_syntax.specs.Tokens as f
use Rattle.cov_syntax.specs.Tokens.{Text, tokens, tokens_from, longest_text, fault_at, or_bad_byte}
use Rattle.cov_syntax.proofs.CutLemmas.{IsCut-tokens}

-- ---- a name token is written as a name

-- both say the same of a byte and the next one
goes_on_same : (b after : ℕ) → f.goes_on b after ≡ true → model.goes_on b after ≡ true
goes_on_same b after e = grind (arith, nat_tests)

-- a byte that goes on before any other goes on at the end
goes_on_last : (b after : ℕ) → f.goes_on b after ≡ true → model.goes_on b 0 ≡ true
goes_on_last b after e = grind (arith, nat_tests)

begins_same : (b : ℕ) → f.begins_name b ≡ true → model.begins_name b ≡ true
begins_same b e = grind (arith, nat_tests)

all_go_on_same : (behind : ℕ) (t : Text) → AllGoOn behind t → all_go_on t ≡ true
all_go_on_same behind [] h = refl
all_go_on_same behind (b ∷ []) h = and_from _ _ (goes_on_last b behind h.0) refl
all_go_on_same behind (b ∷ c ∷ t) h = and_from _ _ (goes_on_same b c h.0) (all_go_on_same behind (c ∷ t) h.1)

-- a text that no word is spelled as is not among the spellings
none_spelled : (t : Text) → ((w : Word) → word_spelling w ≢ t) → (words : List Word) → list_any (bytes_eq t) (map word_spelling words) ≡ false
none_spelled t h [] = refl
none_spelled t h (w ∷ words) = by (bytes_eq t (word_spelling w)) refl (none_spelled t h words)
  where
    by : (same : Bool) → bytes_eq t (word_spelling w) ≡ same → list_any (bytes_eq t) (map word_spelling words) ≡ false
        → (same || list_any (bytes_eq t) (map word_spelling words)) ≡ false
    by true e later = absurd (h w (sym ((bytes_decides t (word_spelling w)).0 e)))
    by false e later = later

no_reserved : (t : Text) → ((w : Word) → word_spelling w ≢ t) → is_reserved t ≡ false
unfolding is_reserved
no_reserved t h = none_spelled t h (used_words ++ left_out_words)

-- what is written as a name token is a name
pub is_name_spelled : (behind : ℕ) (t : Text) → IsSpelling k.Name behind t → is_name t ≡ true
is_name_spelled behind [] h = absurd (let e = h.0.0 in cc)
is_name_spelled behind (b ∷ t) h = and_from _ _ (and_from _ _ (begins_same b h.0.0) (all_go_on_same behind (b ∷ t) h.0.1)) (ap not (no_reserved (b ∷ t) h.1))

-- ---- the name tokens of a text

-- each name token of these is written as a name
abbrev pub AllSpelled : Text → List Token → Type 0
AllSpelled text ts = AllByRecursion (λ (t : Token). t.kind ≡ k.Name → is_name (spelling text t) ≡ true) ts

all_spelled : (text : Text) (from to : ℕ) (ts : List Token) → IsCut text from ts to → AllSpelled text ts
all_spelled text from to [] cut = tt
all_spelled text from to (t ∷ ts) cut = (
  λ e. is_name_spelled (slice_index text t.span.stop) (spelling text t) (subst (λ (kind : TokenKind). IsSpelling kind (slice_index text t.span.stop) (spelling text t)) e cut.0.token.spelled),
  all_spelled text t.span.stop to ts cut.1,
)

-- each token has a byte at least
length-cut : (text : Text) (from to : ℕ) (ts : List Token) → IsCut text from ts to → from + length ts ≤ to
length-cut text from to [] cut = omega (arith, cut.0)
length-cut text from to (t ∷ ts) cut = omega (arith, cut.0.later, cut.0.token.some, length-cut text t.span.stop to ts cut.1)

-- ---- the names of these tokens

list_all-with : (p : Text → Bool) (names : List Text) (x : Text) → list_all p names ≡ true → p x ≡ true → list_all p (names ++ x ∷ []) ≡ true
list_all-with p [] x all e = and_from _ _ e refl
list_all-with p (y ∷ names) x all e = let h = and_parts (p y) (list_all p names) all in and_from _ _ h.0 (list_all-with p names x h.1 e)

with_name_all : (names : List Text) (x : Text) → list_all is_name names ≡ true → is_name x ≡ true → list_all is_name (with_name names x) ≡ true
with_name_all names x all e = by (list_any (bytes_eq x) names)
  where
    by : (held : Bool) → list_all is_name (cond held names (names ++ x ∷ [])) ≡ true
    by true = all
    by false = list_all-with is_name names x all e

names_after_all : (names : List Text) (kind : TokenKind) (x : Text) → list_all is_name names ≡ true → (kind ≡ k.Name → is_name x ≡ true) → list_all is_name (names_after names kind x) ≡ true
names_after_all names k.Name x all h = with_name_all names x all (h refl)
names_after_all names k.Number x all h = all
names_after_all names (k.Word n) x all h = all
names_after_all names (k.Mark n) x all h = all

names_from_all : (text : Text) (names : List Text) (ts : List Token) → list_all is_name names ≡ true → AllSpelled text ts → list_all is_name (names_from text names ts) ≡ true
names_from_all text names [] all h = all
names_from_all text names (t ∷ ts) all h = names_from_all text (names_after names t.kind (spelling text t)) ts (names_after_all names t.kind (spelling text t) all h.0) h.1

length-with_name : (names : List Text) (x : Text) → length (with_name names x) ≤ suc (length names)
length-with_name names x = by (list_any (bytes_eq x) names)
  where
    by : (held : Bool) → length (cond held names (names ++ x ∷ [])) ≤ suc (length names)
    by true = omega arith
    by false = omega (arith, length-append names (x ∷ []))

length-names_after : (names : List Text) (kind : TokenKind) (x : Text) → length (names_after names kind x) ≤ suc (length names)
length-names_after names k.Name x = length-with_name names x
length-names_after names k.Number x = omega arith
length-names_after names (k.Word n) x = omega arith
length-names_after names (k.Mark n) x = omega arith

length-names_from : (text : Text) (names : List Text) (ts : List Token) → length (names_from text names ts) ≤ length names + length ts
length-names_from text names [] = omega arith
length-names_from text names (t ∷ ts) =
    omega (arith, length-names_after names t.kind (spelling text t), length-names_from text (names_after names t.kind (spelling text t)) ts)

-- ---- the names of a text

-- each is a name
pub all_are_names : (text : Text) (ts : List Token) → tokens text ≡ Ok ts → list_all is_name (names_of text ts) ≡ true
all_are_names text ts e = names_from_all text [] ts refl (all_spelled text 0 (length text) ts (IsCut-tokens text ts e))

-- a text that has tokens is not too long
short_text : (text : Text) (ts : List Token) → tokens text ≡ Ok ts → length text ≤ longest_text
unfolding tokens
short_text text ts e = by (nat_lt longest_text (length text)) refl e
  where
    by : (long : Bool) → nat_lt longest_text (length text) ≡ long → cond long (Err (fault_at FileTooLong 0 0)) (or_bad_byte (tokens_from 0 0 text)) ≡ Ok ts → length text ≤ longest_text
    by true l h = absurd cc
    by false l h = ltb-false longest_text (length text) l

-- and they are no more than bytes may stand in a text
pub not_too_many : (text : Text) (ts : List Token) → tokens text ≡ Ok ts → length (names_of text ts) ≤ longest_text
not_too_many text ts e = omega (arith, length-names_from text [] ts, length-cut text 0 (length text) ts (IsCut-tokens text ts e), short_text text ts e)

-- ---- the place of a name token

-- the name is among these
abbrev pub is_held : List Text → Text → Bool
is_held names x = list_any (bytes_eq x) names

-- its place is one of theirs
place_below : (x : Text) (names : List Text) → is_held names x ≡ true → place_of x names < length names
place_below x [] e = absurd cc
place_below x (y ∷ names) e = by (bytes_eq x y) e (λ h. place_below x names h)
  where
    by : (same : Bool) → (same || is_held names x) ≡ true → (is_held names x ≡ true → place_of x names < length names) → cond same 0 (suc (place_of x names)) < suc (length names)
    by true h later = omega arith
    by false h later = omega (arith, later h)

bytes_eq-refl : (x : Text) → bytes_eq x x ≡ true
bytes_eq-refl x = (bytes_decides x x).1 refl

-- a name that is held stays held
held_before : (names : List Text) (x y : Text) → is_held names x ≡ true → is_held (names ++ y ∷ []) x ≡ true
held_before [] x y e = absurd cc
held_before (z ∷ names) x y e = by (bytes_eq x z) e (λ h. held_before names x y h)
  where
    by : (same : Bool) → (same || is_held names x) ≡ true → (is_held names x ≡ true → is_held (names ++ y ∷ []) x ≡ true) → (same || is_held (names ++ y ∷ []) x) ≡ true
    by true h later = refl
    by false h later = later h

-- and one that is put is held
held_last : (names : List Text) (x : Text) → is_held (names ++ x ∷ []) x ≡ true
held_last [] x = let e = bytes_eq-refl x in rw e refl
held_last (z ∷ names) x = by (bytes_eq x z) (held_last names x)
  where
    by : (same : Bool) → is_held (names ++ x ∷ []) x ≡ true → (same || is_held (names ++ x ∷ []) x) ≡ true
    by true h = refl
    by false h = h

held_put : (names : List Text) (x : Text) → is_held (with_name names x) x ≡ true
held_put names x = by (is_held names x) refl
  where
    by : (held : Bool) → is_held names x ≡ held → is_held (cond held names (names ++ x ∷ [])) x ≡ true
    by true e = e
    by false e = held_last names x

held_with : (names : List Text) (x y : Text) → is_held names x ≡ true → is_held (with_name names y) x ≡ true
held_with names x y e = by (is_held names y)
  where
    by : (held : Bool) → is_held (cond held names (names ++ y ∷ [])) x ≡ true
    by true = e
    by false = held_before names x y e

held_after : (names : List Text) (kind : TokenKind) (x y : Text) → is_held names x ≡ true → is_held (names_after names kind y) x ≡ true
held_after names k.Name x y e = held_with names x y e
held_after names k.Number x y e = e
held_after names (k.Word n) x y e = e
held_after names (k.Mark n) x y e = e

held_put_after : (names : List Text) (kind : TokenKind) (x : Text) → kind ≡ k.Name → is_held (names_after names kind x) x ≡ true
held_put_after names kind x e = subst (λ (c : TokenKind). is_held (names_after names c x) x ≡ true) (sym e) (held_put names x)

held_from : (text : Text) (names : List Text) (ts : List Token) (x : Text) → is_held names x ≡ true → is_held (names_from text names ts) x ≡ true
held_from text names [] x e = e
held_from text names (t ∷ ts) x e = held_from text (names_after names t.kind (spelling text t)) ts x (held_after names t.kind x (spelling text t) e)

-- the name of each name token of these has its place
abbrev pub AllPlaced : Text → List Text → List Token → Type 0
AllPlaced text names ts = AllByRecursion (λ (t : Token). t.kind ≡ k.Name → place_of (spelling text t) names < length names) ts

placed_from : (text : Text) (names : List Text) (ts : List Token) → AllPlaced text (names_from text names ts) ts
placed_from text names [] = tt
placed_from text names (t ∷ ts) = (
  λ e. place_below (spelling text t) (names_from text (names_after names t.kind (spelling text t)) ts)
      (held_from text (names_after names t.kind (spelling text t)) ts (spelling text t) (held_put_after names t.kind (spelling text t) e)),
  placed_from text (names_after names t.kind (spelling text t)) ts,
)

-- each name token of a text has its place among its names
pub all_placed : (text : Text) (ts : List Token) → AllPlaced text (names_of text ts) ts
all_placed text ts = placed_from text [] ts
