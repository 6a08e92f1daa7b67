-- Lexemes whose names are below a number, and what is read of them in lists.
use Rattle.std.proofs.Common.{◌≡◌, ℕ, ◌<◌, Bool, true, false, nat_lt, List, [], ◌∷◌, map, length, Option, Some, None, refl}
use Rattle.std.specs.Prelude.{ℤ}
use Rattle.std.specs.List.{AllByRecursion, list_all}
use Rattle.std.proofs.lemmas.Bool.{and_from, lt-ltb}
use Rattle.cov_syntax.specs.declared.lexeme.Lexeme.{Lexeme}
use Rattle.cov_syntax.specs.declared.lexeme.Terminal.{Terminal}
use Rattle.cov_syntax.specs.declared.lexeme.Terminal.TheVariants as k
use Rattle.cov_syntax.specs.declared.marks.Mark.{Mark}
use Rattle.cov_syntax.specs.declared.token.Token.{Token}
use Rattle.cov_syntax.specs.declared.token.TokenKind.{TokenKind}
use Rattle.cov_syntax.specs.declared.token.TokenKind.TheVariants as token
use Rattle.cov_syntax.specs.declared.words.Word.{Word}
use Rattle.cov_syntax.specs.Lexemes.{Lexemes, terminal_of, of_word, of_mark, meaning, lexeme_of, spelling, place_of}
use Rattle.cov_syntax.specs.Marks.{mark_numbered}
use Rattle.cov_syntax.specs.Words.{word_numbered}
use Rattle.cov_syntax.specs.Reading.{ReadsSeparated, ReadsInt, ReadsName, ReadsPath}
use Rattle.cov_syntax.specs.Programs.{ReadsInParens, ReadsSpelled}
use Rattle.cov_syntax.specs.declared.program.Spelled.{Spelled}
use Rattle.cov_programs.proofs.NameLemmas.{AllPlaced}

-- each name of these lexemes is below n
abbrev pub Known : ℕ → Lexemes → Type 0
Known n xs = AllByRecursion (λ (t : Lexeme). t.kind ≡ k.Name → t.value < n) xs

-- at least one, and all pass
abbrev pub some_pass : {A : Type 0} → (A → Bool) → List A → Bool
some_pass test [] = false
some_pass test (x ∷ xs) = list_all test (x ∷ xs)

-- ---- the lexemes of tokens

-- no word and no mark is a name
no_word : (word : Option Word) → of_word word ≡ k.Name → ⊥
no_word None e = cc
no_word (Some word) e = cc

no_mark : (mark : Option Mark) → of_mark mark ≡ k.Name → ⊥
no_mark None e = cc
no_mark (Some mark) e = cc

-- the meaning of a name token is its place
known_meaning : (names : List (List ℕ)) (kind : TokenKind) (spelled : List ℕ) → (kind ≡ token.Name → place_of spelled names < length names) → terminal_of kind ≡ k.Name → meaning names kind spelled < length names
known_meaning names token.Name spelled h e = h refl
known_meaning names token.Number spelled h e = absurd cc
known_meaning names (token.Word i) spelled h e = absurd (no_word (word_numbered i) e)
known_meaning names (token.Mark i) spelled h e = absurd (no_mark (mark_numbered i) e)

-- the names of the lexemes of a text are below the number of its names
pub known_lexemes : (text : List ℕ) (names : List (List ℕ)) (ts : List Token) → AllPlaced text names ts → Known (length names) (map (lexeme_of text names) ts)
known_lexemes text names [] h = tt
known_lexemes text names (t ∷ ts) h = (known_meaning names t.kind (spelling text t) h.0, known_lexemes text names ts h.1)

-- ---- lists

-- `some_pass` of a list, of one element, and of one more
pub some_are_all : {A : Type 0} (test : A → Bool) (xs : List A) → some_pass test xs ≡ true → list_all test xs ≡ true
some_are_all test [] e = refl
some_are_all test (x ∷ xs) e = e

pub some_one : {A : Type 0} (test : A → Bool) (x : A) → test x ≡ true → some_pass test (x ∷ []) ≡ true
some_one test x e = and_from (test x) true e refl

pub some_more : {A : Type 0} (test : A → Bool) (x : A) (xs : List A) → test x ≡ true → some_pass test xs ≡ true → some_pass test (x ∷ xs) ≡ true
some_more test x xs e f = and_from (test x) (list_all test xs) e (some_are_all test xs f)

-- what is read passes a test where its names are below n
abbrev pub Passes : {A : Type 0} → ℕ → (A → Bool) → (Lexemes → A → Lexemes → Type 0) → Type 0
Passes {A} n test R = (xs ys : Lexemes) (a : A) → R xs a ys → Known n xs → (test a ≡ true) × Known n ys

-- where each item passes, so does each list of items with separators between
module _ {A : Type 0} (n : ℕ) (test : A → Bool) (R : Lexemes → A → Lexemes → Type 0) (each : Passes n test R) where
  pub separated_passes : (separator : Terminal) {xs ys : Lexemes} {found : List A} → ReadsSeparated separator R xs found ys → Known n xs → (some_pass test found ≡ true) × Known n ys
  separated_passes separator (ReadsSeparated.last {xs = xs} {ys = ys} {a = a} p) known = let h = each xs ys a p known in (some_one test a h.0, h.1)
  separated_passes separator (ReadsSeparated.more {xs = xs} {ys = ys} {t = t} {a = a} {as' = others} e p q) known =
      let h = each xs (t ∷ ys) a p known in
      let g = separated_passes separator q h.1.1 in
      (some_more test a others h.0 g.0, g.1)

-- the same in parentheses, where there may be none
module _ {A : Type 0} (n : ℕ) (test : A → Bool) (R : Lexemes → List A → Lexemes → Type 0) (list : Passes n (some_pass test) R) where
  pub in_parens_passes : {xs ys : Lexemes} {found : List A} → ReadsInParens R xs found ys → Known n xs → (list_all test found ≡ true) × Known n ys
  in_parens_passes ReadsInParens.absent known = (refl, known)
  in_parens_passes (ReadsInParens.empty e f) known = (refl, known.1.1)
  in_parens_passes (ReadsInParens.filled {xs = xs} {ys = ys} {c = c} {found = found} e f p) known =
      let h = list xs (c ∷ ys) found p known.1 in (some_are_all test found h.0, h.1.1)

-- ---- single words

-- a number has no name
pub int_known : (n : ℕ) {xs ys : Lexemes} {i : ℤ} → ReadsInt xs i ys → Known n xs → Known n ys
int_known n (ReadsInt.plain e le) known = known.1
int_known n (ReadsInt.minus e f le) known = known.1.1

-- a name, by its place alone and with where it stands
name_passes : (n : ℕ) → Passes n (λ i. nat_lt i n) ReadsName
name_passes n xs ys i (ReadsName.name {t = t} e) known = (lt-ltb t.value n (known.0 e), known.1)

pub spelled_passes : (n : ℕ) → Passes n (λ (s : Spelled). nat_lt s.name n) ReadsSpelled
spelled_passes n xs ys s (ReadsSpelled.name {t = t} e) known = (lt-ltb t.value n (known.0 e), known.1)

-- a path has a part, and its parts are below n
pub path_passes : (n : ℕ) {xs ys : Lexemes} {path : List ℕ} → ReadsPath xs path ys → Known n xs → (some_pass (λ i. nat_lt i n) path ≡ true) × Known n ys
path_passes n p known = separated_passes n (λ i. nat_lt i n) ReadsName (name_passes n) _ p known
