-- The names and numbers of tokens, one token after another.
use Rattle.std.proofs.Common.{◌≡◌, ◌≢◌, ℕ, zero, suc, ◌+◌, ◌-◌, ◌*◌, ◌<◌, ◌≤◌, Bool, true, false, cond, List, [], ◌∷◌, ◌++◌, length, map, take, drop, get_or, slice_get, Some, All, Contains, refl, sym, ap, subst, ◌∙◌, arith, append_assoc, append-nil, length-append}
use Rattle.std.specs.Prelude.{◌||◌, min, bytes_eq, Result, Ok, Err, OnOk, IfOk}
use Rattle.cov_syntax.specs.declared.error.NoMemory.{NoMemory}
use Rattle.std.specs.List.{AllByRecursion, list_any}
use Rattle.std.proofs.lemmas.List.{drop_more, take_more, map-append}
use Rattle.std.proofs.lemmas.List.Elements.{All-from_recursion}
use Rattle.std.proofs.lemmas.List.Sums.{fold_more}
use Rattle.std.proofs.lemmas.Slice.Eq.{bytes_eq-Decides}
use Rattle.cov_syntax.specs.declared.lexeme.Lexeme.{Lexeme}
use Rattle.cov_syntax.specs.declared.lexeme.Terminal.{Terminal}
use Rattle.cov_syntax.specs.declared.token.Token.{Token}
use Rattle.cov_syntax.specs.declared.token.TokenKind.{TokenKind}
use Rattle.cov_syntax.specs.declared.token.TokenKind.TheVariants as token_kind
use Rattle.cov_syntax.specs.Lexemes.{spelling, with_name, names_after, names_from, names_of, place_of, value_of, terminal_of, meaning, lexeme_of}
use Rattle.cov_syntax.specs.Texts.{IsDistinctTexts}
use Rattle.cov_syntax.proofs.TextLemmas.{IsDistinctTexts-push, slice_get-last}

-- ---- numbers

abbrev digit_more : ℕ → ℕ → ℕ
digit_more n digit = 10 * n + (digit - 48)

-- a value that is capped at each digit
capped : (v d : ℕ) → min (10 * min v 1000001 + d) 1000001 ≡ min (10 * v + d) 1000001
capped v d = omega arith

pub value_more : (digits : List ℕ) (i d : ℕ) → i < length digits → min (10 * min (value_of (take i digits)) 1000001 + (get_or digits i d - 48)) 1000001 ≡ min (value_of (take (i + 1) digits)) 1000001
value_more digits i d lt =
    capped (value_of (take i digits)) (get_or digits i d - 48) ∙ ap (λ n. min n 1000001) (sym (fold_more digit_more 0 digits i d lt))

-- ---- names that are held

same_bytes : (a b : List ℕ) → bytes_eq a b ≡ true → a ≡ b
same_bytes a b e = (bytes_eq-Decides a b).0 e

bytes_same : (a b : List ℕ) → a ≡ b → bytes_eq a b ≡ true
bytes_same a b e = (bytes_eq-Decides a b).1 e

bytes_differ : (a b : List ℕ) → a ≢ b → bytes_eq a b ≡ false
bytes_differ a b h = go (bytes_eq a b) refl
  where
    go : (r : Bool) → bytes_eq a b ≡ r → r ≡ false
    go true e = absurd (h (same_bytes a b e))
    go false e = refl

-- where a name that is held stands
held_at : (name : List ℕ) (names : List (List ℕ)) → list_any (bytes_eq name) names ≡ true → (i : ℕ) × (slice_get names i ≡ Some name)
held_at name [] e = absurd cc
held_at name (t ∷ ts) e = go (bytes_eq name t) refl (λ f. held_at name ts f)
  where
    go : (r : Bool) → bytes_eq name t ≡ r → (list_any (bytes_eq name) ts ≡ true → (i : ℕ) × (slice_get ts i ≡ Some name)) → (i : ℕ) × (slice_get (t ∷ ts) i ≡ Some name)
    go true g more = (0, ap (λ (u : List ℕ). Some u) (sym (same_bytes name t g)))
    go false g more = let rest = more (sym (ap (λ b. b || list_any (bytes_eq name) ts) g) ∙ e) in (suc rest.0, rest.1)

contains_at : (name : List ℕ) (names : List (List ℕ)) (i : ℕ) → slice_get names i ≡ Some name → Contains names name
contains_at name [] i e = absurd cc
contains_at name (t ∷ ts) zero e = let g : t ≡ name = cc in (0, omega arith, g)
contains_at name (t ∷ ts) (suc i) e = let rest = contains_at name ts i e in (suc rest.0, omega (arith, rest.1), rest.2)

free : (name : List ℕ) (names : List (List ℕ)) → list_any (bytes_eq name) names ≡ false → AllByRecursion (λ t. t ≢ name) names
free name [] e = tt
free name (t ∷ ts) e = go (bytes_eq name t) refl (λ f. free name ts f)
  where
    go : (r : Bool) → bytes_eq name t ≡ r → (list_any (bytes_eq name) ts ≡ false → AllByRecursion (λ u. u ≢ name) ts) → AllByRecursion (λ u. u ≢ name) (t ∷ ts)
    go true g more = let h : true ≡ false = sym (ap (λ b. b || list_any (bytes_eq name) ts) g) ∙ e in absurd cc
    go false g more = (λ same. let h : bytes_eq name t ≡ true = bytes_same name t (sym same) in cc, more (sym (ap (λ b. b || list_any (bytes_eq name) ts) g) ∙ e))

-- what adding a name leaves
pub names_are : (old new : List (List ℕ)) (name : List ℕ) → (Contains old name → new ≡ old) → (All (λ t. t ≢ name) old → new ≡ old ++ name ∷ []) → new ≡ with_name old name
names_are old new name held put = go (list_any (bytes_eq name) old) refl
  where
    go : (r : Bool) → list_any (bytes_eq name) old ≡ r → new ≡ cond r old (old ++ name ∷ [])
    go true e = let h = held_at name old e in held (contains_at name old h.0 h.1)
    go false e = put (All-from_recursion (λ t. t ≢ name) old (free name old e))

distinct_with : (names : List (List ℕ)) (name : List ℕ) → IsDistinctTexts names → IsDistinctTexts (with_name names name)
distinct_with names name d = go (list_any (bytes_eq name) names) refl
  where
    go : (r : Bool) → list_any (bytes_eq name) names ≡ r → IsDistinctTexts (cond r names (names ++ name ∷ []))
    go true e = d
    go false e = IsDistinctTexts-push names name d (free name names e)

pub distinct_after : (names : List (List ℕ)) (kind : TokenKind) (name : List ℕ) → IsDistinctTexts names → IsDistinctTexts (names_after names kind name)
distinct_after names token_kind.Name name d = distinct_with names name d
distinct_after names _ name d = d

-- what stands at a place
all_at : (P : List ℕ → Type 0) (ts : List (List ℕ)) (t : List ℕ) (i : ℕ) → AllByRecursion P ts → slice_get ts i ≡ Some t → P t
all_at P [] t i h e = absurd cc
all_at P (u ∷ ts) t zero h e = let g : u ≡ t = cc in subst P g h.0
all_at P (u ∷ ts) t (suc i) h e = all_at P ts t i h.1 e

pub place_is : (names : List (List ℕ)) (name : List ℕ) (i : ℕ) → IsDistinctTexts names → slice_get names i ≡ Some name → i ≡ place_of name names
place_is [] name i d e = absurd cc
place_is (t ∷ ts) name zero d e = let g : t ≡ name = cc in ap (λ b. cond b 0 (suc (place_of name ts))) (sym (bytes_same name t (sym g)))
place_is (t ∷ ts) name (suc i) d e =
    let other : t ≢ name = all_at (λ u. t ≢ u) ts name i d.0 e in
    ap suc (place_is ts name i d.1 e) ∙ ap (λ b. cond b 0 (suc (place_of name ts))) (sym (bytes_differ name t (λ h. other (sym h))))

place_extends : (names more : List (List ℕ)) (name : List ℕ) (i : ℕ) → slice_get names i ≡ Some name → place_of name (names ++ more) ≡ place_of name names
place_extends [] more name i e = absurd cc
place_extends (t ∷ ts) more name zero e =
    let g : t ≡ name = cc in
    let h = bytes_same name t (sym g) in
    ap (λ b. cond b 0 (suc (place_of name (ts ++ more)))) h ∙ sym (ap (λ b. cond b 0 (suc (place_of name ts))) h)
place_extends (t ∷ ts) more name (suc i) e = ap (λ n. cond (bytes_eq name t) 0 (suc n)) (place_extends ts more name i e)

-- ---- names that are added later

with_extends : (names : List (List ℕ)) (name : List ℕ) → (more : List (List ℕ)) × (with_name names name ≡ names ++ more)
with_extends names name = go (list_any (bytes_eq name) names)
  where
    go : (r : Bool) → (more : List (List ℕ)) × (cond r names (names ++ name ∷ []) ≡ names ++ more)
    go true = ([], sym (append-nil names))
    go false = (name ∷ [], refl)

after_extends : (names : List (List ℕ)) (kind : TokenKind) (name : List ℕ) → (more : List (List ℕ)) × (names_after names kind name ≡ names ++ more)
after_extends names token_kind.Name name = with_extends names name
after_extends names _ name = ([], sym (append-nil names))

names_extend : (text : List ℕ) (names : List (List ℕ)) (ts : List Token) → (more : List (List ℕ)) × (names_from text names ts ≡ names ++ more)
names_extend text names [] = ([], sym (append-nil names))
names_extend text names (t ∷ ts) =
    let first = after_extends names t.kind (spelling text t) in
    let rest = names_extend text (names_after names t.kind (spelling text t)) ts in
    (first.0 ++ rest.0, rest.1 ∙ ap (λ (l : List (List ℕ)). l ++ rest.0) first.1 ∙ append_assoc names first.0 rest.0)

held_after : (names : List (List ℕ)) (name : List ℕ) → (i : ℕ) × (slice_get (with_name names name) i ≡ Some name)
held_after names name = go (list_any (bytes_eq name) names) refl
  where
    go : (r : Bool) → list_any (bytes_eq name) names ≡ r → (i : ℕ) × (slice_get (cond r names (names ++ name ∷ [])) i ≡ Some name)
    go true e = held_at name names e
    go false e = (length names, slice_get-last names name)

meaning_extends : (kind : TokenKind) (names more : List (List ℕ)) (name : List ℕ) → meaning (names_after names kind name ++ more) kind name ≡ meaning (names_after names kind name) kind name
meaning_extends token_kind.Name names more name = let h = held_after names name in place_extends (with_name names name) more name h.0 h.1
meaning_extends token_kind.Number names more name = refl
meaning_extends (token_kind.Word n) names more name = refl
meaning_extends (token_kind.Mark n) names more name = refl

-- a token adds one name at most
with_room : (names : List (List ℕ)) (name : List ℕ) → length (with_name names name) ≤ suc (length names)
with_room names name = go (list_any (bytes_eq name) names)
  where
    go : (r : Bool) → length (cond r names (names ++ name ∷ [])) ≤ suc (length names)
    go true = omega arith
    go false = omega (arith, length-append names (name ∷ []))

pub room_after : (names : List (List ℕ)) (kind : TokenKind) (name : List ℕ) → length (names_after names kind name) ≤ suc (length names)
room_after names token_kind.Name name = with_room names name
room_after names token_kind.Number name = omega arith
room_after names (token_kind.Word n) name = omega arith
room_after names (token_kind.Mark n) name = omega arith

-- ---- one name

pub names_put : (r : Result ℕ NoMemory) (old new : List (List ℕ)) (name : List ℕ) → (Contains old name → OnOk r (new ≡ old)) → (All (λ t. t ≢ name) old → OnOk r (new ≡ old ++ name ∷ []))
    → OnOk r (new ≡ with_name old name)
names_put (Ok v) old new name held put = names_are old new name held put
names_put (Err e) old new name held put = tt

pub place_put : (r : Result ℕ NoMemory) (old new : List (List ℕ)) (name : List ℕ) → IsDistinctTexts old → (Contains old name → OnOk r (new ≡ old))
    → (All (λ t. t ≢ name) old → OnOk r (new ≡ old ++ name ∷ [])) → IfOk r (λ i. slice_get new i ≡ Some name) → IfOk r (λ i. i ≡ place_of name new)
place_put (Ok v) old new name distinct held put place =
    place_is new name v (subst (λ (names : List (List ℕ)). IsDistinctTexts names) (sym (names_are old new name held put)) (distinct_with old name distinct)) place
place_put (Err e) old new name distinct held put place = tt

-- ---- one more token

module _ (text : List ℕ) (tokens : List Token) (i : ℕ) (d : Token) (lt : i < length tokens) (old new : List (List ℕ)) (bytes : List ℕ)
    (before : names_from text old (drop i tokens) ≡ names_of text tokens)
    (added : new ≡ names_after old (get_or tokens i d).kind bytes) (bytes_are : bytes ≡ spelling text (get_or tokens i d)) where
  put : new ≡ names_after old (get_or tokens i d).kind (spelling text (get_or tokens i d))
  put = added ∙ ap (λ (name : List ℕ). names_after old (get_or tokens i d).kind name) bytes_are

  pub distinct_more : IsDistinctTexts old → IsDistinctTexts new
  distinct_more distinct = subst (λ (names : List (List ℕ)). IsDistinctTexts names) (sym added) (distinct_after old (get_or tokens i d).kind bytes distinct)

  pub room_more : length old ≤ i → length new ≤ i + 1
  room_more room = omega (arith, ap length added, room_after old (get_or tokens i d).kind bytes)

  pub names_more : names_from text new (drop (i + 1) tokens) ≡ names_of text tokens
  names_more =
      ap (λ (names : List (List ℕ)). names_from text names (drop (i + 1) tokens)) put ∙ ap (λ (ts : List Token). names_from text old ts) (sym (drop_more tokens i d lt)) ∙ before

  meaning_is : meaning new (get_or tokens i d).kind (spelling text (get_or tokens i d)) ≡ meaning (names_of text tokens) (get_or tokens i d).kind (spelling text (get_or tokens i d))
  meaning_is =
      let t = get_or tokens i d in
      let more = names_extend text (names_after old t.kind (spelling text t)) (drop (i + 1) tokens) in
      let whole : names_of text tokens ≡ names_after old t.kind (spelling text t) ++ more.0
      = sym names_more ∙ ap (λ (names : List (List ℕ)). names_from text names (drop (i + 1) tokens)) put ∙ more.1 in
      ap (λ (names : List (List ℕ)). meaning names t.kind (spelling text t)) put
      ∙ sym (meaning_extends t.kind old more.0 (spelling text t))
      ∙ ap (λ (names : List (List ℕ)). meaning names t.kind (spelling text t)) (sym whole)

  pub lexemes_more : (found all : List Lexeme) (kind : Terminal) (value : ℕ) → found ≡ map (lexeme_of text (names_of text tokens)) (take i tokens)
      → kind ≡ terminal_of (get_or tokens i d).kind → value ≡ meaning new (get_or tokens i d).kind bytes
      → all ≡ found ++ (record { kind = kind; value = value; place = (get_or tokens i d).span }) ∷ [] → all ≡ map (lexeme_of text (names_of text tokens)) (take (i + 1) tokens)
  lexemes_more found all kind value is kind_is value_is push =
      let f : Token → Lexeme = lexeme_of text (names_of text tokens) in
      let x : Lexeme = record { kind = kind; value = value; place = (get_or tokens i d).span } in
      let value_too : value ≡ meaning (names_of text tokens) (get_or tokens i d).kind (spelling text (get_or tokens i d))
      = value_is ∙ ap (λ (name : List ℕ). meaning new (get_or tokens i d).kind name) bytes_are ∙ meaning_is in
      let same : x ≡ f (get_or tokens i d) = λ j. record { kind = kind_is j; value = value_too j; place = (get_or tokens i d).span } in
      push ∙ ap (λ (l : List Lexeme). l ++ x ∷ []) is ∙ ap (λ (y : Lexeme). map f (take i tokens) ++ y ∷ []) same
      ∙ sym (map-append f (take i tokens) (get_or tokens i d ∷ [])) ∙ ap (λ (ts : List Token). map f ts) (sym (take_more tokens i d lt))
