-- Lists of names, by what stands in them.
use Rattle.std.proofs.Common.{◌≡◌, ℕ, suc, ◌+◌, ◌<◌, Bool, true, false, cond, ◌||◌, ◌==◌, List, [], ◌∷◌, ◌++◌, length, drop, get_or, Option, Some, None, refl, sym, ap, subst, ◌∙◌, arith, option_map, unwrap_or, nat_cmp}
use Rattle.std.specs.List.{list_any}
use Rattle.std.specs.BTreeMap.{is_at}
use Rattle.std.proofs.lemmas.Bool.Decides.{nat_tests}
use Rattle.cov_syntax.specs.declared.program.Spelled.{Spelled}
use Rattle.cov_syntax.specs.declared.program.ModuleTree.{ModuleTree}
use Rattle.cov_modules.specs.Names.{has, first, place_of, HasSame, Adds}
use Rattle.cov_modules.proofs.FirstLemmas.{drop-item}
use Rattle.cov_modules.specs.ModuleFaults.{repeated, duplicate, names_of, place_if}

-- whether it stands in the front or in the rest
pub has-append : (xs ys : List ℕ) (i : ℕ) → has (xs ++ ys) i ≡ (has xs i || has ys i)
has-append [] ys i = refl
has-append (x ∷ xs) ys i = ap (λ b. (x == i) || b) (has-append xs ys i) ∙ or_or (x == i) (has xs i) (has ys i)
  where
    or_or : (a b c : Bool) → (a || (b || c)) ≡ ((a || b) || c)
    or_or true b c = refl
    or_or false b c = refl

-- a repeated name is found by what stands before alone
pub repeated-same : (xs : List Spelled) (a b : List ℕ) → HasSame a b → repeated a xs ≡ repeated b xs
repeated-same [] a b h = refl
repeated-same (x ∷ xs) a b h =
    ap (λ t. cond t (Some x.place) (repeated (x.name ∷ a) xs)) (h x.name)
    ∙ ap (λ r. cond (has b x.name) (Some x.place) r) (repeated-same xs (x.name ∷ a) (x.name ∷ b) (λ i. ap (λ t. (x.name == i) || t) (h i)))

-- so is a module's name
pub duplicate-same : (ms : List ModuleTree) (a b : List ℕ) → HasSame a b → duplicate a ms ≡ duplicate b ms
duplicate-same [] a b h = refl
duplicate-same (m ∷ ms) a b h =
    ap (λ t. place_if t m.name.place ∷ repeated [] (names_of m) ∷ duplicate (m.name.name ∷ a) ms) (h m.name.name)
    ∙ ap (λ r. place_if (has b m.name.name) m.name.place ∷ repeated [] (names_of m) ∷ r) (duplicate-same ms (m.name.name ∷ a) (m.name.name ∷ b) (λ i. ap (λ t. (m.name.name == i) || t) (h i)))

-- true, or else the other
pub or-cond : (a b : Bool) → cond a true b ≡ (a || b)
or-cond true b = refl
or-cond false b = refl

-- one more name that did not stand before it
pub repeated-step : (before after : List ℕ) (xs : List Spelled) (i : ℕ) (x d : Spelled) → i < length xs → x ≡ get_or xs i d → has before x.name ≡ false → Adds before after x.name
    → repeated after (drop (i + 1) xs) ≡ repeated before (drop i xs)
repeated-step before after xs i x d below is new adds =
    repeated-same (drop (i + 1) xs) after (x.name ∷ before) adds
    ∙ sym (ap (repeated before) (drop-item xs i x d below is) ∙ ap (λ t. cond t (Some x.place) (repeated (x.name ∷ before) (drop (i + 1) xs))) new)

-- one more module, whose names are new
pub duplicate-step : (before after : List ℕ) (ms : List ModuleTree) (i : ℕ) (m : ModuleTree) → i < length ms → m ≡ get_or ms i m → has before m.name.name ≡ false
    → repeated [] (names_of m) ≡ None → Adds before after m.name.name
    → first (duplicate after (drop (i + 1) ms)) ≡ first (duplicate before (drop i ms))
duplicate-step before after ms i m below is new none adds =
    ap first (duplicate-same (drop (i + 1) ms) after (m.name.name ∷ before) adds)
    ∙ sym (
    ap (λ rest. first (duplicate before rest)) (drop-item ms i m m below is)
    ∙ ap (λ t. first (place_if t m.name.place ∷ repeated [] (names_of m) ∷ duplicate (m.name.name ∷ before) (drop (i + 1) ms))) new
    ∙ ap (λ r. first (None ∷ r ∷ duplicate (m.name.name ∷ before) (drop (i + 1) ms))) none)

-- a test for one number is a test of equality
pub same-number : (a b : ℕ) → (a == b) ≡ true → a ≡ b
same-number a b e = grind (arith, nat_tests)

-- a number is itself
pub number-self : (a : ℕ) → (a == a) ≡ true
number-self a = grind (arith, nat_tests)

-- one place further
abbrev further : Option ℕ → Option ℕ
further o = option_map (λ k. k + 1) o

-- the place of a name in a list with one more before it
further-or : (o : Option ℕ) (b : Bool) (n : ℕ) → cond b (Some 0) (further (Some (unwrap_or o n))) ≡ Some (unwrap_or (cond b (Some 0) (further o)) (suc n))
further-or o true n = refl
further-or None false n = ap (λ (k : ℕ). Some k) (omega arith)
further-or (Some k) false n = refl

-- by whether the name is the one that is put last, where it is so in the rest
push_by : (y x i : ℕ) (o : ℕ → Option ℕ) (p : ℕ → Option ℕ) (n : ℕ) → ((j : ℕ) → p j ≡ cond (x == j) (Some (unwrap_or (o x) n)) (o j)) → (b : Bool) → (x == i) ≡ b
    → cond (y == i) (Some 0) (further (p i)) ≡ cond b (Some (unwrap_or (cond (y == x) (Some 0) (further (o x))) (suc n))) (cond (y == i) (Some 0) (further (o i)))
push_by y x i o p n h false e = ap (λ r. cond (y == i) (Some 0) (further r)) (h i ∙ ap (λ t. cond t (Some (unwrap_or (o x) n)) (o i)) e)
push_by y x i o p n h true e =
    subst (λ (j : ℕ). cond (y == j) (Some 0) (further (p j)) ≡ Some (unwrap_or (cond (y == x) (Some 0) (further (o x))) (suc n))) (same-number x i e)
    (ap (λ r. cond (y == x) (Some 0) (further r)) (h x ∙ ap (λ t. cond t (Some (unwrap_or (o x) n)) (o x)) (number-self x))
    ∙ further-or (o x) (y == x) n)

-- in the empty list
push-nil : (b : Bool) (o : Option ℕ) → cond b o (further None) ≡ cond b o None
push-nil true o = refl
push-nil false o = refl

-- the place of a name, where one more is put last that has its place already, or else the last one
pub place_of-push : (names : List ℕ) (x i : ℕ) → place_of (names ++ x ∷ []) i ≡ cond (x == i) (Some (unwrap_or (place_of names x) (length names))) (place_of names i)
place_of-push [] x i = push-nil (x == i) (Some 0)
place_of-push (y ∷ ys) x i = push_by y x i (place_of ys) (place_of (ys ++ x ∷ [])) (length ys) (place_of-push ys x) (x == i) refl

-- the two tests for one number
is_at-number : (a b : ℕ) → is_at (nat_cmp a) b ≡ (b == a)
is_at-number a b = grind (arith, nat_tests)

-- the same with the numbers exchanged
pub is_at-same : (a b : ℕ) → is_at (nat_cmp a) b ≡ (a == b)
is_at-same a b = grind (arith, nat_tests)

-- what a set has is what stands in its list
pub contains-has : (keys : List ℕ) (i : ℕ) → list_any (is_at (nat_cmp i)) keys ≡ has keys i
contains-has [] i = refl
contains-has (k ∷ ks) i = ap (λ b. b || list_any (is_at (nat_cmp i)) ks) (is_at-number i k) ∙ ap (λ b. (k == i) || b) (contains-has ks i)
