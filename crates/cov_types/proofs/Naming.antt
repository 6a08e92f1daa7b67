-- The signal of a flat name: names differ, so no other variable or DEFINE has it.
use Rattle.std.proofs.Common.{◌≡◌, ◌≢◌, ℕ, zero, suc, ◌+◌, ◌<◌, ◌≤◌, ◌↔◌, Bool, true, false, not, ◌&&◌, ◌||◌, IsTrue, List, [], ◌∷◌, ◌++◌, map, take, length, get_or, Option, Some, None, refl, sym, ap, subst, ◌∙◌, arith, option_map, length-append, zero-add}
use Rattle.std.specs.Prelude.{◌==◌, slice_get, IsFalse, All}
use Rattle.std.specs.List.{AllByRecursion, list_all}
use Rattle.std.specs.Bool.{then_some}
use Rattle.std.proofs.lemmas.List.Elements.{All-get_or}
use Rattle.std.proofs.lemmas.Option.{get_or_from_slice_get, slice_get-map, slice_get_read, slice_get_within}
use Rattle.cov_syntax.specs.Texts.{IsDistinctTexts}
use Rattle.cov_model.specs.declared.model.Var.{Var}
use Rattle.cov_model.specs.declared.model.Define.{Define}
use Rattle.cov_model.specs.declared.model.Model.{Model}
use Rattle.cov_model.specs.declared.model.Signal.{Signal}
use Rattle.cov_model.specs.declared.model.Signal.TheVariants as signal
use Rattle.cov_model.specs.Flat.{IsFlat}
use Rattle.cov_model.specs.Kinds.{is_boolean, kind_at}
use Rattle.cov_model.specs.Order.{has}
use Rattle.cov_model.specs.Settled.{kinds_of}
use Rattle.cov_model.specs.WellFormed.{all_different, flat_names, has_name}
use Rattle.cov_model.proofs.Joined.{and_split}
use Rattle.cov_order.proofs.Numbers.{length_of_different, same_number, same_self}
use Rattle.cov_types.specs.Signals.{IsDefineNamed, IsSignalNamed, IsVariableNamed, define_names, variable_names}

-- ---- places in lists

all_at : {A : Type 0} (P : A → Type 0) (xs : List A) (x : A) (i : ℕ) → AllByRecursion P xs → slice_get xs i ≡ Some x → P x
all_at P [] x i h e = absurd cc
all_at P (y ∷ ys) x zero h e = let g : y ≡ x = cc in subst P g h.0
all_at P (y ∷ ys) x (suc i) h e = all_at P ys x i h.1 e

-- a text stands at one place of different texts
one_text : (ts : List (List ℕ)) (t : List ℕ) (i j : ℕ) → IsDistinctTexts ts → slice_get ts i ≡ Some t → slice_get ts j ≡ Some t → i ≡ j
one_text [] t i j d e f = absurd cc
one_text (u ∷ ts) t zero zero d e f = refl
one_text (u ∷ ts) t zero (suc j) d e f = let g : u ≡ t = cc in absurd (all_at (λ v. u ≢ v) ts t j d.0 f g)
one_text (u ∷ ts) t (suc i) zero d e f = let g : u ≡ t = cc in absurd (all_at (λ v. u ≢ v) ts t i d.0 e g)
one_text (u ∷ ts) t (suc i) (suc j) d e f = ap suc (one_text ts t i j d.1 e f)

has_at : (xs : List ℕ) (x i : ℕ) → slice_get xs i ≡ Some x → has xs x ≡ true
has_at [] x i e = absurd cc
has_at (y ∷ ys) x zero e = let g : y ≡ x = cc in ap (λ (b : Bool). b || has ys x) (ap (λ (z : ℕ). z == x) g ∙ same_self x)
has_at (y ∷ ys) x (suc i) e = ap (λ (b : Bool). (y == x) || b) (has_at ys x i e) ∙ or_true (y == x)
  where
    or_true : (b : Bool) → (b || true) ≡ true
    or_true true = refl
    or_true false = refl

absent : (b : Bool) → IsTrue (not b) → b ≡ true → ⊥
absent true n y = cc
absent false n y = cc

-- a number stands at one place of different numbers
one_place : (xs : List ℕ) (x i j : ℕ) → IsTrue (all_different xs) → slice_get xs i ≡ Some x → slice_get xs j ≡ Some x → i ≡ j
one_place [] x i j d e f = absurd cc
one_place (y ∷ ys) x zero zero d e f = refl
one_place (y ∷ ys) x zero (suc j) d e f =
    let g : y ≡ x = cc in absurd (absent (has ys y) (and_split (not (has ys y)) (all_different ys) d).0 (has_at ys y j (f ∙ ap (λ (z : ℕ). Some z) (sym g))))
one_place (y ∷ ys) x (suc i) zero d e f =
    let g : y ≡ x = cc in absurd (absent (has ys y) (and_split (not (has ys y)) (all_different ys) d).0 (has_at ys y i (e ∙ ap (λ (z : ℕ). Some z) (sym g))))
one_place (y ∷ ys) x (suc i) (suc j) d e f = ap suc (one_place ys x i j (and_split (not (has ys y)) (all_different ys) d).1 e f)

in_front : (xs ys : List ℕ) (x i : ℕ) → slice_get xs i ≡ Some x → slice_get (xs ++ ys) i ≡ Some x
in_front [] ys x i e = absurd cc
in_front (y ∷ xs) ys x zero e = e
in_front (y ∷ xs) ys x (suc i) e = in_front xs ys x i e

behind : (xs ys : List ℕ) (i : ℕ) → slice_get (xs ++ ys) (length xs + i) ≡ slice_get ys i
behind [] ys i = ap (slice_get ys) (zero-add i)
behind (x ∷ xs) ys i = ap (slice_get (x ∷ (xs ++ ys))) (next (length xs) i) ∙ behind xs ys i
  where
    next : (n i : ℕ) → suc n + i ≡ suc (n + i)
    next n i = omega arith

-- a place of a list that is mapped
mapped_at : {A : Type 0} (f : A → ℕ) (xs : List A) (i n : ℕ) → slice_get (map f xs) i ≡ Some n → (x : A) × (slice_get xs i ≡ Some x) × (f x ≡ n)
mapped_at f [] i n e = absurd cc
mapped_at f (x ∷ xs) zero n e = (x, refl, cc)
mapped_at f (x ∷ xs) (suc i) n e = mapped_at f xs i n e

to_mapped : {A : Type 0} (f : A → ℕ) (xs : List A) (i : ℕ) (x : A) → slice_get xs i ≡ Some x → slice_get (map f xs) i ≡ Some (f x)
to_mapped f xs i x e = slice_get-map f xs i ∙ ap (option_map f) e

-- ---- loops over names

-- one more name that is another
next_name : (ns : List ℕ) (i n x : ℕ) → slice_get ns i ≡ Some x → x ≢ n → has (take i ns) n ≡ false → has (take (i + 1) ns) n ≡ false
next_name ns i n x e ne h = ap (λ (k : ℕ). has (take k ns) n) next ∙ go ns i e h
  where
    next : i + 1 ≡ suc i
    next = omega arith

    other : (b : Bool) → (x == n) ≡ b → b ≡ false
    other true k = absurd (ne (same_number x n k))
    other false k = refl

    go : (ns : List ℕ) (i : ℕ) → slice_get ns i ≡ Some x → has (take i ns) n ≡ false → has (take (suc i) ns) n ≡ false
    go [] i e h = absurd cc
    go (y ∷ ns) zero e h = let g : y ≡ x = cc in ap (λ (b : Bool). b || false) (ap (λ (z : ℕ). z == n) g ∙ other (x == n) refl)
    go (y ∷ ns) (suc i) e h = by (y == n) h (λ k. go ns i e k)
      where
        by : (b : Bool) → (b || has (take i ns) n) ≡ false → (has (take i ns) n ≡ false → has (take (suc i) ns) n ≡ false) → (b || has (take (suc i) ns) n) ≡ false
        by true h f = cc
        by false h f = f h

-- one more item that has another name
pub next_item : {A : Type 0} (f : A → ℕ) (xs : List A) (i n : ℕ) (x : A) → i < length xs → x ≡ get_or xs i x → f x ≢ n → has (take i (map f xs)) n ≡ false → has (take (i + 1) (map f xs)) n ≡ false
next_item f xs i n x below is = next_name (map f xs) i n (f x) (to_mapped f xs i x (slice_get_read xs (length xs) i x refl below is))

-- ---- the model

-- there are no more variables and DEFINEs than names
pub few_names : (m : Model) → IsFlat m → length (flat_names m) ≤ length m.names
few_names m w = length_of_different (flat_names m) (length m.names) w.different (λ j h. each (flat_names m) w.names j h)
  where
    named : (j : ℕ) (o : Option (List ℕ)) → slice_get m.names j ≡ o → IsTrue (elim o [ Some t ↦ Rattle.cov_model.specs.Names.is_dotted t | None ↦ false ]) → j < length m.names
    named j (Some t) e h = slice_get_within m.names j t e
    named j None e h = absurd cc

    each : (ns : List ℕ) → IsTrue (list_all (has_name m) ns) → (j : ℕ) → has ns j ≡ true → j < length m.names
    each [] a j h = absurd cc
    each (n ∷ ns) a j h = by (n == j) refl h (λ k. each ns (and_split (has_name m n) (list_all (has_name m) ns) a).1 j k)
      where
        by : (b : Bool) → (n == j) ≡ b → (b || has ns j) ≡ true → (has ns j ≡ true → j < length m.names) → j < length m.names
        by true e h f = subst (λ (z : ℕ). z < length m.names) (same_number n j e) (named n (slice_get m.names n) refl (and_split (has_name m n) (list_all (has_name m) ns) a).0)
        by false e h f = f h

length-map : {A : Type 0} (f : A → ℕ) (xs : List A) → length (map f xs) ≡ length xs
length-map f [] = refl
length-map f (x ∷ xs) = ap (λ (n : ℕ). suc n) (length-map f xs)

-- there are no more variables than names
pub few_variables : (m : Model) → IsFlat m → length m.vars ≤ length m.names
few_variables m w = omega (arith, few_names m w, length-append (variable_names m.vars) (define_names m.defines), length-map (λ (x : Var). x.name) m.vars)

-- there are no more DEFINEs than names
pub few_defines : (m : Model) → IsFlat m → length m.defines ≤ length m.names
few_defines m w = omega (arith, few_names m w, length-append (variable_names m.vars) (define_names m.defines), length-map (λ (d : Define). d.name) m.defines)

module _ (m : Model) (w : IsFlat m) (d : IsDistinctTexts m.names) (name : List ℕ) (n : ℕ) (found : slice_get m.names n ≡ Some name) where
  abbrev vars : List ℕ
  vars = variable_names m.vars

  abbrev defines : List ℕ
  defines = define_names m.defines

  variable_at : (j : ℕ) → IsVariableNamed m name j → slice_get vars j ≡ Some n
  variable_at j v = to_mapped (λ (x : Var). x.name) m.vars j v.variable v.there ∙ ap (λ (k : ℕ). Some k) (one_text m.names name v.variable.name n d v.named found)

  define_at : (j : ℕ) → IsDefineNamed m name j → slice_get defines j ≡ Some n
  define_at j v = to_mapped (λ (x : Define). x.name) m.defines j v.define v.there ∙ ap (λ (k : ℕ). Some k) (one_text m.names name v.define.name n d v.named found)

  apart : (i j : ℕ) → slice_get vars i ≡ Some n → slice_get defines j ≡ Some n → ⊥
  apart i j e f =
      let same : i ≡ length vars + j = one_place (flat_names m) n i (length vars + j) w.different (in_front vars defines n i e) (behind vars defines j ∙ f) in
      let l : i < length vars = slice_get_within vars i n e in
      omega arith

  one_variable : (i j : ℕ) → slice_get vars i ≡ Some n → slice_get vars j ≡ Some n → j ≡ i
  one_variable i j e f = one_place (flat_names m) n j i w.different (in_front vars defines n j f) (in_front vars defines n i e)

  one_define : (i j : ℕ) → slice_get defines i ≡ Some n → slice_get defines j ≡ Some n → j ≡ i
  one_define i j e f =
      let same : length vars + j ≡ length vars + i = one_place (flat_names m) n (length vars + j) (length vars + i) w.different (behind vars defines j ∙ f) (behind vars defines i ∙ e) in
      omega arith

  -- the variable that has the name is the signal where it is Boolean, and else there is none
  pub of_variable : (i : ℕ) → slice_get vars i ≡ Some n → (q : Signal) → (then_some (is_boolean (kind_at (kinds_of m).vars i)) (signal.Var i) ≡ Some q) ↔ IsSignalNamed m name q
  of_variable i e q = by (is_boolean (kind_at (kinds_of m).vars i)) refl q
    where
      here : is_boolean (kind_at (kinds_of m).vars i) ≡ true → IsVariableNamed m name i
      here b = let x = mapped_at (λ (x : Var). x.name) m.vars i n e in record {
        variable = x.0;
        there = x.1;
        named = ap (slice_get m.names) x.2 ∙ found;
        boolean = b;
      }

      by : (b : Bool) → is_boolean (kind_at (kinds_of m).vars i) ≡ b → (q : Signal) → (then_some b (signal.Var i) ≡ Some q) ↔ IsSignalNamed m name q
      by true b q = (λ h. let s : signal.Var i ≡ q = cc in subst (IsSignalNamed m name) s (here b), λ v. only q v)
        where
          only : (q : Signal) → IsSignalNamed m name q → Some (signal.Var i) ≡ Some q
          only (signal.Var j) v = ap (λ (k : ℕ). Some (signal.Var k)) (sym (one_variable i j e (variable_at j v)))
          only (signal.Def j) v = absurd (apart i j e (define_at j v))
      by false b q = (λ h. absurd cc, λ v. absurd (none q v))
        where
          none : (q : Signal) → IsSignalNamed m name q → ⊥
          none (signal.Var j) v = let s : j ≡ i = one_variable i j e (variable_at j v) in
              absent (is_boolean (kind_at (kinds_of m).vars i)) (ap not b) (ap (λ (k : ℕ). is_boolean (kind_at (kinds_of m).vars k)) (sym s) ∙ v.boolean)
          none (signal.Def j) v = apart i j e (define_at j v)

  -- so is the DEFINE that has it
  pub of_define : (i : ℕ) → slice_get defines i ≡ Some n → (q : Signal) → (then_some (is_boolean (kind_at (kinds_of m).defs i)) (signal.Def i) ≡ Some q) ↔ IsSignalNamed m name q
  of_define i e q = by (is_boolean (kind_at (kinds_of m).defs i)) refl q
    where
      here : is_boolean (kind_at (kinds_of m).defs i) ≡ true → IsDefineNamed m name i
      here b = let x = mapped_at (λ (x : Define). x.name) m.defines i n e in record {
        define = x.0;
        there = x.1;
        named = ap (slice_get m.names) x.2 ∙ found;
        boolean = b;
      }

      by : (b : Bool) → is_boolean (kind_at (kinds_of m).defs i) ≡ b → (q : Signal) → (then_some b (signal.Def i) ≡ Some q) ↔ IsSignalNamed m name q
      by true b q = (λ h. let s : signal.Def i ≡ q = cc in subst (IsSignalNamed m name) s (here b), λ v. only q v)
        where
          only : (q : Signal) → IsSignalNamed m name q → Some (signal.Def i) ≡ Some q
          only (signal.Def j) v = ap (λ (k : ℕ). Some (signal.Def k)) (sym (one_define i j e (define_at j v)))
          only (signal.Var j) v = absurd (apart j i (variable_at j v) e)
      by false b q = (λ h. absurd cc, λ v. absurd (none q v))
        where
          none : (q : Signal) → IsSignalNamed m name q → ⊥
          none (signal.Def j) v = let s : j ≡ i = one_define i j e (define_at j v) in
              absent (is_boolean (kind_at (kinds_of m).defs i)) (ap not b) (ap (λ (k : ℕ). is_boolean (kind_at (kinds_of m).defs k)) (sym s) ∙ v.boolean)
          none (signal.Var j) v = apart j i (variable_at j v) e

  -- neither a variable nor a DEFINE has the name
  pub of_neither : IsFalse (has vars n) → IsFalse (has defines n) → (q : Signal) → IsSignalNamed m name q → ⊥
  of_neither a b (signal.Var j) v = absent (has vars n) (ap not a) (has_at vars n j (variable_at j v))
  of_neither a b (signal.Def j) v = absent (has defines n) (ap not b) (has_at defines n j (define_at j v))

-- an answer to a question on the model that is seen
pub seen_answer : (m n : Model) (name : List ℕ) (q : Signal) (r s : Option Signal) → m ≡ n → r ≡ s → (s ≡ Some q) ↔ IsSignalNamed m name q → (r ≡ Some q) ↔ IsSignalNamed n name q
seen_answer m n name q r s is same f =
    (λ h. subst (λ (k : Model). IsSignalNamed k name q) is (f.0 (sym same ∙ h)), λ v. same ∙ f.1 (subst (λ (k : Model). IsSignalNamed k name q) (sym is) v))

-- no answer where no signal has the name
pub no_answer : (m n : Model) (name : List ℕ) (q : Signal) (r : Option Signal) → m ≡ n → r ≡ None → (IsSignalNamed m name q → ⊥) → (r ≡ Some q) ↔ IsSignalNamed n name q
no_answer m n name q r is none f = (λ h. absurd (different (sym none ∙ h)), λ v. absurd (f (subst (λ (k : Model). IsSignalNamed k name q) (sym is) v)))
  where
    different : None ≡ Some q → ⊥
    different e = cc
