-- The first lexeme that is too deep.
use Rattle.std.proofs.Common.{◌≡◌, ◌≢◌, ℕ, Bool, true, false, cond, [], ◌∷◌, ◌++◌, length, Option, Some, None, refl, sym, ap, ◌∙◌}
use Rattle.cov_syntax.specs.declared.lexeme.Lexeme.{Lexeme}
use Rattle.cov_syntax.specs.declared.lexeme.Terminal.{Terminal}
use Rattle.cov_syntax.specs.declared.lexeme.Terminal.TheVariants as k
use Rattle.cov_syntax.specs.Lexemes.{Lexemes}
use Rattle.cov_syntax.specs.Limits.{Counts, role_of, counts_after, declares_after, is_over, deep}

abbrev next_counts : Bool → Counts → Lexeme → Counts
next_counts declares s t = counts_after (role_of t.kind) declares s

-- what is too deep behind a lexeme
abbrev later : Bool → Counts → Lexeme → Lexemes → Option ℕ
later declares s t xs = deep (declares_after (role_of t.kind) declares s) (next_counts declares s t) xs

-- where nothing is too deep in the whole, nothing is in its front
pub shallow_front : (declares : Bool) (s : Counts) (front ys : Lexemes) → deep declares s (front ++ ys) ≡ None → deep declares s front ≡ None
unfolding deep
shallow_front declares s [] ys e = refl
shallow_front declares s (t ∷ front) ys e =
    go (λ f. shallow_front (declares_after (role_of t.kind) declares s) (counts_after (role_of t.kind) declares s) front ys f) (is_over (counts_after (role_of t.kind) declares s)) e
  where
    go : (later declares s t (front ++ ys) ≡ None → later declares s t front ≡ None) → (b : Bool) → cond b (Some (length (t ∷ (front ++ ys)))) (later declares s t (front ++ ys)) ≡ None
        → cond b (Some (length (t ∷ front))) (later declares s t front) ≡ None
    go h true f = absurd cc
    go h false f = h f

-- the first lexeme that is too deep
pub record DeepAt (declares : Bool) (s : Counts) (xs : Lexemes) (places : ℕ) : Type 0 where
  pub front : Lexemes
  pub lexeme : Lexeme
  pub rest : Lexemes
  pub split : xs ≡ front ++ lexeme ∷ rest
  pub places_are : length (lexeme ∷ rest) ≡ places
  pub before : deep declares s front ≡ None
  pub here : deep declares s (front ++ lexeme ∷ []) ≡ Some 1
  pub no_number : lexeme.kind ≢ k.Number

one_deep : (declares : Bool) (s : Counts) (t : Lexeme) → is_over (next_counts declares s t) ≡ true → deep declares s (t ∷ []) ≡ Some 1
unfolding deep
one_deep declares s t e = ap (λ b. cond b (Some 1) None) e

-- one lexeme that is not too deep goes before
deep_later : (declares : Bool) (s : Counts) (t : Lexeme) (xs : Lexemes) (o : Option ℕ) → is_over (next_counts declares s t) ≡ false
    → deep (declares_after (role_of t.kind) declares s) (next_counts declares s t) xs ≡ o → deep declares s (t ∷ xs) ≡ o
unfolding deep
deep_later declares s t xs o e f = ap (λ b. cond b (Some (length (t ∷ xs))) (deep (declares_after (role_of t.kind) declares s) (next_counts declares s t) xs)) e ∙ f

-- a number adds nothing
same_counts : (declares : Bool) (s : Counts) (c : Terminal) → c ≡ k.Number → counts_after (role_of c) declares s ≡ s
same_counts declares s c e = ap (λ d. counts_after (role_of d) declares s) e

pub deep_at : (declares : Bool) (s : Counts) (xs : Lexemes) (places : ℕ) → is_over s ≡ false → deep declares s xs ≡ Some places → DeepAt declares s xs places
unfolding deep
deep_at declares s [] places under e = absurd cc
deep_at declares s (t ∷ xs) places under e =
    go (λ u f. deep_at (declares_after (role_of t.kind) declares s) (next_counts declares s t) xs places u f) (is_over (next_counts declares s t)) refl e
  where
    some_is : {i j : ℕ} → Some i ≡ Some j → i ≡ j
    some_is f = cc

    go : (is_over (next_counts declares s t) ≡ false → later declares s t xs ≡ Some places → DeepAt (declares_after (role_of t.kind) declares s) (next_counts declares s t) xs places)
        → (b : Bool) → is_over (next_counts declares s t) ≡ b → cond b (Some (length (t ∷ xs))) (later declares s t xs) ≡ Some places → DeepAt declares s (t ∷ xs) places
    go h true over f = record {
      front = [];
      lexeme = t;
      rest = xs;
      split = refl;
      places_are = some_is f;
      before = refl;
      here = one_deep declares s t over;
      no_number = λ is. let g : is_over s ≡ true = ap is_over (sym (same_counts declares s t.kind is)) ∙ over in cc;
    }
    go h false over f =
        let d = h over f in
        record {
          front = t ∷ d.front;
          lexeme = d.lexeme;
          rest = d.rest;
          split = ap (λ (l : Lexemes). t ∷ l) d.split;
          places_are = d.places_are;
          before = deep_later declares s t d.front None over d.before;
          here = deep_later declares s t (d.front ++ d.lexeme ∷ []) (Some 1) over d.here;
          no_number = d.no_number;
        }
