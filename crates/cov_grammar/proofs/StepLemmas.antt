-- Terminals that are one, and steps of a parser that may fail.
use Rattle.std.proofs.Common.{◌≡◌, ◌≢◌, Bool, true, false, cond, Result, Ok, Err, refl, rules, sym, ap, subst}
use Rattle.std.specs.Prelude.{IfOk}
use denote.Enum.Bare.{same_true, true_same, false_same}
use Rattle.cov_syntax.specs.contracts.marks.Mark as marks
use Rattle.cov_syntax.specs.contracts.words.Word as words
use Rattle.cov_syntax.specs.declared.lexeme.Terminal.{Terminal}
use Rattle.cov_syntax.specs.declared.lexeme.Terminal.TheVariants as k
use Rattle.cov_syntax.specs.declared.marks.Mark.{Mark}
use Rattle.cov_syntax.specs.declared.words.Word.{Word}
use Rattle.cov_syntax.specs.Lexemes.{Lexemes, kind, next, same}
use Rattle.cov_grammar.specs.Steps.{Stop, ◌>>=◌, refuse, expect}

-- ---- terminals that are one

pub same_is : (a b : Terminal) → same a b ≡ true → a ≡ b
unfolding same
same_is k.Nothing k.Nothing e = refl
same_is k.Name k.Name e = refl
same_is k.Number k.Number e = refl
same_is (k.Word a) (k.Word b) e = ap (λ (c : Word). k.Word c) (same_true words.the_type (search rules) a b e)
same_is (k.Mark a) (k.Mark b) e = ap (λ (c : Mark). k.Mark c) (same_true marks.the_type (search rules) a b e)
same_is _ _ e = absurd cc

same_self : (a : Terminal) → same a a ≡ true
unfolding same
same_self k.Nothing = refl
same_self k.Name = refl
same_self k.Number = refl
same_self (k.Word a) = true_same words.the_type a a refl
same_self (k.Mark a) = true_same marks.the_type a a refl

pub same_at : (a b : Terminal) → a ≡ b → same a b ≡ true
same_at a b e = subst (λ (c : Terminal). same a c ≡ true) e (same_self a)

pub not_same : (a b : Terminal) → a ≢ b → same a b ≡ false
unfolding same
not_same k.Nothing k.Nothing h = absurd (h refl)
not_same k.Name k.Name h = absurd (h refl)
not_same k.Number k.Number h = absurd (h refl)
not_same (k.Word a) (k.Word b) h = false_same words.the_type (search rules) a b (λ e. h (ap (λ (c : Word). k.Word c) e))
not_same (k.Mark a) (k.Mark b) h = false_same marks.the_type (search rules) a b (λ e. h (ap (λ (c : Mark). k.Mark c) e))
not_same _ _ h = refl

-- ---- what holds of a step that did not fail

pub record Gives {A : Type 0} (r : Result A Stop) (P : A → Type 0) : Type 0 where
  pub holds : IfOk r P

-- a step that may fail, and the rest after it
pub then : {A B : Type 0} {r : Result A Stop} {f : A → Result B Stop} {P : A → Type 0} {Q : B → Type 0} → Gives r P → ((x : A) → P x → Gives (f x) Q) → Gives (r >>= f) Q
then {A} {B} {r} {f} {P} {Q} h g = record { holds = go r h.holds }
  where
    go : (r : Result A Stop) → IfOk r P → IfOk (r >>= f) Q
    go (Ok x) h = (g x h).holds
    go (Err e) h = tt

pub gives_ok : {A : Type 0} {x : A} {P : A → Type 0} → P x → Gives (Ok x) P
gives_ok h = record { holds = h }

pub gives_err : {A : Type 0} {e : Stop} {P : A → Type 0} → Gives (Err e) P
gives_err = record { holds = tt }

-- a choice by a test
pub choose : {A : Type 0} {x y : Result A Stop} {P : A → Type 0} (b : Bool) → (b ≡ true → Gives x P) → (b ≡ false → Gives y P) → Gives (cond b x y) P
choose true h g = h refl
choose false h g = g refl

-- what a token that was expected was
pub record Was (r : Result Lexemes Stop) (want : Terminal) (xs : Lexemes) : Type 0 where
  pub holds : IfOk r (λ ys. (kind xs ≡ want) × (ys ≡ next xs))

pub token : (want : Terminal) (xs : Lexemes) → Was (expect want xs) want xs
unfolding expect
token want xs = record { holds = go (same (kind xs) want) refl }
  where
    go : (b : Bool) → same (kind xs) want ≡ b → IfOk (cond b (Ok (next xs)) (refuse xs)) (λ ys. (kind xs ≡ want) × (ys ≡ next xs))
    go true e = (same_is (kind xs) want e, refl)
    go false e = tt

-- a token that is expected, and the rest after it
pub expecting : {B : Type 0} {r : Result Lexemes Stop} {want : Terminal} {xs : Lexemes} {Q : B → Type 0} (f : Lexemes → Result B Stop)
    → Was r want xs → (kind xs ≡ want → Gives (f (next xs)) Q) → Gives (r >>= f) Q
expecting {B} {r} {want} {xs} {Q} f h g = go r h.holds
  where
    go : (r : Result Lexemes Stop) → IfOk r (λ ys. (kind xs ≡ want) × (ys ≡ next xs)) → Gives (r >>= f) Q
    go (Ok ys) w = subst (λ (zs : Lexemes). Gives (f zs) Q) (sym w.1) (g w.0)
    go (Err e) w = gives_err

pub weaker : {A : Type 0} {r : Result A Stop} {P Q : A → Type 0} → ((x : A) → P x → Q x) → Gives r P → Gives r Q
weaker {A} {r} {P} {Q} f h = record { holds = go r h.holds }
  where
    go : (r : Result A Stop) → IfOk r P → IfOk r Q
    go (Ok x) h = f x h
    go (Err e) h = tt

pub differs : (a b : Terminal) → same a b ≡ false → a ≢ b
differs a b e h = let s : same a b ≡ true = same_at a b h in cc
