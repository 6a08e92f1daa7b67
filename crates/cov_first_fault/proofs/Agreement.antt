-- Lexemes that agree in kind up to a place, and parsers that do then the same up to it.
use Rattle.std.proofs.Common.{◌≡◌, ℕ, suc, ◌<◌, ◌≤◌, Bool, true, false, cond, [], ◌∷◌, ◌++◌, length, length-append, Result, Ok, Err, inl, inr, refl, ap, subst, arith}
use Rattle.std.specs.Prelude.{IfOk}
use Rattle.std.proofs.lemmas.Bool.{cases_lt}
use Rattle.cov_syntax.specs.declared.lexeme.Terminal.{Terminal}
use Rattle.cov_syntax.specs.Lexemes.{Lexemes, kind, next, same}
use Rattle.cov_grammar.specs.Steps.{Stop, ◌>>=◌, expect}
use Rattle.cov_first_fault.proofs.Steps.{Is, IsPlain, IsWalk, Walks, token_walk}

-- ---- bounds

-- what is left is no more than so much
abbrev pub IsWithin : {A : Type 0} → (A → Lexemes) → ℕ → Result A Stop → Type 0
IsWithin v n (Ok a) = length (v a) ≤ n
IsWithin v n (Err (Stop.unread places)) = places ≤ n
IsWithin v n (Err (Stop.too_great places)) = Unit {0}

pub record Within {A : Type 0} (v : A → Lexemes) (n : ℕ) (r : Result A Stop) : Type 0 where
  pub holds : IsWithin v n r

pub within : {A : Type 0} {v : A → Lexemes} {G : Lexemes → Lexemes → Type 0} {xs : Lexemes} {r : Result A Stop} {n : ℕ} → Walks v G xs r → length xs ≤ n → Within v n r
within {A} {v} {G} {xs} {r} {n} h le = record { holds = go r h.holds }
  where
    go : (r : Result A Stop) → IsWalk v G xs r → IsWithin v n r
    go (Ok a) t = let e : length xs ≡ length (t.front ++ v a) = ap length t.split in omega (arith, e, length-append t.front (v a))
    go (Err (Stop.unread places)) t = let e : length xs ≡ length (t.front ++ t.rest) = ap length t.split in omega (arith, e, t.places_are, length-append t.front t.rest)
    go (Err (Stop.too_great places)) t = tt

-- what an answer leaves
pub leaves : {A : Type 0} {v : A → Lexemes} {G : Lexemes → Lexemes → Type 0} {xs : Lexemes} {r : Result A Stop} {a : A} → Walks v G xs r → r ≡ Ok a → length (v a) ≤ length xs
leaves {A} {v} {G} {xs} {r} {a} h is = let w = within {n = length xs} h (omega arith) in subst (λ (s : Result A Stop). IsWithin v (length xs) s) is w.holds

-- what holds of an answer of two steps
pub ok_after : {A B : Type 0} (r : Result A Stop) (f : A → Result B Stop) (P : B → Type 0) → ((a : A) → r ≡ Ok a → IfOk (f a) P) → IfOk (r >>= f) P
ok_after (Ok a) f P h = h a refl
ok_after (Err e) f P h = tt

pub next_shorter : (xs : Lexemes) → 0 < length xs → suc (length (next xs)) ≡ length xs
next_shorter [] lt = absurd (omega arith)
next_shorter (t ∷ xs) lt = refl

pub next_shorter_or_equal : (xs : Lexemes) → length (next xs) ≤ length xs
next_shorter_or_equal [] = omega arith
next_shorter_or_equal (t ∷ xs) = omega arith

-- ---- agreement

-- the kinds agree up to where so many of the first list are left
abbrev pub Agree : ℕ → Lexemes → Lexemes → Type 0
Agree n [] ys = Unit {0}
Agree n (t ∷ xs) [] = length (t ∷ xs) ≤ n
Agree n (t ∷ xs) (u ∷ ys) = n < length (t ∷ xs) → (t.kind ≡ u.kind) × Agree n xs ys

pub agree_past : {n : ℕ} (xs ys : Lexemes) → length xs ≤ n → Agree n xs ys
agree_past [] ys le = tt
agree_past (t ∷ xs) [] le = le
agree_past (t ∷ xs) (u ∷ ys) le = λ lt. absurd (omega arith)

-- what agrees before that place
pub record Agreed (n : ℕ) (xs ys : Lexemes) : Type 0 where
  pub kinds : kind xs ≡ kind ys
  pub behind : Agree n (next xs) (next ys)
  pub some : 0 < length ys

pub agreed : {n : ℕ} (xs ys : Lexemes) → Agree n xs ys → n < length xs → Agreed n xs ys
agreed [] ys h lt = absurd (omega arith)
agreed (t ∷ xs) [] h lt = absurd (omega arith)
agreed (t ∷ xs) (u ∷ ys) h lt = record { kinds = (h lt).0; behind = (h lt).1; some = omega arith }

-- ---- the same up to there

-- Up to there the second does what the first does, or fails: where the first stops before, the second does not go on.
abbrev pub IsLocal : {A : Type 0} → (A → Lexemes) → ℕ → Result A Stop → Result A Stop → Type 0
IsLocal v n (Ok a) (Ok b) = Agree n (v a) (v b)
IsLocal v n (Ok a) (Err e) = Unit {0}
IsLocal v n (Err (Stop.unread places)) (Ok b) = places ≤ n
IsLocal v n (Err (Stop.unread places)) (Err e) = Unit {0}
IsLocal v n (Err (Stop.too_great places)) s = Unit {0}

pub record Local {A : Type 0} (v : A → Lexemes) (n : ℕ) (r s : Result A Stop) : Type 0 where
  pub holds : IsLocal v n r s

pub local_err : {A : Type 0} {v : A → Lexemes} {n : ℕ} {r : Result A Stop} {e : Stop} → Local v n r (Err e)
local_err {A} {v} {n} {r} {e} = record { holds = go r }
  where
    go : (r : Result A Stop) → IsLocal v n r (Err e)
    go (Ok a) = tt
    go (Err (Stop.unread places)) = tt
    go (Err (Stop.too_great places)) = tt

pub local_past : {A : Type 0} {v : A → Lexemes} {n : ℕ} {r s : Result A Stop} → Within v n r → Local v n r s
local_past {A} {v} {n} {r} {s} h = record { holds = go r s h.holds }
  where
    go : (r s : Result A Stop) → IsWithin v n r → IsLocal v n r s
    go (Ok a) (Ok b) le = agree_past (v a) (v b) le
    go (Ok a) (Err e) le = tt
    go (Err (Stop.unread places)) (Ok b) le = le
    go (Err (Stop.unread places)) (Err e) le = tt
    go (Err (Stop.too_great places)) s le = tt

pub local_ok : {A : Type 0} {v : A → Lexemes} {n : ℕ} {a b : A} → Agree n (v a) (v b) → Local v n (Ok a) (Ok b)
local_ok h = record { holds = h }

pub local_stopped : {A : Type 0} {v : A → Lexemes} {n places : ℕ} (s : Result A Stop) → places ≤ n → Local v n (Err (Stop.unread places)) s
local_stopped (Ok b) le = record { holds = le }
local_stopped (Err e) le = local_err

-- a step that may fail, and the rest after it
pub local_then : {A B : Type 0} {v : A → Lexemes} {w : B → Lexemes} {n : ℕ} {r s : Result A Stop} {f g : A → Result B Stop}
    → Local v n r s → ((a b : A) → r ≡ Ok a → s ≡ Ok b → Agree n (v a) (v b) → Local w n (f a) (g b)) → Local w n (r >>= f) (s >>= g)
local_then {A} {B} {v} {w} {n} {r} {s} {f} {g} h after = go r s refl refl h.holds
  where
    go : (x y : Result A Stop) → r ≡ x → s ≡ y → IsLocal v n x y → Local w n (x >>= f) (y >>= g)
    go (Ok a) (Ok b) ea eb le = after a b ea eb le
    go (Ok a) (Err e) ea eb le = local_err
    go (Err (Stop.unread places)) (Ok b) ea eb le = local_stopped (g b) le
    go (Err (Stop.unread places)) (Err e) ea eb le = local_err
    go (Err (Stop.too_great places)) y ea eb le = record { holds = tt }

-- before that place the kinds agree, and from it on nothing is said
pub before : {A : Type 0} {v : A → Lexemes} {G : Lexemes → Lexemes → Type 0} {n : ℕ} {r s : Result A Stop} (xs ys : Lexemes) → Agree n xs ys → Walks v G xs r
    → (n < length xs → Agreed n xs ys → Local v n r s) → Local v n r s
before {n = n} xs ys h walk f = elim (cases_lt n (length xs)) [ inl lt ↦ f lt (agreed xs ys h lt) | inr le ↦ local_past (within walk le) ]

pub local_cond : {A : Type 0} {v : A → Lexemes} {n : ℕ} {x y x' y' : Result A Stop} (b c : Bool) → b ≡ c → (b ≡ true → Local v n x x') → (b ≡ false → Local v n y y') → Local v n (cond b x y) (cond c x' y')
local_cond true true e f g = f refl
local_cond true false e f g = absurd cc
local_cond false true e f g = absurd cc
local_cond false false e f g = g refl

-- an answer, or a number that is too great
pub local_great : {A : Type 0} {v : A → Lexemes} {n : ℕ} (i j : ℕ) (a b : A) (c d : Bool) → Agree n (v a) (v b) → Local v n (cond c (Ok a) (Err (Stop.too_great i))) (cond d (Ok b) (Err (Stop.too_great j)))
local_great i j a b true true h = local_ok h
local_great i j a b true false h = local_err
local_great i j a b false d h = record { holds = tt }

abbrev pub itself : Lexemes → Lexemes
itself xs = xs

pub token_local : {n : ℕ} (c : Terminal) → IsPlain (Is c) → (xs ys : Lexemes) → Agree n xs ys → Local itself n (expect c xs) (expect c ys)
unfolding expect
token_local c i xs ys h = before xs ys h (token_walk c i xs) (λ lt d. local_cond (same (kind xs) c) (same (kind ys) c) (ap (λ e. same e c) d.kinds) (λ e. local_ok d.behind) (λ e. local_err))
