-- Lines that begin with a front.
use Rattle.std.proofs.Common.{ℕ, ◌≡◌, ◌≢◌, Bool, false, List, [], ◌∷◌, ◌++◌, Option, Some, None, Bor, IfSome, refl, sym, ap, ◌∙◌, eq-eqb, arith}
use Rattle.std.specs.Option.{option_copied, MatchOption}
use Rattle.std.proofs.lemmas.Bool.Decides.{Decides-eqb}
use Rattle.cov_evid.specs.FirstFault.{behind, has_number}
use Rattle.cov_evid.specs.Numbers.{is_number}

pub behind-whole : (front rest : List ℕ) → behind front (front ++ rest) ≡ Some rest
behind-whole [] rest = refl
behind-whole (a ∷ front) rest = rw (eq-eqb a a refl) (behind-whole front rest)

pub behind-none : (front line : List ℕ) → ((rest : List ℕ) → line ≢ front ++ rest) → behind front line ≡ None
behind-none [] line h = absurd (h line refl)
behind-none (a ∷ front) [] h = refl
behind-none (a ∷ front) (b ∷ line) h =
    let below : a ≡ b → behind front line ≡ None = λ e. behind-none front line (λ rest same. h rest cc) in
    grind (arith, below, (Decides-eqb a b).0)

-- what stands behind the front of a line
pub behind_is : (front line rest : List ℕ) → line ≡ front ++ rest → behind front line ≡ Some rest
behind_is front line rest e = ap (behind front) e ∙ behind-whole front rest

pub number_is : (front line rest : List ℕ) (b : Bool) → line ≡ front ++ rest → is_number rest ≡ b → has_number front line ≡ b
number_is front line rest b e h = rw (behind_is front line rest e) h

pub no_number : (front line : List ℕ) → None ≡ behind front line → has_number front line ≡ false
no_number front line h = rw (← h) refl

pub behind-is : (front line : List ℕ) (r : Option (Bor (List ℕ))) → MatchOption r ((rest : List ℕ) → line ≢ front ++ rest) (λ x. line ≡ front ++ x.now) → option_copied r ≡ behind front line
behind-is front line None h = sym (behind-none front line h)
behind-is front line (Some x) h = sym (behind_is front line x.now h)

pub begins : (front line : List ℕ) (r : Option (Bor (List ℕ))) → MatchOption r ((rest : List ℕ) → line ≢ front ++ rest) (λ x. line ≡ front ++ x.now) → IfSome r (λ x. line ≡ front ++ x.now)
begins front line None h = tt
begins front line (Some x) h = h
