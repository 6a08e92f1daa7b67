-- Words that begin with a front.
use Rattle.std.proofs.Common.{ℕ, ◌≡◌, ◌≢◌, List, [], ◌∷◌, ◌++◌, Option, Some, None, Bor, refl, ap, sym, ◌∙◌, eq-eqb, arith}
use Rattle.std.specs.Option.{option_copied, MatchOption}
use Rattle.std.proofs.lemmas.Bool.Decides.{Decides-eqb}
use Rattle.cov_words.specs.Words.{behind}

pub behind-whole : (front rest : List ℕ) → behind front (front ++ rest) ≡ Some rest
behind-whole [] rest = refl
behind-whole (a ∷ front) rest = rw (eq-eqb a a refl) (behind-whole front rest)

pub behind-none : (front word : List ℕ) → ((rest : List ℕ) → word ≢ front ++ rest) → behind front word ≡ None
behind-none [] word h = absurd (h word refl)
behind-none (a ∷ front) [] h = refl
behind-none (a ∷ front) (b ∷ word) h =
    let below : a ≡ b → behind front word ≡ None = λ e. behind-none front word (λ rest same. h rest cc) in
    grind (arith, below, (Decides-eqb a b).0)

pub behind-is : (front word : List ℕ) (r : Option (Bor (List ℕ))) → MatchOption r ((rest : List ℕ) → word ≢ front ++ rest) (λ x. word ≡ front ++ x.now) → option_copied r ≡ behind front word
behind-is front word None h = sym (behind-none front word h)
behind-is front word (Some x) h = sym (ap (behind front) h ∙ behind-whole front x.now)
