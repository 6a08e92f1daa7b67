-- Texts that are put behind others.
use Rattle.std.specs.Prelude.{◌≡◌, ℕ, List, ◌++◌}

-- a text of a kind is put behind the text of before
pub record Puts (old new : List ℕ) (Is : List ℕ → Type 0) : Type 0 where
  pub text : List ℕ
  pub is : Is text
  pub puts : new ≡ old ++ text
