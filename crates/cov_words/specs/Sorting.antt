-- What is kept of sorted words: the positional ones, and of the values of an option none, the only one, or that there are more.
use Rattle.std.specs.Prelude.{ℕ, ◌≡◌, ◌≤◌, List, [], ◌∷◌, Option, Some, None, Result, Ok, Err, length, drop, if◌then◌else◌}
use Rattle.cov_words.specs.Words.{Sorted, sorted, takes_value}
use Rattle.cov_words.specs.declared.brief.Given.{Given}
use Rattle.cov_words.specs.declared.brief.Given.TheVariants.{Never, Once, Again}
use Rattle.cov_words.specs.declared.brief.Brief.{Brief}
use Rattle.cov_words.specs.declared.positional.Positional.{Positional}
use Rattle.cov_words.specs.declared.job.WordsFault.{WordsFault}
use Rattle.cov_words.specs.declared.job.WordsFault.TheVariants.{Words, Memory}
use Rattle.cov_words.specs.declared.sort.Step.{Step}

-- what is kept of these values
abbrev pub IsGiven : Given → List (List ℕ) → Type 0
IsGiven Never vs = vs ≡ []
IsGiven (Once v) vs = vs ≡ v.now ∷ []
IsGiven Again vs = 2 ≤ length vs

-- what is kept of these positional words: the first, and those behind it
abbrev pub IsPositional : Option Positional → List (List ℕ) → Type 0
IsPositional None ps = ps ≡ []
IsPositional (Some p) ps = ps ≡ p.model ∷ p.signals

-- what is kept of sorted words
pub record IsBrief (b : Brief) (s : Sorted) : Type 0 where
  pub positional : IsPositional b.positional s.positional
  pub nodes : IsGiven b.nodes s.nodes
  pub cubes : IsGiven b.cubes s.cubes

-- Behind a word, and so many of the next words, sorting goes on from what is kept now.
pub record GoesOn (word : List ℕ) (words : List (List ℕ)) (s : Sorted) (step : Step) : Type 0 where
  pub after : Sorted
  pub brief : IsBrief step.sorted after
  pub more : sorted (word ∷ words) s ≡ sorted (drop step.taken words) after
  pub within : step.taken ≤ length words

-- the answer of one step at a word and those behind it; want of memory is free
abbrev pub Steps : List ℕ → List (List ℕ) → Sorted → Result Step WordsFault → Type 0
Steps word words s (Err Words) = sorted (word ∷ words) s ≡ None
Steps word words s (Err Memory) = Unit {0}
Steps word words s (Ok step) = GoesOn word words s step

-- the next word, where it is the value of a word
abbrev pub next_value : List ℕ → List (List ℕ) → Option (List ℕ)
next_value word [] = None
next_value word (v ∷ words) = if takes_value word then Some v else None

-- what is kept of words that may not be sorted; want of memory is free
abbrev pub Sorts : Result Brief WordsFault → Option Sorted → Type 0
Sorts (Err Words) r = r ≡ None
Sorts (Err Memory) r = Unit {0}
Sorts (Ok b) r = (s : Sorted) × IsBrief b s × (r ≡ Some s)
