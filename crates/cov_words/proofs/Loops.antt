-- Words that are sorted one after another.
use Rattle.std.proofs.Common.{ℕ, ◌≡◌, ◌<◌, ◌+◌, List, ◌∷◌, None, Err, refl, ◌∙◌, ap, drop, length, arith, map, String, string_bytes, get_or, drop-cons, add-one}
use Rattle.std.specs.declared.alloc.Global.{Global}
use Rattle.cov_words.specs.Words.{Sorted, sorted, nothing}
use Rattle.cov_words.specs.Sorting.{IsBrief, GoesOn, Sorts, Steps}
use Rattle.cov_words.specs.declared.brief.Brief.{Brief}
use Rattle.cov_words.specs.declared.job.WordsFault.{WordsFault}
use Rattle.cov_words.specs.declared.job.WordsFault.TheVariants.{Words, Memory}
use Rattle.cov_words.specs.declared.sort.Step.{Step}
use Rattle.cov_words.specs.declared.brief.Given.TheVariants.{Never}
use Rattle.std.proofs.lemmas.List.{drop-map, drop-drop}

-- The words that are left are sorted from what is kept, as the whole is from nothing.
pub record IsLeft (words : List (List ℕ)) (at : ℕ) (b : Brief) : Type 0 where
  pub s : Sorted
  pub brief : IsBrief b s
  pub more : sorted words nothing ≡ sorted (drop at words) s

pub from_nothing : (words : List (List ℕ)) → IsLeft words 0 (record { positional = None; nodes = Never; cubes = Never })
from_nothing words = record { s = nothing; brief = record { positional = refl; nodes = refl; cubes = refl }; more = refl }

-- the word at an index, and those behind it
pub record IsCut (words : List (String Global)) (at : ℕ) (word : List ℕ) (rest : List (String Global)) : Type 0 where
  pub here : drop at (map string_bytes words) ≡ word ∷ map string_bytes rest
  pub behind : rest ≡ drop (at + 1) words

pub cut : (words : List (String Global)) (at : ℕ) (w : String Global) (word : List ℕ) (rest : List (String Global)) → at < length words → w ≡ get_or words at w → word ≡ string_bytes w → rest ≡ drop (at + 1) words → IsCut words at word rest
cut words at w word rest h e same r =
    let whole : drop at words ≡ get_or words at w ∷ drop (at + 1) words = rw add-one (drop-cons words at w h) in
    record { here = rw (drop-map string_bytes at words, whole, ← e, ← r, ← same) refl; behind = r }

-- the loop goes on behind a word
pub left_more : (words : List (String Global)) (at : ℕ) (b : Brief) (word : List ℕ) (rest : List (String Global)) (step : Step) → IsLeft (map string_bytes words) at b → IsCut words at word rest → ((s : Sorted) → IsBrief b s → GoesOn word (map string_bytes rest) s step) → IsLeft (map string_bytes words) (at + (1 + step.taken)) step.sorted
left_more words at b word rest step left c go =
    let g = go left.s left.brief in
    let taken : at + (1 + step.taken) ≡ (at + 1) + step.taken = omega arith in
    let later : drop step.taken (map string_bytes rest) ≡ drop (at + (1 + step.taken)) (map string_bytes words) =
    rw (c.behind, taken, ← drop-map string_bytes (at + 1) words, drop-drop step.taken (at + 1) (map string_bytes words)) refl in
    record {
      s = g.after;
      brief = g.brief;
      more = left.more ∙ ap (λ ws. sorted ws left.s) c.here ∙ g.more ∙ ap (λ ws. sorted ws g.after) later;
    }

-- the loop stops at a word that is not sorted
pub left_none : (words : List (String Global)) (at : ℕ) (b : Brief) (word : List ℕ) (rest : List (String Global)) (e : WordsFault) → IsLeft (map string_bytes words) at b → IsCut words at word rest → ((s : Sorted) → IsBrief b s → Steps word (map string_bytes rest) s (Err e)) → Sorts (Err e) (sorted (map string_bytes words) nothing)
left_none words at b word rest Words left c go = left.more ∙ ap (λ ws. sorted ws left.s) c.here ∙ go left.s left.brief
left_none words at b word rest Memory left c go = tt
