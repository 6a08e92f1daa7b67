use Rattle.std.proofs.Common.{◌≡◌, Bool, true, false, cond, List, [], ◌∷◌, ◌++◌, ◌==◌, Some, find, filter, length, refl, ap, ◌∙◌, eq-eqb}
use Rattle.std.specs.Str.{bytes_eq}
use Rattle.std.specs.Cmp.Lexicographic.{bytes_decides}
use Rattle.cov_syntax.specs.declared.words.Word.{Word}
use Rattle.cov_syntax.specs.Words.{word_spelling, used_words, left_out_words}
use Rattle.cov_syntax.specs.Tokens.{Text, spelled_word}
use Rattle.cov_lex.proofs.word.spelled.Goals as goal

module _ (t : Text) where
  abbrev is_spelled : Word → Bool
  is_spelled w = bytes_eq (word_spelling w) t

  abbrev is_as_long : Word → Bool
  is_as_long w = length (word_spelling w) == length t

  -- one more word, by whether the text spells it and whether it has the length of the text
  found_among : (w : Word) (words : List Word) (same long : Bool) → is_spelled w ≡ same → is_as_long w ≡ long → find is_spelled (filter is_as_long words) ≡ find is_spelled words
      → find is_spelled (cond long (w ∷ filter is_as_long words) (filter is_as_long words)) ≡ cond same (Some w) (find is_spelled words)
  found_among w words true true s l later = rw s refl
  found_among w words true false s l later = absurd (let e = eq-eqb (length (word_spelling w)) (length t) (ap length ((bytes_decides (word_spelling w) t).0 s)) in cc)
  found_among w words false true s l later = rw s later
  found_among w words false false s l later = later

  -- a text is looked for among the words of its length
  find-filter : (words : List Word) → find is_spelled (filter is_as_long words) ≡ find is_spelled words
  find-filter [] = refl
  find-filter (w ∷ words) = found_among w words (is_spelled w) (is_as_long w) refl refl (find-filter words)

pub returns : goal.returns
unfolding spelled_word
returns c = c.spelled_among.ensures ∙ ap (λ words. find (is_spelled c.args.name.now) words) c.words_of_length.ensures ∙ find-filter c.args.name.now (used_words ++ left_out_words)
