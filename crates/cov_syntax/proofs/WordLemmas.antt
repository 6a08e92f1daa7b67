-- Lemmas on reserved words and their spellings.
use Rattle.std.proofs.Common.{◌≡◌, Bool, true, false, cond, Option, Some, List, [], ◌∷◌, ◌++◌, find, refl, sym, ap, ◌∙◌}
use Rattle.std.specs.Str.{bytes_eq}
use Rattle.std.specs.Cmp.Lexicographic.{bytes_decides}
use Rattle.cov_syntax.specs.declared.words.Word.{Word}
use Rattle.cov_syntax.specs.declared.words.Word.TheVariants as w
use Rattle.cov_syntax.specs.Words.{word_spelling, used_words, left_out_words}
use Rattle.cov_syntax.specs.Tokens.{Text, spelled_word}

-- the first of some words that a text spells
abbrev pub spelled_among : List Word → Text → Option Word
spelled_among words t = find (λ w. bytes_eq (word_spelling w) t) words

-- it is spelled so
pub word_spelling-spelled_among : (words : List Word) (t : Text) (w : Word) → spelled_among words t ≡ Some w → word_spelling w ≡ t
word_spelling-spelled_among [] t w e = absurd cc
word_spelling-spelled_among (v ∷ words) t w e = by_first (bytes_eq (word_spelling v) t) refl e (λ h. word_spelling-spelled_among words t w h)
  where
    by_first : (same : Bool) → bytes_eq (word_spelling v) t ≡ same → cond same (Some v) (spelled_among words t) ≡ Some w
        → (spelled_among words t ≡ Some w → word_spelling w ≡ t) → word_spelling w ≡ t
    by_first true is h later = let v_is : v ≡ w = cc in ap word_spelling (sym v_is) ∙ (bytes_decides (word_spelling v) t).0 is
    by_first false is h later = later h

-- each word is found at its spelling
pub spelled_word-word_spelling : (w : Word) → spelled_word (word_spelling w) ≡ Some w
unfolding spelled_word
spelled_word-word_spelling w.Module = refl
spelled_word-word_spelling w.Var = refl
spelled_word-word_spelling w.Assign = refl
spelled_word-word_spelling w.Trans = refl
spelled_word-word_spelling w.Init = refl
spelled_word-word_spelling w.Invar = refl
spelled_word-word_spelling w.Define = refl
spelled_word-word_spelling w.Fairness = refl
spelled_word-word_spelling w.Justice = refl
spelled_word-word_spelling w.Spec = refl
spelled_word-word_spelling w.CtlSpec = refl
spelled_word-word_spelling w.Boolean = refl
spelled_word-word_spelling w.InitOf = refl
spelled_word-word_spelling w.NextOf = refl
spelled_word-word_spelling w.Case = refl
spelled_word-word_spelling w.Esac = refl
spelled_word-word_spelling w.Union = refl
spelled_word-word_spelling w.In = refl
spelled_word-word_spelling w.Mod = refl
spelled_word-word_spelling w.Xor = refl
spelled_word-word_spelling w.True = refl
spelled_word-word_spelling w.False = refl
spelled_word-word_spelling w.Ex = refl
spelled_word-word_spelling w.Ef = refl
spelled_word-word_spelling w.Eg = refl
spelled_word-word_spelling w.Ax = refl
spelled_word-word_spelling w.Af = refl
spelled_word-word_spelling w.Ag = refl
spelled_word-word_spelling w.A = refl
spelled_word-word_spelling w.E = refl
spelled_word-word_spelling w.U = refl
spelled_word-word_spelling w.Ivar = refl
spelled_word-word_spelling w.Process = refl
spelled_word-word_spelling w.Compassion = refl
spelled_word-word_spelling w.LtlSpec = refl
spelled_word-word_spelling w.InvarSpec = refl
spelled_word-word_spelling w.Compute = refl
spelled_word-word_spelling w.FrozenVar = refl
spelled_word-word_spelling w.Constants = refl
spelled_word-word_spelling w.Isa = refl
spelled_word-word_spelling w.Itself = refl
spelled_word-word_spelling w.Array = refl
spelled_word-word_spelling w.BitVector = refl
spelled_word-word_spelling w.Real = refl
spelled_word-word_spelling w.Xnor = refl
spelled_word-word_spelling w.Bu = refl
spelled_word-word_spelling w.Ebf = refl
spelled_word-word_spelling w.Abf = refl
spelled_word-word_spelling w.Ebg = refl
spelled_word-word_spelling w.Abg = refl

-- the word of a text is spelled so
pub word_spelling-spelled_word : (t : Text) (w : Word) → spelled_word t ≡ Some w → word_spelling w ≡ t
unfolding spelled_word
word_spelling-spelled_word t w e = word_spelling-spelled_among (used_words ++ left_out_words) t w e
