-- How the tokens of a text stand in it: from left to right, each the longest at its place, with blanks and comments between them.
use Rattle.std.specs.Prelude.{◌≡◌, ◌≢◌, ℕ, ◌+◌, ◌<◌, ◌≤◌, true, false, List, [], ◌∷◌, ◌++◌, length, drop, slice_index, slice_range}
use Rattle.std.specs.List.{AllPass}
use Rattle.std.specs.Char.{is_ascii_digit}
use Rattle.cov_syntax.specs.declared.marks.Mark.{Mark}
use Rattle.cov_syntax.specs.declared.token.Token.{Token}
use Rattle.cov_syntax.specs.declared.token.TokenKind.{TokenKind}
use Rattle.cov_syntax.specs.declared.token.TokenKind.TheVariants as k
use Rattle.cov_syntax.specs.declared.words.Word.{Word}
use Rattle.cov_syntax.specs.Marks.{mark_number, mark_spelling}
use Rattle.cov_syntax.specs.Words.{word_number, word_spelling}
use Rattle.cov_syntax.specs.Tokens.{Text, is_blank, begins_comment, line_len, begins_name, goes_on}

-- each byte goes on with a name, where this byte stands behind the text
abbrev pub AllGoOn : ℕ → Text → Type 0
AllGoOn behind [] = Unit {0}
AllGoOn behind (b ∷ t) = (goes_on b (slice_index (t ++ behind ∷ []) 0) ≡ true) × AllGoOn behind t

-- a letter or `_`, and then bytes that go on with a name
abbrev pub IsName : ℕ → Text → Type 0
IsName behind t = (begins_name (slice_index t 0) ≡ true) × AllGoOn behind t

-- how a token of a kind is written, where this byte stands behind it
abbrev pub IsSpelling : TokenKind → ℕ → Text → Type 0
IsSpelling k.Name behind t = IsName behind t × ((w : Word) → word_spelling w ≢ t)
IsSpelling k.Number behind t = (0 < length t) × AllPass is_ascii_digit t
IsSpelling (k.Word n) behind t = IsName behind t × ((w : Word) × (word_number w ≡ n) × (word_spelling w ≡ t))
IsSpelling (k.Mark n) behind t = (m : Mark) × (mark_number m ≡ n) × (mark_spelling m ≡ t)

-- the bytes of a text from one place to another are a token of this kind
pub record IsTokenIn (text : Text) (kind : TokenKind) (from to : ℕ) : Type 0 where
  pub some : from < to
  pub within : to ≤ length text
  pub spelled : IsSpelling kind (slice_index text to) (slice_range text from to)

-- no token that begins there goes further
abbrev pub IsLongest : Text → ℕ → ℕ → Type 0
IsLongest text from to = (kind : TokenKind) (end : ℕ) → to < end → ¬ IsTokenIn text kind from end

-- the bytes of a text from one place to another are blanks and comments
pub data IsGap (text : Text) : ℕ → ℕ → Type 0 where
  none : (at : ℕ) → IsGap text at at
  blank : (from to : ℕ) → from < length text → is_blank (slice_index text from) ≡ true → IsGap text (from + 1) to → IsGap text from to
  comment : (from to : ℕ) → begins_comment (drop from text) ≡ true → IsGap text (from + line_len (drop from text)) to → IsGap text from to

-- a token stands in a text, as the first one behind a place
pub record IsNext (text : Text) (from : ℕ) (t : Token) : Type 0 where
  pub later : from ≤ t.span.start
  pub gap : IsGap text from t.span.start
  pub token : IsTokenIn text t.kind t.span.start t.span.stop
  pub longest : IsLongest text t.span.start t.span.stop

-- the bytes of a text from one place to another are these tokens, with gaps before, between and behind them
abbrev pub IsCut : Text → ℕ → List Token → ℕ → Type 0
IsCut text from [] to = (from ≤ to) × IsGap text from to
IsCut text from (t ∷ ts) to = IsNext text from t × IsCut text t.span.stop ts to

-- at a place stands a byte that begins no token and no comment, and is no blank
pub record IsBadByte (text : Text) (at : ℕ) : Type 0 where
  pub within : at < length text
  pub no_blank : is_blank (slice_index text at) ≡ false
  pub no_comment : begins_comment (drop at text) ≡ false
  pub no_token : IsLongest text at at
