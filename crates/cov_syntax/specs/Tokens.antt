-- The tokens of a text: from left to right, at each place the longest.
use Rattle.std.specs.Prelude.{ℕ, zero, suc, ◌+◌, ◌-◌, Bool, not, ◌&&◌, ◌||◌, if◌then◌else◌, ◌==◌, nat_eq, nat_lt, List, [], ◌∷◌, ◌++◌, length, take, take_while, slice_index, find, Option, Some, None, Result, Ok, Err}
use Rattle.std.specs.List.{starts_with}
use Rattle.std.specs.Char.{is_ascii_digit, is_ascii_alphabetic}
use Rattle.std.specs.Str.{bytes_eq}
use Rattle.cov_syntax.specs.declared.fault.FaultKind.{FaultKind}
use Rattle.cov_syntax.specs.declared.fault.FaultKind.TheVariants as fault
use Rattle.cov_syntax.specs.declared.fault.ModelFault.{ModelFault}
use Rattle.cov_syntax.specs.declared.marks.Mark.{Mark}
use Rattle.cov_syntax.specs.declared.marks.Mark.TheVariants as m
use Rattle.cov_syntax.specs.declared.token.Token.{Token}
use Rattle.cov_syntax.specs.declared.token.TokenKind.{TokenKind}
use Rattle.cov_syntax.specs.declared.token.TokenKind.TheVariants as k
use Rattle.cov_syntax.specs.declared.words.Word.{Word}
use Rattle.cov_syntax.specs.Faults.{code_of}
use Rattle.cov_syntax.specs.Marks.{mark_number, mark_spelling}
use Rattle.cov_syntax.specs.Words.{word_number, word_spelling, used_words, left_out_words}

-- the bytes of a text
abbrev pub Text : Type 0
Text = List ℕ

-- the byte `-`
abbrev pub dash : ℕ
dash = 45

-- the byte LF
abbrev pub line_feed : ℕ
line_feed = 10

-- space, tab, CR and LF
abbrev pub is_blank : ℕ → Bool
is_blank b = b == 32 || b == 9 || b == 13 || b == line_feed

-- a comment is `--` and what follows in its line
abbrev pub begins_comment : Text → Bool
begins_comment z = slice_index z 0 == dash && slice_index z 1 == dash

-- how many bytes come before the next LF or the end
abbrev pub line_len : Text → ℕ
line_len z = length (take_while (λ b. not (b == line_feed)) z)

-- a letter or `_`
abbrev pub begins_name : ℕ → Bool
begins_name b = is_ascii_alphabetic b || b == 95

-- whether a byte goes on with a name, by the byte after it: a letter, `_`, a digit, `$`, `#`, or a `-` that is not before `-` or `>`
abbrev pub goes_on : ℕ → ℕ → Bool
goes_on b after = begins_name b || is_ascii_digit b || b == 36 || b == 35 || (b == dash && not (after == dash || after == 62))

-- how many bytes from the front on go on with a name
abbrev pub name_len : Text → ℕ
name_len [] = 0
name_len (b ∷ z) = if goes_on b (slice_index z 0) then suc (name_len z) else 0

-- the reserved word that a text spells
unfoldable pub spelled_word : Text → Option Word
spelled_word name = find (λ w. bytes_eq (word_spelling w) name) (used_words ++ left_out_words)

-- a name that is a reserved word is that word
abbrev pub name_kind : Option Word → TokenKind
name_kind (Some w) = k.Word (word_number w)
name_kind None = k.Name

-- how many digits stand at the front
abbrev pub number_len : Text → ℕ
number_len z = length (take_while is_ascii_digit z)

-- the marks, longer ones first
abbrev pub marks_by_length : List Mark
marks_by_length =
    m.Iff ∷ m.Dots ∷ m.Becomes ∷ m.NotEqual ∷ m.LessEqual ∷ m.GreaterEqual ∷ m.Implies ∷
    m.OpenParen ∷ m.CloseParen ∷ m.OpenBrace ∷ m.CloseBrace ∷ m.OpenBracket ∷ m.CloseBracket ∷ m.Comma ∷ m.Semicolon ∷ m.Colon ∷ m.Dot ∷
    m.Equal ∷ m.Less ∷ m.Greater ∷ m.Plus ∷ m.Minus ∷ m.Star ∷ m.Slash ∷ m.Not ∷ m.And ∷ m.Or ∷ []

-- the longest mark that a text begins with
unfoldable pub front_mark : Text → Option Mark
front_mark z = find (λ mark. starts_with nat_eq z (mark_spelling mark)) marks_by_length

-- What a text begins with, and how many bytes it has: a blank or a comment, a token, or nothing of these.
pub data Front : Type 0 where
  blank : ℕ → Front
  token : TokenKind → ℕ → Front
  nothing : Front

-- a mark, if there is one
abbrev pub mark_front : Option Mark → Front
mark_front (Some mark) = token (k.Mark (mark_number mark)) (length (mark_spelling mark))
mark_front None = nothing

-- what a text that is not empty begins with
unfoldable pub front : Text → Front
front z =
    if is_blank (slice_index z 0) then blank 1
    else (if begins_comment z then blank (line_len z)
    else (if begins_name (slice_index z 0) then token (name_kind (spelled_word (take (name_len z) z))) (name_len z)
    else (if is_ascii_digit (slice_index z 0) then token k.Number (number_len z)
    else mark_front (front_mark z))))

-- one more token before the others
abbrev pub with_token : Token → Result (List Token) ℕ → Result (List Token) ℕ
with_token t (Ok ts) = Ok (t ∷ ts)
with_token t (Err at) = Err at

-- what the front at a place adds, where `after n` is what the text gives from n bytes further on
abbrev pub with_front : ℕ → Front → (ℕ → Result (List Token) ℕ) → Result (List Token) ℕ
with_front at (blank n) after = after n
with_front at (token kind n) after = with_token (record { kind = kind; span = record { start = at; stop = at + n } }) (after n)
with_front at nothing after = Err at

-- The tokens of a text that stands at a place, where its first `passed` bytes belong to what stands before; an error is the place of the first byte that begins no token and separates none.
unfoldable pub tokens_from : ℕ → ℕ → Text → Result (List Token) ℕ
tokens_from passed at [] = Ok []
tokens_from (suc passed) at (b ∷ z) = tokens_from passed (at + 1) z
tokens_from zero at (b ∷ z) = with_front at (front (b ∷ z)) (λ n. tokens_from (n - 1) (at + 1) z)

-- the most bytes of a text
abbrev pub longest_text : ℕ
longest_text = 1048576

-- a fault at the bytes from one place to another
abbrev pub fault_at : FaultKind → ℕ → ℕ → ModelFault
fault_at kind from to = record { code = code_of kind; place = record { start = from; stop = to } }

-- the tokens, or the fault at the byte that is none
abbrev pub or_bad_byte : Result (List Token) ℕ → Result (List Token) ModelFault
or_bad_byte (Ok ts) = Ok ts
or_bad_byte (Err at) = Err (fault_at fault.BadByte at (at + 1))

-- the tokens of a text, or its fault
unfoldable pub tokens : Text → Result (List Token) ModelFault
tokens text = if nat_lt longest_text (length text) then Err (fault_at fault.FileTooLong 0 0) else or_bad_byte (tokens_from 0 0 text)
