-- Names, as the tokens of the language have them.
use Rattle.std.specs.Prelude.{ℕ, Bool, true, false, not, ◌&&◌, ◌||◌, ◌==◌, nat_le, if◌then◌else◌, List, [], ◌∷◌, ◌++◌, codes, slice_index}
use Rattle.std.specs.List.{list_all, list_any}
use Rattle.std.specs.Str.{bytes_eq}

-- the bytes of a text
abbrev pub Text : Type 0
Text = List ℕ

-- a decimal digit
abbrev pub is_digit : ℕ → Bool
is_digit b = nat_le 48 b && nat_le b 57

-- a letter or `_`
abbrev pub begins_name : ℕ → Bool
begins_name b = (nat_le 65 b && nat_le b 90) || (nat_le 97 b && nat_le b 122) || b == 95

-- whether a name goes on with a byte before this next byte: a letter, a digit, `_`, `$`, `#`, or a `-` that is not before `-` or `>`
abbrev pub goes_on : ℕ → ℕ → Bool
goes_on b after = begins_name b || is_digit b || b == 36 || b == 35 || (b == 45 && not (after == 45 || after == 62))

-- each byte goes on with the name
abbrev pub all_go_on : Text → Bool
all_go_on [] = true
all_go_on (b ∷ bs) = goes_on b (slice_index bs 0) && all_go_on bs

-- the words that are used
abbrev pub used_words : List Text
used_words =
    codes "MODULE" ∷ codes "VAR" ∷ codes "ASSIGN" ∷ codes "TRANS" ∷ codes "INIT" ∷ codes "INVAR" ∷ codes "DEFINE"
    ∷ codes "FAIRNESS" ∷ codes "JUSTICE" ∷ codes "SPEC" ∷ codes "CTLSPEC" ∷ codes "boolean" ∷ codes "init" ∷ codes "next"
    ∷ codes "case" ∷ codes "esac" ∷ codes "union" ∷ codes "in" ∷ codes "mod" ∷ codes "xor" ∷ codes "TRUE" ∷ codes "FALSE"
    ∷ codes "EX" ∷ codes "EF" ∷ codes "EG" ∷ codes "AX" ∷ codes "AF" ∷ codes "AG" ∷ codes "A" ∷ codes "E" ∷ codes "U" ∷ []

-- the words that are refused
abbrev pub refused_words : List Text
refused_words =
    codes "IVAR" ∷ codes "process" ∷ codes "COMPASSION" ∷ codes "LTLSPEC" ∷ codes "INVARSPEC" ∷ codes "COMPUTE"
    ∷ codes "FROZENVAR" ∷ codes "CONSTANTS" ∷ codes "ISA" ∷ codes "self" ∷ codes "array" ∷ codes "word" ∷ codes "real"
    ∷ codes "xnor" ∷ codes "BU" ∷ codes "EBF" ∷ codes "ABF" ∷ codes "EBG" ∷ codes "ABG" ∷ []

-- a reserved word is no name; opened by name alone, since the lists are long
unfoldable pub is_reserved : Text → Bool
is_reserved t = list_any (bytes_eq t) (used_words ++ refused_words)

-- a letter or `_`, and what goes on with it, that is no reserved word
abbrev pub is_name : Text → Bool
is_name [] = false
is_name (b ∷ bs) = begins_name b && all_go_on (b ∷ bs) && not (is_reserved (b ∷ bs))

-- the parts of a text between its dots
abbrev pub parts_from : Text → Text → List Text
parts_from done [] = done ∷ []
parts_from done (b ∷ bs) = if b == 46 then done ∷ parts_from [] bs else parts_from (done ++ b ∷ []) bs

-- one or more names joined by dots
abbrev pub is_dotted : Text → Bool
is_dotted t = list_all is_name (parts_from [] t)
