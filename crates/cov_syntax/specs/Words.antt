-- The reserved words of the SMV language: their numbers and their spellings.
use Rattle.std.specs.Prelude.{ℕ, ◌-◌, List, [], ◌∷◌, Option, if◌then◌else◌, nat_lt, slice_get, codes}
use Rattle.cov_syntax.specs.declared.words.Word.{Word}
use Rattle.cov_syntax.specs.declared.words.Word.TheVariants as w

-- the number of a word
abbrev pub word_number : Word → ℕ
word_number w.Module = 0
word_number w.Var = 1
word_number w.Assign = 2
word_number w.Trans = 3
word_number w.Init = 4
word_number w.Invar = 5
word_number w.Define = 6
word_number w.Fairness = 7
word_number w.Justice = 8
word_number w.Spec = 9
word_number w.CtlSpec = 10
word_number w.Boolean = 11
word_number w.InitOf = 12
word_number w.NextOf = 13
word_number w.Case = 14
word_number w.Esac = 15
word_number w.Union = 16
word_number w.In = 17
word_number w.Mod = 18
word_number w.Xor = 19
word_number w.True = 20
word_number w.False = 21
word_number w.Ex = 22
word_number w.Ef = 23
word_number w.Eg = 24
word_number w.Ax = 25
word_number w.Af = 26
word_number w.Ag = 27
word_number w.A = 28
word_number w.E = 29
word_number w.U = 30
word_number w.Ivar = 100
word_number w.Process = 101
word_number w.Compassion = 102
word_number w.LtlSpec = 103
word_number w.InvarSpec = 104
word_number w.Compute = 105
word_number w.FrozenVar = 106
word_number w.Constants = 107
word_number w.Isa = 108
word_number w.Itself = 109
word_number w.Array = 110
word_number w.BitVector = 111
word_number w.Real = 112
word_number w.Xnor = 113
word_number w.Bu = 114
word_number w.Ebf = 115
word_number w.Abf = 116
word_number w.Ebg = 117
word_number w.Abg = 118

-- the bytes of a word
abbrev pub word_spelling : Word → List ℕ
word_spelling w.Module = codes "MODULE"
word_spelling w.Var = codes "VAR"
word_spelling w.Assign = codes "ASSIGN"
word_spelling w.Trans = codes "TRANS"
word_spelling w.Init = codes "INIT"
word_spelling w.Invar = codes "INVAR"
word_spelling w.Define = codes "DEFINE"
word_spelling w.Fairness = codes "FAIRNESS"
word_spelling w.Justice = codes "JUSTICE"
word_spelling w.Spec = codes "SPEC"
word_spelling w.CtlSpec = codes "CTLSPEC"
word_spelling w.Boolean = codes "boolean"
word_spelling w.InitOf = codes "init"
word_spelling w.NextOf = codes "next"
word_spelling w.Case = codes "case"
word_spelling w.Esac = codes "esac"
word_spelling w.Union = codes "union"
word_spelling w.In = codes "in"
word_spelling w.Mod = codes "mod"
word_spelling w.Xor = codes "xor"
word_spelling w.True = codes "TRUE"
word_spelling w.False = codes "FALSE"
word_spelling w.Ex = codes "EX"
word_spelling w.Ef = codes "EF"
word_spelling w.Eg = codes "EG"
word_spelling w.Ax = codes "AX"
word_spelling w.Af = codes "AF"
word_spelling w.Ag = codes "AG"
word_spelling w.A = codes "A"
word_spelling w.E = codes "E"
word_spelling w.U = codes "U"
word_spelling w.Ivar = codes "IVAR"
word_spelling w.Process = codes "process"
word_spelling w.Compassion = codes "COMPASSION"
word_spelling w.LtlSpec = codes "LTLSPEC"
word_spelling w.InvarSpec = codes "INVARSPEC"
word_spelling w.Compute = codes "COMPUTE"
word_spelling w.FrozenVar = codes "FROZENVAR"
word_spelling w.Constants = codes "CONSTANTS"
word_spelling w.Isa = codes "ISA"
word_spelling w.Itself = codes "self"
word_spelling w.Array = codes "array"
word_spelling w.BitVector = codes "word"
word_spelling w.Real = codes "real"
word_spelling w.Xnor = codes "xnor"
word_spelling w.Bu = codes "BU"
word_spelling w.Ebf = codes "EBF"
word_spelling w.Abf = codes "ABF"
word_spelling w.Ebg = codes "EBG"
word_spelling w.Abg = codes "ABG"

-- the used words, numbered from 0
abbrev pub used_words : List Word
used_words =
    w.Module ∷ w.Var ∷ w.Assign ∷ w.Trans ∷ w.Init ∷ w.Invar ∷ w.Define ∷ w.Fairness ∷ w.Justice ∷ w.Spec ∷ w.CtlSpec ∷
    w.Boolean ∷ w.InitOf ∷ w.NextOf ∷ w.Case ∷ w.Esac ∷ w.Union ∷ w.In ∷ w.Mod ∷ w.Xor ∷ w.True ∷ w.False ∷ w.Ex ∷ w.Ef ∷ w.Eg ∷
    w.Ax ∷ w.Af ∷ w.Ag ∷ w.A ∷ w.E ∷ w.U ∷ []

-- the left-out words, which stand in no text that the tool reads, numbered from 100
abbrev pub left_out_words : List Word
left_out_words =
    w.Ivar ∷ w.Process ∷ w.Compassion ∷ w.LtlSpec ∷ w.InvarSpec ∷ w.Compute ∷ w.FrozenVar ∷ w.Constants ∷ w.Isa ∷ w.Itself ∷
    w.Array ∷ w.BitVector ∷ w.Real ∷ w.Xnor ∷ w.Bu ∷ w.Ebf ∷ w.Abf ∷ w.Ebg ∷ w.Abg ∷ []

-- the word with a number, if there is one
abbrev pub word_numbered : ℕ → Option Word
word_numbered n = if nat_lt n 100 then slice_get used_words n else slice_get left_out_words (n - 100)
