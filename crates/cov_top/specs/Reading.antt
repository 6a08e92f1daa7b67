-- What a text is read as.
use Rattle.std.specs.Prelude.{◌≡◌, ℕ, List, length, ◌⊎◌, Ok, Err}
use Rattle.cov_syntax.specs.declared.fault.ModelFault.{ModelFault}
use Rattle.cov_syntax.specs.declared.program.Program.{Program}
use Rattle.cov_syntax.specs.declared.token.Token.{Token}
use Rattle.cov_syntax.specs.Lexemes.{lexemes_of}
use Rattle.cov_syntax.specs.Limits.{IsShallow}
use Rattle.cov_syntax.specs.Programs.{ReadsText}
use Rattle.cov_syntax.specs.Tokens.{tokens}
use Rattle.cov_first_fault.specs.FirstFault.{IsFirstFault}
use Rattle.cov_model.specs.declared.model.Model.{Model}
use Rattle.cov_model.specs.Accepted.{kinds}
use Rattle.cov_modules.specs.Flatten.{flat}

-- the tokens of the text are those of the program, and its expressions nest no deeper than the limits
pub record IsProgramText (text : List ℕ) (p : Program) : Type 0 where
  pub found : List Token
  pub cut : tokens text ≡ Ok found
  pub reads : ReadsText text found p
  pub shallow : IsShallow (lexemes_of text found)

-- a program reads the text, and the kinds of its flat model give this model
pub record IsAccepted (text : List ℕ) (p : Program) (m : Model) : Type 0 where
  pub reads : IsProgramText text p
  pub unsettled : Model
  pub flat : flat p ≡ Ok unsettled
  pub kinds : kinds unsettled ≡ Ok m

-- no model is accepted
abbrev pub IsNotAccepted : List ℕ → Type 0
IsNotAccepted text = (p : Program) (m : Model) → IsAccepted text p m → ⊥

-- the text has tokens, and this is the first fault of the grammar in them; so no program reads it
pub record IsGrammarFault (text : List ℕ) (f : ModelFault) : Type 0 where
  pub found : List Token
  pub cut : tokens text ≡ Ok found
  pub first : IsFirstFault (length text) (lexemes_of text found) f

-- a program reads the text, and this is the first fault of its flattening, or else of its flat model's kinds
pub record IsProgramFault (text : List ℕ) (f : ModelFault) : Type 0 where
  pub program : Program
  pub reads : IsProgramText text program
  pub cause : (flat program ≡ Err f) ⊎ ((m : Model) × (flat program ≡ Ok m) × (kinds m ≡ Err f))

-- Why a text gives no model: it has no tokens, or no program reads them, or the program that does has no model; and this is the first fault.
pub record IsTextFault (text : List ℕ) (f : ModelFault) : Type 0 where
  pub refused : IsNotAccepted text
  pub cause : (tokens text ≡ Err f) ⊎ (IsGrammarFault text f ⊎ IsProgramFault text f)
