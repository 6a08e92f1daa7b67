-- The first fault of the grammar in a list of lexemes, and where it is.
use Rattle.std.specs.Prelude.{◌≡◌, ℕ, ◌<◌, ◌≤◌, Bool, false, if◌then◌else◌, nat_le, List, [], ◌∷◌, ◌++◌, map}
use Rattle.cov_syntax.specs.declared.fault.FaultKind.{FaultKind}
use Rattle.cov_syntax.specs.declared.fault.FaultKind.TheVariants as fault
use Rattle.cov_syntax.specs.declared.fault.ModelFault.{ModelFault}
use Rattle.cov_syntax.specs.declared.lexeme.Lexeme.{Lexeme}
use Rattle.cov_syntax.specs.declared.lexeme.Terminal.{Terminal}
use Rattle.cov_syntax.specs.declared.lexeme.Terminal.TheVariants as k
use Rattle.cov_syntax.specs.declared.program.ModuleTree.{ModuleTree}
use Rattle.cov_syntax.specs.Faults.{code_of}
use Rattle.cov_syntax.specs.Lexemes.{Lexemes, greatest_number}
use Rattle.cov_syntax.specs.Limits.{IsShallow}
use Rattle.cov_syntax.specs.Programs.{ReadsModules}
use Rattle.cov_syntax.specs.Tokens.{fault_at}
use Rattle.cov_syntax.specs.Words.{word_number}

-- what lexemes are, whatever their names, numbers and places
abbrev pub kinds : Lexemes → List Terminal
kinds xs = map (λ t. t.kind) xs

-- some lexemes of these kinds, and others after them, are read as some modules, to their end
pub record Continues (front : Lexemes) : Type 0 where
  pub whole : Lexemes
  pub others : List Terminal
  pub begins : kinds whole ≡ kinds front ++ others
  pub trees : List ModuleTree
  pub reads : ReadsModules whole trees []

-- each number may stand
abbrev pub AreSmall : Lexemes → Type 0
AreSmall [] = Unit {0}
AreSmall (t ∷ ts) = (t.kind ≡ k.Number → t.value ≤ greatest_number) × AreSmall ts

-- lexemes in which nothing is wrong so far
pub record IsClean (front : Lexemes) : Type 0 where
  pub continues : Continues front
  pub shallow : IsShallow front
  pub small : AreSmall front

-- whether it is a left-out word
abbrev pub is_left_out_word : Terminal → Bool
is_left_out_word (k.Word word) = nat_le 100 (word_number word)
is_left_out_word _ = false

-- the fault of a lexeme that goes on with nothing
abbrev pub unread_kind : Terminal → FaultKind
unread_kind c = if is_left_out_word c then fault.LeftOut else fault.Syntax

-- what is wrong with a lexeme, where nothing is wrong before it
pub data IsWrong (front : Lexemes) (t : Lexeme) : FaultKind → Type 0 where
  -- no program goes on with it
  unread : ¬ Continues (front ++ t ∷ []) → IsWrong front t (unread_kind t.kind)
  -- a bracket or operator that is too deep
  deep : Continues (front ++ t ∷ []) → ¬ IsShallow (front ++ t ∷ []) → IsWrong front t fault.TooDeep
  -- a number that is too great
  great : Continues (front ++ t ∷ []) → IsShallow (front ++ t ∷ []) → t.kind ≡ k.Number → greatest_number < t.value → IsWrong front t fault.RangeTooWide

-- the first fault of the lexemes of a text that ends there
pub data IsFirstFault (end : ℕ) (xs : Lexemes) : ModelFault → Type 0 where
  -- nothing is wrong up to the end, and no program reads the whole
  ended : IsClean xs → ((trees : List ModuleTree) → ¬ ReadsModules xs trees []) → IsFirstFault end xs (fault_at fault.Syntax end end)
  -- the first lexeme with which something is wrong
  wrong : {front : Lexemes} {t : Lexeme} {kind : FaultKind} (rest : Lexemes) → xs ≡ front ++ t ∷ rest → IsClean front → IsWrong front t kind
      → IsFirstFault end xs (record { code = code_of kind; place = t.place })
