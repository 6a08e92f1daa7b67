-- What is asked of a table, and how a question is halved at the bit of its first level.
use Rattle.std.specs.Prelude.{◌≡◌, ℕ, ◌<◌, ◌+◌, ◌⊎◌, List, Bool}
use Rattle.cov_dd.specs.declared.node.Ref.{Ref}
use Rattle.cov_dd.specs.declared.node.Part.{Part}
use Rattle.cov_dd.specs.declared.operations.Op.{Op}
use Rattle.cov_dd.specs.declared.questions.Question.{Question}
use Rattle.cov_dd.specs.declared.questions.Question.TheVariants.{Apply, Negate, Restrict}
use Rattle.cov_dd.specs.Nodes.{TableOf, den, rank, level_of, top_of, IsInner, IsLive, IsTable, Extends, Denotes}
use Rattle.cov_dd.specs.Cofactors.{Splits}
use Rattle.cov_dd.specs.Operations.{applied, negated, restricted}
use Rattle.cov_dd.specs.Reached.{Reaches}

-- what is asked of a table: a function, and its first level
pub record Wanted : Type 0 where
  pub function : TableOf → List Bool → Bool
  pub top : TableOf → ℕ

-- an operation on two diagrams
abbrev pub on_two : Op → Ref → Ref → Wanted
on_two op f g = record { function = λ t. applied op (den t.nodes f) (den t.nodes g); top = λ t. top_of t f g }

-- the negation of a diagram
abbrev pub negation_of : Ref → Wanted
negation_of f = record { function = λ t. negated (den t.nodes f); top = λ t. level_of t.levels t.nodes f }

-- a diagram with one bit fixed
abbrev pub restriction_of : ℕ → Bool → Ref → Wanted
restriction_of level bit f = record { function = λ t. restricted level bit (den t.nodes f); top = λ t. level_of t.levels t.nodes f }

-- what a question asks
abbrev pub wanted : Question → Wanted
wanted (Apply op f g) = on_two op f g
wanted (Negate f) = negation_of f
wanted (Restrict f level bit) = restriction_of level bit f

-- it may be asked of this table: the operands are live
abbrev pub IsAsked : TableOf → Question → Type 0
IsAsked t (Apply op f g) = IsLive t.nodes f × IsLive t.nodes g
IsAsked t (Negate f) = IsLive t.nodes f
IsAsked t (Restrict f level bit) = IsLive t.nodes f × (level < t.levels)

-- the bit of the first level is to be tested
abbrev pub IsOpen : TableOf → Question → Type 0
IsOpen t (Apply op f g) = IsInner f ⊎ IsInner g
IsOpen t (Negate f) = IsInner f
IsOpen t (Restrict f level bit) = level_of t.levels t.nodes f < level

-- r is a diagram of what is wanted
abbrev pub IsSettled : TableOf → Wanted → Ref → Type 0
IsSettled t w r = Denotes t (w.top t) r (w.function t)

-- what is wanted was split at its first level
pub record Halved (s : TableOf) (level : ℕ) (whole low high : Wanted) : Type 0 where
  pub table : IsTable s.levels s.nodes
  pub top : level ≡ whole.top s
  pub splits : Splits s.levels level (whole.function s) (low.function s) (high.function s)
  pub below_low : level < low.top s
  pub below_high : (t : TableOf) → Extends s t → level < high.top t
  pub same_high : (t : TableOf) → Extends s t → (row : List Bool) → high.function t row ≡ high.function s row

-- p asks the same of parts of the operands
abbrev pub IsPart : List Part → Question → Question → Type 0
IsPart nodes (Apply op f g) p = (x : Ref) × (y : Ref) × (p ≡ Apply op x y) × Reaches nodes f x × Reaches nodes g y
IsPart nodes (Negate f) p = (x : Ref) × (p ≡ Negate x) × Reaches nodes f x
IsPart nodes (Restrict f level bit) p = (x : Ref) × (p ≡ Restrict x level bit) × Reaches nodes f x

-- how late the operands stand
abbrev pub weight : Question → ℕ
weight (Apply op f g) = rank f + rank g
weight (Negate f) = rank f
weight (Restrict f level bit) = rank f

-- h asks the same of parts of the operands, which stand before them
pub record IsHalf (t : TableOf) (q h : Question) : Type 0 where
  pub asked : IsAsked t h
  pub part : IsPart t.nodes q h
  pub falls : weight h < weight q
