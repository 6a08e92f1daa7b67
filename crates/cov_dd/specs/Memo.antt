-- Answers that are kept.
use Rattle.std.specs.Prelude.{◌≡◌, ℕ, ◌<◌, ◌≤◌, ◌+◌, ◌⊎◌, List, Bool, true, false, length, get_or, Contains}
use Rattle.cov_dd.specs.declared.node.Ref.{Ref}
use Rattle.cov_dd.specs.declared.node.Ref.TheVariants.{Constant}
use Rattle.cov_dd.specs.declared.questions.Question.{Question}
use Rattle.cov_dd.specs.declared.questions.Question.TheVariants.{Negate}
use Rattle.cov_dd.specs.Nodes.{TableOf}
use Rattle.cov_dd.specs.Questions.{wanted, IsAsked, IsSettled, IsPart}

-- there is an answer to a question
abbrev pub HasKey : List (Question × Ref) → Question → Type 0
HasKey answers q = (r : Ref) × Contains answers (q, r)

-- r answers the question, also after other nodes were added
pub record IsRight (t : TableOf) (q : Question) (r : Ref) : Type 0 where
  pub asked : IsAsked t q
  pub is : IsSettled t (wanted q) r

-- each answer that is kept is right
abbrev pub AllRight : TableOf → List (Question × Ref) → Type 0
AllRight t answers = (q : Question) (r : Ref) → Contains answers (q, r) → IsRight t q r

-- the question at a place of a list
abbrev pub question_at : List Question → ℕ → Question
question_at questions i = get_or questions i (Negate (Constant false))

-- `mk` was called at most once for each of some different parts of a question, for none of which there was an answer; where the call was answered there is one now
pub record Counted (s t : TableOf) (before after : List (Question × Ref)) (q : Question) (ok : Bool) : Type 0 where
  pub tried : List Question
  pub calls : t.calls ≤ s.calls + length tried
  pub distinct : (i j : ℕ) → i < length tried → j < length tried → question_at tried i ≡ question_at tried j → i ≡ j
  pub parts : (i : ℕ) → i < length tried → IsPart s.nodes q (question_at tried i)
  pub fresh : (i : ℕ) → i < length tried → HasKey before (question_at tried i) → ⊥
  pub kept : (p : Question) → HasKey before p → HasKey after p
  pub only : (p : Question) → HasKey after p → HasKey before p ⊎ IsPart s.nodes q p
  pub answered : ok ≡ true → (i : ℕ) → i < length tried → HasKey after (question_at tried i)
