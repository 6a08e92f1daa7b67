-- Answers that are kept stay right while the table grows.
use Rattle.std.proofs.Common.{◌≡◌, ℕ, ◌<◌, ◌≤◌, ◌⊎◌, List, [], ◌∷◌, ◌++◌, Bool, not, sym, ◌∙◌, ap, subst, arith, inl, inr}
use Rattle.std.proofs.lemmas.List.Elements.{Contains-push_cases, Contains-append_left, Contains-push}
use Rattle.cov_dd.specs.declared.node.Ref.{Ref}
use Rattle.cov_dd.specs.declared.questions.Question.{Question}
use Rattle.cov_dd.specs.declared.questions.Question.TheVariants.{Apply, Negate, Restrict}
use Rattle.cov_dd.specs.Nodes.{TableOf, level_of, den, IsLive, IsTable, Extends, Keeps, Denotes}
use Rattle.cov_dd.specs.Operations.{value_of, put}
use Rattle.cov_dd.specs.Questions.{wanted, IsAsked}
use Rattle.cov_dd.specs.Memo.{HasKey, IsRight, AllRight}
use Rattle.cov_dd.proofs.Growth.{keeps}

-- each diagram that was live has the function and the level that it had
abbrev pub KeepsAll : TableOf → TableOf → Type 0
KeepsAll s t = (r : Ref) → IsLive s.nodes r → Keeps s t r

-- a question is the same one in a table that grew
pub record IsSameQuestion (s t : TableOf) (q : Question) : Type 0 where
  pub asked : IsAsked t q
  pub top : (wanted q).top t ≡ (wanted q).top s
  pub function : (row : List Bool) → (wanted q).function t row ≡ (wanted q).function s row

pub same_question : (s t : TableOf) → t.levels ≡ s.levels → KeepsAll s t → (q : Question) → IsAsked s q → IsSameQuestion s t q
same_question s t levels keep (Apply op f g) a =
    let kf : Keeps s t f = keep f a.0 in
    let kg : Keeps s t g = keep g a.1 in
    let lf : level_of t.levels t.nodes f ≡ level_of s.levels s.nodes f = kf.level in
    let lg : level_of t.levels t.nodes g ≡ level_of s.levels s.nodes g = kg.level in
    record {
      asked = (kf.live, kg.live);
      top = omega arith;
      function = λ row. ap (λ b. value_of op b (den t.nodes g row)) (kf.den row) ∙ ap (λ b. value_of op (den s.nodes f row) b) (kg.den row);
    }
same_question s t levels keep (Negate f) a = let k : Keeps s t f = keep f a in record { asked = k.live; top = k.level; function = λ row. ap not (k.den row) }
same_question s t levels keep (Restrict f level bit) a =
    let k : Keeps s t f = keep f a.0 in
    record { asked = (k.live, subst (λ (n : ℕ). level < n) (sym levels) a.1); top = k.level; function = λ row. k.den (put row level bit) }

pub right_kept : (s t : TableOf) (answers : List (Question × Ref)) → t.levels ≡ s.levels → KeepsAll s t → AllRight s answers → AllRight t answers
right_kept s t answers levels keep right q r c =
    let n : IsRight s q r = right q r c in
    let same : IsSameQuestion s t q = same_question s t levels keep q n.asked in
    let k : Keeps s t r = keep r n.is.live in
    let before : (wanted q).top s ≤ level_of s.levels s.nodes r = n.is.level in
    let top : (wanted q).top t ≡ (wanted q).top s = same.top in
    let level : level_of t.levels t.nodes r ≡ level_of s.levels s.nodes r = k.level in
    record { asked = same.asked; is = record { live = k.live; level = omega arith; den = λ row. k.den row ∙ n.is.den row ∙ sym (same.function row) } }

pub right_grows : (s t : TableOf) (answers : List (Question × Ref)) → IsTable s.levels s.nodes → Extends s t → AllRight s answers → AllRight t answers
right_grows s t answers table e right = right_kept s t answers e.levels (keeps s t table e) right

pub right_push : (t : TableOf) (answers : List (Question × Ref)) (q : Question) (r : Ref) → AllRight t answers → IsRight t q r → AllRight t (answers ++ (q, r) ∷ [])
right_push t answers q r right n p x c =
    elim (Contains-push_cases answers (q, r) (p, x) c) [
      | inl here ↦ right p x here
      | inr e ↦ subst (λ (pair : Question × Ref). IsRight t pair.0 pair.1) e n
    ]

-- what answers a question answers it in the table that has grown
pub is_right : (s v : TableOf) (q : Question) (r : Ref) → IsTable s.levels s.nodes → Extends s v → IsAsked s q → Denotes v ((wanted q).top s) r ((wanted q).function s) → IsRight v q r
is_right s v q r table e asked d =
    let same : IsSameQuestion s v q = same_question s v e.levels (keeps s v table e) q asked in
    let level : (wanted q).top s ≤ level_of v.levels v.nodes r = d.level in
    let top : (wanted q).top v ≡ (wanted q).top s = same.top in
    record { asked = same.asked; is = record { live = d.live; level = omega arith; den = λ row. d.den row ∙ sym (same.function row) } }

-- ---- the questions that have an answer, after one more

pub key_stays : (answers : List (Question × Ref)) (q : Question) (r : Ref) (p : Question) → HasKey answers p → HasKey (answers ++ (q, r) ∷ []) p
key_stays answers q r p (x, c) = (x, Contains-append_left answers ((q, r) ∷ []) (p, x) c)

pub key_cases : (answers : List (Question × Ref)) (q : Question) (r : Ref) (p : Question) → HasKey (answers ++ (q, r) ∷ []) p → HasKey answers p ⊎ (q ≡ p)
key_cases answers q r p (x, c) = elim (Contains-push_cases answers (q, r) (p, x) c) [ inl h ↦ inl (x, h) | inr e ↦ inr (ap (λ (pair : Question × Ref). pair.0) e) ]

pub key_pushed : (answers : List (Question × Ref)) (q : Question) (r : Ref) → HasKey (answers ++ (q, r) ∷ []) q
key_pushed answers q r = (r, Contains-push answers (q, r))
