-- Looking for a state along a lasso: each of its states is one of the stem or the turn.
use Rattle.std.proofs.Common.{ℕ, zero, suc, ◌<◌, ◌≤◌, ◌≡◌, Bool, IsTrue, IsFalse, ◌⊎◌, inl, inr, List, [], ◌∷◌, subst, arith}
use Rattle.std.specs.List.{AllByRecursion, list_any}
use Rattle.std.proofs.lemmas.Bool.{or_cases, or_parts, cases_Bool, cases_lt}
use Rattle.cov_logic.specs.Lasso.{Lasso, first_of}
use Rattle.cov_logic.specs.Suffix.{behind, at}
use Rattle.cov_logic.specs.Paths.{Eventually, Always, Until}

-- what holds at 0 and after it holds below
pub below_suc : (P : ℕ → Type 0) (n : ℕ) → P 0 → ((i : ℕ) → i < n → P (suc i)) → (i : ℕ) → i < suc n → P i
below_suc P n z s zero h = z
below_suc P n z s (suc i) h = s i (omega arith)

-- what holds below a place and at it holds up to it
pub up_to : (P : ℕ → Type 0) (n : ℕ) → ((i : ℕ) → i < n → P i) → P n → (i : ℕ) → i ≤ n → P i
up_to P n below here i c = elim (cases_lt i n) [ inl d ↦ below i d | inr d ↦ (let e : n ≡ i = omega arith in subst P e here) ]

module _ {S : Type 0} where
  behind_all : (P : S → Type 0) (i : ℕ) (stem : List S) (first : S) (rest : List S) →
      AllByRecursion P stem → AllByRecursion P (first ∷ rest) → P (at (record { stem = stem; first = first; rest = rest }) i)
  behind_all P zero [] first rest s t = t.0
  behind_all P zero (x ∷ stem) first rest s t = s.0
  behind_all P (suc i) [] first rest s t = behind_all P i rest first rest t.1 t
  behind_all P (suc i) (x ∷ stem) first rest s t = behind_all P i stem first rest s.1 t

  -- what holds of each state of the stem and the turn holds all along the lasso
  pub at_all : (P : S → Type 0) (l : Lasso S) → AllByRecursion P l.stem → AllByRecursion P (l.first ∷ l.rest) → Always P l
  at_all P l s t i = behind_all P i l.stem l.first l.rest s t

  -- the state is found within the stem
  in_stem : (p : S → Bool) (stem : List S) (first : S) (rest : List S) → IsTrue (list_any p stem) →
      Eventually (λ t. IsTrue (p t)) (record { stem = stem; first = first; rest = rest })
  in_stem p [] first rest h = cc
  in_stem p (s ∷ ss) first rest h =
      elim (or_cases (p s) (list_any p ss) h) [ inl e ↦ (0, e) | inr e ↦ let q = in_stem p ss first rest e in (suc q.0, q.1) ]

  -- or past it
  past_stem : (p : S → Bool) (stem : List S) (first : S) (rest : List S) →
      Eventually (λ t. IsTrue (p t)) (record { stem = []; first = first; rest = rest }) →
      Eventually (λ t. IsTrue (p t)) (record { stem = stem; first = first; rest = rest })
  past_stem p [] first rest h = h
  past_stem p (s ∷ ss) first rest h = let q = past_stem p ss first rest h in (suc q.0, q.1)

  -- a state of the turn is a state of the lasso
  pub in_turn : (p : S → Bool) (l : Lasso S) → IsTrue (list_any p (l.first ∷ l.rest)) → Eventually (λ t. IsTrue (p t)) l
  in_turn p l h =
      past_stem p l.stem l.first l.rest
      (elim (or_cases (p l.first) (list_any p l.rest) h)
      [ inl e ↦ (0, e) | inr e ↦ let q = in_stem p l.rest l.first l.rest e in (suc q.0, q.1) ])

  -- none of the stem and none of the turn: none at all
  record Nowhere (p : S → Bool) (l : Lasso S) : Type 0 where
    stem : IsFalse (list_any p l.stem)
    turn : IsFalse (list_any p (l.first ∷ l.rest))

  behind_nowhere : (p : S → Bool) (stem : List S) (first : S) (rest : List S) →
      Nowhere p (record { stem = stem; first = first; rest = rest }) → Nowhere p (behind stem first rest)
  behind_nowhere p [] first rest h = record { stem = (or_parts (p first) (list_any p rest) h.turn).1; turn = h.turn }
  behind_nowhere p (s ∷ ss) first rest h = record { stem = (or_parts (p s) (list_any p ss) h.stem).1; turn = h.turn }

  first_nowhere : (p : S → Bool) (stem : List S) (first : S) (rest : List S) →
      Nowhere p (record { stem = stem; first = first; rest = rest }) → IsFalse (p (first_of stem first))
  first_nowhere p [] first rest h = (or_parts (p first) (list_any p rest) h.turn).0
  first_nowhere p (s ∷ ss) first rest h = (or_parts (p s) (list_any p ss) h.stem).0

  at_nowhere : (p : S → Bool) (i : ℕ) (l : Lasso S) → Nowhere p l → IsFalse (p (at l i))
  at_nowhere p zero l h = first_nowhere p l.stem l.first l.rest h
  at_nowhere p (suc i) l h = at_nowhere p i (behind l.stem l.first l.rest) (behind_nowhere p l.stem l.first l.rest h)

  -- a lasso has such a state, or never has one
  pub sooner_or_never : (p : S → Bool) (l : Lasso S) → Eventually (λ t. IsTrue (p t)) l ⊎ Always (λ t. IsFalse (p t)) l
  sooner_or_never p l =
      elim (cases_Bool (list_any p l.stem)) [
        | inl e ↦ inl (in_stem p l.stem l.first l.rest e)
        | inr e ↦ elim (cases_Bool (list_any p (l.first ∷ l.rest))) [
          | inl t ↦ inl (in_turn p l t)
          | inr t ↦ inr (λ i. at_nowhere p i l (record { stem = e; turn = t }))
        ]
      ]

  -- some state without a comes before the first state with b
  pub record Broken (a b : S → Bool) (l : Lasso S) : Type 0 where
    pub place : ℕ
    pub no_a : IsFalse (a (at l place))
    pub no_b : (i : ℕ) → i < suc place → IsFalse (b (at l i))

  -- where b comes, each state before it has a, or some state before has neither
  pub until_or_broken : (a b : S → Bool) (n : ℕ) (l : Lasso S) → IsTrue (b (at l n)) →
      Until (λ t. IsTrue (a t)) (λ t. IsTrue (b t)) l ⊎ Broken a b l
  until_or_broken a b zero l h = inl (0, h, λ i c. absurd (omega arith))
  until_or_broken a b (suc n) l h =
      elim (cases_Bool (b (at l 0))) [
        | inl e ↦ inl (0, e, λ i c. absurd (omega arith))
        | inr e ↦ elim (cases_Bool (a (at l 0))) [
          | inr f ↦ inr (record { place = 0; no_a = f; no_b = below_suc (λ i. IsFalse (b (at l i))) 0 e (λ i c. absurd (omega arith)) })
          | inl f ↦ elim (until_or_broken a b n (behind l.stem l.first l.rest) h) [
            | inl u ↦ inl (suc u.0, u.1, below_suc (λ i. IsTrue (a (at l i))) u.0 f u.2)
            | inr u ↦ inr (record { place = suc u.place; no_a = u.no_a; no_b = below_suc (λ i. IsFalse (b (at l i))) (suc u.place) e u.no_b })
          ]
        ]
      ]
