-- A lasso repeats: what its states are, and how many suffixes it has.
use Rattle.std.proofs.Common.{◌≡◌, ℕ, zero, suc, ◌+◌, ◌<◌, inl, inr, List, [], ◌∷◌, length, get_or, refl, sym, ap, ◌∙◌, arith}
use Rattle.std.proofs.lemmas.Bool.{cases_lt}
use Rattle.cov_logic.specs.Lasso.{Lasso, first_of}
use Rattle.cov_logic.specs.Suffix.{behind, suffix, at}
use Rattle.cov_logic.specs.LassoLaws.{LassoRepeats, IsNextPlace}

-- past the stem the lasso is its turn
suffix_stem : {S : Type 0} (stem : List S) (first : S) (rest : List S) →
    suffix (length stem) (record { stem = stem; first = first; rest = rest }) ≡ record { stem = []; first = first; rest = rest }
suffix_stem [] first rest = refl
suffix_stem (s ∷ ss) first rest = suffix_stem ss first rest

pub suffix_add : {S : Type 0} (a b : ℕ) (l : Lasso S) → suffix (a + b) l ≡ suffix b (suffix a l)
suffix_add zero b l = let e : 0 + b ≡ b = omega arith in ap (λ k. suffix k l) e
suffix_add (suc a) b l =
    let e : suc a + b ≡ suc (a + b) = omega arith in
    ap (λ k. suffix k l) e ∙ suffix_add a b (behind l.stem l.first l.rest)

-- once round
pub suffix_round : {S : Type 0} (l : Lasso S) → suffix (length l.stem + suc (length l.rest)) l ≡ suffix (length l.stem) l
suffix_round l =
    suffix_add (length l.stem) (suc (length l.rest)) l
    ∙ ap (suffix (suc (length l.rest))) (suffix_stem l.stem l.first l.rest)
    ∙ suffix_stem l.rest l.first l.rest
    ∙ sym (suffix_stem l.stem l.first l.rest)

-- each suffix is one of the first few
pub suffix_among : {S : Type 0} (i : ℕ) (l : Lasso S) → (j : ℕ) × (j < length l.stem + suc (length l.rest)) × (suffix i l ≡ suffix j l)
suffix_among zero l = (0, omega arith, refl)
suffix_among (suc i) l =
    let (j, c, e) = suffix_among i l in
    let i_one : suc i ≡ i + 1 = omega arith in
    let j_one : j + 1 ≡ suc j = omega arith in
    let next : suffix (suc i) l ≡ suffix (suc j) l =
    ap (λ k. suffix k l) i_one ∙ suffix_add i 1 l ∙ ap (suffix 1) e ∙ sym (suffix_add j 1 l) ∙ ap (λ k. suffix k l) j_one in
    elim (cases_lt (suc j) (length l.stem + suc (length l.rest))) [
      | inl d ↦ (suc j, d, next)
      | inr d ↦
          let last : suc j ≡ length l.stem + suc (length l.rest) = omega arith in
          (length l.stem, omega arith, next ∙ ap (λ k. suffix k l) last ∙ suffix_round l)
    ]

at_stem : {S : Type 0} (i : ℕ) (stem : List S) (first : S) (rest : List S) → i < length stem →
    at (record { stem = stem; first = first; rest = rest }) i ≡ get_or stem i first
at_stem i [] first rest c = absurd (omega arith)
at_stem zero (s ∷ ss) first rest c = refl
at_stem (suc i) (s ∷ ss) first rest c = at_stem i ss first rest (omega arith)

at_turn : {S : Type 0} (i : ℕ) (first : S) (rest : List S) → i < suc (length rest) →
    at (record { stem = []; first = first; rest = rest }) i ≡ get_or (first ∷ rest) i first
at_turn zero first rest c = refl
at_turn (suc i) first rest c = at_stem i rest first rest (omega arith)

pub repeats_law : (S : Type 0) → LassoRepeats S
repeats_law S = record {
  stem = λ l i c. at_stem i l.stem l.first l.rest c;
  turn = λ l i c.
      ap (λ k. first_of k.stem k.first) (suffix_add (length l.stem) i l)
      ∙ ap (λ (k : Lasso S). at k i) (suffix_stem l.stem l.first l.rest)
      ∙ at_turn i l.first l.rest c;
  again = suffix_round;
  few = λ l i. suffix_among i l;
}

-- after the last place comes the first of the turn
pub next_round : (S : Type 0) (stem turn p : ℕ) → suc p ≡ stem + turn → IsNextPlace S stem turn p stem
next_round S stem turn p e l a b =
    let whole : suc p ≡ length l.stem + suc (length l.rest) = omega arith in
    ap (λ i. suffix i l) whole ∙ suffix_round l ∙ ap (λ i. suffix i l) a
