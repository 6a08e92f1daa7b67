-- Dotted names as texts: each is spelled as names with dots between them, and no two are spelled alike.
use Rattle.std.proofs.Common.{◌≡◌, ℕ, zero, suc, ◌<◌, Bool, true, false, not, cond, ◌&&◌, ◌==◌, nat_lt, List, [], ◌∷◌, ◌++◌, map, length, slice_get, Some, refl, sym, ap, subst, ◌∙◌, arith, append_assoc}
use Rattle.std.specs.Prelude.{slice_index}
use Rattle.std.specs.List.{list_all, AllByRecursion, join_with_byte}
use Rattle.std.proofs.lemmas.Bool.{and_parts, and_from, ltb-true}
use Rattle.std.proofs.lemmas.List.{append-nil}
use Rattle.cov_syntax.specs.Texts.{IsDistinctTexts}
use Rattle.cov_model.specs.Names.{Text, goes_on, all_go_on, begins_name, is_name, is_reserved, parts_from, is_dotted}
use Rattle.cov_modules.specs.Names.{Dotted, text, spelled}
use Rattle.cov_modules.specs.Conditions.{is_filled}
use Rattle.cov_modules.proofs.NameLemmas.{same-number}

-- ---- no name has a dot

-- none of the bytes is a dot
abbrev HasNoDot : Text → Type 0
HasNoDot t = AllByRecursion (λ b. (b == 46) ≡ false) t

-- a name does not go on with a dot
no-dot-here : (b after : ℕ) → goes_on b after ≡ true → (b == 46) ≡ false
no-dot-here b after h = by (b == 46) refl
  where
    by : (t : Bool) → (b == 46) ≡ t → t ≡ false
    by true e = let is : goes_on 46 after ≡ true = subst (λ (c : ℕ). goes_on c after ≡ true) (same-number b 46 e) h in absurd cc
    by false e = refl

no-dot-on : (t : Text) → all_go_on t ≡ true → HasNoDot t
no-dot-on [] h = tt
no-dot-on (b ∷ bs) h = let parts = and_parts (goes_on b (slice_index bs 0)) (all_go_on bs) h in (no-dot-here b (slice_index bs 0) parts.0, no-dot-on bs parts.1)

-- a name has none
no-dot : (t : Text) → is_name t ≡ true → HasNoDot t
no-dot [] h = tt
no-dot (b ∷ bs) h =
    let parts = and_parts (begins_name b && all_go_on (b ∷ bs)) (not (is_reserved (b ∷ bs))) h in
    no-dot-on (b ∷ bs) (and_parts (begins_name b) (all_go_on (b ∷ bs)) parts.0).1

-- ---- the parts of a text with dots

-- up to a dot
part-to-dot : (done t rest : Text) → HasNoDot t → parts_from done (t ++ 46 ∷ rest) ≡ (done ++ t) ∷ parts_from [] rest
part-to-dot done [] rest h = ap (λ (d : Text). d ∷ parts_from [] rest) (sym (append-nil done))
part-to-dot done (b ∷ bs) rest h =
    ap (λ (c : Bool). cond c (done ∷ parts_from [] (bs ++ 46 ∷ rest)) (parts_from (done ++ b ∷ []) (bs ++ 46 ∷ rest))) h.0
    ∙ part-to-dot (done ++ b ∷ []) bs rest h.1
    ∙ ap (λ (d : Text). d ∷ parts_from [] rest) (append_assoc done (b ∷ []) bs)

-- up to the end
part-to-end : (done t : Text) → HasNoDot t → parts_from done t ≡ (done ++ t) ∷ []
part-to-end done [] h = ap (λ (d : Text). d ∷ []) (sym (append-nil done))
part-to-end done (b ∷ bs) h =
    ap (λ (c : Bool). cond c (done ∷ parts_from [] bs) (parts_from (done ++ b ∷ []) bs)) h.0
    ∙ part-to-end (done ++ b ∷ []) bs h.1
    ∙ ap (λ (d : Text). d ∷ []) (append_assoc done (b ∷ []) bs)

-- names joined by dots have these as parts
joined-parts : (ts : List Text) → is_filled ts ≡ true → list_all is_name ts ≡ true → parts_from [] (join_with_byte 46 ts) ≡ ts
joined-parts [] filled names = absurd cc
joined-parts (t ∷ []) filled names = part-to-end [] t (no-dot t (and_parts (is_name t) true names).0)
joined-parts (t ∷ u ∷ ts) filled names =
    let parts = and_parts (is_name t) (list_all is_name (u ∷ ts)) names in
    part-to-dot [] t (join_with_byte 46 (u ∷ ts)) (no-dot t parts.0)
    ∙ ap (λ (us : List Text). t ∷ us) (joined-parts (u ∷ ts) refl parts.1)

-- ---- dotted names

-- within the list there is a text
there-at : (names : List Text) (i : ℕ) → nat_lt i (length names) ≡ true → slice_get names i ≡ Some (text names i)
there-at names i h = at names i (ltb-true i (length names) h)
  where
    at : (names : List Text) (i : ℕ) → i < length names → slice_get names i ≡ Some (text names i)
    at [] i h = absurd (omega arith)
    at (t ∷ ts) zero h = refl
    at (t ∷ ts) (suc i) h = at ts i (omega arith)

-- it is a name
pub name-at : (names : List Text) (i : ℕ) (t : Text) → list_all is_name names ≡ true → slice_get names i ≡ Some t → is_name t ≡ true
name-at [] i t all h = absurd cc
name-at (u ∷ us) zero t all h = let same : u ≡ t = cc in ap is_name (sym same) ∙ (and_parts (is_name u) (list_all is_name us) all).0
name-at (u ∷ us) (suc i) t all h = name-at us i t (and_parts (is_name u) (list_all is_name us) all).1 h

-- different texts stand at different places
different-text : (u : Text) (ts : List Text) (j : ℕ) (t : Text) → AllByRecursion (λ v. u ≡ v → ⊥) ts → slice_get ts j ≡ Some t → u ≡ t → ⊥
different-text u [] j t h g e = cc
different-text u (v ∷ ts) zero t h g e = let same : v ≡ t = cc in h.0 (e ∙ sym same)
different-text u (v ∷ ts) (suc j) t h g e = different-text u ts j t h.1 g e

same-place : (names : List Text) (i j : ℕ) (t : Text) → IsDistinctTexts names → slice_get names i ≡ Some t → slice_get names j ≡ Some t → i ≡ j
same-place [] i j t d h g = absurd cc
same-place (u ∷ us) zero zero t d h g = refl
same-place (u ∷ us) zero (suc j) t d h g = let same : u ≡ t = cc in absurd (different-text u us j t d.0 g same)
same-place (u ∷ us) (suc i) zero t d h g = let same : u ≡ t = cc in absurd (different-text u us i t d.0 h same)
same-place (u ∷ us) (suc i) (suc j) t d h g = ap suc (same-place us i j t d.1 h g)

-- A flat name: it has parts, and each is a name.
pub record IsFlatName (names : List Text) (d : Dotted) : Type 0 where
  pub filled : is_filled d ≡ true
  pub parts : list_all (λ i. nat_lt i (length names)) d ≡ true

module _ (names : List Text) (are : list_all is_name names ≡ true) where
  -- the texts of its parts are names
  texts-are : (d : Dotted) → list_all (λ i. nat_lt i (length names)) d ≡ true → list_all is_name (map (text names) d) ≡ true
  texts-are [] h = refl
  texts-are (i ∷ is) h =
      let parts = and_parts (nat_lt i (length names)) (list_all (λ i. nat_lt i (length names)) is) h in
      and_from (is_name (text names i)) (list_all is_name (map (text names) is)) (name-at names i (text names i) are (there-at names i parts.0)) (texts-are is parts.1)

  filled-texts : (d : Dotted) → is_filled d ≡ true → is_filled (map (text names) d) ≡ true
  filled-texts [] h = absurd cc
  filled-texts (i ∷ is) h = refl

  spelled-parts : (d : Dotted) → IsFlatName names d → parts_from [] (spelled names d) ≡ map (text names) d
  spelled-parts d h = joined-parts (map (text names) d) (filled-texts d h.filled) (texts-are d h.parts)

  -- it is spelled as names with dots between them
  pub spelled-dotted : (d : Dotted) → IsFlatName names d → is_dotted (spelled names d) ≡ true
  spelled-dotted d h = ap (list_all is_name) (spelled-parts d h) ∙ texts-are d h.parts

  module _ (distinct : IsDistinctTexts names) where
    same-texts : (d e : Dotted) → list_all (λ i. nat_lt i (length names)) d ≡ true → list_all (λ i. nat_lt i (length names)) e ≡ true → map (text names) d ≡ map (text names) e → d ≡ e
    same-texts [] [] h g s = refl
    same-texts [] (j ∷ js) h g s = absurd cc
    same-texts (i ∷ is) [] h g s = absurd cc
    same-texts (i ∷ is) (j ∷ js) h g s =
        let left = and_parts (nat_lt i (length names)) (list_all (λ i. nat_lt i (length names)) is) h in
        let right = and_parts (nat_lt j (length names)) (list_all (λ i. nat_lt i (length names)) js) g in
        let head : text names i ≡ text names j = cc in
        let tail : map (text names) is ≡ map (text names) js = cc in
        let at-i = there-at names i left.0 in
        let at-j : slice_get names j ≡ Some (text names i) = there-at names j right.0 ∙ ap (λ (t : Text). Some t) (sym head) in
        let same : i ≡ j = same-place names i j (text names i) distinct at-i at-j in
        let rest : is ≡ js = same-texts is js left.1 right.1 tail in
        cc

    -- no two are spelled alike
    pub spelled-different : (d e : Dotted) → IsFlatName names d → IsFlatName names e → spelled names d ≡ spelled names e → d ≡ e
    spelled-different d e h g s = same-texts d e h.parts g.parts (sym (spelled-parts d h) ∙ ap (parts_from []) s ∙ spelled-parts e g)
