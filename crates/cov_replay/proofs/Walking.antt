-- Walks along the places of a lasso.
use Rattle.std.proofs.Common.{◌≡◌, ℕ, zero, suc, ◌+◌, ◌<◌, ◌≤◌, ◌↔◌, ◌⊎◌, inl, inr, Bool, true, false, ◌||◌, ◌&&◌, IsTrue, List, [], ◌∷◌, length, get_or, drop, refl, sym, ap, ◌∙◌, subst, arith}
use Rattle.std.proofs.Math.Seq.{drop-cons, drop-length}
use Rattle.std.proofs.lemmas.List.{get_or-drop, length-drop}
use Rattle.std.proofs.lemmas.Bool.{false≢true, or_cases, or_left, or_right, and_parts, and_from, cases_lt}
use Rattle.cov_logic.specs.Lasso.{Lasso}
use Rattle.cov_logic.specs.Suffix.{suffix}
use Rattle.cov_logic.proofs.Positions.{below_suc}
use Rattle.cov_logic.proofs.Periods.{suffix_add, suffix_among, suffix_round}
use Rattle.cov_replay.specs.Columns.{IsColumn}
use Rattle.cov_replay.specs.Walks.{walks}

-- what comes of one more place
pub walks_more : (ends stays : List Bool) (p : ℕ) (after : Bool) → p < length ends → length ends ≤ length stays
    → walks (drop p ends) (drop p stays) after ≡ (get_or ends p false || (get_or stays p false && walks (drop (suc p) ends) (drop (suc p) stays) after))
walks_more ends stays p after h c =
    let d : p < length stays = omega arith in
    ap (λ (xs : List Bool). walks xs (drop p stays) after) (drop-cons ends p false h)
    ∙ ap (λ (xs : List Bool). walks (get_or ends p false ∷ drop (suc p) ends) xs after) (drop-cons stays p false d)

-- behind the last place
pub walks_end : (ends stays : List Bool) (after : Bool) → walks (drop (length ends) ends) stays after ≡ after
walks_end ends stays after = ap (λ (xs : List Bool). walks xs stays after) (drop-length ends)

-- a second round finds what the first did
pub walks_twice : (ends stays : List Bool) (after : Bool) → walks ends stays (walks ends stays after) ≡ walks ends stays after
walks_twice [] stays after = refl
walks_twice (e ∷ ends) [] after = refl
walks_twice (true ∷ ends) (s ∷ stays) after = refl
walks_twice (false ∷ ends) (false ∷ stays) after = refl
walks_twice (false ∷ ends) (true ∷ stays) after = walks_twice ends stays after

module _ {S : Type 0} (E Y : Lasso S → Type 0) where
  -- E comes, and until then Y holds
  abbrev pub Until : Lasso S → Type 0
  Until k = (j : ℕ) × E (suffix j k) × ((i : ℕ) → i < j → Y (suffix i k))

  -- that, or Y holds for ever
  abbrev pub WeakUntil : Lasso S → Type 0
  WeakUntil k = Until k ⊎ ((i : ℕ) → Y (suffix i k))

  until_here : (k : Lasso S) → E k → Until k
  until_here k h = (0, h, λ i c. absurd (omega arith))

  until_on : (k : Lasso S) → Y k → Until (suffix 1 k) → Until k
  until_on k y u = (suc u.0, u.1, below_suc (λ i. Y (suffix i k)) u.0 y u.2)

  until_cases : (k : Lasso S) (j : ℕ) → E (suffix j k) → ((i : ℕ) → i < j → Y (suffix i k)) → E k ⊎ (Y k × Until (suffix 1 k))
  until_cases k zero e y = inl e
  until_cases k (suc j) e y = inr (y 0 (omega arith), (j, e, λ i c. y (suc i) (omega arith)))

  weak_cases : (k : Lasso S) → WeakUntil k → E k ⊎ (Y k × WeakUntil (suffix 1 k))
  weak_cases k (inl u) = elim (until_cases k u.0 u.1 u.2) [ inl e ↦ inl e | inr p ↦ inr (p.0, inl p.1) ]
  weak_cases k (inr a) = inr (a 0, inr (λ i. a (suc i)))

  -- what a walk finds in one round
  sound : (ends stays : List Bool) (k : Lasso S) (after : Bool) → length ends ≤ length stays
      → ((p : ℕ) → p < length ends → IsTrue (get_or ends p false) ↔ E (suffix p k))
      → ((p : ℕ) → p < length ends → IsTrue (get_or stays p false) ↔ Y (suffix p k))
      → (IsTrue after → Until (suffix (length ends) k)) → IsTrue (walks ends stays after) → Until k
  sound [] stays k after c e y h w = h w
  sound (x ∷ ends) [] k after c e y h w = absurd (omega arith)
  sound (x ∷ ends) (s ∷ stays) k after c e y h w =
      elim (or_cases x (s && walks ends stays after) w) [
        | inl t ↦ until_here k ((e 0 (omega arith)).0 t)
        | inr t ↦
            let q = and_parts s (walks ends stays after) t in
            until_on k ((y 0 (omega arith)).0 q.0)
            (sound ends stays (suffix 1 k) after (omega arith) (λ p d. e (suc p) (omega arith)) (λ p d. y (suc p) (omega arith)) h q.1)
      ]

  -- and what it cannot miss
  complete : (ends stays : List Bool) (k : Lasso S) (after : Bool) → length ends ≤ length stays
      → ((p : ℕ) → p < length ends → IsTrue (get_or ends p false) ↔ E (suffix p k))
      → ((p : ℕ) → p < length ends → IsTrue (get_or stays p false) ↔ Y (suffix p k))
      → (WeakUntil (suffix (length ends) k) → IsTrue after) → WeakUntil k → IsTrue (walks ends stays after)
  complete [] stays k after c e y h w = h w
  complete (x ∷ ends) [] k after c e y h w = absurd (omega arith)
  complete (x ∷ ends) (s ∷ stays) k after c e y h w =
      elim (weak_cases k w) [
        | inl t ↦ or_left x (s && walks ends stays after) ((e 0 (omega arith)).1 t)
        | inr t ↦
            or_right x (s && walks ends stays after)
            (and_from s (walks ends stays after) ((y 0 (omega arith)).1 t.0)
            (complete ends stays (suffix 1 k) after (omega arith) (λ p d. e (suc p) (omega arith)) (λ p d. y (suc p) (omega arith)) h t.1))
      ]

-- one step of a walk from the back
pub or_then : (e s f new : Bool) → e ≡ true → new ≡ true → new ≡ (e || (s && f))
or_then e s f new a b = rw (a, b) refl

pub or_else_then : (e s f new : Bool) → e ≡ false → s ≡ true → new ≡ f → new ≡ (e || (s && f))
or_else_then e s f new a b c = rw (a, b, c) refl

pub or_else_else : (e s f new : Bool) → e ≡ false → s ≡ false → new ≡ false → new ≡ (e || (s && f))
or_else_else e s f new a b c = rw (a, b, c) refl

pub walks_back : (before ends stays : List Bool) (q : ℕ) (after found new : Bool) → q < length ends → length ends ≤ length stays
    → get_or before q false ≡ get_or ends q false → found ≡ walks (drop (suc q) ends) (drop (suc q) stays) after
    → new ≡ (get_or before q false || (get_or stays q false && found)) → new ≡ walks (drop q ends) (drop q stays) after
walks_back before ends stays q after found new h c same was is =
    is
    ∙ ap (λ (b : Bool). b || (get_or stays q false && found)) same
    ∙ ap (λ (b : Bool). get_or ends q false || (get_or stays q false && b)) was
    ∙ sym (walks_more ends stays q after h c)

-- ends and stays are columns, and the scan of them ends after the last place as it began at the first of the turn
module _ {S : Type 0} (E Y : Lasso S → Type 0) (l : Lasso S) (ends stays : List Bool) where
  record Given : Type 0 where
    whole : length ends ≡ length l.stem + suc (length l.rest)
    room : length ends ≤ length stays
    ended : IsColumn E l (length ends) ends
    stayed : IsColumn Y l (length ends) stays

  -- the answer at a place, where that after the last one is known
  abbrev answer : Bool → ℕ → Bool
  answer after p = walks (drop p ends) (drop p stays) after

  shifted : (P : Lasso S → Type 0) (xs : List Bool) (n p i : ℕ) → IsColumn P l n xs → p + i < n
      → IsTrue (get_or (drop p xs) i false) ↔ P (suffix i (suffix p l))
  shifted P xs n p i h c =
      subst (λ (k : Lasso S). IsTrue (get_or (drop p xs) i false) ↔ P k) (suffix_add p i l)
      (subst (λ (b : Bool). IsTrue b ↔ P (suffix (p + i) l)) (sym (get_or-drop p xs i false)) (h.by (p + i) c))

  -- what comes after the last place
  end_is : (g : Given) (p : ℕ) → p ≤ length ends → suffix (length (drop p ends)) (suffix p l) ≡ suffix (length l.stem) l
  end_is g p c =
      let e : p + length (drop p ends) ≡ length l.stem + suc (length l.rest) = omega (arith, length-drop p ends, g.whole) in
      sym (suffix_add p (length (drop p ends)) l) ∙ ap (λ i. suffix i l) e ∙ suffix_round l

  sound_at : (g : Given) (after : Bool) (p : ℕ) → p ≤ length ends → (IsTrue after → Until E Y (suffix (length l.stem) l))
      → IsTrue (answer after p) → Until E Y (suffix p l)
  sound_at g after p c h =
      let room = g.room in
      sound E Y (drop p ends) (drop p stays) (suffix p l) after
      (omega (arith, length-drop p ends, length-drop p stays))
      (λ i d. shifted E ends (length ends) p i g.ended (omega (arith, length-drop p ends)))
      (λ i d. shifted Y stays (length ends) p i g.stayed (omega (arith, length-drop p ends)))
      (λ t. subst (Until E Y) (sym (end_is g p c)) (h t))

  complete_at : (g : Given) (after : Bool) (p : ℕ) → p ≤ length ends → (WeakUntil E Y (suffix (length l.stem) l) → IsTrue after)
      → WeakUntil E Y (suffix p l) → IsTrue (answer after p)
  complete_at g after p c h =
      let room = g.room in
      complete E Y (drop p ends) (drop p stays) (suffix p l) after
      (omega (arith, length-drop p ends, length-drop p stays))
      (λ i d. shifted E ends (length ends) p i g.ended (omega (arith, length-drop p ends)))
      (λ i d. shifted Y stays (length ends) p i g.stayed (omega (arith, length-drop p ends)))
      (λ w. h (subst (WeakUntil E Y) (end_is g p c) w))

  -- after the scan, each place has the answer of the place after it
  abbrev scanned : Bool → ℕ → Bool
  scanned start p = answer (answer start (length l.stem)) p

  record Next (start : Bool) (p : ℕ) : Type 0 where
    place : ℕ
    there : place < length ends
    is : suffix (suc p) l ≡ suffix place l
    answers : scanned start p ≡ (get_or ends p false || (get_or stays p false && scanned start place))

  next_of : (g : Given) (start : Bool) (p : ℕ) → p < length ends → Next start p
  next_of g start p c =
      let whole = g.whole in
      elim (cases_lt (suc p) (length ends)) [
        | inl d ↦ record { place = suc p; there = d; is = refl; answers = walks_more ends stays p (answer start (length l.stem)) c g.room }
        | inr d ↦
            let last : suc p ≡ length ends = omega arith in
            let round : suc p ≡ length l.stem + suc (length l.rest) = omega arith in
            let x : Bool = answer start (length l.stem) in
            record {
              place = length l.stem;
              there = omega arith;
              is = ap (λ i. suffix i l) round ∙ suffix_round l;
              answers =
                  walks_more ends stays p x c g.room
                  ∙ ap (λ (b : Bool). get_or ends p false || (get_or stays p false && b))
                  (ap (λ i. walks (drop i ends) (drop (suc p) stays) x) last ∙ walks_end ends (drop (suc p) stays) x
                  ∙ sym (walks_twice (drop (length l.stem) ends) (drop (length l.stem) stays) start));
            }
      ]

  step_to : (k : Lasso S) (p q : ℕ) → k ≡ suffix p l → suffix (suc p) l ≡ suffix q l → suffix 1 k ≡ suffix q l
  step_to k p q e n =
      let one : p + 1 ≡ suc p = omega arith in
      ap (suffix 1) e ∙ sym (suffix_add p 1 l) ∙ ap (λ i. suffix i l) one ∙ n

  found : (g : Given) (start : Bool) (j : ℕ) (k : Lasso S) (p : ℕ) → p < length ends → k ≡ suffix p l → E (suffix j k)
      → ((i : ℕ) → i < j → Y (suffix i k)) → IsTrue (scanned start p)
  found g start zero k p c is e y =
      let n = next_of g start p c in
      subst IsTrue (sym n.answers) (or_left (get_or ends p false) (get_or stays p false && scanned start n.place) ((g.ended.by p c).1 (subst E is e)))
  found g start (suc j) k p c is e y =
      let n = next_of g start p c in
      subst IsTrue (sym n.answers)
      (or_right (get_or ends p false) (get_or stays p false && scanned start n.place)
      (and_from (get_or stays p false) (scanned start n.place) ((g.stayed.by p c).1 (subst Y is (y 0 (omega arith))))
      (found g start j (suffix 1 k) n.place n.there (step_to k p n.place is n.is) e (λ i d. y (suc i) (omega arith)))))

  for_long : (g : Given) (start : Bool) (m : ℕ) (k : Lasso S) (p : ℕ) → p < length ends → k ≡ suffix p l → IsTrue (scanned start p)
      → Until E Y k ⊎ ((i : ℕ) → i < m → Y (suffix i k))
  for_long g start zero k p c is t = inr (λ i d. absurd (omega arith))
  for_long g start (suc m) k p c is t =
      let n = next_of g start p c in
      elim (or_cases (get_or ends p false) (get_or stays p false && scanned start n.place) (subst IsTrue n.answers t)) [
        | inl e ↦ inl (until_here E Y k (subst E (sym is) ((g.ended.by p c).0 e)))
        | inr r ↦
            let q = and_parts (get_or stays p false) (scanned start n.place) r in
            let y : Y k = subst Y (sym is) ((g.stayed.by p c).0 q.0) in
            elim (for_long g start m (suffix 1 k) n.place n.there (step_to k p n.place is n.is) q.1) [
              | inl u ↦ inl (until_on E Y k y u)
              | inr a ↦ inr (below_suc (λ i. Y (suffix i k)) m y a)
            ]
      ]

  for_ever : (g : Given) (start : Bool) (p : ℕ) → p < length ends → IsTrue (scanned start p) → WeakUntil E Y (suffix p l)
  for_ever g start p c t =
      let k : Lasso S = suffix p l in
      elim (for_long g start (length k.stem + suc (length k.rest)) k p c refl t) [
        | inl u ↦ inl u
        | inr a ↦ inr (λ i. let (j, d, e) = suffix_among i k in subst Y (sym e) (a j d))
      ]

  -- the scan that may not stay for ever is the column of the until
  pub until_column : length ends ≡ length l.stem + suc (length l.rest) → length ends ≤ length stays → IsColumn E l (length ends) ends
      → IsColumn Y l (length ends) stays → (p : ℕ) → p < length ends
      → IsTrue (walks (drop p ends) (drop p stays) (walks (drop (length l.stem) ends) (drop (length l.stem) stays) false)) ↔ Until E Y (suffix p l)
  until_column whole room ended stayed p c =
      let g : Given = record { whole = whole; room = room; ended = ended; stayed = stayed } in (
        sound_at g (answer false (length l.stem)) p (omega arith) (sound_at g false (length l.stem) (omega arith) (λ h. absurd (false≢true h))),
        λ u. found g false u.0 (suffix p l) p c refl u.1 u.2,
      )

  -- and the one that may is that of the weak until
  pub weak_until_column : length ends ≡ length l.stem + suc (length l.rest) → length ends ≤ length stays → IsColumn E l (length ends) ends
      → IsColumn Y l (length ends) stays → (p : ℕ) → p < length ends
      → IsTrue (walks (drop p ends) (drop p stays) (walks (drop (length l.stem) ends) (drop (length l.stem) stays) true)) ↔ WeakUntil E Y (suffix p l)
  weak_until_column whole room ended stayed p c =
      let g : Given = record { whole = whole; room = room; ended = ended; stayed = stayed } in (
        for_ever g true p c,
        complete_at g (answer true (length l.stem)) p (omega arith) (complete_at g true (length l.stem) (omega arith) (λ w. refl)),
      )
