-- What the order of dependence is: each DEFINE stands once, and reads only those before it. All stand in it where none reads itself.
use Rattle.std.proofs.Common.{◌≡◌, ℕ, zero, suc, ◌+◌, ◌<◌, ◌≤◌, Bool, true, false, not, ◌&&◌, IsTrue, ◌⊎◌, inl, inr, List, [], ◌∷◌, ◌++◌, length, get_or, take, Option, Some, None, refl, sym, ap, subst, ◌∙◌, arith, length-append}
use Rattle.std.specs.Prelude.{◌==◌, nat_lt}
use Rattle.std.specs.List.{list_any, list_all}
use Rattle.cov_model.specs.Order.{Reads, read_by, has, leads_to, next_define, placed_after, dependence}
use Rattle.cov_model.specs.WellFormed.{all_different}
use Rattle.cov_model.proofs.Joins.{or_left, or_right, or_case}
use Rattle.cov_model.proofs.Joined.{and_split, and_join}
use Rattle.cov_order.proofs.Numbers.{same_number, same_self, all_different-push, length_of_different}
use Rattle.cov_order.proofs.Leading.{some_of, Stands, stands, has_at, leads_more, leads_then}
use Rattle.cov_order.proofs.Placing.{IsNext, next_found, next_missing}
use Rattle.cov_order.specs.Reach.{all_below, are_there}

-- Different DEFINEs that are there; what each reads stands before it.
pub record IsSound (g : Reads) (order : List ℕ) : Type 0 where
  pub different : IsTrue (all_different order)
  pub there : (k : ℕ) → k < length order → get_or order k 0 < length g
  pub before : (k : ℕ) → k < length order → IsTrue (list_all (has (take k order)) (read_by g (get_or order k 0)))

front_at : (xs ys : List ℕ) (p : ℕ) → p < length xs → get_or (xs ++ ys) p 0 ≡ get_or xs p 0
front_at [] ys p h = absurd (omega arith)
front_at (x ∷ xs) ys zero h = refl
front_at (x ∷ xs) ys (suc p) h = front_at xs ys p (omega arith)

last_at : (xs : List ℕ) (y p : ℕ) → p ≡ length xs → get_or (xs ++ y ∷ []) p 0 ≡ y
last_at [] y p h = ap (λ (k : ℕ). get_or (y ∷ []) k 0) h
last_at (x ∷ xs) y zero h = absurd (omega arith)
last_at (x ∷ xs) y (suc p) h = last_at xs y p (omega arith)

front_taken : (xs ys : List ℕ) (p : ℕ) → p ≤ length xs → take p (xs ++ ys) ≡ take p xs
front_taken xs ys zero h = refl
front_taken [] ys (suc p) h = absurd (omega arith)
front_taken (x ∷ xs) ys (suc p) h = ap (λ (zs : List ℕ). x ∷ zs) (front_taken xs ys p (omega arith))

all_taken : (xs : List ℕ) (p : ℕ) → p ≡ length xs → take p xs ≡ xs
all_taken [] zero h = refl
all_taken [] (suc p) h = absurd (omega arith)
all_taken (x ∷ xs) zero h = absurd (omega arith)
all_taken (x ∷ xs) (suc p) h = ap (λ (zs : List ℕ). x ∷ zs) (all_taken xs p (omega arith))

sound_none : (g : Reads) → IsSound g []
sound_none g = record { different = refl; there = λ k h. absurd (omega arith); before = λ k h. absurd (omega arith) }

sound_more : (g : Reads) (order : List ℕ) (i : ℕ) → IsSound g order → IsNext order 0 g i → IsSound g (order ++ i ∷ [])
sound_more g order i w n = record {
  different = all_different-push order i w.different n.new;
  there = λ k h. there k (omega (arith, length-append order (i ∷ []), h)) (nat_lt k (length order)) refl;
  before = λ k h. before k (omega (arith, length-append order (i ∷ []), h)) (nat_lt k (length order)) refl;
}
  where
    at : n.offset ≡ i
    at = omega (arith, n.is)

    there : (k : ℕ) → k < length order + 1 → (b : Bool) → nat_lt k (length order) ≡ b → get_or (order ++ i ∷ []) k 0 < length g
    there k h true t = let q : k < length order = grind arith in subst (λ (z : ℕ). z < length g) (sym (front_at order (i ∷ []) k q)) (w.there k q)
    there k h false t = let q : k ≡ length order = grind arith in subst (λ (z : ℕ). z < length g) (sym (last_at order i k q)) (omega (arith, n.there, at))

    before : (k : ℕ) → k < length order + 1 → (b : Bool) → nat_lt k (length order) ≡ b → IsTrue (list_all (has (take k (order ++ i ∷ []))) (read_by g (get_or (order ++ i ∷ []) k 0)))
    before k h true t = let q : k < length order = grind arith in
        subst (λ (xs : List ℕ). IsTrue (list_all (has xs) (read_by g (get_or (order ++ i ∷ []) k 0)))) (sym (front_taken order (i ∷ []) k (omega (arith, q))))
        (subst (λ (z : ℕ). IsTrue (list_all (has (take k order)) (read_by g z))) (sym (front_at order (i ∷ []) k q)) (w.before k q))
    before k h false t = let q : k ≡ length order = grind arith in
        subst (λ (xs : List ℕ). IsTrue (list_all (has xs) (read_by g (get_or (order ++ i ∷ []) k 0)))) (sym (front_taken order (i ∷ []) k (omega (arith, q)) ∙ all_taken order k q))
        (subst (λ (z : ℕ). IsTrue (list_all (has order) (read_by g z))) (sym (last_at order i k q))
        (subst (λ (z : ℕ). IsTrue (list_all (has order) (read_by g z))) at n.ready))

-- all that can be placed is placed
pub record IsDone (g : Reads) (more : ℕ) (before order : List ℕ) : Type 0 where
  pub sound : IsSound g order
  pub done : (length order ≡ length before + more) ⊎ (next_define order 0 g ≡ None)

placed_done : (more : ℕ) (g : Reads) (placed : List ℕ) → IsSound g placed → IsDone g more placed (placed_after more g placed)
placed_done zero g placed w = record { sound = w; done = inl (omega arith) }
placed_done (suc more) g placed w = by (next_define placed 0 g) refl (λ i q. placed_done more g (placed ++ i ∷ []) q)
  where
    by : (o : Option ℕ) → next_define placed 0 g ≡ o → ((i : ℕ) → IsSound g (placed ++ i ∷ []) → IsDone g more (placed ++ i ∷ []) (placed_after more g (placed ++ i ∷ [])))
        → IsDone g (suc more) placed (elim o [ None ↦ placed | Some i ↦ placed_after more g (placed ++ i ∷ []) ])
    by None e f = record { sound = w; done = inr e }
    by (Some i) e f =
        let r = f i (sound_more g placed i w (next_found placed 0 g i e)) in
        record { sound = r.sound; done = elim r.done [ inl h ↦ inl (omega (arith, h, length-append placed (i ∷ []))) | inr h ↦ inr h ] }

pub dependence_done : (g : Reads) → IsDone g (length g) [] (dependence g)
dependence_done g = placed_done (length g) g [] (sound_none g)

pub dependence_sound : (g : Reads) → IsSound g (dependence g)
dependence_sound g = (dependence_done g).sound

-- ---- what is placed does not read itself

all_has : (before xs : List ℕ) (j : ℕ) → IsTrue (list_all (has before) xs) → IsTrue (has xs j) → IsTrue (has before j)
all_has before [] j a h = cc
all_has before (x ∷ xs) j a h = let c = and_split (has before x) (list_all (has before) xs) a in
    elim (or_case (x == j) (has xs j) h) [ inl k ↦ subst (λ (z : ℕ). IsTrue (has before z)) (same_number x j k) c.0 | inr k ↦ all_has before xs j c.1 k ]

-- a place before another
pub record Earlier (order : List ℕ) (k j : ℕ) : Type 0 where
  pub place : ℕ
  pub earlier : place < k
  pub is : get_or order place 0 ≡ j

taken_at : (xs : List ℕ) (k p : ℕ) → p < length (take k xs) → (p < k) × (get_or (take k xs) p 0 ≡ get_or xs p 0)
taken_at xs zero p h = absurd (omega arith)
taken_at [] (suc k) p h = absurd (omega arith)
taken_at (x ∷ xs) (suc k) zero h = (omega arith, refl)
taken_at (x ∷ xs) (suc k) (suc p) h = let r = taken_at xs k p (omega arith) in (omega (arith, r.0), r.1)

pub reads_earlier : (g : Reads) (order : List ℕ) → IsSound g order → (k j : ℕ) → k < length order → IsTrue (has (read_by g (get_or order k 0)) j) → Earlier order k j
reads_earlier g order w k j h r =
    let s = stands (take k order) j (all_has (take k order) (read_by g (get_or order k 0)) j (w.before k h) r) in
    let t = taken_at order k s.place s.within in
    record { place = s.place; earlier = t.0; is = sym t.1 ∙ s.is }

leads_earlier : (g : Reads) (order : List ℕ) → IsSound g order → (p k j : ℕ) → k < length order → IsTrue (leads_to p g (get_or order k 0) j) → Earlier order k j
leads_earlier g order w zero k j h l = reads_earlier g order w k j h l
leads_earlier g order w (suc p) k j h l = elim (or_case (has (read_by g (get_or order k 0)) j) (list_any (λ x. leads_to p g x j) (read_by g (get_or order k 0))) l) [
  | inl r ↦ reads_earlier g order w k j h r
  | inr r ↦
      let s = some_of (λ x. leads_to p g x j) (read_by g (get_or order k 0)) r in
      let e = reads_earlier g order w k s.number h s.there in
      let f = leads_earlier g order w p e.place j (omega (arith, e.earlier, h)) (subst (λ (z : ℕ). IsTrue (leads_to p g z j)) (sym e.is) s.passes) in
      record { place = f.place; earlier = omega (arith, f.earlier, e.earlier); is = f.is }
]

has_later : (xs : List ℕ) (k x : ℕ) → k < length xs → get_or xs k 0 ≡ x → IsTrue (has xs x)
has_later xs k x h e = subst (λ (z : ℕ). IsTrue (has xs z)) e (has_at xs k h)

pub places_differ : (xs : List ℕ) (i k : ℕ) → IsTrue (all_different xs) → i < k → k < length xs → get_or xs i 0 ≡ get_or xs k 0 → ⊥
places_differ [] i k d l h e = omega arith
places_differ (x ∷ xs) i zero d l h e = omega arith
places_differ (x ∷ xs) zero (suc k) d l h e = absent (has xs x) (and_split (not (has xs x)) (all_different xs) d).0 (has_later xs k x (omega arith) (sym e))
  where
    absent : (b : Bool) → IsTrue (not b) → IsTrue b → ⊥
    absent true n y = cc
    absent false n y = cc
places_differ (x ∷ xs) (suc i) (suc k) d l h e = places_differ xs i k (and_split (not (has xs x)) (all_different xs) d).1 (omega arith) (omega arith) e

-- a DEFINE that is placed does not read itself, through any number of others
pub placed_not_circular : (g : Reads) (order : List ℕ) → IsSound g order → (i p : ℕ) → IsTrue (has order i) → leads_to p g i i ≡ false
placed_not_circular g order w i p h = by (leads_to p g i i) refl
  where
    s : Stands order i
    s = stands order i h

    by : (b : Bool) → leads_to p g i i ≡ b → b ≡ false
    by false e = refl
    by true e =
        let f = leads_earlier g order w p s.place i s.within (subst (λ (z : ℕ). IsTrue (leads_to p g z i)) (sym s.is) e) in
        absurd (places_differ order f.place s.place w.different f.earlier s.within (f.is ∙ sym s.is))

-- ---- where one is left, some DEFINE reads itself

-- a DEFINE that is there, and reads itself
pub record Circular (g : Reads) : Type 0 where
  pub number : ℕ
  pub there : number < length g
  pub reads_itself : IsTrue (leads_to (length g) g number number)

-- a read that is not placed
pub record Missing (placed xs : List ℕ) : Type 0 where
  pub number : ℕ
  pub there : IsTrue (has xs number)
  pub missing : has placed number ≡ false

missing : (placed xs : List ℕ) → list_all (has placed) xs ≡ false → Missing placed xs
missing placed [] h = cc
missing placed (x ∷ xs) h = by (has placed x) refl (λ k. missing placed xs k) h
  where
    by : (b : Bool) → has placed x ≡ b → (list_all (has placed) xs ≡ false → Missing placed xs) → (b && list_all (has placed) xs) ≡ false → Missing placed (x ∷ xs)
    by true e f k = let r = f k in record { number = r.number; there = or_right (x == r.number) (has xs r.number) r.there; missing = r.missing }
    by false e f k = record { number = x; there = or_left (x == x) (has xs x) (same_self x); missing = e }

all_below_has : (n : ℕ) (xs : List ℕ) (j : ℕ) → IsTrue (all_below n xs) → IsTrue (has xs j) → j < n
all_below_has n [] j a h = cc
all_below_has n (x ∷ xs) j a h = let c = and_split (nat_lt x n) (all_below n xs) a in
    elim (or_case (x == j) (has xs j) h) [ inl k ↦ below (same_number x j k) c.0 | inr k ↦ all_below_has n xs j c.1 k ]
  where
    below : x ≡ j → IsTrue (nat_lt x n) → j < n
    below e l = grind arith

pub read_below : (n : ℕ) (g : Reads) (i j : ℕ) → IsTrue (list_all (all_below n) g) → IsTrue (has (read_by g i) j) → j < n
read_below n [] i j a h = cc
read_below n (xs ∷ g) zero j a h = all_below_has n xs j (and_split (all_below n xs) (list_all (all_below n) g) a).0 h
read_below n (xs ∷ g) (suc i) j a h = read_below n g i j (and_split (all_below n xs) (list_all (all_below n) g) a).1 h

-- a walk through DEFINEs that are not placed, the last one first
record IsWalk (g : Reads) (placed : List ℕ) (x : ℕ) (walk : List ℕ) : Type 0 where
  different : IsTrue (all_different (x ∷ walk))
  below : (j : ℕ) → IsTrue (has (x ∷ walk) j) → j < length g
  new : has placed x ≡ false
  leads : (j : ℕ) → IsTrue (has walk j) → IsTrue (leads_to (length walk) g j x)

not_false : (b : Bool) → b ≡ false → IsTrue (not b)
not_false true h = cc
not_false false h = refl

walk_on : (left : ℕ) (g : Reads) (placed : List ℕ) (x : ℕ) (walk : List ℕ) → IsTrue (are_there g) → next_define placed 0 g ≡ None → left + length (x ∷ walk) ≡ length g + 1 → IsWalk g placed x walk → Circular g
walk_on zero g placed x walk there stuck l w = absurd (omega (arith, l, length_of_different (x ∷ walk) (length g) w.different w.below))
walk_on (suc left) g placed x walk there stuck l w = by (has (x ∷ walk) m.number) refl (λ v. walk_on left g placed m.number (x ∷ walk) there stuck (omega (arith, l)) v)
  where
    fits : length (x ∷ walk) ≤ length g
    fits = length_of_different (x ∷ walk) (length g) w.different w.below

    self : (x : ℕ) (walk : List ℕ) → IsTrue (has (x ∷ walk) x)
    self x walk = or_left (x == x) (has walk x) (same_self x)

    m : Missing placed (read_by g x)
    m = missing placed (read_by g x) (next_missing placed 0 g stuck x (w.below x (self x walk)) (ap (has placed) (plus x) ∙ w.new))
      where
        plus : (x : ℕ) → 0 + x ≡ x
        plus x = omega arith

    leads : (j : ℕ) → IsTrue (has (x ∷ walk) j) → IsTrue (leads_to (length (x ∷ walk)) g j m.number)
    leads j h = elim (or_case (x == j) (has walk j) h) [
      | inl e ↦ leads_more 0 (length (x ∷ walk)) g j m.number (omega arith) (subst (λ (z : ℕ). IsTrue (has (read_by g z) m.number)) (same_number x j e) m.there)
      | inr r ↦ leads_then (length walk) g j x m.number (w.leads j r) m.there
    ]

    number_below : m.number < length g
    number_below = read_below (length g) g x m.number there m.there

    by : (b : Bool) → has (x ∷ walk) m.number ≡ b → (IsWalk g placed m.number (x ∷ walk) → Circular g) → Circular g
    by true e f = record { number = m.number; there = number_below; reads_itself = leads_more (length (x ∷ walk)) (length g) g m.number m.number fits (leads m.number e) }
    by false e f = f (record {
      different = and_join (not (has (x ∷ walk) m.number)) (all_different (x ∷ walk)) (not_false (has (x ∷ walk) m.number) e) w.different;
      below = λ j h. elim (or_case (m.number == j) (has (x ∷ walk) j) h) [ inl q ↦ subst (λ (z : ℕ). z < length g) (same_number m.number j q) number_below | inr q ↦ w.below j q ];
      new = m.missing;
      leads = leads;
    })

-- where a DEFINE is left, and none that is left is ready, some DEFINE reads itself
pub walk_start : (g : Reads) (placed : List ℕ) (x : ℕ) → IsTrue (are_there g) → next_define placed 0 g ≡ None → x < length g → has placed x ≡ false → Circular g
walk_start g placed x there stuck l new = walk_on (length g) g placed x [] there stuck refl (record {
  different = refl;
  below = λ j h. elim (or_case (x == j) false h) [ inl e ↦ subst (λ (z : ℕ). z < length g) (same_number x j e) l | inr e ↦ cc ];
  new = new;
  leads = λ j h. cc;
})

-- each number below n stands in the list, or one does not
pub left_out : (n : ℕ) (xs : List ℕ) → ((j : ℕ) → j < n → IsTrue (has xs j)) ⊎ ((j : ℕ) × (j < n) × (has xs j ≡ false))
left_out zero xs = inl (λ j h. absurd (omega arith))
left_out (suc n) xs = by (has xs n) refl (left_out n xs)
  where
    by : (b : Bool) → has xs n ≡ b → ((j : ℕ) → j < n → IsTrue (has xs j)) ⊎ ((j : ℕ) × (j < n) × (has xs j ≡ false)) → ((j : ℕ) → j < suc n → IsTrue (has xs j)) ⊎ ((j : ℕ) × (j < suc n) × (has xs j ≡ false))
    by false e r = inr (n, omega arith, e)
    by true e (inr r) = inr (r.0, omega (arith, r.1), r.2)
    by true e (inl f) = inl (λ j h. all j h (nat_lt j n) refl)
      where
        all : (j : ℕ) → j < suc n → (b : Bool) → nat_lt j n ≡ b → IsTrue (has xs j)
        all j h true t = f j (grind arith)
        all j h false t = let q : n ≡ j = grind arith in subst (λ (z : ℕ). IsTrue (has xs z)) q e
