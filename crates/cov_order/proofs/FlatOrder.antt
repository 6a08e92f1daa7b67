-- A flat model in which no DEFINE reads itself is flat when it is put in order.
use Rattle.std.proofs.Common.{◌≡◌, ℕ, zero, suc, ◌+◌, ◌-◌, ◌<◌, ◌≤◌, Bool, true, false, not, ◌&&◌, ◌||◌, IsTrue, ◌⊎◌, inl, inr, List, [], ◌∷◌, ◌++◌, map, length, get_or, Option, Some, None, refl, sym, ap, subst, ◌∙◌, arith, length-append, zero-add}
use Rattle.std.specs.Prelude.{◌==◌, slice_get, nat_lt, nat_le}
use Rattle.std.specs.List.{list_all, flat_map}
use Rattle.std.specs.Option.{option_map_or}
use Rattle.std.proofs.lemmas.List.{map-append}
use Rattle.cov_syntax.specs.declared.tree.Expr.{Expr}
use Rattle.cov_syntax.specs.declared.tree.Value.{Value}
use Rattle.cov_syntax.specs.declared.tree.Value.TheVariants as v
use Rattle.cov_model.specs.declared.model.Var.{Var}
use Rattle.cov_model.specs.declared.model.Define.{Define}
use Rattle.cov_model.specs.declared.model.Assign.{Assign}
use Rattle.cov_model.specs.declared.model.Model.{Model}
use Rattle.cov_model.specs.Order.{Reads, reads_of, has, leads_to, dependence, place_in, circular, renumbered, with_body, with_assigned, ordered}
use Rattle.cov_model.specs.WellFormed.{all_different, cites, all_cite, assigns_cite, flat_names, has_name, is_symbol}
use Rattle.cov_model.specs.Flat.{IsFlat, depth, greatest, conditions_of, assignments_of, expressions}
use Rattle.cov_model.proofs.Joined.{and_split, and_join}
use Rattle.cov_order.specs.Reach.{all_below, AreThere}
use Rattle.cov_order.proofs.Leading.{stands}
use Rattle.cov_order.proofs.Numbers.{same_number, has-push, all_different-push, length_of_different}
use Rattle.cov_order.proofs.Ordering.{IsSound, dependence_sound, places_differ, left_out}
use Rattle.cov_order.proofs.InPlace.{not_circular, all_of}
use Rattle.cov_order.proofs.Renumbering.{same_depth}
use Rattle.cov_order.proofs.Citing.{cited_reads, renumbered_cites}
use Rattle.cov_order.proofs.WholeOrder.{all_placed, length-reads_of, place_in_at, placed, as_long, all_placed_pass, some_at}

-- ---- each DEFINE that is named is there

below_all : (n : ℕ) (xs : List ℕ) → ((j : ℕ) → IsTrue (has xs j) → j < n) → IsTrue (all_below n xs)
below_all n xs f = all_of (λ j. nat_lt j n) xs (λ j h. under j n (f j h))
  where
    under : (j n : ℕ) → j < n → IsTrue (nat_lt j n)
    under j n h = grind arith

bodies_there : (m : Model) (ds : List Define) → IsTrue (list_all (λ (d : Define). cites m d.body) ds) → IsTrue (list_all (all_below (length m.defines)) (reads_of ds))
bodies_there m [] h = refl
bodies_there m (d ∷ ds) h =
    let s = and_split (cites m d.body) (list_all (λ (d : Define). cites m d.body) ds) h in
    and_join (all_below (length m.defines) _) (list_all (all_below (length m.defines)) (reads_of ds)) (below_all (length m.defines) _ (cited_reads m d.body s.0)) (bodies_there m ds s.1)

-- each DEFINE that a body names is there
pub flat_there : (m : Model) → IsFlat m → AreThere m.defines
flat_there m f = subst (λ (n : ℕ). IsTrue (list_all (all_below n) (reads_of m.defines))) (sym (length-reads_of m.defines)) (bodies_there m m.defines f.bodies)

-- ---- lists in order

map_all : {A : Type 0} (p q : A → Bool) (g : A → A) → ((x : A) → IsTrue (p x) → IsTrue (q (g x))) → (xs : List A) → IsTrue (list_all p xs) → IsTrue (list_all q (map g xs))
map_all p q g f [] h = refl
map_all p q g f (x ∷ xs) h = let s = and_split (p x) (list_all p xs) h in and_join (q (g x)) (list_all q (map g xs)) (f x s.0) (map_all p q g f xs s.1)

map_all_same : {A B : Type 0} (q : B → Bool) (g : A → B) (p : A → Bool) → ((x : A) → IsTrue (p x) → IsTrue (q (g x))) → (xs : List A) → IsTrue (list_all p xs) → IsTrue (list_all q (map g xs))
map_all_same q g p f [] h = refl
map_all_same q g p f (x ∷ xs) h = let s = and_split (p x) (list_all p xs) h in and_join (q (g x)) (list_all q (map g xs)) (f x s.0) (map_all_same q g p f xs s.1)

mapped_all : {A B : Type 0} (q : B → Bool) (g : A → B) (xs : List A) → IsTrue (list_all q (map g xs)) → IsTrue (list_all (λ x. q (g x)) xs)
mapped_all q g [] h = refl
mapped_all q g (x ∷ xs) h = let s = and_split (q (g x)) (list_all q (map g xs)) h in and_join (q (g x)) (list_all (λ x. q (g x)) xs) s.0 (mapped_all q g xs s.1)

all_both : {A : Type 0} (p : A → Bool) (xs ys : List A) → IsTrue (list_all p xs) → IsTrue (list_all p ys) → IsTrue (list_all p (xs ++ ys))
all_both p [] ys h k = k
all_both p (x ∷ xs) ys h k = let s = and_split (p x) (list_all p xs) h in and_join (p x) (list_all p (xs ++ ys)) s.0 (all_both p xs ys s.1 k)

all_parts : {A : Type 0} (p : A → Bool) (xs ys : List A) → IsTrue (list_all p (xs ++ ys)) → IsTrue (list_all p xs) × IsTrue (list_all p ys)
all_parts p [] ys h = (refl, h)
all_parts p (x ∷ xs) ys h = let s = and_split (p x) (list_all p (xs ++ ys)) h in let t = all_parts p xs ys s.1 in (and_join (p x) (list_all p xs) s.0 t.0, t.1)

five : {A B : Type 0} (g : A → B) (a b c d e : List A) → map g a ++ map g b ++ map g c ++ map g d ++ map g e ≡ map g (a ++ b ++ c ++ d ++ e)
five g a b c d e =
    ap (λ (z : List _). ((z ++ map g c) ++ map g d) ++ map g e) (sym (map-append g a b))
    ∙ ap (λ (z : List _). (z ++ map g d) ++ map g e) (sym (map-append g (a ++ b) c))
    ∙ ap (λ (z : List _). z ++ map g e) (sym (map-append g ((a ++ b) ++ c) d))
    ∙ sym (map-append g (((a ++ b) ++ c) ++ d) e)

three : {A B : Type 0} (g : A → B) (a b c : List A) → map g a ++ map g b ++ map g c ≡ map g (a ++ b ++ c)
three g a b c = ap (λ (z : List _). z ++ map g c) (sym (map-append g a b)) ∙ sym (map-append g (a ++ b) c)

-- ---- different names

-- numbers that differ place by place are different
different_from : (xs : List ℕ) → ((i k : ℕ) → i < k → k < length xs → get_or xs i 0 ≡ get_or xs k 0 → ⊥) → IsTrue (all_different xs)
different_from [] f = refl
different_from (x ∷ xs) f = and_join (not (has xs x)) (all_different xs) (absent (has xs x) refl) (different_from xs (λ i k l h e. f (suc i) (suc k) (omega arith) (omega arith) e))
  where
    absent : (b : Bool) → has xs x ≡ b → IsTrue (not b)
    absent false e = refl
    absent true e = let s = stands xs x e in absurd (f 0 (suc s.place) (omega arith) (omega (arith, s.within)) (sym s.is))

front_at : (xs ys : List ℕ) (p : ℕ) → p < length xs → get_or (xs ++ ys) p 0 ≡ get_or xs p 0
front_at [] ys p h = absurd (omega arith)
front_at (x ∷ xs) ys zero h = refl
front_at (x ∷ xs) ys (suc p) h = front_at xs ys p (omega arith)

back_at : (xs ys : List ℕ) (p : ℕ) → get_or (xs ++ ys) (length xs + p) 0 ≡ get_or ys p 0
back_at [] ys p = ap (λ (k : ℕ). get_or ys k 0) (zero-add p)
back_at (x ∷ xs) ys p = ap (λ (k : ℕ). get_or (x ∷ (xs ++ ys)) k 0) (next (length xs) p) ∙ back_at xs ys p
  where
    next : (n p : ℕ) → suc n + p ≡ suc (n + p)
    next n p = omega arith

get_map : (f : ℕ → ℕ) (xs : List ℕ) (k : ℕ) → k < length xs → get_or (map f xs) k 0 ≡ f (get_or xs k 0)
get_map f [] k h = absurd (omega arith)
get_map f (x ∷ xs) zero h = refl
get_map f (x ∷ xs) (suc k) h = get_map f xs k (omega arith)

length-map : {A B : Type 0} (f : A → B) (xs : List A) → length (map f xs) ≡ length xs
length-map f [] = refl
length-map f (x ∷ xs) = ap (λ (n : ℕ). suc n) (length-map f xs)

-- different numbers at different places, behind others
module _ (xs ys o : List ℕ) (different : IsTrue (all_different (xs ++ ys))) (places : IsTrue (all_different o)) (there : (k : ℕ) → k < length o → get_or o k 0 < length ys) where
  picked : List ℕ
  picked = map (λ i. get_or ys i 0) o

  unfolded : picked ≡ map (λ i. get_or ys i 0) o
  unfolding picked
  unfolded = refl

  apart_in : (i k : ℕ) → i < length ys → k < length ys → (i ≡ k → ⊥) → get_or ys i 0 ≡ get_or ys k 0 → ⊥
  apart_in i k h l ne e = by (nat_lt i k) refl
    where
      long : length (xs ++ ys) ≡ length xs + length ys
      long = length-append xs ys

      by : (b : Bool) → nat_lt i k ≡ b → ⊥
      by true t = let q : i < k = grind arith in
          places_differ (xs ++ ys) (length xs + i) (length xs + k) different (omega (arith, q)) (omega (arith, long, l)) (back_at xs ys i ∙ e ∙ sym (back_at xs ys k))
      by false t = let q : k < i = before i k t ne in
          places_differ (xs ++ ys) (length xs + k) (length xs + i) different (omega (arith, q)) (omega (arith, long, h)) (back_at xs ys k ∙ sym e ∙ sym (back_at xs ys i))
        where
          before : (i k : ℕ) → nat_lt i k ≡ false → (i ≡ k → ⊥) → k < i
          before i k t ne = grind arith

  -- the same place from the end of the first list on
  picked_at : (k : ℕ) → k < length o → get_or (xs ++ map (λ i. get_or ys i 0) o) (length xs + k) 0 ≡ get_or ys (get_or o k 0) 0
  picked_at k h = back_at xs (map (λ i. get_or ys i 0) o) k ∙ get_map (λ i. get_or ys i 0) o k h

  pub picked_different : IsTrue (all_different (xs ++ map (λ i. get_or ys i 0) o))
  picked_different = different_from (xs ++ map (λ i. get_or ys i 0) o) (λ i k l h e. by i k l (omega (arith, length-append xs (map (λ i. get_or ys i 0) o), length-map (λ i. get_or ys i 0) o, h)) e (nat_lt i (length xs)) (nat_lt k (length xs)) refl refl)
    where
      by : (i k : ℕ) → i < k → k < length xs + length o → get_or (xs ++ map (λ i. get_or ys i 0) o) i 0 ≡ get_or (xs ++ map (λ i. get_or ys i 0) o) k 0
          → (b c : Bool) → nat_lt i (length xs) ≡ b → nat_lt k (length xs) ≡ c → ⊥
      by i k l h e b true s t =
          let q : k < length xs = grind arith in
          let r : i < length xs = omega (arith, l, q) in
          places_differ (xs ++ ys) i k different l (omega (arith, length-append xs ys, q))
          (front_at xs ys i r ∙ sym (front_at xs (map (λ i. get_or ys i 0) o) i r) ∙ e ∙ front_at xs (map (λ i. get_or ys i 0) o) k q ∙ sym (front_at xs ys k q))
      by i k l h e true false s t =
          let r : i < length xs = grind arith in
          let q : length xs ≤ k = grind arith in
          let p : ℕ = k - length xs in
          let kp : k ≡ length xs + p = omega (arith, q) in
          let hp : p < length o = omega (arith, h, q) in
          let at : ℕ = get_or o p 0 in
          places_differ (xs ++ ys) i (length xs + at) different (omega (arith, r)) (omega (arith, length-append xs ys, there p hp))
          (front_at xs ys i r ∙ sym (front_at xs (map (λ i. get_or ys i 0) o) i r) ∙ e ∙ ap (λ (z : ℕ). get_or (xs ++ map (λ i. get_or ys i 0) o) z 0) kp ∙ picked_at p hp ∙ sym (back_at xs ys at))
      by i k l h e false false s t =
          let q : length xs ≤ i = grind arith in
          let a : ℕ = i - length xs in
          let p : ℕ = k - length xs in
          let ia : i ≡ length xs + a = omega (arith, q) in
          let kp : k ≡ length xs + p = omega (arith, q, l) in
          let ha : a < length o = omega (arith, h, q, l) in
          let hp : p < length o = omega (arith, h, q, l) in
          let ap_ : a < p = omega (arith, q, l) in
          apart_in (get_or o a 0) (get_or o p 0) (there a ha) (there p hp) (λ w. places_differ o a p places ap_ hp w)
          (sym (picked_at a ha) ∙ ap (λ (z : ℕ). get_or (xs ++ map (λ i. get_or ys i 0) o) z 0) (sym ia) ∙ e ∙ ap (λ (z : ℕ). get_or (xs ++ map (λ i. get_or ys i 0) o) z 0) kp ∙ picked_at p hp)

-- ---- the greatest depth

at_most : (n k : ℕ) → IsTrue (nat_le k n) → k ≤ n
at_most n k h = grind arith

is_at_most : (n k : ℕ) → k ≤ n → IsTrue (nat_le k n)
is_at_most n k h = grind arith

greatest_from : (n : ℕ) (xs : List ℕ) → IsTrue (list_all (λ k. nat_le k n) xs) → greatest xs ≤ n
greatest_from n [] h = omega arith
greatest_from n (x ∷ xs) h = let s = and_split (nat_le x n) (list_all (λ k. nat_le k n) xs) h in omega (arith, at_most n x s.0, greatest_from n xs s.1)

below_greatest : (n : ℕ) (xs : List ℕ) → greatest xs ≤ n → IsTrue (list_all (λ k. nat_le k n) xs)
below_greatest n [] h = refl
below_greatest n (x ∷ xs) h = and_join (nat_le x n) (list_all (λ k. nat_le k n) xs) (is_at_most n x (omega arith)) (below_greatest n xs (omega arith))

-- ---- the model

module _ (m : Model) (f : IsFlat m) (none : circular m.defines ≡ None) where
  g : Reads
  g = reads_of m.defines

  abbrev o : List ℕ
  o = dependence (reads_of m.defines)

  w : IsSound (reads_of m.defines) o
  w = dependence_sound (reads_of m.defines)

  -- all DEFINEs are placed
  pub all_there : length (dependence (reads_of m.defines)) ≡ length m.defines
  all_there = all_placed (reads_of m.defines) (flat_there m f) (λ i l. subst (λ (k : ℕ). leads_to (length (reads_of m.defines)) (reads_of m.defines) k k ≡ false) (zero-add i) (not_circular (reads_of m.defines) m.defines 0 none i (omega (arith, l, length-reads_of m.defines))))
      ∙ length-reads_of m.defines

  in_range : (k : ℕ) → k < length o → get_or o k 0 < length m.defines
  in_range k l = omega (arith, w.there k l, length-reads_of m.defines)

  -- as many DEFINEs as before
  pub same_number_of : length (ordered m).defines ≡ length m.defines
  same_number_of = as_long o m.defines o in_range ∙ all_there

  new_places : (i : ℕ) → i < length m.defines → place_in o i < length (ordered m).defines
  new_places i l =
      let s = stands o i (each i l) in
      omega (arith, place_in_at o s.place w.different s.within, ap (place_in o) s.is, s.within, same_number_of, all_there)
    where
      each : (i : ℕ) → i < length m.defines → IsTrue (has o i)
      each i l = stands_all (left_out (length m.defines) o)
        where
          stands_all : ((j : ℕ) → j < length m.defines → IsTrue (has o j)) ⊎ ((j : ℕ) × (j < length m.defines) × (has o j ≡ false)) → IsTrue (has o i)
          stands_all (inl q) = q i l
          stands_all (inr r) = absurd (omega (arith, all_there, crowded r.0 r.1 r.2))
            where
              crowded : (j : ℕ) → j < length m.defines → has o j ≡ false → length o + 1 ≤ length m.defines
              crowded j l e = omega (arith, length-append o (j ∷ []), length_of_different (o ++ j ∷ []) (length m.defines) (all_different-push o j w.different e) (λ k h. below k (has o k) (j == k) refl refl (sym (has-push o j k) ∙ h)))
                where
                  below : (k : ℕ) (b c : Bool) → has o k ≡ b → (j == k) ≡ c → IsTrue (has o k || (j == k)) → k < length m.defines
                  below k true c p q h = let s = stands o k p in subst (λ (z : ℕ). z < length m.defines) s.is (in_range s.place s.within)
                  below k false true p q h = subst (λ (z : ℕ). z < length m.defines) (same_number j k q) l
                  below k false false p q h = let no : IsTrue (false || false) = subst (λ (z : Bool). IsTrue (false || z)) q (subst (λ (z : Bool). IsTrue (z || (j == k))) p h) in cc

  -- what is cited by an expression is cited by the expression renumbered
  pub cited_on : (e : Expr) → IsTrue (cites m e) → IsTrue (cites (ordered m) (renumbered o e))
  cited_on e = renumbered_cites m (ordered m) o (λ x h. same_symbol x h) refl new_places e
    where
      same_symbol : (x : Value) → IsTrue (is_symbol m x) → IsTrue (is_symbol (ordered m) x)
      same_symbol (v.Bool b) h = h
      same_symbol (v.Int n) h = h
      same_symbol (v.Sym i) h = h

  conditions_are : conditions_of (ordered m) ≡ map (renumbered o) (conditions_of m)
  conditions_are = five (renumbered o) m.inits m.invars m.trans m.fair m.specs

  assignments_are : assignments_of (ordered m) ≡ map (with_assigned (renumbered o)) (assignments_of m)
  assignments_are = three (with_assigned (renumbered o)) m.nows m.firsts m.nexts

  abbrev assigns_in : Model → Assign → Bool
  assigns_in n a = nat_lt a.var (length n.vars) && cites n a.body

  abbrev shallow : Expr → Bool
  shallow e = nat_le (depth e) 1000001

  still_shallow : (e : Expr) → IsTrue (shallow e) → IsTrue (shallow (renumbered o e))
  still_shallow e h = subst (λ (k : ℕ). IsTrue (nat_le k 1000001)) (sym (same_depth o e)) h

  names_are : (xs : List ℕ) → ((k : ℕ) → k < length xs → get_or xs k 0 < length m.defines) → map (λ (d : Define). d.name) (flat_map (placed o m.defines) xs) ≡ map (λ i. get_or (map (λ (d : Define). d.name) m.defines) i 0) xs
  names_are [] t = refl
  names_are (i ∷ xs) t =
      let d = some_at m.defines i (t 0 (omega arith)) in
      ap (λ (z : Option Define). map (λ (d : Define). d.name) (option_map_or (λ (d : Define). with_body (renumbered o) d ∷ []) z [] ++ flat_map (placed o m.defines) xs)) d.1
      ∙ ap (λ (n : ℕ). n ∷ map (λ (d : Define). d.name) (flat_map (placed o m.defines) xs)) (sym (name_at m.defines i d.0 d.1))
      ∙ ap (λ (ns : List ℕ). get_or (map (λ (d : Define). d.name) m.defines) i 0 ∷ ns) (names_are xs (λ k h. t (suc k) (omega arith)))
    where
      name_at : (ds : List Define) (i : ℕ) (d : Define) → slice_get ds i ≡ Some d → get_or (map (λ (d : Define). d.name) ds) i 0 ≡ d.name
      name_at [] i d e = cc
      name_at (x ∷ ds) zero d e = let h : x ≡ d = cc in ap (λ (z : Define). z.name) h
      name_at (x ∷ ds) (suc i) d e = name_at ds i d e

  abbrev var_names : List ℕ
  var_names = map (λ (x : Var). x.name) m.vars

  abbrev define_names : List ℕ
  define_names = map (λ (d : Define). d.name) m.defines

  flat_names_are : flat_names (ordered m) ≡ var_names ++ map (λ i. get_or define_names i 0) o
  flat_names_are = ap (λ (ns : List ℕ). var_names ++ ns) (names_are o in_range)

  -- the model in order is flat
  pub flat_kept : IsFlat (ordered m)
  flat_kept =
      let deep = below_greatest 1000001 (map depth (expressions m)) f.shallow in
      let tested : IsTrue (list_all shallow (expressions m)) = mapped_all (λ k. nat_le k 1000001) depth (expressions m) deep in
      let t2 = all_parts shallow (map (λ (d : Define). d.body) m.defines ++ conditions_of m) (map (λ (a : Assign). a.body) (assignments_of m)) tested in
      let t1 = all_parts shallow (map (λ (d : Define). d.body) m.defines) (conditions_of m) t2.0 in
      let bodies_in : IsTrue (list_all (λ (d : Define). shallow d.body) m.defines) = mapped_all shallow (λ (d : Define). d.body) m.defines t1.0 in
      let assigns_shallow : IsTrue (list_all (λ (a : Assign). shallow a.body) (assignments_of m)) = mapped_all shallow (λ (a : Assign). a.body) (assignments_of m) t2.1 in
      let new_bodies : IsTrue (list_all shallow (map (λ (d : Define). d.body) (ordered m).defines))
      = map_all_same shallow (λ (d : Define). d.body) (λ (d : Define). shallow d.body) (λ d h. h) (ordered m).defines
      (all_placed_pass o m.defines (λ (d : Define). shallow d.body) (λ (d : Define). shallow d.body) (λ d h. still_shallow d.body h) bodies_in o) in
      let new_conditions : IsTrue (list_all shallow (conditions_of (ordered m)))
      = subst (λ (es : List Expr). IsTrue (list_all shallow es)) (sym conditions_are) (map_all shallow shallow (renumbered o) still_shallow (conditions_of m) t1.1) in
      let new_assigns : IsTrue (list_all shallow (map (λ (a : Assign). a.body) (assignments_of (ordered m))))
      = map_all_same shallow (λ (a : Assign). a.body) (λ (a : Assign). shallow a.body) (λ a h. h) (assignments_of (ordered m))
      (subst (λ (xs : List Assign). IsTrue (list_all (λ (a : Assign). shallow a.body) xs)) (sym assignments_are)
      (map_all (λ (a : Assign). shallow a.body) (λ (a : Assign). shallow a.body) (with_assigned (renumbered o)) (λ a h. still_shallow a.body h) (assignments_of m) assigns_shallow)) in
      record {
        conditions = subst (λ (es : List Expr). IsTrue (all_cite (ordered m) es)) (sym conditions_are) (map_all (cites m) (cites (ordered m)) (renumbered o) cited_on (conditions_of m) f.conditions);
        bodies = all_placed_pass o m.defines (λ (d : Define). cites m d.body) (λ (d : Define). cites (ordered m) d.body) (λ d h. cited_on d.body h) f.bodies o;
        assigned = subst (λ (xs : List Assign). IsTrue (assigns_cite (ordered m) xs)) (sym assignments_are)
            (map_all (assigns_in m) (assigns_in (ordered m)) (with_assigned (renumbered o))
            (λ a h. let s = and_split (nat_lt a.var (length m.vars)) (cites m a.body) h in and_join (nat_lt a.var (length m.vars)) (cites (ordered m) (renumbered o a.body)) s.0 (cited_on a.body s.1))
            (assignments_of m) f.assigned);
        symbols = f.symbols;
        names = subst (λ (ns : List ℕ). IsTrue (list_all (has_name (ordered m)) ns)) (sym flat_names_are)
            (let s = all_parts (has_name m) var_names define_names f.names in
            all_both (has_name m) var_names (map (λ i. get_or define_names i 0) o) s.0 (named define_names s.1 o (λ k l. omega (arith, in_range k l, length-map (λ (d : Define). d.name) m.defines))));
        different = subst (λ (ns : List ℕ). IsTrue (all_different ns)) (sym flat_names_are)
            (picked_different var_names define_names o f.different w.different (λ k l. omega (arith, in_range k l, length-map (λ (d : Define). d.name) m.defines)));
        values = f.values;
        few_defines = omega (arith, same_number_of, f.few_defines);
        few_parts = omega (arith, ap (λ (es : List Expr). length es) conditions_are, length-map (renumbered o) (conditions_of m), ap (λ (xs : List Assign). length xs) assignments_are, length-map (with_assigned (renumbered o)) (assignments_of m), f.few_parts);
        shallow = greatest_from 1000001 (map depth (expressions (ordered m)))
            (map_all_same (λ k. nat_le k 1000001) depth shallow (λ e h. h) (expressions (ordered m))
            (all_both shallow (map (λ (d : Define). d.body) (ordered m).defines ++ conditions_of (ordered m)) (map (λ (a : Assign). a.body) (assignments_of (ordered m)))
            (all_both shallow (map (λ (d : Define). d.body) (ordered m).defines) (conditions_of (ordered m)) new_bodies new_conditions) new_assigns));
      }
    where
      name_of_place : (ns : List ℕ) (i : ℕ) → i < length ns → IsTrue (list_all (has_name m) ns) → IsTrue (has_name m (get_or ns i 0))
      name_of_place [] i l h = absurd (omega arith)
      name_of_place (x ∷ ns) zero l h = (and_split (has_name m x) (list_all (has_name m) ns) h).0
      name_of_place (x ∷ ns) (suc i) l h = name_of_place ns i (omega arith) (and_split (has_name m x) (list_all (has_name m) ns) h).1

      named : (ns : List ℕ) → IsTrue (list_all (has_name m) ns) → (xs : List ℕ) → ((k : ℕ) → k < length xs → get_or xs k 0 < length ns) → IsTrue (list_all (has_name m) (map (λ i. get_or ns i 0) xs))
      named ns h [] t = refl
      named ns h (i ∷ xs) t = and_join (has_name m (get_or ns i 0)) (list_all (has_name m) (map (λ i. get_or ns i 0) xs)) (name_of_place ns i (t 0 (omega arith)) h) (named ns h xs (λ k l. t (suc k) (omega arith)))
