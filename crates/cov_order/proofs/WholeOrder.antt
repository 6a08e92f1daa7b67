-- A flat model in which no DEFINE reads itself, put in order: all DEFINEs are placed, it is flat, and it is in order.
use Rattle.std.proofs.Common.{◌≡◌, ℕ, zero, suc, ◌+◌, ◌<◌, ◌≤◌, Bool, true, false, not, ◌&&◌, cond, IsTrue, inl, inr, List, [], ◌∷◌, ◌++◌, map, length, get_or, take, Option, Some, None, refl, sym, ap, subst, ◌∙◌, arith, zero-add}
use Rattle.std.specs.Prelude.{◌==◌, slice_get, unwrap_or, nat_lt, position, option_map}
use Rattle.std.specs.List.{list_all, flat_map}
use Rattle.std.specs.Option.{option_map_or}
use Rattle.std.proofs.lemmas.Grind.{flat_map-append}
use Rattle.cov_syntax.specs.declared.tree.Expr.{Expr}
use Rattle.cov_model.specs.declared.model.Define.{Define}
use Rattle.cov_model.specs.declared.model.Assign.{Assign}
use Rattle.cov_model.specs.declared.model.Model.{Model}
use Rattle.cov_model.specs.Order.{Reads, reads, reads_of, read_by, has, leads_to, next_define, dependence, place_in, renumbered, with_body, with_assigned, in_order, ordered}
use Rattle.cov_model.specs.WellFormed.{all_different, cites, all_cite, assigns_cite}
use Rattle.cov_model.specs.Flat.{conditions_of, assignments_of}
use Rattle.cov_model.proofs.Joins.{or_left, or_right, or_case}
use Rattle.cov_model.proofs.Joined.{and_split, and_join}
use Rattle.std.proofs.lemmas.Map.Steps.{le-length_from_below}
use Rattle.cov_order.specs.Reach.{are_there}
use Rattle.cov_order.proofs.Numbers.{same_number, same_self, length_of_different, any_swapped}
use Rattle.cov_order.proofs.Leading.{stands, has_at}
use Rattle.cov_order.proofs.Places.{position-cons}
use Rattle.cov_order.proofs.Ordering.{IsSound, dependence_sound, dependence_done, walk_start, left_out, reads_earlier, Earlier}
use Rattle.cov_order.proofs.InPlace.{IsBackward, upto, place_in-upto, dependence-backward}
use Rattle.cov_order.proofs.Renumbering.{renumbered_reads, renumbered_same}
use Rattle.cov_order.proofs.Citing.{cited_reads}
use Rattle.cov_order.proofs.Gathered.{gathered}

-- ---- all are placed

pub length-reads_of : (ds : List Define) → length (reads_of ds) ≡ length ds
length-reads_of [] = refl
length-reads_of (d ∷ ds) = ap (λ (n : ℕ). suc n) (length-reads_of ds)

-- where no DEFINE reads itself, all are placed
pub all_placed : (g : Reads) → IsTrue (are_there g) → ((i : ℕ) → i < length g → leads_to (length g) g i i ≡ false) → length (dependence g) ≡ length g
all_placed g there none = elim (dependence_done g).done [ inl h ↦ h ∙ zero-add (length g) | inr h ↦ elim (left_out (length g) (dependence g)) [ inl f ↦ whole f | inr r ↦ circle h r.0 r.1 r.2 ] ]
  where
    w : IsSound g (dependence g)
    w = dependence_sound g

    below : (j : ℕ) → IsTrue (has (dependence g) j) → j < length g
    below j h = let s = stands (dependence g) j h in subst (λ (z : ℕ). z < length g) s.is (w.there s.place s.within)

    whole : ((j : ℕ) → j < length g → IsTrue (has (dependence g) j)) → length (dependence g) ≡ length g
    whole f =
        let a : length (dependence g) ≤ length g = length_of_different (dependence g) (length g) w.different below in
        let b : length g ≤ length (dependence g) = le-length_from_below (dependence g) (length g) (λ q h. any_swapped q (dependence g) ∙ f q h) in
        omega arith

    circle : next_define (dependence g) 0 g ≡ None → (j : ℕ) → j < length g → has (dependence g) j ≡ false → length (dependence g) ≡ length g
    circle h j l e =
        let c = walk_start g (dependence g) j there h l e in
        let no : true ≡ false = sym c.reads_itself ∙ none c.number c.there in
        cc

-- ---- the places

position_at : (xs : List ℕ) (p : ℕ) → IsTrue (all_different xs) → p < length xs → position (λ k. k == get_or xs p 0) xs ≡ Some p
position_at [] p d l = absurd (omega arith)
position_at (x ∷ xs) zero d l = position-cons (λ k. k == x) x xs ∙ ap (λ (b : Bool). cond b (Some 0) (option_map (λ n. 1 + n) (position (λ k. k == x) xs))) (same_self x)
position_at (x ∷ xs) (suc p) d l =
    let s = and_split (not (has xs x)) (all_different xs) d in
    position-cons (λ k. k == get_or xs p 0) x xs
    ∙ ap (λ (b : Bool). cond b (Some 0) (option_map (λ n. 1 + n) (position (λ k. k == get_or xs p 0) xs))) (other (x == get_or xs p 0) refl s.0)
    ∙ ap (option_map (λ n. 1 + n)) (position_at xs p s.1 (omega arith))
    ∙ ap (λ (k : ℕ). Some k) (next p)
  where
    next : (p : ℕ) → 1 + p ≡ suc p
    next p = omega arith

    absent : (b : Bool) → IsTrue (not b) → IsTrue b → ⊥
    absent true n y = cc
    absent false n y = cc

    other : (b : Bool) → (x == get_or xs p 0) ≡ b → IsTrue (not (has xs x)) → (x == get_or xs p 0) ≡ false
    other false e n = e
    other true e n = absurd (absent (has xs x) n (subst (λ (z : ℕ). IsTrue (has xs z)) (sym (same_number x (get_or xs p 0) e)) (has_at xs p (omega arith))))

pub place_in_at : (xs : List ℕ) (p : ℕ) → IsTrue (all_different xs) → p < length xs → place_in xs (get_or xs p 0) ≡ p
place_in_at xs p d l = ap (λ (o : Option ℕ). unwrap_or o 0) (position_at xs p d l)

-- ---- the DEFINEs in order

pub some_at : {A : Type 0} (xs : List A) (i : ℕ) → i < length xs → (x : A) × (slice_get xs i ≡ Some x)
some_at [] i h = absurd (omega arith)
some_at (x ∷ xs) zero h = (x, refl)
some_at (x ∷ xs) (suc i) h = some_at xs i (omega arith)

module _ (order : List ℕ) (ds : List Define) where
  -- the DEFINE of a place, renumbered
  abbrev pub placed : ℕ → List Define
  placed i = option_map_or (λ (d : Define). with_body (renumbered order) d ∷ []) (slice_get ds i) []

  abbrev pub AllThere : List ℕ → Type 0
  AllThere o = (k : ℕ) → k < length o → get_or o k 0 < length ds

  rest_there : (i : ℕ) (o : List ℕ) → AllThere (i ∷ o) → AllThere o
  rest_there i o t k h = t (suc k) (omega arith)

  -- the k-th of them
  at_place : (o : List ℕ) (k : ℕ) (d : Define) → AllThere o → k < length o → slice_get ds (get_or o k 0) ≡ Some d → slice_get (flat_map placed o) k ≡ Some (with_body (renumbered order) d)
  at_place [] k d t h e = absurd (omega arith)
  at_place (i ∷ o) zero d t h e = ap (λ (z : Option Define). slice_get (option_map_or (λ (d : Define). with_body (renumbered order) d ∷ []) z [] ++ flat_map placed o) 0) e
  at_place (i ∷ o) (suc k) d t h e =
      let r = some_at ds i (t 0 (omega arith)) in
      ap (λ (z : Option Define). slice_get (option_map_or (λ (d : Define). with_body (renumbered order) d ∷ []) z [] ++ flat_map placed o) (suc k)) r.1
      ∙ at_place o k d (rest_there i o t) (omega arith) e

  pub as_long : (o : List ℕ) → AllThere o → length (flat_map placed o) ≡ length o
  as_long [] t = refl
  as_long (i ∷ o) t =
      let r = some_at ds i (t 0 (omega arith)) in
      ap (λ (z : Option Define). length (option_map_or (λ (d : Define). with_body (renumbered order) d ∷ []) z [] ++ flat_map placed o)) r.1
      ∙ ap (λ (n : ℕ). suc n) (as_long o (rest_there i o t))

  -- what holds of each DEFINE with its body renumbered holds of each in order
  pub all_placed_pass : (p q : Define → Bool) → ((d : Define) → IsTrue (p d) → IsTrue (q (with_body (renumbered order) d))) → IsTrue (list_all p ds) → (o : List ℕ) → IsTrue (list_all q (flat_map placed o))
  all_placed_pass p q f a [] = refl
  all_placed_pass p q f a (i ∷ o) = by (slice_get ds i) refl (all_placed_pass p q f a o)
    where
      pass : (es : List Define) (i : ℕ) (d : Define) → IsTrue (list_all p es) → slice_get es i ≡ Some d → IsTrue (p d)
      pass [] i d a e = cc
      pass (e ∷ es) zero d a h = let s : e ≡ d = cc in subst (λ (z : Define). IsTrue (p z)) s (and_split (p e) (list_all p es) a).0
      pass (e ∷ es) (suc i) d a h = pass es i d (and_split (p e) (list_all p es) a).1 h

      by : (z : Option Define) → slice_get ds i ≡ z → IsTrue (list_all q (flat_map placed o)) → IsTrue (list_all q (option_map_or (λ (d : Define). with_body (renumbered order) d ∷ []) z [] ++ flat_map placed o))
      by None e r = r
      by (Some d) e r = and_join (q (with_body (renumbered order) d)) (list_all q (flat_map placed o)) (f d (pass ds i d a e)) r

-- what a DEFINE at a place reads
read_at : (ds : List Define) (k : ℕ) (d : Define) → slice_get ds k ≡ Some d → read_by (reads_of ds) k ≡ reads d.body
read_at [] k d g = cc
read_at (e ∷ ds) zero d g = let h : e ≡ d = cc in ap (λ (z : Define). reads z.body) h
read_at (e ∷ ds) (suc k) d g = read_at ds k d g

nothing_past : (g : Reads) (k j : ℕ) → length g ≤ k → IsTrue (has (read_by g k) j) → ⊥
nothing_past [] k j h r = cc
nothing_past (js ∷ g) zero j h r = omega arith
nothing_past (js ∷ g) (suc k) j h r = nothing_past g k j (omega arith) r

-- a number of a list whose numbers are mapped
mapped : (f : ℕ → ℕ) (xs : List ℕ) (j : ℕ) → IsTrue (has (map f xs) j) → (i : ℕ) × IsTrue (has xs i) × (f i ≡ j)
mapped f [] j h = cc
mapped f (x ∷ xs) j h = elim (or_case (f x == j) (has (map f xs) j) h) [
  | inl e ↦ (x, or_left (x == x) (has xs x) (same_self x), same_number (f x) j e)
  | inr r ↦ let s = mapped f xs j r in (s.0, or_right (x == s.0) (has xs s.0) s.1, s.2)
]

-- in order, each DEFINE reads only those before it
pub in_order_backward : (ds : List Define) → IsBackward (reads_of (in_order (dependence (reads_of ds)) ds))
in_order_backward ds k j h = by (nat_lt k (length o)) refl
  where
    g : Reads
    g = reads_of ds

    o : List ℕ
    o = dependence g

    w : IsSound g o
    w = dependence_sound g

    there : (i : ℕ) → i < length o → get_or o i 0 < length ds
    there i l = omega (arith, w.there i l, length-reads_of ds)

    es : List Define
    es = in_order o ds

    long : length (reads_of es) ≡ length o
    long = length-reads_of es ∙ as_long o ds o there

    by : (b : Bool) → nat_lt k (length o) ≡ b → j < k
    by false e = let past : length o ≤ k = grind arith in absurd (nothing_past (reads_of es) k j (omega (arith, long, past)) h)
    by true e =
        let l : k < length o = grind arith in
        let d = some_at ds (get_or o k 0) (there k l) in
        let reads_are : read_by (reads_of es) k ≡ map (place_in o) (read_by g (get_or o k 0))
        = read_at es k (with_body (renumbered o) d.0) (at_place o ds o k d.0 there l d.1) ∙ renumbered_reads o d.0.body ∙ ap (map (place_in o)) (sym (read_at ds (get_or o k 0) d.0 d.1)) in
        let s = mapped (place_in o) (read_by g (get_or o k 0)) j (subst (λ (xs : List ℕ). IsTrue (has xs j)) reads_are h) in
        let f : Earlier o k s.0 = reads_earlier g o w k s.0 l s.1 in
        let p : f.place ≡ j = sym (place_in_at o f.place w.different (omega (arith, f.earlier, l))) ∙ ap (place_in o) f.is ∙ s.2 in
        omega (arith, f.earlier, p)

-- ---- a model in order is its own order

abbrev AllBelow : ℕ → Expr → Type 0
AllBelow n e = (j : ℕ) → IsTrue (has (reads e) j) → j < n

stays : (n : ℕ) (e : Expr) → AllBelow n e → renumbered (upto n) e ≡ e
stays n e b = renumbered_same (upto n) e (λ j h. place_in-upto n j (b j h))

all_stay : (m : Model) (es : List Expr) → IsTrue (all_cite m es) → map (renumbered (upto (length m.defines))) es ≡ es
all_stay m [] c = refl
all_stay m (e ∷ es) c =
    let s = and_split (cites m e) (all_cite m es) c in
    ap (λ (f : Expr). f ∷ map (renumbered (upto (length m.defines))) es) (stays (length m.defines) e (cited_reads m e s.0))
    ∙ ap (λ (fs : List Expr). e ∷ fs) (all_stay m es s.1)

assigns_stay : (m : Model) (xs : List Assign) → IsTrue (assigns_cite m xs) → map (with_assigned (renumbered (upto (length m.defines)))) xs ≡ xs
assigns_stay m [] c = refl
assigns_stay m (a ∷ xs) c =
    let s = and_split (nat_lt a.var (length m.vars) && cites m a.body) (assigns_cite m xs) c in
    let t = and_split (nat_lt a.var (length m.vars)) (cites m a.body) s.0 in
    ap (λ (f : Expr). let b : Assign = record a { body = f } in b ∷ map (with_assigned (renumbered (upto (length m.defines)))) xs) (stays (length m.defines) a.body (cited_reads m a.body t.1))
    ∙ ap (λ (ys : List Assign). a ∷ ys) (assigns_stay m xs s.1)

take_more : {A : Type 0} (xs : List A) (n : ℕ) (x : A) → slice_get xs n ≡ Some x → take (suc n) xs ≡ take n xs ++ x ∷ []
take_more [] n x e = cc
take_more (y ∷ ys) zero x e = let s : y ≡ x = cc in ap (λ (z : _). z ∷ []) s
take_more (y ∷ ys) (suc n) x e = ap (λ (zs : List _). y ∷ zs) (take_more ys n x e)

take_whole : {A : Type 0} (xs : List A) → take (length xs) xs ≡ xs
take_whole [] = refl
take_whole (x ∷ xs) = ap (λ (ys : List _). x ∷ ys) (take_whole xs)

body_cited : (m : Model) (ds : List Define) (k : ℕ) (d : Define) → IsTrue (list_all (λ (d : Define). cites m d.body) ds) → slice_get ds k ≡ Some d → IsTrue (cites m d.body)
body_cited m [] k d a e = cc
body_cited m (x ∷ ds) zero d a e = let s : x ≡ d = cc in subst (λ (z : Define). IsTrue (cites m z.body)) s (and_split (cites m x.body) (list_all (λ (d : Define). cites m d.body) ds) a).0
body_cited m (x ∷ ds) (suc k) d a e = body_cited m ds k d (and_split (cites m x.body) (list_all (λ (d : Define). cites m d.body) ds) a).1 e

defines_stay : (m : Model) → IsTrue (list_all (λ (d : Define). cites m d.body) m.defines) → (n : ℕ) → n ≤ length m.defines
    → flat_map (placed (upto (length m.defines)) m.defines) (upto n) ≡ take n m.defines
defines_stay m c zero l = refl
defines_stay m c (suc n) l =
    let all : List ℕ = upto (length m.defines) in
    let ds : List Define = m.defines in
    let d = some_at ds n (omega arith) in
    let same : with_body (renumbered all) d.0 ≡ d.0 = ap (λ (f : Expr). let b : Define = record (d.0) { body = f } in b) (stays (length ds) d.0.body (cited_reads m d.0.body (body_cited m ds n d.0 c d.1))) in
    flat_map-append (placed all ds) (upto n) (n ∷ [])
    ∙ ap (λ (es : List Define). es ++ flat_map (placed all ds) (n ∷ [])) (defines_stay m c n (omega arith))
    ∙ ap (λ (z : Option Define). take n ds ++ (option_map_or (λ (d : Define). with_body (renumbered all) d ∷ []) z [] ++ [])) d.1
    ∙ ap (λ (e : Define). take n ds ++ e ∷ []) same
    ∙ sym (take_more ds n d.0 d.1)

all_left : {A : Type 0} (p : A → Bool) (xs ys : List A) → IsTrue (list_all p (xs ++ ys)) → IsTrue (list_all p xs) × IsTrue (list_all p ys)
all_left p [] ys h = (refl, h)
all_left p (x ∷ xs) ys h = let s = and_split (p x) (list_all p (xs ++ ys)) h in let t = all_left p xs ys s.1 in (and_join (p x) (list_all p xs) s.0 t.0, t.1)

-- a model whose DEFINEs read only those before them, and which cites only what is there, is its own order
pub ordered_itself : (m : Model) → IsBackward (reads_of m.defines) → IsTrue (all_cite m (conditions_of m)) → IsTrue (list_all (λ (d : Define). cites m d.body) m.defines) → IsTrue (assigns_cite m (assignments_of m)) → ordered m ≡ m
ordered_itself m b conditions bodies assigned =
    let n : ℕ = length m.defines in
    let g : Reads = reads_of m.defines in
    let o : dependence g ≡ upto n = dependence-backward g b ∙ ap upto (length-reads_of m.defines) in
    let all : List Expr → List ℕ → List Expr = λ (es : List Expr) (order : List ℕ). map (renumbered order) es in
    let given : List Assign → List ℕ → List Assign = λ (xs : List Assign) (order : List ℕ). map (with_assigned (renumbered order)) xs in
    let c4 = all_left (cites m) (((m.inits ++ m.invars) ++ m.trans) ++ m.fair) m.specs conditions in
    let c3 = all_left (cites m) ((m.inits ++ m.invars) ++ m.trans) m.fair c4.0 in
    let c2 = all_left (cites m) (m.inits ++ m.invars) m.trans c3.0 in
    let c1 = all_left (cites m) m.inits m.invars c2.0 in
    let assigns : Assign → Bool = λ (a : Assign). nat_lt a.var (length m.vars) && cites m a.body in
    let a2 = all_left assigns (m.nows ++ m.firsts) m.nexts assigned in
    let a1 = all_left assigns m.nows m.firsts a2.0 in
    gathered m (in_order (dependence g) m.defines) m.defines
    (all m.inits (dependence g)) m.inits (all m.invars (dependence g)) m.invars
    (given m.nows (dependence g)) m.nows (given m.firsts (dependence g)) m.firsts (given m.nexts (dependence g)) m.nexts
    (all m.trans (dependence g)) m.trans (all m.fair (dependence g)) m.fair (all m.specs (dependence g)) m.specs
    (ap (λ (order : List ℕ). in_order order m.defines) o ∙ defines_stay m bodies n (omega arith) ∙ take_whole m.defines)
    (ap (all m.inits) o ∙ all_stay m m.inits c1.0)
    (ap (all m.invars) o ∙ all_stay m m.invars c1.1)
    (ap (given m.nows) o ∙ assigns_stay m m.nows a1.0)
    (ap (given m.firsts) o ∙ assigns_stay m m.firsts a1.1)
    (ap (given m.nexts) o ∙ assigns_stay m m.nexts a2.1)
    (ap (all m.trans) o ∙ all_stay m m.trans c2.1)
    (ap (all m.fair) o ∙ all_stay m m.fair c3.1)
    (ap (all m.specs) o ∙ all_stay m m.specs c4.1)
