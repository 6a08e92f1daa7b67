-- In a well-formed model each DEFINE reads only those before it.
use Rattle.std.proofs.Common.{◌≡◌, ℕ, zero, suc, ◌+◌, ◌<◌, ◌≤◌, Bool, true, false, not, ◌&&◌, ◌||◌, if◌then◌else◌, IsTrue, ◌⊎◌, inl, inr, List, [], ◌∷◌, ◌++◌, map, length, get_or, Option, Some, None, refl, sym, ap, subst, ◌∙◌, arith, zero-add, append-nil, append_assoc}
use Rattle.std.specs.Prelude.{slice_get, unwrap_or, ◌==◌}
use Rattle.std.specs.List.{list_any, list_all, flat_map}
use Rattle.std.specs.Option.{option_map_or}
use Rattle.std.proofs.lemmas.Option.{slice_get_within}
use Rattle.cov_syntax.specs.declared.tree.Expr.{Expr}
use Rattle.cov_model.specs.declared.model.Var.{Var}
use Rattle.cov_model.specs.declared.model.Define.{Define}
use Rattle.cov_model.specs.declared.model.Model.{Model}
use Rattle.cov_model.specs.Order.{Reads, reads, reads_of, read_by, has, next_define, placed_after, dependence, renumbered, with_body, in_order, ordered}
use Rattle.cov_model.specs.WellFormed.{all_different, flat_names}
use Rattle.cov_model.proofs.Joined.{and_split}
use Rattle.cov_model.proofs.Joins.{or_left, or_right, or_case}

-- ---- what is placed

-- each place is there, and what it reads is placed before it
abbrev Placed : Reads → List ℕ → List ℕ → Type 0
Placed g before [] = Unit {0}
Placed g before (i ∷ o) = (i < length g) × IsTrue (list_all (has before) (read_by g i)) × Placed g (before ++ i ∷ []) o

placed_last : (g : Reads) (before o : List ℕ) (i : ℕ) → Placed g before o → i < length g → IsTrue (list_all (has (before ++ o)) (read_by g i)) → Placed g before (o ++ i ∷ [])
placed_last g before [] i p l r = (l, subst (λ (xs : List ℕ). IsTrue (list_all (has xs) (read_by g i))) (append-nil before) r, tt)
placed_last g before (j ∷ o) i p l r = (p.0, p.1, placed_last g (before ++ j ∷ []) o i p.2 l (subst (λ (xs : List ℕ). IsTrue (list_all (has xs) (read_by g i))) (sym (append_assoc before (j ∷ []) o)) r))

-- what is placed next
record Next (placed : List ℕ) (n : ℕ) (g : Reads) (i : ℕ) : Type 0 where
  offset : ℕ
  is : i ≡ n + offset
  there : offset < length g
  ready : IsTrue (list_all (has placed) (read_by g offset))

here : (n i : ℕ) → Some n ≡ Some i → i ≡ n + 0
here n i h = let k : n ≡ i = cc in omega (arith, k)

next_found : (placed : List ℕ) (n : ℕ) (g : Reads) (i : ℕ) → next_define placed n g ≡ Some i → Next placed n g i
next_found placed n [] i h = cc
next_found placed n (js ∷ g) i h = by (not (has placed n) && list_all (has placed) js) refl h (next_found placed (n + 1) g i)
  where
    by : (b : Bool) → (not (has placed n) && list_all (has placed) js) ≡ b → (if b then Some n else next_define placed (n + 1) g) ≡ Some i
        → (next_define placed (n + 1) g ≡ Some i → Next placed (n + 1) g i) → Next placed n (js ∷ g) i
    by true e h f = record { offset = 0; is = here n i h; there = omega arith; ready = (and_split (not (has placed n)) (list_all (has placed) js) e).1 }
    by false e h f = let r = f h in record { offset = suc r.offset; is = omega (arith, r.is); there = omega (arith, r.there); ready = r.ready }

all_placed : (more : ℕ) (g : Reads) (placed : List ℕ) → Placed g [] placed → Placed g [] (placed_after more g placed)
all_placed zero g placed p = p
all_placed (suc more) g placed p = by (next_define placed 0 g) refl (λ i q. all_placed more g (placed ++ i ∷ []) q)
  where
    by : (o : Option ℕ) → next_define placed 0 g ≡ o → ((i : ℕ) → Placed g [] (placed ++ i ∷ []) → Placed g [] (placed_after more g (placed ++ i ∷ [])))
        → Placed g [] (elim o [ None ↦ placed | Some i ↦ placed_after more g (placed ++ i ∷ []) ])
    by None e f = p
    by (Some i) e f = let r = next_found placed 0 g i e in let s : r.offset ≡ i = omega (arith, r.is) in
        f i (placed_last g [] placed i p (omega (arith, r.there, s)) (subst (λ (k : ℕ). IsTrue (list_all (has placed) (read_by g k))) s r.ready))

-- ---- the order is that of the model

-- different names have one place each
name_at : (i : ℕ) (is : List ℕ) (k : ℕ) → IsTrue (not (list_any (λ j. j == i) is)) → k < length is → get_or is k 0 ≡ i → ⊥
name_at i [] k h l e = omega arith
name_at i (j ∷ is) zero h l e = by (j == i) refl h
  where
    by : (b : Bool) → (j == i) ≡ b → IsTrue (not (b || list_any (λ k. k == i) is)) → ⊥
    by true f h = cc
    by false f h = grind arith
name_at i (j ∷ is) (suc k) h l e = name_at i is k (rest (j == i) (list_any (λ k. k == i) is) h) (omega arith) e
  where
    rest : (a b : Bool) → IsTrue (not (a || b)) → IsTrue (not b)
    rest true b h = cc
    rest false b h = h

one_place : (is : List ℕ) (i j : ℕ) → IsTrue (all_different is) → i < length is → j < length is → get_or is i 0 ≡ get_or is j 0 → i ≡ j
one_place [] i j d h k e = absurd (omega arith)
one_place (x ∷ xs) zero zero d h k e = refl
one_place (x ∷ xs) zero (suc j) d h k e = absurd (name_at x xs j (and_split (not (list_any (λ j. j == x) xs)) (all_different xs) d).0 (omega arith) (sym e))
one_place (x ∷ xs) (suc i) zero d h k e = absurd (name_at x xs i (and_split (not (list_any (λ j. j == x) xs)) (all_different xs) d).0 (omega arith) e)
one_place (x ∷ xs) (suc i) (suc j) d h k e = ap (λ (n : ℕ). suc n) (one_place xs i j (and_split (not (list_any (λ j. j == x) xs)) (all_different xs) d).1 (omega arith) (omega arith) e)

different_right : (xs ys : List ℕ) → IsTrue (all_different (xs ++ ys)) → IsTrue (all_different ys)
different_right [] ys d = d
different_right (x ∷ xs) ys d = different_right xs ys (and_split (not (list_any (λ j. j == x) (xs ++ ys))) (all_different (xs ++ ys)) d).1

abbrev pub names : List Define → List ℕ
names ds = map (λ (d : Define). d.name) ds

name_of : (ds : List Define) (i : ℕ) (d : Define) → slice_get ds i ≡ Some d → get_or (names ds) i 0 ≡ d.name
name_of [] i d g = cc
name_of (e ∷ ds) zero d g = let h : e ≡ d = cc in ap (λ (z : Define). z.name) h
name_of (e ∷ ds) (suc i) d g = name_of ds i d g

some_at : {A : Type 0} (xs : List A) (i : ℕ) → i < length xs → (x : A) × (slice_get xs i ≡ Some x)
some_at [] i h = absurd (omega arith)
some_at (x ∷ xs) zero h = (x, refl)
some_at (x ∷ xs) (suc i) h = some_at xs i (omega arith)

names_in_order : (order : List ℕ) (ds : List Define) (o : List ℕ) (g : Reads) (before : List ℕ) → length g ≡ length ds → Placed g before o
    → names (flat_map (λ i. option_map_or (λ (d : Define). with_body (renumbered order) d ∷ []) (slice_get ds i) []) o) ≡ map (λ i. get_or (names ds) i 0) o
names_in_order order ds [] g before l p = refl
names_in_order order ds (i ∷ o) g before l p =
    let d = some_at ds i (omega (arith, p.0, l)) in
    let rest : List Define = flat_map (λ i. option_map_or (λ (d : Define). with_body (renumbered order) d ∷ []) (slice_get ds i) []) o in
    ap (λ (z : Option Define). names (option_map_or (λ (d : Define). with_body (renumbered order) d ∷ []) z [] ++ rest)) d.1
    ∙ ap (λ (n : ℕ). n ∷ names rest) (sym (name_of ds i d.0 d.1))
    ∙ ap (λ (ns : List ℕ). get_or (names ds) i 0 ∷ ns) (names_in_order order ds o g (before ++ i ∷ []) l p.2)

length_map : (f : ℕ → ℕ) (xs : List ℕ) → length (map f xs) ≡ length xs
length_map f [] = refl
length_map f (x ∷ xs) = ap (λ (n : ℕ). suc n) (length_map f xs)

get_map : (f : ℕ → ℕ) (xs : List ℕ) (k : ℕ) → k < length xs → get_or (map f xs) k 0 ≡ f (get_or xs k 0)
get_map f [] k h = absurd (omega arith)
get_map f (x ∷ xs) zero h = refl
get_map f (x ∷ xs) (suc k) h = get_map f xs k (omega arith)

placed_there : (g : Reads) (before o : List ℕ) (k : ℕ) → Placed g before o → k < length o → get_or o k 0 < length g
placed_there g before [] k p h = absurd (omega arith)
placed_there g before (i ∷ o) zero p h = p.0
placed_there g before (i ∷ o) (suc k) p h = placed_there g (before ++ i ∷ []) o k p.2 (omega arith)

length_names : (ds : List Define) → length (names ds) ≡ length ds
length_names [] = refl
length_names (d ∷ ds) = ap (λ (n : ℕ). suc n) (length_names ds)

length_reads : (ds : List Define) → length (reads_of ds) ≡ length ds
length_reads [] = refl
length_reads (d ∷ ds) = ap (λ (n : ℕ). suc n) (length_reads ds)

-- ---- each reads those before it

has_both : (xs ys : List ℕ) (j : ℕ) → IsTrue (has (xs ++ ys) j) → IsTrue (has xs j) ⊎ IsTrue (has ys j)
has_both [] ys j h = inr h
has_both (x ∷ xs) ys j h = elim (or_case (x == j) (has (xs ++ ys) j) h) [
  | inl k ↦ inl (or_left (x == j) (has xs j) k)
  | inr k ↦ elim (has_both xs ys j k) [ inl l ↦ inl (or_right (x == j) (has xs j) l) | inr l ↦ inr l ]
]

same_number : (i j : ℕ) → IsTrue (i == j) → i ≡ j
same_number i j h = grind arith

all_has : (before xs : List ℕ) (j : ℕ) → IsTrue (list_all (has before) xs) → IsTrue (has xs j) → IsTrue (has before j)
all_has before [] j a h = cc
all_has before (x ∷ xs) j a h = let c = and_split (has before x) (list_all (has before) xs) a in
    elim (or_case (x == j) (has xs j) h) [ inl k ↦ subst (λ (z : ℕ). IsTrue (has before z)) (same_number x j k) c.0 | inr k ↦ all_has before xs j c.1 k ]

reads_before : (g : Reads) (before o : List ℕ) (b : ℕ) → Placed g before o → ((j : ℕ) → IsTrue (has before j) → j < b) → ((k : ℕ) → k < length o → get_or o k 0 ≡ b + k)
    → (k : ℕ) → k < length o → (j : ℕ) → IsTrue (has (read_by g (b + k)) j) → j < b + k
reads_before g before [] b p below is k h j r = absurd (omega arith)
reads_before g before (i ∷ o) b p below is zero h j r =
    let e : i ≡ b + 0 = is 0 (omega arith) in
    let l : j < b = below j (all_has before (read_by g i) j p.1 (subst (λ (z : ℕ). IsTrue (has (read_by g z) j)) (sym e) r)) in
    omega arith
reads_before g before (i ∷ o) b p below is (suc k) h j r =
    let e : i ≡ b + 0 = is 0 (omega arith) in
    let q : b + suc k ≡ (b + 1) + k = omega arith in
    let l : j < (b + 1) + k = reads_before g (before ++ i ∷ []) o (b + 1) p.2
    (λ x hx. elim (has_both before (i ∷ []) x hx) [ inl m ↦ omega (arith, below x m) | inr m ↦ elim (or_case (i == x) false m) [ inl s ↦ omega (arith, same_number i x s) | inr s ↦ cc ] ])
    (λ x hx. omega (arith, is (suc x) (omega arith))) k (omega arith) j (subst (λ (z : ℕ). IsTrue (has (read_by g z) j)) q r) in
    omega arith

read_of : (ds : List Define) (k : ℕ) (d : Define) → slice_get ds k ≡ Some d → read_by (reads_of ds) k ≡ reads d.body
read_of [] k d g = cc
read_of (e ∷ ds) zero d g = let h : e ≡ d = cc in ap (λ (z : Define). reads z.body) h
read_of (e ∷ ds) (suc k) d g = read_of ds k d g

-- the order of dependence is that of the list
pub record IsItsOrder (ds : List Define) : Type 0 where
  pub as_long : length (dependence (reads_of ds)) ≡ length ds
  pub at : (i : ℕ) → i < length (dependence (reads_of ds)) → get_or (dependence (reads_of ds)) i 0 ≡ i

-- where the DEFINEs in order of dependence have the names of the list, which are different
pub its_order : (ds : List Define) → IsTrue (all_different (names ds)) → names (in_order (dependence (reads_of ds)) ds) ≡ names ds → IsItsOrder ds
its_order ds different same =
    let g : Reads = reads_of ds in
    let o : List ℕ = dependence g in
    let p : Placed g [] o = all_placed (length g) g [] tt in
    let same_names : map (λ i. get_or (names ds) i 0) o ≡ names ds = sym (names_in_order o ds o g [] (length_reads ds) p) ∙ same in
    let lengths : length o ≡ length ds = sym (length_map (λ i. get_or (names ds) i 0) o) ∙ ap length same_names ∙ length_names ds in
    record {
      as_long = lengths;
      at = λ i h. one_place (names ds) (get_or o i 0) i different
          (omega (arith, placed_there g [] o i p h, length_reads ds, length_names ds)) (omega (arith, lengths, length_names ds))
          (sym (get_map (λ i. get_or (names ds) i 0) o i h) ∙ ap (λ (ns : List ℕ). get_or ns i 0) same_names);
    }

pub different_defines : (m : Model) → IsTrue (all_different (flat_names m)) → IsTrue (all_different (names m.defines))
different_defines m d = different_right (map (λ (x : Var). x.name) m.vars) (names m.defines) d

-- then each DEFINE reads only those before it
pub reads_earlier : (ds : List Define) → IsItsOrder ds → (k : ℕ) (d : Define) → slice_get ds k ≡ Some d → (j : ℕ) → IsTrue (has (reads d.body) j) → j < k
reads_earlier ds w k d e j r =
    let g : Reads = reads_of ds in
    let o : List ℕ = dependence g in
    let p : Placed g [] o = all_placed (length g) g [] tt in
    let is : (i : ℕ) → i < length o → get_or o i 0 ≡ 0 + i = λ i h. omega (arith, w.at i h) in
    let l : j < 0 + k = reads_before g [] o 0 p (λ x h. cc) is k (omega (arith, w.as_long, slice_get_within ds k d e)) j
    (subst (λ (z : ℕ). IsTrue (has (read_by g z) j)) (sym (zero-add k)) (subst (λ (xs : List ℕ). IsTrue (has xs j)) (sym (read_of ds k d e)) r)) in
    omega arith
