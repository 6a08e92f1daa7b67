-- One more DEFINE in order of dependence.
use Rattle.std.proofs.Common.{◌≡◌, ℕ, zero, suc, ◌+◌, ◌<◌, Bool, true, false, not, ◌&&◌, ◌||◌, if◌then◌else◌, IsTrue, List, [], ◌∷◌, ◌++◌, length, take, drop, Option, Some, None, refl, sym, ap, subst, ◌∙◌, arith, add-one}
use Rattle.std.specs.Prelude.{◌==◌, slice_get, unwrap_or, replicate}
use Rattle.std.specs.List.{list_all}
use Rattle.cov_model.specs.Order.{Reads, read_by, has, next_define, placed_after}
use Rattle.cov_model.proofs.Joined.{and_split, and_join}
use Rattle.cov_order.specs.Tables.{is_ready, ArePassed}
use Rattle.cov_order.proofs.Numbers.{same_number, has-push}

pub drop_at : {A : Type 0} (xs : List A) (i : ℕ) (x : A) → slice_get xs i ≡ Some x → drop i xs ≡ x ∷ drop (suc i) xs
drop_at [] i x g = cc
drop_at (y ∷ ys) zero x g = let h : y ≡ x = cc in ap (λ (z : _). z ∷ ys) h
drop_at (y ∷ ys) (suc i) x g = drop_at ys i x g

-- ---- the search for the next one

pub next_here : (placed : List ℕ) (g : Reads) (i : ℕ) (js : List ℕ) → slice_get g i ≡ Some js → is_ready placed i js ≡ true → next_define placed i (drop i g) ≡ Some i
next_here placed g i js at ready =
    ap (next_define placed i) (drop_at g i js at)
    ∙ ap (λ (b : Bool). if b then Some i else next_define placed (i + 1) (drop (suc i) g)) ready

pub next_later : (placed : List ℕ) (g : Reads) (i : ℕ) (js : List ℕ) → slice_get g i ≡ Some js → is_ready placed i js ≡ false → next_define placed i (drop i g) ≡ next_define placed (i + 1) (drop (i + 1) g)
next_later placed g i js at ready =
    ap (next_define placed i) (drop_at g i js at)
    ∙ ap (λ (b : Bool). if b then Some i else next_define placed (i + 1) (drop (suc i) g)) ready
    ∙ ap (λ (k : ℕ). next_define placed (i + 1) (drop k g)) (sym (add-one i))

-- what is placed next
pub record IsNext (placed : List ℕ) (n : ℕ) (g : Reads) (i : ℕ) : Type 0 where
  pub offset : ℕ
  pub is : i ≡ n + offset
  pub there : offset < length g
  pub new : has placed i ≡ false
  pub ready : IsTrue (list_all (has placed) (read_by g offset))

not_there : (b : Bool) → IsTrue (not b) → b ≡ false
not_there true h = cc
not_there false h = refl

here : (n i : ℕ) → Some n ≡ Some i → i ≡ n
here n i h = cc

pub next_found : (placed : List ℕ) (n : ℕ) (g : Reads) (i : ℕ) → next_define placed n g ≡ Some i → IsNext placed n g i
next_found placed n [] i h = cc
next_found placed n (js ∷ g) i h = by (not (has placed n) && list_all (has placed) js) refl h (next_found placed (n + 1) g i)
  where
    by : (b : Bool) → (not (has placed n) && list_all (has placed) js) ≡ b → (if b then Some n else next_define placed (n + 1) g) ≡ Some i
        → (next_define placed (n + 1) g ≡ Some i → IsNext placed (n + 1) g i) → IsNext placed n (js ∷ g) i
    by true e h f =
        let s = and_split (not (has placed n)) (list_all (has placed) js) e in
        let q : i ≡ n = here n i h in
        record { offset = 0; is = omega (arith, q); there = omega arith; new = ap (has placed) q ∙ not_there (has placed n) s.0; ready = s.1 }
    by false e h f = let r = f h in record { offset = suc r.offset; is = omega (arith, r.is); there = omega (arith, r.there); new = r.new; ready = r.ready }

-- none is ready
pub next_missing : (placed : List ℕ) (n : ℕ) (g : Reads) → next_define placed n g ≡ None → (k : ℕ) → k < length g → has placed (n + k) ≡ false → list_all (has placed) (read_by g k) ≡ false
next_missing placed n [] h k l f = absurd (omega arith)
next_missing placed n (js ∷ g) h k l f = by (not (has placed n) && list_all (has placed) js) refl h (next_missing placed (n + 1) g) k l f
  where
    and_none : (a b : Bool) → a ≡ false → (not a && b) ≡ false → b ≡ false
    and_none true b e q = cc
    and_none false b e q = q

    by : (b : Bool) → (not (has placed n) && list_all (has placed) js) ≡ b → (if b then Some n else next_define placed (n + 1) g) ≡ None
        → (next_define placed (n + 1) g ≡ None → (k : ℕ) → k < length g → has placed ((n + 1) + k) ≡ false → list_all (has placed) (read_by g k) ≡ false)
        → (k : ℕ) → k < length (js ∷ g) → has placed (n + k) ≡ false → list_all (has placed) (read_by (js ∷ g) k) ≡ false
    by true e h more k l f = cc
    by false e h more zero l f = and_none (has placed n) (list_all (has placed) js) (ap (has placed) (plus n) ∙ f) e
      where
        plus : (n : ℕ) → n ≡ n + 0
        plus n = omega arith
    by false e h more (suc k) l f = more h k (omega arith) (ap (has placed) (plus n k) ∙ f)
      where
        plus : (n k : ℕ) → (n + 1) + k ≡ n + suc k
        plus n k = omega arith

-- ---- the reads that are passed

pub passed_kept : (placed old new : List ℕ) (g : Reads) (i : ℕ) (js : List ℕ) → slice_get g i ≡ Some js
    → IsTrue (list_all (has placed) (take (unwrap_or (slice_get new i) 0) js)) → ((k : ℕ) → (k ≡ i → ⊥) → slice_get new k ≡ slice_get old k)
    → ArePassed placed old g → ArePassed placed new g
passed_kept placed old new g i js at here others passed k = by (k == i) refl
  where
    reads_at : read_by g i ≡ js
    reads_at = ap (λ (o : Option (List ℕ)). unwrap_or o []) at

    apart : (k == i) ≡ false → k ≡ i → ⊥
    apart e q = grind arith

    by : (b : Bool) → (k == i) ≡ b → IsTrue (list_all (has placed) (take (unwrap_or (slice_get new k) 0) (read_by g k)))
    by true e =
        subst (λ (z : ℕ). IsTrue (list_all (has placed) (take (unwrap_or (slice_get new z) 0) (read_by g z)))) (sym (same_number k i e))
        (subst (λ (xs : List ℕ). IsTrue (list_all (has placed) (take (unwrap_or (slice_get new i) 0) xs))) (sym reads_at) here)
    by false e = subst (λ (o : Option ℕ). IsTrue (list_all (has placed) (take (unwrap_or o 0) (read_by g k)))) (sym (others k (apart e))) (passed k)

still_there : (placed : List ℕ) (i j : ℕ) → IsTrue (has placed j) → IsTrue (has (placed ++ i ∷ []) j)
still_there placed i j h = has-push placed i j ∙ ap (λ (b : Bool). b || (i == j)) h

pub all_still_there : (placed : List ℕ) (i : ℕ) (xs : List ℕ) → IsTrue (list_all (has placed) xs) → IsTrue (list_all (has (placed ++ i ∷ [])) xs)
all_still_there placed i [] h = refl
all_still_there placed i (x ∷ xs) h =
    let s = and_split (has placed x) (list_all (has placed) xs) h in
    and_join (has (placed ++ i ∷ []) x) (list_all (has (placed ++ i ∷ [])) xs) (still_there placed i x s.0) (all_still_there placed i xs s.1)

pub passed_more : (placed passed : List ℕ) (g : Reads) (i : ℕ) → ArePassed placed passed g → ArePassed (placed ++ i ∷ []) passed g
passed_more placed passed g i h k = all_still_there placed i (take (unwrap_or (slice_get passed k) 0) (read_by g k)) (h k)

-- nothing is passed yet
zeros : ℕ → List ℕ
zeros n = replicate n 0

zeros_at : (n k : ℕ) → unwrap_or (slice_get (zeros n) k) 0 ≡ 0
unfolding zeros
zeros_at zero k = refl
zeros_at (suc n) zero = refl
zeros_at (suc n) (suc k) = zeros_at n k

pub passed_none : (placed passed : List ℕ) (g : Reads) (n : ℕ) → passed ≡ replicate n 0 → ArePassed placed passed g
unfolding zeros
passed_none placed passed g n e i =
    let none : unwrap_or (slice_get passed i) 0 ≡ 0 = ap (λ (ys : List ℕ). unwrap_or (slice_get ys i) 0) e ∙ zeros_at n i in
    subst (λ (k : ℕ). IsTrue (list_all (has placed) (take k (read_by g i)))) (sym none) refl

-- ---- the order

pub stopped : (more : ℕ) (g : Reads) (placed : List ℕ) → next_define placed 0 g ≡ None → placed_after more g placed ≡ placed
stopped zero g placed h = refl
stopped (suc more) g placed h = by (next_define placed 0 g) h
  where
    by : (o : Option ℕ) → o ≡ None → (elim o [ None ↦ placed | Some i ↦ placed_after more g (placed ++ i ∷ []) ]) ≡ placed
    by None h = refl
    by (Some i) h = cc

pub one_more : (more : ℕ) (g : Reads) (placed : List ℕ) (i : ℕ) → next_define placed 0 g ≡ Some i → placed_after (suc more) g placed ≡ placed_after more g (placed ++ i ∷ [])
one_more more g placed i h = by (next_define placed 0 g) h
  where
    by : (o : Option ℕ) → o ≡ Some i → (elim o [ None ↦ placed | Some i ↦ placed_after more g (placed ++ i ∷ []) ]) ≡ placed_after more g (placed ++ i ∷ [])
    by None h = cc
    by (Some k) h = let e : k ≡ i = cc in ap (λ (z : ℕ). placed_after more g (placed ++ z ∷ [])) e
