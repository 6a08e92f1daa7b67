-- The numbers that are reached from a DEFINE.
use Rattle.std.proofs.Common.{◌≡◌, ℕ, zero, suc, ◌+◌, ◌-◌, ◌<◌, ◌≤◌, Bool, true, false, if◌then◌else◌, IsTrue, inl, inr, List, [], ◌∷◌, ◌++◌, length, get_or, Option, Some, None, refl, sym, ap, subst, ◌∙◌, arith, append_assoc, append-nil, length-append}
use Rattle.std.specs.Prelude.{◌==◌, slice_get, nat_lt}
use Rattle.std.specs.List.{list_any, list_all}
use Rattle.std.specs.Option.{option_map_or}
use Rattle.std.proofs.lemmas.Option.{get_or_from_slice_get, slice_get_within}
use Rattle.cov_model.specs.Order.{Reads, read_by, has, leads_to}
use Rattle.cov_model.proofs.Joins.{or_left, or_right, or_case}
use Rattle.cov_model.proofs.Joined.{and_split}
use Rattle.cov_order.specs.Reach.{all_below, with, grown, expanded}
use Rattle.cov_order.proofs.Numbers.{same_self, has-push, has-append}
use Rattle.cov_order.proofs.Leading.{some_of, stands, leads_more, leads_then}

-- ---- grown lists

-- the list with others of the second list behind it
pub record IsGrown (xs js zs : List ℕ) : Type 0 where
  pub rest : List ℕ
  pub is : zs ≡ xs ++ rest
  pub from : (p : ℕ) → p < length rest → IsTrue (has js (get_or rest p 0))

pub grown_is : (xs js : List ℕ) → IsGrown xs js (grown xs js)
grown_is xs [] = record { rest = []; is = sym (append-nil xs); from = λ p h. absurd (omega arith) }
grown_is xs (j ∷ js) = by (has xs j) (λ ys. grown_is ys js)
  where
    by : (b : Bool) → ((ys : List ℕ) → IsGrown ys js (grown ys js)) → IsGrown xs (j ∷ js) (grown (if b then xs else xs ++ j ∷ []) js)
    by true f = let r = f xs in record { rest = r.rest; is = r.is; from = λ p h. or_right (j == get_or r.rest p 0) (has js (get_or r.rest p 0)) (r.from p h) }
    by false f = let r = f (xs ++ j ∷ []) in record { rest = j ∷ r.rest; is = r.is ∙ append_assoc xs (j ∷ []) r.rest; from = at r.rest r.from }
      where
        at : (rest : List ℕ) → ((p : ℕ) → p < length rest → IsTrue (has js (get_or rest p 0))) → (p : ℕ) → p < length (j ∷ rest) → IsTrue (has (j ∷ js) (get_or (j ∷ rest) p 0))
        at rest f zero h = or_left (j == j) (has js j) (same_self j)
        at rest f (suc p) h = or_right (j == get_or rest p 0) (has js (get_or rest p 0)) (f p (omega arith))

pub grown_keeps : (xs js : List ℕ) (i : ℕ) → IsTrue (has xs i) → IsTrue (has (grown xs js) i)
grown_keeps xs js i h = let r = grown_is xs js in subst (λ (zs : List ℕ). IsTrue (has zs i)) (sym r.is) (has-append xs r.rest i ∙ or_left (has xs i) (has r.rest i) h)

with_has : (xs : List ℕ) (j : ℕ) → IsTrue (has (with xs j) j)
with_has xs j = by (has xs j) refl
  where
    by : (b : Bool) → has xs j ≡ b → IsTrue (has (if b then xs else xs ++ j ∷ []) j)
    by true e = e
    by false e = has-push xs j j ∙ or_right (has xs j) (j == j) (same_self j)

pub grown_has : (xs js : List ℕ) (i : ℕ) → IsTrue (has js i) → IsTrue (has (grown xs js) i)
grown_has xs [] i h = cc
grown_has xs (j ∷ js) i h = elim (or_case (j == i) (has js i) h) [
  | inl e ↦ subst (λ (z : ℕ). IsTrue (has (grown (with xs j) js) z)) (same j i e) (grown_keeps (with xs j) js j (with_has xs j))
  | inr r ↦ grown_has (with xs j) js i r
]
  where
    same : (j i : ℕ) → IsTrue (j == i) → j ≡ i
    same j i e = grind arith

-- ---- what is reached

-- Each number is reached by at most as many others as its place says; what the DEFINE reads is there, and what the first k numbers read.
pub record IsReaching (g : Reads) (i k : ℕ) (xs : List ℕ) : Type 0 where
  pub led : (p : ℕ) → p < length xs → IsTrue (leads_to p g i (get_or xs p 0))
  pub starts : (j : ℕ) → IsTrue (has (read_by g i) j) → IsTrue (has xs j)
  pub closed : (p : ℕ) → p < k → p < length xs → (j : ℕ) → IsTrue (has (read_by g (get_or xs p 0)) j) → IsTrue (has xs j)

front_at : (xs ys : List ℕ) (p : ℕ) → p < length xs → get_or (xs ++ ys) p 0 ≡ get_or xs p 0
front_at [] ys p h = absurd (omega arith)
front_at (x ∷ xs) ys zero h = refl
front_at (x ∷ xs) ys (suc p) h = front_at xs ys p (omega arith)

back_at : (xs ys : List ℕ) (p : ℕ) → length xs ≤ p → get_or (xs ++ ys) p 0 ≡ get_or ys (p - length xs) 0
back_at [] ys p h = ap (λ (k : ℕ). get_or ys k 0) (same p)
  where
    same : (p : ℕ) → p ≡ p - 0
    same p = omega arith
back_at (x ∷ xs) ys zero h = absurd (omega arith)
back_at (x ∷ xs) ys (suc p) h = back_at xs ys p (omega arith) ∙ ap (λ (k : ℕ). get_or ys k 0) (same p (length xs))
  where
    same : (p n : ℕ) → p - n ≡ suc p - suc n
    same p n = omega arith

pub reaching_first : (g : Reads) (i : ℕ) → IsReaching g i 0 (grown [] (read_by g i))
reaching_first g i = record {
  led = λ p h. let r = grown_is [] (read_by g i) in
      let l : p < length r.rest = omega (arith, ap (λ (zs : List ℕ). length zs) r.is, h) in
      subst (λ (zs : List ℕ). IsTrue (leads_to p g i (get_or zs p 0))) (sym r.is) (leads_more 0 p g i (get_or r.rest p 0) (omega arith) (r.from p l));
  starts = λ j h. grown_has [] (read_by g i) j h;
  closed = λ p h l j r. absurd (omega arith);
}

pub reaching_more : (g : Reads) (i k j : ℕ) (xs : List ℕ) → k < length xs → get_or xs k 0 ≡ j → IsReaching g i k xs → IsReaching g i (k + 1) (grown xs (read_by g j))
reaching_more g i k j xs l e w = record {
  led = λ p h. subst (λ (zs : List ℕ). IsTrue (leads_to p g i (get_or zs p 0))) (sym r.is)
      (led p (omega (arith, length-append xs r.rest, ap (λ (zs : List ℕ). length zs) r.is, h)) (nat_lt p (length xs)) refl);
  starts = λ x h. grown_keeps xs (read_by g j) x (w.starts x h);
  closed = λ p h q x f. closed p h x (subst (λ (zs : List ℕ). IsTrue (has (read_by g (get_or zs p 0)) x)) r.is f) (nat_lt p k) refl;
}
  where
    r : IsGrown xs (read_by g j) (grown xs (read_by g j))
    r = grown_is xs (read_by g j)

    led : (p : ℕ) → p < length xs + length r.rest → (b : Bool) → nat_lt p (length xs) ≡ b → IsTrue (leads_to p g i (get_or (xs ++ r.rest) p 0))
    led p h true t = let q : p < length xs = grind arith in subst (λ (z : ℕ). IsTrue (leads_to p g i z)) (sym (front_at xs r.rest p q)) (w.led p q)
    led p h false t =
        let q : length xs ≤ p = grind arith in
        let f : IsTrue (has (read_by g j) (get_or r.rest (p - length xs) 0)) = r.from (p - length xs) (omega (arith, h, q)) in
        let s : IsTrue (leads_to k g i j) = subst (λ (z : ℕ). IsTrue (leads_to k g i z)) e (w.led k l) in
        subst (λ (z : ℕ). IsTrue (leads_to p g i z)) (sym (back_at xs r.rest p q))
        (leads_more (suc k) p g i (get_or r.rest (p - length xs) 0) (omega (arith, l, q)) (leads_then k g i j (get_or r.rest (p - length xs) 0) s f))

    closed : (p : ℕ) → p < k + 1 → (x : ℕ) → IsTrue (has (read_by g (get_or (xs ++ r.rest) p 0)) x) → (b : Bool) → nat_lt p k ≡ b → IsTrue (has (grown xs (read_by g j)) x)
    closed p h x f true t =
        let q : p < k = grind arith in
        let s : p < length xs = omega (arith, q, l) in
        grown_keeps xs (read_by g j) x (w.closed p q s x (subst (λ (z : ℕ). IsTrue (has (read_by g z) x)) (front_at xs r.rest p s) f))
    closed p h x f false t =
        let q : k ≤ p = grind arith in
        let s : p ≡ k = omega (arith, h, q) in
        let u : p < length xs = omega (arith, s, l) in
        let v : get_or (xs ++ r.rest) p 0 ≡ j = front_at xs r.rest p u ∙ ap (λ (z : ℕ). get_or xs z 0) s ∙ e in
        grown_has xs (read_by g j) x (subst (λ (z : ℕ). IsTrue (has (read_by g z) x)) v f)

past_all : (g : Reads) (i k : ℕ) (xs : List ℕ) → length xs ≤ k → IsReaching g i k xs → IsReaching g i (k + 1) xs
past_all g i k xs l w = record { led = w.led; starts = w.starts; closed = λ p h q j r. w.closed p (omega (arith, l, q)) q j r }

pub reaching_step : (g : Reads) (i k : ℕ) (xs : List ℕ) → IsReaching g i k xs → IsReaching g i (k + 1) (expanded g k xs)
reaching_step g i k xs w = by (slice_get xs k) refl
  where
    out : (xs : List ℕ) (k : ℕ) → slice_get xs k ≡ None → length xs ≤ k
    out [] k h = omega arith
    out (x ∷ xs) zero h = cc
    out (x ∷ xs) (suc k) h = omega (arith, out xs k h)

    by : (o : Option ℕ) → slice_get xs k ≡ o → IsReaching g i (k + 1) (option_map_or (λ j. grown xs (read_by g j)) o xs)
    by None e = past_all g i k xs (out xs k e) w
    by (Some j) e = reaching_more g i k j xs (slice_get_within xs k j e) (get_or_from_slice_get xs k j 0 e) w

-- ---- all that is reached

complete : (g : Reads) (i k : ℕ) (xs : List ℕ) → length xs ≤ k → IsReaching g i k xs → (o x j : ℕ) → ((y : ℕ) → IsTrue (has (read_by g x) y) → IsTrue (has xs y)) → IsTrue (leads_to o g x j) → IsTrue (has xs j)
complete g i k xs l w zero x j f h = f j h
complete g i k xs l w (suc o) x j f h = elim (or_case (has (read_by g x) j) (list_any (λ y. leads_to o g y j) (read_by g x)) h) [
  | inl r ↦ f j r
  | inr r ↦
      let s = some_of (λ y. leads_to o g y j) (read_by g x) r in
      let t = stands xs s.number (f s.number s.there) in
      complete g i k xs l w o s.number j
      (λ y q. w.closed t.place (omega (arith, t.within, l)) t.within y (subst (λ (z : ℕ). IsTrue (has (read_by g z) y)) (sym t.is) q))
      s.passes
]

sound : (g : Reads) (i k n : ℕ) (xs : List ℕ) → length xs ≤ n → IsReaching g i k xs → (j : ℕ) → IsTrue (has xs j) → IsTrue (leads_to n g i j)
sound g i k n xs l w j h =
    let t = stands xs j h in
    leads_more t.place n g i j (omega (arith, t.within, l)) (subst (λ (z : ℕ). IsTrue (leads_to t.place g i z)) t.is (w.led t.place t.within))

same_truth : (a b : Bool) → (IsTrue a → IsTrue b) → (IsTrue b → IsTrue a) → a ≡ b
same_truth true true f h = refl
same_truth false false f h = refl
same_truth true false f h = let k : IsTrue false = f refl in cc
same_truth false true f h = let k : IsTrue false = h refl in cc

-- all that is reached is all that the DEFINE reads, itself and through others
pub reached_all : (g : Reads) (i n : ℕ) (xs : List ℕ) → length xs ≤ n → IsReaching g i n xs → (j : ℕ) → has xs j ≡ leads_to n g i j
reached_all g i n xs l w j = same_truth (has xs j) (leads_to n g i j) (sound g i n n xs l w j) (λ h. complete g i n xs l w n i j w.starts h)

-- what a DEFINE reads is there
pub reads_there : (n : ℕ) (g : Reads) (i : ℕ) (js : List ℕ) → IsTrue (list_all (all_below n) g) → slice_get g i ≡ Some js → IsTrue (all_below n js)
reads_there n [] i js h e = cc
reads_there n (xs ∷ g) zero js h e = let s : xs ≡ js = cc in subst (λ (ys : List ℕ). IsTrue (all_below n ys)) s (and_split (all_below n xs) (list_all (all_below n) g) h).0
reads_there n (xs ∷ g) (suc i) js h e = reads_there n g i js (and_split (all_below n xs) (list_all (all_below n) g) h).1 e
