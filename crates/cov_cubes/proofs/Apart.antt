-- A test that ignores two layers.
use Rattle.std.proofs.Common.{◌≡◌, ℕ, zero, suc, ◌<◌, ◌+◌, ◌*◌, List, [], ◌∷◌, Bool, true, false, length, get_or, refl, sym, ◌∙◌, ap, arith, subst}
use Rattle.cov_dd.specs.Operations.{put, Ignores}

-- the first of three bits, and the third
at_first : (f : List Bool → Bool) (x y v n : Bool) (s : List Bool) → f (false ∷ v ∷ n ∷ s) ≡ f (true ∷ v ∷ n ∷ s) → f (x ∷ v ∷ n ∷ s) ≡ f (y ∷ v ∷ n ∷ s)
at_first f false false v n s e = refl
at_first f false true v n s e = e
at_first f true false v n s e = sym e
at_first f true true v n s e = refl

at_third : (f : List Bool → Bool) (w v x y : Bool) (s : List Bool) → f (w ∷ v ∷ false ∷ s) ≡ f (w ∷ v ∷ true ∷ s) → f (w ∷ v ∷ x ∷ s) ≡ f (w ∷ v ∷ y ∷ s)
at_third f w v false false s e = refl
at_third f w v false true s e = e
at_third f w v true false s e = sym e
at_third f w v true true s e = refl

-- a test on further bits ignores what it ignored
further : (count k : ℕ) (f : List Bool → Bool) (w v n : Bool) → ((b : ℕ) → b < suc count → Ignores (3 * suc count) (3 * b + k) f) → (b : ℕ) → b < count → Ignores (3 * count) (3 * b + k) (λ s. f (w ∷ v ∷ n ∷ s))
further count k f w v n h b lt r len =
    let next : 3 * suc b + k ≡ suc (suc (suc (3 * b + k))) = omega arith in
    let at : f (put (w ∷ v ∷ n ∷ r) (3 * suc b + k) false) ≡ f (put (w ∷ v ∷ n ∷ r) (3 * suc b + k) true) = h (suc b) (omega arith) (w ∷ v ∷ n ∷ r) (omega arith) in
    let P : ℕ → Type 0 = λ m. f (put (w ∷ v ∷ n ∷ r) m false) ≡ f (put (w ∷ v ∷ n ∷ r) m true) in
    subst P next at

-- rows with the same bits on the second layer
pub agree : (count : ℕ) (f : List Bool → Bool) → ((b : ℕ) → b < count → Ignores (3 * count) (3 * b + 0) f) → ((b : ℕ) → b < count → Ignores (3 * count) (3 * b + 2) f)
    → (r o : List Bool) → length r ≡ 3 * count → length o ≡ 3 * count → ((b : ℕ) → b < count → get_or r (1 + 3 * b) false ≡ get_or o (1 + 3 * b) false) → f r ≡ f o
agree zero f ws ns [] [] lr lo same = refl
agree zero f ws ns [] (y ∷ o) lr lo same = absurd (omega arith)
agree zero f ws ns (x ∷ r) o lr lo same = absurd (omega arith)
agree (suc c) f ws ns [] o lr lo same = absurd (omega arith)
agree (suc c) f ws ns (w ∷ []) o lr lo same = absurd (omega arith)
agree (suc c) f ws ns (w ∷ v ∷ []) o lr lo same = absurd (omega arith)
agree (suc c) f ws ns (w ∷ v ∷ n ∷ r) [] lr lo same = absurd (omega arith)
agree (suc c) f ws ns (w ∷ v ∷ n ∷ r) (x ∷ []) lr lo same = absurd (omega arith)
agree (suc c) f ws ns (w ∷ v ∷ n ∷ r) (x ∷ y ∷ []) lr lo same = absurd (omega arith)
agree (suc c) f ws ns (w ∷ v ∷ n ∷ r) (x ∷ y ∷ z ∷ o) lr lo same =
    let long : length (w ∷ v ∷ n ∷ r) ≡ 3 * suc c = lr in
    let long' : length (x ∷ v ∷ n ∷ r) ≡ 3 * suc c = lr in
    let e0 : 3 * 0 + 0 ≡ 0 = omega arith in
    let e2 : 3 * 0 + 2 ≡ 2 = omega arith in
    let e1 : 1 + 3 * 0 ≡ 1 = omega arith in
    let first : f (false ∷ v ∷ n ∷ r) ≡ f (true ∷ v ∷ n ∷ r) = subst (λ m. f (put (w ∷ v ∷ n ∷ r) m false) ≡ f (put (w ∷ v ∷ n ∷ r) m true)) e0 (ws 0 (omega arith) (w ∷ v ∷ n ∷ r) long) in
    let third : f (x ∷ v ∷ false ∷ r) ≡ f (x ∷ v ∷ true ∷ r) = subst (λ m. f (put (x ∷ v ∷ n ∷ r) m false) ≡ f (put (x ∷ v ∷ n ∷ r) m true)) e2 (ns 0 (omega arith) (x ∷ v ∷ n ∷ r) long') in
    let second : v ≡ y = subst (λ m. get_or (w ∷ v ∷ n ∷ r) m false ≡ get_or (x ∷ y ∷ z ∷ o) m false) e1 (same 0 (omega arith)) in
    at_first f w x v n r first ∙ at_third f x v n z r third ∙ ap (λ b. f (x ∷ b ∷ z ∷ r)) second
    ∙ agree c (λ s. f (x ∷ y ∷ z ∷ s)) (further c 0 f x y z ws) (further c 2 f x y z ns) r o (omega arith) (omega arith) (λ b lt. later b lt)
  where
    later : (b : ℕ) → b < c → get_or r (1 + 3 * b) false ≡ get_or o (1 + 3 * b) false
    later b lt =
        let next : 1 + 3 * suc b ≡ suc (suc (suc (1 + 3 * b))) = omega arith in
        subst (λ m. get_or (w ∷ v ∷ n ∷ r) m false ≡ get_or (x ∷ y ∷ z ∷ o) m false) next (same (suc b) (omega arith))
