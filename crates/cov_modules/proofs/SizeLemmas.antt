-- Sizes up to the limits.
use Rattle.std.proofs.Common.{◌≡◌, ℕ, zero, suc, ◌+◌, ◌-◌, ◌<◌, ◌≤◌, inl, inr, Bool, true, false, cond, nat_lt, List, [], ◌∷◌, ◌++◌, map, length, drop, get_or, refl, sym, ap, ◌∙◌, arith}
use Rattle.std.specs.List.{flat_map}
use Rattle.std.proofs.lemmas.Bool.Decides.{nat_tests}
use Rattle.cov_modules.specs.declared.size.Size.{Size}
use Rattle.cov_modules.specs.Sizes.{size, both, total, is_over, capped, grown, all_grown, grown_times}
use Rattle.cov_modules.proofs.HasLemmas.{or-left, or-right, or-split}
use Rattle.cov_modules.proofs.FirstLemmas.{drop-item, map-append}

-- a sum is above what a part of it is above
lt-more : (k n m : ℕ) → nat_lt k n ≡ true → nat_lt k (n + m) ≡ true
lt-more k n m h = grind (arith, nat_tests)

-- more of what is over the limits
over-more : (a b : Size) → is_over a ≡ true → is_over (both a b) ≡ true
over-more a b h = elim (or-split (nat_lt 4096 a.names) (nat_lt 1000000 a.nodes) h) [
  | inl n ↦ or-left (nat_lt 4096 (a.names + b.names)) (nat_lt 1000000 (a.nodes + b.nodes)) (lt-more 4096 a.names b.names n)
  | inr n ↦ or-right (nat_lt 4096 (a.names + b.names)) (nat_lt 1000000 (a.nodes + b.nodes)) (lt-more 1000000 a.nodes b.nodes n)
]

-- what is over the limits is one size
capped-over : (a : Size) → is_over a ≡ true → capped a ≡ size 4097 1000001
capped-over a h = ap (λ t. cond t (size 4097 1000001) a) h

-- a part may be capped before
pub capped-left : (a b : Size) → capped (both (capped a) b) ≡ capped (both a b)
capped-left a b = by-test (is_over a) refl
  where
    by-test : (t : Bool) → is_over a ≡ t → capped (both (cond t (size 4097 1000001) a) b) ≡ capped (both a b)
    by-test true h = capped-over (both (size 4097 1000001) b) (over-more (size 4097 1000001) b refl) ∙ sym (capped-over (both a b) (over-more a b h))
    by-test false h = refl

-- a capped size is capped
pub capped-twice : (a : Size) → capped (capped a) ≡ capped a
capped-twice a = by-test (is_over a) refl
  where
    by-test : (t : Bool) → is_over a ≡ t → capped (cond t (size 4097 1000001) a) ≡ cond t (size 4097 1000001) a
    by-test true h = refl
    by-test false h = ap (λ t. cond t (size 4097 1000001) a) h

-- the order does not matter
pub both-comm : (a b : Size) → both a b ≡ both b a
both-comm a b =
    let n : a.names + b.names ≡ b.names + a.names = omega arith in
    let m : a.nodes + b.nodes ≡ b.nodes + a.nodes = omega arith in
    ap (λ k. size k (a.nodes + b.nodes)) n ∙ ap (size (b.names + a.names)) m

-- nor the grouping
pub both-assoc : (a b c : Size) → both (both a b) c ≡ both a (both b c)
both-assoc a b c =
    let n : (a.names + b.names) + c.names ≡ a.names + (b.names + c.names) = omega arith in
    let m : (a.nodes + b.nodes) + c.nodes ≡ a.nodes + (b.nodes + c.nodes) = omega arith in
    ap (λ k. size k ((a.nodes + b.nodes) + c.nodes)) n ∙ ap (size (a.names + (b.names + c.names))) m

-- nothing more
pub both-nothing : (a : Size) → both a (size 0 0) ≡ a
both-nothing a =
    let n : a.names + 0 ≡ a.names = omega arith in
    let m : a.nodes + 0 ≡ a.nodes = omega arith in
    ap (λ k. size k (a.nodes + 0)) n ∙ ap (size a.names) m

-- so may the other part
pub capped-right : (a b : Size) → capped (both a (capped b)) ≡ capped (both a b)
capped-right a b = ap capped (both-comm a (capped b)) ∙ capped-left b a ∙ ap capped (both-comm b a)

-- a part that is as good as another
pub capped-same : (a b c : Size) → capped b ≡ capped c → capped (both a b) ≡ capped (both a c)
capped-same a b c h = sym (capped-right a b) ∙ ap (λ x. capped (both a x)) h ∙ capped-right a c

-- one more part before the rest
pub capped-step : (a x y rest : Size) → capped x ≡ capped y → capped (both (capped (both a x)) rest) ≡ capped (both a (both y rest))
capped-step a x y rest h =
    capped-left (both a x) rest ∙ ap capped (both-assoc a x rest)
    ∙ sym (capped-right a (both x rest)) ∙ ap (λ z. capped (both a z)) (sym (capped-left x rest) ∙ ap (λ z. capped (both z rest)) h ∙ capped-left y rest) ∙ capped-right a (both y rest)

-- What a loop knows that adds sizes up to the limits: with those that are left it is all, and it is within the limits.
pub record IsCounting (sizes : List Size) (so_far all : Size) : Type 0 where
  pub left : capped (both so_far (total sizes)) ≡ all
  pub within : capped so_far ≡ so_far

-- it begins with nothing
pub counting-start : (sizes : List Size) → IsCounting sizes (size 0 0) (capped (total sizes))
counting-start sizes = record {
  left = ap capped (both-comm (size 0 0) (total sizes) ∙ both-nothing (total sizes));
  within = refl;
}

-- or with one size
pub counting-from : (a : Size) (sizes : List Size) → IsCounting sizes (capped (both a (size 0 0))) (capped (both a (total sizes)))
counting-from a sizes = record {
  left = capped-left (both a (size 0 0)) (total sizes) ∙ ap (λ x. capped (both x (total sizes))) (both-nothing a);
  within = capped-twice (both a (size 0 0));
}

-- one item further
pub counting-next : {A : Type 0} → (f : A → Size) (xs : List A) (i : ℕ) (x d : A) (a y all : Size) → i < length xs → x ≡ get_or xs i d → capped y ≡ capped (f x)
    → IsCounting (map f (drop i xs)) a all → IsCounting (map f (drop (i + 1) xs)) (capped (both a y)) all
counting-next f xs i x d a y all below is h c = record {
  left = capped-step a y (f x) (total (map f (drop (i + 1) xs))) h ∙ sym (ap (λ ys. capped (both a (total (map f ys)))) (drop-item xs i x d below is)) ∙ c.left;
  within = capped-twice (both a y);
}

-- nothing is left
pub counting-end : (a all : Size) → IsCounting [] a all → a ≡ all
counting-end a all c = sym c.within ∙ ap capped (sym (both-nothing a)) ∙ c.left

-- both parts may be capped
pub capped-both : (a b : Size) → capped (both (capped a) (capped b)) ≡ capped (both a b)
capped-both a b = capped-left a (capped b) ∙ capped-right a b

-- the sum of two lists
pub total-append : (as' bs : List Size) → total (as' ++ bs) ≡ both (total as') (total bs)
total-append [] bs = sym (both-nothing (total bs)) ∙ both-comm (total bs) (size 0 0)
total-append (a ∷ as') bs = ap (both a) (total-append as' bs) ∙ sym (both-assoc a (total as') (total bs))

-- the sum of what each section gives
pub total-flat : {A B : Type 0} → (f : B → Size) (g : A → List B) (xs : List A) → total (map (λ x. total (map f (g x))) xs) ≡ total (map f (flat_map g xs))
total-flat f g [] = refl
total-flat f g (x ∷ xs) =
    ap (both (total (map f (g x)))) (total-flat f g xs)
    ∙ sym (total-append (map f (g x)) (map f (flat_map g xs)))
    ∙ ap total (sym (map-append f (g x) (flat_map g xs)))

-- each size with those at its places, from a place on
pub all_grown-step : (sizes ws : List Size) (cs : List (List ℕ)) (i : ℕ) (w wd : Size) (c : List ℕ) → length ws ≡ length cs → i < length cs → w ≡ get_or ws i wd → c ≡ get_or cs i c
    → all_grown sizes (drop i ws) (drop i cs) ≡ grown sizes w c ∷ all_grown sizes (drop (i + 1) ws) (drop (i + 1) cs)
all_grown-step sizes ws cs i w wd c same below is at =
    ap (λ xs. all_grown sizes xs (drop i cs)) (drop-item ws i w wd (omega arith) is)
    ∙ ap (λ xs. all_grown sizes (w ∷ drop (i + 1) ws) xs) (drop-item cs i c c below at)

-- what grows no more stays
pub grown-stays : (k : ℕ) (sizes ws : List Size) (cs : List (List ℕ)) → all_grown sizes ws cs ≡ sizes → grown_times k sizes ws cs ≡ sizes
grown-stays zero sizes ws cs h = refl
grown-stays (suc k) sizes ws cs h = ap (λ xs. grown_times k xs ws cs) h ∙ grown-stays k sizes ws cs h

-- one level further
pub grown-level : (n k : ℕ) (sizes ws : List Size) (cs : List (List ℕ)) → k < n → grown_times (n - (k + 1)) (all_grown sizes ws cs) ws cs ≡ grown_times (n - k) sizes ws cs
grown-level n k sizes ws cs h = let e : n - k ≡ suc (n - (k + 1)) = omega arith in sym (ap (λ j. grown_times j sizes ws cs) e)

-- no level is left
pub grown-end : (n k : ℕ) (sizes ws : List Size) (cs : List (List ℕ)) → n ≤ k → grown_times (n - k) sizes ws cs ≡ sizes
grown-end n k sizes ws cs h = let e : n - k ≡ 0 = omega arith in ap (λ j. grown_times j sizes ws cs) e
