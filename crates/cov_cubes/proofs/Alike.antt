-- The cubes of a set depend on its typed states alone.
use Rattle.std.proofs.Common.{◌≡◌, ℕ, ◌<◌, not, if◌then◌else◌, List, [], ◌∷◌, Bool, IsTrue, map, sym, ◌∙◌, ap, arith, subst}
use Rattle.std.specs.Prelude.{nat_lt}
use Rattle.cov_classes.specs.Cubes.{Set, rest, same_bool, same_set, class_of, is_least, cubes}
use Rattle.cov_classes.specs.Partition.{is_typed}
use Rattle.cov_classes.proofs.Listing.{and_join, is_below, same_bool-refl, same_at}
use Rattle.cov_cubes.proofs.Equal.{bool_same}
use Rattle.cov_cubes.proofs.Joined.{range_flat, range_filter, range_any, states_all}

-- two sets have the same typed states
abbrev pub AreAlike : List ℕ → Set → Set → Type 0
AreAlike ns a b = (s : List ℕ) → IsTrue (is_typed ns s) → a s ≡ b s

same_is : (x y : Bool) → x ≡ y → IsTrue (same_bool x y)
same_is x y e = subst (λ z. IsTrue (same_bool x z)) e (same_bool-refl x)

same_alike : (ns : List ℕ) (a b c d : Set) → AreAlike ns a c → AreAlike ns b d → same_set ns a b ≡ same_set ns c d
same_alike ns a b c d f g =
    bool_same (same_set ns a b) (same_set ns c d)
    (λ h. states_all ns (λ s. same_bool (c s) (d s)) (λ s t. same_is (c s) (d s) (sym (f s t) ∙ same_at ns a b s h t ∙ g s t)))
    (λ h. states_all ns (λ s. same_bool (a s) (b s)) (λ s t. same_is (a s) (b s) (f s t ∙ same_at ns c d s h t ∙ sym (g s t))))

rests_alike : (n : ℕ) (ns : List ℕ) (a b : Set) → AreAlike (n ∷ ns) a b → (v : ℕ) → v < n → AreAlike ns (rest a v) (rest b v)
rests_alike n ns a b h v lt s typed = h (v ∷ s) (and_join (nat_lt v n) (is_typed ns s) (is_below v n lt) typed)

pub cubes_alike : (ns : List ℕ) (a b : Set) → AreAlike ns a b → cubes ns a ≡ cubes ns b
cubes_alike [] a b h = ap (λ x. if x then [] ∷ [] else []) (h [] (cc))
cubes_alike (n ∷ ns) a b h =
    range_flat (λ v. if is_least ns a v then map (λ c. class_of n ns a v ∷ c) (cubes ns (rest a v)) else []) (λ v. if is_least ns b v then map (λ c. class_of n ns b v ∷ c) (cubes ns (rest b v)) else []) 0 n (λ v lo hi.
    let lv : v < n = omega arith in
    let same : (w : ℕ) → w < n → same_set ns (rest a v) (rest a w) ≡ same_set ns (rest b v) (rest b w) = λ w lw. same_alike ns (rest a v) (rest a w) (rest b v) (rest b w) (rests_alike n ns a b h v lv) (rests_alike n ns a b h w lw) in
    let least : is_least ns a v ≡ is_least ns b v = ap not (range_any (λ w. same_set ns (rest a v) (rest a w)) (λ w. same_set ns (rest b v) (rest b w)) 0 v (λ w lo' hi'. same w (omega arith))) in
    let class : class_of n ns a v ≡ class_of n ns b v = range_filter (λ w. same_set ns (rest a v) (rest a w)) (λ w. same_set ns (rest b v) (rest b w)) 0 n (λ w lo' hi'. same w (omega arith)) in
    ap (λ x. if x then map (λ c. class_of n ns a v ∷ c) (cubes ns (rest a v)) else []) least
    ∙ ap (λ (k : List ℕ). if is_least ns b v then map (λ c. k ∷ c) (cubes ns (rest a v)) else []) class
    ∙ ap (λ (l : List (List (List ℕ))). if is_least ns b v then map (λ c. class_of n ns b v ∷ c) l else []) (cubes_alike ns (rest a v) (rest b v) (rests_alike n ns a b h v lv)))
