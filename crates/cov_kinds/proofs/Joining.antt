-- Kinds joined one after the other.
use Rattle.std.proofs.Common.{◌≡◌, ℕ, zero, suc, ◌+◌, ◌<◌, Bool, true, false, not, ◌&&◌, ◌||◌, if◌then◌else◌, IsTrue, nat_lt, List, [], ◌∷◌, length, drop, get_or, map, refl, ap, sym, ◌∙◌, subst, arith, drop-cons}
use Rattle.std.specs.List.{list_all, list_any}
use Rattle.cov_model.specs.Kinds as kinds
use Rattle.cov_model.specs.Kinds.{is_boolean, width, join, join_all, joined_kind}
use Rattle.cov_model.specs.Walk.{is_wide}
use Rattle.cov_kinds.specs.declared.kind.Kind.{Kind}
use Rattle.cov_kinds.specs.Seen.{seen, is_joinable}
use Rattle.cov_kinds.proofs.Widths.{joinable_split, join_no_boolean, long_wide, longer_join}

-- all can be joined
abbrev pub AreJoinable : List Kind → Type 0
AreJoinable ks = IsTrue (list_all (λ k. is_joinable (seen k)) ks)

both : (a b : Bool) → IsTrue (a && b) → IsTrue a × IsTrue b
both true b h = (refl, h)
both false b h = cc

all_wide : (k : kinds.Kind) (ls : List Kind) → is_boolean k ≡ false → AreJoinable ls → IsTrue (nat_lt 1024 (width k)) → IsTrue (is_wide (join_all k (map seen ls)))
all_wide k [] h g w = long_wide k h w
all_wide k (l ∷ ls) h g w =
    let d = both (is_joinable (seen l)) (list_all (λ k. is_joinable (seen k)) ls) g in
    let n = joinable_split (seen l) d.0 in
    all_wide (join k (seen l)) ls (join_no_boolean k (seen l) h n.0) d.1 (longer_join k (seen l) h n.0 w)

later : (ks : List Kind) (i : ℕ) → AreJoinable ks → AreJoinable (drop i ks)
later ks zero h = h
later [] (suc i) h = h
later (k ∷ ks) (suc i) h = later ks i (both (is_joinable (seen k)) (list_all (λ k. is_joinable (seen k)) ks) h).1

from : (ks : List Kind) (i : ℕ) (item : Kind) → i < length ks → item ≡ get_or ks i item → drop i ks ≡ item ∷ drop (i + 1) ks
from ks i item h e = let s : i + 1 ≡ suc i = omega arith in let d = drop-cons ks i item h in rw s cc

pub step_whole : (ks : List Kind) (i : ℕ) (item : Kind) (k j r : kinds.Kind) → i < length ks → item ≡ get_or ks i item
    → j ≡ join k (seen item) → join_all k (map seen (drop i ks)) ≡ r → join_all j (map seen (drop (i + 1) ks)) ≡ r
step_whole ks i item k j r h e ej w =
    let f : join_all k (map seen (item ∷ drop (i + 1) ks)) ≡ r = rw (from ks i item h e) at w in
    rw ej f

-- what is there at a place, and what follows
pub here : (ks : List Kind) (i : ℕ) (item : Kind) → i < length ks → item ≡ get_or ks i item → AreJoinable ks → IsTrue (is_joinable (seen item)) × AreJoinable (drop (i + 1) ks)
here ks i item h e a =
    let f : AreJoinable (item ∷ drop (i + 1) ks) = subst AreJoinable (from ks i item h e) (later ks i a) in
    both (is_joinable (seen item)) (list_all (λ k. is_joinable (seen k)) (drop (i + 1) ks)) f

-- once too wide, always too wide
pub stays_wide : (ks : List Kind) (i : ℕ) (item : Kind) (k r : kinds.Kind) → i < length ks → item ≡ get_or ks i item → AreJoinable ks
    → IsTrue (is_joinable k) → IsTrue (nat_lt 1024 (width (join k (seen item)))) → join_all k (map seen (drop i ks)) ≡ r → IsTrue (is_wide r)
stays_wide ks i item k r h e a g w p =
    let d = here ks i item h e a in
    let n = joinable_split (seen item) d.0 in
    let m = joinable_split k g in
    let q : join_all (join k (seen item)) (map seen (drop (i + 1) ks)) ≡ r = step_whole ks i item k (join k (seen item)) r h e refl p in
    subst (λ (k : kinds.Kind). IsTrue (is_wide k)) q (all_wide (join k (seen item)) (drop (i + 1) ks) (join_no_boolean k (seen item) m.0 n.0) d.1 w)

some_boolean : (ks : List Kind) → list_any (λ k. is_boolean (seen k)) ks ≡ list_any is_boolean (map seen ks)
some_boolean [] = refl
some_boolean (k ∷ ks) = ap (λ (b : Bool). is_boolean (seen k) || b) (some_boolean ks)

-- Boolean, if one is
pub joined_boolean : (ks : List Kind) → list_any (λ k. is_boolean (seen k)) ks ≡ true → joined_kind (map seen ks) ≡ kinds.boolean
joined_boolean [] h = refl
joined_boolean (k ∷ ks) h =
    let e : list_any is_boolean (map seen (k ∷ ks)) ≡ true = sym (some_boolean (k ∷ ks)) ∙ h in
    ap (λ (b : Bool). if b then kinds.boolean else join_all (seen k) (map seen ks)) e

-- else all joined
pub joined_first : (k : Kind) (ks : List Kind) → list_any (λ k. is_boolean (seen k)) (k ∷ ks) ≡ false → joined_kind (map seen (k ∷ ks)) ≡ join_all (seen k) (map seen ks)
joined_first k ks h =
    let e : list_any is_boolean (map seen (k ∷ ks)) ≡ false = sym (some_boolean (k ∷ ks)) ∙ h in
    ap (λ (b : Bool). if b then kinds.boolean else join_all (seen k) (map seen ks)) e

neither : (a b : Bool) → (a || b) ≡ false → (a ≡ false) × (b ≡ false)
neither true b h = cc
neither false b h = (refl, h)

pub are_joinable : (ks : List Kind) → list_any (λ k. is_boolean (seen k)) ks ≡ false → IsTrue (list_all (λ k. not (is_wide (seen k))) ks) → AreJoinable ks
are_joinable [] h g = refl
are_joinable (k ∷ ks) h g =
    let n = neither (is_boolean (seen k)) (list_any (λ k. is_boolean (seen k)) ks) h in
    let w = both (not (is_wide (seen k))) (list_all (λ k. not (is_wide (seen k))) ks) g in
    let r = are_joinable ks n.1 w.1 in
    rw (n.0, not_true (is_wide (seen k)) w.0) r
  where
    not_true : (b : Bool) → IsTrue (not b) → b ≡ false
    not_true true h = cc
    not_true false h = refl

pub tail_joinable : (k : Kind) (ks : List Kind) → AreJoinable (k ∷ ks) → AreJoinable ks
tail_joinable k ks h = (both (is_joinable (seen k)) (list_all (λ k. is_joinable (seen k)) ks) h).1
