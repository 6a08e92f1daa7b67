-- The sets of a bit that stays or rises, with which the tests begin.
use Rattle.std.proofs.Common.{◌≡◌, ℕ, ◌+◌, ◌*◌, ◌++◌, List, [], ◌∷◌, Bool, length, refl, sym, ◌∙◌, subst, ap, arith, length-append}
use Rattle.cov_space.specs.declared.layer.Layer.TheVariants.{W, N}
use Rattle.cov_space.specs.Sets.{SpaceOf, set_at}
use Rattle.cov_space.specs.Answers.{PutsSet}
use Rattle.cov_space.specs.Operations.{bit_set, union, complement}
use Rattle.cov_space.specs.Layers.{IgnoresLayer}
use Rattle.cov_space.specs.Steps.{with_more}
use Rattle.cov_space.proofs.Ignoring.{bit_ignores, union_ignores, complement_ignores}
use Rattle.cov_space.proofs.Calls.{push_behind, at_behind}
use Rattle.cov_image.specs.Relations.{IsRelation}
use Rattle.cov_fair.specs.Structures.{IsFairness}
use Rattle.cov_fair.proofs.Calls.{put_or}

-- the present state, the next state, the present state 0, and the steps
pub rising_sets : ℕ → List (List Bool)
rising_sets levels = bit_set levels 1 ∷ bit_set levels 2 ∷ complement levels (bit_set levels 1) ∷ union levels (complement levels (bit_set levels 1)) (bit_set levels 2) ∷ []

pub rising_is : (s0 s1 s2 s3 s4 : SpaceOf) → s0.sets ≡ [] → PutsSet s0 s1 (bit_set s0.levels 1) → PutsSet s1 s2 (bit_set s1.levels 2)
    → PutsSet s2 s3 (complement s2.levels (set_at s2.sets 0)) → PutsSet s3 s4 (union s3.levels (set_at s3.sets 2) (set_at s3.sets 1)) → s4 ≡ with_more s0 (rising_sets s0.levels)
unfolding rising_sets
rising_is s0 s1 s2 s3 s4 none p1 p2 p3 p4 =
    let none' : length s0.sets ≡ 0 = ap length none in
    let levels : ℕ = s0.levels in
    let v : List Bool = bit_set levels 1 in
    let n : List Bool = bit_set levels 2 in
    let low : List Bool = complement levels v in
    let is2 : s2 ≡ with_more s0 (v ∷ n ∷ []) = push_behind s0 s1 s2 (v ∷ []) (bit_set s1.levels 2) p1.is p2 ∙ ap (λ k. with_more s0 (v ∷ bit_set k 2 ∷ [])) (ap (λ (z : SpaceOf). z.levels) p1.is) in
    let is3 : s3 ≡ with_more s0 (v ∷ n ∷ low ∷ []) =
    push_behind s0 s2 s3 (v ∷ n ∷ []) (complement s2.levels (set_at s2.sets 0)) is2 p3
    ∙ ap (λ k. with_more s0 (v ∷ n ∷ complement k (set_at s2.sets 0) ∷ [])) (ap (λ (z : SpaceOf). z.levels) is2)
    ∙ ap (λ y. with_more s0 (v ∷ n ∷ complement levels y ∷ [])) (at_behind s0 s2 (v ∷ n ∷ []) 0 0 is2 (omega arith)) in
    put_or s0 s3 s4 (v ∷ n ∷ low ∷ []) 2 1 low n is3 (at_behind s0 s3 (v ∷ n ∷ low ∷ []) 2 2 is3 (omega arith)) (at_behind s0 s3 (v ∷ n ∷ low ∷ []) 1 1 is3 (omega arith)) p4

pub rising_relation : (s0 s4 : SpaceOf) → s0.sets ≡ [] → s4 ≡ with_more s0 (rising_sets s0.levels) → IsRelation s4 (3 ∷ [])
unfolding rising_sets
rising_relation s0 s4 none is =
    let none' : length s0.sets ≡ 0 = ap length none in
    let levels : ℕ = s0.levels in
    let e : length (s0.sets ++ rising_sets levels) ≡ length s0.sets + 4 = length-append s0.sets (rising_sets levels) in
    let h : IgnoresLayer levels W (union levels (complement levels (bit_set levels 1)) (bit_set levels 2)) = λ b lt.
    union_ignores levels (3 * b + 0) (complement levels (bit_set levels 1)) (bit_set levels 2) lt
    (complement_ignores levels (3 * b + 0) (bit_set levels 1) lt (bit_ignores levels (3 * b + 0) 1 lt (omega arith)))
    (bit_ignores levels (3 * b + 0) 2 lt (omega arith)) in
    subst (λ (z : SpaceOf). IsRelation z (3 ∷ [])) (sym is) (record {
      there = (omega arith, tt);
      apart = (subst (λ (x : List Bool). IgnoresLayer levels W x) (sym (at_behind s0 (with_more s0 (rising_sets levels)) (rising_sets levels) 3 3 refl (omega arith))) h, tt);
    })

pub rising_high : (s0 s4 : SpaceOf) → s0.sets ≡ [] → s4 ≡ with_more s0 (rising_sets s0.levels) → IgnoresLayer s4.levels N (set_at s4.sets 0)
unfolding rising_sets
rising_high s0 s4 none is =
    let none' : length s0.sets ≡ 0 = ap length none in
    let levels : ℕ = s0.levels in
    let h : IgnoresLayer levels N (bit_set levels 1) = λ b lt. bit_ignores levels (3 * b + 2) 1 lt (omega arith) in
    subst (λ (z : SpaceOf). IgnoresLayer z.levels N (set_at z.sets 0)) (sym is)
    (subst (λ (x : List Bool). IgnoresLayer levels N x) (sym (at_behind s0 (with_more s0 (rising_sets levels)) (rising_sets levels) 0 0 refl (omega arith))) h)

pub rising_low : (s0 s4 : SpaceOf) → s0.sets ≡ [] → s4 ≡ with_more s0 (rising_sets s0.levels) → IgnoresLayer s4.levels N (set_at s4.sets 2)
unfolding rising_sets
rising_low s0 s4 none is =
    let none' : length s0.sets ≡ 0 = ap length none in
    let levels : ℕ = s0.levels in
    let h : IgnoresLayer levels N (complement levels (bit_set levels 1)) = λ b lt. complement_ignores levels (3 * b + 2) (bit_set levels 1) lt (bit_ignores levels (3 * b + 2) 1 lt (omega arith)) in
    subst (λ (z : SpaceOf). IgnoresLayer z.levels N (set_at z.sets 2)) (sym is)
    (subst (λ (x : List Bool). IgnoresLayer levels N x) (sym (at_behind s0 (with_more s0 (rising_sets levels)) (rising_sets levels) 2 2 refl (omega arith))) h)

pub rising_fairness : (s0 s4 : SpaceOf) → s0.sets ≡ [] → s4 ≡ with_more s0 (rising_sets s0.levels) → IsFairness s4 (2 ∷ [])
unfolding rising_sets
rising_fairness s0 s4 none is =
    let e : length s4.sets ≡ length (s0.sets ++ rising_sets s0.levels) = ap (λ (z : SpaceOf). length z.sets) is in
    let d : length (s0.sets ++ rising_sets s0.levels) ≡ length s0.sets + 4 = length-append s0.sets (rising_sets s0.levels) in
    record { there = (omega arith, tt); pairs = (rising_low s0 s4 none is, tt) }
