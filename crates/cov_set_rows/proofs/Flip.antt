-- The sets of a bit that each step inverts, with which the tests begin.
use Rattle.std.proofs.Common.{◌≡◌, ℕ, ◌+◌, ◌*◌, ◌++◌, List, [], ◌∷◌, Bool, length, refl, sym, ◌∙◌, subst, ap, arith, length-append}
use Rattle.cov_space.specs.declared.layer.Layer.TheVariants.{W, N}
use Rattle.cov_space.specs.Sets.{SpaceOf, set_at}
use Rattle.cov_space.specs.Answers.{PutsSet}
use Rattle.cov_space.specs.Operations.{bit_set, symmetric_difference, complement}
use Rattle.cov_space.specs.Layers.{IgnoresLayer}
use Rattle.cov_space.specs.Steps.{with_more}
use Rattle.cov_space.proofs.Ignoring.{bit_ignores, symmetric_difference_ignores, complement_ignores}
use Rattle.cov_space.proofs.Calls.{push_behind, at_behind}
use Rattle.cov_image.specs.Relations.{IsRelation}

-- the present state, the next state, that they differ, and that the present state is 0
pub flip_sets : ℕ → List (List Bool)
flip_sets levels = bit_set levels 1 ∷ bit_set levels 2 ∷ symmetric_difference levels (bit_set levels 1) (bit_set levels 2) ∷ complement levels (bit_set levels 1) ∷ []

pub flip_is : (s0 s1 s2 s3 s4 : SpaceOf) → s0.sets ≡ [] → PutsSet s0 s1 (bit_set s0.levels 1) → PutsSet s1 s2 (bit_set s1.levels 2)
    → PutsSet s2 s3 (symmetric_difference s2.levels (set_at s2.sets 0) (set_at s2.sets 1)) → PutsSet s3 s4 (complement s3.levels (set_at s3.sets 0)) → s4 ≡ with_more s0 (flip_sets s0.levels)
unfolding flip_sets
flip_is s0 s1 s2 s3 s4 none p1 p2 p3 p4 =
    let none' : length s0.sets ≡ 0 = ap length none in
    let levels : ℕ = s0.levels in
    let v : List Bool = bit_set levels 1 in
    let n : List Bool = bit_set levels 2 in
    let x : List Bool = symmetric_difference levels v n in
    let is2 : s2 ≡ with_more s0 (v ∷ n ∷ []) = push_behind s0 s1 s2 (v ∷ []) (bit_set s1.levels 2) p1.is p2 ∙ ap (λ k. with_more s0 (v ∷ bit_set k 2 ∷ [])) (ap (λ (z : SpaceOf). z.levels) p1.is) in
    let is3 : s3 ≡ with_more s0 (v ∷ n ∷ x ∷ []) =
    push_behind s0 s2 s3 (v ∷ n ∷ []) (symmetric_difference s2.levels (set_at s2.sets 0) (set_at s2.sets 1)) is2 p3
    ∙ ap (λ k. with_more s0 (v ∷ n ∷ symmetric_difference k (set_at s2.sets 0) (set_at s2.sets 1) ∷ [])) (ap (λ (z : SpaceOf). z.levels) is2)
    ∙ ap (λ y. with_more s0 (v ∷ n ∷ symmetric_difference levels y (set_at s2.sets 1) ∷ [])) (at_behind s0 s2 (v ∷ n ∷ []) 0 0 is2 (omega arith))
    ∙ ap (λ y. with_more s0 (v ∷ n ∷ symmetric_difference levels v y ∷ [])) (at_behind s0 s2 (v ∷ n ∷ []) 1 1 is2 (omega arith)) in
    push_behind s0 s3 s4 (v ∷ n ∷ x ∷ []) (complement s3.levels (set_at s3.sets 0)) is3 p4
    ∙ ap (λ k. with_more s0 (v ∷ n ∷ x ∷ complement k (set_at s3.sets 0) ∷ [])) (ap (λ (z : SpaceOf). z.levels) is3)
    ∙ ap (λ y. with_more s0 (v ∷ n ∷ x ∷ complement levels y ∷ [])) (at_behind s0 s3 (v ∷ n ∷ x ∷ []) 0 0 is3 (omega arith))

pub flip_relation : (s0 s4 : SpaceOf) → s0.sets ≡ [] → s4 ≡ with_more s0 (flip_sets s0.levels) → IsRelation s4 (2 ∷ [])
unfolding flip_sets
flip_relation s0 s4 none is =
    let none' : length s0.sets ≡ 0 = ap length none in
    let levels : ℕ = s0.levels in
    let e : length (s0.sets ++ flip_sets levels) ≡ length s0.sets + 4 = length-append s0.sets (flip_sets levels) in
    let h : IgnoresLayer levels W (symmetric_difference levels (bit_set levels 1) (bit_set levels 2)) = λ b lt.
    symmetric_difference_ignores levels (3 * b + 0) (bit_set levels 1) (bit_set levels 2) lt (bit_ignores levels (3 * b + 0) 1 lt (omega arith)) (bit_ignores levels (3 * b + 0) 2 lt (omega arith)) in
    subst (λ (z : SpaceOf). IsRelation z (2 ∷ [])) (sym is) (record {
      there = (omega arith, tt);
      apart = (subst (λ (x : List Bool). IgnoresLayer levels W x) (sym (at_behind s0 (with_more s0 (flip_sets levels)) (flip_sets levels) 2 2 refl (omega arith))) h, tt);
    })

pub flip_start : (s0 s4 : SpaceOf) → s0.sets ≡ [] → s4 ≡ with_more s0 (flip_sets s0.levels) → IgnoresLayer s4.levels N (set_at s4.sets 3)
unfolding flip_sets
flip_start s0 s4 none is =
    let none' : length s0.sets ≡ 0 = ap length none in
    let levels : ℕ = s0.levels in
    let h : IgnoresLayer levels N (complement levels (bit_set levels 1)) = λ b lt. complement_ignores levels (3 * b + 2) (bit_set levels 1) lt (bit_ignores levels (3 * b + 2) 1 lt (omega arith)) in
    subst (λ (z : SpaceOf). IgnoresLayer z.levels N (set_at z.sets 3)) (sym is)
    (subst (λ (x : List Bool). IgnoresLayer levels N x) (sym (at_behind s0 (with_more s0 (flip_sets levels)) (flip_sets levels) 3 3 refl (omega arith))) h)
