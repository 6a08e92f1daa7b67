use Rattle.std.proofs.Common.{◌≡◌, ◌≤◌, ◌<◌, ◌+◌, ◌*◌, ℕ, length, map, max, min, ap, ◌∙◌, arith}
use Rattle.cov_model.specs.declared.model.Define.{Define}
use Rattle.cov_model.specs.declared.model.Model.{Model}
use Rattle.cov_model.specs.Flat.{greatest, expressions}
use Rattle.cov_model.specs.Kinds.{Kinds}
use Rattle.cov_model.specs.Settled.{kinds_of}
use Rattle.cov_ranges.proofs.Places.{defines_stand}
use Rattle.cov_walk.specs.Widest.{widest}
use Rattle.cov_types.specs.Roots as spec
use Rattle.cov_types.proofs.ExtentLemmas.{sides_pass}
use Rattle.cov_types.proofs.Limits.{limits}
use Rattle.cov_types.proofs.roots.roots_of.Goals as goal

pub define_sets-requires-clause-pass : goal.define_sets-requires-clause-pass
define_sets-requires-clause-pass c = sides_pass (λ (d : Define). d.body) c.args.m.now c.args.kinds.now c.args.m.now.defines c.requires (defines_stand c.args.m.now)

pub widest_variable-requires : goal.widest_variable-requires
widest_variable-requires c = (limits c.args.m.now c.args.kinds.now c.requires).narrow

pub state_bits-bits-requires : goal.state_bits-bits-requires
state_bits-bits-requires c = (limits c.args.m.now c.args.kinds.now c.requires).few_bits

pub constraints-requires : goal.constraints-requires
constraints-requires c = (limits c.args.m.now c.args.kinds.now c.requires).few_constraints

pub overflow_add-listed : goal.overflow_add-listed
overflow_add-listed c =
    let few : spec.constraints c.args.m.now + length c.args.m.now.fair ≤ 1000000 = (limits c.args.m.now c.args.kinds.now c.requires).few_listed in
    omega (arith, c.constraints.ensures, c.len.ensures)

pub sets_on_a_path-deep-requires-clause-narrow : goal.sets_on_a_path-deep-requires-clause-narrow
sets_on_a_path-deep-requires-clause-narrow c =
    let narrow : spec.widest_variable c.args.m.now.vars ≤ 1024 = (limits c.args.m.now c.args.kinds.now c.requires).narrow in
    omega (arith, c.max-width.ensures, c.max.ensures, c.widest_variable.ensures, c.in_ok-extent.ensures.narrow)

-- the sum of the numbers is below 2 ^ 32
small : (c : goal.After-sets_on_a_path-deep)
    → 64 + 2 * c.state_bits-bits.result + 2 * c.in_ok-defines.defines + (c.constraints.result + c.len.result) + 8 * c.greatest_size-size.result + c.sets_on_a_path-deep.result < 4294967296
small c =
    let few : spec.constraints c.args.m.now + length c.args.m.now.fair ≤ 1000000 = (limits c.args.m.now c.args.kinds.now c.requires).few_listed in
    let bits : spec.state_bits c.args.m.now.vars ≤ 60 = (limits c.args.m.now c.args.kinds.now c.requires).few_bits in
    omega (arith, c.constraints.ensures, c.len.ensures, c.state_bits-bits.ensures, c.in_ok-defines.ensures.bound, c.greatest_size-size.ensures, c.sets_on_a_path-deep.ensures.bound)

pub overflow_mul-result : goal.overflow_mul-result
overflow_mul-result c = let all = small c in omega arith

pub overflow_add-result : goal.overflow_add-result
overflow_add-result c = let all = small c in omega arith

pub overflow_add-result-2 : goal.overflow_add-result-2
overflow_add-result-2 c = let all = small c in omega arith

pub overflow_add-result-3 : goal.overflow_add-result-3
overflow_add-result-3 c = let all = small c in omega arith

pub overflow_add-result-4 : goal.overflow_add-result-4
overflow_add-result-4 c = let all = small c in omega arith

pub overflow_add-result-5 : goal.overflow_add-result-5
overflow_add-result-5 c = let all = small c in omega arith

-- the sums of equal numbers are equal
same_sum : (a b d e k l s t w x p q r : ℕ) → a ≡ b → d ≡ e → k ≡ l → s ≡ t → w ≡ x → p ≡ q → r ≡ (3 * w + 4) * (p + 1)
    → 64 + 2 * a + 2 * d + k + 8 * s + r ≡ 64 + 2 * b + 2 * e + l + 8 * t + (3 * x + 4) * (q + 1)
same_sum a b d e k l s t w x p q r g h i j m n o = cc

pub returns-clause-value : goal.returns-clause-value
returns-clause-value c =
    let m : Model = c.args.m.now in
    let small : spec.greatest_size m.specs ≤ 4096 = (limits m c.args.kinds.now c.requires).small in
    let shallow : spec.greatest_depth m ≤ 1000001 = (limits m c.args.kinds.now c.requires).shallow in
    let defines : c.in_ok-defines.defines ≡ spec.define_sets (kinds_of m) m.defines
    = c.in_ok-defines.ensures.value ∙ ap (λ (ks : Kinds). spec.define_sets ks m.defines) c.requires.kinds in
    let listed : c.constraints.result + c.len.result ≡ spec.constraints m + length m.fair
    = ap (λ (k : ℕ). k + c.len.result) c.constraints.ensures ∙ ap (λ (k : ℕ). spec.constraints m + k) c.len.ensures in
    let size : c.greatest_size-size.result ≡ spec.greatest_size m.specs = omega (arith, c.greatest_size-size.ensures) in
    let depth : c.in_ok-extent.extent.depth ≡ spec.greatest_depth m = omega (arith, c.in_ok-extent.ensures.depth) in
    let widths : c.in_ok-extent.extent.width ≡ greatest (map (widest (kinds_of m)) (expressions m))
    = c.in_ok-extent.ensures.width ∙ ap (λ (ks : Kinds). greatest (map (widest ks) (expressions m))) c.requires.kinds in
    let width : c.max-width.result ≡ spec.greatest_width m
    = c.max-width.ensures ∙ ap (λ (n : ℕ). max n 2) (c.max.ensures
    ∙ ap (λ (n : ℕ). max n c.in_ok-extent.extent.width) c.widest_variable.ensures
    ∙ ap (λ (n : ℕ). max (spec.widest_variable m.vars) n) widths) in
    same_sum c.state_bits-bits.result (spec.state_bits m.vars) c.in_ok-defines.defines (spec.define_sets (kinds_of m) m.defines)
    (c.constraints.result + c.len.result) (spec.constraints m + length m.fair) c.greatest_size-size.result (spec.greatest_size m.specs)
    c.max-width.result (spec.greatest_width m) c.in_ok-extent.extent.depth (spec.greatest_depth m) c.sets_on_a_path-deep.result
    c.state_bits-bits.ensures defines listed size width depth c.sets_on_a_path-deep.ensures.value

pub returns-clause-bound : goal.returns-clause-bound
returns-clause-bound c = small c
