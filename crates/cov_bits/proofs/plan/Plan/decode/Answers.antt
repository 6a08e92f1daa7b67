use Rattle.std.proofs.Common.{◌≡◌, ◌≤◌, ◌-◌, ℕ, List, Some, None, length, get_or, subst, ◌∙◌, ap, arith}
use Rattle.std.proofs.lemmas.Nat.{pow_pos}
use Rattle.cov_bits.specs.declared.part.Part.{Part}
use Rattle.cov_bits.specs.Layout.{IsDecoded}
use Rattle.cov_bits.specs.Views.{sizes_of}
use Rattle.cov_bits.proofs.Decoding.{decoding_ends}
use Rattle.cov_bits.proofs.Plans.{no_part, sizes_length, takes}
use Rattle.cov_bits.proofs.plan.Plan.decode.Goals as goal

pub overflow_sub-below : goal.overflow_sub-below
overflow_sub-below c = (takes _ _ _ _ _ _ _ _ c.as_slice-part-items.ensures c.self.invariant c.loop-part-test.true c.loop-part.invariant).room

pub overflow_shr-place : goal.overflow_shr-place
overflow_shr-place c = (takes _ _ _ _ _ _ _ _ c.as_slice-part-items.ensures c.self.invariant c.loop-part-test.true c.loop-part.invariant).few

pub returns-then-place-from : goal.returns-then-place-from
returns-then-place-from c =
    let t = takes _ _ _ _ _ _ _ _ c.as_slice-part-items.ensures c.self.invariant c.loop-part-test.true c.loop-part.invariant in
    let same : sizes_of c.as_slice-part-items.result.now ≡ c.args.self.now = ap (λ (ps : List Part). sizes_of ps) c.as_slice-part-items.ensures ∙ c.self.view_is in
    subst (λ (ns : List ℕ). IsDecoded ns c.args.code None) same (t.fails (rw c.from.ensures at c.if-place-from.true))

pub overflow_cast-place-in-loop-part : goal.overflow_cast-place-in-loop-part
overflow_cast-place-in-loop-part c =
    let t = takes _ _ _ _ _ _ _ _ c.as_slice-part-items.ensures c.self.invariant c.loop-part-test.true c.loop-part.invariant in
    omega (arith, t.small, c.from.ensures, c.if-place-from.false)

pub overflow_shl-rest : goal.overflow_shl-rest
overflow_shl-rest c = (takes _ _ _ _ _ _ _ _ c.as_slice-part-items.ensures c.self.invariant c.loop-part-test.true c.loop-part.invariant).few

pub nonzero_rem-rest : goal.nonzero_rem-rest
nonzero_rem-rest c =
    let t = takes _ _ _ _ _ _ _ _ c.as_slice-part-items.ensures c.self.invariant c.loop-part-test.true c.loop-part.invariant in
    rw t.power (pow_pos (c.loop-part.below - (get_or c.as_slice-part-items.result.now c.loop-part.part-index no_part).width))

pub loop-part-preserved : goal.loop-part-preserved
loop-part-preserved c =
    let t = takes _ _ _ _ _ _ _ _ c.as_slice-part-items.ensures c.self.invariant c.loop-part-test.true c.loop-part.invariant in
    rw (t.power, c.in_ok-push.ensures.ok) (t.goes (rw c.from.ensures at c.if-place-from.false))

pub returns : goal.returns
returns c =
    let same : sizes_of c.as_slice-part-items.result.now ≡ c.args.self.now = ap (λ (ps : List Part). sizes_of ps) c.as_slice-part-items.ensures ∙ c.self.view_is in
    let above : length (sizes_of c.as_slice-part-items.result.now) ≤ c.loop-part.part-index = omega (arith, sizes_length c.as_slice-part-items.result.now, c.loop-part-test.false) in
    subst (λ (ns : List ℕ). IsDecoded ns c.args.code (Some c.loop-part.places)) same
    (decoding_ends _ _ _ _ _ _ above c.loop-part.invariant)
