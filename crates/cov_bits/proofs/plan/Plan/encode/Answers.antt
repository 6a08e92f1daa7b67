use Rattle.std.proofs.Common.{◌≡◌, ℕ, List, get_or, IsTrue, subst, sym, ◌∙◌, ap, arith}
use Rattle.std.proofs.lemmas.Option.{get_or_from_slice_get}
use Rattle.cov_bits.specs.declared.part.Part.{Part}
use Rattle.cov_bits.specs.Layout.{are_places}
use Rattle.cov_bits.specs.Views.{sizes_of}
use Rattle.cov_bits.proofs.Encoding.{encoding_begins}
use Rattle.cov_bits.proofs.Plans.{puts}
use Rattle.cov_bits.proofs.plan.Plan.encode.Goals as goal

pub loop-i-init : goal.loop-i-init
loop-i-init c =
    let same : sizes_of c.as_slice-part-items.result.now ≡ c.args.self.now = ap (λ (ps : List Part). sizes_of ps) c.as_slice-part-items.ensures ∙ c.self.view_is in
    encoding_begins (sizes_of c.as_slice-part-items.result.now) c.args.s.now
    (subst (λ (ns : List ℕ). IsTrue (are_places ns c.args.s.now)) (sym same) c.requires)

pub overflow_shl-code : goal.overflow_shl-code
overflow_shl-code c = (puts _ _ _ _ _ _ c.as_slice-part-items.ensures c.self.invariant c.loop-i-test.true c.loop-i.invariant).few

pub overflow_add-code : goal.overflow_add-code
overflow_add-code c =
    let p = puts _ _ _ _ _ _ c.as_slice-part-items.ensures c.self.invariant c.loop-i-test.true c.loop-i.invariant in
    let place : c.from.result ≡ get_or c.args.s.now c.loop-i.i 0 = c.from.ensures ∙ sym (get_or_from_slice_get c.args.s.now c.loop-i.i c.get.result.now 0 c.get.ensures) in
    rw place (omega (arith, p.room))

pub loop-i-preserved : goal.loop-i-preserved
loop-i-preserved c =
    let p = puts _ _ _ _ _ _ c.as_slice-part-items.ensures c.self.invariant c.loop-i-test.true c.loop-i.invariant in
    let place : c.from.result ≡ get_or c.args.s.now c.loop-i.i 0 = c.from.ensures ∙ sym (get_or_from_slice_get c.args.s.now c.loop-i.i c.get.result.now 0 c.get.ensures) in
    rw place p.next
