use Rattle.std.proofs.Common.{ℕ, ◌-◌, length, refl, sym, ◌∙◌, subst, ap, arith}
use Rattle.std.specs.Prelude.{List, Bool}
use Rattle.std.proofs.lemmas.Option.{slice_get_read}
use Rattle.cov_model.specs.declared.model.Define.{Define}
use Rattle.cov_model.specs.Order.{reads}
use Rattle.cov_conditions.specs.Marks.{with_marks}
use Rattle.cov_conditions.proofs.Marking.{Turn, turn}
use Rattle.cov_conditions.proofs.marks.mark_below.Goals as goal

pub loop-i-preserved-then-marks-i : goal.loop-i-preserved-then-marks-i
loop-i-preserved-then-marks-i c =
    let i : ℕ = c.loop-i.i - 1 in
    let inv = c.loop-i.invariant in
    let defines : List Define = c.args.defines.now in
    let d : Define = c.index-defines-i.result in
    let before : Turn defines c.args.marks.now c.loop-i.marks c.loop-i.i = record { count = inv.count; kept = inv.kept; closed = inv.closed } in
    let after : Turn defines c.args.marks.now (with_marks c.loop-i.marks (reads d.body)) i =
    turn defines c.args.marks.now c.loop-i.marks i c.loop-i.i d (slice_get_read defines (length defines) i d refl (omega arith) c.index-defines-i.is) (omega arith) (omega arith) c.requires.earlier before in
    let is : Turn defines c.args.marks.now c.mark_reads.new.marks i = subst (λ (ms : List Bool). Turn defines c.args.marks.now ms i) (sym (c.mark_reads.ensures ∙ ap (λ (x : Define). with_marks c.loop-i.marks (reads x.body)) (sym c.index-defines-i.is))) after in
    record { within = omega arith; count = is.count; kept = is.kept; closed = is.closed }
