use Rattle.std.proofs.Common.{◌≡◌, ◌<◌, ◌∙◌, ap, sym, subst, length, drop, List, Bool}
use Rattle.cov_model.specs.declared.model.Define.{Define}
use Rattle.cov_model.specs.declared.model.Model.{Model}
use Rattle.cov_conditions.specs.Marks.{AreClosed, AreReads}
use Rattle.cov_conditions.proofs.Reading.{named_there}
use Rattle.cov_conditions.proofs.Marking.{whole_again}
use Rattle.cov_conditions.proofs.marks.find_reads.Goals as goal

pub mark_all-requires-clause-there : goal.mark_all-requires-clause-there
mark_all-requires-clause-there c = λ j r.
    subst (λ (ds : List Define). j < length ds) (ap (λ (m : Model). m.defines) (sym c.model.ensures.value) ∙ sym c.as_slice-defines.ensures)
    (named_there c.args.m.now c.model.ensures.formed c.args.e.now c.requires j r)

pub returns : goal.returns
returns c =
    let new : List Bool = c.mark_all.new.marks in
    let kept : length new ≡ length c.as_mut_slice.result.now = c.mark_all.auto.marks in
    let defines : c.as_slice-defines.result.now ≡ c.args.m.now.defines = c.as_slice-defines.ensures ∙ ap (λ (m : Model). m.defines) c.model.ensures.value in
    let count : length new ≡ length c.args.m.now.defines =
    kept ∙ c.as_mut_slice.ensures.len ∙ c.in_ok-marks.ensures.len ∙ ap (λ (ds : List Define). length ds) defines in
    let done : AreReads c.args.m.now c.args.e.now new =
    record { count = count; here = c.mark_all.ensures.here; below = subst (λ (ds : List Define). AreClosed ds new) defines c.mark_all.ensures.below } in
    subst (λ (ms : List Bool). AreReads c.args.m.now c.args.e.now ms) (sym (whole_again c.in_ok-marks.marks.len new (drop (length new) c.in_ok-marks.marks.items) (sym (kept ∙ c.as_mut_slice.ensures.len)))) done
