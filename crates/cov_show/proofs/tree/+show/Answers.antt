use Rattle.cov_show.proofs.PrintingLemmas.{elements_text-next}
use Rattle.cov_show.proofs.tree.+show.Goals as goal

pub show-returns : goal.show-returns
show-returns t c = rw (c.is_looser.ensures c.args.labels.now) at c.show_grouped.ensures

pub show_negated-returns : goal.show_negated-returns
show_negated-returns t c = rw (c.is_grouped_behind_minus.ensures c.args.labels.now) at c.show_grouped.ensures

pub show_set-loop-e-preserved : goal.show_set-loop-e-preserved
show_set-loop-e-preserved t c =
    elements_text-next
    c.args.labels.now
    c.as_slice-e-items.result.now
    c.loop-e.e-index
    c.e-item.result
    c.loop-e.into
    c.loop-e.mark.now
    c.extend_from_slice.new.self
    c.show.new.into
    _
    c.loop-e-test.true
    c.e-item.is
    c.in_ok-extend_from_slice.ensures.ok
    c.in_ok-show.ensures
    c.loop-e.invariant
