use Rattle.std.proofs.Common.{◌≡◌, ℕ, ◌≤◌, length, Some}
use Rattle.std.specs.Prelude.{slice_get, IsTrue}
use Rattle.cov_model.specs.declared.model.Define.{Define}
use Rattle.cov_model.specs.Order.{reads}
use Rattle.cov_conditions.specs.Marks.{is_marked, are_marked}
use Rattle.cov_conditions.proofs.marks.mark_below.Given as goal

-- with each marked DEFINE from here on those are marked that its body reads
abbrev pub invariant-loop-i : goal.invariant-loop-i
invariant-loop-i l = record {
  within : l.i ≤ length l.defines;
  count : length l.marks ≡ length l.defines;
  kept : (j : ℕ) → IsTrue (is_marked l.fn.marks j) → IsTrue (is_marked l.marks j);
  closed : (j : ℕ) → l.i ≤ j → (d : Define) → slice_get l.defines j ≡ Some d → IsTrue (is_marked l.marks j) → IsTrue (are_marked l.marks (reads d.body));
}

abbrev pub decreases-loop-i : goal.decreases-loop-i
decreases-loop-i l = l.i
