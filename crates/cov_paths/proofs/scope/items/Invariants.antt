use Rattle.std.proofs.Common.{◌≡◌, ◌≤◌, ℕ, drop, nat_cmp}
use Rattle.std.specs.Option.{option_or}
use Rattle.std.specs.BTreeMap.{get}
use Rattle.cov_paths.specs.Items.{behind, item_in}
use Rattle.cov_paths.proofs.scope.items.Given as goal

-- what is left completes what is found
abbrev pub invariant-loop-s : goal.invariant-loop-s
invariant-loop-s l = record {
  left : (i : ℕ) → option_or (get nat_cmp l.items i) (behind l.ranks (item_in (drop l.s-index l.sections) i)) ≡ item_in l.sections i;
  variables : l.ranks.variables ≤ l.s-index;
  defines : l.ranks.defines ≤ l.s-index;
  instances : l.ranks.instances ≤ l.s-index;
}
