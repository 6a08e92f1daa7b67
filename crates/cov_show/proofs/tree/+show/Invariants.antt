use Rattle.std.proofs.Common.{◌≡◌, ◌++◌, [], map, drop}
use Rattle.cov_show.specs.Printing.{printed, branch_printed, elements_text, branches_text}
use Rattle.cov_show.proofs.tree.+show.Given as goal

-- what is there and what is left make the whole
abbrev pub invariant-show_set-loop-e : goal.invariant-show_set-loop-e
invariant-show_set-loop-e l =
    l.into ++ elements_text l.mark (map (printed l.labels) (drop l.e-index l.e-items))
    ≡ l.initial.into ++ elements_text [] (map (printed l.labels) l.e-items)

abbrev pub invariant-show_case-loop-b : goal.invariant-show_case-loop-b
invariant-show_case-loop-b l =
    l.into ++ branches_text (map (branch_printed l.labels) (drop l.b-index l.b-items))
    ≡ l.initial.into ++ branches_text (map (branch_printed l.labels) l.b-items)
