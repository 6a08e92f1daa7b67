use Rattle.std.proofs.Common.{◌+◌, ◌≤◌, length, ◌∙◌, sym, ap, subst, fold, rules, arith}
use Rattle.cov_modules.specs.Names.{has, with_name}
use Rattle.cov_modules.specs.ModuleFaults.{names_below}
use Rattle.std.proofs.lemmas.Option.{get_or_from_slice_get}
use Rattle.cov_modules.proofs.ReachLemmas.{IsSearch, search-start, search-next, search-done, search-short}
use Rattle.cov_modules.proofs.reach.leads.Goals.{else-loop-next-test, then-loop-next-test+then-next-len}
use Rattle.cov_modules.proofs.reach.leads.Goals as goal

pub loop-next-init : goal.loop-next-init
loop-next-init c = record {
  same = c.in_ok-add.ensures.same;
  found = subst (λ xs. IsSearch c.args.p.now c.args.from xs 0) (search rules) (search-start c.args.p.now c.args.from (ap (λ xs. has xs c.args.from) (sym c.requires.modules) ∙ c.requires.from));
}

pub loop-next-preserved : goal.loop-next-preserved
loop-next-preserved c = record {
  same = c.in_ok-add_below.ensures.same;
  found = subst (λ xs. IsSearch c.args.p.now c.args.from xs (c.loop-next.next + 1))
      (ap (λ n. fold with_name c.loop-next.found (names_below c.args.p.now n)) (get_or_from_slice_get c.loop-next.found c.loop-next.next c.get-name.result.now 0 c.get-name.ensures) ∙ sym c.in_ok-add_below.ensures.found)
      (search-next c.args.p.now c.args.from c.loop-next.found c.loop-next.next c.loop-next.invariant.found (search rules) c.requires.known);
}

pub returns : goal.returns
returns c =
    let short = search-short c.args.p.now c.args.from c.loop-next.found c.loop-next.next c.loop-next.invariant.found in
    let done : length c.loop-next.found ≤ c.loop-next.next = elim c.loop-next-test.branch [
      | else-loop-next-test w ↦ omega (arith, short, c.len-next-end.ensures)
      | then-loop-next-test+then-next-len w ↦ omega (arith, w.len.ensures)
    ] in
    c.has.ensures ∙ c.loop-next.invariant.same c.args.to ∙ search-done c.args.p.now c.args.from c.loop-next.found c.loop-next.next c.loop-next.invariant.found done c.args.to
