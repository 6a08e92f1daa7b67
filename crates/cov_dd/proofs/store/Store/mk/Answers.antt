use Rattle.std.proofs.Common.{◌≡◌, ◌≢◌, ◌<◌, ◌≤◌, ◌++◌, ◌∷◌, [], MatchResult, Result, Ok, Err, IfOk, IfErr, length, List, arith, rules, sym, ap, subst, ◌∙◌}
use Rattle.cov_dd.specs.declared.node.Ref.{Ref}
use Rattle.cov_dd.specs.declared.node.Ref.TheVariants.{Inner}
use Rattle.cov_dd.specs.declared.node.Part.{Part}
use Rattle.cov_dd.specs.declared.fault.Full.{Full}
use Rattle.cov_dd.specs.Nodes.{TableOf, node_at, den, chosen, counted, IsNew, IsTable, Denotes, IsBelow}
use Rattle.cov_dd.specs.Cofactors.{Computes, IsRefused}
use Rattle.cov_dd.proofs.MakeLemmas.{computes_pushed, computes_none, missing_new, same_missing}
use Rattle.cov_dd.proofs.Growth.{found_denotes, added_denotes}
use Rattle.cov_dd.proofs.Splitting.{computes_keeps}
use Rattle.cov_dd.proofs.store.Store.mk.Goals.{After-add}
use Rattle.cov_dd.proofs.store.Store.mk.Goals as goal

-- what is known when `add` has answered: the table of the call, that of `add`, which differs in the count of calls alone, and the answer
record Added (res : Result Ref Full) (old before new : TableOf) (node : Part) : Type 0 where
  table : IsTable old.levels old.nodes
  kept : IsTable new.levels new.nodes
  is : before ≡ record old { calls = counted old.calls }
  level : node.level < old.levels
  low : IsBelow old.levels old.nodes node.level node.low
  high : IsBelow old.levels old.nodes node.level node.high
  fresh : IsNew old.nodes node.level node.low node.high
  answer : MatchResult res
      (λ r. (r ≡ Inner (length before.nodes)) × (length before.nodes < before.budget) × (new ≡ record before { nodes = before.nodes ++ node ∷ [] }))
      (λ e. (e ≡ record { held = length before.nodes; budget = before.budget }) × (before.budget ≤ length before.nodes) × (new ≡ before))

-- the nodes that stand after `add` has answered
grown : (old before new : TableOf) (node : Part) → before ≡ record old { calls = counted old.calls } → new ≡ record before { nodes = before.nodes ++ node ∷ [] } → new ≡ record old { calls = counted old.calls; nodes = old.nodes ++ node ∷ [] }
grown old before new node p q = q ∙ ap (λ (x : TableOf). record x { nodes = x.nodes ++ node ∷ [] }) p

added_ok : (res : Result Ref Full) (old before new : TableOf) (node : Part) → Added res old before new node → IfOk res (λ r. Denotes new node.level r (chosen node.level (den old.nodes node.low) (den old.nodes node.high)))
added_ok (Ok r) old before new node a =
    let (at, room, is) = a.answer in
    let e : new ≡ record old { calls = counted old.calls; nodes = old.nodes ++ node ∷ [] } = grown old before new node a.is is in
    let place : r ≡ Inner (length old.nodes) = at ∙ ap (λ (x : TableOf). Inner (length x.nodes)) a.is in
    subst (λ (x : Ref). Denotes new node.level x (chosen node.level (den old.nodes node.low) (den old.nodes node.high))) (sym place)
    (added_denotes old new a.table (ap (λ (x : TableOf). x.levels) e) node a.low.live a.high.live (ap (λ (x : TableOf). x.nodes) e))
added_ok (Err e) old before new node a = tt

added_computes : (res : Result Ref Full) (old before new : TableOf) (node : Part) → Added res old before new node → Computes old new node.level (chosen node.level (den old.nodes node.low) (den old.nodes node.high))
added_computes (Ok r) old before new node a =
    let (at, room, is) = a.answer in
    let e : new ≡ record old { calls = counted old.calls; nodes = old.nodes ++ node ∷ [] } = grown old before new node a.is is in
    computes_pushed old new node a.table a.kept (ap (λ (x : TableOf). x.levels) e) (ap (λ (x : TableOf). x.budget) e) (ap (λ (x : TableOf). x.nodes) e) a.low a.high
added_computes (Err f) old before new node a =
    let (told, stands, is) = a.answer in
    let e : new ≡ record old { calls = counted old.calls } = is ∙ a.is in
    computes_none old new node.level _ a.table (ap (λ (x : TableOf). x.levels) e) (ap (λ (x : TableOf). x.budget) e) (ap (λ (x : TableOf). x.nodes) e)

added_err : (res : Result Ref Full) (old before new : TableOf) (node : Part) → Added res old before new node → IfErr res (λ e. IsRefused new node.level (chosen node.level (den old.nodes node.low) (den old.nodes node.high)) e)
added_err (Ok r) old before new node a = tt
added_err (Err f) old before new node a =
    let (told, stands, is) = a.answer in
    let e : new ≡ record old { calls = counted old.calls } = is ∙ a.is in
    record {
      held = ap (λ (x : Full). x.held) told ∙ ap (λ (x : TableOf). length x.nodes) (sym is);
      budget = ap (λ (x : Full). x.budget) told ∙ ap (λ (x : TableOf). x.budget) (sym is);
      stands = subst (λ (x : TableOf). x.budget ≤ length x.nodes) (sym is) stands;
      missing = same_missing old new node.level _ (ap (λ (x : TableOf). x.levels) e) (ap (λ (x : TableOf). x.nodes) e) (missing_new old a.table node.level node.low node.high a.level a.low a.high a.fresh);
    }

pub returns-in-Some-clause-ok : goal.returns-in-Some-clause-ok
returns-in-Some-clause-ok c =
    let same : c.self.inside.nodes.items ≡ c.args.self.now.nodes = ap (λ (x : TableOf). x.nodes) c.self.view_is in
    let node : Part = record { level = c.args.level; low = c.args.low; high = c.args.high } in
    let read : (c.in-Some.place < length c.self.inside.nodes.items) × (node_at c.self.inside.nodes.items c.in-Some.place ≡ node) = rw (sym c.as_slice.ensures.value) c.in-Some.ensures in
    let t : TableOf = record { levels = c.self.inside.levels; budget = c.self.inside.budget; calls = c.saturating_add-self-inside.result; nodes = c.self.inside.nodes.items } in
    subst (λ (x : List Part). Denotes t c.args.level (Inner c.in-Some.place) (chosen c.args.level (den x c.args.low) (den x c.args.high))) same
    (found_denotes t c.self.invariant.table c.in-Some.place node read.0 read.1)

-- the facts that `add` leaves
when_added : (c : After-add) → Added c.add.result c.args.self.now (record { levels = c.self.inside.levels; budget = c.self.inside.budget; calls = c.saturating_add-self-inside.result; nodes = c.self.inside.nodes.items }) c.add.new.self (record { level = c.args.level; low = c.args.low; high = c.args.high })
when_added c =
    let differ : c.args.low ≢ c.args.high = search rules in
    let absent : IsNew c.self.inside.nodes.items c.args.level c.args.low c.args.high = record { differ = differ; absent = λ k lt. grind arith } in
    record {
      table = subst (λ (x : TableOf). IsTable x.levels x.nodes) c.self.view_is c.self.invariant.table;
      kept = c.add.ensures.table;
      is = search rules;
      level = c.requires.level;
      low = c.requires.low;
      high = c.requires.high;
      fresh = subst (λ (x : TableOf). IsNew x.nodes c.args.level c.args.low c.args.high) c.self.view_is absent;
      answer = c.add.ensures.answer;
    }

pub returns-in-None-clause-ok : goal.returns-in-None-clause-ok
returns-in-None-clause-ok c = added_ok _ _ _ _ _ (when_added (goal.at.returns-in-None-clause-ok c).After-add)

pub returns-in-None-clause-keeps : goal.returns-in-None-clause-keeps
returns-in-None-clause-keeps c r live =
    let a = when_added (goal.at.returns-in-None-clause-keeps c).After-add in
    computes_keeps _ _ _ _ a.table (added_computes _ _ _ _ _ a) r live

pub returns-in-None-clause-computes : goal.returns-in-None-clause-computes
returns-in-None-clause-computes c = added_computes _ _ _ _ _ (when_added (goal.at.returns-in-None-clause-computes c).After-add)

pub returns-in-None-clause-err : goal.returns-in-None-clause-err
returns-in-None-clause-err c = added_err _ _ _ _ _ (when_added (goal.at.returns-in-None-clause-err c).After-add)
