use Rattle.std.proofs.Common.{◌≡◌, ◌≢◌, ℕ, suc, ◌-◌, ◌<◌, ◌≤◌, length, get_or, arith, rules, sym, ap, subst, inl, inr, ◌∙◌}
use Rattle.std.proofs.lemmas.List.{get_or_read}
use Rattle.cov_dd.specs.Nodes.{node_at}
use Rattle.cov_dd.specs.Chains.{OnChain, IsChained}
use Rattle.cov_dd.proofs.ChainLemmas.{chain_step}
use Rattle.cov_dd.proofs.chains.Chains.find.Goals as goal

pub loop-place-preserved : goal.loop-place-preserved
loop-place-preserved c =
    let some : 0 < c.loop-place.place = search rules in
    let h : IsChained c.args.nodes.now (record { heads = c.self.inside.heads.items; nexts = c.self.inside.nexts.items; room = c.args.self.now.room }) = search rules in
    let size : length c.self.inside.nexts.items ≡ length c.args.nodes.now = h.size in
    let bound : c.loop-place.place ≤ length c.args.nodes.now = c.loop-place.invariant.within in
    let one : suc (c.loop-place.place - 1) ≡ c.loop-place.place = omega arith in
    let within : c.loop-place.place - 1 < length c.self.inside.nexts.items = omega arith in
    let next : c.index-place-in-loop-place.result.now ≡ get_or c.self.inside.nexts.items (c.loop-place.place - 1) 0 = get_or_read c.self.inside.nexts.items (c.loop-place.place - 1) c.index-place-in-loop-place.result.now within c.index-place-in-loop-place.ensures 0 in
    let down : get_or c.self.inside.nexts.items (c.loop-place.place - 1) 0 ≤ c.loop-place.place - 1 = h.falls (c.loop-place.place - 1) within in
    let other : node_at c.args.nodes.now (c.loop-place.place - 1) ≢ c.args.node = search rules in
    record {
      within = omega arith;
      ahead = λ k lt is.
          elim (chain_step c.self.inside.nexts.items (c.loop-place.place - 1) k (subst (λ (p : ℕ). OnChain c.self.inside.nexts.items p k) (sym one) (c.loop-place.invariant.ahead k lt is))) [
            | inl here ↦ absurd (other (ap (node_at c.args.nodes.now) (sym here) ∙ is))
            | inr there ↦ subst (λ (p : ℕ). OnChain c.self.inside.nexts.items p k) (sym next) there
          ];
    }
