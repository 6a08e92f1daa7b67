use Rattle.std.proofs.Common.{vec_capacity, ◌≡◌, ℕ, suc, ◌<◌, ◌++◌, ◌∷◌, [], List, length, get_or, set, rules, sym, ap, subst, ◌∙◌}
use Rattle.std.proofs.lemmas.List.{get_or_read}
use Rattle.cov_dd.specs.Chains.{ChainsOf, IsChained, bucket_of}
use Rattle.cov_dd.proofs.ChainLemmas.{chained_push, in_front}
use Rattle.cov_dd.proofs.chains.Chains.push.Goals as goal

pub returns-clause-chained : goal.returns-clause-chained
returns-clause-chained c nodes h =
    let b : ℕ = c.bucket-place.result in
    let heads : List ℕ = c.self.inside.heads.items in
    let nexts : List ℕ = c.self.inside.nexts.items in
    let within : b < length heads = search rules in
    let bucket : b ≡ bucket_of (length heads) c.args.node = search rules in
    let read : c.index-next.result.now ≡ get_or heads b 0 = get_or_read heads b c.index-next.result.now within c.index-next.ensures 0 in
    let behind : nexts ++ get_or heads b 0 ∷ [] ≡ c.push_reserved.new.self.items = ap (λ (x : ℕ). nexts ++ x ∷ []) (sym read) ∙ sym c.push_reserved.ensures.items in
    let count : suc (length nexts) ≡ c.len-2.result = search rules in
    let room : ℕ = vec_capacity c.self.inside.nexts in
    let was : IsChained nodes (record { heads = heads; nexts = nexts; room = room }) = subst (λ (x : ChainsOf). IsChained nodes x) (sym c.self.view_is) h in
    let is : IsChained (nodes ++ c.args.node ∷ []) (in_front (record { heads = heads; nexts = nexts; room = room }) b) = chained_push nodes _ c.args.node b was bucket within in
    subst (λ (x : ℕ). IsChained (nodes ++ c.args.node ∷ []) (record { heads = set heads b c.len-2.result; nexts = c.push_reserved.new.self.items; room = x })) (sym c.push_reserved.ensures.capacity)
    (subst (λ (x : List ℕ). IsChained (nodes ++ c.args.node ∷ []) (record { heads = set heads b c.len-2.result; nexts = x; room = room })) behind
    (subst (λ (x : ℕ). IsChained (nodes ++ c.args.node ∷ []) (record { heads = set heads b x; nexts = nexts ++ get_or heads b 0 ∷ []; room = room })) count is))
