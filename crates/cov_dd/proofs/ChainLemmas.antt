-- Chains, along which each node of its bucket is found.
use Rattle.std.proofs.Common.{◌≡◌, ℕ, suc, ◌<◌, ◌≤◌, ◌⊎◌, List, [], ◌∷◌, ◌++◌, length, get_or, set, refl, sym, ◌∙◌, ap, subst, arith, inl, inr}
use Rattle.std.proofs.lemmas.Bool.{cases_lt, cases_eq}
use Rattle.std.proofs.lemmas.List.{get_or_append_left, get_or_push, length_push, get_or-set_same, get_or-set_other, length-set}
use Rattle.cov_dd.specs.declared.node.Part.{Part}
use Rattle.cov_dd.specs.Nodes.{no_node, node_at}
use Rattle.cov_dd.specs.Chains.{ChainsOf, bucket_of, OnChain, IsChained}
use Rattle.cov_dd.specs.Chains.OnChain.{first, later}

-- no place is on an empty chain
pub not_on_none : (nexts : List ℕ) (k : ℕ) → OnChain nexts 0 k → ⊥
not_on_none nexts k c = at_none nexts 0 k refl c where
  at_none : (nexts : List ℕ) (p k : ℕ) → p ≡ 0 → OnChain nexts p k → ⊥
  at_none nexts _ _ e (first k) = omega arith
  at_none nexts _ _ e (later i k r) = omega arith

-- one step along a chain
pub chain_step : (nexts : List ℕ) (i k : ℕ) → OnChain nexts (suc i) k → (k ≡ i) ⊎ OnChain nexts (get_or nexts i 0) k
chain_step nexts i k c = by_case nexts (suc i) i k refl c where
  by_case : (nexts : List ℕ) (p i k : ℕ) → p ≡ suc i → OnChain nexts p k → (k ≡ i) ⊎ OnChain nexts (get_or nexts i 0) k
  by_case nexts _ i _ e (first k) = inl (omega arith)
  by_case nexts _ i _ e (later j k r) = let same : j ≡ i = omega arith in inr (subst (λ (n : ℕ). OnChain nexts (get_or nexts n 0) k) same r)

-- chains of the old places stay when a place is added
chain_grows : (nexts : List ℕ) (x : ℕ) → ((i : ℕ) → i < length nexts → get_or nexts i 0 ≤ i) → (p k : ℕ) → OnChain nexts p k → p ≤ length nexts → OnChain (nexts ++ x ∷ []) p k
chain_grows nexts x falls _ _ (first k) le = first k
chain_grows nexts x falls _ _ (later i k r) le =
    let within : i < length nexts = omega arith in
    let down : get_or nexts i 0 ≤ i = falls i within in
    later i k (subst (λ (p : ℕ). OnChain (nexts ++ x ∷ []) p k) (sym (get_or_append_left nexts (x ∷ []) 0 i within)) (chain_grows nexts x falls (get_or nexts i 0) k r (omega arith)))

-- the chains after a place was put at the front of that of a bucket
abbrev pub in_front : ChainsOf → ℕ → ChainsOf
in_front c b = record c { heads = set c.heads b (suc (length c.nexts)); nexts = c.nexts ++ get_or c.heads b 0 ∷ [] }

-- an old node is on its chain still
old_on_chain : (nodes : List Part) (c : ChainsOf) (b : ℕ) → IsChained nodes c → b < length c.heads → (a k : ℕ) → OnChain c.nexts (get_or c.heads a 0) k → OnChain (in_front c b).nexts (get_or (in_front c b).heads a 0) k
old_on_chain nodes c b h lt a k on =
    let size : length c.nexts ≡ length nodes = h.size in
    let begins : get_or c.heads a 0 ≤ length nodes = h.begins a in
    let was : OnChain (in_front c b).nexts (get_or c.heads a 0) k = chain_grows c.nexts (get_or c.heads b 0) h.falls _ k on (omega arith) in
    elim (cases_eq a b) [
      | inl e ↦
          let new_head : get_or (in_front c b).heads a 0 ≡ suc (length c.nexts) = ap (λ n. get_or (in_front c b).heads n 0) e ∙ get_or-set_same c.heads b (suc (length c.nexts)) 0 lt in
          let next : get_or (in_front c b).nexts (length c.nexts) 0 ≡ get_or c.heads a 0 = get_or_push c.nexts (get_or c.heads b 0) 0 (length c.nexts) refl ∙ ap (λ n. get_or c.heads n 0) (sym e) in
          subst (λ (p : ℕ). OnChain (in_front c b).nexts p k) (sym new_head) (later (length c.nexts) k (subst (λ (p : ℕ). OnChain (in_front c b).nexts p k) (sym next) was))
      | inr ne ↦ subst (λ (p : ℕ). OnChain (in_front c b).nexts p k) (sym (get_or-set_other c.heads b a (suc (length c.nexts)) 0 ne)) was
    ]

-- each node is on its chain when one was added at the front of its own
each_on_chain : (nodes : List Part) (c : ChainsOf) (node : Part) (b : ℕ) → IsChained nodes c → b ≡ bucket_of (length c.heads) node → b < length c.heads
    → (k : ℕ) → k < length (nodes ++ node ∷ []) → OnChain (in_front c b).nexts (get_or (in_front c b).heads (bucket_of (length c.heads) (node_at (nodes ++ node ∷ []) k)) 0) k
each_on_chain nodes c node b h is lt k within = elim (cases_lt k (length nodes)) [
  | inl below ↦
      let same : node_at nodes k ≡ node_at (nodes ++ node ∷ []) k = sym (get_or_append_left nodes (node ∷ []) no_node k below) in
      subst (λ (n : Part). OnChain (in_front c b).nexts (get_or (in_front c b).heads (bucket_of (length c.heads) n) 0) k) same (old_on_chain nodes c b h lt _ k (h.chained k below))
  | inr le ↦
      let size : length c.nexts ≡ length nodes = h.size in
      let at : length nodes ≡ k = omega (arith, length_push nodes node) in
      let same : node_at (nodes ++ node ∷ []) k ≡ node = get_or_push nodes node no_node k at in
      let bucket : bucket_of (length c.heads) (node_at (nodes ++ node ∷ []) k) ≡ b = ap (λ (n : Part). bucket_of (length c.heads) n) same ∙ sym is in
      let new_head : get_or (in_front c b).heads b 0 ≡ suc k = get_or-set_same c.heads b (suc (length c.nexts)) 0 lt ∙ ap (λ n. suc n) (size ∙ at) in
      subst (λ (a : ℕ). OnChain (in_front c b).nexts (get_or (in_front c b).heads a 0) k) (sym bucket) (subst (λ (p : ℕ). OnChain (in_front c b).nexts p k) (sym new_head) (first k))
]

-- a node that is put at the front of the chain of its bucket
pub chained_push : (nodes : List Part) (c : ChainsOf) (node : Part) (b : ℕ) → IsChained nodes c → b ≡ bucket_of (length c.heads) node → b < length c.heads → IsChained (nodes ++ node ∷ []) (in_front c b)
chained_push nodes c node b h is lt =
    let size : length c.nexts ≡ length nodes = h.size in
    let old : get_or c.heads b 0 ≤ length nodes = h.begins b in
    record {
      size = omega (arith, length_push nodes node, length_push c.nexts (get_or c.heads b 0));
      begins = λ a. elim (cases_eq a b) [
        | inl e ↦ let new : get_or (in_front c b).heads a 0 ≡ suc (length c.nexts) = ap (λ n. get_or (in_front c b).heads n 0) e ∙ get_or-set_same c.heads b (suc (length c.nexts)) 0 lt in omega (arith, length_push nodes node)
        | inr ne ↦ let same : get_or (in_front c b).heads a 0 ≡ get_or c.heads a 0 = get_or-set_other c.heads b a (suc (length c.nexts)) 0 ne in let was : get_or c.heads a 0 ≤ length nodes = h.begins a in omega (arith, length_push nodes node)
      ];
      falls = λ i within. elim (cases_lt i (length c.nexts)) [
        | inl below ↦ let same : get_or (in_front c b).nexts i 0 ≡ get_or c.nexts i 0 = get_or_append_left c.nexts (get_or c.heads b 0 ∷ []) 0 i below in let was : get_or c.nexts i 0 ≤ i = h.falls i below in omega arith
        | inr le ↦
            let at : length c.nexts ≡ i = omega (arith, length_push c.nexts (get_or c.heads b 0)) in
            let new : get_or (in_front c b).nexts i 0 ≡ get_or c.heads b 0 = get_or_push c.nexts (get_or c.heads b 0) 0 i at in omega arith
      ];
      chained = λ k within.
          subst (λ (count : ℕ). OnChain (in_front c b).nexts (get_or (in_front c b).heads (bucket_of count (node_at (nodes ++ node ∷ []) k)) 0) k) (sym (length-set c.heads b (suc (length c.nexts))))
          (each_on_chain nodes c node b h is lt k within);
    }

-- each chain is empty
pub chained_none : (c : ChainsOf) → c.nexts ≡ [] → ((b : ℕ) → get_or c.heads b 0 ≡ 0) → IsChained [] c
chained_none c none zeros = record {
  size = ap length none;
  begins = λ b. let z : get_or c.heads b 0 ≡ 0 = zeros b in omega arith;
  falls = λ i lt. let e : length c.nexts ≡ 0 = ap length none in absurd (omega arith);
  chained = λ k lt. absurd (omega arith);
}
