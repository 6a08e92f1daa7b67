-- A table of which each node is reached from a list has as many nodes as the functions of the list need.
use Rattle.std.proofs.Common.{◌≡◌, ℕ, suc, ◌<◌, List, [], Bool, false, length, map, get_or, refl, sym, ◌∙◌, ap, subst, arith}
use Rattle.std.specs.List.{range_with_len}
use Rattle.std.proofs.lemmas.List.{get_or-map, length-map}
use Rattle.std.proofs.lemmas.List.FromFn.{length-map-range_with_len, get_or-map-range_with_len}
use Rattle.cov_dd.specs.declared.node.Ref.{Ref}
use Rattle.cov_dd.specs.declared.node.Ref.TheVariants.{Constant, Inner}
use Rattle.cov_dd.specs.Nodes.{TableOf, node_at, den, IsTable}
use Rattle.cov_dd.specs.Cofactors.{IsCofactor}
use Rattle.cov_dd.specs.Need.{IsNeeded, NeedMoreThan}
use Rattle.cov_dd.specs.Reached.{AllLive, AllReached, SizeIsNeed, IsCollected, ref_at}
use Rattle.cov_dd.proofs.NeedLemmas.{pair_of, pair_needed, pair_distinct, need_no_more}
use Rattle.cov_dd.proofs.ReachLemmas.{reached_cofactor}

-- where each node stands for a cofactor of one of the functions, they need as many nodes as stand
pub need_standing : (t : TableOf) (functions : List (List Bool → Bool)) → IsTable t.levels t.nodes
    → ((i : ℕ) → i < length t.nodes → (k : ℕ) × (k < length functions) × IsCofactor t.levels (get_or functions k (λ _. false)) (node_at t.nodes i).level (den t.nodes (Inner i)))
    → (count : ℕ) → count < length t.nodes → NeedMoreThan t.levels functions count
need_standing t functions table each count lt =
    let pairs : List (ℕ × List Bool) = map (pair_of t.levels t.nodes) (range_with_len 0 (suc count)) in
    let len : length pairs ≡ suc count = length-map-range_with_len (pair_of t.levels t.nodes) 0 (suc count) in
    let at : (i : ℕ) → i < suc count → get_or pairs i (0, []) ≡ pair_of t.levels t.nodes i = λ i li. get_or-map-range_with_len (pair_of t.levels t.nodes) 0 (suc count) i i (0, []) li (omega arith) in (
      pairs,
      len,
      record {
        each = λ i li.
            let within : i < length t.nodes = omega arith in
            let (k, lk, cofactor) = each i within in
            subst (IsNeeded t.levels functions) (sym (at i (omega arith))) (pair_needed t.levels t.nodes table functions i k within lk cofactor);
        distinct = λ i j li lj e. pair_distinct t.levels t.nodes table i j (omega arith) (omega arith) (sym (at i (omega arith)) ∙ e ∙ at j (omega arith));
      },
    )

-- the function of a diagram of a list
function_at : (t : TableOf) (refs : List Ref) (k : ℕ) → k < length refs → get_or (map (den t.nodes) refs) k (λ _. false) ≡ den t.nodes (ref_at refs k)
function_at t refs k lt = get_or-map (den t.nodes) refs k (Constant false) (λ _. false) lt

pub size_is_need : (t : TableOf) (refs : List Ref) → IsTable t.levels t.nodes → AllLive t.nodes refs → AllReached t.nodes refs → SizeIsNeed t refs
size_is_need t refs table live reached count =
    let n : length (map (den t.nodes) refs) ≡ length refs = length-map refs (den t.nodes) in (
      need_no_more t table (map (den t.nodes) refs) (λ k lk. (
        ref_at refs k,
        live k (omega arith),
        λ row len. ap (λ (f : List Bool → Bool). f row) (sym (function_at t refs k (omega arith))),
      )) count,
      need_standing t (map (den t.nodes) refs) table (λ i li.
          let (k, lk, r) = reached i li in (
            k,
            omega arith,
            subst (λ (f : List Bool → Bool). IsCofactor t.levels f (node_at t.nodes i).level (den t.nodes (Inner i))) (sym (function_at t refs k lk))
                (reached_cofactor t.levels t.nodes table (ref_at refs k) (Inner i) r (live k lk) i refl),
          )) count,
    )

-- after a collection
pub collected_size : (old new : TableOf) (before after : List Ref) → IsCollected old new before after → SizeIsNeed new after
collected_size old new before after c =
    let count : length after ≡ length before = c.count in
    size_is_need new after c.table (λ k lk. (c.each k (omega arith)).live) c.reached
