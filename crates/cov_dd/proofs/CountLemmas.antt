-- How often `mk` is called for a question: at most once for each of its parts.
use Rattle.std.proofs.Common.{◌≡◌, ℕ, zero, suc, ◌<◌, ◌≤◌, ◌+◌, ◌⊎◌, List, [], ◌∷◌, ◌++◌, Bool, true, false, length, get_or, refl, sym, ◌∙◌, ap, subst, arith, length-append, inl, inr}
use Rattle.std.proofs.lemmas.List.{get_or_append_left}
use Rattle.cov_dd.specs.declared.node.Ref.{Ref}
use Rattle.cov_dd.specs.declared.node.Ref.TheVariants.{Constant}
use Rattle.cov_dd.specs.declared.node.Part.{Part}
use Rattle.cov_dd.specs.declared.questions.Question.{Question}
use Rattle.cov_dd.specs.declared.questions.Question.TheVariants.{Apply, Negate, Restrict}
use Rattle.cov_dd.specs.Nodes.{TableOf, no_node, node_at, rank, IsTable, Extends}
use Rattle.cov_dd.specs.Reached.{Reaches}
use Rattle.cov_dd.specs.Reached.Reaches.{here, by_low, by_high}
use Rattle.cov_dd.specs.Questions.{IsAsked, IsPart, IsHalf, weight}
use Rattle.cov_dd.specs.Memo.{HasKey, Counted, question_at}
use Rattle.cov_dd.proofs.ReachLemmas.{reach_rank}
use Rattle.cov_dd.proofs.MarkLemmas.{reach_trans}
use Rattle.cov_dd.proofs.Joined.{at_append, distinct_append}

-- a table that grew adds no parts to a diagram
reach_back : (s t : TableOf) → IsTable s.levels s.nodes → Extends s t → (f g : Ref) → rank f ≤ length s.nodes → Reaches t.nodes f g → Reaches s.nodes f g
reach_back s t table e _ _ live (here f) = here f
reach_back s t table e _ _ live (by_low i g r) =
    let within : i < length s.nodes = omega arith in
    let same : node_at t.nodes i ≡ node_at s.nodes i = ap (λ (x : List Part). node_at x i) e.nodes ∙ get_or_append_left s.nodes e.more no_node i within in
    let before : rank (node_at s.nodes i).low ≤ i = (table.placed i within).low_before in
    let before' : rank (node_at t.nodes i).low ≤ i = subst (λ (n : Part). rank n.low ≤ i) (sym same) before in
    by_low i g (subst (λ (n : Part). Reaches s.nodes n.low g) same (reach_back s t table e (node_at t.nodes i).low g (omega arith) r))
reach_back s t table e _ _ live (by_high i g r) =
    let within : i < length s.nodes = omega arith in
    let same : node_at t.nodes i ≡ node_at s.nodes i = ap (λ (x : List Part). node_at x i) e.nodes ∙ get_or_append_left s.nodes e.more no_node i within in
    let before : rank (node_at s.nodes i).high ≤ i = (table.placed i within).high_before in
    let before' : rank (node_at t.nodes i).high ≤ i = subst (λ (n : Part). rank n.high ≤ i) (sym same) before in
    by_high i g (subst (λ (n : Part). Reaches s.nodes n.high g) same (reach_back s t table e (node_at t.nodes i).high g (omega arith) r))

-- ---- parts of a question

pub part_here : (nodes : List Part) (q : Question) → IsPart nodes q q
part_here nodes (Apply op f g) = (f, g, refl, here f, here g)
part_here nodes (Negate f) = (f, refl, here f)
part_here nodes (Restrict f level bit) = (f, refl, here f)

pub part_trans : (nodes : List Part) (q h p : Question) → IsPart nodes q h → IsPart nodes h p → IsPart nodes q p
part_trans nodes (Apply op f g) h p (x, y, e, a, b) r =
    let (x', y', e', a', b') = subst (λ (k : Question). IsPart nodes k p) e r in
    (x', y', e', reach_trans nodes f x x' a a', reach_trans nodes g y y' b b')
part_trans nodes (Negate f) h p (x, e, a) r = let (x', e', a') = subst (λ (k : Question). IsPart nodes k p) e r in (x', e', reach_trans nodes f x x' a a')
part_trans nodes (Restrict f level bit) h p (x, e, a) r = let (x', e', a') = subst (λ (k : Question). IsPart nodes k p) e r in (x', e', reach_trans nodes f x x' a a')

part_back : (s t : TableOf) → IsTable s.levels s.nodes → Extends s t → (q p : Question) → IsAsked s q → IsPart t.nodes q p → IsPart s.nodes q p
part_back s t table e (Apply op f g) p asked (x, y, is, a, b) = (x, y, is, reach_back s t table e f x asked.0 a, reach_back s t table e g y asked.1 b)
part_back s t table e (Negate f) p asked (x, is, a) = (x, is, reach_back s t table e f x asked a)
part_back s t table e (Restrict f level bit) p asked (x, is, a) = (x, is, reach_back s t table e f x asked.0 a)

-- parts stand before it
part_weight : (s : TableOf) → IsTable s.levels s.nodes → (q p : Question) → IsAsked s q → IsPart s.nodes q p → weight p ≤ weight q
part_weight s table (Apply op f g) p asked (x, y, is, a, b) =
    let lx : rank x ≤ rank f = reach_rank s.levels s.nodes table f x a asked.0 in
    let ly : rank y ≤ rank g = reach_rank s.levels s.nodes table g y b asked.1 in
    let same : weight p ≡ rank x + rank y = ap weight is in
    omega arith
part_weight s table (Negate f) p asked (x, is, a) =
    let lx : rank x ≤ rank f = reach_rank s.levels s.nodes table f x a asked in
    let same : weight p ≡ rank x = ap weight is in
    omega arith
part_weight s table (Restrict f level bit) p asked (x, is, a) =
    let lx : rank x ≤ rank f = reach_rank s.levels s.nodes table f x a asked.0 in
    let same : weight p ≡ rank x = ap weight is in
    omega arith

-- ---- the count over the steps of a call

-- `mk` was not called
pub counted_none : (s : TableOf) (answers : List (Question × Ref)) (q : Question) (ok : Bool) → Counted s s answers answers q ok
counted_none s answers q ok = record {
  tried = [];
  calls = omega arith;
  distinct = λ i j li lj e. absurd (omega arith);
  parts = λ i lt. absurd (omega arith);
  fresh = λ i lt. absurd (omega arith);
  kept = λ p h. h;
  only = λ p h. inl h;
  answered = λ e i lt. absurd (omega arith);
}

pub counted_low : (s t : TableOf) (before after : List (Question × Ref)) (q h : Question) (ok : Bool) → IsHalf s q h → Counted s t before after h ok → Counted s t before after q ok
counted_low s t before after q h ok half c = record {
  tried = c.tried;
  calls = c.calls;
  distinct = c.distinct;
  parts = λ i lt. part_trans s.nodes q h _ half.part (c.parts i lt);
  fresh = c.fresh;
  kept = c.kept;
  only = λ p k. elim (c.only p k) [ inl old ↦ inl old | inr r ↦ inr (part_trans s.nodes q h p half.part r) ];
  answered = c.answered;
}

pub counted_high : (s t u : TableOf) (first second third : List (Question × Ref)) (q h k : Question) (ok : Bool) → IsTable s.levels s.nodes → Extends s t → IsHalf s q h → IsHalf s q k
    → Counted s t first second h true → Counted t u second third k ok → Counted s u first third q ok
counted_high s t u first second third q h k ok table e at_low at_high c d =
    record {
      tried = c.tried ++ d.tried;
      calls = let m : t.calls ≤ s.calls + length c.tried = c.calls in let n : u.calls ≤ t.calls + length d.tried = d.calls in omega (arith, length-append c.tried d.tried);
      distinct = distinct_append (Negate (Constant false)) c.tried d.tried c.distinct d.distinct (λ i j li lj same. d.fresh j lj (subst (HasKey second) same (c.answered refl i li)));
      parts = at_append (Negate (Constant false)) (IsPart s.nodes q) c.tried d.tried
          (λ i lt. part_trans s.nodes q h _ at_low.part (c.parts i lt))
          (λ i lt. part_trans s.nodes q k _ at_high.part (part_back s t table e k _ at_high.asked (d.parts i lt)));
      fresh = at_append (Negate (Constant false)) (λ p. HasKey first p → ⊥) c.tried d.tried c.fresh (λ i lt x. d.fresh i lt (c.kept _ x));
      kept = λ p x. d.kept p (c.kept p x);
      only = λ p x. elim (d.only p x) [
        | inl old ↦ elim (c.only p old) [ inl older ↦ inl older | inr r ↦ inr (part_trans s.nodes q h p at_low.part r) ]
        | inr r ↦ inr (part_trans s.nodes q k p at_high.part (part_back s t table e k p at_high.asked r))
      ];
      answered = λ yes. at_append (Negate (Constant false)) (HasKey third) c.tried d.tried (λ i lt. d.kept _ (c.answered refl i lt)) (d.answered yes);
    }

-- the place of a list of one
one : (P : Question → Type 0) (q : Question) → P q → (i : ℕ) → i < length (q ∷ []) → P (get_or (q ∷ []) i (Negate (Constant false)))
one P q p zero lt = p
one P q p (suc i) lt = absurd (omega arith)

-- both calls, and that their parts are not the question itself
pub record Below (s u : TableOf) (before after : List (Question × Ref)) (q : Question) : Type 0 where
  pub counted : Counted s u before after q true
  pub below : (i : ℕ) → i < length counted.tried → weight (question_at counted.tried i) < weight q
  pub absent : HasKey after q → ⊥

pub both_below : (s t u : TableOf) (first second third : List (Question × Ref)) (q h k : Question) → IsTable s.levels s.nodes → Extends s t → IsHalf s q h → IsHalf s q k → (HasKey first q → ⊥)
    → Counted s t first second h true → Counted t u second third k true → Below s u first third q
unfolding counted_high
both_below s t u first second third q h k table e at_low at_high new c d =
    let less : weight h < weight q = at_low.falls in
    let less' : weight k < weight q = at_high.falls in
    record {
      counted = counted_high s t u first second third q h k true table e at_low at_high c d;
      below = at_append (Negate (Constant false)) (λ p. weight p < weight q) c.tried d.tried
          (λ i lt. let r : weight (question_at c.tried i) ≤ weight h = part_weight s table h _ at_low.asked (c.parts i lt) in omega arith)
          (λ i lt. let r : weight (question_at d.tried i) ≤ weight k = part_weight s table k _ at_high.asked (part_back s t table e k _ at_high.asked (d.parts i lt)) in omega arith);
      absent = λ x. elim (d.only q x) [
        | inl old ↦ elim (c.only q old) [
          | inl older ↦ new older
          | inr r ↦ let n : weight q ≤ weight h = part_weight s table h q at_low.asked r in omega arith
        ]
        | inr r ↦ let n : weight q ≤ weight k = part_weight s table k q at_high.asked (part_back s t table e k q at_high.asked r) in omega arith
      ];
    }

-- one call of `mk` more, for the question itself
pub counted_mk : (s u v : TableOf) (before middle after : List (Question × Ref)) (q : Question) (ok : Bool) → v.calls ≤ u.calls + 1 → (HasKey before q → ⊥) → ((p : Question) → HasKey middle p → HasKey after p) → ((p : Question) → HasKey after p → HasKey middle p ⊎ (q ≡ p)) → (ok ≡ true → HasKey after q)
    → Below s u before middle q → Counted s v before after q ok
counted_mk s u v before middle after q ok calls new keeps only done b =
    record {
      tried = b.counted.tried ++ q ∷ [];
      calls = let n : u.calls ≤ s.calls + length b.counted.tried = b.counted.calls in omega (arith, length-append b.counted.tried (q ∷ []));
      distinct = distinct_append (Negate (Constant false)) b.counted.tried (q ∷ []) b.counted.distinct (λ i j li lj e. omega arith)
          (λ i j li lj e.
          let k : weight (question_at b.counted.tried i) < weight q = b.below i li in
          let z : j ≡ 0 = omega arith in
          let same : question_at b.counted.tried i ≡ q = e ∙ ap (λ n. get_or (q ∷ []) n (Negate (Constant false))) z in
          let r : weight (question_at b.counted.tried i) ≡ weight q = ap weight same in omega arith);
      parts = at_append (Negate (Constant false)) (IsPart s.nodes q) b.counted.tried (q ∷ []) b.counted.parts (one (IsPart s.nodes q) q (part_here s.nodes q));
      fresh = at_append (Negate (Constant false)) (λ p. HasKey before p → ⊥) b.counted.tried (q ∷ []) b.counted.fresh (one (λ p. HasKey before p → ⊥) q new);
      kept = λ p h. keeps p (b.counted.kept p h);
      only = λ p h. elim (only p h) [ inl old ↦ b.counted.only p old | inr e ↦ inr (subst (IsPart s.nodes q) e (part_here s.nodes q)) ];
      answered = λ yes. at_append (Negate (Constant false)) (HasKey after) b.counted.tried (q ∷ []) (λ i lt. keeps _ (b.counted.answered refl i lt)) (one (HasKey after) q (done yes));
    }
