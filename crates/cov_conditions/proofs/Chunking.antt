-- Chunks of the values of a DEFINE, and their families.
use Rattle.std.proofs.Common.{◌≡◌, ℕ, zero, suc, ◌+◌, ◌-◌, ◌*◌, ◌<◌, ◌≤◌, min, Bool, true, false, ◌||◌, IsTrue, IsFalse, List, [], ◌∷◌, ◌++◌, map, length, take, drop, Option, Some, None, ℤ, pos, ◌+ℤ◌, inl, inr, refl, sym, ap, ap₂, subst, ◌∙◌, arith, length-append}
use Rattle.std.specs.Prelude.{slice_get}
use Rattle.std.specs.Option.{option_map_or}
use Rattle.std.proofs.Math.Nat.{mul-le-mul_left, mul-le-mul_right}
use Rattle.std.proofs.lemmas.Bool.{cases_lt}
use Rattle.std.proofs.lemmas.List.{get_or_append_left, get_or_at}
use Rattle.cov_syntax.specs.declared.tree.Value.{Value}
use Rattle.cov_syntax.specs.declared.tree.Value.TheVariants as v
use Rattle.cov_model.specs.declared.model.Define.{Define}
use Rattle.cov_model.specs.declared.model.Model.{Model}
use Rattle.cov_model.specs.declared.model.Signal.{Signal}
use Rattle.cov_model.specs.Kinds.{Kind, boolean, interval, among, is_boolean, is_truth, integers, count, member, values_of}
use Rattle.cov_model.specs.Kinds as kinds
use Rattle.cov_model.specs.Meaning.{define}
use Rattle.cov_model.specs.Settled.{kinds_of}
use Rattle.cov_model.specs.States.{State, is_typed, readings_in}
use Rattle.cov_model.specs.Types.{has_twice}
use Rattle.cov_model.specs.Values.{same_value}
use Rattle.cov_model.specs.Walk.{own}
use Rattle.cov_space.specs.declared.layer.Layer.{Layer}
use Rattle.cov_space.specs.Sets.{SpaceOf, set_at}
use Rattle.cov_space.specs.Steps.{with_more}
use Rattle.cov_space.proofs.Calls.{at_behind, push_behind}
use Rattle.cov_types.specs.Roots.{sets_of}
use Rattle.cov_nodes.specs.declared.defined.Standing as standing
use Rattle.cov_nodes.specs.Choices.{IsChunk, IsFamily, PutsFamily, ones}
use Rattle.cov_nodes.specs.Points.{at_layer}
use Rattle.cov_nodes.specs.Standing.{chunk, chunk_size, define_choice}
use Rattle.cov_nodes.proofs.Chunking.{few_in_chunk, size_field, some_in_chunk, some_size}
use Rattle.cov_expressions.specs.declared.scope.Scope.{Scope}
use Rattle.cov_expressions.specs.Scopes.{IsScope}
use Rattle.cov_ranges.specs.Ranges.{range_of}
use Rattle.cov_conditions.specs.Asked.{asked}
use Rattle.cov_conditions.specs.Bodies.{PutsChunks, PutsDefine, sets_at}
use Rattle.cov_conditions.proofs.Asking.{length-asked, length-dropped, twice_asked}
use Rattle.cov_conditions.proofs.Standings.{standing_more}

-- ---- parts of lists

take_whole : {A : Type 0} (n : ℕ) (xs : List A) → length xs ≤ n → take n xs ≡ xs
take_whole zero [] le = refl
take_whole (suc n) [] le = refl
take_whole zero (x ∷ xs) le = absurd (omega arith)
take_whole (suc n) (x ∷ xs) le = ap (λ ys. x ∷ ys) (take_whole n xs (omega arith))

-- the values up to the next chunk, or to the end, are a chunk
pub chunk_taken : (size k stop : ℕ) (xs : List Value) → k * size < length xs → stop ≡ min (length xs) (k * size + size) → take (stop - k * size) (drop (k * size) xs) ≡ chunk size xs k
chunk_taken size k stop xs lt is = elim (cases_lt (length xs) (k * size + size)) [
  | inl short ↦
      let rest : k * size + length (drop (k * size) xs) ≡ length xs = length-dropped xs (k * size) (omega arith) in
      take_whole (stop - k * size) (drop (k * size) xs) (omega arith) ∙ sym (take_whole size (drop (k * size) xs) (omega arith))
  | inr long ↦ let e : stop - k * size ≡ size = omega arith in ap (λ n. take n (drop (k * size) xs)) e
]

none_either : (a b : Bool) → IsFalse (a || b) → IsFalse a × IsFalse b
none_either false b h = (refl, h)
none_either true b h = cc

none_both : (a b : Bool) → IsFalse a → IsFalse b → IsFalse (a || b)
none_both false b h k = k
none_both true b h k = cc

member_taken : (n : ℕ) (xs : List Value) (x : Value) → IsFalse (member xs x) → IsFalse (member (take n xs) x)
member_taken zero [] x h = refl
member_taken zero (y ∷ ys) x h = refl
member_taken (suc n) [] x h = refl
member_taken (suc n) (y ∷ ys) x h = let s = none_either (same_value y x) (member ys x) h in none_both (same_value y x) (member (take n ys) x) s.0 (member_taken n ys x s.1)

twice_taken : (n : ℕ) (xs : List Value) → IsFalse (has_twice xs) → IsFalse (has_twice (take n xs))
twice_taken zero [] h = refl
twice_taken zero (x ∷ xs) h = refl
twice_taken (suc n) [] h = refl
twice_taken (suc n) (x ∷ xs) h = let s = none_either (member xs x) (has_twice xs) h in none_both (member (take n xs) x) (has_twice (take n xs)) (member_taken n xs x s.0) (twice_taken n xs s.1)

twice_dropped : (n : ℕ) (xs : List Value) → IsFalse (has_twice xs) → IsFalse (has_twice (drop n xs))
twice_dropped zero xs h = h
twice_dropped (suc n) [] h = refl
twice_dropped (suc n) (x ∷ xs) h = twice_dropped n xs (none_either (member xs x) (has_twice xs) h).1

-- ---- chunks

pub chunk_asked : (levels k : ℕ) (b : Bool) (xs : List Value) → k * chunk_size levels < length xs → IsFalse (has_twice xs) → IsChunk levels (map (asked b) (chunk (chunk_size levels) xs k))
chunk_asked levels k b xs lt once =
    let size : ℕ = chunk_size levels in
    let ys : List Value = chunk size xs k in
    let e : length (map (asked b) ys) ≡ length ys = length-asked b ys in
    let some : 0 < length ys = some_in_chunk size xs k (some_size levels) lt in
    let few : length ys ≤ size = few_in_chunk size xs k in
    record {
      some = omega (arith, e, some);
      few = omega (arith, e, few);
      fits = size_field levels (length (map (asked b) ys)) (omega (arith, e, some)) (omega (arith, e, few));
      once = twice_asked b ys ∙ twice_taken size (drop (k * size) xs) (twice_dropped (k * size) xs once);
    }

-- what is asked for a chunk
pub asked_is : (levels size k stop : ℕ) (b c : Bool) (xs found slice : List Value) → size ≡ chunk_size levels → b ≡ c → stop ≡ min (length xs) (k * size + size) → k * size < length xs
    → found ≡ map (asked b) (take (stop - k * size) (drop (k * size) xs)) → slice ≡ found → slice ≡ map (asked c) (chunk (chunk_size levels) xs k)
asked_is levels size k stop b c xs found slice e same end lt made is =
    is ∙ made
    ∙ ap (map (asked b)) (chunk_taken size k stop xs lt end)
    ∙ ap₂ (λ (f : Bool) (n : ℕ). map (asked f) (chunk n xs k)) same e

-- ---- the families of chunks

abbrev FamilyOf : SpaceOf → Model → Layer → Option Signal → ℕ → List Value → ℕ → List Bool → Type 0
FamilyOf old m layer flip i xs j set = IsFamily old.levels m (at_layer layer flip) (chunk (chunk_size old.levels) xs j) (define_choice i) set

pub record Chunks (old s : SpaceOf) (m : Model) (layer : Layer) (flip : Option Signal) (i : ℕ) (xs : List Value) (k : ℕ) : Type 0 where
  pub more : List (List Bool)
  pub is : s ≡ with_more old more
  pub count : length more ≡ k
  pub families : (j : ℕ) → j < k → IsFamily old.levels m (at_layer layer flip) (chunk (chunk_size old.levels) xs j) (define_choice i) (set_at more j)

-- one more chunk
pub chunks_turn : (old s new : SpaceOf) (m : Model) (layer : Layer) (flip : Option Signal) (i : ℕ) (xs : List Value) (k : ℕ) → Chunks old s m layer flip i xs k
    → PutsFamily s new m (at_layer layer flip) (chunk (chunk_size old.levels) xs k) (define_choice i) → Chunks old new m layer flip i xs (k + 1)
chunks_turn old s new m layer flip i xs k c p = record {
  more = c.more ++ p.set ∷ [];
  is = push_behind old s new c.more p.set c.is p.puts;
  count = let e = length-append c.more (p.set ∷ []) in let n = c.count in omega (arith, e, n);
  families = λ j lt. elim (cases_lt j k) [
    | inl below ↦ let n = c.count in subst (FamilyOf old m layer flip i xs j) (sym (get_or_append_left c.more (p.set ∷ []) [] j (omega (arith, n)))) (c.families j below)
    | inr here ↦ last j (omega arith)
  ];
}
  where
    at_last : set_at (c.more ++ p.set ∷ []) k ≡ p.set
    at_last = get_or_at c.more p.set [] [] k c.count

    last : (j : ℕ) → j ≡ k → FamilyOf old m layer flip i xs j (set_at (c.more ++ p.set ∷ []) j)
    last j e =
        subst (λ (n : ℕ). FamilyOf old m layer flip i xs n (set_at (c.more ++ p.set ∷ []) n)) (sym e)
        (subst (FamilyOf old m layer flip i xs k) (sym at_last)
        (subst (λ (n : ℕ). IsFamily n m (at_layer layer flip) (chunk (chunk_size old.levels) xs k) (define_choice i) p.set) (ap (λ (z : SpaceOf). z.levels) c.is) p.is))

times_least : (j k size : ℕ) → k ≤ j → k * size ≤ j * size
times_least j k size le = mul-le-mul_right size le

pub number_below : (k size n : ℕ) → k * size < n → 0 < size → k < n
number_below k size n lt some = let e = mul-le-mul_left k some in omega (arith, e)

-- all of them
pub chunks_all : (old s : SpaceOf) (m : Model) (layer : Layer) (flip : Option Signal) (i : ℕ) (xs : List Value) (k : ℕ) → Chunks old s m layer flip i xs k → k ≤ length xs → length xs ≤ k * chunk_size old.levels
    → PutsChunks old s m layer flip i xs
chunks_all old s m layer flip i xs k c within whole = record {
  more = c.more;
  is = c.is;
  few = let n = c.count in omega (arith, n);
  there = λ j lt. let n = c.count in let h = below j lt in omega (arith, n, h);
  families = λ j lt. c.families j (below j lt);
}
  where
    below : (j : ℕ) → j * chunk_size old.levels < length xs → j < k
    below j lt = elim (cases_lt j k) [ inl h ↦ h | inr h ↦ (let e = times_least j k (chunk_size old.levels) h in absurd (omega (arith, e))) ]

-- ---- where further sets stand

pub scope_more : (old s : SpaceOf) (more : List (List Bool)) (scope : Scope) → s ≡ with_more old more → IsScope old scope → IsScope s scope
scope_more old s more scope is h = record {
  formed = h.formed;
  plan = h.plan;
  levels = ap (λ (z : SpaceOf). z.levels) is ∙ h.levels;
  here = standing_more old s more scope.m.now scope.at.present scope.at.flip scope.here.now is h.here;
  there = standing_more old s more scope.m.now scope.at.next None scope.there.now is h.there;
}

-- ---- the sets of a DEFINE

truth_member : (x : Value) → IsTrue (member (values_of boolean) x) → IsTrue (is_truth x)
truth_member (v.Bool b) h = refl
truth_member (v.Int n) h = cc
truth_member (v.Sym n) h = cc

integers_length : (n : ℕ) (low : ℤ) → length (integers low n) ≡ n
integers_length zero low = refl
integers_length (suc n) low = ap suc (integers_length n (low +ℤ pos 1))

values_length : (k : Kind) → length (values_of k) ≡ kinds.width k
values_length boolean = refl
values_length (interval low high) = integers_length (count low high) low
values_length (among xs) = refl

truth_sets : (k : Kind) → values_of k ≡ values_of boolean → 1 ≤ sets_of k
truth_sets boolean e = omega arith
truth_sets (interval low high) e = let n = ap (λ (xs : List Value). length xs) e in let l = values_length (interval low high) in omega (arith, n, l)
truth_sets (among xs) e = let n = ap (λ (xs : List Value). length xs) e in omega (arith, n)

chunk_sets : (k : Kind) → (values_of k ≡ values_of boolean → ⊥) → length (values_of k) ≤ sets_of k
chunk_sets boolean f = absurd (f refl)
chunk_sets (interval low high) f = let l = values_length (interval low high) in omega (arith, l)
chunk_sets (among xs) f = omega arith

sets_there : (m : Model) (i : ℕ) (d : Define) → slice_get m.defines i ≡ Some d → sets_at m i ≡ sets_of (own (kinds_of m) d.body)
sets_there m i d at = ap (λ (o : Option Define). option_map_or (λ (d : Define). sets_of (own (kinds_of m) d.body)) o 0) at

pub values_room : (m : Model) (i : ℕ) (d : Define) (xs : List Value) → slice_get m.defines i ≡ Some d → xs ≡ range_of m d.body → (xs ≡ values_of boolean → ⊥) → length xs ≤ sets_at m i
values_room m i d xs at is other =
    let h = chunk_sets (own (kinds_of m) d.body) (λ e. other (is ∙ e)) in
    let n = ap (λ (ys : List Value). length ys) is in
    let s = sets_there m i d at in
    omega (arith, h, n, s)

module _ (old new : SpaceOf) (m : Model) (layer : Layer) (flip : Option Signal) (i : ℕ) (d : Define) (at : slice_get m.defines i ≡ Some d)
    (listed : (t : State) → IsTrue (is_typed m t) → IsTrue (member (range_of m d.body) (define (readings_in m t flip) i))) where
  -- as a truth
  pub truth_puts : (slot : ℕ) → length old.sets ≡ slot → range_of m d.body ≡ values_of boolean → PutsFamily old new m (at_layer layer flip) ones (define_choice i) → PutsDefine old new m layer flip i (standing.TheVariants.Truth slot)
  truth_puts slot count is p = record {
    more = p.set ∷ [];
    is = p.puts.is;
    few = let h = truth_sets (own (kinds_of m) d.body) is in let s = sets_there m i d at in omega (arith, h, s);
    stands = record {
      there = let n = p.puts.count in omega (arith, n);
      boolean = λ t typed. truth_member (define (readings_in m t flip) i) (subst (λ (xs : List Value). IsTrue (member xs (define (readings_in m t flip) i))) is (listed t typed));
      is = subst (λ (x : List Bool). IsFamily new.levels m (at_layer layer flip) ones (define_choice i) x) (sym (at_behind old new (p.set ∷ []) slot 0 p.puts.is (omega arith)))
          (subst (λ (n : ℕ). IsFamily n m (at_layer layer flip) ones (define_choice i) p.set) (sym (ap (λ (z : SpaceOf). z.levels) p.puts.is)) p.is);
    };
  }

  -- in chunks
  pub chunks_put : (slot : ℕ) (xs : List Value) → length old.sets ≡ slot → xs ≡ range_of m d.body → length xs ≤ 1024 → IsFalse (has_twice xs) → length xs ≤ sets_at m i → PutsChunks old new m layer flip i xs
      → PutsDefine old new m layer flip i (standing.TheVariants.Chunks slot xs)
  chunks_put slot xs count is few once room p =
      let same : old.levels ≡ new.levels = sym (ap (λ (z : SpaceOf). z.levels) p.is) in
      record {
        more = p.more;
        is = p.is;
        few = let f = p.few in omega (arith, f);
        stands = record {
          listed = λ t typed. subst (λ (ys : List Value). IsTrue (member ys (define (readings_in m t flip) i))) (sym is) (listed t typed);
          few = few;
          once = once;
          there = λ k lt. let h = p.there k (small k lt) in let n = ap (λ (z : SpaceOf). length z.sets) p.is in let e = length-append old.sets p.more in omega (arith, h, n, e);
          is = λ k lt. subst (λ (n : ℕ). IsFamily n m (at_layer layer flip) (chunk (chunk_size n) xs k) (define_choice i) (set_at new.sets (slot + k))) same
              (subst (λ (x : List Bool). IsFamily old.levels m (at_layer layer flip) (chunk (chunk_size old.levels) xs k) (define_choice i) x)
              (sym (at_behind old new p.more (slot + k) k p.is (omega arith))) (p.families k (small k lt)));
        };
      }
    where
      small : (k : ℕ) → k * chunk_size new.levels < length xs → k * chunk_size old.levels < length xs
      small k lt = subst (λ (n : ℕ). k * chunk_size n < length xs) (ap (λ (z : SpaceOf). z.levels) p.is) lt
