-- The steps of the walk over an expression: what stands after each of its calls.
use Rattle.std.proofs.Common.{◌≡◌, ℕ, zero, suc, ◌+◌, ◌*◌, ◌<◌, ◌≤◌, List, [], ◌∷◌, ◌++◌, Bool, false, ◌||◌, ◌&&◌, ◌⊎◌, inl, inr, if◌then◌else◌, IsTrue, map, length, take, drop, get_or, Some, Result, Ok, Err, OnOk, IfErr, refl, sym, ◌∙◌, ap, subst, arith, length-append}
use Rattle.std.specs.Prelude.{slice_get}
use Rattle.std.specs.List.{list_any}
use Rattle.std.specs.Int.{div_ceil}
use Rattle.std.proofs.Math.Path.{fun_ext}
use Rattle.std.proofs.lemmas.Bool.{cases_lt}
use Rattle.std.proofs.lemmas.List.{get_or_append_left, get_or_at, append-nil}
use Rattle.std.proofs.lemmas.List.Folds.{list_any_more}
use Rattle.std.proofs.lemmas.Grind.{div_ceil_times}
use Rattle.std.proofs.lemmas.Option.{get_or_from_slice_get, slice_get_within, slice_get-get_or}
use Rattle.cov_syntax.specs.declared.tree.Value.{Value}
use Rattle.cov_syntax.specs.declared.tree.Op1.TheVariants as op1
use Rattle.cov_syntax.specs.declared.tree.Expr.{Expr}
use Rattle.cov_syntax.specs.declared.tree.Branch.{Branch}
use Rattle.cov_model.specs.declared.model.Model.{Model}
use Rattle.cov_model.specs.Meaning.{Point, Meaning, meaning, allows, prefixed}
use Rattle.cov_model.specs.States.{between}
use Rattle.cov_model.specs.Values.{truth, whole}
use Rattle.cov_model.proofs.Joined.{and_split, and_join}
use Rattle.cov_readings.specs.Single.{HasOneChoice}
use Rattle.cov_space.specs.declared.fault.SpaceFault.{SpaceFault}
use Rattle.cov_space.specs.Sets.{SpaceOf, set_at}
use Rattle.cov_space.specs.Steps.{with_more, Leaves}
use Rattle.cov_space.proofs.Calls.{push_behind, at_behind, more_trans}
use Rattle.cov_nodes.specs.declared.reading.Reading.{Reading}
use Rattle.cov_nodes.specs.Points.{is_point, has_typed, holds_states, moved_on, state_of}
use Rattle.cov_nodes.specs.Choices.{Choice, IsChunk, IsFamily, PutsFamily, is_true_at, ones, picked}
use Rattle.cov_nodes.specs.Standing.{chunk, chunk_size}
use Rattle.cov_expressions.specs.declared.scope.Scope.{Scope}
use Rattle.cov_expressions.specs.Needs.{CanPut, CanPutAll, IsList}
use Rattle.cov_expressions.specs.Parts.{AreFamilies, HasSets, HasFirst, HasOne, HasSome, PutsAll, any_choice, arm_choice, cut_to}
use Rattle.cov_expressions.proofs.Stack.{cut_back}
use Rattle.cov_expressions.proofs.Chunked.{IsSize, size_is, chunk_is, chunk_short, chunk_there}
use Rattle.cov_expressions.proofs.Gathering.{Joins, one_more, one_same, has_one}
use Rattle.cov_expressions.proofs.Families.{AreTyped, PutsSome, SameChoices, family_same, puts_same, typed_states}
use Rattle.cov_expressions.proofs.Meant.{true_is, next_meant}
use Rattle.cov_expressions.proofs.Needed.{scope_more}
use Rattle.cov_expressions.proofs.OneOf.{any_map}
use Rattle.cov_expressions.proofs.Tops.{branch_means}

-- ---- two sets behind those of before

pub record PutsTwo (n : ℕ) (old s : SpaceOf) (m : Model) (at : Reading) (xs ys : List Value) (f g : Choice) : Type 0 where
  pub more : List (List Bool)
  pub is : s ≡ with_more old more
  pub long : length more ≡ 2
  pub count : length s.sets ≡ n + 2
  pub places : s.places ≡ old.places
  pub levels : s.levels ≡ old.levels
  pub first : IsFamily s.levels m at xs f (set_at s.sets n)
  pub second : IsFamily s.levels m at ys g (set_at s.sets (n + 1))
  pub cut : cut_to n s ≡ old

pub put_two : (n : ℕ) (old s1 s2 : SpaceOf) (m : Model) (at : Reading) (xs ys : List Value) (f g : Choice) → length old.sets ≡ n → PutsFamily old s1 m at xs f → PutsFamily s1 s2 m at ys g → PutsTwo n old s2 m at xs ys f g
put_two n old s1 s2 m at xs ys f g count p q =
    let more : List (List Bool) = p.set ∷ q.set ∷ [] in
    let is : s2 ≡ with_more old (p.set ∷ q.set ∷ []) = push_behind old s1 s2 (p.set ∷ []) q.set p.puts.is q.puts in
    let levels : s2.levels ≡ old.levels = ap (λ (z : SpaceOf). z.levels) is in
    let middle : s1.levels ≡ old.levels = ap (λ (z : SpaceOf). z.levels) p.puts.is in
    record {
      more = more;
      is = is;
      long = refl;
      count = q.puts.count ∙ ap (λ k. k + 1) (p.puts.count ∙ ap (λ k. k + 1) count) ∙ two n;
      places = ap (λ (z : SpaceOf). z.places) is;
      levels = levels;
      first = subst (λ k. IsFamily k m at xs f (set_at s2.sets n)) (sym levels) (subst (λ (x : List Bool). IsFamily old.levels m at xs f x) (sym (at_behind old s2 (p.set ∷ q.set ∷ []) n 0 is (omega arith))) p.is);
      second = subst (λ k. IsFamily k m at ys g (set_at s2.sets (n + 1))) (middle ∙ sym levels) (subst (λ (x : List Bool). IsFamily s1.levels m at ys g x) (sym (at_behind old s2 (p.set ∷ q.set ∷ []) (n + 1) 1 is (omega arith))) q.is);
      cut = cut_back n old s2 (p.set ∷ q.set ∷ []) is count;
    }
  where
    two : (n : ℕ) → n + 1 + 1 ≡ n + 2
    two n = omega arith

-- what a call ensures beside the first n sets, where these are the sets of before
pub ok_at : (res : Result Unit SpaceFault) (n : ℕ) (old s new : SpaceOf) (m : Model) (at : Reading) (xs : List Value) (f : Choice) → cut_to n s ≡ old → OnOk res (PutsFamily (cut_to n s) new m at xs f) → OnOk res (PutsFamily old new m at xs f)
ok_at res n old s new m at xs f is h = subst (λ (z : SpaceOf). OnOk res (PutsFamily z new m at xs f)) is h

pub err_at : (res : Result Unit SpaceFault) (n : ℕ) (old s new : SpaceOf) → cut_to n s ≡ old → IfErr res (λ e. Leaves (cut_to n s) new e) → IfErr res (λ e. Leaves old new e)
err_at res n old s new is h = subst (λ (z : SpaceOf). IfErr res (λ e. Leaves z new e)) is h

pub leaves_at : (n : ℕ) (old s new : SpaceOf) (e : SpaceFault) → cut_to n s ≡ old → Leaves (cut_to n s) new e → Leaves old new e
leaves_at n old s new e is h = subst (λ (z : SpaceOf). Leaves z new e) is h

pub ok_same : (res : Result Unit SpaceFault) (old new : SpaceOf) (m : Model) (at : Reading) (xs : List Value) (f g : Choice) → SameChoices m at f g → OnOk res (PutsFamily old new m at xs f) → OnOk res (PutsFamily old new m at xs g)
ok_same (Ok x) old new m at xs f g h q = record { set = q.set; puts = q.puts; is = family_same old.levels m at xs f g q.set h q.is }
ok_same (Err e) old new m at xs f g h q = tt

pub ok_equal : (res : Result Unit SpaceFault) (old new : SpaceOf) (m : Model) (at : Reading) (xs : List Value) (f g : Choice) → f ≡ g → OnOk res (PutsFamily old new m at xs f) → OnOk res (PutsFamily old new m at xs g)
ok_equal res old new m at xs f g e h = subst (λ (k : Choice). OnOk res (PutsFamily old new m at xs k)) e h

-- ---- the chunks of a list

pub can_chunk : (old s : SpaceOf) (scope : Scope) (xs ys : List Value) (d k size : ℕ) (may : Choice) → CanPutAll old scope xs d → HasFirst old s scope.m.now scope.at size xs k may → size ≡ chunk_size old.levels
    → k < div_ceil (length xs) size → ys ≡ chunk size xs k → CanPut s scope ys d
can_chunk old s scope xs ys d k size may h f sized lt e =
    let n : IsSize old.levels (chunk_size old.levels) = size_is old.levels in
    let some : 0 < size = subst (λ z. 0 < z) (sym sized) n.some in
    let below : k * size < length xs = chunk_there (length xs) size k some lt in
    let few : k < length xs = few_chunks k size (length xs) some below in
    let levels : s.levels ≡ old.levels = ap (λ (z : SpaceOf). z.levels) f.is in
    let same : ys ≡ chunk (chunk_size old.levels) xs k = e ∙ ap (λ z. chunk z xs k) sized in
    record {
      scoped = scope_more old s scope f.sets f.is h.scoped;
      chunk = subst (λ z. IsChunk z ys) (sym levels) (subst (λ (zs : List Value). IsChunk old.levels zs) (sym same) (chunk_is old.levels xs k h.list.once (subst (λ z. k * z < length xs) sized below)));
      narrow = let short : length ys ≤ length xs = subst (λ (zs : List Value). length zs ≤ length xs) (sym e) (chunk_short size xs k) in omega (arith, short, h.list.narrow);
      room = omega (arith, h.room, f.total, f.places, few, h.list.narrow);
    }
  where
    few_chunks : (k size n : ℕ) → 0 < size → k * size < n → k < n
    few_chunks k size n some lt = grind arith

pub first_more : (old s new : SpaceOf) (m : Model) (at : Reading) (size : ℕ) (xs ys : List Value) (k : ℕ) (may : Choice) → HasFirst old s m at size xs k may → PutsFamily s new m at ys may → ys ≡ chunk size xs k → HasFirst old new m at size xs (k + 1) may
first_more old s new m at size xs ys k may h q e =
    let is : new ≡ with_more old (h.sets ++ q.set ∷ []) = push_behind old s new h.sets q.set h.is q.puts in
    let levels : s.levels ≡ old.levels = ap (λ (z : SpaceOf). z.levels) h.is in
    let here : IsFamily old.levels m at (chunk size xs k) may q.set = subst (λ z. IsFamily z m at (chunk size xs k) may q.set) levels (subst (λ (zs : List Value). IsFamily s.levels m at zs may q.set) e q.is) in
    record {
      sets = h.sets ++ q.set ∷ [];
      is = is;
      count = omega (arith, length-append h.sets (q.set ∷ []), h.count);
      total = omega (arith, q.puts.count, h.total);
      places = ap (λ (z : SpaceOf). z.places) is;
      families = λ j lt. by j (cases_lt j k) lt here;
    }
  where
    by : (j : ℕ) → (j < k) ⊎ (k ≤ j) → j < k + 1 → IsFamily old.levels m at (chunk size xs k) may q.set → IsFamily old.levels m at (chunk size xs j) may (set_at (h.sets ++ q.set ∷ []) j)
    by j (inl lt) less here = let inside : j < length h.sets = omega (arith, h.count) in subst (λ (x : List Bool). IsFamily old.levels m at (chunk size xs j) may x) (sym (get_or_append_left h.sets (q.set ∷ []) [] j inside)) (h.families j lt)
    by j (inr le) less here =
        let same : j ≡ k = omega arith in
        let at_k : set_at (h.sets ++ q.set ∷ []) k ≡ q.set = get_or_at h.sets q.set [] [] k h.count in
        subst (λ (i : ℕ). IsFamily old.levels m at (chunk size xs i) may (set_at (h.sets ++ q.set ∷ []) i)) (sym same) (subst (λ (x : List Bool). IsFamily old.levels m at (chunk size xs k) may x) (sym at_k) here)

pub first_all : (old s : SpaceOf) (m : Model) (at : Reading) (size : ℕ) (xs : List Value) (k : ℕ) (may : Choice) → HasFirst old s m at size xs k may → size ≡ chunk_size old.levels → k ≡ div_ceil (length xs) size → PutsAll old s m at xs may
first_all old s m at size xs k may h sized count =
    let n : IsSize old.levels (chunk_size old.levels) = size_is old.levels in
    let some : 0 < chunk_size old.levels = n.some in
    let end : k ≡ div_ceil (length xs) (chunk_size old.levels) = count ∙ ap (div_ceil (length xs)) sized in
    record {
      sets = h.sets;
      is = h.is;
      few = subst (λ z. z ≤ length xs) (sym (h.count ∙ end)) (few_parts (length xs) (chunk_size old.levels) some);
      there = λ j lt. subst (λ z. j < z) (sym (h.count ∙ end)) (below (length xs) (chunk_size old.levels) j some lt);
      families = λ j lt. subst (λ z. IsFamily old.levels m at (chunk z xs j) may (set_at h.sets j)) sized (h.families j (subst (λ z. j < z) (sym end) (below (length xs) (chunk_size old.levels) j some lt)));
    }
  where
    few_parts : (n size : ℕ) → 0 < size → div_ceil n size ≤ n
    few_parts n size some = let h = (div_ceil_times n size some).1 in grind arith

    below : (n size j : ℕ) → 0 < size → j * size < n → j < div_ceil n size
    below n size j some lt = let h = (div_ceil_times n size some).0 in grind arith

-- the sets of the chunks stand, and also where more sets stand
pub all_sets : (n size : ℕ) (old s new : SpaceOf) (m : Model) (at : Reading) (xs : List Value) (may : Choice) (more : List (List Bool)) → length old.sets ≡ n → PutsAll old s m at xs may → new ≡ with_more s more → size ≡ chunk_size new.levels → IsList m xs
    → HasSets new n size xs
all_sets n size old s new m at xs may more count h is sized list =
    let levels : new.levels ≡ old.levels = ap (λ (z : SpaceOf). z.levels) is ∙ ap (λ (z : SpaceOf). z.levels) h.is in
    let long : length s.sets ≡ length old.sets + length h.sets = ap (λ (z : SpaceOf). length z.sets) h.is ∙ length-append old.sets h.sets in
    let longer : length new.sets ≡ length s.sets + length more = ap (λ (z : SpaceOf). length z.sets) is ∙ length-append s.sets more in
    record {
      few = list.few;
      once = list.once;
      sized = sized;
      there = λ k lt. let inside : k < length h.sets = h.there k (subst (λ z. k * chunk_size z < length xs) levels lt) in omega arith;
    }

pub all_families : (n : ℕ) (old s new : SpaceOf) (m : Model) (at : Reading) (xs : List Value) (may : Choice) (more : List (List Bool)) → length old.sets ≡ n → PutsAll old s m at xs may → new ≡ with_more s more → AreFamilies new m at n xs may
all_families n old s new m at xs may more count h is =
    let behind : s ≡ with_more old h.sets = h.is in
    let all : new ≡ with_more old (h.sets ++ more) = more_trans old s new h.sets more behind is in
    let levels : new.levels ≡ old.levels = ap (λ (z : SpaceOf). z.levels) all in
    record {
      is = λ k lt.
          let lt' : k * chunk_size old.levels < length xs = subst (λ z. k * chunk_size z < length xs) levels lt in
          let here : set_at new.sets (n + k) ≡ set_at h.sets k =
          at_behind old new (h.sets ++ more) (n + k) k all (ap (λ z. z + k) count) ∙ get_or_append_left h.sets more [] k (h.there k lt') in
          subst (λ z. IsFamily z m at (chunk (chunk_size z) xs k) may (set_at new.sets (n + k))) (sym levels)
          (subst (λ (x : List Bool). IsFamily old.levels m at (chunk (chunk_size old.levels) xs k) may x) (sym here) (h.families k lt'));
    }

-- what stands once the sets of all chunks are put, and further sets behind them
pub record HasAll (n : ℕ) (old s : SpaceOf) (m : Model) (at : Reading) (first size : ℕ) (xs : List Value) (may : Choice) : Type 0 where
  pub sets : HasSets s first size xs
  pub families : AreFamilies s m at first xs may
  pub cut : cut_to n s ≡ old
  pub places : s.places ≡ old.places
  pub levels : s.levels ≡ old.levels

pub chunks_stand : (n : ℕ) (old s new : SpaceOf) (m : Model) (at : Reading) (first size : ℕ) (xs ys : List Value) (may : Choice) (more : List (List Bool)) → length old.sets ≡ n → PutsAll old s m at xs may → IsList m xs → new ≡ with_more s more
    → first ≡ n → size ≡ chunk_size new.levels → ys ≡ xs → HasAll n old new m at first size ys may
chunks_stand n old s new m at first size xs ys may more count h list is at_n sized same =
    let all : new ≡ with_more old (h.sets ++ more) = more_trans old s new h.sets more h.is is in
    record {
      sets = subst (λ (zs : List Value). HasSets new first size zs) (sym same) (subst (λ k. HasSets new k size xs) (sym at_n) (all_sets n size old s new m at xs may more count h is sized list));
      families = subst (λ (zs : List Value). AreFamilies new m at first zs may) (sym same) (subst (λ k. AreFamilies new m at k xs may) (sym at_n) (all_families n old s new m at xs may more count h is));
      cut = cut_back n old new (h.sets ++ more) all count;
      places = ap (λ (z : SpaceOf). z.places) all;
      levels = ap (λ (z : SpaceOf). z.levels) all;
    }

pub same_more : (s : SpaceOf) → s ≡ with_more s []
same_more s = ap (λ (z : List (List Bool)). record s { sets = z }) (sym (append-nil s.sets))

-- how many sets stand then
pub record IsLonger (old s : SpaceOf) (k : ℕ) : Type 0 where
  pub least : length old.sets ≤ length s.sets
  pub most : length s.sets ≤ length old.sets + k
  pub places : s.places ≡ old.places
  pub levels : s.levels ≡ old.levels

pub all_longer : (old s : SpaceOf) (m : Model) (at : Reading) (xs : List Value) (may : Choice) → PutsAll old s m at xs may → IsLonger old s (length xs)
all_longer old s m at xs may h =
    let long : length s.sets ≡ length old.sets + length h.sets = ap (λ (z : SpaceOf). length z.sets) h.is ∙ length-append old.sets h.sets in
    record {
      least = omega arith;
      most = omega (arith, long, h.few);
      places = ap (λ (z : SpaceOf). z.places) h.is;
      levels = ap (λ (z : SpaceOf). z.levels) h.is;
    }

-- ---- the operand of `next`

-- the family of the operand, read in the next state, is that of `next`
pub next_family : (levels : ℕ) (m : Model) (at : Reading) (a : Expr) (xs : List Value) (set : List Bool) → HasOneChoice m a → IsFamily levels m (moved_on at) xs (allows a) set → IsFamily levels m at xs (prefixed whole op1.Next (meaning a)).allows set
next_family levels m at a xs set one is row len pt =
    let t : AreTyped m at row = typed_states m at row pt in
    is row len (moved_point m at row pt)
    ∙ ap (λ (f : Value → Bool). picked xs f row) (fun_ext (λ x. next_meant m at a one (state_of m at.present row) (state_of m at.next row) t.present t.next x))
  where
    moved_point : (m : Model) (at : Reading) (row : List Bool) → IsTrue (is_point m at row) → IsTrue (is_point m (moved_on at) row)
    moved_point m at row h =
        let p = and_split (holds_states at.present && holds_states at.next && has_typed m at.present row) (has_typed m at.next row) h in
        let q = and_split (holds_states at.present && holds_states at.next) (has_typed m at.present row) p.0 in
        let r = and_split (holds_states at.present) (holds_states at.next) q.0 in
        and_join (holds_states at.next && holds_states at.next && has_typed m at.next row) (has_typed m at.next row)
        (and_join (holds_states at.next && holds_states at.next) (has_typed m at.next row) (and_join (holds_states at.next) (holds_states at.next) r.1 r.1) p.1) p.1

pub next_ok : (res : Result Unit SpaceFault) (old new : SpaceOf) (m : Model) (at at' : Reading) (a : Expr) (xs : List Value) → HasOneChoice m a → at' ≡ moved_on at → OnOk res (PutsFamily old new m at' xs (allows a)) → OnOk res (PutsFamily old new m at xs (prefixed whole op1.Next (meaning a)).allows)
next_ok (Ok x) old new m at at' a xs one e q =
    let is : IsFamily old.levels m (moved_on at) xs (allows a) q.set = subst (λ (z : Reading). IsFamily old.levels m z xs (allows a) q.set) e q.is in
    record { set = q.set; puts = q.puts; is = next_family old.levels m at a xs q.set one is }
next_ok (Err f) old new m at at' a xs one e q = tt

-- ---- members and branches

pub any_step : (es : List Expr) (i : ℕ) (e : Expr) → slice_get es i ≡ Some e → (λ (p : Point) (x : Value). any_choice (take i es) p x || allows e p x) ≡ any_choice (take (i + 1) es)
any_step es i e h = fun_ext (λ p. fun_ext (λ x.
    sym (list_any_more (λ (e : Expr). allows e p x) es i e (slice_get_within es i e h) ∙ ap (λ (d : Expr). any_choice (take i es) p x || allows d p x) (get_or_from_slice_get es i e e h))))

pub arm_step : (m : Model) (at : Reading) (bs : List Branch) (i : ℕ) (b : Branch) → slice_get bs i ≡ Some b → HasOneChoice m b.guard
    → SameChoices m at (λ p z. if is_true_at (allows b.guard) p then allows b.body p z else arm_choice (drop (i + 1) bs) p z) (arm_choice (drop i bs))
arm_step m at bs i b h one = record {
  same = λ s t ts tt' z.
      let p : Point = between m s t at.flip in
      let rest : Bool = arm_choice (drop (i + 1) bs) p z in
      ap (λ (c : Bool). if c then allows b.body p z else rest) (true_is m b.guard one s t at.flip ts tt')
      ∙ ap (λ (w : Meaning × Meaning). if truth (w.0.value p) then w.1.allows p z else rest) (sym (branch_means b))
      ∙ ap (λ (cs : List Branch). arm_choice cs p z) (ap (λ (j : ℕ). b ∷ drop j bs) (next i) ∙ sym (front bs i b h));
}
  where
    next : (i : ℕ) → i + 1 ≡ suc i
    next i = omega arith

    front : (bs : List Branch) (i : ℕ) (b : Branch) → slice_get bs i ≡ Some b → drop i bs ≡ b ∷ drop (suc i) bs
    front [] i b h = cc
    front (c ∷ bs) zero b h = let e : c ≡ b = cc in ap (λ (z : Branch). z ∷ bs) e
    front (c ∷ bs) (suc i) b h = front bs i b h

pub any_meant : (es : List Expr) → any_choice es ≡ (λ p x. list_any (λ (m : Meaning). m.allows p x) (map meaning es))
any_meant es = fun_ext (λ p. fun_ext (λ x. sym (any_map meaning (λ (m : Meaning). m.allows p x) es)))

-- ---- one step over the members

pub item_there : (es : List Expr) (i : ℕ) (e : Expr) → i < length es → e ≡ get_or es i e → slice_get es i ≡ Some e
item_there es i e lt is = slice_get-get_or es i e lt ∙ ap (λ (d : Expr). Some d) (sym is)

pub some_of : (old s : SpaceOf) (m : Model) (at : Reading) (xs : List Value) (f : Choice) → HasOne old s m at xs f → HasSome old s
some_of old s m at xs f h = record { set = h.set; is = h.is; count = h.count; places = h.places }

pub put_of : (old s : SpaceOf) (m : Model) (at : Reading) (xs : List Value) (f : Choice) → PutsFamily old s m at xs f → PutsSome old s
put_of old s m at xs f q = record { set = q.set; puts = q.puts }

pub member_more : (n : ℕ) (old s s1 new : SpaceOf) (m : Model) (at : Reading) (xs : List Value) (es : List Expr) (i : ℕ) (e : Expr) → length old.sets ≡ n → HasOne old s m at xs (any_choice (take i es)) → PutsFamily s s1 m at xs (allows e) → Joins n s1 new
    → slice_get es i ≡ Some e → HasOne old new m at xs (any_choice (take (i + 1) es))
member_more n old s s1 new m at xs es i e count h q joins get =
    one_same old new m at xs (λ p z. any_choice (take i es) p z || allows e p z) (any_choice (take (i + 1) es)) (any_step es i e get) (one_more n old s s1 new m at xs (any_choice (take i es)) (allows e) count h q joins)

-- ---- one step over the branches

-- what a call that turns three sets into that of a branch and the later ones ensures
abbrev pub Branches : ℕ → SpaceOf → SpaceOf → Type 0
Branches n s new = (m : Model) (at : Reading) (xs : List Value) (h f g : Choice) → IsFamily s.levels m at xs g (set_at s.sets n) → IsFamily s.levels m at ones h (set_at s.sets (n + 1)) → IsFamily s.levels m at xs f (set_at s.sets (n + 2))
    → PutsFamily (cut_to n s) new m at xs (λ p z. if is_true_at h p then f p z else g p z)

-- three sets stand behind those of before
pub three_more : (old s s1 s2 : SpaceOf) (m : Model) (at : Reading) (xs : List Value) (f g h : Choice) (one : HasOne old s m at xs g) (p : PutsFamily s s1 m at ones h) (q : PutsFamily s1 s2 m at xs f) → s2 ≡ with_more old (one.set ∷ p.set ∷ q.set ∷ [])
three_more old s s1 s2 m at xs f g h one p q = push_behind old s1 s2 (one.set ∷ p.set ∷ []) q.set (push_behind old s s1 (one.set ∷ []) p.set one.is p.puts) q.puts

pub branch_more : (n : ℕ) (old s s1 s2 new : SpaceOf) (m : Model) (at : Reading) (xs : List Value) (bs : List Branch) (i j : ℕ) (b : Branch) → length old.sets ≡ n → j ≡ i + 1 → HasOne old s m at xs (arm_choice (drop j bs)) → PutsFamily s s1 m at ones (allows b.guard)
    → PutsFamily s1 s2 m at xs (allows b.body) → Branches n s2 new → slice_get bs i ≡ Some b → HasOneChoice m b.guard → HasOne old new m at xs (arm_choice (drop i bs))
branch_more n old s s1 s2 new m at xs bs i j b count next one p q branches get single =
    let g : Choice = arm_choice (drop j bs) in
    let is : s2 ≡ with_more old (one.set ∷ p.set ∷ q.set ∷ []) = three_more old s s1 s2 m at xs (allows b.body) (arm_choice (drop j bs)) (allows b.guard) one p q in
    let levels : s2.levels ≡ old.levels = ap (λ (z : SpaceOf). z.levels) is in
    let level : s.levels ≡ old.levels = ap (λ (z : SpaceOf). z.levels) one.is in
    let level1 : s1.levels ≡ old.levels = ap (λ (z : SpaceOf). z.levels) p.puts.is ∙ level in
    let a : IsFamily s2.levels m at xs (arm_choice (drop j bs)) (set_at s2.sets n) = at_place n 0 s2 old (arm_choice (drop j bs)) xs (one.set ∷ p.set ∷ q.set ∷ []) is levels (omega arith) one.family in
    let c : IsFamily s2.levels m at ones (allows b.guard) (set_at s2.sets (n + 1)) = at_place (n + 1) 1 s2 old (allows b.guard) ones (one.set ∷ p.set ∷ q.set ∷ []) is levels (omega arith) (subst (λ k. IsFamily k m at ones (allows b.guard) p.set) level p.is) in
    let d : IsFamily s2.levels m at xs (allows b.body) (set_at s2.sets (n + 2)) = at_place (n + 2) 2 s2 old (allows b.body) xs (one.set ∷ p.set ∷ q.set ∷ []) is levels (omega arith) (subst (λ k. IsFamily k m at xs (allows b.body) q.set) level1 q.is) in
    let r : PutsFamily old new m at xs (λ p z. if is_true_at (allows b.guard) p then allows b.body p z else arm_choice (drop j bs) p z) =
    subst (λ (z : SpaceOf). PutsFamily z new m at xs (λ p z. if is_true_at (allows b.guard) p then allows b.body p z else arm_choice (drop j bs) p z)) (cut_back n old s2 (one.set ∷ p.set ∷ q.set ∷ []) is count)
    (branches m at xs (allows b.guard) (allows b.body) (arm_choice (drop j bs)) a c d) in
    has_one old new m at xs (arm_choice (drop i bs))
    (puts_same old new m at xs (λ p z. if is_true_at (allows b.guard) p then allows b.body p z else arm_choice (drop (i + 1) bs) p z) (arm_choice (drop i bs)) (arm_step m at bs i b get single)
    (subst (λ k. PutsFamily old new m at xs (λ p z. if is_true_at (allows b.guard) p then allows b.body p z else arm_choice (drop k bs) p z)) next r))
  where
    at_place : (k i : ℕ) (s old : SpaceOf) (f : Choice) (ys : List Value) (more : List (List Bool)) → s ≡ with_more old more → s.levels ≡ old.levels → length old.sets + i ≡ k → IsFamily old.levels m at ys f (set_at more i) → IsFamily s.levels m at ys f (set_at s.sets k)
    at_place k i s old f ys more is levels e h = subst (λ z. IsFamily z m at ys f (set_at s.sets k)) (sym levels) (subst (λ (x : List Bool). IsFamily old.levels m at ys f x) (sym (at_behind old s more k i is e)) h)

pub no_arms : (bs : List Branch) (i : ℕ) → i ≡ length bs → (λ (p : Point) (z : Value). false) ≡ arm_choice (drop i bs)
no_arms bs i e = ap arm_choice (sym (ap (λ k. drop k bs) e ∙ drop_all bs))
  where
    drop_all : (bs : List Branch) → drop (length bs) bs ≡ []
    drop_all [] = refl
    drop_all (b ∷ bs) = drop_all bs
