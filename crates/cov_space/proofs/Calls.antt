-- Calls that are made of several others: what stands behind the sets of before, step by step.
use Rattle.std.proofs.Common.{◌≡◌, ℕ, suc, ◌<◌, ◌≤◌, ◌+◌, ◌-◌, ◌++◌, List, [], ◌∷◌, Bool, true, false, length, take, Result, Ok, Err, OnOk, IfErr, refl, sym, ◌∙◌, ap, subst, arith, length-append, append_assoc}
use Rattle.std.proofs.lemmas.List.{get_or_append_left, get_or-append-add, take_at, get_or_at}
use Rattle.cov_dd.specs.declared.operations.Op.{Op}
use Rattle.cov_dd.specs.declared.operations.Op.TheVariants.{And, Xor}
use Rattle.cov_space.specs.declared.fault.SpaceFault.{SpaceFault}
use Rattle.cov_space.specs.declared.fault.SpaceFault.TheVariants as fault
use Rattle.cov_space.specs.Sets.{SpaceOf, set_at}
use Rattle.cov_space.specs.Operations.{restriction, bit_set}
use Rattle.cov_space.specs.Answers.{raised, PutsSet, IsRefused, IsBasicFault, IsCallFault}
use Rattle.cov_space.specs.Steps.{with_more, Stops, Leaves, paired, mask_of}

-- ---- refusals

-- a call was refused where further sets stand behind those of before
pub refused_behind : (old s new : SpaceOf) (more : List (List Bool)) (full : _) → s ≡ with_more old more → IsRefused s new full → Stops old new full
refused_behind old s new more full is f =
    let g : IsRefused (with_more old more) new full = subst (λ (x : SpaceOf). IsRefused x new full) is f in
    let kept : length (old.sets ++ more) ≤ full.roots = g.kept in
    record { more = more; is = g.is; held = g.held; budget = g.budget; kept = omega (arith, length-append old.sets more); roots = g.roots; within = g.within; short = g.short }

-- a call of calls
pub call_leaves : (old s new : SpaceOf) (more : List (List Bool)) (e : SpaceFault) → s ≡ with_more old more → IsCallFault s new e → Leaves old new e
call_leaves old s new more (fault.Nodes full) is f = refused_behind old s new more full is f
call_leaves old s new more fault.Memory is f = (more, f ∙ is)

-- a call of basic operations
pub basic_leaves : (old s new : SpaceOf) (more : List (List Bool)) (set : List Bool) (e : SpaceFault) → s ≡ with_more old more → IsBasicFault s new set e → Leaves old new e
basic_leaves old s new more set (fault.Nodes full) is f = refused_behind old s new more full is f.refused
basic_leaves old s new more set fault.Memory is f = (more, f ∙ is)

-- a basic operation is a call
pub basic_call : (old new : SpaceOf) (set : List Bool) (e : SpaceFault) → IsBasicFault old new set e → IsCallFault old new e
basic_call old new set (fault.Nodes full) f = f.refused
basic_call old new set fault.Memory f = f

-- a call of steps
pub leaves_behind : (old s new : SpaceOf) (more : List (List Bool)) (e : SpaceFault) → s ≡ with_more old more → Leaves s new e → Leaves old new e
leaves_behind old s new more (fault.Nodes full) is k =
    let g : Stops (with_more old more) new full = subst (λ (x : SpaceOf). Stops x new full) is k in
    let kept : length (old.sets ++ more) ≤ full.roots = g.kept in
    record {
      more = more ++ g.more;
      is = g.is ∙ ap (λ (x : List (List Bool)). record old { refused = raised old.refused; sets = x }) (append_assoc old.sets more g.more);
      held = g.held;
      budget = g.budget;
      kept = omega (arith, length-append old.sets more);
      roots = g.roots;
      within = g.within;
      short = g.short;
    }
leaves_behind old s new more fault.Memory is k =
    (more ++ k.0, k.1 ∙ ap (λ (x : SpaceOf). with_more x k.0) is ∙ ap (λ (x : List (List Bool)). record old { sets = x }) (append_assoc old.sets more k.0))

-- the last call of a body
pub err_basic : (res : Result Unit SpaceFault) (old s new : SpaceOf) (more : List (List Bool)) (set : List Bool) → s ≡ with_more old more → IfErr res (λ e. IsBasicFault s new set e) → IfErr res (λ e. Leaves old new e)
err_basic (Ok x) old s new more set is f = tt
err_basic (Err e) old s new more set is f = basic_leaves old s new more set e is f

pub err_call : (res : Result Unit SpaceFault) (old s new : SpaceOf) (more : List (List Bool)) → s ≡ with_more old more → IfErr res (λ e. IsCallFault s new e) → IfErr res (λ e. Leaves old new e)
err_call (Ok x) old s new more is f = tt
err_call (Err e) old s new more is f = call_leaves old s new more e is f

pub err_leaves : (res : Result Unit SpaceFault) (old s new : SpaceOf) (more : List (List Bool)) → s ≡ with_more old more → IfErr res (λ e. Leaves s new e) → IfErr res (λ e. Leaves old new e)
err_leaves (Ok x) old s new more is f = tt
err_leaves (Err e) old s new more is f = leaves_behind old s new more e is f

-- the exit of a `?`
pub err_exit : (res : Result Unit SpaceFault) (e : SpaceFault) (P : SpaceFault → Type 0) → res ≡ Err e → P e → IfErr res P
err_exit res e P is p = subst (λ (r : Result Unit SpaceFault). IfErr r P) (sym is) p

-- ---- sets that are put

pub push_behind : (old s new : SpaceOf) (more : List (List Bool)) (set : List Bool) → s ≡ with_more old more → PutsSet s new set → new ≡ with_more old (more ++ set ∷ [])
push_behind old s new more set is p =
    p.is ∙ ap (λ (x : SpaceOf). record x { sets = x.sets ++ set ∷ [] }) is ∙ ap (λ (x : List (List Bool)). record old { sets = x }) (append_assoc old.sets more (set ∷ []))

pub ok_behind : (res : Result Unit SpaceFault) (old s new : SpaceOf) (more : List (List Bool)) (set : List Bool) → s ≡ with_more old more → OnOk res (PutsSet s new set) → OnOk res (new ≡ with_more old (more ++ set ∷ []))
ok_behind (Ok x) old s new more set is p = push_behind old s new more set is p
ok_behind (Err e) old s new more set is p = tt

pub on_ok_map : {X E : Type 0} (res : Result X E) (P Q : Type 0) → (P → Q) → OnOk res P → OnOk res Q
on_ok_map (Ok x) P Q f p = f p
on_ok_map (Err e) P Q f p = tt

pub at_front : (old s : SpaceOf) (more : List (List Bool)) (k : ℕ) → s ≡ with_more old more → k < length old.sets → set_at s.sets k ≡ set_at old.sets k
at_front old s more k is lt = ap (λ (x : SpaceOf). set_at x.sets k) is ∙ get_or_append_left old.sets more [] k lt

pub at_behind : (old s : SpaceOf) (more : List (List Bool)) (k i : ℕ) → s ≡ with_more old more → length old.sets + i ≡ k → set_at s.sets k ≡ set_at more i
at_behind old s more k i is e = ap (λ (x : SpaceOf). set_at x.sets k) is ∙ ap (λ n. set_at (old.sets ++ more) n) (sym e) ∙ get_or-append-add old.sets more i []

pub settled_behind : (old s new : SpaceOf) (more : List (List Bool)) (k i : ℕ) → s ≡ with_more old more → length old.sets ≡ k → length more ≡ suc i → new ≡ record s { sets = take k s.sets ++ set_at s.sets (length s.sets - 1) ∷ [] } → new ≡ with_more old (set_at more i ∷ [])
settled_behind old s new more k i is count long e =
    let n : length (old.sets ++ more) ≡ length old.sets + length more = length-append old.sets more in
    let last : length old.sets + i ≡ length (old.sets ++ more) - 1 = omega arith in
    e ∙ ap (λ (x : SpaceOf). record x { sets = take k x.sets ++ set_at x.sets (length x.sets - 1) ∷ [] }) is
    ∙ ap (λ (x : List (List Bool)). record old { sets = x ++ set_at (old.sets ++ more) (length (old.sets ++ more) - 1) ∷ [] }) (take_at old.sets more k count)
    ∙ ap (λ (x : List Bool). record old { sets = old.sets ++ x ∷ [] }) (ap (λ j. set_at (old.sets ++ more) j) (sym last) ∙ get_or-append-add old.sets more i [])

pub more_trans : (r s t : SpaceOf) (more more' : List (List Bool)) → s ≡ with_more r more → t ≡ with_more s more' → t ≡ with_more r (more ++ more')
more_trans r s t more more' p q = q ∙ ap (λ (x : SpaceOf). with_more x more') p ∙ ap (λ (x : List (List Bool)). record r { sets = x }) (append_assoc r.sets more more')

-- ---- the two cofactors at a level, and what an operation makes of them

pub two_cofactors : (s0 s1 s2 : SpaceOf) (n level : ℕ) → length s0.sets ≡ n + 1 → PutsSet s0 s1 (restriction s0.levels (set_at s0.sets n) level false) → PutsSet s1 s2 (restriction s1.levels (set_at s1.sets n) level true)
    → s2 ≡ with_more s0 (restriction s0.levels (set_at s0.sets n) level false ∷ restriction s0.levels (set_at s0.sets n) level true ∷ [])
two_cofactors s0 s1 s2 n level count p q =
    let r0 : List Bool = restriction s0.levels (set_at s0.sets n) level false in
    push_behind s0 s1 s2 (r0 ∷ []) _ p.is q
    ∙ ap (λ (k : ℕ). with_more s0 (r0 ∷ restriction k (set_at s1.sets n) level true ∷ [])) (ap (λ (x : SpaceOf). x.levels) p.is)
    ∙ ap (λ (x : List Bool). with_more s0 (r0 ∷ restriction s0.levels x level true ∷ [])) (at_front s0 s1 (r0 ∷ []) n p.is (omega arith))

pub cofactors_ok : (res : Result Unit SpaceFault) (s0 s1 s2 s3 : SpaceOf) (n level : ℕ) (op : Op) → length s0.sets ≡ n + 1 → PutsSet s0 s1 (restriction s0.levels (set_at s0.sets n) level false) → PutsSet s1 s2 (restriction s1.levels (set_at s1.sets n) level true)
    → OnOk res (PutsSet s2 s3 (paired op s2.levels (set_at s2.sets (n + 1)) (set_at s2.sets (n + 2))))
    → OnOk res (s3 ≡ with_more s0 (restriction s0.levels (set_at s0.sets n) level false ∷ restriction s0.levels (set_at s0.sets n) level true ∷ paired op s0.levels (restriction s0.levels (set_at s0.sets n) level false) (restriction s0.levels (set_at s0.sets n) level true) ∷ []))
cofactors_ok (Err e) s0 s1 s2 s3 n level op count p q r = tt
cofactors_ok (Ok x) s0 s1 s2 s3 n level op count p q r =
    let r0 : List Bool = restriction s0.levels (set_at s0.sets n) level false in
    let r1 : List Bool = restriction s0.levels (set_at s0.sets n) level true in
    let is : s2 ≡ with_more s0 (r0 ∷ r1 ∷ []) = two_cofactors s0 s1 s2 n level count p q in
    push_behind s0 s2 s3 (r0 ∷ r1 ∷ []) _ is r
    ∙ ap (λ (k : ℕ). with_more s0 (r0 ∷ r1 ∷ paired op k (set_at s2.sets (n + 1)) (set_at s2.sets (n + 2)) ∷ [])) (ap (λ (x : SpaceOf). x.levels) is)
    ∙ ap (λ (x : List Bool). with_more s0 (r0 ∷ r1 ∷ paired op s0.levels x (set_at s2.sets (n + 2)) ∷ [])) (at_behind s0 s2 (r0 ∷ r1 ∷ []) (n + 1) 0 is (omega arith))
    ∙ ap (λ (x : List Bool). with_more s0 (r0 ∷ r1 ∷ paired op s0.levels r0 x ∷ [])) (at_behind s0 s2 (r0 ∷ r1 ∷ []) (n + 2) 1 is (omega arith))

-- a set, and what an operation makes of the last one and of it
pub with_ok : (res : Result Unit SpaceFault) (s0 s1 s2 : SpaceOf) (n : ℕ) (op : Op) (t : List Bool) → length s0.sets ≡ n + 1 → PutsSet s0 s1 t → OnOk res (PutsSet s1 s2 (paired op s1.levels (set_at s1.sets n) (set_at s1.sets (n + 1))))
    → OnOk res (s2 ≡ with_more s0 (t ∷ paired op s0.levels (set_at s0.sets n) t ∷ []))
with_ok (Err e) s0 s1 s2 n op t count p r = tt
with_ok (Ok x) s0 s1 s2 n op t count p r =
    push_behind s0 s1 s2 (t ∷ []) _ p.is r
    ∙ ap (λ (k : ℕ). with_more s0 (t ∷ paired op k (set_at s1.sets n) (set_at s1.sets (n + 1)) ∷ [])) (ap (λ (x : SpaceOf). x.levels) p.is)
    ∙ ap (λ (x : List Bool). with_more s0 (t ∷ paired op s0.levels x (set_at s1.sets (n + 1)) ∷ [])) (at_front s0 s1 (t ∷ []) n p.is (omega arith))
    ∙ ap (λ (x : List Bool). with_more s0 (t ∷ paired op s0.levels (set_at s0.sets n) x ∷ [])) (at_behind s0 s1 (t ∷ []) (n + 1) 0 p.is (omega arith))

-- ---- one bit of a shift

pub shift_masked : (s0 s1 s2 s3 s4 : SpaceOf) (n from to : ℕ) → length s0.sets ≡ n + 1
    → s1 ≡ with_more s0 (restriction s0.levels (set_at s0.sets n) from false ∷ restriction s0.levels (set_at s0.sets n) from true ∷ paired Xor s0.levels (restriction s0.levels (set_at s0.sets n) from false) (restriction s0.levels (set_at s0.sets n) from true) ∷ [])
    → s2 ≡ record s1 { sets = take (n + 1) s1.sets ++ set_at s1.sets (length s1.sets - 1) ∷ [] }
    → s3 ≡ with_more s2 (bit_set s2.levels to ∷ paired And s2.levels (set_at s2.sets (n + 1)) (bit_set s2.levels to) ∷ [])
    → s4 ≡ record s3 { sets = take (n + 1) s3.sets ++ set_at s3.sets (length s3.sets - 1) ∷ [] }
    → (s2 ≡ with_more s0 (paired Xor s0.levels (restriction s0.levels (set_at s0.sets n) from false) (restriction s0.levels (set_at s0.sets n) from true) ∷ [])) × (s4 ≡ with_more s0 (mask_of s0.levels from to (set_at s0.sets n) ∷ []))
shift_masked s0 s1 s2 s3 s4 n from to count e1 e2 e3 e4 =
    let x : List Bool = paired Xor s0.levels (restriction s0.levels (set_at s0.sets n) from false) (restriction s0.levels (set_at s0.sets n) from true) in
    let is2 : s2 ≡ with_more s0 (x ∷ []) = settled_behind s0 s1 s2 _ (n + 1) 2 e1 count refl e2 in
    let P : SpaceOf → Type 0 = λ z. s3 ≡ with_more z (bit_set z.levels to ∷ paired And z.levels (set_at z.sets (n + 1)) (bit_set z.levels to) ∷ []) in
    let q : P (with_more s0 (x ∷ [])) = subst P is2 e3 in
    let is3 : s3 ≡ with_more s0 (x ∷ bit_set s0.levels to ∷ paired And s0.levels (set_at (s0.sets ++ x ∷ []) (n + 1)) (bit_set s0.levels to) ∷ []) = more_trans s0 (with_more s0 (x ∷ [])) s3 (x ∷ []) _ refl q in
    let is4 : s4 ≡ with_more s0 (paired And s0.levels (set_at (s0.sets ++ x ∷ []) (n + 1)) (bit_set s0.levels to) ∷ []) = settled_behind s0 s3 s4 _ (n + 1) 2 is3 count refl e4 in
    (is2, is4 ∙ ap (λ (y : List Bool). with_more s0 (paired And s0.levels y (bit_set s0.levels to) ∷ [])) (get_or_at s0.sets x [] [] (n + 1) count))

pub shift_moved : (s0 s4 s5 : SpaceOf) (n from : ℕ) (m : List Bool) → length s0.sets ≡ n + 1 → s4 ≡ with_more s0 (m ∷ [])
    → s5 ≡ with_more s4 (restriction s4.levels (set_at s4.sets n) from false ∷ paired Xor s4.levels (set_at s4.sets (n + 1)) (restriction s4.levels (set_at s4.sets n) from false) ∷ [])
    → s5 ≡ with_more s0 (m ∷ restriction s0.levels (set_at s0.sets n) from false ∷ paired Xor s0.levels m (restriction s0.levels (set_at s0.sets n) from false) ∷ [])
shift_moved s0 s4 s5 n from m count is e =
    let P : SpaceOf → Type 0 = λ z. s5 ≡ with_more z (restriction z.levels (set_at z.sets n) from false ∷ paired Xor z.levels (set_at z.sets (n + 1)) (restriction z.levels (set_at z.sets n) from false) ∷ []) in
    let q : P (with_more s0 (m ∷ [])) = subst P is e in
    let lt : n < length s0.sets = omega arith in
    more_trans s0 (with_more s0 (m ∷ [])) s5 (m ∷ []) _ refl q
    ∙ ap (λ (y : List Bool). with_more s0 (m ∷ restriction s0.levels y from false ∷ paired Xor s0.levels (set_at (s0.sets ++ m ∷ []) (n + 1)) (restriction s0.levels y from false) ∷ [])) (get_or_append_left s0.sets (m ∷ []) [] n lt)
    ∙ ap (λ (y : List Bool). with_more s0 (m ∷ restriction s0.levels (set_at s0.sets n) from false ∷ paired Xor s0.levels y (restriction s0.levels (set_at s0.sets n) from false) ∷ [])) (get_or_at s0.sets m [] [] (n + 1) count)
