-- One set, behind those of before, to which further choices are joined.
use Rattle.std.proofs.Common.{◌≡◌, ℕ, ◌+◌, ◌<◌, List, [], ◌∷◌, Bool, false, ◌||◌, length, sym, ◌∙◌, ap, subst, arith}
use Rattle.std.proofs.Math.Path.{fun_ext}
use Rattle.cov_syntax.specs.declared.tree.Value.{Value}
use Rattle.cov_model.specs.declared.model.Model.{Model}
use Rattle.cov_model.specs.Meaning.{Point}
use Rattle.cov_space.specs.declared.fault.SpaceFault.{SpaceFault}
use Rattle.cov_space.specs.Sets.{SpaceOf, set_at}
use Rattle.cov_space.specs.Answers.{PutsSet}
use Rattle.cov_space.specs.Steps.{with_more, Leaves}
use Rattle.cov_space.proofs.Calls.{push_behind, at_behind, at_front}
use Rattle.cov_nodes.specs.declared.reading.Reading.{Reading}
use Rattle.cov_nodes.specs.Choices.{Choice, IsFamily, PutsFamily}
use Rattle.cov_expressions.specs.Parts.{HasOne, HasSome, Gathers, cut_to}
use Rattle.cov_expressions.proofs.Stack.{cut_back, puts_last}
use Rattle.cov_expressions.proofs.Families.{PutsSome, some_put_two}

-- what a call that joins the last two sets ensures
abbrev pub Joins : ℕ → SpaceOf → SpaceOf → Type 0
Joins n s new = (m : Model) (at : Reading) (xs : List Value) (f g : Choice) → IsFamily s.levels m at xs f (set_at s.sets n) → IsFamily s.levels m at xs g (set_at s.sets (n + 1))
    → PutsFamily (cut_to n s) new m at xs (λ p z. f p z || g p z)

pub has_one : (old s : SpaceOf) (m : Model) (at : Reading) (xs : List Value) (f : Choice) → PutsFamily old s m at xs f → HasOne old s m at xs f
has_one old s m at xs f q = record { set = q.set; is = q.puts.is; count = q.puts.count; places = ap (λ (z : SpaceOf). z.places) q.puts.is; family = q.is }

pub one_put : (old s : SpaceOf) (m : Model) (at : Reading) (xs : List Value) (f : Choice) → HasOne old s m at xs f → PutsFamily old s m at xs f
one_put old s m at xs f h = record { set = h.set; puts = puts_last old s h.set h.is; is = h.family }

pub has_some : (old s : SpaceOf) → PutsSome old s → HasSome old s
has_some old s q = record { set = q.set; is = q.puts.is; count = q.puts.count; places = ap (λ (z : SpaceOf). z.places) q.puts.is }

pub one_same : (old s : SpaceOf) (m : Model) (at : Reading) (xs : List Value) (f g : Choice) → f ≡ g → HasOne old s m at xs f → HasOne old s m at xs g
one_same old s m at xs f g e h = subst (λ (k : Choice). HasOne old s m at xs k) e h

-- where one more set stands, the first n are those of before
pub cut_two : (n : ℕ) (old s new : SpaceOf) (x y : List Bool) → length old.sets ≡ n → s ≡ with_more old (x ∷ []) → PutsSet s new y → cut_to n new ≡ old
cut_two n old s new x y count is p = cut_back n old new (x ∷ y ∷ []) (push_behind old s new (x ∷ []) y is p) count

-- further choices are joined
pub one_more : (n : ℕ) (old s s1 new : SpaceOf) (m : Model) (at : Reading) (xs : List Value) (f g : Choice) → length old.sets ≡ n → HasOne old s m at xs f → PutsFamily s s1 m at xs g → Joins n s1 new
    → HasOne old new m at xs (λ p z. f p z || g p z)
one_more n old s s1 new m at xs f g count h q joins =
    let is1 : s1 ≡ with_more old (h.set ∷ q.set ∷ []) = push_behind old s s1 (h.set ∷ []) q.set h.is q.puts in
    let levels : s1.levels ≡ old.levels = ap (λ (z : SpaceOf). z.levels) is1 in
    let below : s.levels ≡ old.levels = ap (λ (z : SpaceOf). z.levels) h.is in
    let first : set_at s1.sets n ≡ h.set = at_behind old s1 (h.set ∷ q.set ∷ []) n 0 is1 (omega arith) in
    let second : set_at s1.sets (n + 1) ≡ q.set = at_behind old s1 (h.set ∷ q.set ∷ []) (n + 1) 1 is1 (omega arith) in
    let a : IsFamily s1.levels m at xs f (set_at s1.sets n) =
    subst (λ (k : ℕ). IsFamily k m at xs f (set_at s1.sets n)) (sym levels) (subst (λ (x : List Bool). IsFamily old.levels m at xs f x) (sym first) h.family) in
    let b : IsFamily s1.levels m at xs g (set_at s1.sets (n + 1)) =
    subst (λ (k : ℕ). IsFamily k m at xs g (set_at s1.sets (n + 1))) (below ∙ sym levels) (subst (λ (x : List Bool). IsFamily s.levels m at xs g x) (sym second) q.is) in
    has_one old new m at xs (λ p z. f p z || g p z)
    (subst (λ (z : SpaceOf). PutsFamily z new m at xs (λ p z. f p z || g p z)) (cut_two n old s s1 h.set q.set count h.is q.puts) (joins m at xs f g a b))

-- there is a set behind those of before once the last two are joined
pub some_more : (n : ℕ) (old s s1 new : SpaceOf) → length old.sets ≡ n → HasSome old s → PutsSome s s1 → Joins n s1 new → HasSome old new
some_more n old s s1 new count h q joins =
    let some : PutsSome (cut_to n s1) new = some_put_two (cut_to n s1) new [] [] [] (set_at s1.sets n) (set_at s1.sets (n + 1)) (λ f g p z. f p z || g p z) (λ m at f g a b. joins m at [] f g a b) in
    subst (λ (z : SpaceOf). HasSome z new) (cut_two n old s s1 h.set q.set count h.is q.puts) (has_some (cut_to n s1) new some)

-- the same at every reading
pub gather_more : (n : ℕ) (old s s1 new : SpaceOf) (Stand : Model → Reading → Choice → Choice → Type 0) (xs : List Value) (F G H : Choice → Choice → Choice) → length old.sets ≡ n → Gathers old s Stand xs F → PutsSome s s1
    → ((m : Model) (at : Reading) (f g : Choice) → Stand m at f g → PutsFamily s s1 m at xs (G f g)) → Joins n s1 new
    → ((f g : Choice) (p : Point) (z : Value) → (F f g p z || G f g p z) ≡ H f g p z) → Gathers old new Stand xs H
gather_more n old s s1 new Stand xs F G H count h some puts joins same = record {
  some = some_more n old s s1 new count h.some some joins;
  families = λ m at f g stand. one_same old new m at xs (λ p z. F f g p z || G f g p z) (H f g) (fun_ext (λ p. fun_ext (λ z. same f g p z)))
      (one_more n old s s1 new m at xs (F f g) (G f g) count (h.families m at f g stand) (puts m at f g stand) joins);
}

pub gather_none : (old s : SpaceOf) (Stand : Model → Reading → Choice → Choice → Type 0) (xs : List Value) (F : Choice → Choice → Choice) → ((m : Model) (at : Reading) (xs : List Value) → PutsFamily old s m at xs (λ p z. false))
    → ((f g : Choice) (p : Point) (z : Value) → false ≡ F f g p z) → PutsSome old s → Gathers old s Stand xs F
gather_none old s Stand xs F puts same some = record {
  some = has_some old s some;
  families = λ m at f g stand. one_same old s m at xs (λ p z. false) (F f g) (fun_ext (λ p. fun_ext (λ z. same f g p z))) (has_one old s m at xs (λ p z. false) (puts m at xs));
}

-- a call that is refused leaves sets behind those of before
pub join_leaves : (n : ℕ) (old s s1 new : SpaceOf) (e : SpaceFault) → length old.sets ≡ n → HasSome old s → PutsSome s s1 → Leaves (cut_to n s1) new e → Leaves old new e
join_leaves n old s s1 new e count h q f = subst (λ (z : SpaceOf). Leaves z new e) (cut_two n old s s1 h.set q.set count h.is q.puts) f

-- the sets of before where one more stands
pub family_front : (old s : SpaceOf) (m : Model) (at : Reading) (xs : List Value) (f : Choice) (k : ℕ) (more : List (List Bool)) → s ≡ with_more old more → k < length old.sets → IsFamily old.levels m at xs f (set_at old.sets k)
    → IsFamily s.levels m at xs f (set_at s.sets k)
family_front old s m at xs f k more is lt h =
    subst (λ (j : ℕ). IsFamily j m at xs f (set_at s.sets k)) (sym (ap (λ (z : SpaceOf). z.levels) is))
    (subst (λ (x : List Bool). IsFamily old.levels m at xs f x) (sym (at_front old s more k is lt)) h)
