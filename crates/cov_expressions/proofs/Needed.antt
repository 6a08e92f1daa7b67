-- What stands where an expression is put stands where its parts are put.
use Rattle.std.proofs.Common.{◌≡◌, ℕ, ◌+◌, ◌*◌, ◌<◌, ◌≤◌, List, [], ◌∷◌, Bool, ◌&&◌, IsTrue, IsFalse, length, Option, None, refl, sym, ◌∙◌, ap, subst, arith, length-append}
use Rattle.std.specs.Prelude.{◌≢◌}
use Rattle.std.specs.List.{list_all}
use Rattle.std.proofs.Math.Nat.{mul-le-mul_left}
use Rattle.cov_syntax.specs.declared.tree.Value.{Value}
use Rattle.cov_syntax.specs.declared.tree.Expr.{Expr}
use Rattle.cov_syntax.specs.declared.tree.Branch.{Branch}
use Rattle.cov_syntax.specs.declared.tree.Op1.{Op1}
use Rattle.cov_syntax.specs.declared.tree.Op2.{Op2}
use Rattle.cov_syntax.specs.declared.tree.Op2.TheVariants as op2
use Rattle.cov_syntax.specs.declared.tree.Node.{out-Node}
use Rattle.cov_syntax.specs.declared.tree.Node.TheOpen.{Node-F}
use Rattle.cov_model.specs.declared.model.Model.{Model}
use Rattle.cov_model.specs.declared.model.Signal.{Signal}
use Rattle.cov_model.specs.Atoms.{StandsIn, whole, member, guard, body}
use Rattle.cov_model.specs.Order.{reads}
use Rattle.cov_model.specs.Settled.{kinds_of}
use Rattle.cov_model.specs.WellFormed.{IsWellFormed}
use Rattle.cov_bits.specs.Layout.{sizes, bits}
use Rattle.cov_model.proofs.Joined.{and_split, and_join}
use Rattle.cov_ranges.specs.Ranges.{IsExpressionOf, is_set, range_of}
use Rattle.cov_ranges.proofs.Listed.{expression_sound, lists_few, lists_once}
use Rattle.cov_ranges.proofs.Places.{parts_stand}
use Rattle.cov_types.specs.Roots.{greatest_width}
use Rattle.cov_readings.proofs.Single.{operand_single, left_single, right_single, guards_single}
use Rattle.cov_readings.proofs.Widths.{narrow}
use Rattle.cov_space.specs.declared.layer.Layer.{Layer}
use Rattle.cov_space.specs.Sets.{SpaceOf, HasRoom}
use Rattle.cov_space.specs.Steps.{with_more}
use Rattle.cov_nodes.specs.declared.defined.Standing as standing
use Rattle.cov_nodes.specs.declared.reading.Reading.{Reading}
use Rattle.cov_nodes.specs.Points.{at_layer, moved_on}
use Rattle.cov_nodes.specs.Choices.{IsChunk, ones}
use Rattle.cov_nodes.specs.Standing.{AreStanding, IsStanding, IsTruthAt, IsChunkedAt, chunk, chunk_size, define_choice, has_entry}
use Rattle.cov_expressions.specs.declared.scope.Scope.{Scope}
use Rattle.cov_expressions.specs.Scopes.{IsScope}
use Rattle.cov_expressions.specs.Needs.{widest, places_for, CanPut, CanPutAll, IsReadable, IsList, AreReadable, AreArms}
use Rattle.cov_expressions.proofs.Gathering.{family_front}
use Rattle.cov_expressions.proofs.Tops.{part_reads}

-- ---- the sets of DEFINEs where more sets stand

truth_more : (s : SpaceOf) (more : List (List Bool)) (m : Model) (layer : Layer) (flip : Option Signal) (i slot : ℕ) → IsTruthAt s m layer flip i slot → IsTruthAt (with_more s more) m layer flip i slot
truth_more s more m layer flip i slot h = record {
  there = let lt : slot < length s.sets = h.there in omega (arith, length-append s.sets more);
  boolean = h.boolean;
  is = family_front s (with_more s more) m (at_layer layer flip) ones (define_choice i) slot more refl h.there h.is;
}

chunks_more : (s : SpaceOf) (more : List (List Bool)) (m : Model) (layer : Layer) (flip : Option Signal) (i first : ℕ) (xs : List Value) → IsChunkedAt s m layer flip i first xs → IsChunkedAt (with_more s more) m layer flip i first xs
chunks_more s more m layer flip i first xs h = record {
  listed = h.listed;
  few = h.few;
  once = h.once;
  there = λ k lt. let below : first + k < length s.sets = h.there k lt in omega (arith, length-append s.sets more);
  is = λ k lt. family_front s (with_more s more) m (at_layer layer flip) (chunk (chunk_size s.levels) xs k) (define_choice i) (first + k) more refl (h.there k lt) (h.is k lt);
}

standing_more : (s : SpaceOf) (more : List (List Bool)) (m : Model) (layer : Layer) (flip : Option Signal) (i : ℕ) (d : standing.Standing) → IsStanding s m layer flip i d → IsStanding (with_more s more) m layer flip i d
standing_more s more m layer flip i (standing.TheVariants.Truth slot) h = truth_more s more m layer flip i slot h
standing_more s more m layer flip i (standing.TheVariants.Chunks first xs) h = chunks_more s more m layer flip i first xs h

pub scope_more : (s new : SpaceOf) (scope : Scope) (more : List (List Bool)) → new ≡ with_more s more → IsScope s scope → IsScope new scope
scope_more s new scope more is h = subst (λ (z : SpaceOf). IsScope z scope) (sym is) (record {
  formed = h.formed;
  plan = h.plan;
  levels = h.levels;
  here = λ i d g. standing_more s more scope.m.now scope.at.present scope.at.flip i d (h.here i d g);
  there = λ i d g. standing_more s more scope.m.now scope.at.next None i d (h.there i d g);
})

-- ---- the scope of the operand of `next`

-- the scope that is moved on
pub record IsMoved (scope moved : Scope) : Type 0 where
  pub m : moved.m.now ≡ scope.m.now
  pub plan : moved.plan.now ≡ scope.plan.now
  pub at : moved.at ≡ moved_on scope.at
  pub here : moved.here.now ≡ scope.there.now
  pub there : moved.there.now ≡ scope.there.now

all_weaker : (p q : ℕ → Bool) → ((i : ℕ) → IsTrue (p i) → IsTrue (q i)) → (xs : List ℕ) → IsTrue (list_all p xs) → IsTrue (list_all q xs)
all_weaker p q h [] k = refl
all_weaker p q h (x ∷ xs) k = let s = and_split (p x) (list_all p xs) k in and_join (q x) (list_all q xs) (h x s.0) (all_weaker p q h xs s.1)

moved_scope : (s : SpaceOf) (scope moved : Scope) → IsMoved scope moved → IsScope s scope → IsScope s moved
moved_scope s scope moved k h = record {
  formed = subst (λ (m : Model). IsWellFormed m) (sym k.m) h.formed;
  plan = k.plan ∙ h.plan ∙ ap (λ (m : Model). sizes m.vars) (sym k.m);
  levels = h.levels ∙ ap (λ (m : Model). 3 * bits (sizes m.vars)) (sym k.m);
  here = subst (λ (m : Model). AreStanding s m moved.at.present moved.at.flip moved.here.now) (sym k.m)
      (subst (λ (at : Reading). AreStanding s scope.m.now at.present at.flip moved.here.now) (sym k.at)
      (subst (λ (ds : List (Option standing.Standing)). AreStanding s scope.m.now scope.at.next None ds) (sym k.here) h.there));
  there = subst (λ (m : Model). AreStanding s m moved.at.next None moved.there.now) (sym k.m)
      (subst (λ (at : Reading). AreStanding s scope.m.now at.next None moved.there.now) (sym k.at)
      (subst (λ (ds : List (Option standing.Standing)). AreStanding s scope.m.now scope.at.next None ds) (sym k.there) h.there));
}

pub moved_readable : (scope moved : Scope) (e : Expr) → IsMoved scope moved → IsReadable scope e → IsReadable moved e
moved_readable scope moved e k h = record {
  expression = subst (λ (m : Model). IsExpressionOf m e) (sym k.m) h.expression;
  reads = subst (λ (ds : List (Option standing.Standing)). IsTrue (list_all (λ i. has_entry ds i && has_entry moved.there.now i) (reads e))) (sym k.here)
      (subst (λ (ds : List (Option standing.Standing)). IsTrue (list_all (λ i. has_entry scope.there.now i && has_entry ds i) (reads e))) (sym k.there)
      (all_weaker (λ i. has_entry scope.here.now i && has_entry scope.there.now i) (λ i. has_entry scope.there.now i && has_entry scope.there.now i)
      (λ i p. let q = and_split (has_entry scope.here.now i) (has_entry scope.there.now i) p in and_join (has_entry scope.there.now i) (has_entry scope.there.now i) q.1 q.1) (reads e) h.reads));
}

-- ---- places

pub widest_some : (m : Model) → 2 ≤ widest m
unfolding widest
widest_some m = omega arith

pub narrow_range : (m : Model) (e : Expr) → IsExpressionOf m e → length (range_of m e) ≤ widest m
unfolding widest
narrow_range m e x = narrow m e x

pub widest_is : (m : Model) → widest m ≡ greatest_width m
unfolding widest
widest_is m = refl

-- a part needs fewer places, and there are as many as four and three times the widest besides
pub places_part : (m : Model) (d e : ℕ) → d + 1 ≤ e → places_for m d + (3 * widest m + 4) ≤ places_for m e
places_part m d e le =
    let k : (3 * widest m + 4) * (d + 1) ≤ (3 * widest m + 4) * e = mul-le-mul_left (3 * widest m + 4) le in
    let p : (3 * widest m + 4) * (d + 1) ≡ (3 * widest m + 4) * d + (3 * widest m + 4) = omega arith in
    omega arith

pub places_some : (m : Model) (d : ℕ) → 1 ≤ d → 17 ≤ places_for m d
places_some m d le = let p = places_part m 0 d (omega arith) in let w = widest_some m in let z : (3 * widest m + 4) * 0 ≡ 0 = omega arith in omega (arith, p, w, z)

pub places_two : (m : Model) (d : ℕ) → 2 ≤ d → 6 * widest m + 15 ≤ places_for m d
places_two m d le =
    let p = places_part m 1 d (omega arith) in
    let one : (3 * widest m + 4) * 1 ≡ 3 * widest m + 4 = omega arith in
    omega (arith, p, one)

-- ---- what can be put

pub ones_chunk : (levels : ℕ) → IsChunk levels ones
ones_chunk levels = record { some = omega arith; few = omega arith; fits = record { there = omega arith; narrow = omega arith }; once = refl }

-- TRUE alone has a set where there are values
pub can_more : (s new : SpaceOf) (scope : Scope) (xs ys : List Value) (d e : ℕ) (more : List (List Bool)) → CanPut s scope xs e → new ≡ with_more s more → d + 1 ≤ e → length more ≤ 3 * widest scope.m.now + 4
    → IsChunk s.levels ys → length ys ≤ widest scope.m.now → CanPut new scope ys d
can_more s new scope xs ys d e more h is le few chunk short =
    let p = places_part scope.m.now d e le in
    let room : HasRoom s (places_for scope.m.now e) = h.room in
    subst (λ (z : SpaceOf). CanPut z scope ys d) (sym is) (record {
      scoped = scope_more s (with_more s more) scope more refl h.scoped;
      chunk = chunk;
      narrow = short;
      room = omega (arith, room, p, few, length-append s.sets more);
    })

pub can_all : (s new : SpaceOf) (scope : Scope) (xs ys : List Value) (d e : ℕ) (more : List (List Bool)) → CanPut s scope xs e → new ≡ with_more s more → d + 1 ≤ e → length more ≤ 2 * widest scope.m.now + 4
    → IsList scope.m.now ys → CanPutAll new scope ys d
can_all s new scope xs ys d e more h is le few list =
    let p = places_part scope.m.now d e le in
    let room : HasRoom s (places_for scope.m.now e) = h.room in
    subst (λ (z : SpaceOf). CanPutAll z scope ys d) (sym is) (record {
      scoped = scope_more s (with_more s more) scope more refl h.scoped;
      list = list;
      room = omega (arith, room, p, few, length-append s.sets more);
    })

-- the operand of `next` over the same values
pub can_moved : (s : SpaceOf) (scope moved : Scope) (xs : List Value) (d : ℕ) → IsMoved scope moved → CanPut s scope xs (1 + d) → CanPut s moved xs d
can_moved s scope moved xs d k h =
    let p = places_part scope.m.now d (1 + d) (omega arith) in
    record {
      scoped = moved_scope s scope moved k h.scoped;
      chunk = h.chunk;
      narrow = subst (λ (m : Model). length xs ≤ widest m) (sym k.m) h.narrow;
      room = subst (λ (m : Model). HasRoom s (places_for m d)) (sym k.m) (omega (arith, p, h.room));
    }

-- ---- parts

pub part_readable : (scope : Scope) (x e : Expr) → StandsIn x e → IsReadable scope e → IsReadable scope x
part_readable scope x e p h = record {
  expression = parts_stand scope.m.now x e h.expression p;
  reads = part_reads (λ i. has_entry scope.here.now i && has_entry scope.there.now i) x e p h.reads;
}

pub list_of : (s : SpaceOf) (scope : Scope) (e : Expr) (xs : List Value) → IsScope s scope → IsReadable scope e → xs ≡ range_of scope.m.now e → IsList scope.m.now xs
list_of s scope e xs h r is = subst (λ (ys : List Value). IsList scope.m.now ys) (sym is) (record {
  few = lists_few scope.m.now h.formed e r.expression;
  narrow = narrow_range scope.m.now e r.expression;
  once = lists_once scope.m.now h.formed e;
})

pub operand_is_single : (s : SpaceOf) (scope : Scope) (e a : Expr) (op : Op1) → IsScope s scope → IsReadable scope e → out-Node e.node ≡ Node-F.One op a → IsFalse (is_set a)
operand_is_single s scope e a op h r top = operand_single (kinds_of scope.m.now) e a op (expression_sound scope.m.now e h.formed r.expression).faultless top

pub left_is_single : (s : SpaceOf) (scope : Scope) (e a b : Expr) (op : Op2) → IsScope s scope → IsReadable scope e → out-Node e.node ≡ Node-F.Two op a b → op ≢ op2.Union → IsFalse (is_set a)
left_is_single s scope e a b op h r top n = left_single (kinds_of scope.m.now) e a b op (expression_sound scope.m.now e h.formed r.expression).faultless top n

pub right_is_single : (s : SpaceOf) (scope : Scope) (e a b : Expr) (op : Op2) → IsScope s scope → IsReadable scope e → out-Node e.node ≡ Node-F.Two op a b → op ≢ op2.Union → op ≢ op2.Member → IsFalse (is_set b)
right_is_single s scope e a b op h r top n k = right_single (kinds_of scope.m.now) e a b op (expression_sound scope.m.now e h.formed r.expression).faultless top n k

pub items_readable : (scope : Scope) (e : Expr) (es : List Expr) → IsReadable scope e → out-Node e.node ≡ Node-F.Set es → AreReadable scope es
items_readable scope e es r top = record { each = λ i a g. part_readable scope a e (member e a es i top g whole) r }

pub arms_readable : (s : SpaceOf) (scope : Scope) (e : Expr) (bs : List Branch) → IsScope s scope → IsReadable scope e → out-Node e.node ≡ Node-F.Case bs → AreArms scope bs
arms_readable s scope e bs h r top = record {
  guards = λ i b g. part_readable scope b.guard e (guard e b bs i top g whole) r;
  bodies = λ i b g. part_readable scope b.body e (body e b bs i top g whole) r;
  single = λ i b g. guards_single (kinds_of scope.m.now) e bs i b (expression_sound scope.m.now e h.formed r.expression).faultless top g;
}
