-- Families of choices that agree in typed states.
use Rattle.std.proofs.Common.{◌≡◌, ℕ, ◌+◌, ◌<◌, ◌≤◌, List, [], ◌∷◌, Bool, true, false, ◌&&◌, nat_lt, IsTrue, length, None, Result, OnOk, refl, sym, ◌∙◌, ap, subst, arith, IfErr, length-append}
use Rattle.std.proofs.Math.Path.{fun_ext}
use Rattle.cov_syntax.specs.declared.tree.Value.{Value}
use Rattle.cov_syntax.specs.declared.tree.Value.TheVariants as v
use Rattle.cov_model.specs.declared.model.Model.{Model}
use Rattle.cov_model.specs.Meaning.{Point}
use Rattle.cov_model.specs.States.{State, is_typed, between}
use Rattle.cov_model.specs.Values.{item, same_value}
use Rattle.cov_model.proofs.Joined.{and_split}
use Rattle.cov_bits.proofs.Formed.{typed_places}
use Rattle.cov_space.specs.declared.layer.Layer.TheVariants.{W}
use Rattle.cov_space.specs.declared.fault.SpaceFault.{SpaceFault}
use Rattle.cov_space.specs.Sets.{SpaceOf, HasRoom, set_at}
use Rattle.cov_space.specs.Answers.{PutsSet}
use Rattle.cov_space.specs.Steps.{with_more, Leaves}
use Rattle.cov_fields.specs.Fields.{held}
use Rattle.cov_families.specs.Families.{index_of}
use Rattle.cov_nodes.specs.declared.reading.Reading.{Reading}
use Rattle.cov_nodes.specs.Points.{at_layer, has_typed, holds_states, is_point, state_of}
use Rattle.cov_nodes.specs.Choices.{Choice, IsFamily, PutsFamily, is_true_at, of_truth, ones}
use Rattle.cov_nodes.specs.Standing.{chunk, chunk_size}
use Rattle.cov_expressions.specs.Parts.{AreFamilies, cut_to}
use Rattle.cov_expressions.proofs.Stack.{settle_to, settled, puts_last, last_at, length_cut, cut_back}

-- ---- calls that put a family put a set

abbrev nothing : Model
nothing = record { names = []; vars = []; defines = []; inits = []; invars = []; nows = []; firsts = []; nexts = []; trans = []; fair = []; specs = [] }

-- no row names states on the layer that holds the numbers of values
abbrev nowhere : Reading
nowhere = at_layer W None

any_family : (levels : ℕ) (m : Model) (xs : List Value) (f : Choice) (set : List Bool) → IsFamily levels m nowhere xs f set
any_family levels m xs f set row len h = cc

abbrev nothing_allowed : Choice
nothing_allowed p x = false

-- where a call puts a family for every reading, it puts a set
pub record PutsSome (old new : SpaceOf) : Type 0 where
  pub set : List Bool
  pub puts : PutsSet old new set

pub some_put : (old new : SpaceOf) (xs ys : List Value) (set : List Bool) (F : Choice → Choice)
    → ((m : Model) (at : Reading) (f : Choice) → IsFamily old.levels m at ys f set → PutsFamily old new m at xs (F f)) → PutsSome old new
some_put old new xs ys set F h =
    let q = h nothing nowhere nothing_allowed (any_family old.levels nothing ys nothing_allowed set) in
    record { set = q.set; puts = q.puts }

pub some_put_two : (old new : SpaceOf) (xs ys zs : List Value) (a b : List Bool) (F : Choice → Choice → Choice)
    → ((m : Model) (at : Reading) (f g : Choice) → IsFamily old.levels m at ys f a → IsFamily old.levels m at zs g b → PutsFamily old new m at xs (F f g)) → PutsSome old new
some_put_two old new xs ys zs a b F h =
    let q = h nothing nowhere nothing_allowed nothing_allowed (any_family old.levels nothing ys nothing_allowed a) (any_family old.levels nothing zs nothing_allowed b) in
    record { set = q.set; puts = q.puts }

pub some_put_three : (old new : SpaceOf) (xs : List Value) (a b d : List Bool) (F : Choice → Choice → Choice → Choice)
    → ((m : Model) (at : Reading) (ys : List Value) (h f g : Choice) → IsFamily old.levels m at ones h a → IsFamily old.levels m at ys f b → IsFamily old.levels m at ys g d → PutsFamily old new m at ys (F h f g)) → PutsSome old new
some_put_three old new xs a b d F h =
    let q = h nothing nowhere xs nothing_allowed nothing_allowed nothing_allowed (any_family old.levels nothing ones nothing_allowed a) (any_family old.levels nothing xs nothing_allowed b) (any_family old.levels nothing xs nothing_allowed d) in
    record { set = q.set; puts = q.puts }

pub none_put : (old new : SpaceOf) → ((m : Model) (at : Reading) (xs : List Value) → PutsFamily old new m at xs nothing_allowed) → PutsSome old new
none_put old new h = let q = h nothing nowhere [] in record { set = q.set; puts = q.puts }

any_families : (s : SpaceOf) (m : Model) (first : ℕ) (xs : List Value) (f : Choice) → AreFamilies s m nowhere first xs f
any_families s m first xs f = record { is = λ k lt. any_family s.levels m (chunk (chunk_size s.levels) xs k) f (set_at s.sets (first + k)) }

pub some_put_row : (old new : SpaceOf) (xs ys zs : List Value) (a : List Bool) (first : ℕ) (F : Choice → Choice → Choice)
    → ((m : Model) (at : Reading) (f g : Choice) → IsFamily old.levels m at ys f a → AreFamilies old m at first zs g → PutsFamily old new m at xs (F f g)) → PutsSome old new
some_put_row old new xs ys zs a first F h =
    let q = h nothing nowhere nothing_allowed nothing_allowed (any_family old.levels nothing ys nothing_allowed a) (any_families old nothing first zs nothing_allowed) in
    record { set = q.set; puts = q.puts }

pub some_put_rows : (old new : SpaceOf) (xs ys zs : List Value) (first second : ℕ) (F : Choice → Choice → Choice)
    → ((m : Model) (at : Reading) (f g : Choice) → AreFamilies old m at first ys f → AreFamilies old m at second zs g → PutsFamily old new m at xs (F f g)) → PutsSome old new
some_put_rows old new xs ys zs first second F h =
    let q = h nothing nowhere nothing_allowed nothing_allowed (any_families old nothing first ys nothing_allowed) (any_families old nothing second zs nothing_allowed) in
    record { set = q.set; puts = q.puts }

pub some_put_chunks : (old new : SpaceOf) (xs ys : List Value) (first : ℕ) (F : Choice → Choice)
    → ((m : Model) (at : Reading) (f : Choice) → AreFamilies old m at first ys f → PutsFamily old new m at xs (F f)) → PutsSome old new
some_put_chunks old new xs ys first F h =
    let q = h nothing nowhere nothing_allowed (any_families old nothing first ys nothing_allowed) in
    record { set = q.set; puts = q.puts }

-- ---- settling

pub settled_family : (n : ℕ) (old s new : SpaceOf) (m : Model) (at : Reading) (xs : List Value) (f : Choice) → n ≤ length old.sets → PutsFamily old s m at xs f → new ≡ settle_to n s
    → PutsFamily (cut_to n old) new m at xs f
settled_family n old s new m at xs f le q e = record {
  set = q.set;
  puts = puts_last (cut_to n old) new q.set (settled n old s new q.set le q.puts e);
  is = q.is;
}

-- the family that is put last stands at the last place
pub family_at : (old new : SpaceOf) (m : Model) (at : Reading) (xs : List Value) (f : Choice) (n : ℕ) → length old.sets ≡ n → PutsFamily old new m at xs f → IsFamily new.levels m at xs f (set_at new.sets n)
family_at old new m at xs f n count q =
    subst (λ (k : ℕ). IsFamily k m at xs f (set_at new.sets n)) (sym (ap (λ (s : SpaceOf). s.levels) q.puts.is))
    (subst (λ (x : List Bool). IsFamily old.levels m at xs f x) (sym (last_at old new n q.set q.puts.is count)) q.is)

-- one set stands behind the first n
pub record IsSettled (n : ℕ) (old s : SpaceOf) : Type 0 where
  pub set : List Bool
  pub is : s ≡ with_more (cut_to n old) (set ∷ [])
  pub count : length s.sets ≡ n + 1
  pub levels : s.levels ≡ old.levels
  pub places : s.places ≡ old.places
  pub cut : cut_to n s ≡ cut_to n old

pub settled_some : (n : ℕ) (old s new : SpaceOf) → n ≤ length old.sets → PutsSome old s → new ≡ settle_to n s → IsSettled n old new
settled_some n old s new le q e =
    let is : new ≡ with_more (cut_to n old) (q.set ∷ []) = settled n old s new q.set le q.puts e in
    let long : length new.sets ≡ length (cut_to n old).sets + 1 = ap (λ (z : SpaceOf). length z.sets) is ∙ length-append (cut_to n old).sets (q.set ∷ []) in
    record {
      set = q.set;
      is = is;
      count = long ∙ ap (λ k. k + 1) (length_cut n old le);
      levels = ap (λ (z : SpaceOf). z.levels) is;
      places = ap (λ (z : SpaceOf). z.places) is;
      cut = cut_back n (cut_to n old) new (q.set ∷ []) is (length_cut n old le);
    }

pub settled_room : (n k : ℕ) (old s : SpaceOf) → n < length old.sets → HasRoom old k → IsSettled n old s → HasRoom s k
settled_room n k old s lt room q = omega (arith, room, q.count, q.places)

-- a further call that is refused leaves the first n sets
pub settled_leaves : (res : Result Unit SpaceFault) (n : ℕ) (old s new : SpaceOf) → IsSettled n old s → IfErr res (λ e. Leaves (cut_to n s) new e) → IfErr res (λ e. Leaves (cut_to n old) new e)
settled_leaves res n old s new q h = subst (λ (z : SpaceOf). IfErr res (λ e. Leaves z new e)) q.cut h

-- a family of truths is turned into that of all its values
pub then_truth : (res : Result Unit SpaceFault) (n : ℕ) (old s new end : SpaceOf) (m : Model) (at : Reading) (xs : List Value) (f : Choice) → n ≤ length old.sets → PutsFamily old s m at ones f → new ≡ settle_to n s
    → ((m : Model) (at : Reading) (f : Choice) → IsFamily new.levels m at ones f (set_at new.sets n) → OnOk res (PutsFamily (cut_to n new) end m at xs (of_truth (is_true_at f))))
    → OnOk res (PutsFamily (cut_to n old) end m at xs (of_truth (is_true_at f)))
then_truth res n old s new end m at xs f le q e h =
    let k : IsSettled n old new = settled_some n old s new le (record { set = q.set; puts = q.puts }) e in
    subst (λ (z : SpaceOf). OnOk res (PutsFamily z end m at xs (of_truth (is_true_at f)))) k.cut
    (h m at f (family_at (cut_to n old) new m at ones f n (length_cut n old le) (settled_family n old s new m at ones f le q e)))

-- ---- choices that agree

pub record AreTyped (m : Model) (at : Reading) (row : List Bool) : Type 0 where
  pub present : IsTrue (is_typed m (state_of m at.present row))
  pub next : IsTrue (is_typed m (state_of m at.next row))

pub typed_states : (m : Model) (at : Reading) (row : List Bool) → IsTrue (is_point m at row) → AreTyped m at row
typed_states m at row h =
    let p = and_split (holds_states at.present && holds_states at.next && has_typed m at.present row) (has_typed m at.next row) h in
    let q = and_split (holds_states at.present && holds_states at.next) (has_typed m at.present row) p.0 in
    record {
      present = subst (λ (b : Bool). IsTrue b) (sym (typed_places m.vars (state_of m at.present row))) q.1;
      next = subst (λ (b : Bool). IsTrue b) (sym (typed_places m.vars (state_of m at.next row))) p.1;
    }

-- two things have the same choices in typed states
pub record SameChoices (m : Model) (at : Reading) (f g : Choice) : Type 0 where
  pub same : (s t : State) → IsTrue (is_typed m s) → IsTrue (is_typed m t) → (x : Value) → f (between m s t at.flip) x ≡ g (between m s t at.flip) x

-- two things may be TRUE in the same typed states
pub record SameTruths (m : Model) (at : Reading) (f g : Choice) : Type 0 where
  pub same : (s t : State) → IsTrue (is_typed m s) → IsTrue (is_typed m t) → is_true_at f (between m s t at.flip) ≡ is_true_at g (between m s t at.flip)

pub family_same : (levels : ℕ) (m : Model) (at : Reading) (xs : List Value) (f g : Choice) (set : List Bool) → SameChoices m at f g → IsFamily levels m at xs f set → IsFamily levels m at xs g set
family_same levels m at xs f g set h is row len pt =
    let k : ℕ = held (index_of (length xs)) row in
    let t : AreTyped m at row = typed_states m at row pt in
    is row len pt ∙ ap (λ (b : Bool). nat_lt k (length xs) && b) (h.same (state_of m at.present row) (state_of m at.next row) t.present t.next (item xs k))

pub puts_same : (old new : SpaceOf) (m : Model) (at : Reading) (xs : List Value) (f g : Choice) → SameChoices m at f g → PutsFamily old new m at xs f → PutsFamily old new m at xs g
puts_same old new m at xs f g h q = record { set = q.set; puts = q.puts; is = family_same old.levels m at xs f g q.set h q.is }

-- ---- truths

same_as_true : (b : Bool) → same_value (v.Bool b) (v.Bool true) ≡ b
same_as_true true = refl
same_as_true false = refl

-- a truth may be TRUE where it is
pub truth_of_truth : (t : Point → Bool) → is_true_at (of_truth t) ≡ t
truth_of_truth t = fun_ext (λ p. same_as_true (t p))
