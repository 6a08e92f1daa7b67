-- The family of a DEFINE, of the sets that stand for it.
use Rattle.std.proofs.Common.{◌≡◌, ℕ, ◌<◌, ◌+◌, ◌*◌, ◌&&◌, ◌||◌, nat_lt, IsTrue, List, [], ◌∷◌, Bool, true, false, Result, OnOk, length, refl, sym, ◌∙◌, ap, subst}
use Rattle.std.specs.Int.{div_ceil}
use Rattle.std.specs.List.{list_any}
use Rattle.std.proofs.lemmas.Bool.{and_parts}
use Rattle.cov_syntax.specs.declared.tree.Value.{Value}
use Rattle.cov_syntax.specs.declared.tree.Value.TheVariants as v
use Rattle.cov_bits.proofs.Formed.{typed_places}
use Rattle.cov_space.specs.declared.fault.SpaceFault.{SpaceFault}
use Rattle.cov_space.specs.Sets.{SpaceOf, set_at}
use Rattle.cov_space.specs.Answers.{PutsSet}
use Rattle.cov_space.proofs.Calls.{on_ok_map}
use Rattle.cov_fields.specs.Fields.{held}
use Rattle.cov_model.specs.declared.model.Model.{Model}
use Rattle.cov_model.specs.Kinds.{is_truth, member}
use Rattle.cov_model.specs.Meaning.{define}
use Rattle.cov_model.specs.States.{is_typed}
use Rattle.cov_model.specs.Values.{item, same_value}
use Rattle.cov_model.proofs.Joins.{or_left, or_right, same_value-eq}
use Rattle.cov_places.specs.Laws.{ApartLaw}
use Rattle.cov_families.specs.Families.{index_of, some_below}
use Rattle.cov_families.proofs.Numbers.{some_same}
use Rattle.cov_nodes.specs.declared.reading.Reading.{Reading}
use Rattle.cov_nodes.specs.Points.{at_layer, has_typed, holds_states, is_point, point_at, state_of}
use Rattle.cov_nodes.specs.Choices.{Choice, IsChunk, IsFamily, PutsFamily, is_true_at, of_truth, ones, picked}
use Rattle.cov_nodes.specs.Chunks.{chunk_count, gathered_set, in_chunk}
use Rattle.cov_nodes.specs.Standing.{IsChunkedAt, IsTruthAt, chunk, chunk_size, define_choice}
use Rattle.cov_nodes.specs.Tables.{itself}
use Rattle.cov_nodes.proofs.Chunking.{any_chunk, begins_within, chunk_field, some_size}
use Rattle.cov_nodes.proofs.Families.{puts_family}
use Rattle.cov_nodes.proofs.Numbers.{equal_tests, same_self}
use Rattle.cov_nodes.proofs.Operating.{lies_made}
use Rattle.cov_nodes.proofs.Some.{any_beside}

-- ---- the present state of a reading

four_parts : (a b c d : Bool) → IsTrue (a && b && c && d) → IsTrue a × IsTrue c
four_parts true true true d h = (refl, refl)
four_parts true true false d h = cc
four_parts true false c d h = cc
four_parts false b c d h = cc

four_same : (a c : Bool) → IsTrue a → IsTrue c → IsTrue (a && a && c && c)
four_same true true h g = refl
four_same true false h g = g
four_same false c h g = h

-- where the present state alone is read
point_present : (m : Model) (at : Reading) (row : List Bool) → IsTrue (is_point m at row) → IsTrue (is_point m (at_layer at.present at.flip) row)
point_present m at row h =
    let p = four_parts (holds_states at.present) (holds_states at.next) (has_typed m at.present row) (has_typed m at.next row) h in
    four_same (holds_states at.present) (has_typed m at.present row) p.0 p.1

-- it is typed
typed_present : (m : Model) (at : Reading) (row : List Bool) → IsTrue (is_point m at row) → IsTrue (is_typed m (state_of m at.present row))
typed_present m at row h =
    let p = four_parts (holds_states at.present) (holds_states at.next) (has_typed m at.present row) (has_typed m at.next row) h in
    typed_places m.vars (state_of m at.present row) ∙ p.1

-- a family of a DEFINE looks at the present state alone
define_present : (levels : ℕ) (m : Model) (at : Reading) (i : ℕ) (xs : List Value) (set : List Bool) → IsFamily levels m (at_layer at.present at.flip) xs (define_choice i) set → IsFamily levels m at xs (define_choice i) set
define_present levels m at i xs set is row len typed = is row len (point_present m at row typed)

-- a family under another name
family_same : (old new : SpaceOf) (m : Model) (at : Reading) (xs : List Value) (f g : Choice) → ((row : List Bool) → IsTrue (is_point m at row) → (z : Value) → f (point_at m at row) z ≡ g (point_at m at row) z)
    → PutsFamily old new m at xs f → PutsFamily old new m at xs g
family_same old new m at xs f g same h = record {
  set = h.set;
  puts = h.puts;
  is = λ row len typed.
      let k : ℕ = held (index_of (length xs)) row in
      h.is row len typed ∙ ap (λ b. nat_lt k (length xs) && b) (same row typed (item xs k));
}

-- ---- one truth

truth_same : (d z : Value) → IsTrue (is_truth d) → same_value (v.Bool (same_value d (v.Bool true))) z ≡ same_value d z
truth_same (v.Bool true) z h = refl
truth_same (v.Bool false) z h = refl
truth_same (v.Int n) z h = cc
truth_same (v.Sym n) z h = cc

pub truth_put : (res : Result Unit SpaceFault) (old new : SpaceOf) (m : Model) (at : Reading) (i slot : ℕ) (xs : List Value) → IsTruthAt old m at.present at.flip i slot
    → ((f : Choice) → IsFamily old.levels m at ones f (set_at old.sets slot) → OnOk res (PutsFamily old new m at xs (of_truth (is_true_at f)))) → OnOk res (PutsFamily old new m at xs (define_choice i))
truth_put res old new m at i slot xs stands ok =
    on_ok_map res (PutsFamily old new m at xs (of_truth (is_true_at (define_choice i)))) (PutsFamily old new m at xs (define_choice i))
    (family_same old new m at xs (of_truth (is_true_at (define_choice i))) (define_choice i) (λ row typed z.
    truth_same (define (point_at m at row).present i) z (stands.boolean (state_of m at.present row) (typed_present m at row typed))))
    (ok (define_choice i) (define_present old.levels m at i ones (set_at old.sets slot) stands.is))

-- ---- one of some values

-- some value of the list is the value, and is the other
into_same : (d z : Value) (xs : List Value) → list_any (λ x. same_value d x && same_value x z) xs ≡ true → same_value d z ≡ true
into_same d z [] h = cc
into_same d z (x ∷ xs) h = by (same_value d x && same_value x z) refl h (into_same d z xs)
  where
    by : (b : Bool) → (same_value d x && same_value x z) ≡ b → (b || list_any (λ x. same_value d x && same_value x z) xs) ≡ true → (list_any (λ x. same_value d x && same_value x z) xs ≡ true → same_value d z ≡ true) → same_value d z ≡ true
    by true e g later =
        let p = and_parts (same_value d x) (same_value x z) e in
        subst (λ (y : Value). same_value y z ≡ true) (sym (same_value-eq d x p.0)) p.1
    by false e g later = later g

from_member : (d z : Value) (xs : List Value) → IsTrue (member xs d) → same_value d z ≡ true → list_any (λ x. same_value d x && same_value x z) xs ≡ true
from_member d z [] h g = cc
from_member d z (x ∷ xs) h g = by (same_value x d) refl h (λ k. from_member d z xs k g)
  where
    by : (b : Bool) → same_value x d ≡ b → (b || member xs d) ≡ true → (IsTrue (member xs d) → list_any (λ x. same_value d x && same_value x z) xs ≡ true) → list_any (λ x. same_value d x && same_value x z) (x ∷ xs) ≡ true
    by true e k later =
        let same : x ≡ d = same_value-eq x d e in
        or_left (same_value d x && same_value x z) (list_any (λ x. same_value d x && same_value x z) xs)
        (subst (λ (y : Value). (same_value d y && same_value y z) ≡ true) (sym same) (ap (λ b. b && same_value d z) (same_self d) ∙ g))
    by false e k later = or_right (same_value d x && same_value x z) (list_any (λ x. same_value d x && same_value x z) xs) (later k)

listed_same : (d z : Value) (xs : List Value) → IsTrue (member xs d) → list_any (λ x. same_value d x && same_value x z) xs ≡ same_value d z
listed_same d z xs h = equal_tests (list_any (λ x. same_value d x && same_value x z) xs) (same_value d z) (into_same d z xs) (from_member d z xs h)

-- the sets of all chunks, at a row
gathered_test : ApartLaw → (old : SpaceOf) (m : Model) (at : Reading) (i first : ℕ) (vs xs : List Value) → IsChunkedAt old m at.present at.flip i first vs → IsChunk old.levels xs
    → (row : List Bool) → length row ≡ old.levels → IsTrue (is_point m at row) → some_below (chunk_count old vs) (in_chunk old first vs xs row) ≡ picked xs (define_choice i (point_at m at row)) row
gathered_test law old m at i first vs xs stands chunk_of row len typed =
    let k : ℕ = held (index_of (length xs)) row in
    let inside : Bool = nat_lt k (length xs) in
    let z : Value = item xs k in
    let d : Value = define (point_at m at row).present i in
    let size : ℕ = chunk_size old.levels in
    let test : Value → Bool = λ x. same_value d x && (inside && same_value x z) in
    some_same (div_ceil (length vs) size) (in_chunk old first vs xs row) (λ n. list_any test (chunk size vs n)) (λ n lt.
    let begins : n * size < length vs = begins_within (length vs) size n (some_size old.levels) lt in
    lies_made law old.levels m at itself (chunk size vs n) xs (define_choice i) (set_at old.sets (first + n)) (chunk_field old.levels vs n begins) chunk_of.once
    (define_present old.levels m at i (chunk size vs n) (set_at old.sets (first + n)) (stands.is n begins)) row len typed
    ∙ sym (any_beside inside (same_value d) (λ x. same_value x z) (chunk size vs n)))
    ∙ any_chunk size vs test (some_size old.levels)
    ∙ any_beside inside (same_value d) (λ x. same_value x z) vs
    ∙ ap (λ b. inside && b) (listed_same d z vs (stands.listed (state_of m at.present row) (typed_present m at row typed)))

pub gathered_put : (res : Result Unit SpaceFault) → ApartLaw → (old new : SpaceOf) (m : Model) (at : Reading) (i first : ℕ) (vs xs : List Value) → IsChunkedAt old m at.present at.flip i first vs → IsChunk old.levels xs
    → OnOk res (PutsSet old new (gathered_set old first vs xs)) → OnOk res (PutsFamily old new m at xs (define_choice i))
gathered_put res law old new m at i first vs xs stands chunk_of ok =
    on_ok_map res (PutsSet old new (gathered_set old first vs xs)) (PutsFamily old new m at xs (define_choice i)) (λ puts.
    puts_family old new m at xs (define_choice i) (λ row. some_below (chunk_count old vs) (in_chunk old first vs xs row)) puts (gathered_test law old m at i first vs xs stands chunk_of)) ok
