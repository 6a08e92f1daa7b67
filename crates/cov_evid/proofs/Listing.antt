-- States that are read one after the other, up to the line that ends them.
use Rattle.std.proofs.Common.{◌≡◌, ℕ, ◌+◌, ◌<◌, ◌≤◌, Bool, true, false, IsTrue, List, [], ◌∷◌, ◌++◌, length, Some, refl, sym, ap, subst, ◌∙◌, append_assoc, length-append, arith}
use Rattle.std.specs.Prelude.{not, ◌&&◌, codes}
use Rattle.std.specs.Str.{bytes_eq}
use Rattle.std.proofs.lemmas.List.{append-nil, map-append}
use Rattle.std.proofs.lemmas.Slice.Eq.{bytes_eq-Decides}
use Rattle.cov_syntax.specs.Tokens.{Text}
use Rattle.cov_model.specs.declared.model.Model.{Model}
use Rattle.cov_model.specs.States.{State, is_typed}
use Rattle.cov_show.specs.Cubes.{shown_vars}
use Rattle.cov_show.specs.States.{state_text}
use Rattle.cov_evid.specs.declared.ending.Ending.{Ending}
use Rattle.cov_evid.specs.declared.ending.Ending.TheVariants as ending
use Rattle.cov_evid.specs.declared.fault.EvidFault.{EvidFault}
use Rattle.cov_evid.specs.declared.fault.EvidFaultKind.TheVariants as kind
use Rattle.cov_evid.specs.Cursors.{AreSole, IsSole, Cursor, IsLast, IsListed, IsNext, IsTaken, fault_in, piece}
use Rattle.cov_evid.specs.Faults.{fault_at}
use Rattle.cov_evid.specs.FirstFault.{for_first, for_listed, for_stem, past_ending}
use Rattle.cov_evid.specs.Spelling.{are_typed, as_text, ending_line, most_states, state_lines}
use Rattle.cov_evid.proofs.Taking.{as_text-append}
use Rattle.cov_evid.proofs.Walking.{cut_is, goes_on}

-- a line that does not end the list is read as a state
pub is_listed : (m : Model) (e : Ending) (n : ℕ) (line : Text) → bytes_eq line (ending_line e) ≡ false → IsListed m (for_listed e n) n (for_listed e (n + 1)) line
is_listed m e n line h = record { whole = rw h refl; last = rw h refl }

-- one more state
state_lines-more : (m : Model) (ss : List State) (s : State) → state_lines m (ss ++ s ∷ []) ≡ state_lines m ss ++ state_text (shown_vars m) s ∷ []
state_lines-more m ss s = map-append (state_text (shown_vars m)) ss (s ∷ [])

typed_more : (m : Model) (ss : List State) (s : State) → IsTrue (are_typed m ss) → IsTrue (is_typed m s) → IsTrue (are_typed m (ss ++ s ∷ []))
typed_more m [] s h k = rw k refl
typed_more m (t ∷ ss) s h k = by (is_typed m t) h (typed_more m ss s)
  where
    by : (b : Bool) → IsTrue (b && are_typed m ss) → (IsTrue (are_typed m ss) → IsTrue (is_typed m s) → IsTrue (are_typed m (ss ++ s ∷ []))) → IsTrue (b && are_typed m (ss ++ s ∷ []))
    by true h more = more h k
    by false h more = h

sole_more : (m : Model) (ss : List State) (s : State) → AreSole m ss → IsSole m s → AreSole m (ss ++ s ∷ [])
sole_more m [] s h k = (k, tt)
sole_more m (t ∷ ss) s h k = (h.0, sole_more m ss s h.1 k)

-- what was read of a list so far, and what is left
pub record Listing (m : Model) (e : Ending) (before : ℕ) (old : List State) (from : Cursor) (new : List State) (c : Cursor) : Type 0 where
  pub typed : IsTrue (are_typed m new)
  pub sole : AreSole m new
  pub room : before + length new ≤ most_states
  pub more : length old ≤ length new
  pub text : as_text (state_lines m old) ++ from.rest ≡ as_text (state_lines m new) ++ c.rest
  pub first : fault_in m (for_listed e (before + length old)) from ≡ fault_in m (for_listed e (before + length new)) c

pub listing_start : (m : Model) (e : Ending) (before : ℕ) (old : List State) (from : Cursor) → IsTrue (are_typed m old) → AreSole m old → before + length old ≤ most_states → Listing m e before old from old from
listing_start m e before old from t sole r = record { typed = t; sole = sole; room = r; more = omega arith; text = refl; first = refl }

module _ (m : Model) (e : Ending) (before : ℕ) (old : List State) (from : Cursor) (new : List State) (c : Cursor) (l : Listing m e before old from new c) where
  pub listing_more : (s : State) (all : List State) (n : ℕ) (d : Cursor) → n ≡ before + length new → IsTrue (is_typed m s) → IsSole m s → n < most_states → IsTaken c (state_text (shown_vars m) s ∷ []) d
      → fault_in m (for_listed e n) c ≡ fault_in m (for_listed e (n + 1)) d → all ≡ new ++ s ∷ [] → Listing m e before old from all d
  listing_more s all n d k t one r taken on is =
      let t1 : Text = state_text (shown_vars m) s in
      let len : length all ≡ length new + 1 = ap length is ∙ length-append new (s ∷ []) in
      let next : n + 1 ≡ before + length all = omega (arith, len, k) in
      record {
        typed = subst (λ (ss : List State). IsTrue (are_typed m ss)) (sym is) (typed_more m new s l.typed t);
        sole = subst (AreSole m) (sym is) (sole_more m new s l.sole one);
        room = omega (arith, len, k, r);
        more = omega (arith, len, l.more);
        text =
            l.text ∙ ap (λ (z : Text). as_text (state_lines m new) ++ z) taken
            ∙ sym (append_assoc (as_text (state_lines m new)) (as_text (t1 ∷ [])) d.rest)
            ∙ ap (λ (z : Text). z ++ d.rest) (sym (as_text-append (state_lines m new) (t1 ∷ [])))
            ∙ ap (λ (ls : List Text). as_text ls ++ d.rest) (sym (state_lines-more m new s))
            ∙ ap (λ (ss : List State). as_text (state_lines m ss) ++ d.rest) (sym is);
        first = l.first ∙ ap (λ (i : ℕ). fault_in m (for_listed e i) c) (sym k) ∙ on ∙ ap (λ (i : ℕ). fault_in m (for_listed e i) d) next;
      }

  -- the line that ends the list is cut
  pub listing_cut : (f : EvidFault) → bytes_eq (piece c.rest) (ending_line e) ≡ true → (f ≡ fault_at kind.Cut c.number) × IsLast c
      → fault_in m (for_listed e (before + length old)) from ≡ Some f
  listing_cut f h k =
      let same : bytes_eq c.rest (ending_line e) ≡ true = subst (λ (z : Text). bytes_eq z (ending_line e) ≡ true) k.1.whole h in
      l.first ∙ cut_is m (for_listed e (before + length new)) c f (rw same refl) k

  -- the line that ends the list was taken
  pub ending_taken : (d : Cursor) (line : Text) → IsNext c line d → bytes_eq (piece c.rest) (ending_line e) ≡ true
      → as_text (state_lines m old) ++ from.rest ≡ as_text (state_lines m new ++ ending_line e ∷ []) ++ d.rest
  ending_taken d line next h =
      let same : line ≡ ending_line e = next.front ∙ (bytes_eq-Decides (piece c.rest) (ending_line e)).0 h in
      let left : c.rest ≡ as_text (ending_line e ∷ []) ++ d.rest = next.text ∙ ap (λ (z : Text). z ++ 10 ∷ d.rest) same ∙ simp (append_assoc, append-nil) in
      l.text ∙ ap (λ (z : Text). as_text (state_lines m new) ++ z) left
      ∙ sym (append_assoc (as_text (state_lines m new)) (as_text (ending_line e ∷ [])) d.rest)
      ∙ ap (λ (z : Text). z ++ d.rest) (sym (as_text-append (state_lines m new) (ending_line e ∷ [])))

  pub ending_on : (d : Cursor) (line : Text) → IsNext c line d → bytes_eq (piece c.rest) (ending_line e) ≡ true
      → fault_in m (for_listed e (before + length old)) from ≡ fault_in m (past_ending e (before + length new)) d
  ending_on d line next h =
      let same : bytes_eq line (ending_line e) ≡ true = subst (λ (z : Text). bytes_eq z (ending_line e) ≡ true) (sym next.front) h in
      l.first ∙ goes_on m (for_listed e (before + length new)) c d line next (past_ending e (before + length new)) (rw same refl)

-- a line that was taken leaves less
pub taken_less : (old new : Cursor) (t : Text) → IsTaken old (t ∷ []) new → length new.rest < length old.rest
taken_less old new t h = omega (arith, ap length h, length-append (as_text (t ∷ [])) new.rest, some t)
  where
    some : (t : Text) → 0 < length (as_text (t ∷ []))
    some t = omega (arith, length-append (t ++ codes "\n") [], length-append t (codes "\n"))

-- what a test of two texts tells
pub are_other : (a b p q : Text) (r : Bool) → r ≡ not (bytes_eq a b) → a ≡ p → b ≡ q → r ≡ true → bytes_eq p q ≡ false
are_other a b p q r is e f h = by (bytes_eq p q) (sym h ∙ is ∙ ap (λ (z : Text). not (bytes_eq z b)) e ∙ ap (λ (z : Text). not (bytes_eq p z)) f)
  where
    by : (s : Bool) → true ≡ not s → s ≡ false
    by true g = cc
    by false g = refl

pub are_same : (a b p q : Text) (r : Bool) → r ≡ not (bytes_eq a b) → a ≡ p → b ≡ q → r ≡ false → bytes_eq p q ≡ true
are_same a b p q r is e f h = by (bytes_eq p q) (sym h ∙ is ∙ ap (λ (z : Text). not (bytes_eq z b)) e ∙ ap (λ (z : Text). not (bytes_eq p z)) f)
  where
    by : (s : Bool) → false ≡ not s → s ≡ true
    by true g = refl
    by false g = cc

-- ---- a lasso

-- the turn begins with a state
pub first_listed : (m : Model) (n : ℕ) (line : Text) → IsListed m (for_first n) n (for_listed ending.End (n + 1)) line
first_listed m n line = record { whole = refl; last = refl }

module _ (m : Model) (old mid after : Cursor) (none stem : List State) (n : ℕ) where
  pub after_stem : fault_in m for_stem old ≡ fault_in m (for_listed ending.Turn 0) mid → none ≡ []
      → fault_in m (for_listed ending.Turn (0 + length none)) mid ≡ fault_in m (for_first (0 + length stem)) after → n ≡ length stem
      → fault_in m for_stem old ≡ fault_in m (for_first n) after
  after_stem a e b k =
      let zero_listed : 0 ≡ 0 + length none = sym (ap (λ (ss : List State). 0 + length ss) e) in
      let count : 0 + length stem ≡ n = omega (arith, k) in
      a ∙ ap (λ (i : ℕ). fault_in m (for_listed ending.Turn i) mid) zero_listed ∙ b ∙ ap (λ (i : ℕ). fault_in m (for_first i) after) count

module _ (m : Model) (old new : Cursor) (none one : List State) (s : State) (n : ℕ) where
  pub after_first : fault_in m (for_first n) old ≡ fault_in m (for_listed ending.End (n + 1)) new → none ≡ [] → one ≡ none ++ s ∷ []
      → fault_in m (for_first n) old ≡ fault_in m (for_listed ending.End (n + length one)) new
  after_first a e f =
      let len : length one ≡ 1 = ap length f ∙ ap (λ (ss : List State). length (ss ++ s ∷ [])) e in
      a ∙ ap (λ (i : ℕ). fault_in m (for_listed ending.End i) new) (ap (λ (i : ℕ). n + i) (sym len))
