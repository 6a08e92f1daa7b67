-- What a reader takes, and the faults that it tells.
use Rattle.std.proofs.Common.{◌≡◌, ◌≢◌, ℕ, ◌<◌, ◌≤◌, true, false, IsTrue, List, [], ◌∷◌, ◌++◌, Some, None, Result, Ok, Err, IfErr, refl, sym, ap, subst, ◌∙◌, append_assoc, inl, inr, arith}
use Rattle.std.proofs.lemmas.Bool.Decides.{nat_tests}
use Rattle.std.proofs.lemmas.List.{append-nil}
use Rattle.std.proofs.lemmas.Grind.{flat_map-append}
use Rattle.std.specs.Prelude.{◌⊎◌, codes, nat_lt}
use Rattle.cov_syntax.specs.Tokens.{Text}
use Rattle.cov_model.specs.declared.model.Model.{Model}
use Rattle.cov_model.specs.States.{State, is_typed}
use Rattle.cov_show.specs.Cubes.{shown_vars}
use Rattle.cov_show.specs.States.{state_fault, state_text}
use Rattle.cov_show.specs.declared.state_fault.StateFault.{StateFault}
use Rattle.cov_show.specs.declared.state_fault.StateRefused.{StateRefused}
use Rattle.cov_show.specs.declared.state_fault.StateRefused.TheVariants as refused
use Rattle.cov_evid.specs.declared.fault.EvidFaultKind.{EvidFaultKind}
use Rattle.cov_evid.specs.declared.fault.EvidFaultKind.TheVariants as kind
use Rattle.cov_evid.specs.declared.fault.EvidRefused.{EvidRefused}
use Rattle.cov_evid.specs.declared.fault.EvidRefused.TheVariants.{Fault, Memory}
use Rattle.cov_evid.specs.Cursors.{Cursor, IsLast, IsListed, IsNext, IsRefusal, IsSole, IsTaken, fault_in, fault_past, piece}
use Rattle.cov_evid.specs.Faults.{fault_at}
use Rattle.cov_evid.specs.FirstFault.{Place, cut, cut_counted, of_state_fault, past, past_counted, past_state}
use Rattle.cov_evid.specs.Spelling.{as_text, most_states}
use Rattle.cov_evid.proofs.Pieces.{behind_piece, split}
use Rattle.cov_evid.proofs.Walking.{is_cut, is_fault, is_wrong}

pub ltb_is : (a b : ℕ) → a < b → nat_lt a b ≡ true
ltb_is a b h = grind (arith, nat_tests)

pub ltb_not : (a b : ℕ) → b ≤ a → nat_lt a b ≡ false
ltb_not a b h = grind (arith, nat_tests)

pub as_text-append : (ls ks : List Text) → as_text (ls ++ ks) ≡ as_text ls ++ as_text ks
as_text-append ls ks = flat_map-append (λ (l : Text). l ++ codes "\n") ls ks

-- the next line was taken, which is this text
pub one_taken : (old new : Cursor) (line t : Text) → IsNext old line new → line ≡ t → IsTaken old (t ∷ []) new
one_taken old new line t n e = n.text ∙ ap (λ (l : Text). l ++ 10 ∷ new.rest) e ∙ simp (append_assoc, append-nil)

-- lines were taken, and then others
pub taken_then : (old mid new : Cursor) (ls ks : List Text) → IsTaken old ls mid → IsTaken mid ks new → IsTaken old (ls ++ ks) new
taken_then old mid new ls ks t u =
    t ∙ ap (λ (z : Text). as_text ls ++ z) u ∙ sym (append_assoc (as_text ls) (as_text ks) new.rest) ∙ ap (λ (z : Text). z ++ new.rest) (sym (as_text-append ls ks))

-- a text that is a state
pub state_on : (m : Model) (t : Text) (place : Place) → state_fault (shown_vars m) t ≡ None → past_state m t place ≡ Ok place
unfolding past_state
state_on m t place e = rw (e, past_state) refl

pub state_wrong : (m : Model) (t : Text) (place : Place) (f : StateFault) → state_fault (shown_vars m) t ≡ Some f → past_state m t place ≡ Err (of_state_fault f)
unfolding past_state
state_wrong m t place f e = rw (e, past_state) refl

-- what is refused in the next line is the first fault
pub refused_in : {X : Type 0} (m : Model) (p : Place) (old new : Cursor) (line : Text) (r : Result Place EvidFaultKind) (n : ℕ) (res : Result X EvidRefused)
    → IsNext old line new → n ≡ old.number → past m p line ≡ r → IfErr res (IsRefusal (fault_past r n)) → IfErr res (IsRefusal (fault_in m p old))
refused_in m p old new line r n (Ok x) next k e h = tt
refused_in m p old new line r n (Err Memory) next k e h = tt
refused_in m p old new line r n (Err (Fault f)) next k e h = is_fault m p old new line next r f e (ap (fault_past r) (sym k) ∙ h)

-- a state that is read alone has its text
pub sole_from : (m : Model) (s : State) (text : Text) → text ≡ state_text (shown_vars m) s
    → ((t : State) → IsTrue (is_typed m t) → text ≡ state_text (shown_vars m) t → (◌≡◌ {A = Result State StateRefused} (Ok s) (Ok t)) ⊎ (◌≡◌ {A = Result State StateRefused} (Ok s) (Err refused.Memory)))
    → IsSole m s
sole_from m s text e only = record { only = λ t h same. by t (only t h (e ∙ sym same)) }
  where
    by : (t : State) → (◌≡◌ {A = Result State StateRefused} (Ok s) (Ok t)) ⊎ (◌≡◌ {A = Result State StateRefused} (Ok s) (Err refused.Memory)) → t ≡ s
    by t (inl g) = cc
    by t (inr g) = absurd cc

-- ---- a state of a list

pub counted : (m : Model) (n : ℕ) (line : Text) (to : Place) → n < most_states → past_counted m n line to ≡ past_state m line to
counted m n line to h = rw (ltb_is n most_states h) refl

not_counted : (m : Model) (n : ℕ) (line : Text) (to : Place) → most_states ≤ n → past_counted m n line to ≡ Err kind.TooLong
not_counted m n line to h = rw (ltb_not n most_states h) refl

module _ (m : Model) (from : Place) (n : ℕ) (to : Place) (c : Cursor) (l : IsListed m from n to (piece c.rest)) where
  -- the next line is read as a state
  pub listed_past : (new : Cursor) (line : Text) → IsNext c line new → n < most_states → past m from line ≡ past_state m line to
  listed_past new line next h =
      subst (λ (t : Text). past m from t ≡ past_counted m n t to) (sym next.front) l.whole ∙ counted m n line to h

  -- a last piece is cut
  pub listed_cut : IsLast c → (n < most_states) ⊎ (c.rest ≡ []) → cut from c.rest ≡ Some kind.Cut
  listed_cut last h = subst (λ (t : Text). cut from t ≡ Some (cut_counted n t)) last.whole l.last ∙ ap (λ k. Some k) (of c.rest h)
    where
      of : (t : Text) → (n < most_states) ⊎ (t ≡ []) → cut_counted n t ≡ kind.Cut
      of [] h = refl
      of (b ∷ t) (inl h) = rw (ltb_is n most_states h) refl
      of (b ∷ t) (inr e) = absurd cc

  -- one state too many, whether its line is whole or not
  pub listed_full : most_states ≤ n → c.rest ≢ [] → fault_in m from c ≡ Some (fault_at kind.TooLong c.number)
  listed_full h some = by (split c)
    where
      over : (t : Text) → t ≢ [] → cut_counted n t ≡ kind.TooLong
      over [] f = absurd (f refl)
      over (b ∷ t) f = rw (ltb_not n most_states h) refl

      by : (IsNext c (piece c.rest) (behind_piece c)) ⊎ IsLast c → fault_in m from c ≡ Some (fault_at kind.TooLong c.number)
      by (inl next) = is_wrong m from c (behind_piece c) (piece c.rest) next kind.TooLong (l.whole ∙ not_counted m n (piece c.rest) to h)
      by (inr last) =
          is_cut m from c kind.TooLong last (subst (λ (t : Text). cut from t ≡ Some (cut_counted n t)) last.whole l.last ∙ ap (λ k. Some k) (over c.rest some))

-- what an answer about the room tells
pub room_of : (n : ℕ) (z : Text) → ((most_states ≤ n) × (z ≢ []) → ⊥) → (n < most_states) ⊎ (z ≡ [])
room_of n [] h = inr refl
room_of n (b ∷ z) h = inl (omega_less (λ k. h (k, λ e. cc)))
  where
    omega_less : ((most_states ≤ n) → ⊥) → n < most_states
    omega_less f = grind (arith, f)

pub room_left : (n : ℕ) (old new : Cursor) (line : Text) → IsNext old line new → (n < most_states) ⊎ (old.rest ≡ []) → n < most_states
room_left n old new line next (inl h) = h
room_left n old new line next (inr e) = absurd (never line (sym e ∙ next.text))
  where
    never : (line : Text) → [] ≡ line ++ 10 ∷ new.rest → ⊥
    never [] e = cc
    never (b ∷ line) e = cc
