-- The first fault, from line to line.
use Rattle.std.proofs.Common.{◌≡◌, ◌≢◌, ℕ, ◌+◌, Bool, true, false, IsTrue, IfErr, subst, List, [], ◌∷◌, Some, None, Result, Ok, Err, refl, sym, ap, ◌∙◌}
use Rattle.std.specs.Prelude.{◌==◌, if◌then◌else◌}
use Rattle.std.specs.Str.{bytes_eq}
use Rattle.cov_syntax.specs.Tokens.{Text}
use Rattle.cov_model.specs.declared.model.Model.{Model}
use Rattle.cov_evid.specs.declared.fault.EvidFault.{EvidFault}
use Rattle.cov_evid.specs.declared.fault.EvidFaultKind.{EvidFaultKind}
use Rattle.cov_evid.specs.declared.fault.EvidFaultKind.TheVariants as kind
use Rattle.cov_evid.specs.Cursors.{Cursor, IsLast, IsNext, fault_in, fault_past}
use Rattle.cov_evid.specs.Faults.{fault_at}
use Rattle.cov_evid.specs.FirstFault.{Place, cut, fault_from, for_nothing, onto_first, past, pieces}

-- there is always a piece
filled : (b : ℕ) (ps : List Text) → onto_first b ps ≢ []
filled b [] = λ e. cc
filled b (p ∷ ps) = λ e. cc

pieces_filled : (z : Text) → pieces z ≢ []
pieces_filled [] = λ e. cc
pieces_filled (b ∷ z) = by (b == 10)
  where
    by : (e : Bool) → (if e then [] ∷ pieces z else onto_first b (pieces z)) ≢ []
    by true = λ e. cc
    by false = filled b (pieces z)

module _ (m : Model) (p : Place) (n : ℕ) (line : Text) where
  pub step_on : (q : Place) (ps : List Text) → ps ≢ [] → past m p line ≡ Ok q → fault_from m p n (line ∷ ps) ≡ fault_from m q (n + 1) ps
  unfolding fault_from
  step_on q [] f e = absurd (f refl)
  step_on q (r ∷ ps) f e = rw (e, fault_from) refl

  step_wrong : (k : EvidFaultKind) (ps : List Text) → ps ≢ [] → past m p line ≡ Err k → fault_from m p n (line ∷ ps) ≡ Some (fault_at k n)
  unfolding fault_from
  step_wrong k [] f e = absurd (f refl)
  step_wrong k (r ∷ ps) f e = rw (e, fault_from) refl

  step_cut : (k : EvidFaultKind) → cut p line ≡ Some k → fault_from m p n (line ∷ []) ≡ Some (fault_at k n)
  unfolding fault_from
  step_cut k e = rw (e, fault_from) refl

module _ (m : Model) (p : Place) (old new : Cursor) (line : Text) (next : IsNext old line new) where
  pub goes_on : (q : Place) → past m p line ≡ Ok q → fault_in m p old ≡ fault_in m q new
  goes_on q e =
      ap (fault_from m p old.number) next.left ∙ step_on m p old.number line q (pieces new.rest) (pieces_filled new.rest) e
      ∙ ap (λ (k : ℕ). fault_from m q k (pieces new.rest)) (sym next.number)

  pub is_wrong : (k : EvidFaultKind) → past m p line ≡ Err k → fault_in m p old ≡ Some (fault_at k old.number)
  is_wrong k e = ap (fault_from m p old.number) next.left ∙ step_wrong m p old.number line k (pieces new.rest) (pieces_filled new.rest) e

  -- the fault of the line, if it has one
  pub is_fault : (r : Result Place EvidFaultKind) (f : EvidFault) → past m p line ≡ r → fault_past r old.number ≡ Some f → fault_in m p old ≡ Some f
  is_fault (Ok q) f e h = absurd cc
  is_fault (Err k) f e h = is_wrong k e ∙ h

pub is_cut : (m : Model) (p : Place) (c : Cursor) (k : EvidFaultKind) → IsLast c → cut p c.rest ≡ Some k → fault_in m p c ≡ Some (fault_at k c.number)
is_cut m p c k l e = ap (fault_from m p c.number) l.left ∙ step_cut m p c.number c.rest k e

pub is_done : (m : Model) (c : Cursor) → c.rest ≡ [] → fault_in m for_nothing c ≡ None
unfolding fault_from
is_done m c e = rw e refl

-- behind the last line nothing may stand
pub is_trailing : (m : Model) (c : Cursor) → c.rest ≢ [] → fault_in m for_nothing c ≡ Some (fault_at kind.Trailing c.number)
unfolding fault_from
is_trailing m c f = of c.rest f
  where
    pieces_of : (ps : List Text) → ps ≢ [] → (ps ≡ [] ∷ [] → ⊥) → fault_from m for_nothing c.number ps ≡ Some (fault_at kind.Trailing c.number)
    pieces_of [] f g = absurd (f refl)
    pieces_of ([] ∷ []) f g = absurd (g refl)
    pieces_of ((b ∷ z) ∷ []) f g = refl
    pieces_of (q ∷ r ∷ ps) f g = refl

    -- only the empty text is one empty piece
    more : (b : ℕ) (ps : List Text) → onto_first b ps ≡ [] ∷ [] → ⊥
    more b [] e = cc
    more b (q ∷ ps) e = cc

    split : (b : ℕ) (z : Text) (e : Bool) → (if e then [] ∷ pieces z else onto_first b (pieces z)) ≡ [] ∷ [] → ⊥
    split b z true e = pieces_filled z cc
    split b z false e = more b (pieces z) e

    of : (z : Text) → z ≢ [] → fault_from m for_nothing c.number (pieces z) ≡ Some (fault_at kind.Trailing c.number)
    of [] f = absurd (f refl)
    of (b ∷ z) f = pieces_of (pieces (b ∷ z)) (pieces_filled (b ∷ z)) (split b z (b == 10))

-- a line that ends with the text is cut
pub cut_is : (m : Model) (p : Place) (c : Cursor) (f : EvidFault) → cut p c.rest ≡ Some kind.Cut → (f ≡ fault_at kind.Cut c.number) × IsLast c → fault_in m p c ≡ Some f
cut_is m p c f e h = is_cut m p c kind.Cut h.1 e ∙ ap (λ (g : EvidFault). Some g) (sym h.0)

-- a line is another text or not
pub same_text : (line read text : Text) (r : Bool) → read ≡ text → r ≡ bytes_eq line read → r ≡ true → bytes_eq line text ≡ true
same_text line read text r e is h = ap (bytes_eq line) (sym e) ∙ sym is ∙ h

pub other_text : (line read text : Text) (r : Bool) → read ≡ text → r ≡ bytes_eq line read → r ≡ false → bytes_eq line text ≡ false
other_text line read text r e is h = ap (bytes_eq line) (sym e) ∙ sym is ∙ h

-- the exit of a `?`
pub err_exit : {X E : Type 0} (res : Result X E) (e : E) (P : E → Type 0) → res ≡ Err e → P e → IfErr res P
err_exit {X = X} {E = E} res e P is h = subst (λ (r : Result X E). IfErr r P) (sym is) h

pub refuted : (b : Bool) → b ≡ false → IsTrue b → ⊥
refuted true e h = cc
refuted false e h = cc
