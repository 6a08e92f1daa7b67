-- The lines of a text, each without LF, are told from it.
use Rattle.std.proofs.Common.{◌≡◌, ℕ, Bool, true, false, IsTrue, List, [], ◌∷◌, ◌++◌, map, Some, refl, sym, ap, subst, ◌∙◌, append_assoc, codes, decimal}
use Rattle.std.specs.Prelude.{zero, suc, if◌then◌else◌, not, ◌==◌, slice_get}
use Rattle.std.specs.List.{list_all}
use Rattle.std.proofs.lemmas.Bool.{and_parts, eqb-true}
use Rattle.std.proofs.lemmas.List.{append-nil}
use Rattle.cov_syntax.specs.Tokens.{Text}
use Rattle.cov_model.specs.declared.model.Define.{Define}
use Rattle.cov_model.specs.declared.model.Lasso.{Lasso}
use Rattle.cov_model.specs.declared.model.Model.{Model}
use Rattle.cov_model.specs.declared.model.Signal.{Signal}
use Rattle.cov_model.specs.declared.model.Signal.TheVariants as signal
use Rattle.cov_model.specs.declared.model.Var.{Var}
use Rattle.cov_model.specs.Names.{is_name, parts_from}
use Rattle.cov_model.specs.States.{State, is_typed}
use Rattle.cov_model.specs.WellFormed.{IsWellFormed, has_name}
use Rattle.cov_types.specs.Signals.{IsSignalNamed}
use Rattle.cov_show.specs.Cubes.{shown_vars}
use Rattle.cov_show.specs.States.{state_text}
use Rattle.cov_show.proofs.StateLines.{one_line}
use Rattle.cov_show.proofs.ValueTexts.{line_end_outside, name_lacks}
use Rattle.cov_evid.specs.declared.ending.Ending.TheVariants as ending
use Rattle.cov_claims.specs.declared.evidence.Claim.{Claim}
use Rattle.cov_claims.specs.declared.evidence.Claim.TheVariants as claim
use Rattle.cov_claims.specs.declared.evidence.Evidence.{Evidence}
use Rattle.cov_evid.specs.FirstFault.{pieces}
use Rattle.cov_evid.specs.Spelling.{IsProper, IsProperClaim, are_typed, as_text, claim_lines, ending_line, evidence_lines, lasso_lines, signal_text, state_lines}
use Rattle.cov_evid.proofs.Numbers.{decimal_line}
use Rattle.cov_evid.proofs.Pieces.{is_line, pieces_line}

abbrev pub all_lines : List Text → Bool
all_lines ls = list_all is_line ls

pub pieces_lines : (ls : List Text) → IsTrue (all_lines ls) → pieces (as_text ls) ≡ ls ++ [] ∷ []
pieces_lines [] h = refl
pieces_lines (l ∷ ls) h =
    let p = and_parts (is_line l) (all_lines ls) h in
    ap pieces (append_assoc l (codes "\n") (as_text ls)) ∙ pieces_line l (as_text ls) p.0 ∙ ap (λ (ps : List Text). l ∷ ps) (pieces_lines ls p.1)

never_empty : (ys : List Text) (z : Text) → [] ≡ ys ++ z ∷ [] → ⊥
never_empty [] z e = cc
never_empty (y ∷ ys) z e = cc

without_last : (xs ys : List Text) (z : Text) → xs ++ z ∷ [] ≡ ys ++ z ∷ [] → xs ≡ ys
without_last [] [] z e = refl
without_last [] (y ∷ ys) z e = absurd (let rest : [] ≡ ys ++ z ∷ [] = cc in never_empty ys z rest)
without_last (x ∷ xs) [] z e = absurd (let rest : [] ≡ xs ++ z ∷ [] = cc in never_empty xs z rest)
without_last (x ∷ xs) (y ∷ ys) z e =
    let first : x ≡ y = cc in
    let rest : xs ++ z ∷ [] ≡ ys ++ z ∷ [] = cc in
    let same : xs ≡ ys = without_last xs ys z rest in
    cc

pub one_text : (ls ks : List Text) → IsTrue (all_lines ls) → IsTrue (all_lines ks) → as_text ls ≡ as_text ks → ls ≡ ks
one_text ls ks h k e = without_last ls ks [] (sym (pieces_lines ls h) ∙ ap pieces e ∙ pieces_lines ks k)

-- ---- the lines of evidence have no LF

line_append : (y z : Text) → IsTrue (is_line y) → IsTrue (is_line z) → IsTrue (is_line (y ++ z))
line_append [] z h k = k
line_append (b ∷ y) z h k = let p = and_parts (not (b == 10)) (is_line y) h in rw p.0 (line_append y z p.1 k)

lines_append : (ls ks : List Text) → IsTrue (all_lines ls) → IsTrue (all_lines ks) → IsTrue (all_lines (ls ++ ks))
lines_append [] ks h k = k
lines_append (l ∷ ls) ks h k = let p = and_parts (is_line l) (all_lines ls) h in rw p.0 (lines_append ls ks p.1 k)

-- names joined by dots
dotted_line : (done z : Text) → list_all is_name (parts_from done z) ≡ true → IsTrue (is_line (done ++ z))
dotted_line done [] e = ap is_line (append-nil done) ∙ name_lacks 10 done line_end_outside (and_parts (is_name done) true e).0
dotted_line done (b ∷ z) e = by (b == 46) refl e (dotted_line [] z) (dotted_line (done ++ b ∷ []) z)
  where
    by : (t : Bool) → (b == 46) ≡ t → list_all is_name (if t then done ∷ parts_from [] z else parts_from (done ++ b ∷ []) z) ≡ true
        → (list_all is_name (parts_from [] z) ≡ true → IsTrue (is_line z))
        → (list_all is_name (parts_from (done ++ b ∷ []) z) ≡ true → IsTrue (is_line ((done ++ b ∷ []) ++ z))) → IsTrue (is_line (done ++ b ∷ z))
    by true f e more other =
        let p = and_parts (is_name done) (list_all is_name (parts_from [] z)) e in
        let dot : b ≡ 46 = eqb-true b 46 f in
        let rest : IsTrue (is_line (46 ∷ z)) = more p.1 in
        line_append done (b ∷ z) (name_lacks 10 done line_end_outside p.0) (ap (λ (d : ℕ). is_line (d ∷ z)) dot ∙ rest)
    by false f e more other = ap is_line (sym (append_assoc done (b ∷ []) z)) ∙ other e

named_line : (m : Model) (i : ℕ) (t : Text) → has_name m i ≡ true → slice_get m.names i ≡ Some t → IsTrue (is_line t)
named_line m i t h e = dotted_line [] t (rw (e, has_name) at h)

all_left : (p : ℕ → Bool) (is js : List ℕ) → list_all p (is ++ js) ≡ true → list_all p is ≡ true
all_left p [] js e = refl
all_left p (i ∷ is) js e = let q = and_parts (p i) (list_all p (is ++ js)) e in rw q.0 (all_left p is js q.1)

all_right : (p : ℕ → Bool) (is js : List ℕ) → list_all p (is ++ js) ≡ true → list_all p js ≡ true
all_right p [] js e = e
all_right p (i ∷ is) js e = all_right p is js (and_parts (p i) (list_all p (is ++ js)) e).1

all_at : {A : Type 0} (f : A → ℕ) (p : ℕ → Bool) (xs : List A) (i : ℕ) (x : A) → list_all p (map f xs) ≡ true → slice_get xs i ≡ Some x → p (f x) ≡ true
all_at f p [] i x h e = absurd cc
all_at f p (y ∷ xs) zero x h e = let same : y ≡ x = cc in subst (λ z. p (f z) ≡ true) same (and_parts (p (f y)) (list_all p (map f xs)) h).0
all_at f p (y ∷ xs) (suc i) x h e = all_at f p xs i x (and_parts (p (f y)) (list_all p (map f xs)) h).1 e

name_line : (m : Model) (t : Text) (q : Signal) → IsWellFormed m → IsSignalNamed m t q → IsTrue (is_line t)
name_line m t (signal.Var i) w v =
    named_line m v.variable.name t
    (all_at (λ (x : Var). x.name) (has_name m) m.vars i v.variable (all_left (has_name m) (map (λ (x : Var). x.name) m.vars) (map (λ (d : Define). d.name) m.defines) w.names) v.there) v.named
name_line m t (signal.Def i) w v =
    named_line m v.define.name t
    (all_at (λ (d : Define). d.name) (has_name m) m.defines i v.define (all_right (has_name m) (map (λ (x : Var). x.name) m.vars) (map (λ (d : Define). d.name) m.defines) w.names) v.there) v.named

state_line : (m : Model) (s : State) → IsWellFormed m → IsTrue (is_typed m s) → IsTrue (is_line (state_text (shown_vars m) s))
state_line m s w h = one_line m s w h

states_lines : (m : Model) (ss : List State) → IsWellFormed m → IsTrue (are_typed m ss) → IsTrue (all_lines (state_lines m ss))
states_lines m [] w h = refl
states_lines m (s ∷ ss) w h = let p = and_parts (is_typed m s) (are_typed m ss) h in rw (state_line m s w p.0) (states_lines m ss w p.1)

claim_has_lines : (m : Model) (c : Claim) → IsWellFormed m → IsProperClaim m c → IsTrue (all_lines (claim_lines m c))
claim_has_lines m (claim.Mutant q at) w h =
    rw (line_append (codes "signal ") (signal_text m q) refl (name_line m (signal_text m q) q w h.0), line_append (codes "at ") (state_text (shown_vars m) at) refl (state_line m at w h.1)) refl
claim_has_lines m (claim.Occurrence n) w h = rw (line_append (codes "occurrence ") (decimal n) refl (decimal_line n h)) refl

lasso_has_lines : (m : Model) (l : Lasso) → IsWellFormed m → IsTrue (are_typed m l.stem) → IsTrue (are_typed m l.turn) → IsTrue (all_lines (lasso_lines m l))
lasso_has_lines m l w h k =
    lines_append (state_lines m l.stem) (ending_line ending.Turn ∷ (state_lines m l.turn ++ ending_line ending.End ∷ [])) (states_lines m l.stem w h)
    (lines_append (state_lines m l.turn) (ending_line ending.End ∷ []) (states_lines m l.turn w k) refl)

pub has_lines : (m : Model) (e : Evidence) → IsWellFormed m → IsProper m e → IsTrue (all_lines (evidence_lines m e))
has_lines m e w p =
    rw (line_append (codes "spec ") (decimal e.spec) refl (decimal_line e.spec p.spec))
    (lines_append (claim_lines m e.claim) (lasso_lines m e.lasso) (claim_has_lines m e.claim w p.claim) (lasso_has_lines m e.lasso w p.stem p.turn))
