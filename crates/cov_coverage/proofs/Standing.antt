-- What stands behind the sets of before: one set, which is told by its present states.
use Rattle.std.proofs.Common.{◌≡◌, ◌↔◌, ℕ, ◌<◌, ◌&&◌, not, List, [], ◌∷◌, Bool, true, false, IsTrue, length, take, Result, Ok, Err, OnOk, IfErr, refl, sym, ◌∙◌, ap, subst, subst₂, arith}
use Rattle.std.proofs.lemmas.Bool.{and_parts, and_from}
use Rattle.std.proofs.lemmas.List.{take_at}
use Rattle.cov_bits.specs.Layout.{sizes}
use Rattle.cov_coverage.specs.Sections.{IsUncoveredState}
use Rattle.cov_cubes.specs.States.{IsStateSet}
use Rattle.cov_cubes.specs.Models.{states_of_slot}
use Rattle.cov_cubes.proofs.ModelSets.{reachable_typed, told_states}
use Rattle.cov_hold.specs.Prepared.{IsPrepared}
use Rattle.cov_image.specs.Stacks.{below}
use Rattle.cov_image.proofs.Stacks.{below_more, last_is}
use Rattle.cov_lifts.specs.Lifts.{AreReachable}
use Rattle.cov_logic.specs.Formula.{Formula}
use Rattle.cov_model.specs.declared.model.Model.{Model}
use Rattle.cov_model.specs.declared.model.Signal.{Signal}
use Rattle.cov_model.specs.Paths.{IsReachable}
use Rattle.cov_model.specs.States.{State, is_typed}
use Rattle.cov_nodes.specs.Points.{state_of}
use Rattle.cov_pair.specs.Covering.{PutsCovered}
use Rattle.cov_claims.specs.Covering.{IsCoveredState}
use Rattle.cov_pair.proofs.Covers.{told_apart}
use Rattle.cov_space.specs.declared.fault.SpaceFault.{SpaceFault}
use Rattle.cov_space.specs.declared.fault.SpaceFault.TheVariants as fault
use Rattle.cov_space.specs.declared.layer.Layer.TheVariants.{W, V, N}
use Rattle.cov_space.specs.Answers.{IsCallFault, raised}
use Rattle.cov_space.specs.Operations.{complement, intersection}
use Rattle.cov_space.specs.Sets.{SpaceOf, lies, set_at}
use Rattle.cov_space.specs.Steps.{with_more, Leaves}
use Rattle.cov_space.proofs.Calls.{at_front}
use Rattle.cov_space.proofs.Members.{lies-complement, lies-intersection}
use Rattle.cov_sym.specs.declared.sys.Sys.{Sys}
use Rattle.cov_sym.specs.Systems.{IsBuiltFor}
use Rattle.cov_sym.proofs.Built.{built_more}
use Rattle.cov_syntax.specs.declared.tree.Expr.{Expr}

-- the rows of the states with a property, which layer V tells
abbrev pub AreStates : Model → ℕ → List Bool → (State → Type 0) → Type 0
AreStates m levels set P = (r : List Bool) → length r ≡ levels → IsTrue (lies set r) ↔ P (state_of m V r)

-- behind the sets of before, one set of states stands
pub record Stands (m : Model) (old sys : Sys) (n : ℕ) (P : State → Type 0) : Type 0 where
  pub kept : sys ≡ record old { space = sys.space }
  pub set : List Bool
  pub is : sys.space ≡ with_more old.space (set ∷ [])
  pub built : IsBuiltFor m sys
  pub states : AreStates m sys.space.levels (set_at sys.space.sets n) P

pub stands_same : (m : Model) (old sys new : Sys) (n : ℕ) (P : State → Type 0) → new ≡ sys → Stands m old sys n P → Stands m old new n P
stands_same m old sys new n P same h = subst (λ (z : Sys). Stands m old z n P) (sym same) h

-- ---- the set, as a set of states

module _ (m : Model) (old sys : Sys) (n : ℕ) (P : State → Type 0) (h : Stands m old sys n P) where
  pub state_set : ((s : State) → P s → IsReachable m s) → IsStateSet (sizes m.vars) sys.space.levels (set_at sys.space.sets n)
  state_set reach =
      let levels : ℕ = sys.space.levels in
      let set : List Bool = set_at sys.space.sets n in
      record {
        apart_w = told_apart m levels set P W (λ e. absurd (omega arith)) h.states;
        apart_n = told_apart m levels set P N (λ e. absurd (omega arith)) h.states;
        typed = λ r len e. reachable_typed m (state_of m V r) (reach (state_of m V r) ((h.states r len).0 e));
      }

  pub states_are : (s : State) → IsTrue (is_typed m s) → IsTrue (states_of_slot m sys n s) ↔ P s
  states_are = told_states m sys h.built (set_at sys.space.sets n) P h.states

-- ---- the covered states

pub covered_stands : (m : Model) (old sys : Sys) (n : ℕ) (q : Signal) (f : Formula Expr) → n ≡ length old.space.sets → sys ≡ record old { space = sys.space } → IsPrepared m sys
    → PutsCovered old.space sys.space m q f → Stands m old sys n (IsCoveredState m q f)
covered_stands m old sys n q f count kept prepared p = record {
  kept = kept;
  set = p.set;
  is = p.puts.is;
  built = prepared.built;
  states =
      subst₂ (λ l (x : List Bool). AreStates m l x (IsCoveredState m q f)) (sym (ap (λ (z : SpaceOf). z.levels) p.puts.is))
      (sym (last_is old.space sys.space n p.set (sym count) p.puts.is)) p.exact;
}

pub covered_reachable : (m : Model) (q : Signal) (f : Formula Expr) (s : State) → IsCoveredState m q f s → IsReachable m s
covered_reachable m q f s h = h.reachable

pub uncovered_reachable : (m : Model) (q : Signal) (f : Formula Expr) (s : State) → IsUncoveredState m q f s → IsReachable m s
uncovered_reachable m q f s h = h.0

-- ---- the others among the reachable states

not_parts : (b : Bool) → IsTrue (not b) → IsTrue b → ⊥
not_parts true e h = cc e
not_parts false e h = cc h

not_from : (b : Bool) → (IsTrue b → ⊥) → IsTrue (not b)
not_from true h = absurd (h refl)
not_from false h = refl

pub others_are : (m : Model) (levels : ℕ) (x t : List Bool) (P : State → Type 0) → AreStates m levels x P → AreReachable m levels t
    → AreStates m levels (intersection levels (complement levels x) t) (λ s. IsReachable m s × (P s → ⊥))
others_are m levels x t P exact reachable r len =
    let at : lies (intersection levels (complement levels x) t) r ≡ (not (lies x r) && lies t r) =
    lies-intersection levels (complement levels x) t r len ∙ ap (λ b. b && lies t r) (lies-complement levels x r len) in (
      (λ e.
          let p = and_parts (not (lies x r)) (lies t r) (subst IsTrue at e) in
          ((reachable r len).0 p.1, λ h. not_parts (lies x r) p.0 ((exact r len).1 h))),
      (λ h.
          subst IsTrue (sym at) (and_from (not (lies x r)) (lies t r) (not_from (lies x r) (λ e. h.1 ((exact r len).0 e))) ((reachable r len).1 h.0))),
    )

pub others_stand : (m : Model) (old sys : Sys) (t : SpaceOf) (n k : ℕ) (P : State → Type 0) → n ≡ length old.space.sets → k ≡ old.reachable → IsBuiltFor m old → Stands m old sys n P
    → t ≡ with_more (below sys.space n) (intersection sys.space.levels (complement sys.space.levels (set_at sys.space.sets n)) (set_at sys.space.sets k) ∷ [])
    → Stands m old (record sys { space = t }) n (λ s. IsReachable m s × (P s → ⊥))
others_stand m old sys t n k P count at built h keeps =
    let s : SpaceOf = old.space in
    let levels : sys.space.levels ≡ s.levels = ap (λ (z : SpaceOf). z.levels) h.is in
    let reached : List Bool = set_at s.sets old.reachable in
    let y : List Bool = intersection s.levels (complement s.levels h.set) reached in
    let in_front : k < length s.sets = let b = built.reachable_there in let c = built.there in omega arith in
    let first : below sys.space n ≡ s = ap (λ (z : SpaceOf). below z n) h.is ∙ below_more s (h.set ∷ []) n (sym count) in
    let mine : set_at sys.space.sets n ≡ h.set = last_is s sys.space n h.set (sym count) h.is in
    let other : set_at sys.space.sets k ≡ reached = at_front s sys.space (h.set ∷ []) k h.is in_front ∙ ap (λ j. set_at s.sets j) at in
    let is : t ≡ with_more s (y ∷ []) =
    keeps
    ∙ ap (λ (z : SpaceOf). with_more z (intersection sys.space.levels (complement sys.space.levels (set_at sys.space.sets n)) (set_at sys.space.sets k) ∷ [])) first
    ∙ ap (λ l. with_more s (intersection l (complement l (set_at sys.space.sets n)) (set_at sys.space.sets k) ∷ [])) levels
    ∙ ap (λ (z : List Bool). with_more s (intersection s.levels (complement s.levels z) (set_at sys.space.sets k) ∷ [])) mine
    ∙ ap (λ (z : List Bool). with_more s (intersection s.levels (complement s.levels h.set) z ∷ [])) other in
    let exact : AreStates m s.levels h.set P = subst₂ (λ l (x : List Bool). AreStates m l x P) levels mine h.states in
    record {
      kept = ap (λ (z : Sys). record z { space = t }) h.kept;
      set = y;
      is = is;
      built =
          subst (λ (z : Sys). IsBuiltFor m (record z { space = t })) (sym h.kept)
          (built_more m old t (y ∷ []) (ap (λ (z : SpaceOf). z.levels) is) (ap (λ (z : SpaceOf). z.places) is) (ap (λ (z : SpaceOf). z.sets) is) built);
      states =
          subst₂ (λ l (x : List Bool). AreStates m l x (λ s. IsReachable m s × (P s → ⊥))) (sym (ap (λ (z : SpaceOf). z.levels) is)) (sym (last_is s t n y (sym count) is))
          (others_are m s.levels h.set reached P exact built.reachable);
    }

-- ---- what is put on top is cut

-- a call that went well has left one set behind those of before
pub cut_kept : {T : Type 0} (r : Result T SpaceFault) (old sys : Sys) (t : SpaceOf) (n : ℕ) → n ≡ length old.space.sets → sys ≡ record old { space = sys.space }
    → OnOk r ((set : List Bool) × (sys.space ≡ with_more old.space (set ∷ []))) → t ≡ record sys.space { sets = take n sys.space.sets } → OnOk r (record sys { space = t } ≡ old)
cut_kept (Err e) old sys t n count kept h cut = tt
cut_kept (Ok x) old sys t n count kept (set, is) cut =
    ap (λ (z : Sys). record z { space = t }) kept
    ∙ ap (λ (z : SpaceOf). record old { space = z }) (cut ∙ ap (λ (z : SpaceOf). below z n) is ∙ below_more old.space (set ∷ []) n (sym count))

cut_one : (old s t : SpaceOf) (n : ℕ) (e : SpaceFault) → n ≡ length old.sets → Leaves old s e → t ≡ record s { sets = take n s.sets } → IsCallFault old t e
cut_one old s t n (fault.Nodes full) count h cut = record {
  is = cut ∙ ap (λ (z : SpaceOf). below z n) h.is ∙ ap (λ (x : List (List Bool)). record old { refused = raised old.refused; sets = x }) (take_at old.sets h.more n (sym count));
  held = h.held;
  budget = h.budget;
  kept = h.kept;
  roots = h.roots;
  within = h.within;
  short = h.short;
}
cut_one old s t n fault.Memory count h cut = cut ∙ ap (λ (z : SpaceOf). below z n) h.1 ∙ below_more old h.0 n (sym count)

-- one that was refused has left some
pub cut_fault : {T : Type 0} (r : Result T SpaceFault) (old s t : SpaceOf) (n : ℕ) → n ≡ length old.sets → IfErr r (λ e. Leaves old s e) → t ≡ record s { sets = take n s.sets } → IfErr r (λ e. IsCallFault old t e)
cut_fault (Ok x) old s t n count h cut = tt
cut_fault (Err e) old s t n count h cut = cut_one old s t n e count h cut
