-- What the law on kinds says of a well-formed model: in typed states the machine makes of conditions, assignments and atoms what they are.
use Rattle.std.proofs.Common.{◌≡◌, ℕ, zero, suc, ℤ, Bool, true, false, not, ◌&&◌, ◌||◌, if◌then◌else◌, IsTrue, IsFalse, List, [], ◌∷◌, ◌++◌, map, length, Option, Some, None, refl, sym, ap, subst, ◌∙◌, arith}
use Rattle.std.specs.Prelude.{slice_get}
use Rattle.std.specs.List.{list_any, list_all}
use Rattle.std.specs.Option.{option_map_or}
use Rattle.cov_syntax.specs.declared.fault.ModelFault.{ModelFault}
use Rattle.cov_syntax.specs.declared.tree.Value.{Value}
use Rattle.cov_syntax.specs.declared.tree.Expr.{Expr}
use Rattle.cov_model.specs.declared.model.Signal.{Signal}
use Rattle.cov_model.specs.declared.model.Var.{Var}
use Rattle.cov_model.specs.declared.model.Define.{Define}
use Rattle.cov_model.specs.declared.model.Assign.{Assign}
use Rattle.cov_model.specs.declared.model.Model.{Model}
use Rattle.cov_model.specs.Values.{item, truth as truth_of}
use Rattle.cov_model.specs.Meaning.{Readings, Point, still, meaning, value, allows}
use Rattle.cov_model.specs.Machine as made
use Rattle.cov_model.specs.States.{State, values_at, is_typed, readings_in, all_true, all_obeyed, at, between, is_state, is_initial, is_step, holds, is_fair_at}
use Rattle.cov_model.specs.Kinds.{Kind, Kinds}
use Rattle.cov_model.specs.Walk.{first, May, Asks, truth, Judged, judged, kind_fault, asks_truth}
use Rattle.cov_model.specs.Types.{type_fault, bits_fault}
use Rattle.cov_model.specs.Order.{ordered, circular, with_assigned}
use Rattle.cov_model.specs.Written.{formula_fault}
use Rattle.cov_model.specs.Settled.{define_faults, settled, settled_assign, whole_fault, assign_fault, asked_by, walk_fault, kinds_of, steady, chosen, chosen_next, moving, timed}
use Rattle.cov_model.specs.WellFormed.{IsWellFormed}
use Rattle.cov_model.specs.Laws.{ReadsKinds, Keeps, kind_in}
use Rattle.cov_model.proofs.Tied.{first_none, first_none_left, first_none_right, no_misfit_truth}
use Rattle.cov_model.proofs.Fixed.{facts}
use Rattle.cov_model.proofs.Law.{law}
use Rattle.cov_model.proofs.Typed.{vars_of, reads_of, defines_keep}

-- the lists of a model in which the walk finds nothing
record WalkFaults (m : Model) : Type 0 where
  defines : first (define_faults (kinds_of m).vars m.defines []) ≡ None
  inits : first (map (whole_fault (kinds_of m) steady (Some truth)) m.inits) ≡ None
  invars : first (map (whole_fault (kinds_of m) steady (Some truth)) m.invars) ≡ None
  nows : first (map (assign_fault (kinds_of m) chosen) m.nows) ≡ None
  firsts : first (map (assign_fault (kinds_of m) chosen) m.firsts) ≡ None
  nexts : first (map (assign_fault (kinds_of m) chosen_next) m.nexts) ≡ None
  trans : first (map (whole_fault (kinds_of m) moving (Some truth)) m.trans) ≡ None
  fair : first (map (whole_fault (kinds_of m) steady (Some truth)) m.fair) ≡ None

walk_none : (m : Model) → IsWellFormed m → walk_fault m ≡ None
walk_none m w =
    let rest : List (Option ModelFault) = bits_fault 0 m.vars ∷ circular m.defines ∷ walk_fault (ordered m) ∷ map formula_fault m.specs in
    let a = first_none (bits_fault 0 m.vars) (circular m.defines ∷ walk_fault (ordered m) ∷ map formula_fault m.specs) (first_none_right (map type_fault m.vars) rest (facts m w).no_fault) in
    let b = first_none (circular m.defines) (walk_fault (ordered m) ∷ map formula_fault m.specs) a.1 in
    let c = first_none (walk_fault (ordered m)) (map formula_fault m.specs) b.1 in
    ap walk_fault (sym (facts m w).in_order) ∙ c.0

walk_faults : (m : Model) → IsWellFormed m → WalkFaults m
walk_faults m w =
    let ks : Kinds = kinds_of m in
    let d : List (Option ModelFault) = define_faults ks.vars m.defines [] in
    let i : List (Option ModelFault) = map (whole_fault ks steady (Some truth)) m.inits in
    let v : List (Option ModelFault) = map (whole_fault ks steady (Some truth)) m.invars in
    let n : List (Option ModelFault) = map (assign_fault ks chosen) m.nows in
    let f : List (Option ModelFault) = map (assign_fault ks chosen) m.firsts in
    let x : List (Option ModelFault) = map (assign_fault ks chosen_next) m.nexts in
    let t : List (Option ModelFault) = map (whole_fault ks moving (Some truth)) m.trans in
    let g : List (Option ModelFault) = map (whole_fault ks steady (Some truth)) m.fair in
    let s : List (Option ModelFault) = map (whole_fault ks timed (Some truth)) m.specs in
    let h8 = first_none_left (d ++ i ++ v ++ n ++ f ++ x ++ t ++ g) s (walk_none m w) in
    let h7 = first_none_left (d ++ i ++ v ++ n ++ f ++ x ++ t) g h8 in
    let h6 = first_none_left (d ++ i ++ v ++ n ++ f ++ x) t h7 in
    let h5 = first_none_left (d ++ i ++ v ++ n ++ f) x h6 in
    let h4 = first_none_left (d ++ i ++ v ++ n) f h5 in
    let h3 = first_none_left (d ++ i ++ v) n h4 in
    let h2 = first_none_left (d ++ i) v h3 in
    record {
      defines = first_none_left d i h2;
      inits = first_none_right d i h2;
      invars = first_none_right (d ++ i) v h3;
      nows = first_none_right (d ++ i ++ v) n h4;
      firsts = first_none_right (d ++ i ++ v ++ n) f h5;
      nexts = first_none_right (d ++ i ++ v ++ n ++ f) x h6;
      trans = first_none_right (d ++ i ++ v ++ n ++ f ++ x) t h7;
      fair = first_none_right (d ++ i ++ v ++ n ++ f ++ x ++ t) g h8;
    }

-- ---- readings

pub reads_kinds : (m : Model) (s : State) (flip : Option Signal) → IsWellFormed m → IsTrue (is_typed m s) → ReadsKinds (kinds_of m) (readings_in m s flip)
reads_kinds m s flip w t =
    let h = vars_of m.vars s t w.values in
    let d = defines_keep (kinds_of m).vars (values_at m.vars s) flip m.defines [] [] h tt (walk_faults m w).defines (ap (λ (z : Model). z.defines) (facts m w).settled) in
    reads_of (kinds_of m).vars (kinds_of m).defs (values_at m.vars s) (readings_in m s flip).defs flip h d.kept

pub same_readings : (m : Model) (s : State) (flip : Option Signal) → IsWellFormed m → IsTrue (is_typed m s) → made.readings_in m s flip ≡ readings_in m s flip
same_readings m s flip w t =
    let h = vars_of m.vars s t w.values in
    let d = defines_keep (kinds_of m).vars (values_at m.vars s) flip m.defines [] [] h tt (walk_faults m w).defines (ap (λ (z : Model). z.defines) (facts m w).settled) in
    ap (λ (xs : List Value). let r : Readings = record { vars = values_at m.vars s; defs = xs; flip = flip } in r) d.same

-- ---- conditions and assignments

-- an expression without fault, settled in its place
pub same_value_of : (ks : Kinds) (may : May) (asks : Option Asks) (p : Point) (e : Expr) → whole_fault ks may asks e ≡ None → settled ks (asks_truth asks) e ≡ e
    → ReadsKinds ks p.present → ReadsKinds ks p.next → Keeps (kind_in (asks_truth asks) (judged ks e).own) may (meaning e) (made.meaning e) p
same_value_of ks may asks p e f s r r' =
    let c = first_none ((judged ks e).fault may) (kind_fault asks (judged ks e) ∷ []) f in
    let d = first_none (kind_fault asks (judged ks e)) [] c.1 in
    (law e ks).keeps may (asks_truth asks) p c.0 (no_misfit_truth asks (judged ks e) d.0) s r r'

same_all_true : (ks : Kinds) (may : May) (p : Point) (es : List Expr) → first (map (whole_fault ks may (Some truth)) es) ≡ None → map (settled ks true) es ≡ es
    → ReadsKinds ks p.present → ReadsKinds ks p.next → made.all_true es p ≡ all_true es p
same_all_true ks may p [] f s r r' = refl
same_all_true ks may p (e ∷ es) f s r r' =
    let c = first_none (whole_fault ks may (Some truth) e) (map (whole_fault ks may (Some truth)) es) f in
    let head : settled ks true e ≡ e = cc in
    let tail : map (settled ks true) es ≡ es = cc in
    let k = same_value_of ks may (Some truth) p e c.0 head r r' in
    ap (λ (x : Value). truth_of x && made.all_true es p) k.same_value ∙ ap (λ (b : Bool). truth_of (value e p) && b) (same_all_true ks may p es c.1 tail r r')

same_all_obeyed : (ks : Kinds) (may : May) (p : Point) (xs : List Value) (as' : List Assign) → first (map (assign_fault ks may) as') ≡ None → map (settled_assign ks) as' ≡ as'
    → ReadsKinds ks p.present → ReadsKinds ks p.next → made.all_obeyed as' p xs ≡ all_obeyed as' p xs
same_all_obeyed ks may p xs [] f s r r' = refl
same_all_obeyed ks may p xs (a ∷ as') f s r r' =
    let c = first_none (assign_fault ks may a) (map (assign_fault ks may) as') f in
    let head : settled_assign ks a ≡ a = cc in
    let tail : map (settled_assign ks) as' ≡ as' = cc in
    let k = same_value_of ks may (Some (asked_by ks a.var)) p a.body c.0 (ap (λ (z : Assign). z.body) head) r r' in
    ap (λ (b : Bool). b && made.all_obeyed as' p xs) (k.same_choices (item xs a.var)) ∙ ap (λ (b : Bool). allows a.body p (item xs a.var) && b) (same_all_obeyed ks may p xs as' c.1 tail r r')

-- ---- states and steps

module _ (m : Model) (w : IsWellFormed m) where
  meets_whole : (s : State) → IsTrue (is_typed m s) → made.meets m (readings_in m s None) ≡ is_state m s
  meets_whole s t =
      let f = walk_faults m w in
      let r = reads_kinds m s None w t in
      let p : Point = at m s None in
      ap (λ (b : Bool). b && made.all_obeyed m.nows p (values_at m.vars s)) (same_all_true (kinds_of m) steady p m.invars f.invars (ap (λ (z : Model). z.invars) (facts m w).settled) r r)
      ∙ ap (λ (b : Bool). all_true m.invars p && b) (same_all_obeyed (kinds_of m) chosen p (values_at m.vars s) m.nows f.nows (ap (λ (z : Model). z.nows) (facts m w).settled) r r)
      ∙ ap (λ (b : Bool). b && all_true m.invars p && all_obeyed m.nows p (values_at m.vars s)) (sym t)

  pub meets_is : (s : State) → IsTrue (is_typed m s) → made.meets m (made.readings_in m s None) ≡ is_state m s
  meets_is s t = ap (made.meets m) (same_readings m s None w t) ∙ meets_whole s t

  pub begins_is : (s : State) → IsTrue (is_typed m s) → made.begins m (made.readings_in m s None) ≡ is_initial m s
  begins_is s t =
      let f = walk_faults m w in
      let r = reads_kinds m s None w t in
      let p : Point = at m s None in
      ap (made.begins m) (same_readings m s None w t)
      ∙ ap (λ (b : Bool). b && made.all_true m.inits p && made.all_obeyed m.firsts p (values_at m.vars s)) (meets_whole s t)
      ∙ ap (λ (b : Bool). is_state m s && b && made.all_obeyed m.firsts p (values_at m.vars s)) (same_all_true (kinds_of m) steady p m.inits f.inits (ap (λ (z : Model). z.inits) (facts m w).settled) r r)
      ∙ ap (λ (b : Bool). is_state m s && all_true m.inits p && b) (same_all_obeyed (kinds_of m) chosen p (values_at m.vars s) m.firsts f.firsts (ap (λ (z : Model). z.firsts) (facts m w).settled) r r)

  pub leads_is : (s u : State) → IsTrue (is_typed m s) → IsTrue (is_typed m u) → made.leads m (made.readings_in m s None) (made.readings_in m u None) ≡ is_step m s u
  leads_is s u t t' =
      let f = walk_faults m w in
      let r = reads_kinds m s None w t in
      let r' = reads_kinds m u None w t' in
      let p : Point = between m s u None in
      ap (λ (q : Readings). made.leads m q (made.readings_in m u None)) (same_readings m s None w t)
      ∙ ap (λ (q : Readings). made.leads m (readings_in m s None) q) (same_readings m u None w t')
      ∙ ap (λ (b : Bool). b && made.meets m (readings_in m u None) && made.all_true m.trans p && made.all_obeyed m.nexts p (values_at m.vars u)) (meets_whole s t)
      ∙ ap (λ (b : Bool). is_state m s && b && made.all_true m.trans p && made.all_obeyed m.nexts p (values_at m.vars u)) (meets_whole u t')
      ∙ ap (λ (b : Bool). is_state m s && is_state m u && b && made.all_obeyed m.nexts p (values_at m.vars u)) (same_all_true (kinds_of m) moving p m.trans f.trans (ap (λ (z : Model). z.trans) (facts m w).settled) r r')
      ∙ ap (λ (b : Bool). is_state m s && is_state m u && all_true m.trans p && b) (same_all_obeyed (kinds_of m) chosen_next p (values_at m.vars u) m.nexts f.nexts (ap (λ (z : Model). z.nexts) (facts m w).settled) r r')

-- ---- FAIRNESS

same_at : (ks : Kinds) (may : May) (p : Point) (es : List Expr) (k : ℕ) (e : Expr) → slice_get es k ≡ Some e → first (map (whole_fault ks may (Some truth)) es) ≡ None → map (settled ks true) es ≡ es
    → ReadsKinds ks p.present → ReadsKinds ks p.next → made.value e p ≡ value e p
same_at ks may p [] k e g f s r r' = cc
same_at ks may p (x ∷ xs) zero e g f s r r' =
    let c = first_none (whole_fault ks may (Some truth) x) (map (whole_fault ks may (Some truth)) xs) f in
    let head : settled ks true x ≡ x = cc in
    let h : x ≡ e = cc in
    subst (λ (y : Expr). made.value y p ≡ value y p) h (same_value_of ks may (Some truth) p x c.0 head r r').same_value
same_at ks may p (x ∷ xs) (suc k) e g f s r r' =
    let c = first_none (whole_fault ks may (Some truth) x) (map (whole_fault ks may (Some truth)) xs) f in
    let tail : map (settled ks true) xs ≡ xs = cc in
    same_at ks may p xs k e g c.1 tail r r'

pub fair_is : (m : Model) → IsWellFormed m → (k : ℕ) (e : Expr) (s : State) → slice_get m.fair k ≡ Some e → IsTrue (is_typed m s)
    → truth_of (made.value e (still (made.readings_in m s None))) ≡ is_fair_at m k s
fair_is m w k e s g t =
    let r = reads_kinds m s None w t in
    ap (λ (q : Readings). truth_of (made.value e (still q))) (same_readings m s None w t)
    ∙ ap truth_of (same_at (kinds_of m) steady (at m s None) m.fair k e g (walk_faults m w).fair (ap (λ (z : Model). z.fair) (facts m w).settled) r r)
    ∙ ap (λ (o : Option Expr). option_map_or (λ e. holds m e s None) o false) (sym g)
