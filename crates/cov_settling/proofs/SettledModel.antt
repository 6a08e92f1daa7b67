-- A model in which the walk finds nothing is settled to such a model, with the same kinds, which settles to itself.
use Rattle.std.proofs.Common.{◌≡◌, true, false, ◌&&◌, IsTrue, List, [], ◌∷◌, ◌++◌, map, length, Option, Some, None, refl, ap, ◌∙◌}
use Rattle.std.specs.Prelude.{nat_lt}
use Rattle.cov_syntax.specs.declared.fault.ModelFault.{ModelFault}
use Rattle.cov_syntax.specs.declared.tree.Expr.{Expr}
use Rattle.cov_model.specs.declared.model.Define.{Define}
use Rattle.cov_model.specs.declared.model.Assign.{Assign}
use Rattle.cov_model.specs.declared.model.Model.{Model}
use Rattle.cov_model.specs.Kinds.{Kind, Kinds}
use Rattle.cov_model.specs.Walk.{first, May, Asks, truth, number, no_truth, Judged, judged, own, kind_fault, asks_truth}
use Rattle.cov_model.specs.Settled.{known, define_kinds, variable_kinds, kinds_of, steady, chosen, chosen_next, moving, timed, whole_fault, asked_by, assign_fault, define_faults, walk_fault, settled, settled_assign, settled_defines, settled_model}
use Rattle.cov_model.specs.WellFormed.{cites, assigns_cite}
use Rattle.cov_model.proofs.Tied.{first_none, first_none_left, first_none_right, no_misfit, no_misfit_truth}
use Rattle.cov_model.proofs.Joined.{and_split, and_join}
use Rattle.cov_settling.specs.Cited.{IsCited}
use Rattle.cov_settling.proofs.Again.{Again, OwnFits, first_of, first_both, kind_again}
use Rattle.cov_settling.proofs.Settling.{stays}
use Rattle.cov_settling.proofs.Choosing.{kind_fitting}

-- ---- one expression in its place

module _ (ks : Kinds) (may : May) (asks : Option Asks) (e : Expr) (h : whole_fault ks may asks e ≡ None) where
  no_fault_in : (judged ks e).fault may ≡ None
  no_fault_in = (first_none ((judged ks e).fault may) (kind_fault asks (judged ks e) ∷ []) h).0

  no_kind_in : kind_fault asks (judged ks e) ≡ None
  no_kind_in = (first_none (kind_fault asks (judged ks e)) [] (first_none ((judged ks e).fault may) (kind_fault asks (judged ks e) ∷ []) h).1).0

  -- what the walk finds at it once it is settled
  pub whole_again : Again may (asks_truth asks) (judged ks e) (judged ks (settled ks (asks_truth asks) e))
  whole_again = stays ks e may (asks_truth asks) no_fault_in (no_misfit_truth asks (judged ks e) no_kind_in)

  -- no fault in its place
  pub whole_passes : OwnFits asks (own ks e) → whole_fault ks may asks (settled ks (asks_truth asks) e) ≡ None
  whole_passes o =
      let x : Judged = judged ks (settled ks (asks_truth asks) e) in
      first_of (x.fault may) (kind_fault asks x ∷ []) whole_again.fault (first_of (kind_fault asks x) [] (kind_again ks asks e whole_again.own o) refl)

-- what it fits, it fits by its own kind, or in a Boolean place
cited_fits : (m : Model) (ks : Kinds) (asks : Option Asks) (e : Expr) → IsTrue (cites m e) → kind_fault asks (judged ks e) ≡ None → OwnFits asks (own ks e)
cited_fits m ks None e c h = tt
cited_fits m ks (Some truth) e c h = tt
cited_fits m ks (Some number) e c h = kind_fitting m ks number refl e c (no_misfit number (judged ks e) h)
cited_fits m ks (Some no_truth) e c h = kind_fitting m ks no_truth refl e c (no_misfit no_truth (judged ks e) h)

-- an expression that fits its place fits it once it is settled
pub fits_again : (m : Model) (ks : Kinds) (may : May) (asks : Option Asks) (e : Expr) → IsTrue (cites m e) → whole_fault ks may asks e ≡ None → whole_fault ks may asks (settled ks (asks_truth asks) e) ≡ None
fits_again m ks may asks e c h = whole_passes ks may asks e h (cited_fits m ks asks e c (no_kind_in ks may asks e h))

-- ---- lists of expressions and assignments

all_pass_again : (ks : Kinds) (may : May) (es : List Expr) → first (map (whole_fault ks may (Some truth)) es) ≡ None → first (map (whole_fault ks may (Some truth)) (map (settled ks true) es)) ≡ None
all_pass_again ks may [] h = refl
all_pass_again ks may (e ∷ es) h =
    let c = first_none (whole_fault ks may (Some truth) e) (map (whole_fault ks may (Some truth)) es) h in
    first_of (whole_fault ks may (Some truth) (settled ks true e)) (map (whole_fault ks may (Some truth)) (map (settled ks true) es)) (whole_passes ks may (Some truth) e c.0 tt) (all_pass_again ks may es c.1)

all_settled_again : (ks : Kinds) (may : May) (es : List Expr) → first (map (whole_fault ks may (Some truth)) es) ≡ None → map (settled ks true) (map (settled ks true) es) ≡ map (settled ks true) es
all_settled_again ks may [] h = refl
all_settled_again ks may (e ∷ es) h =
    let c = first_none (whole_fault ks may (Some truth) e) (map (whole_fault ks may (Some truth)) es) h in
    ap (λ (f : Expr). f ∷ map (settled ks true) (map (settled ks true) es)) (whole_again ks may (Some truth) e c.0).twice ∙ ap (λ (fs : List Expr). settled ks true e ∷ fs) (all_settled_again ks may es c.1)

all_assigns_pass : (m : Model) (ks : Kinds) (may : May) (as' : List Assign) → IsTrue (assigns_cite m as') → first (map (assign_fault ks may) as') ≡ None → first (map (assign_fault ks may) (map (settled_assign ks) as')) ≡ None
all_assigns_pass m ks may [] c h = refl
all_assigns_pass m ks may (a ∷ as') c h =
    let f = first_none (assign_fault ks may a) (map (assign_fault ks may) as') h in
    let s = and_split (nat_lt a.var (length m.vars) && cites m a.body) (assigns_cite m as') c in
    let asks : Option Asks = Some (asked_by ks a.var) in
    first_of (assign_fault ks may (settled_assign ks a)) (map (assign_fault ks may) (map (settled_assign ks) as'))
    (fits_again m ks may asks a.body (and_split (nat_lt a.var (length m.vars)) (cites m a.body) s.0).1 f.0)
    (all_assigns_pass m ks may as' s.1 f.1)

all_assigns_again : (ks : Kinds) (may : May) (as' : List Assign) → first (map (assign_fault ks may) as') ≡ None → map (settled_assign ks) (map (settled_assign ks) as') ≡ map (settled_assign ks) as'
all_assigns_again ks may [] h = refl
all_assigns_again ks may (a ∷ as') h =
    let f = first_none (assign_fault ks may a) (map (assign_fault ks may) as') h in
    ap (λ (e : Expr). let b : Assign = record a { body = e } in b ∷ map (settled_assign ks) (map (settled_assign ks) as')) (whole_again ks may (Some (asked_by ks a.var)) a.body f.0).twice
    ∙ ap (λ (bs : List Assign). settled_assign ks a ∷ bs) (all_assigns_again ks may as' f.1)

-- ---- DEFINEs

same_define_kinds : (vk : List Kind) (ds : List Define) (done : List Kind) → first (define_faults vk ds done) ≡ None → define_kinds vk (settled_defines vk ds done) done ≡ define_kinds vk ds done
same_define_kinds vk [] done h = refl
same_define_kinds vk (d ∷ ds) done h =
    let k : Kind = own (known vk done) d.body in
    let f = first_none (whole_fault (known vk done) steady None d.body) (define_faults vk ds (done ++ k ∷ [])) h in
    ap (λ (z : Kind). define_kinds vk (settled_defines vk ds (done ++ k ∷ [])) (done ++ z ∷ [])) (whole_again (known vk done) steady None d.body f.0).own
    ∙ same_define_kinds vk ds (done ++ k ∷ []) f.1

define_faults_again : (vk : List Kind) (ds : List Define) (done : List Kind) → first (define_faults vk ds done) ≡ None → first (define_faults vk (settled_defines vk ds done) done) ≡ None
define_faults_again vk [] done h = refl
define_faults_again vk (d ∷ ds) done h =
    let k : Kind = own (known vk done) d.body in
    let e : Expr = settled (known vk done) false d.body in
    let rest : List Define = settled_defines vk ds (done ++ k ∷ []) in
    let f = first_none (whole_fault (known vk done) steady None d.body) (define_faults vk ds (done ++ k ∷ [])) h in
    first_of (whole_fault (known vk done) steady None e) (define_faults vk rest (done ++ own (known vk done) e ∷ [])) (whole_passes (known vk done) steady None d.body f.0 tt)
    (ap (λ (z : Kind). first (define_faults vk rest (done ++ z ∷ []))) (whole_again (known vk done) steady None d.body f.0).own ∙ define_faults_again vk ds (done ++ k ∷ []) f.1)

settled_defines_again : (vk : List Kind) (ds : List Define) (done : List Kind) → first (define_faults vk ds done) ≡ None → settled_defines vk (settled_defines vk ds done) done ≡ settled_defines vk ds done
settled_defines_again vk [] done h = refl
settled_defines_again vk (d ∷ ds) done h =
    let k : Kind = own (known vk done) d.body in
    let e : Expr = settled (known vk done) false d.body in
    let rest : List Define = settled_defines vk ds (done ++ k ∷ []) in
    let f = first_none (whole_fault (known vk done) steady None d.body) (define_faults vk ds (done ++ k ∷ [])) h in
    let a = whole_again (known vk done) steady None d.body f.0 in
    ap (λ (x : Expr). let c : Define = record d { body = x } in c ∷ settled_defines vk rest (done ++ own (known vk done) e ∷ [])) a.twice
    ∙ ap (λ (z : Kind). let c : Define = record d { body = e } in c ∷ settled_defines vk rest (done ++ z ∷ [])) a.own
    ∙ ap (λ (cs : List Define). let c : Define = record d { body = e } in c ∷ cs) (settled_defines_again vk ds (done ++ k ∷ []) f.1)

-- ---- models
-- the lists of a model in which the walk finds nothing
record Parts (ks : Kinds) (m : Model) : Type 0 where
  defines : first (define_faults ks.vars m.defines []) ≡ None
  inits : first (map (whole_fault ks steady (Some truth)) m.inits) ≡ None
  invars : first (map (whole_fault ks steady (Some truth)) m.invars) ≡ None
  nows : first (map (assign_fault ks chosen) m.nows) ≡ None
  firsts : first (map (assign_fault ks chosen) m.firsts) ≡ None
  nexts : first (map (assign_fault ks chosen_next) m.nexts) ≡ None
  trans : first (map (whole_fault ks moving (Some truth)) m.trans) ≡ None
  fair : first (map (whole_fault ks steady (Some truth)) m.fair) ≡ None
  specs : first (map (whole_fault ks timed (Some truth)) m.specs) ≡ None

abbrev faults_in : Kinds → Model → List (Option ModelFault)
faults_in ks m =
    define_faults ks.vars m.defines []
    ++ map (whole_fault ks steady (Some truth)) m.inits
    ++ map (whole_fault ks steady (Some truth)) m.invars
    ++ map (assign_fault ks chosen) m.nows
    ++ map (assign_fault ks chosen) m.firsts
    ++ map (assign_fault ks chosen_next) m.nexts
    ++ map (whole_fault ks moving (Some truth)) m.trans
    ++ map (whole_fault ks steady (Some truth)) m.fair
    ++ map (whole_fault ks timed (Some truth)) m.specs

parts : (ks : Kinds) (m : Model) → first (faults_in ks m) ≡ None → Parts ks m
parts ks m h9 =
    let d : List (Option ModelFault) = define_faults ks.vars m.defines [] in
    let i : List (Option ModelFault) = map (whole_fault ks steady (Some truth)) m.inits in
    let v : List (Option ModelFault) = map (whole_fault ks steady (Some truth)) m.invars in
    let n : List (Option ModelFault) = map (assign_fault ks chosen) m.nows in
    let f : List (Option ModelFault) = map (assign_fault ks chosen) m.firsts in
    let x : List (Option ModelFault) = map (assign_fault ks chosen_next) m.nexts in
    let t : List (Option ModelFault) = map (whole_fault ks moving (Some truth)) m.trans in
    let g : List (Option ModelFault) = map (whole_fault ks steady (Some truth)) m.fair in
    let s : List (Option ModelFault) = map (whole_fault ks timed (Some truth)) m.specs in
    let h8 = first_none_left (d ++ i ++ v ++ n ++ f ++ x ++ t ++ g) s h9 in
    let h7 = first_none_left (d ++ i ++ v ++ n ++ f ++ x ++ t) g h8 in
    let h6 = first_none_left (d ++ i ++ v ++ n ++ f ++ x) t h7 in
    let h5 = first_none_left (d ++ i ++ v ++ n ++ f) x h6 in
    let h4 = first_none_left (d ++ i ++ v ++ n) f h5 in
    let h3 = first_none_left (d ++ i ++ v) n h4 in
    let h2 = first_none_left (d ++ i) v h3 in
    record {
      defines = first_none_left d i h2;
      inits = first_none_right d i h2;
      invars = first_none_right (d ++ i) v h3;
      nows = first_none_right (d ++ i ++ v) n h4;
      firsts = first_none_right (d ++ i ++ v ++ n) f h5;
      nexts = first_none_right (d ++ i ++ v ++ n ++ f) x h6;
      trans = first_none_right (d ++ i ++ v ++ n ++ f ++ x) t h7;
      fair = first_none_right (d ++ i ++ v ++ n ++ f ++ x ++ t) g h8;
      specs = first_none_right (d ++ i ++ v ++ n ++ f ++ x ++ t ++ g) s h9;
    }

no_faults : (ks : Kinds) (m : Model) → Parts ks m → first (faults_in ks m) ≡ None
no_faults ks m p =
    let d : List (Option ModelFault) = define_faults ks.vars m.defines [] in
    let i : List (Option ModelFault) = map (whole_fault ks steady (Some truth)) m.inits in
    let v : List (Option ModelFault) = map (whole_fault ks steady (Some truth)) m.invars in
    let n : List (Option ModelFault) = map (assign_fault ks chosen) m.nows in
    let f : List (Option ModelFault) = map (assign_fault ks chosen) m.firsts in
    let x : List (Option ModelFault) = map (assign_fault ks chosen_next) m.nexts in
    let t : List (Option ModelFault) = map (whole_fault ks moving (Some truth)) m.trans in
    let g : List (Option ModelFault) = map (whole_fault ks steady (Some truth)) m.fair in
    let s : List (Option ModelFault) = map (whole_fault ks timed (Some truth)) m.specs in
    first_both (d ++ i ++ v ++ n ++ f ++ x ++ t ++ g) s (first_both (d ++ i ++ v ++ n ++ f ++ x ++ t) g (first_both (d ++ i ++ v ++ n ++ f ++ x) t (first_both (d ++ i ++ v ++ n ++ f) x (first_both (d ++ i ++ v ++ n) f (first_both (d ++ i ++ v) n (first_both (d ++ i) v (first_both d i p.defines p.inits) p.invars) p.nows) p.firsts) p.nexts) p.trans) p.fair) p.specs

pub same_kinds : (m : Model) → walk_fault m ≡ None → kinds_of (settled_model m) ≡ kinds_of m
same_kinds m h =
    let vk : List Kind = variable_kinds m in
    ap (λ (ks : List Kind). let r : Kinds = record { vars = vk; defs = ks } in r) (same_define_kinds vk m.defines [] (parts (kinds_of m) m h).defines)

-- the right sides of the three forms
assigns_left : (m : Model) (xs ys : List Assign) → IsTrue (assigns_cite m (xs ++ ys)) → IsTrue (assigns_cite m xs)
assigns_left m [] ys h = refl
assigns_left m (a ∷ xs) ys h =
    let s = and_split (nat_lt a.var (length m.vars) && cites m a.body) (assigns_cite m (xs ++ ys)) h in
    and_join (nat_lt a.var (length m.vars) && cites m a.body) (assigns_cite m xs) s.0 (assigns_left m xs ys s.1)

assigns_right : (m : Model) (xs ys : List Assign) → IsTrue (assigns_cite m (xs ++ ys)) → IsTrue (assigns_cite m ys)
assigns_right m [] ys h = h
assigns_right m (a ∷ xs) ys h = assigns_right m xs ys (and_split (nat_lt a.var (length m.vars) && cites m a.body) (assigns_cite m (xs ++ ys)) h).1

pub passes_again : (m : Model) → IsCited m → walk_fault m ≡ None → walk_fault (settled_model m) ≡ None
passes_again m w h =
    let ks : Kinds = kinds_of m in
    let p = parts ks m h in
    let first_two = assigns_left m (m.nows ++ m.firsts) m.nexts w.assigned in
    ap (λ (z : Kinds). first (faults_in z (settled_model m))) (same_kinds m h)
    ∙ no_faults ks (settled_model m) (record {
      defines = define_faults_again ks.vars m.defines [] p.defines;
      inits = all_pass_again ks steady m.inits p.inits;
      invars = all_pass_again ks steady m.invars p.invars;
      nows = all_assigns_pass m ks chosen m.nows (assigns_left m m.nows m.firsts first_two) p.nows;
      firsts = all_assigns_pass m ks chosen m.firsts (assigns_right m m.nows m.firsts first_two) p.firsts;
      nexts = all_assigns_pass m ks chosen_next m.nexts (assigns_right m (m.nows ++ m.firsts) m.nexts w.assigned) p.nexts;
      trans = all_pass_again ks moving m.trans p.trans;
      fair = all_pass_again ks steady m.fair p.fair;
      specs = all_pass_again ks timed m.specs p.specs;
    })

-- the model with these lists
abbrev made : Model → List Define → List Expr → List Expr → List Assign → List Assign → List Assign → List Expr → List Expr → List Expr → Model
made m d i v n f x t g s = record m { defines = d; inits = i; invars = v; nows = n; firsts = f; nexts = x; trans = t; fair = g; specs = s }

abbrev settled_in : Kinds → Model → Model
settled_in ks m = made m (settled_defines ks.vars m.defines []) (map (settled ks true) m.inits) (map (settled ks true) m.invars) (map (settled_assign ks) m.nows) (map (settled_assign ks) m.firsts) (map (settled_assign ks) m.nexts) (map (settled ks true) m.trans) (map (settled ks true) m.fair) (map (settled ks true) m.specs)

pub settled_again : (m : Model) → walk_fault m ≡ None → settled_model (settled_model m) ≡ settled_model m
settled_again m h =
    let ks : Kinds = kinds_of m in
    let p = parts ks m h in
    let o : Model = settled_model m in
    ap (λ (z : Kinds). settled_in z o) (same_kinds m h)
    ∙ ap (λ (z : List Define). made m z (map (settled ks true) o.inits) (map (settled ks true) o.invars) (map (settled_assign ks) o.nows) (map (settled_assign ks) o.firsts) (map (settled_assign ks) o.nexts) (map (settled ks true) o.trans) (map (settled ks true) o.fair) (map (settled ks true) o.specs)) (settled_defines_again ks.vars m.defines [] p.defines)
    ∙ ap (λ (z : List Expr). made m o.defines z (map (settled ks true) o.invars) (map (settled_assign ks) o.nows) (map (settled_assign ks) o.firsts) (map (settled_assign ks) o.nexts) (map (settled ks true) o.trans) (map (settled ks true) o.fair) (map (settled ks true) o.specs)) (all_settled_again ks steady m.inits p.inits)
    ∙ ap (λ (z : List Expr). made m o.defines o.inits z (map (settled_assign ks) o.nows) (map (settled_assign ks) o.firsts) (map (settled_assign ks) o.nexts) (map (settled ks true) o.trans) (map (settled ks true) o.fair) (map (settled ks true) o.specs)) (all_settled_again ks steady m.invars p.invars)
    ∙ ap (λ (z : List Assign). made m o.defines o.inits o.invars z (map (settled_assign ks) o.firsts) (map (settled_assign ks) o.nexts) (map (settled ks true) o.trans) (map (settled ks true) o.fair) (map (settled ks true) o.specs)) (all_assigns_again ks chosen m.nows p.nows)
    ∙ ap (λ (z : List Assign). made m o.defines o.inits o.invars o.nows z (map (settled_assign ks) o.nexts) (map (settled ks true) o.trans) (map (settled ks true) o.fair) (map (settled ks true) o.specs)) (all_assigns_again ks chosen m.firsts p.firsts)
    ∙ ap (λ (z : List Assign). made m o.defines o.inits o.invars o.nows o.firsts z (map (settled ks true) o.trans) (map (settled ks true) o.fair) (map (settled ks true) o.specs)) (all_assigns_again ks chosen_next m.nexts p.nexts)
    ∙ ap (λ (z : List Expr). made m o.defines o.inits o.invars o.nows o.firsts o.nexts z (map (settled ks true) o.fair) (map (settled ks true) o.specs)) (all_settled_again ks moving m.trans p.trans)
    ∙ ap (λ (z : List Expr). made m o.defines o.inits o.invars o.nows o.firsts o.nexts o.trans z (map (settled ks true) o.specs)) (all_settled_again ks steady m.fair p.fair)
    ∙ ap (λ (z : List Expr). made m o.defines o.inits o.invars o.nows o.firsts o.nexts o.trans o.fair z) (all_settled_again ks timed m.specs p.specs)
