-- The lists of a walk over a model, one after the other.
use Rattle.std.proofs.Common.{◌≡◌, List, [], ◌∷◌, ◌++◌, map, Bool, true, false, Option, Some, None, append_assoc, refl, sym, ap, subst, ◌∙◌}
use Rattle.cov_syntax.specs.declared.tree.Expr.{Expr}
use Rattle.cov_syntax.specs.declared.fault.ModelFault.{ModelFault}
use Rattle.cov_syntax.specs.declared.fault.Refused.{Refused}
use Rattle.cov_model.specs.declared.model.Define.{Define}
use Rattle.cov_model.specs.declared.model.Assign.{Assign}
use Rattle.cov_model.specs.declared.model.Model.{Model}
use Rattle.cov_model.specs.Kinds.{Kind, Kinds}
use Rattle.cov_model.specs.Settled.{assign_fault, chosen, chosen_next, define_faults, define_kinds, kinds_of, known, moving, settled, settled_assign, settled_defines, settled_model, steady, timed, variable_kinds, walk_fault, whole_fault}
use Rattle.cov_model.specs.Walk.{May, first, truth}
use Rattle.cov_order.proofs.Gathered.{gathered}
use Rattle.cov_types.specs.Lists.{assign_faults, path_faults, state_faults}
use Rattle.cov_types.proofs.Tells.{none_both, tells_before, tells_behind}
use Rattle.cov_walk.specs.Found.{TellsFault}

-- the first fault of conditions in a place
pub conditions_none : (ks : Kinds) (may place : May) (es : List Expr) → may ≡ place
    → first (map (whole_fault ks may (Some truth)) es) ≡ None → first (map (whole_fault ks place (Some truth)) es) ≡ None
conditions_none ks may place es p h = ap (λ (q : May). first (map (whole_fault ks q (Some truth)) es)) (sym p) ∙ h

pub conditions_tell : (ks : Kinds) (may place : May) (es : List Expr) (e : Refused) → may ≡ place
    → TellsFault (first (map (whole_fault ks may (Some truth)) es)) e → TellsFault (first (map (whole_fault ks place (Some truth)) es)) e
conditions_tell ks may place es e p h = subst (λ (q : May). TellsFault (first (map (whole_fault ks q (Some truth)) es)) e) p h

-- the same of assignments
pub assigns_none : (ks : Kinds) (may place : May) (xs : List Assign) → may ≡ place
    → first (map (assign_fault ks may) xs) ≡ None → first (map (assign_fault ks place) xs) ≡ None
assigns_none ks may place xs p h = ap (λ (q : May). first (map (assign_fault ks q) xs)) (sym p) ∙ h

pub assigns_tell : (ks : Kinds) (may place : May) (xs : List Assign) (e : Refused) → may ≡ place
    → TellsFault (first (map (assign_fault ks may) xs)) e → TellsFault (first (map (assign_fault ks place) xs)) e
assigns_tell ks may place xs e p h = subst (λ (q : May). TellsFault (first (map (assign_fault ks q) xs)) e) p h

-- the table of all kinds is that of the model
pub same_table : (m : Model) (vs : List Kind) (ks : Kinds) → vs ≡ variable_kinds m → ks ≡ known vs (define_kinds vs m.defines []) → ks ≡ kinds_of m
same_table m vs ks v k = k ∙ ap (λ (us : List Kind). known us (define_kinds us m.defines [])) v

-- the model put together of lists that are settled with its kinds
pub put_together : (m : Model) (vs : List Kind) (ks : Kinds) (d : List Define) (i v : List Expr) (n f x : List Assign) (t g s : List Expr) → vs ≡ variable_kinds m → ks ≡ kinds_of m
    → d ≡ settled_defines vs m.defines [] → i ≡ map (settled ks true) m.inits → v ≡ map (settled ks true) m.invars
    → n ≡ map (settled_assign ks) m.nows → f ≡ map (settled_assign ks) m.firsts → x ≡ map (settled_assign ks) m.nexts
    → t ≡ map (settled ks true) m.trans → g ≡ map (settled ks true) m.fair → s ≡ map (settled ks true) m.specs
    → (let r : Model = record m { defines = d; inits = i; invars = v; nows = n; firsts = f; nexts = x; trans = t; fair = g; specs = s } in r ≡ settled_model m)
put_together m vs ks d i v n f x t g s w k ed ei ev en ef ex et eg es =
    let ls : Kinds = kinds_of m in
    gathered m d (settled_defines (variable_kinds m) m.defines []) i (map (settled ls true) m.inits) v (map (settled ls true) m.invars)
    n (map (settled_assign ls) m.nows) f (map (settled_assign ls) m.firsts) x (map (settled_assign ls) m.nexts)
    t (map (settled ls true) m.trans) g (map (settled ls true) m.fair) s (map (settled ls true) m.specs)
    (ed ∙ ap (λ (us : List Kind). settled_defines us m.defines []) w)
    (ei ∙ ap (λ (u : Kinds). map (settled u true) m.inits) k)
    (ev ∙ ap (λ (u : Kinds). map (settled u true) m.invars) k)
    (en ∙ ap (λ (u : Kinds). map (settled_assign u) m.nows) k)
    (ef ∙ ap (λ (u : Kinds). map (settled_assign u) m.firsts) k)
    (ex ∙ ap (λ (u : Kinds). map (settled_assign u) m.nexts) k)
    (et ∙ ap (λ (u : Kinds). map (settled u true) m.trans) k)
    (eg ∙ ap (λ (u : Kinds). map (settled u true) m.fair) k)
    (es ∙ ap (λ (u : Kinds). map (settled u true) m.specs) k)

module _ (m : Model) (vs : List Kind) (ks : Kinds) (v : vs ≡ variable_kinds m) (k : ks ≡ kinds_of m) where
  -- the walk, list by list
  abbrev walk : List Kind → Kinds → List (Option ModelFault)
  walk us ls = define_faults us m.defines [] ++ state_faults ls m ++ assign_faults ls m ++ path_faults ls m

  in_turn : walk_fault m ≡ first (walk vs ks)
  in_turn =
      let ls : Kinds = kinds_of m in
      let d : List (Option ModelFault) = define_faults (variable_kinds m) m.defines [] in
      let i : List (Option ModelFault) = map (whole_fault ls steady (Some truth)) m.inits in
      let w : List (Option ModelFault) = map (whole_fault ls steady (Some truth)) m.invars in
      let n : List (Option ModelFault) = map (assign_fault ls chosen) m.nows in
      let f : List (Option ModelFault) = map (assign_fault ls chosen) m.firsts in
      let x : List (Option ModelFault) = map (assign_fault ls chosen_next) m.nexts in
      let t : List (Option ModelFault) = map (whole_fault ls moving (Some truth)) m.trans in
      let g : List (Option ModelFault) = map (whole_fault ls steady (Some truth)) m.fair in
      let s : List (Option ModelFault) = map (whole_fault ls timed (Some truth)) m.specs in
      ap first (grouped d i w n f x t g s)
      ∙ ap (λ (us : List Kind). first (walk us ls)) (sym v)
      ∙ ap (λ (us : Kinds). first (walk vs us)) (sym k)
    where
      grouped : (d i w n f x t g s : List (Option ModelFault)) → d ++ i ++ w ++ n ++ f ++ x ++ t ++ g ++ s ≡ d ++ (i ++ w) ++ (n ++ f ++ x) ++ (t ++ g ++ s)
      grouped d i w n f x t g s =
          ap (λ (z : List (Option ModelFault)). (((((z ++ n) ++ f) ++ x) ++ t) ++ g) ++ s) (append_assoc d i w)
          ∙ ap (λ (z : List (Option ModelFault)). ((z ++ t) ++ g) ++ s) (ap (λ (z : List (Option ModelFault)). z ++ x) (append_assoc (d ++ (i ++ w)) n f) ∙ append_assoc (d ++ (i ++ w)) (n ++ f) x)
          ∙ ap (λ (z : List (Option ModelFault)). z ++ s) (append_assoc ((d ++ (i ++ w)) ++ ((n ++ f) ++ x)) t g)
          ∙ append_assoc ((d ++ (i ++ w)) ++ ((n ++ f) ++ x)) (t ++ g) s

  tell : (e : Refused) → TellsFault (first (walk vs ks)) e → TellsFault (walk_fault m) e
  tell e h = subst (λ (f : Option ModelFault). TellsFault f e) (sym in_turn) h

  -- the lists in turn, the fault of each behind lists without fault
  pub defines_tell : (e : Refused) → TellsFault (first (define_faults vs m.defines [])) e → TellsFault (walk_fault m) e
  defines_tell e t = tell e
      (tells_before ((define_faults vs m.defines [] ++ state_faults ks m) ++ assign_faults ks m) (path_faults ks m) e
      (tells_before (define_faults vs m.defines [] ++ state_faults ks m) (assign_faults ks m) e
      (tells_before (define_faults vs m.defines []) (state_faults ks m) e t)))

  pub states_tell : (e : Refused) → first (define_faults vs m.defines []) ≡ None → TellsFault (first (state_faults ks m)) e → TellsFault (walk_fault m) e
  states_tell e d t = tell e
      (tells_before ((define_faults vs m.defines [] ++ state_faults ks m) ++ assign_faults ks m) (path_faults ks m) e
      (tells_before (define_faults vs m.defines [] ++ state_faults ks m) (assign_faults ks m) e
      (tells_behind (define_faults vs m.defines []) (state_faults ks m) e d t)))

  pub assigns_tell_all : (e : Refused) → first (define_faults vs m.defines []) ≡ None → first (state_faults ks m) ≡ None → TellsFault (first (assign_faults ks m)) e → TellsFault (walk_fault m) e
  assigns_tell_all e d s t = tell e
      (tells_before ((define_faults vs m.defines [] ++ state_faults ks m) ++ assign_faults ks m) (path_faults ks m) e
      (tells_behind (define_faults vs m.defines [] ++ state_faults ks m) (assign_faults ks m) e (none_both (define_faults vs m.defines []) (state_faults ks m) d s) t))

  pub paths_tell : (e : Refused) → first (define_faults vs m.defines []) ≡ None → first (state_faults ks m) ≡ None → first (assign_faults ks m) ≡ None → TellsFault (first (path_faults ks m)) e → TellsFault (walk_fault m) e
  paths_tell e d s a t = tell e
      (tells_behind ((define_faults vs m.defines [] ++ state_faults ks m) ++ assign_faults ks m) (path_faults ks m) e
      (none_both (define_faults vs m.defines [] ++ state_faults ks m) (assign_faults ks m) (none_both (define_faults vs m.defines []) (state_faults ks m) d s) a) t)

  pub none_in_turn : first (define_faults vs m.defines []) ≡ None → first (state_faults ks m) ≡ None → first (assign_faults ks m) ≡ None → first (path_faults ks m) ≡ None → walk_fault m ≡ None
  none_in_turn d s a p = in_turn ∙
      none_both ((define_faults vs m.defines [] ++ state_faults ks m) ++ assign_faults ks m) (path_faults ks m)
      (none_both (define_faults vs m.defines [] ++ state_faults ks m) (assign_faults ks m) (none_both (define_faults vs m.defines []) (state_faults ks m) d s) a) p
