-- The lists of the flat model, from what the stops give.
use Rattle.std.proofs.Common.{◌≡◌, ℕ, ◌++◌, List, length, map, sym, ap, ◌∙◌}
use Rattle.std.specs.Prelude.{fold, filter}
use Rattle.std.specs.List.{flat_map, zip}
use Rattle.std.proofs.lemmas.List.{length-map}
use Rattle.cov_syntax.specs.declared.tree.Expr.{Expr}
use Rattle.cov_syntax.specs.declared.program.When.{When}
use Rattle.cov_syntax.specs.declared.program.CondKind.{CondKind}
use Rattle.cov_syntax.specs.declared.program.Program.{Program}
use Rattle.cov_model.specs.declared.model.Var.{Var}
use Rattle.cov_model.specs.declared.model.Define.{Define}
use Rattle.cov_model.specs.declared.model.Assign.{Assign}
use Rattle.cov_model.specs.declared.model.Model.{Model}
use Rattle.cov_modules.specs.Names.{spelled}
use Rattle.cov_modules.specs.Walk.{Stop, walk}
use Rattle.cov_modules.specs.FlatLists.{FlatVar, FlatDefine, Assignment, var_of, flat_vars, define_of, define_of_argument, defines_at, flat_defines, cond_of, conds, assign_of, flat_assign, assigns, same_when, flat_expr, index_of, added, all_names, flat_model}
use Rattle.cov_modules.proofs.FirstLemmas.{map-append, map-flat_map}
use Rattle.cov_flat.specs.declared.variables.Variable.{Variable}
use Rattle.cov_flat.specs.declared.definitions.Definition.{Definition}
use Rattle.cov_flat.specs.Reading.{flat_walk, flat_index}
use Rattle.cov_flat.specs.Entries.{spelled_variable, variables_of, spelled_define, arguments_of, definitions_of, conditions_of, assigns_of}
use Rattle.cov_flat.specs.Naming.{variable_text, definition_text, numbered_variable, numbered_definition}
use Rattle.cov_flat.proofs.ListLemmas.{fused, flat_map-same, map-after, filter-flat_map}

module _ (p : Program) where
  -- the variables
  pub variables_are : (w : List Stop) → flat_map (variables_of p) w ≡ map (spelled_variable p) (flat_vars w)
  variables_are w = sym (
      map-flat_map (spelled_variable p) (λ (s : Stop). flat_map (var_of s.here.name) s.here.from.sections) w
      ∙ flat_map-same (λ (s : Stop). map (spelled_variable p) (flat_map (var_of s.here.name) s.here.from.sections)) (variables_of p) (λ (s : Stop). map-flat_map (spelled_variable p) (var_of s.here.name) s.here.from.sections) w)

  definitions_at : (s : Stop) → map (spelled_define p) (defines_at s) ≡ definitions_of p s
  definitions_at s =
      map-append (spelled_define p) (flat_map (define_of_argument s) (zip s.here.from.formals s.given)) (flat_map (define_of s.here) s.here.from.sections)
      ∙ ap (λ ds. ds ++ map (spelled_define p) (flat_map (define_of s.here) s.here.from.sections)) (map-flat_map (spelled_define p) (define_of_argument s) (zip s.here.from.formals s.given))
      ∙ ap (λ ds. arguments_of p s ++ ds) (map-flat_map (spelled_define p) (define_of s.here) s.here.from.sections)

  -- the DEFINEs
  pub definitions_are : (w : List Stop) → flat_map (definitions_of p) w ≡ map (spelled_define p) (flat_defines w)
  definitions_are w = sym (map-flat_map (spelled_define p) defines_at w ∙ flat_map-same (λ (s : Stop). map (spelled_define p) (defines_at s)) (definitions_of p) definitions_at w)

  -- the conditions of a kind
  pub conditions_are : (k : CondKind) (w : List Stop) → flat_map (conditions_of p k) w ≡ conds p (flat_index p) w k
  conditions_are k w = sym (flat_map-same (λ (s : Stop). map (flat_expr p (flat_index p) s.here) (flat_map (cond_of k) s.here.from.sections)) (conditions_of p k)
      (λ (s : Stop). map-flat_map (flat_expr p (flat_index p) s.here) (cond_of k) s.here.from.sections) w)

  assigns_at : (k : When) (s : Stop) → flat_map (flat_assign p (flat_index p)) (filter (λ (a : Assignment). same_when k a.when) (flat_map (assign_of p s.here) s.here.from.sections)) ≡ assigns_of p k s
  assigns_at k s =
      ap (flat_map (flat_assign p (flat_index p))) (filter-flat_map (λ (a : Assignment). same_when k a.when) (assign_of p s.here) s.here.from.sections)
      ∙ fused (flat_assign p (flat_index p)) (λ x. filter (λ (a : Assignment). same_when k a.when) (assign_of p s.here x)) s.here.from.sections

  -- the assignments of a form
  pub assigns_are : (k : When) (w : List Stop) → flat_map (assigns_of p k) w ≡ assigns p (flat_index p) w k
  assigns_are k w = sym (
      ap (flat_map (flat_assign p (flat_index p))) (filter-flat_map (λ (a : Assignment). same_when k a.when) (λ (s : Stop). flat_map (assign_of p s.here) s.here.from.sections) w)
      ∙ fused (flat_assign p (flat_index p)) (λ (s : Stop). filter (λ (a : Assignment). same_when k a.when) (flat_map (assign_of p s.here) s.here.from.sections)) w
      ∙ flat_map-same (λ (s : Stop). flat_map (flat_assign p (flat_index p)) (filter (λ (a : Assignment). same_when k a.when) (flat_map (assign_of p s.here) s.here.from.sections))) (assigns_of p k) (assigns_at k) w)

  module _ (vs : List Variable) (ds : List Definition) (is_vs : vs ≡ flat_map (variables_of p) (flat_walk p)) (is_ds : ds ≡ flat_map (definitions_of p) (flat_walk p)) where
    abbrev texts : List (List ℕ)
    texts = map variable_text vs ++ map definition_text ds

    variable_texts : map variable_text vs ≡ map (spelled p.names) (flat_index p).vars
    unfolding flat_walk flat_index
    variable_texts =
        ap (map variable_text) (is_vs ∙ variables_are (walk p))
        ∙ map-after variable_text (spelled_variable p) (flat_vars (walk p))
        ∙ sym (map-after (spelled p.names) (λ (x : FlatVar). x.name) (flat_vars (walk p)))

    definition_texts : map definition_text ds ≡ map (spelled p.names) (flat_index p).defs
    unfolding flat_walk flat_index
    definition_texts =
        ap (map definition_text) (is_ds ∙ definitions_are (walk p))
        ∙ map-after definition_text (spelled_define p) (flat_defines (walk p))
        ∙ sym (map-after (spelled p.names) (λ (d : FlatDefine). d.name) (flat_defines (walk p)))

    -- the names
    pub names_are : fold added p.names texts ≡ all_names p (flat_index p)
    names_are =
        ap (fold added p.names) (
        ap (λ ts. ts ++ map definition_text ds) variable_texts
        ∙ ap (λ ts. map (spelled p.names) (flat_index p).vars ++ ts) definition_texts
        ∙ sym (map-append (spelled p.names) (flat_index p).vars (flat_index p).defs))

    -- the variables, numbered
    pub vars_are : (names : List (List ℕ)) → names ≡ all_names p (index_of p) → map (numbered_variable names) vs ≡ (flat_model p).vars
    unfolding flat_walk
    vars_are names is =
        ap (λ ns. map (numbered_variable ns) vs) is
        ∙ ap (map (numbered_variable (all_names p (index_of p)))) (is_vs ∙ variables_are (walk p))
        ∙ map-after (numbered_variable (all_names p (index_of p))) (spelled_variable p) (flat_vars (walk p))

    -- the DEFINEs, numbered
    pub defines_are : (names : List (List ℕ)) → names ≡ all_names p (index_of p) → map (numbered_definition names) ds ≡ (flat_model p).defines
    unfolding flat_walk flat_index
    defines_are names is =
        ap (λ ns. map (numbered_definition ns) ds) is
        ∙ ap (map (numbered_definition (all_names p (index_of p)))) (is_ds ∙ definitions_are (walk p))
        ∙ map-after (numbered_definition (all_names p (index_of p))) (spelled_define p) (flat_defines (walk p))

  -- the conditions of a kind in the walk
  pub conditions_whole : (k : CondKind) (es : List Expr) → es ≡ flat_map (conditions_of p k) (flat_walk p) → es ≡ conds p (index_of p) (walk p) k
  unfolding flat_walk flat_index
  conditions_whole k es is = is ∙ conditions_are k (walk p)

  -- the assignments of a form in the walk
  pub assigns_whole : (k : When) (xs : List Assign) → xs ≡ flat_map (assigns_of p k) (flat_walk p) → xs ≡ assigns p (index_of p) (walk p) k
  unfolding flat_walk flat_index
  assigns_whole k xs is = is ∙ assigns_are k (walk p)

-- a model from its lists
abbrev pub with_lists : List (List ℕ) → List Var → List Define → List Expr → List Expr → List Assign → List Assign → List Assign → List Expr → List Expr → List Expr → Model
with_lists ns vs d i v n f x t g s = record { names = ns; vars = vs; defines = d; inits = i; invars = v; nows = n; firsts = f; nexts = x; trans = t; fair = g; specs = s }

-- equal lists make equal models
pub same_model : (m : Model) (ns : List (List ℕ)) (vs : List Var) (d : List Define) (i v : List Expr) (n f x : List Assign) (t g s : List Expr)
    → ns ≡ m.names → vs ≡ m.vars → d ≡ m.defines → i ≡ m.inits → v ≡ m.invars → n ≡ m.nows → f ≡ m.firsts → x ≡ m.nexts → t ≡ m.trans → g ≡ m.fair → s ≡ m.specs
    → with_lists ns vs d i v n f x t g s ≡ m
same_model m ns vs d i v n f x t g s ens evs ed ei ev en ef ex et eg es =
    ap (λ (z : List (List ℕ)). with_lists z vs d i v n f x t g s) ens
    ∙ ap (λ (z : List Var). with_lists m.names z d i v n f x t g s) evs
    ∙ ap (λ (z : List Define). with_lists m.names m.vars z i v n f x t g s) ed
    ∙ ap (λ (z : List Expr). with_lists m.names m.vars m.defines z v n f x t g s) ei
    ∙ ap (λ (z : List Expr). with_lists m.names m.vars m.defines m.inits z n f x t g s) ev
    ∙ ap (λ (z : List Assign). with_lists m.names m.vars m.defines m.inits m.invars z f x t g s) en
    ∙ ap (λ (z : List Assign). with_lists m.names m.vars m.defines m.inits m.invars m.nows z x t g s) ef
    ∙ ap (λ (z : List Assign). with_lists m.names m.vars m.defines m.inits m.invars m.nows m.firsts z t g s) ex
    ∙ ap (λ (z : List Expr). with_lists m.names m.vars m.defines m.inits m.invars m.nows m.firsts m.nexts z g s) et
    ∙ ap (λ (z : List Expr). with_lists m.names m.vars m.defines m.inits m.invars m.nows m.firsts m.nexts m.trans z s) eg
    ∙ ap (λ (z : List Expr). with_lists m.names m.vars m.defines m.inits m.invars m.nows m.firsts m.nexts m.trans m.fair z) es

-- ---- limits

-- there are as many variables as flat variables
pub variables_count : (p : Program) (vs : List Variable) → vs ≡ flat_map (variables_of p) (flat_walk p) → length vs ≡ length (flat_vars (walk p))
unfolding flat_walk
variables_count p vs is = ap length (is ∙ variables_are p (walk p)) ∙ length-map (flat_vars (walk p)) (spelled_variable p)

-- there are as many DEFINEs as flat DEFINEs
pub definitions_count : (p : Program) (ds : List Definition) → ds ≡ flat_map (definitions_of p) (flat_walk p) → length ds ≡ length (flat_defines (walk p))
unfolding flat_walk
definitions_count p ds is = ap length (is ∙ definitions_are p (walk p)) ∙ length-map (flat_defines (walk p)) (spelled_define p)
