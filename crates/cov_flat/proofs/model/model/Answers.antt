use Rattle.std.proofs.Common.{◌≡◌, ◌≤◌, ◌∙◌, ◌++◌, List, length, map, sym, ap, subst, arith}
use Rattle.std.specs.Prelude.{fold}
use Rattle.cov_syntax.specs.declared.program.When.TheVariants as when
use Rattle.cov_syntax.specs.declared.program.CondKind.TheVariants as cond_kind
use Rattle.cov_syntax.specs.declared.program.Program.{Program}
use Rattle.cov_modules.specs.FlatLists.{added, all_names, index_of, flat_model}
use Rattle.cov_flat.specs.declared.variables.Variable.{Variable}
use Rattle.cov_flat.specs.declared.definitions.Definition.{Definition}
use Rattle.cov_flat.specs.Reading.{flat_index}
use Rattle.cov_flat.specs.Naming.{variable_text, definition_text}
use Rattle.cov_flat.proofs.ModelLemmas.{variables_count, definitions_count, names_are, vars_are, defines_are, conditions_whole, assigns_whole, same_model}
use Rattle.cov_flat.proofs.model.model.Goals as goal

pub all_names-requires-clause-variables : goal.all_names-requires-clause-variables
all_names-requires-clause-variables c =
    subst (λ (vs : List Variable). length vs ≤ 4096) (sym c.as_slice.ensures.value)
    (omega (arith, variables_count c.args.p c.in_ok-variables.variables.items c.in_ok-variables.ensures, c.requires.scopes.stops.few_vars))

pub all_names-requires-clause-definitions : goal.all_names-requires-clause-definitions
all_names-requires-clause-definitions c =
    subst (λ (ds : List Definition). length ds ≤ 4096) (sym c.as_slice-2.ensures.value)
    (omega (arith, definitions_count c.args.p c.in_ok-definitions.definitions.items c.in_ok-definitions.ensures, c.requires.scopes.stops.few_defines))

pub returns : goal.returns
unfolding flat_index
returns c =
    let p : Program = c.args.p in
    let vs : List Variable = c.in_ok-variables.variables.items in
    let ds : List Definition = c.in_ok-definitions.definitions.items in
    let names : c.in_ok-names.names ≡ all_names p (index_of p)
    = c.in_ok-names.ensures
    ∙ ap (λ (xs : List Variable). fold added p.names (map variable_text xs ++ map definition_text c.as_slice-2.result.now)) c.as_slice.ensures.value
    ∙ ap (λ (xs : List Definition). fold added p.names (map variable_text vs ++ map definition_text xs)) c.as_slice-2.ensures.value
    ∙ names_are p vs ds c.in_ok-variables.ensures c.in_ok-definitions.ensures in
    same_model (flat_model p) c.in_ok-names.names c.in_ok-vars.vars c.in_ok-defines.defines c.in_ok-inits.inits c.in_ok-invars.invars
    c.in_ok-nows.nows c.in_ok-firsts.firsts c.in_ok-nexts.nexts c.in_ok-trans.trans c.in_ok-fair.fair c.in_ok-specs.specs
    names
    (c.in_ok-vars.ensures ∙ vars_are p vs ds c.in_ok-variables.ensures c.in_ok-definitions.ensures c.in_ok-names.names names)
    (c.in_ok-defines.ensures ∙ defines_are p vs ds c.in_ok-variables.ensures c.in_ok-definitions.ensures c.in_ok-names.names names)
    (conditions_whole p cond_kind.Init c.in_ok-inits.inits c.in_ok-inits.ensures)
    (conditions_whole p cond_kind.Invar c.in_ok-invars.invars c.in_ok-invars.ensures)
    (assigns_whole p when.Now c.in_ok-nows.nows c.in_ok-nows.ensures)
    (assigns_whole p when.First c.in_ok-firsts.firsts c.in_ok-firsts.ensures)
    (assigns_whole p when.Next c.in_ok-nexts.nexts c.in_ok-nexts.ensures)
    (conditions_whole p cond_kind.Trans c.in_ok-trans.trans c.in_ok-trans.ensures)
    (conditions_whole p cond_kind.Fair c.in_ok-fair.fair c.in_ok-fair.ensures)
    (conditions_whole p cond_kind.Spec c.in_ok-specs.specs c.in_ok-specs.ensures)
