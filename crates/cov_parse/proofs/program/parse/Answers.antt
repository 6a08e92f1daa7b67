use Rattle.std.proofs.Common.{rules, ◌≡◌, length, None, refl, sym, ap, ◌∙◌, arith}
use Rattle.std.proofs.lemmas.Grind.{common_steps}
use Rattle.cov_syntax.specs.Lexemes.{names_of, lexemes_of}
use Rattle.cov_syntax.specs.declared.fault.Refused.TheVariants as refused
use Rattle.cov_parse.proofs.ProgramLemmas.{sizes, reads_text, is_shallow, is_program, no_fault, stop_is_first, deep_is_first}
use Rattle.cov_parse.proofs.program.parse.Goals as goal

pub lexemes-requires : goal.lexemes-requires
lexemes-requires c = let s = sizes c.args.text.now c.args.tokens.now c.requires in omega (arith, s.1, ap length c.as_slice.ensures)

pub deep_fault-requires : goal.deep_fault-requires
deep_fault-requires c = let s = sizes c.args.text.now c.args.tokens.now c.requires in omega (arith, s.0)

pub refused-requires : goal.refused-requires
refused-requires c = let s = sizes c.args.text.now c.args.tokens.now c.requires in omega (arith, s.0)

pub returns-in-Ok-program-clause-found : goal.returns-in-Ok-program-clause-found
returns-in-Ok-program-clause-found c =
    let names_are = c.in_ok-names.ensures.0 ∙ ap (names_of c.args.text.now) c.as_slice.ensures in
    let lexemes_are = c.as_slice-lexemes.ensures ∙ c.in_ok-names.ensures.1 ∙ ap (lexemes_of c.args.text.now) c.as_slice.ensures in
    let none : c.in-Ok.deep ≡ None = first_of (search rules, grind (arith, common_steps)) in (
      reads_text c.args.text.now c.args.tokens.now c.in_ok-names.names c.as_slice-lexemes.result.now names_are lexemes_are c.in-Ok-program.modules c.in-Ok-program.ensures,
      is_shallow c.args.text.now c.args.tokens.now c.in_ok-names.names c.as_slice-lexemes.result.now names_are lexemes_are c.in-Ok.deep c.in-Ok.ensures none,
    )

pub returns-in-Ok-program-clause-only : goal.returns-in-Ok-program-clause-only
returns-in-Ok-program-clause-only c = λ p reads shallow.
    let names_are = c.in_ok-names.ensures.0 ∙ ap (names_of c.args.text.now) c.as_slice.ensures in
    let lexemes_are = c.as_slice-lexemes.ensures ∙ c.in_ok-names.ensures.1 ∙ ap (lexemes_of c.args.text.now) c.as_slice.ensures in
    is_program c.args.text.now c.args.tokens.now c.in_ok-names.names c.as_slice-lexemes.result.now names_are lexemes_are c.in-Ok-program.modules c.in-Ok-program.ensures p reads

pub returns-in-Err-program-clause-only : goal.returns-in-Err-program-clause-only
returns-in-Err-program-clause-only c = λ p reads shallow.
    let names_are = c.in_ok-names.ensures.0 ∙ ap (names_of c.args.text.now) c.as_slice.ensures in
    let lexemes_are = c.as_slice-lexemes.ensures ∙ c.in_ok-names.ensures.1 ∙ ap (lexemes_of c.args.text.now) c.as_slice.ensures in
    rw (c.refused.ensures, no_fault c.args.text.now c.args.tokens.now c.in_ok-names.names c.as_slice-lexemes.result.now names_are lexemes_are c.in-Err-program.error c.in-Err-program.ensures p reads) refl

pub returns-in-Some-clause-fault : goal.returns-in-Some-clause-fault
returns-in-Some-clause-fault c = λ f e.
    let names_are = c.in_ok-names.ensures.0 ∙ ap (names_of c.args.text.now) c.as_slice.ensures in
    let lexemes_are = c.as_slice-lexemes.ensures ∙ c.in_ok-names.ensures.1 ∙ ap (lexemes_of c.args.text.now) c.as_slice.ensures in
    let is : c.deep_fault.result ≡ refused.Fault f = cc in
    deep_is_first c.args.text.now c.args.tokens.now c.in_ok-names.names c.as_slice-lexemes.result.now names_are lexemes_are c.in-Some.left (sym c.in-Some.is ∙ c.in-Ok.ensures) c.deep_fault.result c.deep_fault.ensures f is

pub returns-in-Err-program-clause-fault : goal.returns-in-Err-program-clause-fault
returns-in-Err-program-clause-fault c = λ f e.
    let names_are = c.in_ok-names.ensures.0 ∙ ap (names_of c.args.text.now) c.as_slice.ensures in
    let lexemes_are = c.as_slice-lexemes.ensures ∙ c.in_ok-names.ensures.1 ∙ ap (lexemes_of c.args.text.now) c.as_slice.ensures in
    let none : c.in-Ok.deep ≡ None = first_of (search rules, grind (arith, common_steps)) in
    let is : c.refused.result ≡ refused.Fault f = cc in
    stop_is_first c.args.text.now c.args.tokens.now c.in_ok-names.names c.as_slice-lexemes.result.now names_are lexemes_are c.in-Err-program.error c.in-Err-program.ensures c.in-Ok.deep c.in-Ok.ensures none f (sym c.refused.ensures ∙ is)
