-- Each program that a text is read as can be flattened.
use Rattle.std.proofs.Common.{◌≡◌, ◌≤◌, ℕ, Bool, true, nat_lt, List, [], ◌∷◌, ◌++◌, length, map, Ok, refl, sym, subst, ◌∙◌}
use Rattle.std.specs.List.{AllByRecursion, list_all, flat_map}
use Rattle.std.proofs.lemmas.Bool.{and_from}
use Rattle.std.proofs.lemmas.List.Folds.{list_all-append, list_all-map}
use Rattle.cov_model.specs.Names.{is_name}
use Rattle.cov_syntax.specs.declared.lexeme.Terminal.TheVariants as k
use Rattle.cov_syntax.specs.declared.marks.Mark.TheVariants as m
use Rattle.cov_syntax.specs.declared.program.ModuleTree.{ModuleTree}
use Rattle.cov_syntax.specs.declared.program.Program.{Program}
use Rattle.cov_syntax.specs.declared.program.Section.{Section}
use Rattle.cov_syntax.specs.declared.program.Spelled.{Spelled}
use Rattle.cov_syntax.specs.declared.token.Token.{Token}
use Rattle.cov_syntax.specs.declared.tree.Expr.{Expr}
use Rattle.cov_syntax.specs.Lexemes.{Lexemes, names_of}
use Rattle.cov_syntax.specs.Reading.{ReadsSeparated}
use Rattle.cov_syntax.specs.Programs.{ReadsSpelled, ReadsModule, ReadsModules, ReadsText}
use Rattle.cov_syntax.specs.Tokens.{longest_text, tokens}
use Rattle.cov_modules.specs.Modules.{declared, Declaration, instance_of, symbols_of}
use Rattle.cov_modules.specs.Conditions.{expressions_of, module_expressions, cited, names_cited, is_unflat, has_path, has_values, IsFlattenable}
use Rattle.cov_programs.proofs.NameLemmas.{all_are_names, all_placed, not_too_many}
use Rattle.cov_programs.proofs.KnownLemmas.{Known, Passes, some_pass, known_lexemes, separated_passes, in_parens_passes, spelled_passes}
use Rattle.cov_programs.proofs.SectionLemmas.{IsReadSection, sections_read, list_all-flat_map}

module _ (bound : ℕ) where
  abbrev below : ℕ → Bool
  below i = nat_lt i bound

  abbrev spelled_below : Spelled → Bool
  spelled_below x = nat_lt x.name bound

  -- what flattening asks of a module
  record IsReadModule (m : ModuleTree) : Type 0 where
    cited_there : list_all below (names_cited m) ≡ true
    unflat : list_all is_unflat (module_expressions m) ≡ true
    targets : list_all has_path m.sections ≡ true
    enumerations : list_all has_values m.sections ≡ true

  -- a test that each section that is read passes
  all_sections : (test : Section → Bool) → ((s : Section) → IsReadSection bound s → test s ≡ true) → (ss : List Section) → AllByRecursion (IsReadSection bound) ss → list_all test ss ≡ true
  all_sections test h [] all = refl
  all_sections test h (s ∷ ss) all = and_from (test s) (list_all test ss) (h s all.0) (all_sections test h ss all.1)

  -- the same of what each section has
  all_parts : {A : Type 0} (test : A → Bool) (f : Section → List A) → ((s : Section) → IsReadSection bound s → list_all test (f s) ≡ true)
      → (ss : List Section) → AllByRecursion (IsReadSection bound) ss → list_all test (flat_map f ss) ≡ true
  all_parts test f h ss all = list_all-flat_map test f ss (all_sections (λ s. list_all test (f s)) h ss all)

  -- the names of formals are there
  formals_below : Passes bound (some_pass spelled_below) (ReadsSeparated (k.Mark m.Comma) ReadsSpelled)
  formals_below xs ys found p known = separated_passes bound spelled_below ReadsSpelled (spelled_passes bound) _ p known

  -- two lists of names that are there, and four
  joined : (is js : List ℕ) → list_all below is ≡ true → list_all below js ≡ true → list_all below (is ++ js) ≡ true
  joined is js p q = list_all-append below is js ∙ and_from (list_all below is) (list_all below js) p q

  four : (is js ks ls : List ℕ) → list_all below is ≡ true → list_all below js ≡ true → list_all below ks ≡ true → list_all below ls ≡ true → list_all below (is ++ js ++ ks ++ ls) ≡ true
  four is js ks ls p q r s = joined (is ++ js ++ ks) ls (joined (is ++ js) ks (joined is js p q) r) s

  -- a module whose name, formals and sections are as they are read
  module_is : (name : Spelled) (formals : List Spelled) (ss : List Section) → spelled_below name ≡ true → list_all spelled_below formals ≡ true → AllByRecursion (IsReadSection bound) ss
      → IsReadModule (record { name = name; formals = formals; sections = ss })
  module_is name formals ss e f all =
      let own : list_all spelled_below (name ∷ formals ++ flat_map declared ss) ≡ true =
      and_from _ _ e (list_all-append spelled_below formals (flat_map declared ss) ∙ and_from _ _ f (all_parts spelled_below declared (λ s h. h.declared_there) ss all)) in
      let own_names : list_all below (map (λ (x : Spelled). x.name) (name ∷ formals ++ flat_map declared ss)) ≡ true =
      list_all-map below (λ (x : Spelled). x.name) (name ∷ formals ++ flat_map declared ss) ∙ own in
      let modules : list_all below (map (λ (d : Declaration). d.from.name) (flat_map instance_of ss)) ≡ true =
      list_all-map below (λ (d : Declaration). d.from.name) (flat_map instance_of ss)
      ∙ all_parts (λ (d : Declaration). below d.from.name) instance_of (λ s h. h.modules_there) ss all in
      let symbols : list_all below (flat_map symbols_of ss) ≡ true = all_parts below symbols_of (λ s h. h.symbols_there) ss all in
      let expressions : list_all below (flat_map cited (flat_map expressions_of ss)) ≡ true =
      list_all-flat_map below cited (flat_map expressions_of ss) (all_parts (λ (e : Expr). list_all below (cited e)) expressions_of (λ s h. h.cited_there) ss all) in
      record {
        cited_there = four (map (λ (x : Spelled). x.name) (name ∷ formals ++ flat_map declared ss)) (map (λ (d : Declaration). d.from.name) (flat_map instance_of ss)) (flat_map symbols_of ss)
            (flat_map cited (flat_map expressions_of ss)) own_names modules symbols expressions;
        unflat = all_parts is_unflat expressions_of (λ s h. h.unflat) ss all;
        targets = all_sections has_path (λ s h. h.target) ss all;
        enumerations = all_sections has_values (λ s h. h.values) ss all;
      }

  module_read : {xs ys : Lexemes} {m : ModuleTree} → ReadsModule xs m ys → Known bound xs → IsReadModule m × Known bound ys
  module_read (ReadsModule.module_of {name = name} {formals = formals} {sections = ss} e p q r) known =
      let h = spelled_passes bound _ _ name p known.1 in
      let g = in_parens_passes bound spelled_below (ReadsSeparated (k.Mark m.Comma) ReadsSpelled) formals_below q h.1 in
      let s = sections_read bound r g.1 in
      (module_is name formals ss h.0 g.0 s.0, s.1)

  modules_read : {xs ys : Lexemes} {ms : List ModuleTree} → ReadsModules xs ms ys → Known bound xs → AllByRecursion IsReadModule ms
  modules_read (ReadsModules.last_module p) known = ((module_read p known).0, tt)
  modules_read (ReadsModules.more_modules p q) known = let h = module_read p known in (h.0, modules_read q h.1)

  -- a test that each module that is read passes
  all_modules : (test : ModuleTree → Bool) → ((m : ModuleTree) → IsReadModule m → test m ≡ true) → (ms : List ModuleTree) → AllByRecursion IsReadModule ms → list_all test ms ≡ true
  all_modules test h [] all = refl
  all_modules test h (m ∷ ms) all = and_from (test m) (list_all test ms) (h m all.0) (all_modules test h ms all.1)

-- a program with few names, each a name, and with modules as they are read
is_flattenable : (p : Program) → length p.names ≤ longest_text → list_all is_name p.names ≡ true → AllByRecursion (IsReadModule (length p.names)) p.modules → IsFlattenable p
is_flattenable p few names all = record {
  few_names = few;
  names = names;
  cited_there = all_modules (length p.names) (λ (m : ModuleTree). list_all (λ i. nat_lt i (length p.names)) (names_cited m)) (λ m h. h.cited_there) p.modules all;
  unflat = all_modules (length p.names) (λ (m : ModuleTree). list_all is_unflat (module_expressions m)) (λ m h. h.unflat) p.modules all;
  targets = all_modules (length p.names) (λ (m : ModuleTree). list_all has_path m.sections) (λ m h. h.targets) p.modules all;
  enumerations = all_modules (length p.names) (λ (m : ModuleTree). list_all has_values m.sections) (λ m h. h.enumerations) p.modules all;
}

-- each program that a text is read as can be flattened
pub IsFlattenable-read : (text : List ℕ) (found : List Token) (p : Program) → tokens text ≡ Ok found → ReadsText text found p → IsFlattenable p
IsFlattenable-read text found p e reads =
    let back : names_of text found ≡ p.names = sym reads.names in
    is_flattenable p
    (subst (λ (names : List (List ℕ)). length names ≤ longest_text) back (not_too_many text found e))
    (subst (λ (names : List (List ℕ)). list_all is_name names ≡ true) back (all_are_names text found e))
    (subst (λ (names : List (List ℕ)). AllByRecursion (IsReadModule (length names)) p.modules) back
    (modules_read (length (names_of text found)) reads.modules (known_lexemes text (names_of text found) found (all_placed text found))))
