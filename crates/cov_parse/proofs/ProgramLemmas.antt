-- The text as a whole, from the laws of the grammar.
use Rattle.std.proofs.Common.{◌≡◌, ◌≢◌, ℕ, zero, suc, ◌+◌, ◌-◌, ◌≤◌, Bool, true, false, cond, ltb, List, [], ◌∷◌, length, Option, Some, None, Result, Ok, Err, refl, sym, ap, subst, ◌∙◌, arith}
use Rattle.std.specs.Prelude.{IfOk}
use Rattle.std.proofs.lemmas.Bool.{ltb-false}
use Rattle.std.proofs.lemmas.Result.{IfOk-at_ok, IfOk-weaker}
use Rattle.cov_syntax.specs.declared.fault.FaultKind.TheVariants as fault
use Rattle.cov_syntax.specs.declared.fault.ModelFault.{ModelFault}
use Rattle.cov_syntax.specs.declared.fault.Refused.{Refused}
use Rattle.cov_syntax.specs.declared.fault.Refused.TheVariants as refused
use Rattle.cov_syntax.specs.declared.program.ModuleTree.{ModuleTree}
use Rattle.cov_syntax.specs.declared.program.Program.{Program}
use Rattle.cov_syntax.specs.declared.token.Token.{Token}
use Rattle.cov_syntax.specs.Lexemes.{Lexemes, names_of, lexemes_of}
use Rattle.cov_syntax.specs.Limits.{deep, IsShallow}
use Rattle.cov_syntax.specs.Programs.{ReadsModules, ReadsText}
use Rattle.cov_syntax.specs.Tokens.{Text, Front, with_token, with_front, front, tokens_from, fault_at, or_bad_byte, longest_text, tokens}
use Rattle.cov_grammar.specs.Steps.{Stop}
use Rattle.cov_grammar.specs.Modules.{program}
use Rattle.cov_grammar.proofs.ModuleSoundness.{program_sound}
use Rattle.cov_grammar.proofs.ModuleCompleteness.{program_answers}
use Rattle.cov_first_fault.specs.FirstFault.{IsFirstFault}
use Rattle.cov_first_fault.specs.Stops.{deep_fault}
use Rattle.cov_first_fault.proofs.FirstFaults.{stop_fault_is, deep_fault_is}
use Rattle.cov_parse.specs.Faults.{refusal}
use Rattle.cov_parse.specs.declared.error.ParseError.{ParseError}
use Rattle.cov_parse.specs.declared.error.ParseError.TheVariants as errors
use Rattle.cov_parse.specs.Gives.{Fails}

-- ---- how many tokens there are

token_few : (t : Token) (r : Result (List Token) ℕ) (len : ℕ) → IfOk r (λ ts. length ts ≤ len) → IfOk (with_token t r) (λ ts. length ts ≤ suc len)
token_few t (Ok ts) len h = omega arith
token_few t (Err at) len h = tt

front_few : (at : ℕ) (f : Front) (after : ℕ → Result (List Token) ℕ) (len : ℕ) → ((n : ℕ) → IfOk (after n) (λ ts. length ts ≤ len)) → IfOk (with_front at f after) (λ ts. length ts ≤ suc len)
front_few at (Front.blank n) after len h = IfOk-weaker (after n) (λ (ts : List Token). length ts ≤ len) (λ (ts : List Token). length ts ≤ suc len) (λ ts le. omega arith) (h n)
front_few at (Front.token kind n) after len h = token_few _ (after n) len (h n)
front_few at Front.nothing after len h = tt

few_from : (passed at : ℕ) (z : Text) → IfOk (tokens_from passed at z) (λ ts. length ts ≤ length z)
unfolding tokens_from
few_from passed at [] = omega arith
few_from (suc passed) at (b ∷ z) = IfOk-weaker (tokens_from passed (at + 1) z) (λ (ts : List Token). length ts ≤ length z) (λ (ts : List Token). length ts ≤ length (b ∷ z)) (λ ts le. omega arith) (few_from passed (at + 1) z)
few_from zero at (b ∷ z) = front_few at (front (b ∷ z)) (λ n. tokens_from (n - 1) (at + 1) z) (length z) (λ n. few_from (n - 1) (at + 1) z)

or_bad_few : (r : Result (List Token) ℕ) (len : ℕ) → IfOk r (λ ts. length ts ≤ len) → IfOk (or_bad_byte r) (λ ts. length ts ≤ len)
or_bad_few (Ok ts) len h = h
or_bad_few (Err at) len h = tt

-- a text that has tokens is short, and has at least as many bytes
pub sizes : (text : List ℕ) (ts : List Token) → tokens text ≡ Ok ts → (length text ≤ 1048576) × (length ts ≤ 1048576)
unfolding tokens
sizes text ts e = go (ltb longest_text (length text)) refl e
  where
    go : (b : Bool) → ltb longest_text (length text) ≡ b → cond b (Err (fault_at fault.FileTooLong 0 0)) (or_bad_byte (tokens_from 0 0 text)) ≡ Ok ts → (length text ≤ 1048576) × (length ts ≤ 1048576)
    go true g h = absurd cc
    go false g h =
        let short : length text ≤ 1048576 = ltb-false longest_text (length text) g in
        let few : length ts ≤ length text = IfOk-at_ok (λ (l : List Token). length l ≤ length text) h (or_bad_few (tokens_from 0 0 text) (length text) (few_from 0 0 text)) in
        (short, omega arith)

-- ---- the program

abbrev done : List ModuleTree → Result (List ModuleTree) Stop
done trees = Ok trees

trees_are : (a b : List ModuleTree) → done a ≡ done b → a ≡ b
trees_are a b e = cc

faults_are : (f g : ModelFault) → refused.Fault f ≡ refused.Fault g → f ≡ g
faults_are f g e = cc

module _ (text : List ℕ) (ts : List Token) (names : List (List ℕ)) (xs : Lexemes) (names_are : names ≡ names_of text ts) (xs_are : xs ≡ lexemes_of text ts) where
  pub reads_text : (trees : List ModuleTree) → program xs ≡ Ok trees → ReadsText text ts (record { names = names; modules = trees })
  reads_text trees is = record {
    names = names_are;
    modules = subst (λ (ys : Lexemes). ReadsModules ys trees []) xs_are (IfOk-at_ok (λ (found : List ModuleTree). ReadsModules xs found []) is (program_sound xs));
  }

  pub is_shallow : (found : Option ℕ) → found ≡ deep false (0 ∷ []) xs → found ≡ None → IsShallow (lexemes_of text ts)
  is_shallow found is none = ap (λ (ys : Lexemes). deep false (0 ∷ []) ys) (sym xs_are) ∙ sym is ∙ none

  answer : (p : Program) → ReadsText text ts p → program xs ≡ done p.modules
  answer p reads = program_answers (subst (λ (ys : Lexemes). ReadsModules ys p.modules []) (sym xs_are) reads.modules)

  pub is_program : (trees : List ModuleTree) → program xs ≡ Ok trees → (p : Program) → ReadsText text ts p → record { names = names; modules = trees } ≡ p
  is_program trees is p reads =
      let same_names : names ≡ p.names = names_are ∙ sym reads.names in
      let same_trees : trees ≡ p.modules = trees_are trees p.modules (sym is ∙ answer p reads) in
      λ i. record { names = same_names i; modules = same_trees i }

  pub no_fault : (error : ParseError) → Fails error (program xs) → (p : Program) → ReadsText text ts p → error ≡ errors.Memory
  no_fault errors.Memory failed p reads = refl
  no_fault (errors.Unread n) failed p reads = let h = answer p reads in absurd cc
  no_fault (errors.TooGreat n) failed p reads = let h = answer p reads in absurd cc

  pub not_deep : (left : ℕ) → Some left ≡ deep false (0 ∷ []) xs → IsShallow (lexemes_of text ts) → ⊥
  not_deep left is shallow = let h : Some left ≡ None = is ∙ ap (λ (ys : Lexemes). deep false (0 ∷ []) ys) xs_are ∙ shallow in cc

  first : (f g : ModelFault) → IsFirstFault (length text) xs f → refused.Fault f ≡ refused.Fault g → IsFirstFault (length text) (lexemes_of text ts) g
  first f g is e = subst (λ (ys : Lexemes). IsFirstFault (length text) ys g) xs_are (subst (λ (h : ModelFault). IsFirstFault (length text) xs h) (faults_are f g e) is)

  pub stop_is_first : (error : ParseError) → Fails error (program xs) → (found : Option ℕ) → found ≡ deep false (0 ∷ []) xs → found ≡ None
      → (f : ModelFault) → refusal text xs error ≡ refused.Fault f → IsFirstFault (length text) (lexemes_of text ts) f
  stop_is_first errors.Memory failed found is none f e = absurd cc
  stop_is_first (errors.Unread n) failed found is none f e = first _ f (stop_fault_is (length text) xs (Stop.unread n) failed (sym is ∙ none)) e
  stop_is_first (errors.TooGreat n) failed found is none f e = first _ f (stop_fault_is (length text) xs (Stop.too_great n) failed (sym is ∙ none)) e

  pub deep_is_first : (left : ℕ) → Some left ≡ deep false (0 ∷ []) xs → (r : Refused) → (r ≢ refused.Memory → r ≡ refused.Fault (deep_fault (length text) xs left))
      → (f : ModelFault) → r ≡ refused.Fault f → IsFirstFault (length text) (lexemes_of text ts) f
  deep_is_first left is r h f e = first _ f (deep_fault_is (length text) xs left (sym is)) (sym (h (λ g. let i : refused.Memory ≡ refused.Fault f = sym g ∙ e in cc)) ∙ e)
