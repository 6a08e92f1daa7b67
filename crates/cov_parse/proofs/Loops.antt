-- The function's recursion beside the loops and tests of the code.
use Rattle.std.proofs.Common.{◌≡◌, ◌≢◌, ℕ, zero, suc, ◌+◌, ◌-◌, ◌<◌, ◌≤◌, true, false, eqb, List, [], ◌∷◌, ◌++◌, length, Some, None, Result, Ok, Err, inl, inr, refl, ap, ◌∙◌, arith}
use Rattle.std.proofs.lemmas.Bool.Decides.{eqb_tells}
use Rattle.cov_syntax.specs.declared.lexeme.Terminal.{Terminal}
use Rattle.cov_syntax.specs.declared.lexeme.Terminal.TheVariants as k
use Rattle.cov_syntax.specs.declared.words.Word.TheVariants as w
use Rattle.cov_syntax.specs.declared.lexeme.Block.{Block}
use Rattle.cov_syntax.specs.declared.program.ModuleTree.{ModuleTree}
use Rattle.cov_syntax.specs.declared.program.Section.{Section}
use Rattle.cov_syntax.specs.declared.tree.Op2.{Op2}
use Rattle.cov_syntax.specs.declared.tree.Node.TheVariants as n
use Rattle.cov_syntax.specs.declared.tree.Expr.{Expr}
use Rattle.cov_syntax.specs.declared.tree.Branch.{Branch}
use Rattle.cov_syntax.specs.Lexemes.{Lexemes, kind, next, same, at}
use Rattle.cov_grammar.specs.Steps.{Stop, Parser, ◌>>=◌, separated, many}
use Rattle.cov_grammar.specs.Expressions.{joint, implication, operated, turn, climb, chain, prefixed, branch, branches, primary, level, expr}
use Rattle.cov_grammar.specs.Modules.{entry, entry_after, begins_entry, begins_section, section, sections, module_tree, modules}
use Rattle.cov_parse.specs.declared.error.ParseError.{ParseError}
use Rattle.cov_parse.specs.declared.error.ParseError.TheVariants as errors
use Rattle.cov_parse.specs.Gives.{Fails}

not_eqb : (a b : ℕ) → a ≢ b → eqb a b ≡ false
not_eqb a b h = elim (eqb_tells a b) [ inl s ↦ absurd (h s.1) | inr s ↦ s.0 ]

pub at_level_1 : (d l : ℕ) (xs : Lexemes) → d ≢ 0 → l ≡ 1 → implication (expr (d - 1)) xs ≡ expr d l xs
unfolding expr level
at_level_1 zero l xs some e = absurd (some refl)
at_level_1 (suc d) l xs some e = let q : suc d - 1 ≡ d = omega arith in rw (q, e) refl

pub at_level_5 : (d l : ℕ) (xs : Lexemes) → d ≢ 0 → l ≡ 5 → prefixed (expr (d - 1)) xs ≡ expr d l xs
unfolding expr level
at_level_5 zero l xs some e = absurd (some refl)
at_level_5 (suc d) l xs some e = let q : suc d - 1 ≡ d = omega arith in rw (q, e) refl

pub at_level_12 : (d l : ℕ) (xs : Lexemes) → d ≢ 0 → l ≡ 12 → primary (expr (d - 1)) xs ≡ expr d l xs
unfolding expr level
at_level_12 zero l xs some e = absurd (some refl)
at_level_12 (suc d) l xs some e = let q : suc d - 1 ≡ d = omega arith in rw (q, e) refl

pub at_chain : (d l : ℕ) (xs : Lexemes) → d ≢ 0 → l ≢ 1 → l ≢ 5 → l ≢ 12 → chain (expr (d - 1)) l xs ≡ expr d l xs
unfolding expr level
at_chain zero l xs some a b c = absurd (some refl)
at_chain (suc d) l xs some a b c = let q : suc d - 1 ≡ d = omega arith in rw (q, not_eqb l 1 a, not_eqb l 5 b, not_eqb l 12 c) refl

-- steps one after another
bind_again : {A B C : Type 0} (r : Result A Stop) (f : A → Result B Stop) (g : B → Result C Stop) → (r >>= λ x. f x >>= g) ≡ ((r >>= f) >>= g)
bind_again (Ok x) f g = refl
bind_again (Err e) f g = refl

-- one more item of a list with separators
pub separated_step : {A : Type 0} (separator : Terminal) (item : Parser A) (count done : ℕ) (found new : List A) (xs : Lexemes) (a : A) (ys zs : Lexemes) → done < count → item xs ≡ Ok (a, ys)
    → same (kind ys) separator ≡ true → zs ≡ next ys → new ≡ found ++ a ∷ [] → separated separator item (count - done) found xs ≡ separated separator item (count - (done + 1)) new zs
unfolding separated
separated_step separator item count done before new xs a ys zs below read goes on put =
    let e : count - done ≡ suc (count - (done + 1)) = omega arith in
    rw (e, read, goes, put, on) refl

module _ (p : ℕ → Parser Expr) where
  pub branches_step : (count done : ℕ) (found new : List Branch) (xs : Lexemes) (a : Branch) (ys : Lexemes) → done < count → branch p xs ≡ Ok (a, ys)
      → same (kind ys) (k.Word w.Esac) ≡ false → new ≡ found ++ a ∷ [] → branches p (count - done) found xs ≡ branches p (count - (done + 1)) new ys
  unfolding branches
  branches_step count done found new xs a ys below read goes put =
      let e : count - done ≡ suc (count - (done + 1)) = omega arith in
      rw (e, read, goes, put) refl

  one_turn : (m l : ℕ) (xs : Lexemes) (a : Expr) (ys : Lexemes) (op : Op2) → joint l ys ≡ Some op
      → climb p (suc m) l xs a ys ≡ (operated p l xs a ys op >>= λ c. climb p m l xs c.0 c.1)
  unfolding climb
  one_turn m l xs a ys op joins = ap (λ o. turn p (climb p m l xs) l xs a ys o) joins
      ∙ bind_again (p (l + 1) (next ys)) (λ b. Ok (at (n.Two op a b.0) xs b.1, b.1)) (λ c. climb p m l xs c.0 c.1)

  -- a turn that went on, or failed
  pub climb_step : (count done l : ℕ) (xs : Lexemes) (a : Expr) (ys : Lexemes) (op : Op2) (c : Expr) (zs : Lexemes) → done < count → joint l ys ≡ Some op → operated p l xs a ys op ≡ Ok (c, zs)
      → climb p (count - done) l xs a ys ≡ climb p (count - (done + 1)) l xs c zs
  climb_step count done l xs a ys op c zs below joins read =
      let e : count - done ≡ suc (count - (done + 1)) = omega arith in
      ap (λ m. climb p m l xs a ys) e ∙ one_turn (count - (done + 1)) l xs a ys op joins ∙ ap (λ r. r >>= λ d. climb p (count - (done + 1)) l xs d.0 d.1) read

  climb_fails : (count done l : ℕ) (xs : Lexemes) (a : Expr) (ys : Lexemes) (op : Op2) (f : Stop) → done < count → joint l ys ≡ Some op → operated p l xs a ys op ≡ Err f
      → climb p (count - done) l xs a ys ≡ Err f
  climb_fails count done l xs a ys op f below joins read =
      let e : count - done ≡ suc (count - (done + 1)) = omega arith in
      ap (λ m. climb p m l xs a ys) e ∙ one_turn (count - (done + 1)) l xs a ys op joins ∙ ap (λ r. r >>= λ d. climb p (count - (done + 1)) l xs d.0 d.1) read

  pub chain_fails : (count done l : ℕ) (xs : Lexemes) (a : Expr) (ys : Lexemes) (op : Op2) (whole : Result (Expr × Lexemes) Stop) (e : ParseError) → done < count → joint l ys ≡ Some op
      → whole ≡ climb p (count - done) l xs a ys → Fails e (operated p l xs a ys op) → Fails e whole
  chain_fails count done l xs a ys op whole errors.Memory below joins is failed = tt
  chain_fails count done l xs a ys op whole (errors.Unread f) below joins is failed = is ∙ climb_fails count done l xs a ys op (Stop.unread f) below joins failed
  chain_fails count done l xs a ys op whole (errors.TooGreat f) below joins is failed = is ∙ climb_fails count done l xs a ys op (Stop.too_great f) below joins failed

  pub climb_ends : (count done l : ℕ) (xs : Lexemes) (a : Expr) (ys : Lexemes) → joint l ys ≡ None → climb p (count - done) l xs a ys ≡ Ok (a, ys)
  unfolding climb
  climb_ends count done l xs a ys none = go (count - done)
    where
      go : (m : ℕ) → climb p m l xs a ys ≡ Ok (a, ys)
      go zero = refl
      go (suc m) = rw none refl

  pub climb_stops : (count done l : ℕ) (xs : Lexemes) (a : Expr) (ys : Lexemes) → count ≤ done → climb p (count - done) l xs a ys ≡ Ok (a, ys)
  unfolding climb
  climb_stops count done l xs a ys over = let e : count - done ≡ 0 = omega arith in rw e refl

  pub chain_is : (l : ℕ) (xs : Lexemes) (a : Expr) (ys : Lexemes) → p (l + 1) xs ≡ Ok (a, ys) → chain p l xs ≡ climb p (length ys) l xs a ys
  unfolding chain
  chain_is l xs a ys read = rw read refl

-- ---- entries and sections, which are put to a list

pub list_fails : {A : Type 0} (e : ParseError) (r : Result (List A × Lexemes) Stop) (f : List A × Lexemes → Result (List A × Lexemes) Stop) (whole : Result (List A × Lexemes) Stop)
    → whole ≡ (r >>= f) → Fails e r → Fails e whole
list_fails errors.Memory r f whole is failed = tt
list_fails (errors.Unread n) r f whole is failed = is ∙ ap (λ x. x >>= f) failed
list_fails (errors.TooGreat n) r f whole is failed = is ∙ ap (λ x. x >>= f) failed

module _ (b : Block) where
  abbrev pub rest_of : ℕ → List Section × Lexemes → Result (List Section × Lexemes) Stop
  rest_of m x = many (begins_entry b) (entry b) m x.0 x.1

  pub many_turn : (count done : ℕ) (found : List Section) (xs : Lexemes) → done < count → begins_entry b (kind xs) ≡ true
      → many (begins_entry b) (entry b) (count - done) found xs ≡ (entry_after b found xs >>= rest_of (count - (done + 1)))
  unfolding many
  many_turn count done found xs below goes =
      let e : count - done ≡ suc (count - (done + 1)) = omega arith in
      rw (e, goes) (bind_again (entry b xs) (λ a. Ok (found ++ a.0 ∷ [], a.1)) (rest_of (count - (done + 1))))

  pub many_ends : (count done : ℕ) (found : List Section) (xs : Lexemes) → begins_entry b (kind xs) ≡ false → many (begins_entry b) (entry b) (count - done) found xs ≡ Ok (found, xs)
  unfolding many
  many_ends count done found xs ends = go (count - done)
    where
      go : (m : ℕ) → many (begins_entry b) (entry b) m found xs ≡ Ok (found, xs)
      go zero = refl
      go (suc m) = rw ends refl

  pub many_stops : (count done : ℕ) (found : List Section) (xs : Lexemes) → count ≤ done → many (begins_entry b) (entry b) (count - done) found xs ≡ Ok (found, xs)
  unfolding many
  many_stops count done found xs over = let e : count - done ≡ 0 = omega arith in rw e refl

abbrev pub other_sections : ℕ → List Section × Lexemes → Result (List Section × Lexemes) Stop
other_sections m x = sections m x.0 x.1

pub sections_turn : (count done : ℕ) (found : List Section) (xs : Lexemes) → done < count → begins_section (kind xs) ≡ true
    → sections (count - done) found xs ≡ (section found xs >>= other_sections (count - (done + 1)))
unfolding sections
sections_turn count done found xs below goes = let e : count - done ≡ suc (count - (done + 1)) = omega arith in rw (e, goes) refl

pub sections_end : (count done : ℕ) (found : List Section) (xs : Lexemes) → begins_section (kind xs) ≡ false → sections (count - done) found xs ≡ Ok (found, xs)
unfolding sections
sections_end count done found xs ends = go (count - done)
  where
    go : (m : ℕ) → sections m found xs ≡ Ok (found, xs)
    go zero = refl
    go (suc m) = rw ends refl

pub sections_stop : (count done : ℕ) (found : List Section) (xs : Lexemes) → count ≤ done → sections (count - done) found xs ≡ Ok (found, xs)
unfolding sections
sections_stop count done found xs over = let e : count - done ≡ 0 = omega arith in rw e refl

pub modules_step : (count done : ℕ) (found new : List ModuleTree) (xs : Lexemes) (a : ModuleTree) (ys : Lexemes) → done < count → module_tree xs ≡ Ok (a, ys)
    → same (kind ys) (k.Word w.Module) ≡ true → new ≡ found ++ a ∷ [] → modules (count - done) found xs ≡ modules (count - (done + 1)) new ys
unfolding modules
modules_step count done found new xs a ys below read goes put =
    let e : count - done ≡ suc (count - (done + 1)) = omega arith in
    rw (e, read, goes, put) refl
