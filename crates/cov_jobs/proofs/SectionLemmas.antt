-- Lemmas on texts that are put piece by piece.
use Rattle.std.proofs.Common.{◌≡◌, ℕ, suc, ◌+◌, ◌&&◌, Bool, true, List, [], ◌++◌, Some, Result, Ok, Err, OnOk, is_err, IsTrue, ◌↔◌, false, refl, sym, subst, ap, ◌∙◌, append_assoc, append-nil, length, length-append, ◌≤◌, slice_get, arith}
use Rattle.std.proofs.lemmas.Bool.{false≢true}
use Rattle.cov_syntax.specs.declared.error.NoMemory.{NoMemory}
use Rattle.cov_logic.specs.Occurrence.{occurrence}
use Rattle.cov_ctl.specs.Formulas.{formula_of}
use Rattle.cov_report.specs.SpecLines.{occurrence_line, spec_line}
use Rattle.cov_syntax.specs.declared.tree.Expr.{Expr}
use Rattle.cov_ctl.specs.Lowered.{lowered}
use Rattle.cov_model.specs.Flat.{IsFlat, conditions_of}
use Rattle.cov_claims.specs.Truths.{IsPassing}
use Rattle.cov_claims.specs.Vacuous.{IsVacuousIn}
use Rattle.cov_model.specs.declared.model.Model.{Model}
use Rattle.cov_jobs.specs.declared.detail.Detail.{Detail}
use Rattle.cov_ctl.specs.declared.formula.Formula as ctl
use Rattle.cov_jobs.specs.Occurrences as lines
use Rattle.cov_jobs.specs.Specifications.{AreSections, none, more, IsSection, Shows}
use Rattle.cov_coverage.specs.Puts.{Puts}

-- a text behind a text that was put
pub puts_behind : {Is And : List ℕ → Type 0} (old mid new : List ℕ) (Both : List ℕ → Type 0) → ((a b : List ℕ) → Is a → And b → Both (a ++ b))
    → Puts old mid Is → Puts mid new And → Puts old new Both
puts_behind old mid new Both both a b = record {
  text = a.text ++ b.text;
  is = both a.text b.text a.is b.is;
  puts = b.puts ∙ ap (λ (x : List ℕ). x ++ b.text) a.puts ∙ append_assoc old a.text b.text;
}

one_behind : (k : ℕ) → k + 1 ≡ suc k
one_behind k = omega arith

-- no section yet
pub no_section : (detail : Detail) (m : Model) (old : List ℕ) → Puts old old (AreSections detail m 0 true)
no_section detail m old = record { text = []; is = none; puts = sym (append-nil old) }

-- no line of an occurrence yet
pub no_line : (m : Model) (f : ctl.Formula) (old : List ℕ) → Puts old old (lines.AreOccurrenceLines m f 0)
no_line m f old = record { text = []; is = lines.none; puts = sym (append-nil old) }

-- one more section
one_more : (detail : Detail) (m : Model) (k : ℕ) (passes own : Bool) (old mid new : List ℕ) → Puts old mid (AreSections detail m k passes) → Puts mid new (IsSection detail m k own)
    → Puts old new (AreSections detail m (suc k) (passes && own))
one_more detail m k passes own old mid new a b = puts_behind old mid new _ (λ x y p q. more k passes own x y p q) a b

-- the same of a number that is one more
pub next_section : (detail : Detail) (m : Model) (k : ℕ) (passes own : Bool) (old mid new : List ℕ) → Puts old mid (AreSections detail m k passes) → Puts mid new (IsSection detail m k own)
    → Puts old new (AreSections detail m (k + 1) (passes && own))
next_section detail m k passes own old mid new a b =
    subst (λ n. Puts old new (AreSections detail m n (passes && own))) (sym (one_behind k)) (one_more detail m k passes own old mid new a b)

-- one more line of an occurrence
one_more_line : (m : Model) (f : ctl.Formula) (k : ℕ) (old mid new : List ℕ) → Puts old mid (lines.AreOccurrenceLines m f k) → Puts mid new (lines.IsOccurrenceLine m f (suc k))
    → Puts old new (lines.AreOccurrenceLines m f (suc k))
one_more_line m f k old mid new a b = puts_behind old mid new _ (λ x y p q. lines.more k x y p q) a b

-- the same of a number that is one more
pub next_line : (m : Model) (f : ctl.Formula) (k : ℕ) (old mid new : List ℕ) → Puts old mid (lines.AreOccurrenceLines m f k) → Puts mid new (lines.IsOccurrenceLine m f (k + 1))
    → Puts old new (lines.AreOccurrenceLines m f (k + 1))
next_line m f k old mid new a b =
    subst (λ n. Puts old new (lines.AreOccurrenceLines m f n)) (sym (one_behind k))
    (one_more_line m f k old mid new a (subst (λ n. Puts mid new (lines.IsOccurrenceLine m f n)) (one_behind k) b))

-- the line of an occurrence, where it was put
pub line_put : (r : Result Unit NoMemory) (m n : Model) (f : ctl.Formula) (number : ℕ) (vacuous : Bool) (part : ctl.Formula) (old new : List ℕ) → false ≡ is_err r → n ≡ m
    → occurrence (formula_of f) number ≡ Some (formula_of part) → IsTrue vacuous ↔ IsVacuousIn m f number → OnOk r (new ≡ old ++ occurrence_line n number vacuous part)
    → Puts old new (lines.IsOccurrenceLine m f number)
line_put (Ok x) m n f number vacuous part old new fine same stands told puts = record {
  text = occurrence_line m number vacuous part;
  is = record { part = part; stands = stands; vacuous = vacuous; is_vacuous = told; is = refl };
  puts = subst (λ z. new ≡ old ++ occurrence_line z number vacuous part) same puts;
}
line_put (Err e) m n f number vacuous part old new fine same stands told puts = absurd (false≢true fine)

-- a model has few specifications
pub few_specs : (m : Model) → IsFlat m → length m.specs ≤ 1000000
few_specs m flat =
    let e : length (conditions_of m) ≡ length (m.inits ++ m.invars ++ m.trans ++ m.fair) + length m.specs = length-append (m.inits ++ m.invars ++ m.trans ++ m.fair) m.specs in
    let few = flat.few_parts in
    omega arith

-- the section of a specification, where its line and what is behind it were put
pub section_put : (r : Result Unit NoMemory) (detail : Detail) (m n : Model) (place number : ℕ) (passes : Bool) (spec : Expr) (f : ctl.Formula) (old mid new : List ℕ) → false ≡ is_err r → n ≡ m → number ≡ place + 1
    → slice_get m.specs place ≡ Some spec → f ≡ lowered spec → IsTrue passes ↔ IsPassing m f → OnOk r (mid ≡ old ++ spec_line n number passes f) → Puts mid new (Shows detail m f passes)
    → Puts old new (IsSection detail m place passes)
section_put (Ok x) detail m n place number passes spec f old mid new fine same counted there is told line behind =
    let P : ctl.Formula → Type 0 = λ g. IsTrue passes ↔ IsPassing m g in
    let puts : mid ≡ old ++ spec_line m (suc place) passes (lowered spec) =
    line ∙ ap (λ z. old ++ spec_line z number passes f) same ∙ ap (λ k. old ++ spec_line m k passes f) (counted ∙ one_behind place) ∙ ap (λ g. old ++ spec_line m (suc place) passes g) is in
    record {
      text = spec_line m (suc place) passes (lowered spec) ++ behind.text;
      is = record {
        spec = spec;
        there = there;
        verdict = subst P is told;
        behind = behind.text;
        shows = subst (λ g. Shows detail m g passes behind.text) is behind.is;
        is = refl;
      };
      puts = behind.puts ∙ ap (λ (x : List ℕ). x ++ behind.text) puts ∙ append_assoc old (spec_line m (suc place) passes (lowered spec)) behind.text;
    }
section_put (Err e) detail m n place number passes spec f old mid new fine same counted there is told line behind = absurd (false≢true fine)

-- whether two pass, by the first
pub and_then : (p own r : Bool) → p ≡ true → r ≡ own → r ≡ (p && own)
and_then true own r e h = h
and_then false own r e h = absurd (false≢true e)

pub and_else : (p own r : Bool) → p ≡ false → r ≡ false → r ≡ (p && own)
and_else true own r e h = absurd (false≢true (sym e))
and_else false own r e h = h
