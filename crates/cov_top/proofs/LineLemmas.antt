-- Lemmas on a line that is put in pieces.
use Rattle.std.proofs.Common.{◌≡◌, ℕ, ◌+◌, ◌≤◌, List, ◌++◌, length, take, Option, Some, None, Result, Ok, Err, OnOk, OnErr, true, false, sym, ap, subst, ◌∙◌, append_assoc, inl, inr, arith, length-append}
use Rattle.std.specs.Result.{is_err}
use Rattle.std.proofs.Math.Seq.{take-append-add}
use Rattle.std.proofs.lemmas.List.{take-append-le}
use Rattle.cov_io.specs.Outside.{Gains, Rose}
use Rattle.cov_io.specs.declared.outside.Failed.{Failed}
use Rattle.cov_top.specs.ErrorLine.{PutsLine}
use Rattle.cov_top.specs.Transfer.{GainsPart}

-- a text and then another
gains-both : (old mid new : Option (List ℕ)) (a b : List ℕ) → Gains old mid a → Gains mid new b → Gains old new (a ++ b)
gains-both None mid new a b g h = tt
gains-both (Some bytes) mid new a b g h = subst (λ m. Gains m new b) g h ∙ ap (λ (t : List ℕ). Some t) (append_assoc bytes a b)

-- a front of a text is one of a longer text
pub part-longer : (old new : Option (List ℕ)) (a b : List ℕ) → GainsPart old new a → GainsPart old new (a ++ b)
part-longer old new a b (n, within, gains) =
    let whole : length (a ++ b) ≡ length a + length b = length-append a b in
    (n, omega arith, subst (λ t. Gains old new t) (sym (take-append-le n a b (omega arith))) gains)

-- a front of what is put behind a text
pub part-behind : (old mid new : Option (List ℕ)) (a b : List ℕ) → Gains old mid a → GainsPart mid new b → GainsPart old new (a ++ b)
part-behind old mid new a b g (n, within, gains) =
    let whole : length (a ++ b) ≡ length a + length b = length-append a b in
    (length a + n, omega arith, subst (λ t. Gains old new t) (sym (take-append-add a b n)) (gains-both old mid new a (take n b) g gains))

-- a count that rises later, or that went on after it rose
rose-later : (before mid now : ℕ) → before ≤ mid → Rose mid now → Rose before now
rose-later before mid now later rose = omega arith

-- the first piece is cut
pub cut-first : (old new : Option (List ℕ)) (before now : ℕ) (a b c : List ℕ) → GainsPart old new a → Rose before now → PutsLine old new before now (a ++ b ++ c)
cut-first old new before now a b c part rose = inr (rose, part-longer old new (a ++ b) c (part-longer old new a b part))

-- the second piece is cut
pub cut-second : (old mid new : Option (List ℕ)) (before between now : ℕ) (a b c : List ℕ) → Gains old mid a → before ≤ between → GainsPart mid new b → Rose between now
    → PutsLine old new before now (a ++ b ++ c)
cut-second old mid new before between now a b c first later part rose =
    inr (rose-later before between now later rose, part-longer old new (a ++ b) c (part-behind old mid new a b first part))

-- the third piece is put, or cut
pub put-third : (old mid more new : Option (List ℕ)) (before between now : ℕ) (a b c : List ℕ) (answer : Result (Unit {0}) Failed) → Gains old mid a → Gains mid more b → before ≤ between
    → OnOk answer (Gains more new c) → OnErr answer (GainsPart more new c) → OnErr answer (Rose between now) → PutsLine old new before now (a ++ b ++ c)
put-third old mid more new before between now a b c (Ok x) first second later whole part rose = inl (gains-both old more new (a ++ b) c (gains-both old mid more a b first second) whole)
put-third old mid more new before between now a b c (Err e) first second later whole part rose =
    inr (rose-later before between now later rose, part-behind old more new (a ++ b) c (gains-both old mid more a b first second) part)

-- what an answer tells
pub of-err : {X : Type 0} (answer : Result (Unit {0}) Failed) → OnErr answer X → is_err answer ≡ true → X
of-err (Ok x) h is = absurd cc
of-err (Err e) h is = h

pub of-ok : {X : Type 0} (answer : Result (Unit {0}) Failed) → OnOk answer X → is_err answer ≡ false → X
of-ok (Ok x) h is = h
of-ok (Err e) h is = absurd cc
