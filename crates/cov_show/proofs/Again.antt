-- What it takes that a printed tree is read again, and what it takes of a node of each level.
use Rattle.std.proofs.Common.{◌≡◌, ◌≢◌, ℕ, zero, suc, ◌<◌, ◌≤◌, Bool, true, false, ◌||◌, ◌==◌, nat_lt, List, [], ◌∷◌, ◌++◌, slice_index, inl, inr, refl, sym, ap, subst, arith, append_assoc}
use Rattle.std.proofs.lemmas.Bool.{ltb-false, lt-ltb}
use Rattle.std.proofs.lemmas.Bool.Decides.{eqb_tells}
use Rattle.cov_syntax.specs.declared.lexeme.Terminal.TheVariants as k
use Rattle.cov_syntax.specs.declared.token.TokenKind.TheVariants as token
use Rattle.cov_syntax.specs.declared.tree.Expr.{Expr}
use Rattle.cov_syntax.specs.Lexemes.{Lexemes, kind}
use Rattle.cov_syntax.specs.Reading.{Reads}
use Rattle.cov_syntax.specs.Reading.{Reads as r}
use Rattle.cov_syntax.specs.Tokens.{Text, dash, front, front_mark}
use Rattle.cov_show.specs.Printing.{Printed, printed, name_labels, grouped, placed, negated}
use Rattle.cov_show.specs.ReadAgain.{bare}
use Rattle.cov_show.proofs.WrittenTexts.{Written, word, lexeme_before}
use Rattle.cov_show.proofs.WordLemmas.{IsClear, Opens}

-- A text whose front is read at a level as the tree, apart from places, before these lexemes.
pub record Rereads (total : ℕ) (names : List Text) (l : ℕ) (z : Text) (e : Expr) (ys : Lexemes) : Type 0 where
  pub xs : Lexemes
  pub tree : Expr
  pub written : Written total names z xs
  pub reads : Reads l xs tree ys
  pub same : bare tree ≡ bare e
  pub opens : Opens (slice_index z 0)

-- The same at the tightest level, where a minus may stand before it.
pub record RereadsUnsigned (total : ℕ) (names : List Text) (z : Text) (e : Expr) (ys : Lexemes) : Type 0 where
  pub whole : Rereads total names 12 z e ys
  pub no_dash : (slice_index z 0 == dash) ≡ false
  pub no_number : kind whole.xs ≢ k.Number

-- A text that is read so before any rest.
pub record Inner (total : ℕ) (names : List Text) (own : ℕ) (bytes : Text) (e : Expr) : Type 0 where
  pub by : (rest : Text) (ys : Lexemes) → IsClear rest → Written total names rest ys → Rereads total names own (bytes ++ rest) e ys

pub record InnerUnsigned (total : ℕ) (names : List Text) (bytes : Text) (e : Expr) : Type 0 where
  pub by : (rest : Text) (ys : Lexemes) → IsClear rest → Written total names rest ys → RereadsUnsigned total names (bytes ++ rest) e ys

-- A tree that is read again wherever it is printed.
pub record Again (total : ℕ) (names : List Text) (e : Expr) : Type 0 where
  pub at_level : (l : ℕ) → l ≤ 12 → (rest : Text) (ys : Lexemes) → IsClear rest → Written total names rest ys
      → Rereads total names l (placed l (printed (name_labels names) e) ++ rest) e ys
  pub behind_minus : (rest : Text) (ys : Lexemes) → IsClear rest → Written total names rest ys → RereadsUnsigned total names (negated (printed (name_labels names) e) ++ rest) e ys

-- a mark or a blank is clear before any text
pub clear_blank : (z : Text) → IsClear (32 ∷ z)
clear_blank z = record { no_dash = refl; no_name = refl; no_digit = refl }

pub clear_close_paren : (z : Text) → IsClear (41 ∷ z)
clear_close_paren z = record { no_dash = refl; no_name = refl; no_digit = refl }

pub clear_comma : (z : Text) → IsClear (44 ∷ z)
clear_comma z = record { no_dash = refl; no_name = refl; no_digit = refl }

pub clear_dot : (z : Text) → IsClear (46 ∷ z)
clear_dot z = record { no_dash = refl; no_name = refl; no_digit = refl }

pub clear_semicolon : (z : Text) → IsClear (59 ∷ z)
clear_semicolon z = record { no_dash = refl; no_name = refl; no_digit = refl }

pub clear_close_bracket : (z : Text) → IsClear (93 ∷ z)
clear_close_bracket z = record { no_dash = refl; no_name = refl; no_digit = refl }

pub clear_close_brace : (z : Text) → IsClear (125 ∷ z)
clear_close_brace z = record { no_dash = refl; no_name = refl; no_digit = refl }

pub clear_end : IsClear []
clear_end = record { no_dash = refl; no_name = refl; no_digit = refl }

pub loosen : (high : ℕ) {xs ys : Lexemes} {e : Expr} (l : ℕ) → l ≤ high → high ≤ 12 → Reads high xs e ys → Reads l xs e ys
loosen zero {xs} {ys} {e} l le top p = let same : 0 ≡ l = omega arith in subst (λ (i : ℕ). Reads i xs e ys) same p
loosen (suc high) {xs} {ys} {e} l le top p =
    let more : l ≤ high → Reads l xs e ys = λ below. loosen high l below (omega arith) (r.tighter (omega arith) p) in
    elim (eqb_tells l (suc high)) [ inl s ↦ subst (λ (i : ℕ). Reads i xs e ys) (sym s.1) p | inr s ↦ more (omega (arith, s.1)) ]

module _ (total : ℕ) (names : List Text) where
  -- the same of an equal text
  pub moved : (l : ℕ) (y z : Text) (e : Expr) (ys : Lexemes) → y ≡ z → Rereads total names l y e ys → Rereads total names l z e ys
  moved l y z e ys is = subst (λ (x : Text). Rereads total names l x e ys) is

  looser : (own l : ℕ) (z : Text) (e : Expr) (ys : Lexemes) → l ≤ own → own ≤ 12 → Rereads total names own z e ys → Rereads total names l z e ys
  looser own l z e ys le high q = record { xs = q.xs; tree = q.tree; written = q.written; reads = loosen own l le high q.reads; same = q.same; opens = q.opens }

  -- in parentheses
  in_parens : (own : ℕ) → 1 ≤ own → own ≤ 12 → (bytes : Text) (e : Expr) → Inner total names own bytes e
      → (rest : Text) (ys : Lexemes) → Written total names rest ys → RereadsUnsigned total names (grouped true bytes ++ rest) e ys
  unfolding front front_mark
  in_parens own low high bytes e inner rest ys h =
      let close : Written total names (41 ∷ rest) (lexeme_before total names (token.Mark 1) (41 ∷ []) rest ∷ ys) = word (token.Mark 1) (41 ∷ []) rest (omega arith) refl h in
      let q = inner.by (41 ∷ rest) (lexeme_before total names (token.Mark 1) (41 ∷ []) rest ∷ ys) (clear_close_paren rest) close in
      let z : Text = bytes ++ 41 ∷ rest in
      let open_ : Written total names (40 ∷ z) (lexeme_before total names (token.Mark 0) (40 ∷ []) z ∷ q.xs) = word (token.Mark 0) (40 ∷ []) z (omega arith) refl q.written in
      let is : 40 ∷ z ≡ grouped true bytes ++ rest = ap (λ (y : Text). 40 ∷ y) (sym (append_assoc bytes (41 ∷ []) rest)) in
      record {
        whole = record {
          xs = lexeme_before total names (token.Mark 0) (40 ∷ []) z ∷ q.xs;
          tree = q.tree;
          written = subst (λ (y : Text). Written total names y (lexeme_before total names (token.Mark 0) (40 ∷ []) z ∷ q.xs)) is open_;
          reads = r.grouped refl refl (loosen own 1 low high q.reads);
          same = q.same;
          opens = record { no_equal = refl; no_above = refl };
        };
        no_dash = refl;
        no_number = λ g. absurd cc;
      }

  -- at its own level, or in parentheses
  at_own_level : (own : ℕ) → 1 ≤ own → own ≤ 12 → (bytes : Text) (e : Expr) → Inner total names own bytes e
      → (l : ℕ) → l ≤ 12 → (rest : Text) (ys : Lexemes) → IsClear rest → Written total names rest ys → Rereads total names l (grouped (nat_lt own l) bytes ++ rest) e ys
  at_own_level own low high bytes e inner l le rest ys c h = go (nat_lt own l) refl
    where
      go : (b : Bool) → nat_lt own l ≡ b → Rereads total names l (grouped b bytes ++ rest) e ys
      go true is = looser 12 l (grouped true bytes ++ rest) e ys le (omega arith) (in_parens own low high bytes e inner rest ys h).whole
      go false is = looser own l (bytes ++ rest) e ys (ltb-false own l is) high (inner.by rest ys c h)

  -- a tree of a level, by its text at that level and by its text behind a minus
  again_by : (own : ℕ) (signed : Bool) → 1 ≤ own → own ≤ 12 → (bytes : Text) (e : Expr)
      → printed (name_labels names) e ≡ record { level = own; is_signed = signed; bytes = bytes } → Inner total names own bytes e
      → ((rest : Text) (ys : Lexemes) → IsClear rest → Written total names rest ys → RereadsUnsigned total names (grouped (signed || nat_lt own 12) bytes ++ rest) e ys)
      → Again total names e
  again_by own signed low high bytes e is inner unsigned = record {
    at_level = λ l le rest ys c h. subst (λ (p : Printed). Rereads total names l (placed l p ++ rest) e ys) (sym is) (at_own_level own low high bytes e inner l le rest ys c h);
    behind_minus = λ rest ys c h. subst (λ (p : Printed). RereadsUnsigned total names (negated p ++ rest) e ys) (sym is) (unsigned rest ys c h);
  }

  -- an integer, a range or a unary minus
  pub again_signed : (bytes : Text) (e : Expr) → printed (name_labels names) e ≡ record { level = 12; is_signed = true; bytes = bytes } → Inner total names 12 bytes e → Again total names e
  again_signed bytes e is inner = again_by 12 true (omega arith) (omega arith) bytes e is inner (λ rest ys c h. in_parens 12 (omega arith) (omega arith) bytes e inner rest ys h)

  -- an expression of a looser level
  pub again_loose : (own : ℕ) → 1 ≤ own → own < 12 → (bytes : Text) (e : Expr) → printed (name_labels names) e ≡ record { level = own; is_signed = false; bytes = bytes }
      → Inner total names own bytes e → Again total names e
  again_loose own low high bytes e is inner =
      again_by own false low (omega arith) bytes e is inner
      (λ rest ys c h. subst (λ (b : Bool). RereadsUnsigned total names (grouped b bytes ++ rest) e ys) (sym (lt-ltb own 12 high)) (in_parens own low (omega arith) bytes e inner rest ys h))

  -- any other expression of the tightest level
  pub again_primary : (bytes : Text) (e : Expr) → printed (name_labels names) e ≡ record { level = 12; is_signed = false; bytes = bytes } → InnerUnsigned total names bytes e → Again total names e
  again_primary bytes e is inner =
      again_by 12 false (omega arith) (omega arith) bytes e is (record { by = λ rest ys c h. (inner.by rest ys c h).whole }) (λ rest ys c h. inner.by rest ys c h)
