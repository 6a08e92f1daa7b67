-- How the operators are cut into tokens, and which productions they are of.
use Rattle.std.proofs.Common.{◌≡◌, ◌≢◌, ℕ, suc, ◌<◌, ◌≤◌, false, ◌⊎◌, inl, inr, ◌==◌, List, [], ◌∷◌, ◌++◌, length, slice_index, codes, Some, refl, ap, subst, ◌∙◌, arith}
use Rattle.cov_syntax.specs.declared.lexeme.Lexeme.{Lexeme}
use Rattle.cov_syntax.specs.declared.lexeme.Terminal.TheVariants as k
use Rattle.cov_syntax.specs.declared.token.TokenKind.{TokenKind}
use Rattle.cov_syntax.specs.declared.token.TokenKind.TheVariants as token
use Rattle.cov_syntax.specs.declared.tree.Expr.{Expr}
use Rattle.cov_syntax.specs.declared.tree.Node.TheVariants as n
use Rattle.cov_syntax.specs.declared.tree.Op1.{Op1}
use Rattle.cov_syntax.specs.declared.tree.Op1.TheVariants as op1
use Rattle.cov_syntax.specs.declared.tree.Op2.{Op2}
use Rattle.cov_syntax.specs.declared.tree.Op2.TheVariants as op2
use Rattle.cov_syntax.specs.Lexemes.{Lexemes, at, left, until_of, prefix, terminal_of}
use Rattle.cov_syntax.specs.Reading.{Reads}
use Rattle.cov_syntax.specs.Reading.{Reads as r}
use Rattle.cov_syntax.specs.Tokens as spec
use Rattle.cov_syntax.specs.Tokens.{Text, dash, front, front_mark, spelled_word}
use Rattle.cov_show.specs.Printing.{Printed, level_of, left_asks, right_asks, before_left, between, behind_right, before, placed, prefix_printed}
use Rattle.cov_show.proofs.WrittenTexts.{Written, word, blank, lexeme_before}
use Rattle.cov_show.proofs.WordLemmas.{Opens, front-not}

-- an operator between two operands with a blank on each side
pub record IsInfix (op : Op2) : Type 0 where
  pub low : 1 ≤ level_of op
  pub high : level_of op < 12
  pub left_high : left_asks op ≤ 12
  pub right_high : right_asks op ≤ 12
  pub no_before : before_left op ≡ []
  pub no_behind : behind_right op ≡ []
  pub kind : TokenKind
  pub spelled : Text
  pub some : 0 < length spelled
  pub spaced : between op ≡ 32 ∷ (spelled ++ 32 ∷ [])
  pub cut : (z : Text) → front (spelled ++ 32 ∷ z) ≡ spec.token kind (length spelled)
  pub join : (t : Lexeme) (xs ys zs : Lexemes) (a b : Expr) → t.kind ≡ terminal_of kind
      → Reads (left_asks op) xs a (t ∷ ys) → Reads (right_asks op) ys b zs → Reads (level_of op) xs (at (n.Two op a b) xs zs) zs

-- an operator of the form `A[a U b]`
pub record IsUntil (op : Op2) : Type 0 where
  pub level : level_of op ≡ 12
  pub left_one : left_asks op ≡ 1
  pub right_one : right_asks op ≡ 1
  pub middle : between op ≡ codes " U "
  pub end : behind_right op ≡ codes "]"
  pub kind : TokenKind
  pub letter : ℕ
  pub start : before_left op ≡ letter ∷ 91 ∷ []
  pub cut : (z : Text) → front (letter ∷ 91 ∷ z) ≡ spec.token kind 1
  pub is_until : until_of (terminal_of kind) ≡ Some op
  pub no_number : terminal_of kind ≢ k.Number
  pub no_dash : (letter == dash) ≡ false
  pub opens : Opens letter

implies : IsInfix op2.Implies
unfolding front front_mark
implies = record {
  low = omega arith;
  high = omega arith;
  left_high = omega arith;
  right_high = omega arith;
  no_before = refl;
  no_behind = refl;
  kind = token.Mark 25;
  spelled = codes "->";
  some = omega arith;
  spaced = refl;
  cut = λ z. refl;
  join = λ t xs ys zs a b e p q. r.implies e p q;
}

-- one that groups to the left
module _ (op : Op2) (kind : TokenKind) (spelled : Text) where
  to_the_left : 1 ≤ level_of op → level_of op < 12 → left_asks op ≡ level_of op → right_asks op ≡ suc (level_of op) → before_left op ≡ [] → behind_right op ≡ []
      → 0 < length spelled → between op ≡ 32 ∷ (spelled ++ 32 ∷ []) → left (terminal_of kind) ≡ Some (level_of op, op)
      → ((z : Text) → front (spelled ++ 32 ∷ z) ≡ spec.token kind (length spelled)) → IsInfix op
  to_the_left low high left_is right_is no_before no_behind some spaced is cut = record {
    low = low;
    high = high;
    left_high = omega (arith, left_is);
    right_high = omega (arith, right_is);
    no_before = no_before;
    no_behind = no_behind;
    kind = kind;
    spelled = spelled;
    some = some;
    spaced = spaced;
    cut = cut;
    join = λ t xs ys zs a b e p q. r.binary (ap left e ∙ is) (subst (λ l. Reads l xs a (t ∷ ys)) left_is p) (subst (λ l. Reads l ys b zs) right_is q);
  }

-- each operator with two operands has one of these forms
pub shape : (op : Op2) → IsInfix op ⊎ IsUntil op
unfolding front front_mark spelled_word
shape op2.Implies = inl implies
shape op2.Iff = inl (to_the_left op2.Iff (token.Mark 26) (codes "<->") (omega arith) (omega arith) refl refl refl refl (omega arith) refl refl (λ z. refl))
shape op2.Or = inl (to_the_left op2.Or (token.Mark 24) (codes "|") (omega arith) (omega arith) refl refl refl refl (omega arith) refl refl (λ z. refl))
shape op2.Xor = inl (to_the_left op2.Xor (token.Word 19) (codes "xor") (omega arith) (omega arith) refl refl refl refl (omega arith) refl refl (λ z. refl))
shape op2.And = inl (to_the_left op2.And (token.Mark 23) (codes "&") (omega arith) (omega arith) refl refl refl refl (omega arith) refl refl (λ z. refl))
shape op2.Eq = inl (to_the_left op2.Eq (token.Mark 12) (codes "=") (omega arith) (omega arith) refl refl refl refl (omega arith) refl refl (λ z. refl))
shape op2.Ne = inl (to_the_left op2.Ne (token.Mark 13) (codes "!=") (omega arith) (omega arith) refl refl refl refl (omega arith) refl refl (λ z. refl))
shape op2.Lt = inl (to_the_left op2.Lt (token.Mark 14) (codes "<") (omega arith) (omega arith) refl refl refl refl (omega arith) refl refl (λ z. refl))
shape op2.Le = inl (to_the_left op2.Le (token.Mark 15) (codes "<=") (omega arith) (omega arith) refl refl refl refl (omega arith) refl refl (λ z. refl))
shape op2.Gt = inl (to_the_left op2.Gt (token.Mark 16) (codes ">") (omega arith) (omega arith) refl refl refl refl (omega arith) refl refl (λ z. refl))
shape op2.Ge = inl (to_the_left op2.Ge (token.Mark 17) (codes ">=") (omega arith) (omega arith) refl refl refl refl (omega arith) refl refl (λ z. refl))
shape op2.Member = inl (to_the_left op2.Member (token.Word 17) (codes "in") (omega arith) (omega arith) refl refl refl refl (omega arith) refl refl (λ z. refl))
shape op2.Union = inl (to_the_left op2.Union (token.Word 16) (codes "union") (omega arith) (omega arith) refl refl refl refl (omega arith) refl refl (λ z. refl))
shape op2.Mod = inl (to_the_left op2.Mod (token.Word 18) (codes "mod") (omega arith) (omega arith) refl refl refl refl (omega arith) refl refl (λ z. refl))
shape op2.Add = inl (to_the_left op2.Add (token.Mark 18) (codes "+") (omega arith) (omega arith) refl refl refl refl (omega arith) refl refl (λ z. refl))
shape op2.Sub = inl (to_the_left op2.Sub (token.Mark 19) (codes "-") (omega arith) (omega arith) refl refl refl refl (omega arith) refl refl (λ z. refl))
shape op2.Mul = inl (to_the_left op2.Mul (token.Mark 20) (codes "*") (omega arith) (omega arith) refl refl refl refl (omega arith) refl refl (λ z. refl))
shape op2.Div = inl (to_the_left op2.Div (token.Mark 21) (codes "/") (omega arith) (omega arith) refl refl refl refl (omega arith) refl refl (λ z. refl))
shape op2.Au = inr (record {
  level = refl;
  left_one = refl;
  right_one = refl;
  middle = refl;
  end = refl;
  kind = token.Word 28;
  letter = 65;
  start = refl;
  cut = λ z. refl;
  is_until = refl;
  no_number = λ e. absurd cc;
  no_dash = refl;
  opens = record { no_equal = refl; no_above = refl };
})
shape op2.Eu = inr (record {
  level = refl;
  left_one = refl;
  right_one = refl;
  middle = refl;
  end = refl;
  kind = token.Word 29;
  letter = 69;
  start = refl;
  cut = λ z. refl;
  is_until = refl;
  no_number = λ e. absurd cc;
  no_dash = refl;
  opens = record { no_equal = refl; no_above = refl };
})

-- the mark or word of an operator before its operand
pub record IsMarked (total : ℕ) (names : List Text) (op : Op1) (z : Text) (ys : Lexemes) : Type 0 where
  pub t : Lexeme
  pub is_prefix : prefix t.kind ≡ Some op
  pub written : Written total names (before op ++ z) (t ∷ ys)
  pub opens : Opens (slice_index (before op ++ z) 0)

-- an operator before its operand, looser than a comparison
pub record IsPrefix (op : Op1) : Type 0 where
  pub is_printed : (e : Printed) → prefix_printed op e ≡ record { level = 5; is_signed = false; bytes = before op ++ placed 5 e }
  pub mark : (total : ℕ) (names : List Text) (z : Text) (ys : Lexemes) → Opens (slice_index z 0) → Written total names z ys → IsMarked total names op z ys

pub prefix_not : IsPrefix op1.Not
unfolding front front_mark
prefix_not = record {
  is_printed = λ e. refl;
  mark = λ total names z ys o h. record {
    t = lexeme_before total names (token.Mark 22) (codes "!") z;
    is_prefix = refl;
    written = word (token.Mark 22) (codes "!") z (omega arith) (front-not z o) h;
    opens = record { no_equal = refl; no_above = refl };
  };
}

pub prefix_ex : IsPrefix op1.Ex
unfolding front spelled_word
prefix_ex = record {
  is_printed = λ e. refl;
  mark = λ total names z ys o h. record {
    t = lexeme_before total names (token.Word 22) (codes "EX") (32 ∷ z);
    is_prefix = refl;
    written = word (token.Word 22) (codes "EX") (32 ∷ z) (omega arith) refl (blank h);
    opens = record { no_equal = refl; no_above = refl };
  };
}

pub prefix_ef : IsPrefix op1.Ef
unfolding front spelled_word
prefix_ef = record {
  is_printed = λ e. refl;
  mark = λ total names z ys o h. record {
    t = lexeme_before total names (token.Word 23) (codes "EF") (32 ∷ z);
    is_prefix = refl;
    written = word (token.Word 23) (codes "EF") (32 ∷ z) (omega arith) refl (blank h);
    opens = record { no_equal = refl; no_above = refl };
  };
}

pub prefix_eg : IsPrefix op1.Eg
unfolding front spelled_word
prefix_eg = record {
  is_printed = λ e. refl;
  mark = λ total names z ys o h. record {
    t = lexeme_before total names (token.Word 24) (codes "EG") (32 ∷ z);
    is_prefix = refl;
    written = word (token.Word 24) (codes "EG") (32 ∷ z) (omega arith) refl (blank h);
    opens = record { no_equal = refl; no_above = refl };
  };
}

pub prefix_ax : IsPrefix op1.Ax
unfolding front spelled_word
prefix_ax = record {
  is_printed = λ e. refl;
  mark = λ total names z ys o h. record {
    t = lexeme_before total names (token.Word 25) (codes "AX") (32 ∷ z);
    is_prefix = refl;
    written = word (token.Word 25) (codes "AX") (32 ∷ z) (omega arith) refl (blank h);
    opens = record { no_equal = refl; no_above = refl };
  };
}

pub prefix_af : IsPrefix op1.Af
unfolding front spelled_word
prefix_af = record {
  is_printed = λ e. refl;
  mark = λ total names z ys o h. record {
    t = lexeme_before total names (token.Word 26) (codes "AF") (32 ∷ z);
    is_prefix = refl;
    written = word (token.Word 26) (codes "AF") (32 ∷ z) (omega arith) refl (blank h);
    opens = record { no_equal = refl; no_above = refl };
  };
}

pub prefix_ag : IsPrefix op1.Ag
unfolding front spelled_word
prefix_ag = record {
  is_printed = λ e. refl;
  mark = λ total names z ys o h. record {
    t = lexeme_before total names (token.Word 27) (codes "AG") (32 ∷ z);
    is_prefix = refl;
    written = word (token.Word 27) (codes "AG") (32 ∷ z) (omega arith) refl (blank h);
    opens = record { no_equal = refl; no_above = refl };
  };
}
