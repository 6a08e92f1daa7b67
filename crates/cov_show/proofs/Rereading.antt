-- What a tree is printed with is read again as that tree, apart from places.
use Rattle.std.proofs.Common.{◌≡◌, ℕ, Bool, true, false, ◌&&◌, inl, inr, ℤ, List, [], ◌∷◌, ◌++◌, map, slice_index, codes, Some, refl, sym, ap, subst, ◌∙◌, arith, append_assoc}
use Rattle.std.proofs.lemmas.Bool.{and_parts}
use Rattle.std.proofs.lemmas.List.{append-nil}
use Rattle.std.specs.Fmt.{signed_decimal}
use Rattle.std.specs.List.{list_all}
use Rattle.cov_syntax.specs.declared.lexeme.Lexeme.{Lexeme}
use Rattle.cov_syntax.specs.declared.token.TokenKind.TheVariants as token
use Rattle.cov_syntax.specs.declared.tree.Branch.{Branch, roll-Branch}
use Rattle.cov_syntax.specs.declared.tree.Expr.{Expr, roll-Expr}
use Rattle.cov_syntax.specs.declared.tree.Node.{Node}
use Rattle.cov_syntax.specs.declared.tree.Node.TheVariants as n
use Rattle.cov_syntax.specs.declared.tree.Node.TheFolds.{fold-Branch}
use Rattle.cov_syntax.specs.declared.tree.Op1.{Op1}
use Rattle.cov_syntax.specs.declared.tree.Op1.TheVariants as op1
use Rattle.cov_syntax.specs.declared.tree.Op2.{Op2}
use Rattle.cov_syntax.specs.declared.tree.Op2.TheVariants as op2
use Rattle.cov_syntax.specs.declared.tree.Value.{Value}
use Rattle.cov_syntax.specs.declared.tree.Value.TheVariants as value
use Rattle.cov_syntax.specs.declared.words.Word.TheVariants as w
use Rattle.cov_syntax.specs.Lexemes.{Lexemes, at, span}
use Rattle.cov_syntax.specs.Reading.{Reads, ReadsPath, ReadsExprs, ReadsBranches, ReadsBranch}
use Rattle.cov_syntax.specs.Reading.{Reads as r}
use Rattle.cov_syntax.specs.Reading.{ReadsExprs.last_expr, ReadsExprs.more_exprs, ReadsBranches.last_branch, ReadsBranches.more_branches, ReadsBranch.branch}
use Rattle.cov_syntax.specs.Texts.{IsDistinctTexts}
use Rattle.cov_syntax.specs.Tokens.{Text, front, front_mark, spelled_word}
use Rattle.cov_show.specs.Printing.{Printed, printed, name_labels, of_node, of_branch, of_expr, placed, negated, level_of, left_asks, right_asks, before_left, between, behind_right, before, infix_printed, prefix_printed, branch_printed, value_printed, path_text, range_text, elements_text, set_text, branch_text, branches_text, case_text}
use Rattle.cov_show.specs.ReadAgain.{bare, bare_node, nowhere, is_named, all_named, node_named}
use Rattle.cov_show.proofs.Folds.{fold_lit, fold_path, fold_range, fold_one, fold_two, fold_set, fold_case, fold_branch}
use Rattle.cov_show.proofs.WrittenTexts.{Written, word, blank, lexeme_before}
use Rattle.cov_show.proofs.WordLemmas.{IsClear, Opens-name, name_begins, front-name, front-minus}
use Rattle.cov_show.proofs.Again.{RereadsUnsigned, Inner, InnerUnsigned, Again, moved, again_signed, again_loose, again_primary, clear_blank, clear_close_paren, clear_dot, clear_comma, clear_semicolon, clear_close_bracket, clear_close_brace}
use Rattle.cov_show.proofs.LeafLemmas.{IsShort, short, again_int, again_path}
use Rattle.cov_show.proofs.Operators.{IsInfix, IsUntil, IsPrefix, shape, prefix_not, prefix_ex, prefix_ef, prefix_eg, prefix_ax, prefix_af, prefix_ag}

-- ---- the tree apart from places, at each kind of node

abbrev put : Node → Expr
put m = roll-Expr (record { node = m; place = nowhere })

bare_two : (op : Op2) (a b : Expr) (xs ys : Lexemes) → bare (at (n.Two op a b) xs ys) ≡ put (n.Two op (bare a) (bare b))
bare_two op a b xs ys = fold_two Node Branch Expr bare_node (λ b. roll-Branch (record { guard = b.guard; body = b.body })) (λ e. put e.node) op a b (span xs ys)

same_two : (op : Op2) (a b c d : Expr) (xs ys zs us : Lexemes) → bare a ≡ bare c → bare b ≡ bare d → bare (at (n.Two op a b) xs ys) ≡ bare (at (n.Two op c d) zs us)
same_two op a b c d xs ys zs us p q = bare_two op a b xs ys ∙ (λ i. put (n.Two op (p i) (q i))) ∙ sym (bare_two op c d zs us)

bare_one : (op : Op1) (a : Expr) (xs ys : Lexemes) → bare (at (n.One op a) xs ys) ≡ put (n.One op (bare a))
bare_one op a xs ys = fold_one Node Branch Expr bare_node (λ b. roll-Branch (record { guard = b.guard; body = b.body })) (λ e. put e.node) op a (span xs ys)

same_one : (op : Op1) (a b : Expr) (xs ys zs us : Lexemes) → bare a ≡ bare b → bare (at (n.One op a) xs ys) ≡ bare (at (n.One op b) zs us)
same_one op a b xs ys zs us p = bare_one op a xs ys ∙ ap (λ (e : Expr). put (n.One op e)) p ∙ sym (bare_one op b zs us)

bare_leaf : (v : Value) (xs ys : Lexemes) → bare (at (n.Lit v) xs ys) ≡ put (n.Lit v)
bare_leaf v xs ys = fold_lit Node Branch Expr bare_node (λ b. roll-Branch (record { guard = b.guard; body = b.body })) (λ e. put e.node) v (span xs ys)

until_grouped : (letter : ℕ) (x y rest : Text)
    → letter ∷ 91 ∷ (x ++ (32 ∷ 85 ∷ 32 ∷ (y ++ 93 ∷ rest))) ≡ (((letter ∷ 91 ∷ []) ++ x ++ (32 ∷ 85 ∷ 32 ∷ [])) ++ (y ++ 93 ∷ [])) ++ rest
until_grouped letter x y rest = ap (λ (z : Text). letter ∷ 91 ∷ z) (pairs x (32 ∷ 85 ∷ 32 ∷ []) y (93 ∷ []) rest)
  where
    pairs : (a b c d e : Text) → a ++ (b ++ (c ++ (d ++ e))) ≡ ((a ++ b) ++ (c ++ d)) ++ e
    pairs a b c d e = simp append_assoc

bare_path : (path : List ℕ) (xs ys : Lexemes) → bare (at (n.Path path) xs ys) ≡ put (n.Path path)
bare_path path xs ys = fold_path Node Branch Expr bare_node (λ b. roll-Branch (record { guard = b.guard; body = b.body })) (λ e. put e.node) path (span xs ys)

bare_range : (i j : ℤ) (xs ys : Lexemes) → bare (at (n.Range i j) xs ys) ≡ put (n.Range i j)
bare_range i j xs ys = fold_range Node Branch Expr bare_node (λ b. roll-Branch (record { guard = b.guard; body = b.body })) (λ e. put e.node) i j (span xs ys)

bare_set : (es : List Expr) (xs ys : Lexemes) → bare (at (n.Set es) xs ys) ≡ put (n.Set (map bare es))
bare_set es xs ys = fold_set Node Branch Expr bare_node (λ b. roll-Branch (record { guard = b.guard; body = b.body })) (λ e. put e.node) es (span xs ys)

abbrev bare_branch : Branch → Branch
bare_branch = fold-Branch Node Branch Expr bare_node (λ b. roll-Branch (record { guard = b.guard; body = b.body })) (λ e. put e.node)

bare_pair : (g e : Expr) → bare_branch (roll-Branch (record { guard = g; body = e })) ≡ roll-Branch (record { guard = bare g; body = bare e })
bare_pair g e = fold_branch Node Branch Expr bare_node (λ b. roll-Branch (record { guard = b.guard; body = b.body })) (λ e. put e.node) g e

bare_case : (bs : List Branch) (xs ys : Lexemes) → bare (at (n.Case bs) xs ys) ≡ put (n.Case (map bare_branch bs))
bare_case bs xs ys = fold_case Node Branch Expr bare_node (λ b. roll-Branch (record { guard = b.guard; body = b.body })) (λ e. put e.node) bs (span xs ys)

range_grouped : (x y rest : Text) → x ++ (46 ∷ 46 ∷ (y ++ rest)) ≡ ((x ++ (46 ∷ 46 ∷ [])) ++ y) ++ rest
range_grouped x y rest = three x (46 ∷ 46 ∷ []) y rest
  where
    three : (a b c d : Text) → a ++ (b ++ (c ++ d)) ≡ ((a ++ b) ++ c) ++ d
    three a b c d = simp append_assoc

branch_grouped : (x y rest : Text) → x ++ (32 ∷ 58 ∷ 32 ∷ (y ++ 59 ∷ 32 ∷ rest)) ≡ (((x ++ (32 ∷ 58 ∷ 32 ∷ [])) ++ y) ++ (59 ∷ 32 ∷ [])) ++ rest
branch_grouped x y rest = four x (32 ∷ 58 ∷ 32 ∷ []) y (59 ∷ 32 ∷ []) rest
  where
    four : (a b c d e : Text) → a ++ (b ++ (c ++ (d ++ e))) ≡ (((a ++ b) ++ c) ++ d) ++ e
    four a b c d e = simp append_assoc

-- ---- lists

-- A text whose front is read as the elements of a set.
record RereadsExprs (total : ℕ) (names : List Text) (z : Text) (es : List Expr) (ys : Lexemes) : Type 0 where
  xs : Lexemes
  trees : List Expr
  written : Written total names z xs
  reads : ReadsExprs xs trees ys
  same : map bare trees ≡ map bare es

record AgainExprs (total : ℕ) (names : List Text) (es : List Expr) : Type 0 where
  by : (rest : Text) (ys : Lexemes) → IsClear rest → Written total names rest ys
      → RereadsExprs total names (elements_text [] (map (printed (name_labels names)) es) ++ rest) es ys

-- A text whose front is read as a branch, or as branches.
record RereadsBranch (total : ℕ) (names : List Text) (z : Text) (b : Branch) (ys : Lexemes) : Type 0 where
  xs : Lexemes
  tree : Branch
  written : Written total names z xs
  reads : ReadsBranch xs tree ys
  same : bare_branch tree ≡ bare_branch b

record AgainBranch (total : ℕ) (names : List Text) (b : Branch) : Type 0 where
  by : (rest : Text) (ys : Lexemes) → Written total names rest ys → RereadsBranch total names (branch_text (branch_printed (name_labels names) b) ++ rest) b ys

record RereadsBranches (total : ℕ) (names : List Text) (z : Text) (bs : List Branch) (ys : Lexemes) : Type 0 where
  xs : Lexemes
  trees : List Branch
  written : Written total names z xs
  reads : ReadsBranches xs trees ys
  same : map bare_branch trees ≡ map bare_branch bs

record AgainBranches (total : ℕ) (names : List Text) (bs : List Branch) : Type 0 where
  by : (rest : Text) (ys : Lexemes) → Written total names rest ys
      → RereadsBranches total names (branches_text (map (branch_printed (name_labels names)) bs) ++ rest) bs ys

module _ (total : ℕ) (names : List Text) where
  abbrev shown : Expr → Printed
  shown = printed (name_labels names)

  shown_two : (op : Op2) (a b : Expr) (xs ys : Lexemes) → shown (at (n.Two op a b) xs ys) ≡ infix_printed op (shown a) (shown b)
  shown_two op a b xs ys = fold_two Printed (Printed × Printed) Printed (of_node (name_labels names)) of_branch of_expr op a b (span xs ys)

  shown_one : (op : Op1) (a : Expr) (xs ys : Lexemes) → shown (at (n.One op a) xs ys) ≡ prefix_printed op (shown a)
  shown_one op a xs ys = fold_one Printed (Printed × Printed) Printed (of_node (name_labels names)) of_branch of_expr op a (span xs ys)

  -- ---- operators between two operands

  infix_text : (op : Op2) → IsInfix op → (a b : Printed) (rest : Text)
      → placed (left_asks op) a ++ (between op ++ (placed (right_asks op) b ++ rest)) ≡ (infix_printed op a b).bytes ++ rest
  infix_text op i a b rest = rw (i.no_before, i.no_behind) (simp (append_assoc, append-nil))

  infix_again : (op : Op2) → IsInfix op → (a b : Expr) → Again total names a → Again total names b → (zs us : Lexemes)
      → Inner total names (level_of op) (infix_printed op (shown a) (shown b)).bytes (at (n.Two op a b) zs us)
  infix_again op i a b again_a again_b zs us = record {
    by = λ rest ys c h.
        let q = again_b.at_level (right_asks op) i.right_high rest ys c h in
        let z : Text = placed (right_asks op) (shown b) ++ rest in
        let t : Lexeme = lexeme_before total names i.kind i.spelled (32 ∷ z) in
        let marked : Written total names (32 ∷ (i.spelled ++ 32 ∷ z)) (t ∷ q.xs) = blank (word i.kind i.spelled (32 ∷ z) i.some (i.cut z) (blank q.written)) in
        let is : 32 ∷ (i.spelled ++ 32 ∷ z) ≡ between op ++ z = ap (λ (x : Text). 32 ∷ x) (sym (append_assoc i.spelled (32 ∷ []) z)) ∙ ap (λ (x : Text). x ++ z) (sym i.spaced) in
        let p = again_a.at_level (left_asks op) i.left_high (between op ++ z) (t ∷ q.xs) (subst IsClear is (clear_blank (i.spelled ++ 32 ∷ z))) (subst (λ (x : Text). Written total names x (t ∷ q.xs)) is marked) in
        moved total names (level_of op) (placed (left_asks op) (shown a) ++ (between op ++ z)) ((infix_printed op (shown a) (shown b)).bytes ++ rest) (at (n.Two op a b) zs us) ys
        (infix_text op i (shown a) (shown b) rest)
        (record {
          xs = p.xs;
          tree = at (n.Two op p.tree q.tree) p.xs ys;
          written = p.written;
          reads = i.join t p.xs q.xs ys p.tree q.tree refl p.reads q.reads;
          same = same_two op p.tree q.tree a b p.xs ys zs us p.same q.same;
          opens = p.opens;
        });
  }

  until_text : (op : Op2) (u : IsUntil op) (a b : Printed) (rest : Text)
      → u.letter ∷ 91 ∷ (placed 1 a ++ (32 ∷ 85 ∷ 32 ∷ (placed 1 b ++ 93 ∷ rest))) ≡ (infix_printed op a b).bytes ++ rest
  until_text op u a b rest =
      let start : u.letter ∷ 91 ∷ [] ≡ before_left op = sym u.start in
      let left_one : 1 ≡ left_asks op = sym u.left_one in
      let middle : 32 ∷ 85 ∷ 32 ∷ [] ≡ between op = sym u.middle in
      let right_one : 1 ≡ right_asks op = sym u.right_one in
      let end : 93 ∷ [] ≡ behind_right op = sym u.end in
      until_grouped u.letter (placed 1 a) (placed 1 b) rest
      ∙ (λ i. ((start i ++ placed (left_one i) a ++ middle i) ++ (placed (right_one i) b ++ end i)) ++ rest)

  until_again : (op : Op2) → IsUntil op → (a b : Expr) → Again total names a → Again total names b → (zs us : Lexemes)
      → InnerUnsigned total names (infix_printed op (shown a) (shown b)).bytes (at (n.Two op a b) zs us)
  unfolding front front_mark spelled_word
  until_again op u a b again_a again_b zs us = record {
    by = λ rest ys c h.
        let close : Lexeme = lexeme_before total names (token.Mark 5) (codes "]") rest in
        let closed : Written total names (93 ∷ rest) (close ∷ ys) = word (token.Mark 5) (codes "]") rest (omega arith) refl h in
        let q = again_b.at_level 1 (omega arith) (93 ∷ rest) (close ∷ ys) (clear_close_bracket rest) closed in
        let z : Text = placed 1 (shown b) ++ 93 ∷ rest in
        let mid : Lexeme = lexeme_before total names (token.Word 30) (codes "U") (32 ∷ z) in
        let middle : Written total names (32 ∷ 85 ∷ 32 ∷ z) (mid ∷ q.xs) = blank (word (token.Word 30) (codes "U") (32 ∷ z) (omega arith) refl (blank q.written)) in
        let p = again_a.at_level 1 (omega arith) (32 ∷ 85 ∷ 32 ∷ z) (mid ∷ q.xs) (clear_blank (85 ∷ 32 ∷ z)) middle in
        let y : Text = placed 1 (shown a) ++ (32 ∷ 85 ∷ 32 ∷ z) in
        let open_ : Lexeme = lexeme_before total names (token.Mark 4) (codes "[") y in
        let opened : Written total names (91 ∷ y) (open_ ∷ p.xs) = word (token.Mark 4) (codes "[") y (omega arith) refl p.written in
        let t : Lexeme = lexeme_before total names u.kind (u.letter ∷ []) (91 ∷ y) in
        let begun : Written total names (u.letter ∷ 91 ∷ y) (t ∷ open_ ∷ p.xs) = word u.kind (u.letter ∷ []) (91 ∷ y) (omega arith) (u.cut y) opened in
        let found : RereadsUnsigned total names (u.letter ∷ 91 ∷ y) (at (n.Two op a b) zs us) ys = record {
          whole = record {
            xs = t ∷ open_ ∷ p.xs;
            tree = at (n.Two op p.tree q.tree) (t ∷ open_ ∷ p.xs) ys;
            written = begun;
            reads = r.until u.is_until refl refl refl p.reads q.reads;
            same = same_two op p.tree q.tree a b (t ∷ open_ ∷ p.xs) ys zs us p.same q.same;
            opens = u.opens;
          };
          no_dash = u.no_dash;
          no_number = u.no_number;
        } in
        subst (λ (x : Text). RereadsUnsigned total names x (at (n.Two op a b) zs us) ys) (until_text op u (shown a) (shown b) rest) found;
  }

  again_two : (op : Op2) {a b : Expr} → Again total names a → Again total names b → (zs us : Lexemes) → Again total names (at (n.Two op a b) zs us)
  again_two op {a} {b} again_a again_b zs us = elim (shape op) [
    | inl i ↦ again_loose total names (level_of op) i.low i.high (infix_printed op (shown a) (shown b)).bytes (at (n.Two op a b) zs us) (shown_two op a b zs us) (infix_again op i a b again_a again_b zs us)
    | inr u ↦
        again_primary total names (infix_printed op (shown a) (shown b)).bytes (at (n.Two op a b) zs us)
        (shown_two op a b zs us ∙ ap (λ l. record { level = l; is_signed = false; bytes = (infix_printed op (shown a) (shown b)).bytes }) u.level)
        (until_again op u a b again_a again_b zs us)
  ]

  -- ---- operators before one operand

  prefix_again : (op : Op1) → IsPrefix op → (e : Expr) → Again total names e → (zs us : Lexemes) → Again total names (at (n.One op e) zs us)
  prefix_again op i e again_e zs us =
      again_loose total names 5 (omega arith) (omega arith) (before op ++ placed 5 (shown e)) (at (n.One op e) zs us) (shown_one op e zs us ∙ i.is_printed (shown e)) (record {
        by = λ rest ys c h.
            let q = again_e.at_level 5 (omega arith) rest ys c h in
            let marked = i.mark total names (placed 5 (shown e) ++ rest) q.xs q.opens q.written in
            moved total names 5 (before op ++ (placed 5 (shown e) ++ rest)) ((before op ++ placed 5 (shown e)) ++ rest) (at (n.One op e) zs us) ys
            (sym (append_assoc (before op) (placed 5 (shown e)) rest))
            (record {
              xs = marked.t ∷ q.xs;
              tree = at (n.One op q.tree) (marked.t ∷ q.xs) ys;
              written = marked.written;
              reads = r.prefixed marked.is_prefix q.reads;
              same = same_one op q.tree e (marked.t ∷ q.xs) ys zs us q.same;
              opens = marked.opens;
            });
      })

  again_negated : (e : Expr) → Again total names e → (zs us : Lexemes) → Again total names (at (n.One op1.Neg e) zs us)
  again_negated e again_e zs us =
      again_signed total names (45 ∷ negated (shown e)) (at (n.One op1.Neg e) zs us) (shown_one op1.Neg e zs us) (record {
        by = λ rest ys c h.
            let q = again_e.behind_minus rest ys c h in
            let z : Text = negated (shown e) ++ rest in
            let t : Lexeme = lexeme_before total names (token.Mark 19) (codes "-") z in
            record {
              xs = t ∷ q.whole.xs;
              tree = at (n.One op1.Neg q.whole.tree) (t ∷ q.whole.xs) ys;
              written = word (token.Mark 19) (codes "-") z (omega arith) (front-minus z q.whole.opens q.no_dash) q.whole.written;
              reads = r.negated refl q.no_number q.whole.reads;
              same = same_one op1.Neg q.whole.tree e (t ∷ q.whole.xs) ys zs us q.whole.same;
              opens = record { no_equal = refl; no_above = refl };
            };
      })

  next_text : (a : Text) (rest : Text) → 110 ∷ 101 ∷ 120 ∷ 116 ∷ 40 ∷ (a ++ 41 ∷ rest) ≡ (codes "next(" ++ a ++ codes ")") ++ rest
  next_text a rest = ap (λ (x : Text). 110 ∷ 101 ∷ 120 ∷ 116 ∷ 40 ∷ x) (sym (append_assoc a (41 ∷ []) rest))

  again_next : (e : Expr) → Again total names e → (zs us : Lexemes) → Again total names (at (n.One op1.Next e) zs us)
  unfolding front front_mark spelled_word
  again_next e again_e zs us =
      again_primary total names (codes "next(" ++ placed 1 (shown e) ++ codes ")") (at (n.One op1.Next e) zs us) (shown_one op1.Next e zs us) (record {
        by = λ rest ys c h.
            let close : Lexeme = lexeme_before total names (token.Mark 1) (codes ")") rest in
            let closed : Written total names (41 ∷ rest) (close ∷ ys) = word (token.Mark 1) (codes ")") rest (omega arith) refl h in
            let q = again_e.at_level 1 (omega arith) (41 ∷ rest) (close ∷ ys) (clear_close_paren rest) closed in
            let z : Text = placed 1 (shown e) ++ 41 ∷ rest in
            let open_ : Lexeme = lexeme_before total names (token.Mark 0) (codes "(") z in
            let opened : Written total names (40 ∷ z) (open_ ∷ q.xs) = word (token.Mark 0) (codes "(") z (omega arith) refl q.written in
            let t : Lexeme = lexeme_before total names (token.Word 13) (codes "next") (40 ∷ z) in
            let begun : Written total names (codes "next" ++ 40 ∷ z) (t ∷ open_ ∷ q.xs) = word (token.Word 13) (codes "next") (40 ∷ z) (omega arith) refl opened in
            let found : RereadsUnsigned total names (codes "next" ++ 40 ∷ z) (at (n.One op1.Next e) zs us) ys = record {
              whole = record {
                xs = t ∷ open_ ∷ q.xs;
                tree = at (n.One op1.Next q.tree) (t ∷ open_ ∷ q.xs) ys;
                written = begun;
                reads = r.next_value refl refl refl q.reads;
                same = same_one op1.Next q.tree e (t ∷ open_ ∷ q.xs) ys zs us q.same;
                opens = record { no_equal = refl; no_above = refl };
              };
              no_dash = refl;
              no_number = λ g. absurd cc;
            } in
            subst (λ (x : Text). RereadsUnsigned total names x (at (n.One op1.Next e) zs us) ys) (next_text (placed 1 (shown e)) rest) found;
      })

  again_one : (op : Op1) {e : Expr} → Again total names e → (zs us : Lexemes) → Again total names (at (n.One op e) zs us)
  again_one op1.Not {e} again_e zs us = prefix_again op1.Not prefix_not e again_e zs us
  again_one op1.Neg {e} again_e zs us = again_negated e again_e zs us
  again_one op1.Next {e} again_e zs us = again_next e again_e zs us
  again_one op1.Ex {e} again_e zs us = prefix_again op1.Ex prefix_ex e again_e zs us
  again_one op1.Ef {e} again_e zs us = prefix_again op1.Ef prefix_ef e again_e zs us
  again_one op1.Eg {e} again_e zs us = prefix_again op1.Eg prefix_eg e again_e zs us
  again_one op1.Ax {e} again_e zs us = prefix_again op1.Ax prefix_ax e again_e zs us
  again_one op1.Af {e} again_e zs us = prefix_again op1.Af prefix_af e again_e zs us
  again_one op1.Ag {e} again_e zs us = prefix_again op1.Ag prefix_ag e again_e zs us

  -- ---- leaves

  shown_lit : (v : Value) (xs ys : Lexemes) → shown (at (n.Lit v) xs ys) ≡ value_printed names v
  shown_lit v xs ys = fold_lit Printed (Printed × Printed) Printed (of_node (name_labels names)) of_branch of_expr v (span xs ys)

  again_truth : (b : Bool) (zs us : Lexemes) → Again total names (at (n.Lit (value.Bool b)) zs us)
  unfolding spelled_word
  again_truth true zs us = again_primary total names (codes "TRUE") (at (n.Lit (value.Bool true)) zs us) (shown_lit (value.Bool true) zs us) (record {
    by = λ rest ys c h.
        let t : Lexeme = lexeme_before total names (token.Word 20) (codes "TRUE") rest in
        record {
          whole = record {
            xs = t ∷ ys;
            tree = at (n.Lit (value.Bool true)) (t ∷ ys) ys;
            written = word (token.Word 20) (codes "TRUE") rest (omega arith) (front-name (codes "TRUE") rest (Some w.True) refl refl refl c) h;
            reads = r.literal refl;
            same = bare_leaf (value.Bool true) (t ∷ ys) ys ∙ sym (bare_leaf (value.Bool true) zs us);
            opens = record { no_equal = refl; no_above = refl };
          };
          no_dash = refl;
          no_number = λ g. absurd cc;
        };
  })
  again_truth false zs us = again_primary total names (codes "FALSE") (at (n.Lit (value.Bool false)) zs us) (shown_lit (value.Bool false) zs us) (record {
    by = λ rest ys c h.
        let t : Lexeme = lexeme_before total names (token.Word 21) (codes "FALSE") rest in
        record {
          whole = record {
            xs = t ∷ ys;
            tree = at (n.Lit (value.Bool false)) (t ∷ ys) ys;
            written = word (token.Word 21) (codes "FALSE") rest (omega arith) (front-name (codes "FALSE") rest (Some w.False) refl refl refl c) h;
            reads = r.literal refl;
            same = bare_leaf (value.Bool false) (t ∷ ys) ys ∙ sym (bare_leaf (value.Bool false) zs us);
            opens = record { no_equal = refl; no_above = refl };
          };
          no_dash = refl;
          no_number = λ g. absurd cc;
        };
  })

  again_integer : (i : ℤ) → IsShort i → (zs us : Lexemes) → Again total names (at (n.Lit (value.Int i)) zs us)
  again_integer i s zs us = again_signed total names (signed_decimal i) (at (n.Lit (value.Int i)) zs us) (shown_lit (value.Int i) zs us) (record {
    by = λ rest ys c h.
        let q = again_int total names i s rest ys c h in
        record {
          xs = q.xs;
          tree = at (n.Lit (value.Int i)) q.xs ys;
          written = q.written;
          reads = r.integer q.reads;
          same = bare_leaf (value.Int i) q.xs ys ∙ sym (bare_leaf (value.Int i) zs us);
          opens = q.opens;
        };
  })

  again_range : (i j : ℤ) → IsShort i → IsShort j → (zs us : Lexemes) → Again total names (at (n.Range i j) zs us)
  unfolding front front_mark
  again_range i j s t zs us =
      let shown_range : shown (at (n.Range i j) zs us) ≡ record { level = 12; is_signed = true; bytes = range_text i j } =
      fold_range Printed (Printed × Printed) Printed (of_node (name_labels names)) of_branch of_expr i j (span zs us) in
      again_signed total names (range_text i j) (at (n.Range i j) zs us) shown_range (record {
        by = λ rest ys c h.
            let q = again_int total names j t rest ys c h in
            let z : Text = signed_decimal j ++ rest in
            let dots : Lexeme = lexeme_before total names (token.Mark 10) (codes "..") z in
            let marked : Written total names (46 ∷ 46 ∷ z) (dots ∷ q.xs) = word (token.Mark 10) (codes "..") z (omega arith) refl q.written in
            let p = again_int total names i s (46 ∷ 46 ∷ z) (dots ∷ q.xs) (clear_dot (46 ∷ z)) marked in
            moved total names 12 (signed_decimal i ++ (46 ∷ 46 ∷ z)) (range_text i j ++ rest) (at (n.Range i j) zs us) ys (range_grouped (signed_decimal i) (signed_decimal j) rest)
            (record {
              xs = p.xs;
              tree = at (n.Range i j) p.xs ys;
              written = p.written;
              reads = r.range refl p.reads q.reads;
              same = bare_range i j p.xs ys ∙ sym (bare_range i j zs us);
              opens = p.opens;
            });
      })

  again_names : {ps qs : Lexemes} (path : List ℕ) → IsDistinctTexts names → ReadsPath ps path qs → list_all (is_named names) path ≡ true
      → (zs us : Lexemes) → Again total names (at (n.Path path) zs us)
  again_names path distinct given named zs us =
      let shown_path : shown (at (n.Path path) zs us) ≡ record { level = 12; is_signed = false; bytes = path_text names [] path } =
      fold_path Printed (Printed × Printed) Printed (of_node (name_labels names)) of_branch of_expr path (span zs us) in
      again_primary total names (path_text names [] path) (at (n.Path path) zs us) shown_path (record {
        by = λ rest ys c h.
            let q = again_path total names distinct given named rest ys c h in
            let first : ℕ = slice_index (path_text names [] path ++ rest) 0 in
            record {
              whole = record {
                xs = q.xs;
                tree = at (n.Path path) q.xs ys;
                written = q.written;
                reads = r.path q.reads;
                same = bare_path path q.xs ys ∙ sym (bare_path path zs us);
                opens = Opens-name first q.begins;
              };
              no_dash = (name_begins first q.begins).1;
              no_number = λ g. absurd (cc (q.is_name, g));
            };
      })

  -- ---- sets

  again_last : (e : Expr) → Again total names e → AgainExprs total names (e ∷ [])
  again_last e again_e = record {
    by = λ rest ys c h.
        let q = again_e.at_level 1 (omega arith) rest ys c h in
        subst (λ (z : Text). RereadsExprs total names (z ++ rest) (e ∷ []) ys) (sym (append-nil (placed 1 (shown e))))
        (record { xs = q.xs; trees = q.tree ∷ []; written = q.written; reads = ReadsExprs.last_expr q.reads; same = ap (λ (f : Expr). f ∷ []) q.same });
  }

  again_more : (e : Expr) (es : List Expr) → elements_text (codes ", ") (map shown es) ≡ 44 ∷ 32 ∷ elements_text [] (map shown es)
      → Again total names e → AgainExprs total names es → AgainExprs total names (e ∷ es)
  unfolding front front_mark
  again_more e es parted again_e again_es = record {
    by = λ rest ys c h.
        let q = again_es.by rest ys c h in
        let z : Text = elements_text [] (map shown es) ++ rest in
        let comma : Lexeme = lexeme_before total names (token.Mark 6) (codes ",") (32 ∷ z) in
        let marked : Written total names (44 ∷ 32 ∷ z) (comma ∷ q.xs) = word (token.Mark 6) (codes ",") (32 ∷ z) (omega arith) refl (blank q.written) in
        let p = again_e.at_level 1 (omega arith) (44 ∷ 32 ∷ z) (comma ∷ q.xs) (clear_comma (32 ∷ z)) marked in
        let is : placed 1 (shown e) ++ (44 ∷ 32 ∷ z) ≡ elements_text [] (map shown (e ∷ es)) ++ rest =
        sym (append_assoc (placed 1 (shown e)) (44 ∷ 32 ∷ elements_text [] (map shown es)) rest) ∙ ap (λ (y : Text). (placed 1 (shown e) ++ y) ++ rest) (sym parted) in
        subst (λ (y : Text). RereadsExprs total names y (e ∷ es) ys) is
        (record { xs = p.xs; trees = p.tree ∷ q.trees; written = p.written; reads = ReadsExprs.more_exprs refl p.reads q.reads; same = λ i. p.same i ∷ q.same i });
  }

  parted : {xs ys : Lexemes} {es : List Expr} → ReadsExprs xs es ys → elements_text (codes ", ") (map shown es) ≡ 44 ∷ 32 ∷ elements_text [] (map shown es)
  parted (last_expr p) = refl
  parted (more_exprs e p q) = refl

  again_set : (es : List Expr) → AgainExprs total names es → (zs us : Lexemes) → Again total names (at (n.Set es) zs us)
  unfolding front front_mark
  again_set es again_es zs us =
      let shown_set : shown (at (n.Set es) zs us) ≡ record { level = 12; is_signed = false; bytes = set_text (map shown es) } =
      fold_set Printed (Printed × Printed) Printed (of_node (name_labels names)) of_branch of_expr es (span zs us) in
      again_primary total names (set_text (map shown es)) (at (n.Set es) zs us) shown_set (record {
        by = λ rest ys c h.
            let close : Lexeme = lexeme_before total names (token.Mark 3) (codes "}") rest in
            let closed : Written total names (125 ∷ rest) (close ∷ ys) = word (token.Mark 3) (codes "}") rest (omega arith) refl h in
            let q = again_es.by (125 ∷ rest) (close ∷ ys) (clear_close_brace rest) closed in
            let z : Text = elements_text [] (map shown es) ++ 125 ∷ rest in
            let t : Lexeme = lexeme_before total names (token.Mark 2) (codes "{") z in
            let opened : Written total names (123 ∷ z) (t ∷ q.xs) = word (token.Mark 2) (codes "{") z (omega arith) refl q.written in
            subst (λ (y : Text). RereadsUnsigned total names y (at (n.Set es) zs us) ys) (ap (λ (y : Text). 123 ∷ y) (sym (append_assoc (elements_text [] (map shown es)) (125 ∷ []) rest)))
            (record {
              whole = record {
                xs = t ∷ q.xs;
                tree = at (n.Set q.trees) (t ∷ q.xs) ys;
                written = opened;
                reads = r.set refl refl q.reads;
                same = bare_set q.trees (t ∷ q.xs) ys ∙ ap (λ (fs : List Expr). put (n.Set fs)) q.same ∙ sym (bare_set es zs us);
                opens = record { no_equal = refl; no_above = refl };
              };
              no_dash = refl;
              no_number = λ g. absurd cc;
            });
      })

  -- ---- cases

  abbrev pair_shown : Branch → Printed × Printed
  pair_shown = branch_printed (name_labels names)

  again_branch : (g e : Expr) → Again total names g → Again total names e → AgainBranch total names (roll-Branch (record { guard = g; body = e }))
  unfolding front front_mark
  again_branch g e again_g again_e = record {
    by = λ rest ys h.
        let semicolon : Lexeme = lexeme_before total names (token.Mark 7) (codes ";") (32 ∷ rest) in
        let ended : Written total names (59 ∷ 32 ∷ rest) (semicolon ∷ ys) = word (token.Mark 7) (codes ";") (32 ∷ rest) (omega arith) refl (blank h) in
        let q = again_e.at_level 1 (omega arith) (59 ∷ 32 ∷ rest) (semicolon ∷ ys) (clear_semicolon (32 ∷ rest)) ended in
        let z : Text = placed 1 (shown e) ++ 59 ∷ 32 ∷ rest in
        let colon : Lexeme = lexeme_before total names (token.Mark 8) (codes ":") (32 ∷ z) in
        let middle : Written total names (32 ∷ 58 ∷ 32 ∷ z) (colon ∷ q.xs) = blank (word (token.Mark 8) (codes ":") (32 ∷ z) (omega arith) refl (blank q.written)) in
        let p = again_g.at_level 1 (omega arith) (32 ∷ 58 ∷ 32 ∷ z) (colon ∷ q.xs) (clear_blank (58 ∷ 32 ∷ z)) middle in
        let pair : (shown g, shown e) ≡ pair_shown (roll-Branch (record { guard = g; body = e })) =
        sym (fold_branch Printed (Printed × Printed) Printed (of_node (name_labels names)) of_branch of_expr g e) in
        let is : placed 1 (shown g) ++ (32 ∷ 58 ∷ 32 ∷ z) ≡ branch_text (pair_shown (roll-Branch (record { guard = g; body = e }))) ++ rest =
        branch_grouped (placed 1 (shown g)) (placed 1 (shown e)) rest ∙ ap (λ (b : Printed × Printed). branch_text b ++ rest) pair in
        subst (λ (y : Text). RereadsBranch total names y (roll-Branch (record { guard = g; body = e })) ys) is
        (record {
          xs = p.xs;
          tree = roll-Branch (record { guard = p.tree; body = q.tree });
          written = p.written;
          reads = ReadsBranch.branch refl refl p.reads q.reads;
          same = bare_pair p.tree q.tree ∙ (λ i. roll-Branch (record { guard = p.same i; body = q.same i })) ∙ sym (bare_pair g e);
        });
  }

  again_last_branch : (b : Branch) → AgainBranch total names b → AgainBranches total names (b ∷ [])
  again_last_branch b again_b = record {
    by = λ rest ys h.
        let q = again_b.by rest ys h in
        subst (λ (z : Text). RereadsBranches total names (z ++ rest) (b ∷ []) ys) (sym (append-nil (branch_text (pair_shown b))))
        (record { xs = q.xs; trees = q.tree ∷ []; written = q.written; reads = ReadsBranches.last_branch q.reads; same = ap (λ (f : Branch). f ∷ []) q.same });
  }

  again_more_branches : (b : Branch) (bs : List Branch) → AgainBranch total names b → AgainBranches total names bs → AgainBranches total names (b ∷ bs)
  again_more_branches b bs again_b again_bs = record {
    by = λ rest ys h.
        let q = again_bs.by rest ys h in
        let p = again_b.by (branches_text (map pair_shown bs) ++ rest) q.xs q.written in
        subst (λ (z : Text). RereadsBranches total names z (b ∷ bs) ys) (sym (append_assoc (branch_text (pair_shown b)) (branches_text (map pair_shown bs)) rest))
        (record { xs = p.xs; trees = p.tree ∷ q.trees; written = p.written; reads = ReadsBranches.more_branches p.reads q.reads; same = λ i. p.same i ∷ q.same i });
  }

  again_case : (bs : List Branch) → AgainBranches total names bs → (zs us : Lexemes) → Again total names (at (n.Case bs) zs us)
  unfolding front spelled_word
  again_case bs again_bs zs us =
      let shown_case : shown (at (n.Case bs) zs us) ≡ record { level = 12; is_signed = false; bytes = case_text (map pair_shown bs) } =
      fold_case Printed (Printed × Printed) Printed (of_node (name_labels names)) of_branch of_expr bs (span zs us) in
      again_primary total names (case_text (map pair_shown bs)) (at (n.Case bs) zs us) shown_case (record {
        by = λ rest ys c h.
            let close : Lexeme = lexeme_before total names (token.Word 15) (codes "esac") rest in
            let closed : Written total names (codes "esac" ++ rest) (close ∷ ys) = word (token.Word 15) (codes "esac") rest (omega arith) (front-name (codes "esac") rest (Some w.Esac) refl refl refl c) h in
            let q = again_bs.by (codes "esac" ++ rest) (close ∷ ys) closed in
            let z : Text = branches_text (map pair_shown bs) ++ (codes "esac" ++ rest) in
            let t : Lexeme = lexeme_before total names (token.Word 14) (codes "case") (32 ∷ z) in
            let opened : Written total names (codes "case " ++ z) (t ∷ q.xs) = word (token.Word 14) (codes "case") (32 ∷ z) (omega arith) refl (blank q.written) in
            subst (λ (y : Text). RereadsUnsigned total names y (at (n.Case bs) zs us) ys)
            (ap (λ (y : Text). codes "case " ++ y) (sym (append_assoc (branches_text (map pair_shown bs)) (codes "esac") rest)))
            (record {
              whole = record {
                xs = t ∷ q.xs;
                tree = at (n.Case q.trees) (t ∷ q.xs) ys;
                written = opened;
                reads = r.choice refl refl q.reads;
                same = bare_case q.trees (t ∷ q.xs) ys ∙ ap (λ (fs : List Branch). put (n.Case fs)) q.same ∙ sym (bare_case bs zs us);
                opens = record { no_equal = refl; no_above = refl };
              };
              no_dash = refl;
              no_number = λ g. absurd cc;
            });
      })

  -- ---- names

  named_two : (op : Op2) (a b : Expr) (xs ys : Lexemes) → all_named names (at (n.Two op a b) xs ys) ≡ true → (all_named names a ≡ true) × (all_named names b ≡ true)
  named_two op a b xs ys e =
      and_parts (all_named names a) (all_named names b) (sym (fold_two Bool Bool Bool (node_named names) (λ b. b.guard && b.body) (λ e. e.node) op a b (span xs ys)) ∙ e)

  named_one : (op : Op1) (a : Expr) (xs ys : Lexemes) → all_named names (at (n.One op a) xs ys) ≡ true → all_named names a ≡ true
  named_one op a xs ys e = sym (fold_one Bool Bool Bool (node_named names) (λ b. b.guard && b.body) (λ e. e.node) op a (span xs ys)) ∙ e

  named_path : (path : List ℕ) (xs ys : Lexemes) → all_named names (at (n.Path path) xs ys) ≡ true → list_all (is_named names) path ≡ true
  named_path path xs ys e = sym (fold_path Bool Bool Bool (node_named names) (λ b. b.guard && b.body) (λ e. e.node) path (span xs ys)) ∙ e

  named_set : (es : List Expr) (xs ys : Lexemes) → all_named names (at (n.Set es) xs ys) ≡ true → list_all (λ b. b) (map (all_named names) es) ≡ true
  named_set es xs ys e = sym (fold_set Bool Bool Bool (node_named names) (λ b. b.guard && b.body) (λ e. e.node) es (span xs ys)) ∙ e

  abbrev branch_named : Branch → Bool
  branch_named = fold-Branch Bool Bool Bool (node_named names) (λ b. b.guard && b.body) (λ e. e.node)

  named_case : (bs : List Branch) (xs ys : Lexemes) → all_named names (at (n.Case bs) xs ys) ≡ true → list_all (λ b. b) (map branch_named bs) ≡ true
  named_case bs xs ys e = sym (fold_case Bool Bool Bool (node_named names) (λ b. b.guard && b.body) (λ e. e.node) bs (span xs ys)) ∙ e

  named_pair : (g e : Expr) → branch_named (roll-Branch (record { guard = g; body = e })) ≡ true → (all_named names g ≡ true) × (all_named names e ≡ true)
  named_pair g e h =
      and_parts (all_named names g) (all_named names e) (sym (fold_branch Bool Bool Bool (node_named names) (λ b. b.guard && b.body) (λ e. e.node) g e) ∙ h)

  -- ---- the induction, over the reading that the tree has

  module _ (distinct : IsDistinctTexts names) where
    mutual
      pub again : {l : ℕ} {xs ys : Lexemes} {e : Expr} → Reads l xs e ys → all_named names e ≡ true → Again total names e
      again (r.tighter lt p) h = again p h
      again (r.implies {xs = xs} {zs = zs} {a = a} {b = b} e p q) h = let g = named_two op2.Implies a b xs zs h in again_two op2.Implies (again p g.0) (again q g.1) xs zs
      again (r.binary {op = op} {xs = xs} {zs = zs} {a = a} {b = b} e p q) h = let g = named_two op a b xs zs h in again_two op (again p g.0) (again q g.1) xs zs
      again (r.prefixed {op = op} {xs = xs} {ys = ys} {t = t} {e = a} e p) h = again_one op (again p (named_one op a (t ∷ xs) ys h)) (t ∷ xs) ys
      again (r.compared {op = op} {pre = pre} {xs = xs} {ys = ys} {zs = zs} {u = u} {a = a} {b = b} e f p q) h =
          let g = named_two op a (at (n.One pre b) (u ∷ ys) zs) xs zs h in
          again_two op (again p g.0) (again_one pre (again q (named_one pre b (u ∷ ys) zs g.1)) (u ∷ ys) zs) xs zs
      again (r.integer {i = i} {xs = xs} {ys = ys} p) h = again_integer i (short p) xs ys
      again (r.range {i = i} {j = j} {xs = xs} {zs = zs} e p q) h = again_range i j (short p) (short q) xs zs
      again (r.negated {xs = xs} {ys = ys} {t = t} {e = a} e f p) h = again_one op1.Neg (again p (named_one op1.Neg a (t ∷ xs) ys h)) (t ∷ xs) ys
      again (r.literal {b = b} {xs = xs} {t = t} e) h = again_truth b (t ∷ xs) xs
      again (r.path {names = path} {xs = xs} {ys = ys} p) h = again_names path distinct p (named_path path xs ys h) xs ys
      again (r.grouped e f p) h = again p h
      again (r.set {xs = xs} {ys = ys} {t = t} {es = es} e f p) h = again_set es (again_exprs p (named_set es (t ∷ xs) ys h)) (t ∷ xs) ys
      again (r.choice {xs = xs} {ys = ys} {t = t} {bs = bs} e f p) h = again_case bs (again_branches p (named_case bs (t ∷ xs) ys h)) (t ∷ xs) ys
      again (r.next_value {xs = xs} {ys = ys} {t = t} {o = o} {e = a} e f g p) h = again_one op1.Next (again p (named_one op1.Next a (t ∷ o ∷ xs) ys h)) (t ∷ o ∷ xs) ys
      again (r.until {op = op} {xs = xs} {zs = zs} {t = t} {o = o} {a = a} {b = b} e f g k' p q) h =
          let j = named_two op a b (t ∷ o ∷ xs) zs h in again_two op (again p j.0) (again q j.1) (t ∷ o ∷ xs) zs

      again_exprs : {xs ys : Lexemes} {es : List Expr} → ReadsExprs xs es ys → list_all (λ b. b) (map (all_named names) es) ≡ true → AgainExprs total names es
      again_exprs (last_expr {e = e} p) h = again_last e (again p (and_parts (all_named names e) true h).0)
      again_exprs (more_exprs {e = e} {es = es} d p q) h =
          let g = and_parts (all_named names e) (list_all (λ b. b) (map (all_named names) es)) h in again_more e es (parted q) (again p g.0) (again_exprs q g.1)

      again_branches : {xs ys : Lexemes} {bs : List Branch} → ReadsBranches xs bs ys → list_all (λ b. b) (map branch_named bs) ≡ true → AgainBranches total names bs
      again_branches (last_branch {b = b} p) h = again_last_branch b (again_pair p (and_parts (branch_named b) true h).0)
      again_branches (more_branches {b = b} {bs = bs} p q) h =
          let g = and_parts (branch_named b) (list_all (λ b. b) (map branch_named bs)) h in again_more_branches b bs (again_pair p g.0) (again_branches q g.1)

      again_pair : {xs ys : Lexemes} {b : Branch} → ReadsBranch xs b ys → branch_named b ≡ true → AgainBranch total names b
      again_pair (branch {g = g} {e = e} c s p q) h = let d = named_pair g e h in again_branch g e (again p d.0) (again q d.1)
