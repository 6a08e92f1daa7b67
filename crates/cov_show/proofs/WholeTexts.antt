-- The whole text of a tree is read again as that tree, and as no other.
use Rattle.std.proofs.Common.{◌≡◌, IsTrue, List, [], length, Ok, refl, sym, ap, subst, arith}
use Rattle.std.proofs.lemmas.List.{append-nil}
use Rattle.cov_syntax.specs.declared.tree.Expr.{Expr}
use Rattle.cov_syntax.specs.Lexemes.{Lexemes}
use Rattle.cov_syntax.specs.Reading.{Reads}
use Rattle.cov_syntax.specs.Texts.{IsDistinctTexts}
use Rattle.cov_syntax.specs.Tokens.{Text}
use Rattle.cov_grammar.specs.Expressions.{whole_expr}
use Rattle.cov_grammar.proofs.Completeness.{whole_expr_answers, stops_at}
use Rattle.cov_show.specs.Printing.{tree_text}
use Rattle.cov_show.specs.ReadAgain.{IsTree, IsReadAs, all_named}
use Rattle.cov_show.proofs.WrittenTexts.{Written, ends}
use Rattle.cov_show.proofs.Again.{clear_end}
use Rattle.cov_show.proofs.Rereading.{again}

-- lexemes are those of at most one tree
one_tree : (xs : Lexemes) (a b : Expr) → Reads 1 xs a [] → Reads 1 xs b [] → b ≡ a
one_tree xs a b p q =
    let stops = stops_at [] refl in
    let pa : whole_expr xs ≡ Ok (a, []) = whole_expr_answers p stops in
    let pb : whole_expr xs ≡ Ok (b, []) = whole_expr_answers q stops in
    let b_read : Expr × Lexemes = (b, []) in
    let a_read : Expr × Lexemes = (a, []) in
    let pairs : b_read ≡ a_read = cc in
    ap (λ (x : Expr × Lexemes). x.0) pairs

pub text_again : (names : List Text) (e : Expr) → IsDistinctTexts names → IsTree e → IsTrue (all_named names e) → IsReadAs names (tree_text names e) e
text_again names e distinct tree named =
    let text : Text = tree_text names e in
    let q = (again (length text) names distinct tree.reads named).at_level 1 (omega arith) [] [] clear_end ends in
    let written : Written (length text) names text q.xs = subst (λ (z : Text). Written (length text) names z q.xs) (append-nil text) q.written in
    let meant = written.meant text [] refl refl in
    record {
      tokens = written.tokens;
      cut = written.cut 0 (omega arith);
      tree = q.tree;
      reads = subst (λ (xs : Lexemes). Reads 1 xs q.tree []) (sym meant) q.reads;
      only = λ other p. one_tree q.xs q.tree other q.reads (subst (λ (xs : Lexemes). Reads 1 xs other []) meant p);
      same = q.same;
    }
