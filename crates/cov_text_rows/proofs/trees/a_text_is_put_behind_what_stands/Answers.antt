-- The lexeme `TRUE` is read as the tree.
use Rattle.std.proofs.Common.{true, [], ◌∷◌, refl, arith}
use Rattle.cov_syntax.specs.declared.lexeme.Lexeme.{Lexeme}
use Rattle.cov_syntax.specs.declared.lexeme.Terminal.TheVariants as k
use Rattle.cov_syntax.specs.declared.words.Word.TheVariants as w
use Rattle.cov_syntax.specs.Lexemes.{span}
use Rattle.cov_syntax.specs.Reading.{Reads as r}
use Rattle.cov_show.proofs.Again.{loosen}
use Rattle.cov_text_rows.proofs.trees.a_text_is_put_behind_what_stands.Goals as goal

pub show_tree-requires-clause-given : goal.show_tree-requires-clause-given
unfolding span
show_tree-requires-clause-given g c =
    let t : Lexeme = record { kind = k.Word w.True; value = 0; place = record { start = 0; stop = 4 } } in
    record { xs = t ∷ []; ys = []; reads = loosen 12 1 (omega arith) (omega arith) (r.literal {b = true} {xs = []} {t = t} refl) }
