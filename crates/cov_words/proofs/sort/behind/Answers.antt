use Rattle.std.proofs.lemmas.Bool.Decides.{Decides-eqb}
use Rattle.std.proofs.lemmas.Slice.Eq.{strip_prefix_is}
use Rattle.cov_words.proofs.Fronts.{behind-is}
use Rattle.cov_words.proofs.sort.behind.Goals as goal

pub returns : goal.returns
returns c = behind-is c.args.front.now c.args.word.now _ (strip_prefix_is Decides-eqb c.args.word.now c.args.front.now _ c.strip_prefix.ensures.cases)
