use Rattle.cov_parse.proofs.MeaningLemmas.{names_put, place_put}
use Rattle.cov_parse.proofs.meanings.meaning.Goals as goal

pub returns-in-Name-clause-names : goal.returns-in-Name-clause-names
returns-in-Name-clause-names c = rw c.in-Name.is (names_put c.add.result c.args.names.now c.add.new.self c.args.spelled.now c.add.ensures.held c.add.ensures.put)

pub returns-in-Name-clause-value : goal.returns-in-Name-clause-value
returns-in-Name-clause-value c =
    rw c.in-Name.is (place_put c.add.result c.args.names.now c.add.new.self c.args.spelled.now c.requires.distinct c.add.ensures.held c.add.ensures.put c.add.ensures.place)
