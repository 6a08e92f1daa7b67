use Rattle.cov_parse.proofs.MeaningLemmas.{distinct_more, room_more, names_more, lexemes_more}
use Rattle.cov_parse.proofs.meanings.lexemes.Goals as goal

pub loop-token-preserved : goal.loop-token-preserved
loop-token-preserved c = record {
  distinct = distinct_more c.args.text.now c.args.tokens.now c.loop-token.token-index _ c.loop-token-test.true c.loop-token.names c.meaning.new.names c.slice_at.result.now c.loop-token.invariant.names
      c.in_ok-value.ensures.names c.slice_at.ensures c.loop-token.invariant.distinct;
  room = room_more c.args.text.now c.args.tokens.now c.loop-token.token-index _ c.loop-token-test.true c.loop-token.names c.meaning.new.names c.slice_at.result.now c.loop-token.invariant.names
      c.in_ok-value.ensures.names c.slice_at.ensures c.loop-token.invariant.room;
  names = names_more c.args.text.now c.args.tokens.now c.loop-token.token-index _ c.loop-token-test.true c.loop-token.names c.meaning.new.names c.slice_at.result.now c.loop-token.invariant.names
      c.in_ok-value.ensures.names c.slice_at.ensures;
  found = lexemes_more c.args.text.now c.args.tokens.now c.loop-token.token-index _ c.loop-token-test.true c.loop-token.names c.meaning.new.names c.slice_at.result.now c.loop-token.invariant.names
      c.in_ok-value.ensures.names c.slice_at.ensures c.loop-token.found c.push.new.self c.terminal_of.result c.in_ok-value.value c.loop-token.invariant.found c.terminal_of.ensures
      c.in_ok-value.ensures.value c.in_ok-push.ensures.ok;
}
